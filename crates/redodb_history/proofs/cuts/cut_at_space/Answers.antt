use Rattle.std.proofs.Common.{inl, inr, refl, sym}
use Rattle.redodb_history.proofs.TextCuts.{not_placed, cut_at_place}
use Rattle.redodb_history.proofs.cuts.cut_at_space.Goals as goal

pub returns-in-Some : goal.returns-in-Some
returns-in-Some c =
    let cut = cut_at_place c.args.line.now 32 c.in-Some.at (sym c.in-Some.ensures) in
    record { free = cut.1; parts = inl cut.0 }

pub returns-in-None : goal.returns-in-None
returns-in-None c = record {
  free = not_placed c.args.line.now 32 (sym c.in-None.ensures);
  parts = inr (refl, refl);
}
