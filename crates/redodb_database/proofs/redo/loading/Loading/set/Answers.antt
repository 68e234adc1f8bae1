use Rattle.std.proofs.Common.{◌≡◌, ◌<◌, ◌≤◌, ◌∙◌, Bool, List, is_some, sym, ap, subst, arith}
use Rattle.std.proofs.Math.ListN.{set}
use Rattle.redodb_model.specs.State.{Cell}
use Rattle.redodb_database.specs.Support.Parts.{Parts, AreParts, parts_count, parts_of}
use Rattle.redodb_database.proofs.Made.{parts_set}
use Rattle.redodb_database.proofs.redo.loading.Loading.set.Goals as goal

pub invariant_of-self : goal.invariant_of-self
invariant_of-self c =
    let old : Parts = parts_of c.self.inside in
    let n = c.args.n in
    let most = c.max-self-inside.result in
    let below : n < parts_count old =
    subst (λ (p : Parts). n < parts_count p) (sym c.self.view_is) c.requires.number in
    let noted : c.set_held.new.held ≡ set c.self.inside.held n (is_some c.args.holder) =
    c.set_held.ensures ∙ ap (λ (b : Bool). set c.self.inside.held n b) c.is_some.ensures in
    let more : old.most ≤ most = omega (arith, c.max-self-inside.ensures, c.max.ensures) in
    let builds : c.args.cell.builds ≤ most =
    omega (arith, c.max-self-inside.ensures, c.max.ensures, c.builds.ensures) in
    let granted : c.args.grants ≤ most = omega (arith, c.max-self-inside.ensures) in
    let kept =
    parts_set old c.self.inside.held n c.args.cell c.args.holder c.args.grants most
    c.self.invariant.parts below c.requires.builder more builds granted in
    record {
      parts = subst (λ (cells : List Cell). AreParts (record {
        cells = cells;
        rows = old.rows;
        holders = set old.holders n c.args.holder;
        grants = set old.grants n c.args.grants;
        most = most;
      }) c.set_held.new.held) (sym c.set_cell.ensures)
          (subst (λ (held : List Bool). AreParts (record {
            cells = set old.cells n c.args.cell;
            rows = old.rows;
            holders = set old.holders n c.args.holder;
            grants = set old.grants n c.args.grants;
            most = most;
          }) held) (sym noted) kept);
    }
