use Rattle.std.proofs.Common.{◌≡◌, ◌∙◌, ℕ, List, Option, ◌++◌, get_or, ap, sym}
use Rattle.std.specs.List.{filter_map}
use Rattle.std.specs.Option.{option_to_list}
use Rattle.redodb_model.proofs.Listing.{at_take_all}
use Rattle.redodb_database.specs.Tables.{locks_of}
use Rattle.redodb_database.proofs.Holding.{holder_more}
use Rattle.redodb_database.proofs.redo.Redo.holders_of.Goals as goal

pub loop-t-preserved : goal.loop-t-preserved
loop-t-preserved c =
    let h : ℕ → Option ℕ = (locks_of c.args.self.now).holder in
    let names = c.args.names.now in
    let n = get_or names c.loop-t.t-index 0 in
    c.in_ok-push_holder.ensures
    ∙ ap (λ (o : Option ℕ). c.loop-t.sessions.items ++ option_to_list o) c.holder.ensures
    ∙ ap (λ (ts : List ℕ). ts ++ option_to_list (h n)) c.loop-t.invariant
    ∙ sym (holder_more h names c.loop-t.t-index 0 c.loop-t-test.true)

pub returns : goal.returns
returns c =
    at_take_all
    (λ ts. c.loop-t.sessions.items ≡ filter_map (locks_of c.args.self.now).holder ts)
    c.args.names.now c.loop-t.t-index c.loop-t-test.false c.loop-t.invariant
