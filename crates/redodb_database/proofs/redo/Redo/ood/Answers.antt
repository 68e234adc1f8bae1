use Rattle.std.proofs.Common.{◌↔◌, ◌∙◌, ℕ, List, IsTrue, get_or, sym, subst, arith}
use Rattle.std.proofs.lemmas.Grind.{common_steps}
use Rattle.std.specs.List.{Contains}
use Rattle.redodb_model.specs.Names.{Ascending, IsListed, by_number}
use Rattle.redodb_model.specs.OutOfDate.{HasFile, OutOfDate}
use Rattle.redodb_model.proofs.Listing.{at_take_all}
use Rattle.redodb_names.proofs.Listed.{listed_alike, listed_below, listed_next}
use Rattle.redodb_database.specs.Tables.{tables_count, tables_records}
use Rattle.redodb_database.proofs.Unknown.{file_below}
use Rattle.redodb_database.proofs.redo.Redo.ood.Goals as goal

pub has_file-is_due-requires : goal.has_file-is_due-requires
has_file-is_due-requires c = grind (arith, common_steps)

pub loop-n-preserved : goal.loop-n-preserved
loop-n-preserved c =
    let HasOne = HasFile (tables_records c.args.self.now) in
    let out = c.deref-n-items.result.now in
    let due = c.has_file-is_due.result in
    let file = c.has_file-is_due.ensures in
    let is : IsTrue due ↔ HasOne (get_or out c.loop-n.n-index 0) =
    (λ h. sym file ∙ h, λ h. file ∙ h) in
    let up : Ascending by_number out =
    subst (Ascending by_number) (sym c.deref-n-items.ensures.value)
    c.in_ok-out.ensures.listed.0 in
    listed_next by_number HasOne out c.loop-n.n-index 0 c.loop-n-test.true up c.loop-n.names.items
    c.push_if.new.names.items due is c.in_ok-push_if.ensures c.loop-n.invariant

pub returns-clause-listed : goal.returns-clause-listed
returns-clause-listed c =
    let r = tables_records c.args.self.now in
    let names = c.loop-n.names.items in
    let out = c.in_ok-out.ensures.listed.1 in
    let IsListedIn : List ℕ → Type 0 =
    λ ns. IsListed by_number (λ n. Contains ns n × HasFile r n) names in
    let all = at_take_all IsListedIn c.deref-n-items.result.now c.loop-n.n-index
    c.loop-n-test.false c.loop-n.invariant in
    listed_alike by_number names (λ n. Contains c.in_ok-out.out.items n × HasFile r n)
    (λ n. HasFile r n × OutOfDate r n)
    (λ n. (λ p. (p.1, (out n).0 p.0), λ q. ((out n).1 q.1, q.0)))
    (subst IsListedIn c.deref-n-items.ensures.value all)

pub returns-clause-below : goal.returns-clause-below
returns-clause-below c =
    let r = tables_records c.args.self.now in
    listed_below by_number (λ n. HasFile r n × OutOfDate r n) (tables_count c.args.self.now)
    (λ n p. file_below c.args.self.now n p.0) c.loop-n.names.items (returns-clause-listed c)
