use Rattle.std.proofs.Common.{◌≡◌, ◌∙◌, List, ℕ, Some, slice_get, refl, sym, ap, subst}
use Rattle.std.specs.Prelude.{bytes_eq}
use Rattle.std.proofs.lemmas.Result.{IfOk-weaker}
use Rattle.std.proofs.lemmas.Slice.Eq.{bytes_eq-Decides}
use Rattle.redodb_graph.specs.Support.Tables.{IsPrefix}
use Rattle.redodb_graph.proofs.Growing.{on_ok, prefix_same, prefix_insert}
use Rattle.redodb_graph.proofs.numbering.Numbering.stamp_number.Goals as goal

pub returns-clause-number : goal.returns-clause-number
returns-clause-number c =
    let stored = c.in_ok-number.ensures.stored in
    let same : c.args.stamp.now ≡ stored.0 =
    (bytes_eq-Decides c.args.stamp.now stored.0).0 stored.2 in
    IfOk-weaker c.small.result (λ small. small ≡ c.in_ok-number.number) _
    (λ small e. ap (slice_get c.insert_full.new.self.keys) e ∙ stored.1 ∙ ap Some (sym same))
    c.small.ensures

pub returns-clause-grows : goal.returns-clause-grows
returns-clause-grows c =
    let old = c.self.inside.stamps.keys in
    let stamps : IsPrefix old c.insert_full.new.self.keys =
    subst (λ (ks : List (List ℕ)). IsPrefix old ks) (sym c.in_ok-number.ensures.keys)
    (prefix_insert bytes_eq old c.args.stamp.now) in
    on_ok c.small.result _ (rw (← c.self.view_is) (record {
      pairs = refl;
      listed = prefix_same c.self.inside.listed.items;
      stamps = stamps;
      digests = prefix_same c.self.inside.digests.keys;
    }))
