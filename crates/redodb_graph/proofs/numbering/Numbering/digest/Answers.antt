use Rattle.std.proofs.Common.{List, ℕ, refl, sym, subst}
use Rattle.std.specs.Prelude.{bytes_eq}
use Rattle.redodb_graph.specs.Support.Tables.{IsPrefix}
use Rattle.redodb_graph.proofs.Growing.{on_ok, prefix_same, prefix_insert}
use Rattle.redodb_graph.proofs.numbering.Numbering.digest.Goals as goal

pub returns-clause-grows : goal.returns-clause-grows
returns-clause-grows c =
    let old = c.self.inside.digests.keys in
    let digests : IsPrefix old c.insert_full.new.self.keys =
    subst (λ (ks : List (List ℕ)). IsPrefix old ks) (sym c.in_ok-number.ensures.keys)
    (prefix_insert bytes_eq old c.digest.result) in
    on_ok c.small.result _ (rw (← c.self.view_is) (record {
      pairs = refl;
      listed = prefix_same c.self.inside.listed.items;
      stamps = prefix_same c.self.inside.stamps.keys;
      digests = digests;
    }))
