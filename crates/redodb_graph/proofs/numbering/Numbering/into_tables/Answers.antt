use Rattle.std.proofs.Common.{◌∙◌, List, ℕ, sym, subst}
use Rattle.std.specs.Prelude.{bytes_eq}
use Rattle.redodb_model.specs.Names.{Text}
use Rattle.redodb_graph.specs.Graphs.{IsOnce}
use Rattle.redodb_graph.proofs.Growing.{once_from_distinct}
use Rattle.redodb_graph.proofs.Bytes.{bytes_itself}
use Rattle.redodb_graph.proofs.numbering.Numbering.into_tables.Goals as goal

pub invariant_of-result : goal.invariant_of-result
invariant_of-result c = record {
  stamp =
      subst (λ (stamps : List Text). IsOnce stamps)
      (sym (c.in_ok-stamps.ensures.items ∙ c.as_slice.ensures.keys))
      (once_from_distinct bytes_eq bytes_itself c.self.inside.stamps.keys
      c.as_slice.ensures.unique);
  digest =
      subst (λ (digests : List (List ℕ)). IsOnce digests)
      (sym (c.in_ok-digests.ensures.items ∙ c.as_slice-2.ensures.keys))
      (once_from_distinct bytes_eq bytes_itself c.self.inside.digests.keys
      c.as_slice-2.ensures.unique);
}
