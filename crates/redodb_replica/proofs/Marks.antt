-- Marks that stand for the same one.
use Rattle.std.proofs.Common.{◌≡◌, ◌∙◌, ℕ, ◌<◌, List, [], Some, length, refl, sym, ap}
use Rattle.std.proofs.lemmas.Option.{slice_get-get_or}
use Rattle.redodb_model.specs.Names.{Text}
use Rattle.redodb_graph.specs.Graphs.{IsOnce}
use Rattle.redodb_replica.specs.declared.mark.Mark.{Mark}
use Rattle.redodb_replica.specs.declared.mark.Mark.TheVariants.{Absent, Pending, File, Digest, Builds}
use Rattle.redodb_replica.specs.CompactCells.{HasEntry, entry_of, mark_for}

-- equal entries have one number
entry_once : (table : List Text) (i j : ℕ) → IsOnce table → i < length table → j < length table
    → entry_of table i ≡ entry_of table j → i ≡ j
entry_once table i j once i_in j_in same =
    once i j (entry_of table i) (slice_get-get_or table i [] i_in)
    (slice_get-get_or table j [] j_in ∙ ap Some (sym same))

pub mark_once : (stamps digests : List Text) (one other : Mark) → IsOnce stamps → IsOnce digests
    → HasEntry stamps digests one → HasEntry stamps digests other
    → mark_for stamps digests one ≡ mark_for stamps digests other → one ≡ other
mark_once stamps digests Absent Absent s d h k e = refl
mark_once stamps digests Pending Pending s d h k e = refl
mark_once stamps digests (File i) (File j) s d h k e = ap File (entry_once stamps i j s h k cc)
mark_once stamps digests (Digest i) (Digest j) s d h k e =
    ap Digest (entry_once digests i j d h k cc)
mark_once stamps digests (Builds i) (Builds j) s d h k e = ap Builds cc
mark_once stamps digests one other s d h k e = cc
