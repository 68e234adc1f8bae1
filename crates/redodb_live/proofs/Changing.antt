-- A line changes something over names if it does over their numbers.
use Rattle.std.proofs.Common.{◌≡◌, ℕ, not, List, is_some, refl, ap, ◌∙◌, length}
use Rattle.std.specs.declared.cmp.Ordering.{Ordering}
use Rattle.redodb_model.specs.Names.{text_at}
use Rattle.redodb_names.specs.Support.Names.{AreNames}
use Rattle.redodb_model.specs.State.{Records, Cell}
use Rattle.redodb_model.specs.Command.{Command, File, Gone, Ood, Targets, Sources}
use Rattle.redodb_model.specs.Reply.{Reply, Okay, Granted, Busy, Stale, Stamped, Refused, lets_through}
use Rattle.redodb_model.specs.Reply as replies
use Rattle.redodb_model.specs.Changes.{changes, is_stamp_of}
use Rattle.redodb_model.specs.Renaming.{IsBelow, named_command, named_reply}
use Rattle.redodb_model.specs.Support.Renaming.{named_records, numbering}
use Rattle.redodb_model.proofs.RecordsByName.{cell_at_name}
use Rattle.redodb_live.specs.Support.Ordered.{IsSortedReply}
use Rattle.redodb_live.proofs.Answering.{renaming}

named_lets : (name : ℕ → List ℕ) (reply : Reply ℕ)
    → lets_through (named_reply name reply) ≡ lets_through reply
named_lets name Okay = refl
named_lets name reply = refl

module _ (order : ℕ → ℕ → Ordering) where
  sorted_lets : (reply now : Reply ℕ) → IsSortedReply order reply now
      → lets_through now ≡ lets_through reply
  sorted_lets (Stale ns) now (ms, again, is) = ap lets_through is
  sorted_lets (replies.Ood ns) now (ms, again, is) = ap lets_through is
  sorted_lets (replies.Targets ns) now (ms, again, is) = ap lets_through is
  sorted_lets (replies.Sources ns) now (ms, again, is) = ap lets_through is
  sorted_lets reply now is = ap lets_through is

  module _ (names : List (List ℕ)) (are : AreNames names) (r : Records ℕ) (reply now : Reply ℕ)
      (sorted : IsSortedReply order reply now)
    where
      lets : lets_through (named_reply (text_at names) now) ≡ lets_through reply
      lets = named_lets (text_at names) now ∙ sorted_lets reply now sorted

      pub changes_by_name : (command : Command ℕ) → IsBelow (length names) command
          → changes (named_records (numbering names) r) (named_command (text_at names) command)
          (named_reply (text_at names) now)
          ≡ changes r command reply
      changes_by_name (File n stamp) below =
          ap (λ (c : Cell). not (is_stamp_of c.file stamp))
          (cell_at_name (renaming names are) r n below.0)
      changes_by_name (Gone n) below =
          ap (λ (c : Cell). is_some c.file) (cell_at_name (renaming names are) r n below.0)
      changes_by_name Ood below = refl
      changes_by_name Targets below = refl
      changes_by_name Sources below = refl
      changes_by_name command below = lets
