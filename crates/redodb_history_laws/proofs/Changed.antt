-- A legal history is legal with no other reply on one of its lines.
use Rattle.std.proofs.Common.{◌≡◌, ℕ, zero, suc, List, [], ◌∷◌, Option, Some, None, ap}
use Rattle.std.specs.Prelude.{IsSome}
use Rattle.redodb_model.specs.Names.{Text, texts}
use Rattle.redodb_model.specs.State.{State, empty}
use Rattle.redodb_model.specs.Reply.{Reply}
use Rattle.redodb_model.specs.Step.{after}
use Rattle.redodb_model.specs.History.{Line, Legal, LegalFrom}
use Rattle.redodb_history_laws.specs.WorkedHistories.{with_reply}
use Rattle.redodb_model.proofs.Unique.{one_answer}
use Rattle.redodb_model.proofs.Texts.{texts_are_names}

-- the reply on line k
abbrev pub reply_on : ℕ → List (Line Text) → Option (Reply Text)
reply_on k [] = None
reply_on zero (line ∷ lines) = Some line.reply
reply_on (suc k) (line ∷ lines) = reply_on k lines

reply_kept_from : (st : State Text) (k : ℕ) (reply : Reply Text) (lines : List (Line Text))
    → IsSome (reply_on k lines) → LegalFrom texts st lines
    → LegalFrom texts st (with_reply k reply lines) → reply_on k lines ≡ Some reply
reply_kept_from st k reply [] is h g = absurd (cc)
reply_kept_from st zero reply (line ∷ lines) is h g =
    ap Some (one_answer texts_are_names st line.session line.command line.reply reply h.0 g.0)
reply_kept_from st (suc k) reply (line ∷ lines) is h g =
    reply_kept_from (after texts st line.session line.command) k reply lines is h.1 g.1

pub reply_kept : (k : ℕ) (reply : Reply Text) (lines : List (Line Text)) → IsSome (reply_on k lines)
    → Legal texts lines → Legal texts (with_reply k reply lines) → reply_on k lines ≡ Some reply
reply_kept = reply_kept_from empty
