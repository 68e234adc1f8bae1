-- What was done is not undone: more comes after it.
use Rattle.std.proofs.Common.{◌≡◌, ◌⊎◌, ℕ, Bool, true, false, cond, Option, None, Some, List, [], ◌∷◌, ◌++◌, refl, sym, ap, ◌∙◌, append_assoc, inl, inr}
use Rattle.std.specs.Prelude.{Result, Ok, Err, OnOk, OnErr, IsSomeAnd}
use Rattle.redodb_model.specs.Names.{Text}
use Rattle.redodb_log.specs.Operations.{Operation, Append, Cut, Copy, Replace, Sync, Revert, Write, LogFailed, OutputFailed}
use Rattle.redodb_keeping.specs.Support.Opening.{after_cut}
use Rattle.redodb_conversation.specs.Support.Opening.{HasGoneOn, HasGoneOnInPart}
use Rattle.redodb_keeping.specs.Support.Sending.{IsFollowedBy, IsKeptBack, IsSent, IsSentInPart, IsFaultSentInPart, after_logging, sent_after, IsSendCause}
use Rattle.redodb_conversation.specs.Support.Talking.{IsTalkFault}
use Rattle.redodb_conversation.specs.declared.opening.Opened.{Opened}
use Rattle.redodb_keeping.specs.declared.restoring.Rest.{Rest}
use Rattle.redodb_keeping.specs.declared.restoring.Rest.TheVariants.{Nothing, Torn, Damaged}
use Rattle.redodb_keeping.specs.declared.fault.ServeFault.{ServeFault}
use Rattle.redodb_keeping.specs.declared.fault.ServeFault.TheVariants.{Log, Write as WriteFault}

pub follows_itself : (done : List Operation) → IsFollowedBy done done
follows_itself done = ([], refl)

pub follows_all : (a b c : List Operation) → IsFollowedBy a b → IsFollowedBy b c → IsFollowedBy a c
follows_all a b c (later, e) (last, f) =
    (last ++ later, f ∙ ap (λ ops. last ++ ops) e ∙ sym (append_assoc last later a))

logging_follows : (sync : Bool) (logged : Text) (done : List Operation)
    → IsFollowedBy done (after_logging sync logged done)
logging_follows true logged done = (Sync ∷ Append logged ∷ [], refl)
logging_follows false logged done = (Append logged ∷ [], refl)

pub sent_follows : (sync : Bool) (logged output : Text) (done done_after : List Operation)
    → done_after ≡ sent_after sync logged output done → IsFollowedBy done done_after
sent_follows sync logged output done done_after e =
    let (later, f) = logging_follows sync logged done in
    (Write output ∷ later, e ∙ ap (λ ops. Write output ∷ ops) f)

pub part_follows : (sync : Bool) (logged output : Text) (done done_after : List Operation)
    → IsSentInPart sync logged output done done_after → IsFollowedBy done done_after
part_follows sync logged output done done_after (inl (part, is_part, e)) =
    (LogFailed ∷ Append part ∷ [], e)
part_follows sync logged output done done_after (inr (inl (asked, inl e))) =
    (LogFailed ∷ Append logged ∷ [], e)
part_follows sync logged output done done_after (inr (inl (asked, inr e))) =
    (Revert ∷ Append logged ∷ [], e)
part_follows sync logged output done done_after (inr (inr (part, is_part, e))) =
    let (later, f) = logging_follows sync logged done in
    (OutputFailed ∷ Write part ∷ later, e ∙ ap (λ ops. OutputFailed ∷ Write part ∷ ops) f)

-- whatever came of what was sent
pub sending_follows : {T E : Type 0} (r : Result T E) (sync : Bool) (logged output : Text)
    (done done_after : List Operation)
    → OnOk r (done_after ≡ sent_after sync logged output done)
    → OnErr r (IsSentInPart sync logged output done done_after) → IsFollowedBy done done_after
sending_follows (Ok x) sync logged output done done_after ok err =
    sent_follows sync logged output done done_after ok
sending_follows (Err e) sync logged output done done_after ok err =
    part_follows sync logged output done done_after err

pub fault_follows : {T E : Type 0} (r : Result T E) (sync : Bool)
    (logged logged' output output' text : Text) (done done' : List Operation)
    → OnOk r (IsKeptBack done done' logged logged' output output' text
    ⊎ IsSent sync done done' logged logged' output output' text)
    → OnErr r (IsFaultSentInPart sync logged output text done done') → IsFollowedBy done done'
fault_follows (Ok x) sync logged logged' output output' text done done' (inl kept) err =
    ([], kept.same)
fault_follows (Ok x) sync logged logged' output output' text done done' (inr is) err =
    let middle = sent_after sync logged output done in
    follows_all done middle done' (sent_follows sync logged output done middle refl)
    (sent_follows sync [] text middle done' is.sent)
fault_follows (Err e) sync logged logged' output output' text done done' ok (inl part) =
    part_follows sync logged output done done' part
fault_follows (Err e) sync logged logged' output output' text done done' ok (inr part) =
    let middle = sent_after sync logged output done in
    follows_all done middle done' (sent_follows sync logged output done middle refl)
    (part_follows sync [] text middle done' part)

pub send_fault_talks : (done : List Operation) (fault : ServeFault) → IsSendCause done fault
    → IsTalkFault done fault
send_fault_talks done (Log fault) cause = cause
send_fault_talks done WriteFault cause = cause
send_fault_talks done fault cause = absurd cause

-- what came of the opening of a log
cut_follows : (rest : Rest) (size : ℕ) (done : List Operation)
    → IsFollowedBy done (after_cut rest size done)
cut_follows Nothing size done = ([], refl)
cut_follows Torn size done = (Cut size ∷ [], refl)
cut_follows Damaged size done = (Sync ∷ Cut size ∷ Copy ∷ [], refl)

some_of : {T : Type 0} (o : Option T) (P : T → Type 0) → IsSomeAnd o P → (t : T) × P t
some_of None P is = absurd is
some_of (Some t) P is = (t, is)

module _ (opened : Opened) (done : List Operation) where
  abbrev cut_done : List Operation
  cut_done = after_cut opened.rest opened.bytes done

  after_cutting : (now : List Operation) → IsFollowedBy cut_done now → IsFollowedBy done now
  after_cutting now =
      follows_all done cut_done now (cut_follows opened.rest opened.bytes done)

  pub gone_follows : (gone : List Operation) → HasGoneOn opened cut_done gone
      → IsFollowedBy done gone
  gone_follows gone (inl e) = after_cutting gone (Append opened.logged.items ∷ [], e)
  gone_follows gone (inr replaced) =
      let (dump, e) = some_of opened.dump _ replaced in
      after_cutting gone (Replace dump.items ∷ [], e)

  pub gone_part_follows : (gone : List Operation) → HasGoneOnInPart opened cut_done gone
      → IsFollowedBy done gone
  gone_part_follows gone (inl (part, is_part, e)) =
      after_cutting gone (LogFailed ∷ Append part ∷ [], e)
  gone_part_follows gone (inr replaced) =
      let (dump, e) = some_of opened.dump _ replaced in
      after_cutting gone (LogFailed ∷ Replace dump.items ∷ [], e)

pub synced_follows : (sync : Bool) (operation : Operation) (done gone : List Operation)
    → IsFollowedBy done gone → IsFollowedBy done (operation ∷ cond sync (Sync ∷ gone) gone)
synced_follows true operation done gone (later, e) =
    (operation ∷ Sync ∷ later, ap (λ ops. operation ∷ Sync ∷ ops) e)
synced_follows false operation done gone (later, e) =
    (operation ∷ later, ap (λ ops. operation ∷ ops) e)

pub one_follows : (operation : Operation) (done gone : List Operation) → IsFollowedBy done gone
    → IsFollowedBy done (operation ∷ gone)
one_follows operation done gone (later, e) = (operation ∷ later, ap (λ ops. operation ∷ ops) e)
