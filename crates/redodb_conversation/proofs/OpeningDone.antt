-- What was done when a log was opened and greeted, or when that failed.
use Rattle.std.proofs.Common.{◌≡◌, ◌⊎◌, Bool, true, false, cond, List, [], ◌∷◌, take, refl, sym, ap, ◌∙◌, subst, inl, inr}
use Rattle.std.specs.Prelude.{IsSomeAnd}
use Rattle.redodb_model.specs.Names.{Text}
use Rattle.redodb_log.specs.Operations.{Operation, Read, Append, Cut, Sync, Copy, Replace, Write, LogFailed, OutputFailed, IsPrefix}
use Rattle.redodb_keeping.specs.Support.Opening.{IsRest, IsCutInPart, after_cut}
use Rattle.redodb_conversation.specs.Support.Opening.{HasGoneOn, HasGoneOnInPart, BeginsAt, BeginsInPart}
use Rattle.redodb_conversation.specs.declared.opening.Opened.{Opened}
use Rattle.redodb_conversation.proofs.Following.{gone_follows, gone_part_follows, one_follows, synced_follows}
use Rattle.redodb_conversation.proofs.OpeningFirst.{first_of, gone_in_part, unsettled}
use Rattle.redodb_conversation.proofs.OpeningMoments.{greeted, sync_failed, write_failed}

-- after a sync, if that is asked
pub synced_then : (sync : Bool) (done now : List Operation)
    → ((sync ≡ true) × (now ≡ Sync ∷ done)) ⊎ ((sync ≡ false) × (now ≡ done))
    → now ≡ cond sync (Sync ∷ done) done
synced_then sync done now (inl (is, e)) = e ∙ ap (λ b. cond b (Sync ∷ done) done) (sym is)
synced_then sync done now (inr (is, e)) = e ∙ ap (λ b. cond b (Sync ∷ done) done) (sym is)

module _ (opened : Opened) (lines : Text) (same : lines ≡ opened.logged.items)
    (done done_after : List Operation)
  where
    -- the dump took the place of the log, or the lines were appended
    pub has_gone_on : (replaced : Bool)
        → (replaced ≡ true
        → IsSomeAnd opened.dump (λ dump. done_after ≡ Replace dump.items ∷ done))
        → (replaced ≡ false → done_after ≡ Append lines ∷ done) → HasGoneOn opened done done_after
    has_gone_on true took left = inr (took refl)
    has_gone_on false took left = inl (left refl ∙ ap (λ (t : Text). Append t ∷ done) same)

    pub has_gone_in_part : ((part : Text) × IsPrefix part lines
        × (done_after ≡ LogFailed ∷ Append part ∷ done))
        ⊎ IsSomeAnd opened.dump (λ dump. done_after ≡ LogFailed ∷ Replace dump.items ∷ done)
        → HasGoneOnInPart opened done done_after
    has_gone_in_part (inl (part, is, e)) = inl (part, subst (IsPrefix part) same is, e)
    has_gone_in_part (inr took) = inr took

module _ (sync salvage : Bool) (version bytes : Text) (opened : Opened) (done : List Operation)
  where
    -- the log after its rest was cut off
    abbrev pub cut_from_read : List Operation
    cut_from_read = after_cut opened.rest opened.bytes (Read bytes ∷ [])

    -- all was done
    pub begins_at : (gone : List Operation) → HasGoneOn opened cut_from_read gone
        → done ≡ Write opened.greeting.items ∷ cond sync (Sync ∷ gone) gone
        → BeginsAt sync salvage version bytes opened done
    begins_at gone on e =
        subst (BeginsAt sync salvage version bytes opened) (sym e) (
          synced_follows sync (Write opened.greeting.items) (Read bytes ∷ []) gone
              (gone_follows opened (Read bytes ∷ []) gone on),
          λ past is left.
              let (first, is_first, at) =
              first_of sync salvage version past bytes opened is left gone on in
              (first, is_first, greeted sync salvage version past bytes opened is left first gone at),
        )

    -- what is to be cut off was cut off in part
    pub begins_to_cut : (earlier : List Operation) → earlier ≡ Read bytes ∷ []
        → IsCutInPart opened.rest opened.bytes earlier done
        → BeginsInPart sync salvage version bytes opened done
    begins_to_cut earlier e (inl failed) =
        subst (BeginsInPart sync salvage version bytes opened)
        (sym (failed ∙ ap (λ ops. LogFailed ∷ ops) e))
        (inl ((refl, (refl, tt)), (refl, tt)))
    begins_to_cut earlier e (inr (damaged, inl failed)) =
        subst (BeginsInPart sync salvage version bytes opened)
        (sym (failed ∙ ap (λ ops. LogFailed ∷ Copy ∷ ops) e))
        (inl ((refl, (refl, (refl, tt))), (refl, (refl, tt))))
    begins_to_cut earlier e (inr (damaged, inr failed)) =
        subst (BeginsInPart sync salvage version bytes opened)
        (sym (failed ∙ ap (λ ops. LogFailed ∷ Cut opened.bytes ∷ Copy ∷ ops) e))
        (inr (
          (LogFailed ∷ Cut opened.bytes ∷ Copy ∷ [], refl),
          λ past is left.
              unsettled sync salvage version past bytes opened is left
              (subst (λ r. IsRest is.former.past r bytes (take opened.bytes bytes) is.former.lines) damaged
              is.rest),
        ))

    -- an append failed, or the dump took the place of the log and the log failed then
    pub begins_to_go_on : HasGoneOnInPart opened cut_from_read done
        → BeginsInPart sync salvage version bytes opened done
    begins_to_go_on part =
        inr (
          gone_part_follows opened (Read bytes ∷ []) done part,
          λ past is left. gone_in_part sync salvage version past bytes opened is left done part,
        )

    -- a sync failed
    pub begins_to_sync : (gone : List Operation) → HasGoneOn opened cut_from_read gone
        → done ≡ LogFailed ∷ gone → BeginsInPart sync salvage version bytes opened done
    begins_to_sync gone on e =
        subst (BeginsInPart sync salvage version bytes opened) (sym e)
        (inr (
          one_follows LogFailed (Read bytes ∷ []) gone
              (gone_follows opened (Read bytes ∷ []) gone on),
          λ past is left.
              let (first, is_first, at) = first_of sync salvage version past bytes opened is left gone on in
              let (begins, stops, always) = sync_failed sync salvage version past bytes opened is left
              first gone at in
              (begins, stops, (first, is_first, always)),
        ))

    -- a write of the greeting failed
    pub begins_to_write : (gone : List Operation) → HasGoneOn opened cut_from_read gone
        → (part : Text) → IsPrefix part opened.greeting.items
        → done ≡ OutputFailed ∷ Write part ∷ cond sync (Sync ∷ gone) gone
        → BeginsInPart sync salvage version bytes opened done
    begins_to_write gone on part is_part e =
        subst (BeginsInPart sync salvage version bytes opened) (sym e)
        (inr (
          one_follows OutputFailed (Read bytes ∷ []) (Write part ∷ cond sync (Sync ∷ gone) gone)
              (synced_follows sync (Write part) (Read bytes ∷ []) gone
              (gone_follows opened (Read bytes ∷ []) gone on)),
          λ past is left.
              let (first, is_first, at) = first_of sync salvage version past bytes opened is left gone on in
              let (begins, stops, always) = write_failed sync salvage version past bytes opened is left
              first gone at part is_part in
              (begins, stops, (first, is_first, always)),
        ))
