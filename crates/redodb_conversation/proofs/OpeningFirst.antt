-- The log before the first answer: the ends come to what was found, or a dump takes the place of both.
use Rattle.std.proofs.Common.{Bool, List, [], ◌∷◌, ◌++◌, Option, refl, sym, subst, inl, inr}
use Rattle.std.specs.Prelude.{None, Some, IfSome, IsSomeAnd}
use Rattle.redodb_model.specs.Names.{Text}
use Rattle.redodb_live.specs.Lines.{lines_text_of}
use Rattle.redodb_live.specs.Support.LiveState.{calls_in}
use Rattle.redodb_log.specs.Logs.{Past}
use Rattle.redodb_log.specs.Restores.{IsDamagedAfter}
use Rattle.redodb_log.specs.Operations.{Operation, Read, Cut, Copy, Replace, LogFailed, StopsAtFailure, IsAlways}
use Rattle.redodb_keeping.specs.Rounds.{lines_in}
use Rattle.redodb_conversation.specs.Talks.{BeginsBy, IsFirstLog, found_log}
use Rattle.redodb_conversation.specs.Support.Moments.{IsSafe}
use Rattle.redodb_keeping.specs.Support.Opening.{after_cut}
use Rattle.redodb_conversation.specs.Support.Opening.{HasGoneOn, HasGoneOnInPart, IsOpenedFrom, start_of}
use Rattle.redodb_conversation.specs.declared.opening.Opened.{Opened}
use Rattle.redodb_conversation.proofs.OpeningMoments.{HoldsFirst, append_failed, is_appended, is_replaced, settle_failed, sync_failed}

some_both : {T : Type 0} (o : Option T) (P Q : T → Type 0) → IfSome o P → IsSomeAnd o Q
    → (t : T) × P t × Q t
some_both None P Q p q = absurd q
some_both (Some t) P Q p q = (t, p, q)

module _ (sync salvage : Bool) (version : Text) (past : Past) (bytes : Text) (opened : Opened)
    (is : IsOpenedFrom salvage version past bytes opened) (left : Option Text)
  where
    -- what was found, and the ends
    abbrev grown : Text
    grown = found_log is.former ++ lines_text_of (lines_in is.former.ends)

    -- it holds a first log
    abbrev pub HoldsSomeFirst : List Operation → Type 0
    HoldsSomeFirst gone =
        (first : Text) × IsFirstLog is.former first
        × HoldsFirst sync salvage version past bytes opened is left first gone

    pub first_of : (gone : List Operation)
        → HasGoneOn opened (after_cut opened.rest opened.bytes (Read bytes ∷ [])) gone
        → HoldsSomeFirst gone
    first_of gone (inl e) =
        subst HoldsSomeFirst (sym e) (
          grown,
          inl refl,
          is_appended sync salvage version past bytes opened is left grown refl,
        )
    first_of gone (inr replaced) =
        let (dump, is_dump, e) = some_both opened.dump _ _ is.dump replaced in
        subst HoldsSomeFirst (sym e) (
          dump.items,
          inr is_dump,
          is_replaced sync salvage version past bytes opened is left dump.items dump.items refl,
        )

    abbrev pub BeginsSafely : List Operation → Type 0
    BeginsSafely done =
        BeginsBy bytes is.former done × StopsAtFailure done
        × ((first : Text) × IsFirstLog is.former first
        × IsAlways (IsSafe (start_of sync version bytes is.former first (calls_in opened.live) left)
        []) done)

    -- the sync after a damaged log was cut failed
    pub unsettled : IsDamagedAfter is.former.past bytes is.former.lines
        → BeginsSafely (LogFailed ∷ Cut opened.bytes ∷ Copy ∷ Read bytes ∷ [])
    unsettled damaged =
        let (begins, stops, always) = settle_failed sync salvage version past bytes opened is left
        grown damaged in
        (begins, stops, (grown, inl refl, always))

    pub gone_in_part : (done : List Operation)
        → HasGoneOnInPart opened (after_cut opened.rest opened.bytes (Read bytes ∷ [])) done
        → BeginsSafely done
    gone_in_part done (inl (part, is_part, e)) =
        let (begins, stops, always) = append_failed sync salvage version past bytes opened is left
        grown part is_part in
        subst BeginsSafely (sym e) (begins, stops, (grown, inl refl, always))
    gone_in_part done (inr replaced) =
        let (dump, is_dump, e) = some_both opened.dump _ _ is.dump replaced in
        let gone = Replace dump.items ∷ after_cut opened.rest opened.bytes (Read bytes ∷ []) in
        let (begins, stops, always) = sync_failed sync salvage version past bytes opened is left
        dump.items gone
        (is_replaced sync salvage version past bytes opened is left dump.items dump.items refl) in
        subst BeginsSafely (sym e) (begins, stops, (dump.items, inr is_dump, always))
