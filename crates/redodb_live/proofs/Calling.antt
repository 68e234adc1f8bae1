-- A call over the names that its numbers stand for.
use Rattle.std.proofs.Common.{◌≡◌, ◌+◌, ◌*◌, ◌^◌, ◌<◌, arith, ℕ, List, ap, ◌∙◌, sym, subst, length}
use Rattle.std.specs.Ordering.{nat_cmp}
use Rattle.redodb_names.specs.Support.Names.{AreNames}
use Rattle.redodb_model.specs.Names.{Text, texts, text_at, by_number, by_text}
use Rattle.redodb_model.specs.State.{State}
use Rattle.redodb_model.specs.Command.{Command}
use Rattle.redodb_model.specs.Reply.{Reply}
use Rattle.redodb_model.specs.Step.{Answers, after}
use Rattle.redodb_model.specs.Renaming.{IsBelow, IsReplyBelow, named_command, named_reply}
use Rattle.redodb_model.specs.Support.Renaming.{named_state, numbering}
use Rattle.redodb_model.proofs.StepsByName.{after_by_name}
use Rattle.redodb_model.proofs.Texts.{texts_are_names}
use Rattle.redodb_database.specs.Tables.{Tables, state_of, calls_of}
use Rattle.redodb_live.specs.Support.LiveState.{LiveState, state_in, calls_in, HasCallsLeft, IsSameDatabase}
use Rattle.redodb_live.specs.Support.Kept.{IsKept}
use Rattle.redodb_live.specs.Support.Ordered.{IsSortedReply}
use Rattle.redodb_live.proofs.Answering.{renaming, now_answers, now_below}
use Rattle.redodb_live.proofs.Keeping.{IsKept-after}

module _ (old mid : LiveState) (names : List Text) (tables next : Tables)
    (is : record { names = names; tables = tables } ≡ mid) (old_names : mid.names ≡ old.names)
    (known : IsSameDatabase old mid) (old_are : AreNames old.names)
    (kept : IsKept names (state_of tables) (calls_of tables)) (session : ℕ) (command : Command ℕ)
    (old_below : IsBelow (length old.names) command) (reply now : Reply ℕ)
    (answers : Answers by_number (state_of tables) session command reply)
    (sorted : IsSortedReply (by_text names).order reply now)
    (steps : state_of next ≡ after by_number (state_of tables) session command)
  where
    same : names ≡ old.names
    same = ap (λ (live : LiveState). live.names) is ∙ old_names

    are : AreNames names
    are = subst AreNames (sym same) old_are

    below : IsBelow (length names) command
    below = subst (λ (ns : List Text). IsBelow (length ns) command) (sym same) old_below

    here : State Text
    here = named_state (numbering names) (state_of tables)

    is_old : here ≡ state_in old
    unfolding here
    is_old =
        ap state_in is ∙ (λ i. named_state (numbering (old_names i)) (known.state i))

    here_answers : Answers texts here session (named_command (text_at names) command)
        (named_reply (text_at names) now)
    unfolding here
    here_answers =
        now_answers names are tables kept.within session command below reply now answers sorted

    pub called_answers : Answers texts (state_in old) session
        (named_command (text_at old.names) command) (named_reply (text_at old.names) now)
    called_answers =
        subst (λ (at : State Text × List Text). Answers texts at.0 session
        (named_command (text_at at.1) command) (named_reply (text_at at.1) now))
        (λ i. (is_old i, same i)) here_answers

    pub called_below : IsReplyBelow (length old.names) now
    called_below =
        subst (λ (ns : List Text). IsReplyBelow (length ns) now) same
        (now_below names are tables kept.within session command below reply now answers sorted)

    pub called_after : named_state (numbering names) (state_of next)
        ≡ after texts (state_in old) session (named_command (text_at old.names) command)
    unfolding here
    called_after =
        ap (named_state (numbering names)) steps
        ∙ after_by_name (renaming names are) texts texts_are_names nat_cmp (state_of tables) session
        command below
        ∙ (λ i. after texts (is_old i) session (named_command (text_at (same i)) command))

    pub called_keeps : HasCallsLeft old → calls_of next ≡ calls_of tables + 1
        → IsKept names (state_of next) (calls_of next)
    unfolding here
    called_keeps few counted =
        let left : calls_of tables + 1 + 2 * length names < 2 ^ 32 =
        omega (arith, few, ap calls_in is ∙ known.calls, ap length same) in
        subst (λ (at : State ℕ × ℕ). IsKept names at.0 at.1) (λ i. (sym steps i, sym counted i))
        (IsKept-after names are nat_cmp (state_of tables) session command
        (named_reply (text_at names) now) (calls_of tables) left below kept here_answers)
