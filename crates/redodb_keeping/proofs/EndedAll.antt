-- The sessions that a log left end, one after the other, and then nothing is held.
use Rattle.std.proofs.Common.{◌≡◌, ℕ, ◌+◌, ◌<◌, ◌≤◌, false, cond, map, List, [], ◌∷◌, ◌++◌, Some, refl, sym, ap, ◌∙◌, subst, append-nil, append_assoc, eqb, inl, inr, arith}
use Rattle.std.specs.Prelude.{◌↔◌, Contains, codes, decimal}
use Rattle.std.specs.List.{AllByRecursion, flat_map}
use Rattle.std.specs.List.Sorted.{IsStrictlyIncreasing}
use Rattle.std.specs.Cmp.Lexicographic.{nat_list_cmp_total}
use Rattle.std.proofs.lemmas.Bool.{cases_lt, eq-eqb, ne_eqb, false≢true}
use Rattle.std.proofs.lemmas.List.{map-append}
use Rattle.std.proofs.lemmas.List.Concat.{flat_map-append}
use Rattle.redodb_model.specs.Names.{Text, texts}
use Rattle.redodb_model.specs.State.{State, Building, empty, target_state}
use Rattle.redodb_model.specs.Step.{is_held_by}
use Rattle.redodb_model.specs.History.{Line, left_by, part_of}
use Rattle.redodb_model.specs.Closing.{holds_after}
use Rattle.redodb_model.specs.Support.Ending.{state_without}
use Rattle.redodb_model.proofs.Ending.{ends_from}
use Rattle.redodb_model.proofs.Held.{BuildersHold, builders_hold, builders_hold_at_first}
use Rattle.redodb_model.proofs.OwnLines.{holds_by_part}
use Rattle.redodb_model.proofs.Texts.{texts_are_names}
use Rattle.redodb_history.specs.Histories.{line_text_of}
use Rattle.redodb_history.specs.Support.HistoryTexts.{IsLineSaid}
use Rattle.redodb_live.specs.Support.Ended.{without_each}
use Rattle.redodb_live.specs.Support.LiveState.{LiveState, IsAsKnown, state_in}
use Rattle.redodb_live.specs.Support.Appended.{EndsSession}
use Rattle.redodb_live.specs.Lines.{lines_text_of}
use Rattle.redodb_live.proofs.EndingAll.{held_out, built_out}
use Rattle.redodb_log.specs.Logs.{AreLogged}
use Rattle.redodb_keeping.specs.Rounds.{Round, AreEnds, AreRounds, end_word, end_text_of, lines_in}
use Rattle.redodb_keeping.specs.Openings.{HoldsNothing}
use Rattle.redodb_keeping.specs.Support.Opening.{EndsSome, EndsAll}
use Rattle.redodb_keeping.specs.Support.Steps.{known_of, Known, LeadsTo, Ending, AreSteps}
use Rattle.redodb_keeping.proofs.LawfulLines.{rounds_said, rounds_names}
use Rattle.redodb_keeping.proofs.Led.{ending_leads, ending_round, steps_lead}
use Rattle.redodb_keeping.proofs.HeldNames.{held_are_known}

-- no line is of a session that a log can't have
none_of : (s : ℕ) (lines : List (Line Text)) → 65535 ≤ s → AllByRecursion (IsLineSaid 65535) lines
    → part_of s lines ≡ []
none_of s [] far said = refl
none_of s (line ∷ lines) far said =
    let below : line.session < 65535 = said.0.session in
    let other : eqb line.session s ≡ false = ne_eqb line.session s (λ same. absurd (omega arith)) in
    ap (λ b. cond b (line ∷ part_of s lines) (part_of s lines)) other
    ∙ none_of s lines far said.1

-- who holds something after the lines of a log is one of its sessions
pub holder_below : (lines : List (Line Text)) → AreLogged lines → (t : Text) (s : ℕ)
    → (left_by texts empty lines).locks.holder t ≡ Some s → s < 65535
holder_below lines logged t s holds = elim (cases_lt s 65535) [
  | inl below ↦ below
  | inr far ↦ absurd (false≢true
      (ap (holds_after texts t false) (sym (none_of s lines far logged.said))
      ∙ holds_by_part texts_are_names empty lines s t logged.legal
      ∙ ap (is_held_by s) holds ∙ eq-eqb s s refl))
]

pub session_below : (live : LiveState) (before : List (Line Text)) (s : ℕ) → AreLogged before
    → LeadsTo before (known_of live) → (t : Text) × ((state_in live).locks.holder t ≡ Some s)
    → s < 65535
session_below live before s logged left (t, holds) =
    holder_below before logged t s
    (subst (λ (st : State Text). st.locks.holder t ≡ Some s) left.state_is holds)

-- how a session is asked to end
abbrev pub end_line : ℕ → Text
end_line s = decimal (s + 1) ++ codes " " ++ end_word

-- one end for each round, from the old to the new
abbrev pub AreEndings : Known → Known → List Round → Type 0
AreEndings old new [] = new ≡ old
AreEndings old new (round ∷ rounds) =
    (middle : Known) × Ending old middle round × AreEndings middle new rounds

endings_are_steps : (old new : Known) (rounds : List Round) → AreEndings old new rounds
    → AreSteps old new rounds
endings_are_steps old new [] same = same
endings_are_steps old new (round ∷ rounds) (middle, ending, more) =
    (middle, inr (inl ending), endings_are_steps middle new rounds more)

endings_more : (old middle new : Known) (rounds : List Round) (round : Round)
    → AreEndings old middle rounds → Ending middle new round
    → AreEndings old new (rounds ++ round ∷ [])
endings_more old middle new [] round same ending =
    (new, subst (λ k. Ending k new round) same ending, refl)
endings_more old middle new (first ∷ rounds) round (next, one, more) ending =
    (next, one, endings_more next middle new rounds round more ending)

endings_are_ends : (before : List (Line Text)) (old new : Known) (rounds : List Round)
    → LeadsTo before old → AreEndings old new rounds → AreEnds before rounds
endings_are_ends before old new [] led same = tt
endings_are_ends before old new (round ∷ rounds) led (middle, ending, more) = (
  ending_round before old middle round led ending,
  endings_are_ends (before ++ round.lines) middle new rounds
      (ending_leads before old middle round led ending) more,
)

pub ends_are_rounds : (before : List (Line Text)) (rounds : List Round) → AreEnds before rounds
    → AreRounds before rounds
ends_are_rounds before [] ends = tt
ends_are_rounds before (round ∷ rounds) ends =
    (inr (inl ends.0), ends_are_rounds (before ++ round.lines) rounds ends.1)

-- these sessions ended, in this order
pub record AreEndedSoFar (old new : LiveState) (sessions : List ℕ) (logged logged_after : Text)
    : Type 0 where
  pub rounds : List Round
  pub asked : map (λ round. round.received) rounds ≡ map end_line sessions
  pub endings : AreEndings (known_of old) (known_of new) rounds
  pub left : state_in new ≡ without_each sessions (state_in old)
  pub logs : logged_after ≡ logged ++ lines_text_of (lines_in rounds)

-- the same is known
pub as_known : (old new : LiveState) → IsAsKnown old new → known_of new ≡ known_of old
as_known old new same =
    λ i. record { names = same.names i; state = same.state i; calls = same.calls i }

-- the same, when nothing more was done
pub left_alone : (old middle new : LiveState) (sessions : List ℕ) (logged said said_after : Text)
    → IsAsKnown middle new → said_after ≡ said → AreEndedSoFar old middle sessions logged said
    → AreEndedSoFar old new sessions logged said_after
left_alone old middle new sessions logged said said_after is same so_far = record {
  rounds = so_far.rounds;
  asked = so_far.asked;
  endings = subst (λ k. AreEndings (known_of old) k so_far.rounds) (sym (as_known middle new is))
      so_far.endings;
  left = is.state ∙ so_far.left;
  logs = same ∙ so_far.logs;
}

-- the same, when one session more ended
without_more : (sessions : List ℕ) (s : ℕ) (st : State Text)
    → without_each (sessions ++ s ∷ []) st ≡ state_without s (without_each sessions st)
without_more [] s st = refl
without_more (first ∷ sessions) s st = without_more sessions s (state_without first st)

lines_more : (rounds : List Round) (round : Round) → lines_text_of (lines_in (rounds ++ round ∷ []))
    ≡ lines_text_of (lines_in rounds) ++ lines_text_of round.lines
lines_more rounds round =
    ap lines_text_of (flat_map-append (λ (r : Round). r.lines) rounds (round ∷ [])
    ∙ ap (λ ls. lines_in rounds ++ ls) (append-nil round.lines))
    ∙ flat_map-append line_text_of (lines_in rounds) round.lines

module _ (before : List (Line Text)) (old new : LiveState) (left : LeadsTo before (known_of old))
    (sessions : List ℕ) (logged middle : Text)
    (so_far : AreEndedSoFar old new sessions logged middle)
  where
    led : LeadsTo (before ++ lines_in so_far.rounds) (known_of new)
    led = steps_lead before (known_of old) (known_of new) so_far.rounds left
        (endings_are_steps (known_of old) (known_of new) so_far.rounds so_far.endings)

    builders : BuildersHold (state_in new)
    builders = subst BuildersHold (sym led.state_is)
        (builders_hold texts_are_names empty (before ++ lines_in so_far.rounds)
        builders_hold_at_first)

    module _ (next : LiveState) (s : ℕ) (output output_after logged_after : Text)
        (ends : EndsSession new next s output output_after middle logged_after)
      where
        abbrev round : Round
        round = record {
          received = end_line s;
          lines = ends.lines;
          output = flat_map line_text_of ends.lines ++ end_text_of s;
        }

        ending : s < 65535 → Ending (known_of new) (known_of next) round
        ending below = record {
          session = s;
          asks = (below, refl);
          held = ends.is.targets;
          are_held = ends.is.held;
          known = held_are_known new s ends.is.targets ends.is.held;
          names_are = ends.names;
          state_is = ends.is.left;
          calls_are = ends.calls;
          lines_are = ends.is.lines_are;
          output_is = refl;
        }

        without : state_in next ≡ state_without s (state_in new)
        without =
            ends.is.left ∙ ap (left_by texts (state_in new)) ends.is.lines_are
            ∙ (ends_from texts_are_names nat_list_cmp_total s (state_in new) ends.is.targets
            builders ends.is.held).left

        -- one session more ended
        pub one_more_ended : s < 65535
            → AreEndedSoFar old next (sessions ++ s ∷ []) logged logged_after
        one_more_ended below = record {
          rounds = so_far.rounds ++ round ∷ [];
          asked = map-append (λ (r : Round). r.received) so_far.rounds (round ∷ [])
              ∙ ap (λ ts. ts ++ end_line s ∷ []) so_far.asked
              ∙ sym (map-append end_line sessions (s ∷ []));
          endings = endings_more (known_of old) (known_of new) (known_of next) so_far.rounds round
              so_far.endings (ending below);
          left = without ∙ ap (state_without s) so_far.left
              ∙ sym (without_more sessions s (state_in old));
          logs = ends.logs ∙ ap (λ (t : Text). t ++ lines_text_of ends.lines) so_far.logs
              ∙ append_assoc logged (lines_text_of (lines_in so_far.rounds))
              (lines_text_of ends.lines)
              ∙ ap (λ (t : Text). logged ++ t) (sym (lines_more so_far.rounds round));
        }

    nothing_held : ((t : Text) (s : ℕ) → (state_in old).locks.holder t ≡ Some s
        → Contains sessions s)
        → ((t : Text) (s : ℕ) → target_state (state_in old).records t ≡ Building s
        → Contains sessions s)
        → HoldsNothing (left_by texts empty (before ++ lines_in so_far.rounds))
    nothing_held holders builds =
        subst HoldsNothing (sym so_far.left ∙ led.state_is) (λ t. (
          held_out sessions (state_in old) t (holders t),
          built_out sessions (state_in old) t (builds t),
        ))

    are_ends : AreEnds before so_far.rounds
    are_ends = endings_are_ends before (known_of old) (known_of new) so_far.rounds left
        so_far.endings

    -- the lines of the ends can be logged, too
    ends_logged : AreLogged before → AreLogged (before ++ lines_in so_far.rounds)
    ends_logged logged =
        let rounds = ends_are_rounds before so_far.rounds are_ends in
        record {
          legal = led.legal;
          said = rounds_said before so_far.rounds rounds logged.said;
          few_names = rounds_names before so_far.rounds rounds logged.few_names;
        }

    -- these ended
    pub some_ended : AreLogged before → EndsSome before new logged middle
    some_ended are_logged = record {
      ends = so_far.rounds;
      are_ends = are_ends;
      left = led;
      logged_lines = ends_logged are_logged;
      logs = so_far.logs;
    }

    -- all of them ended
    pub all_ended : AreLogged before → IsStrictlyIncreasing sessions
        → ((s : ℕ) → Contains sessions s
        ↔ ((t : Text) × ((state_in old).locks.holder t ≡ Some s)))
        → ((t : Text) (s : ℕ) → target_state (state_in old).records t ≡ Building s
        → Contains sessions s)
        → EndsAll before new logged middle
    unfolding some_ended
    all_ended are_logged ascending holders builds = record {
      some = some_ended are_logged;
      ended = record {
        sessions = sessions;
        holders = λ s. subst (λ (st : State Text). Contains sessions s
            ↔ ((t : Text) × (st.locks.holder t ≡ Some s))) left.state_is (holders s);
        ascending = ascending;
        asked = so_far.asked;
        are_ends = are_ends;
        nothing = nothing_held (λ t s is. (holders s).1 (t, is)) builds;
      };
    }
