-- How often names were built and granted: at most once a line.
use Rattle.std.proofs.Common.{◌≡◌, ℕ, ◌+◌, ◌≤◌, Bool, true, false, cond, List, [], ◌∷◌, length, Option, Some, None, subst, arith}
use Rattle.redodb_model.specs.Names.{Naming, Text, texts, put}
use Rattle.redodb_model.specs.State.{Cell, Records, State, empty}
use Rattle.redodb_model.specs.Command.{Command, File, Gone, Start, Stamp, Done, Failed}
use Rattle.redodb_model.specs.Reply.{Refusal}
use Rattle.redodb_model.specs.Step.{effect_of, holds_target, unless_refused, verdict_of, after}
use Rattle.redodb_model.specs.History.{Line, left_by}
use Rattle.redodb_history.proofs.Grants.{AreFewGrants, few_after, few_at_first}
use Rattle.redodb_dump.specs.Dumps.{HasCountsUpTo}

abbrev AreFewBuilds : {N : Type 0} → ℕ → Records N → Type 0
AreFewBuilds {N} count r = (n : N) → (r.cell n).builds ≤ count

one_of : (b : Bool) (here old : Cell) (count : ℕ) → here.builds ≤ count → old.builds ≤ count
    → (cond b here old).builds ≤ count
one_of true here old count p q = p
one_of false here old count p q = q

module _ {N : Type 0} (naming : Naming N) (count : ℕ) (r : Records N) (few : AreFewBuilds count r)
  where
    few_later : AreFewBuilds (count + 1) r
    few_later n = let h = few n in omega arith

    few_put : (t : N) (c : Cell) → c.builds ≤ count + 1 → (n : N)
        → (put naming t c r.cell n).builds ≤ count + 1
    few_put t c h n = one_of (naming.same t n) c (r.cell n) (count + 1) h (few_later n)

    few_effect : (s : ℕ) (command : Command N) → AreFewBuilds (count + 1) (effect_of naming r s command)
    few_effect s (File n stamp) = few_put n _ (few_later n)
    few_effect s (Gone n) = few_put n _ (few_later n)
    few_effect s (Start t) = few_put t _ (few_later t)
    few_effect s (Stamp t content) = few_put t _ (few_later t)
    few_effect s (Done t stamp) = few_put t _ (let h = few t in omega arith)
    few_effect s (Failed t) = few_put t _ (few_later t)
    few_effect s command = few_later

    few_unless : (verdict : Option (Refusal N)) (s : ℕ) (command : Command N)
        → AreFewBuilds (count + 1) (unless_refused verdict r (effect_of naming r s command))
    few_unless None s command = few_effect s command
    few_unless (Some refusal) s command = few_later

counts_from : (count : ℕ) (st : State Text) (lines : List (Line Text))
    → AreFewBuilds count st.records → AreFewGrants count st.locks
    → HasCountsUpTo (left_by texts st lines) (count + length lines)
counts_from count st [] builds grants = record {
  builds = λ n. let few = builds n in omega arith;
  grants = λ n. let few = grants.few n in omega arith;
}
counts_from count st (line ∷ lines) builds grants =
    let holds = holds_target st.locks line.session line.command in
    let verdict = verdict_of texts st.records line.session holds line.command in
    subst (λ (n : ℕ). HasCountsUpTo
    (left_by texts (after texts st line.session line.command) lines) n)
    (same count line lines) (counts_from (count + 1) (after texts st line.session line.command) lines
    (few_unless texts count st.records builds verdict line.session line.command)
    (few_after texts count st.locks grants line.session verdict line.command))
  where
    same : (n : ℕ) (first : Line Text) (others : List (Line Text))
        → n + 1 + length others ≡ n + length (first ∷ others)
    same n first others = omega arith

-- after lines from the empty state
pub counts_up_to : (lines : List (Line Text))
    → HasCountsUpTo (left_by texts empty lines) (length lines)
counts_up_to lines =
    let counts = counts_from 0 empty lines (λ n. omega arith) few_at_first in
    record {
      builds = λ n. let few = counts.builds n in omega arith;
      grants = λ n. let few = counts.grants n in omega arith;
    }
