-- Lines that change nothing can be left out of a history.
use Rattle.std.proofs.Common.{◌≡◌, ℕ, Bool, true, false, cond, not, List, [], ◌∷◌, ◌++◌, Option, Some, None, refl, sym, ap, ◌∙◌, subst, append_assoc, inl, inr}
use Rattle.std.specs.Prelude.{is_some, bytes_eq}
use Rattle.std.specs.Cmp.Lexicographic.{bytes_decides}
use Rattle.std.proofs.lemmas.Bool.{cases_Bool}
use Rattle.std.proofs.Math.Path.{fun_ext}
use Rattle.redodb_model.specs.Names.{Text, Naming, put}
use Rattle.redodb_model.specs.Support.Names.{IsNaming}
use Rattle.redodb_model.specs.State.{State, Cell}
use Rattle.redodb_model.specs.Command.{Command, File, Gone, Ood, Targets, Sources}
use Rattle.redodb_model.specs.Reply.{Reply}
use Rattle.redodb_model.specs.Step.{Answers, after}
use Rattle.redodb_model.specs.History.{Line, LegalFrom, left_by}
use Rattle.redodb_model.specs.Changes.{is_stamp_of, changes, changing_from}
use Rattle.redodb_model.proofs.Held.{to_put}
use Rattle.redodb_model.proofs.LetThrough.{stopped_same}

own_stamp : (o : Option Text) (stamp : Text) → not (is_stamp_of o stamp) ≡ false → o ≡ Some stamp
own_stamp None stamp e = absurd (cc)
own_stamp (Some own) stamp e = elim (cases_Bool (bytes_eq own stamp)) [
  | inl is ↦ ap Some ((bytes_decides own stamp).0 is)
  | inr is ↦ absurd (cc)
]

no_stamp : (o : Option Text) → is_some o ≡ false → o ≡ None
no_stamp None e = refl
no_stamp (Some own) e = absurd (cc)

module _ {N : Type 0} (naming : Naming N) where
  pub changing_from-append : (st : State N) (lines more : List (Line N))
      → changing_from naming st (lines ++ more)
      ≡ changing_from naming st lines ++ changing_from naming (left_by naming st lines) more
  changing_from-append st [] more = refl
  changing_from-append st (line ∷ lines) more =
      let first = cond (changes st.records line.command line.reply) (line ∷ []) [] in
      let next = after naming st line.session line.command in
      ap (λ rest. first ++ rest) (changing_from-append next lines more)
      ∙ sym (append_assoc first (changing_from naming next lines)
      (changing_from naming (left_by naming next lines) more))

module _ {N : Type 0} {naming : Naming N} (law : IsNaming naming) where
  -- a name that gets the file that it has
  same_file : (st : State N) (n : N) (file : Option Text) → (st.records.cell n).file ≡ file
      → put naming n (record (st.records.cell n) { file = file }) st.records.cell
      ≡ st.records.cell
  same_file st n file is =
      let there : st.records.cell n ≡ record (st.records.cell n) { file = file } =
      λ i. record (st.records.cell n) { file = is i } in
      fun_ext (λ m. to_put law (λ (c : Cell). c ≡ st.records.cell m) n m
      (record (st.records.cell n) { file = file }) st.records.cell
      (λ d. sym there ∙ ap st.records.cell d) (λ d. refl))

  -- a command that changes nothing leaves the state as it was
  pub unchanging_same : (st : State N) (s : ℕ) (command : Command N) (reply : Reply N)
      → Answers naming st s command reply → changes st.records command reply ≡ false
      → after naming st s command ≡ st
  unchanging_same st s (File n stamp) reply told e =
      let cells = same_file st n (Some stamp) (own_stamp (st.records.cell n).file stamp e) in
      λ i. record { records = record st.records { cell = cells i }; locks = st.locks }
  unchanging_same st s (Gone n) reply told e =
      let cells = same_file st n None (no_stamp (st.records.cell n).file e) in
      λ i. record { records = record st.records { cell = cells i }; locks = st.locks }
  unchanging_same st s Ood reply told e = refl
  unchanging_same st s Targets reply told e = refl
  unchanging_same st s Sources reply told e = refl
  unchanging_same st s command reply told e = stopped_same naming st s command reply told e

  changing_first : (b : Bool) (st : State N) (line : Line N) (rest : List (Line N))
      → changes st.records line.command line.reply ≡ b
      → Answers naming st line.session line.command line.reply
      → LegalFrom naming (after naming st line.session line.command) rest
      → LegalFrom naming st (cond b (line ∷ []) [] ++ rest)
      × (left_by naming st (cond b (line ∷ []) [] ++ rest)
      ≡ left_by naming (after naming st line.session line.command) rest)
  changing_first true st line rest is told legal = ((told, legal), refl)
  changing_first false st line rest is told legal =
      let same : after naming st line.session line.command ≡ st =
      unchanging_same st line.session line.command line.reply told is in (
        subst (λ next. LegalFrom naming next rest) same legal,
        ap (λ next. left_by naming next rest) (sym same),
      )

  -- a legal history stays legal without the lines that change nothing, and leaves the same state
  pub changing_legal : (st : State N) (lines : List (Line N)) → LegalFrom naming st lines
      → LegalFrom naming st (changing_from naming st lines)
      × (left_by naming st (changing_from naming st lines) ≡ left_by naming st lines)
  changing_legal st [] legal = (tt, refl)
  changing_legal st (line ∷ lines) legal =
      let next = after naming st line.session line.command in
      let rest = changing_legal next lines legal.1 in
      let first =
      changing_first (changes st.records line.command line.reply) st line
      (changing_from naming next lines) refl legal.0 rest.0 in
      (first.0, first.1 ∙ rest.1)
