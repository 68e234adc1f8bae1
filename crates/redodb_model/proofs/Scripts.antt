-- A whole journal has all that a session does with its script.
use Rattle.std.proofs.Common.{◌≡◌, ℕ, ◌+◌, Bool, true, false, not, ◌||◌, cond, List, [], ◌∷◌, ◌++◌, map, drop, Some, None, refl, sym, ap, ◌∙◌, append_assoc, append-nil}
use Rattle.std.proofs.lemmas.List.{drop-drop, map-append}
use Rattle.std.proofs.lemmas.Option.{none-some}
use Rattle.std.proofs.lemmas.Simd.{map-map}
use Rattle.redodb_model.specs.Names.{Naming}
use Rattle.redodb_model.specs.Command.{Command, Item}
use Rattle.redodb_model.specs.Reply.{Reply, Okay, lets_through}
use Rattle.redodb_model.specs.History.{Line}
use Rattle.redodb_model.specs.Placed.{PlacedLine, line_of}
use Rattle.redodb_model.specs.Journals.{Numbered, first_from, next_line_of, numbered, IsWholeJournal}
use Rattle.redodb_model.specs.Renaming.{named_command, named_item, named_reply}
use Rattle.redodb_model.specs.Scripts.{done_by, Does}
use Rattle.redodb_model.proofs.Nexts.{next_line_of_more}
use Rattle.redodb_model.proofs.Parts.{IsLined, WholeParts, whole_parts}

module _ {N : Type 0} where
  abbrev found_at : ℕ → Item N → Numbered N
  found_at here item = record { number = here; command = item.command }

  abbrev asked : List (PlacedLine N) → List (Command N)
  asked lines = map (λ line. line.command) lines

  abbrev replied : List (PlacedLine N) → List (Reply N)
  replied lines = map (λ line. line.reply) lines

  none_done : (b through : Bool) (here : ℕ) (item : Item N) (items : List (Item N))
      → cond b (Some (found_at here item)) (first_from through (here + 1) items) ≡ None
      → (first_from through (here + 1) items ≡ None → [] ≡ done_by through items [])
      → [] ≡ cond b (item.command ∷ []) (done_by through items [])
  none_done true through here item items e more = absurd (none-some _ (sym e))
  none_done false through here item items e more = more e

  -- if no line is next, nothing is done
  nothing_done : (through : Bool) (here : ℕ) (items : List (Item N))
      → first_from through here items ≡ None → [] ≡ done_by through items []
  nothing_done through here [] e = refl
  nothing_done through here (item ∷ items) e =
      none_done (through || not item.guarded) through here item items e
      (nothing_done through (here + 1) items)

  module _ (s : ℕ) (script : List (Item N)) where
    one_done : (b through : Bool) (here : ℕ) (item : Item N) (items : List (Item N))
        (before lines : List (PlacedLine N)) (line : PlacedLine N)
        → drop here script ≡ item ∷ items
        → cond b (Some (found_at here item)) (first_from through (here + 1) items)
        ≡ Some (numbered line)
        → (first_from through (here + 1) items ≡ Some (numbered line)
        → asked (line ∷ lines) ≡ done_by through items (replied (line ∷ lines)))
        → (next_line_of script (before ++ line ∷ [])
        ≡ first_from (lets_through line.reply) (here + 1) items
        → asked lines ≡ done_by (lets_through line.reply) items (replied lines))
        → asked (line ∷ lines) ≡ cond b
        (item.command ∷ done_by (lets_through line.reply) items (replied lines))
        (done_by through items (replied (line ∷ lines)))
    one_done true through here item items before lines line rest told skipped done =
        let same : found_at here item ≡ numbered line = cc in
        let number : here + 1 ≡ line.number + 1 = ap (λ (n : Numbered N). n.number + 1) same in
        let left : drop (line.number + 1) script ≡ items =
        ap (λ n. drop n script) (sym number) ∙ sym (drop-drop 1 here script) ∙ ap (drop 1) rest in
        let more = done (next_line_of_more script before line
        ∙ (λ i. first_from (lets_through line.reply) (sym number i) (left i))) in
        let first : line.command ≡ item.command = ap (λ (n : Numbered N). n.command) (sym same) in
        λ i. first i ∷ more i
    one_done false through here item items before lines line rest told skipped done = skipped told

    does_after : (through : Bool) (here : ℕ) (items : List (Item N))
        (before lines : List (PlacedLine N))
        → drop here script ≡ items → next_line_of script before ≡ first_from through here items
        → IsLined s script before lines → next_line_of script (before ++ lines) ≡ None
        → asked lines ≡ done_by through items (replied lines)
    does_after through here items before [] rest next is none =
        nothing_done through here items
        (sym next ∙ ap (next_line_of script) (sym (append-nil before)) ∙ none)
    does_after through here [] before (line ∷ lines) rest next is none =
        absurd (none-some _ (sym next ∙ is.1))
    does_after through here (item ∷ items) before (line ∷ lines) rest next is none =
        let left : drop (here + 1) script ≡ items =
        sym (drop-drop 1 here script) ∙ ap (drop 1) rest in
        one_done (through || not item.guarded) through here item items before lines line rest
        (sym next ∙ is.1)
        (λ e. does_after through (here + 1) items before (line ∷ lines) left (is.1 ∙ sym e) is none)
        (λ e. does_after (lets_through line.reply) (here + 1) items (before ++ line ∷ []) lines left
        e is.2 (ap (next_line_of script) (append_assoc before (line ∷ []) lines) ∙ none))

module _ {N : Type 0} (naming : Naming N) (s : ℕ) (script : List (Item N)) where
  does_by_parts : (lines : List (PlacedLine N)) → WholeParts naming s script lines
      → Does naming script (map line_of lines)
  does_by_parts lines parts = record {
    own = map line_of parts.own;
    closing = map line_of parts.closing;
    both = ap (map line_of) parts.both ∙ map-append line_of parts.own parts.closing;
    done = map-map (λ (line : Line N). line.command) line_of parts.own
        ∙ does_after s script true 0 script [] parts.own refl refl parts.lined parts.ended
        ∙ ap (done_by true script)
        (sym (map-map (λ (line : Line N). line.reply) line_of parts.own));
    closes = parts.closes;
  }

  -- all that is done, in the order of the replies
  pub whole_does : (lines : List (PlacedLine N)) → IsWholeJournal naming s script lines
      → Does naming script (map line_of lines)
  whole_does lines whole = does_by_parts lines (whole_parts naming s script lines whole)

-- other names change nothing of it
module _ {N M : Type 0} (name : N → M) where
  pub lets_named : (reply : Reply N) → lets_through (named_reply name reply) ≡ lets_through reply
  lets_named Okay = refl
  lets_named reply = refl

  cond_named : (b : Bool) (xs ys : List (Command N)) (us vs : List (Command M))
      → us ≡ map (named_command name) xs → vs ≡ map (named_command name) ys
      → cond b us vs ≡ map (named_command name) (cond b xs ys)
  cond_named true xs ys us vs e f = e
  cond_named false xs ys us vs e f = f

  pub done_named : (through : Bool) (items : List (Item N)) (replies : List (Reply N))
      → done_by through (map (named_item name) items) (map (named_reply name) replies)
      ≡ map (named_command name) (done_by through items replies)
  done_named through [] replies = refl
  done_named through (item ∷ items) [] =
      cond_named (through || not item.guarded) (item.command ∷ []) (done_by through items [])
      (named_command name item.command ∷ [])
      (done_by through (map (named_item name) items) []) refl (done_named through items [])
  done_named through (item ∷ items) (reply ∷ replies) =
      let named = map (named_item name) items in
      let others = map (named_reply name) replies in
      cond_named (through || not item.guarded)
      (item.command ∷ done_by (lets_through reply) items replies)
      (done_by through items (reply ∷ replies))
      (named_command name item.command ∷ done_by (lets_through (named_reply name reply)) named
      others)
      (done_by through named (named_reply name reply ∷ others))
      (ap (λ commands. named_command name item.command ∷ commands)
      (ap (λ b. done_by b named others) (lets_named reply)
      ∙ done_named (lets_through reply) items replies))
      (done_named through items (reply ∷ replies))
