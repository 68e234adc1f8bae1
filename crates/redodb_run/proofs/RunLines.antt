-- The lines of a run: how many they are, and that each has a command that a script may have, or
-- closes what was locked.
use Rattle.std.proofs.Common.{◌≡◌, ℕ, ◌*◌, ◌<◌, ◌≤◌, suc, Bool, true, false, not, ◌||◌, cond, get_or, List, [], ◌∷◌, ◌++◌, length, length-append, map, sym, ap, subst, arith, ◌&&◌}
use Rattle.std.specs.Prelude.{IsTrue, nat_le}
use Rattle.std.specs.List.{AllByRecursion, filter_map, cons_option, list_all}
use Rattle.std.proofs.lemmas.Bool.{leb-true}
use Rattle.std.proofs.lemmas.List.{length-map}
use Rattle.redodb_names.specs.Names.{is_name, is_reserved}
use Rattle.redodb_model.specs.Names.{Text, texts, is_visible}
use Rattle.redodb_model.specs.Command.{Command, Item, Lock, Unlock, Failed, commands_in, asked_lock}
use Rattle.redodb_model.specs.Reply.{Reply, lets_through}
use Rattle.redodb_model.specs.Closing.{ClosesAfter, builds}
use Rattle.redodb_model.specs.Scripts.{done_by, Does}
use Rattle.redodb_model.specs.History.{Line, part_of}
use Rattle.redodb_model.proofs.Letting.{closing_held, held_is_asked}
use Rattle.redodb_model.proofs.Texts.{texts_are_names}
use Rattle.redodb_text.proofs.Steps.{both}
use Rattle.redodb_run.specs.Runs.{IsRun}
use Rattle.redodb_run.proofs.Asked.{IsAsked, AreAsked, asked_at}
use Rattle.redodb_run.proofs.ByPart.{all_by_part, length_by_part}
use Rattle.redodb_run.proofs.Closings.{closings_accepted, closings_few, of_session}
use Rattle.redodb_run.proofs.Lists.{all-back, all-both}
use Rattle.redodb_history.proofs.KnownNames.{IsKnown, member_of_all}
use Rattle.redodb_run.proofs.Lists.{all-unmapped}

abbrev command_in : Line Text → Command Text
command_in line = line.command

abbrev replies_in : List (Line Text) → List (Reply Text)
replies_in lines = map (λ line. line.reply) lines

module _ {N : Type 0} where
  either_all : (P : Command N → Type 0) (b : Bool) (xs ys : List (Command N))
      → AllByRecursion P xs → AllByRecursion P ys → AllByRecursion P (cond b xs ys)
  either_all P true xs ys p q = p
  either_all P false xs ys p q = q

  -- the commands that are done are commands of the script
  done_all : (P : Command N → Type 0) (through : Bool) (items : List (Item N))
      (replies : List (Reply N)) → AllByRecursion P (commands_in items)
      → AllByRecursion P (done_by through items replies)
  done_all P through [] replies all = tt
  done_all P through (item ∷ items) [] all =
      either_all P (through || not item.guarded) (item.command ∷ []) (done_by through items [])
      (all.0, tt) (done_all P through items [] all.1)
  done_all P through (item ∷ items) (reply ∷ replies) all =
      either_all P (through || not item.guarded)
      (item.command ∷ done_by (lets_through reply) items replies)
      (done_by through items (reply ∷ replies))
      (all.0, done_all P (lets_through reply) items replies all.1)
      (done_all P through items (reply ∷ replies) all.1)

  either_few : (b : Bool) (xs ys : List (Command N)) (n : ℕ) → length xs ≤ n → length ys ≤ n
      → length (cond b xs ys) ≤ n
  either_few true xs ys n p q = p
  either_few false xs ys n p q = q

  -- and no more than it has
  done_few : (through : Bool) (items : List (Item N)) (replies : List (Reply N))
      → length (done_by through items replies) ≤ length items
  done_few through [] replies = omega arith
  done_few through (item ∷ items) [] =
      let rest = done_few through items [] in
      either_few (through || not item.guarded) (item.command ∷ []) (done_by through items [])
      (suc (length items)) (omega arith) (omega arith)
  done_few through (item ∷ items) (reply ∷ replies) =
      let done = done_few (lets_through reply) items replies in
      let skipped = done_few through items (reply ∷ replies) in
      either_few (through || not item.guarded)
      (item.command ∷ done_by (lets_through reply) items replies)
      (done_by through items (reply ∷ replies)) (suc (length items)) (omega arith) (omega arith)

-- a name is short enough for a command's line
short_name : (t : Text) → IsTrue (is_name t) → length t ≤ 255
unfolding is_name
short_name t is =
    let long = nat_le 1 (length t) && nat_le (length t) 255 in
    let good = both long (list_all is_visible t)
    (both (long && list_all is_visible t) (not (is_reserved t)) is).0 in
    let short = (both (nat_le 1 (length t)) (nat_le (length t) 255) good.0).1 in
    leb-true (length t) 255 short

module _ (names : List Text) where
  -- a name that may be locked
  abbrev IsTarget : Text → Type 0
  IsTarget t = IsTrue (is_name t) × IsKnown names t

  abbrev IsAskedLine : Line Text → Type 0
  IsAskedLine line = IsAsked names line.command

  abbrev AreAskedLines : List (Line Text) → Type 0
  AreAskedLines lines = AllByRecursion IsAskedLine lines

  locked_target : (command : Command Text) (ts : List Text) → IsAsked names command
      → AllByRecursion IsTarget ts → AllByRecursion IsTarget (cons_option (asked_lock command) ts)
  locked_target (Lock t) ts asked all = ((asked.said.0, asked.known.0), all)
  locked_target command ts asked all = all

  locked_targets : (own : List (Line Text)) → AreAskedLines own
      → AllByRecursion IsTarget (filter_map (λ line. asked_lock line.command) own)
  locked_targets [] asked = tt
  locked_targets (line ∷ own) asked =
      locked_target line.command (filter_map (λ (l : Line Text). asked_lock l.command) own) asked.0
      (locked_targets own asked.1)

  letting_asked : (b : Bool) (t : Text) → IsTarget t
      → IsAsked names (cond b (Failed t) (Unlock t))
  letting_asked true t is =
      let short = short_name t is.0 in
      let long = length-append t [] in
      record { said = (is.0, omega arith); known = (is.1, tt) }
  letting_asked false t is =
      let short = short_name t is.0 in
      let long = length-append t [] in
      record { said = (is.0, omega arith); known = (is.1, tt) }

  -- a closing command is about a target that the session locked
  closing_asked : (own closing : List (Line Text)) → AreAskedLines own
      → ClosesAfter texts own closing → AreAskedLines closing
  closing_asked own [] all closes = tt
  closing_asked own (line ∷ closing) all closes =
      let (t, held, is) = closing_held texts own line.command closes.0 in
      let target : IsTarget t =
      member_of_all IsTarget (filter_map (λ (l : Line Text). asked_lock l.command) own) t
      (locked_targets own all) (held_is_asked texts_are_names own t held) in
      let asked : IsAsked names line.command =
      subst (IsAsked names) (sym is) (letting_asked (builds texts own t) t target) in
      (asked, closing_asked (own ++ line ∷ []) closing (all-both IsAskedLine own (line ∷ []) all (asked, tt)) closes.1)

  -- all lines of a session have commands that a script may have
  part_asked : (script : List (Item Text)) (part : List (Line Text)) → AreAsked names script
      → Does texts script part → AreAskedLines part
  part_asked script part asked does =
      let own : AreAskedLines does.own =
      all-unmapped command_in (IsAsked names) does.own
      (subst (AllByRecursion (IsAsked names)) (sym does.done)
      (done_all (IsAsked names) true script (replies_in does.own) asked.each)) in
      subst AreAskedLines (sym does.both)
      (all-both IsAskedLine does.own does.closing own (closing_asked does.own does.closing own does.closes))

module _ (names : List Text) (scripts : List (List (Item Text)))
    (asked : AllByRecursion (AreAsked names) scripts) (lines : List (Line Text))
    (run : IsRun scripts lines) where
  -- each line's command is one
  pub lines_asked : AllByRecursion (λ line. IsAsked names line.command) lines
  lines_asked =
      all_by_part (λ line. IsAsked names line.command) (length scripts) lines run.sessions
      (λ s less. part_asked names (get_or scripts s []) (part_of s lines)
      (asked_at names scripts s asked less) (run.parts s less))

  part_few : (s : ℕ) → s < length scripts → length (part_of s lines) ≤ 8192
  part_few s less =
      let does = run.parts s less in
      let okay = closings_accepted texts_are_names s lines does.own does.closing run.legal does.both
      does.closes in
      let of = all-back (λ (line : Line Text). line.session ≡ s) does.own does.closing
      (subst (AllByRecursion (λ (line : Line Text). line.session ≡ s)) does.both
      (of_session s lines)) in
      let closing = closings_few texts_are_names s does.own does.closing of does.closes okay in
      let done = done_few true (get_or scripts s []) (replies_in does.own) in
      let long = length-map does.own command_in in
      let same = ap length does.done in
      let most = (asked_at names scripts s asked less).few in
      omega (arith, length-append does.own does.closing, ap length does.both)

  -- a script's lines are at most 4,096, and no more come after them
  pub few_lines : length lines ≤ length scripts * 8192
  few_lines = length_by_part 8192 (length scripts) lines run.sessions part_few
