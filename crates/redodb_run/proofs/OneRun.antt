-- A session's commands determine its replies.
use Rattle.std.proofs.Common.{◌≡◌, ℕ, ◌<◌, Bool, true, false, not, ◌||◌, cond, List, [], ◌∷◌, ◌++◌, Some, length, refl, ap, ◌∙◌, sym, subst, map, lit<, arith}
use Rattle.std.specs.List.{AllByRecursion}
use Rattle.redodb_model.specs.Names.{Naming, Text, texts}
use Rattle.redodb_model.specs.Support.Names.{IsNaming}
use Rattle.redodb_model.specs.Reply.{Reply, lets_through}
use Rattle.redodb_model.specs.Scripts.{done_by, Does}
use Rattle.redodb_model.specs.State.{State, empty}
use Rattle.redodb_model.specs.Command.{Command, Item}
use Rattle.redodb_model.specs.Step.{Answers, after}
use Rattle.redodb_model.specs.Closing.{ClosesAfter}
use Rattle.redodb_model.specs.History.{Line, left_by, Legal, LegalFrom}
use Rattle.redodb_model.proofs.Texts.{texts_are_names}
use Rattle.redodb_model.proofs.Unique.{one_answer}
use Rattle.redodb_text.specs.Grammar.{IsScript}
use Rattle.redodb_run.specs.RunTexts.{run_text_of, sessions_below}
use Rattle.redodb_text.proofs.ScriptLaws.{one_script}
use Rattle.redodb_run.specs.Runs.{IsRun, RunsAs}
use Rattle.redodb_run.specs.Files.{AreAccepted}
use Rattle.redodb_run.proofs.Lists.{all-front, all-back}
use Rattle.redodb_run.proofs.Parts.{whole_part}

-- below 1 there is session 0 alone
pub alone : {N : Type 0} (lines : List (Line N)) → AllByRecursion (λ line. line.session < 1) lines
    → AllByRecursion (λ line. line.session ≡ 0) lines
alone [] h = tt
alone (line ∷ lines) h = (omega (arith, h.0), alone lines h.1)

module _ {N : Type 0} {naming : Naming N} (law : IsNaming naming) where
  -- one state gives one reply to one command
  one_line : (st : State N) (a b : Line N) → a.session ≡ b.session → a.command ≡ b.command
      → Answers naming st a.session a.command a.reply
      → Answers naming st b.session b.command b.reply → a ≡ b
  one_line st a b sessions commands p q =
      let q_at_a : Answers naming st a.session a.command b.reply =
      subst (λ (at : ℕ × Command N). Answers naming st at.0 at.1 b.reply)
      (λ i. (sym sessions i, sym commands i)) q in
      let replies = one_answer law st a.session a.command a.reply b.reply p q_at_a in
      λ i. record { session = sessions i; command = commands i; reply = replies i }

  abbrev asked : List (Line N) → List (Command N)
  asked lines = map (λ line. line.command) lines

  abbrev replied : List (Line N) → List (Reply N)
  replied lines = map (λ line. line.reply) lines

  passed : {R : Type 0} (b : Bool) (c : Command N) (ds xs ys m : List (Command N))
      → ([] ≡ xs → m ≡ ys → R) → [] ≡ cond b (c ∷ []) xs → m ≡ cond b (c ∷ ds) ys → R
  passed true c ds xs ys m rest e f = absurd (cc)
  passed false c ds xs ys m rest e f = rest e f

  taken : {R : Type 0} (b : Bool) (c : Command N) (ds es xs ys m n : List (Command N))
      → (m ≡ c ∷ ds → n ≡ c ∷ es → R) → (m ≡ xs → n ≡ ys → R)
      → m ≡ cond b (c ∷ ds) xs → n ≡ cond b (c ∷ es) ys → R
  taken true c ds es xs ys m n done skipped e f = done e f
  taken false c ds es xs ys m n done skipped e f = skipped e f

  -- if the scripts are the same, so are the lines
  one_history : (st : State N) (through : Bool) (items : List (Item N)) (lines more : List (Line N))
      → AllByRecursion (λ line. line.session ≡ 0) lines
      → AllByRecursion (λ line. line.session ≡ 0) more
      → asked lines ≡ done_by through items (replied lines)
      → asked more ≡ done_by through items (replied more)
      → LegalFrom naming st lines → LegalFrom naming st more → lines ≡ more
  one_history st through items [] [] s t e f p q = refl
  one_history st through [] [] (b ∷ more) s t e f p q = absurd (cc)
  one_history st through [] (a ∷ lines) more s t e f p q = absurd (cc)
  one_history st through (item ∷ items) [] (b ∷ more) s t e f p q =
      passed (through || not item.guarded) item.command
      (done_by (lets_through b.reply) items (replied more)) (done_by through items [])
      (done_by through items (replied (b ∷ more))) (asked (b ∷ more))
      (λ x y. one_history st through items [] (b ∷ more) s t x y p q) e f
  one_history st through (item ∷ items) (a ∷ lines) [] s t e f p q =
      passed (through || not item.guarded) item.command
      (done_by (lets_through a.reply) items (replied lines)) (done_by through items [])
      (done_by through items (replied (a ∷ lines))) (asked (a ∷ lines))
      (λ x y. one_history st through items (a ∷ lines) [] s t y x p q) f e
  one_history st through (item ∷ items) (a ∷ lines) (b ∷ more) s t e f p q =
      taken (through || not item.guarded) item.command
      (done_by (lets_through a.reply) items (replied lines))
      (done_by (lets_through b.reply) items (replied more))
      (done_by through items (replied (a ∷ lines))) (done_by through items (replied (b ∷ more)))
      (asked (a ∷ lines)) (asked (b ∷ more))
      (λ x y.
      let sessions : a.session ≡ b.session = s.0 ∙ sym t.0 in
      let first_a : a.command ≡ item.command = cc in
      let first_b : b.command ≡ item.command = cc in
      let commands = first_a ∙ sym first_b in
      let rest_a : asked lines ≡ done_by (lets_through a.reply) items (replied lines) = cc in
      let rest_b : asked more ≡ done_by (lets_through b.reply) items (replied more) = cc in
      let first = one_line st a b sessions commands p.0 q.0 in
      let rest_of_a : asked more ≡ done_by (lets_through a.reply) items (replied more) =
      rest_b
      ∙ ap (λ (l : Line N). done_by (lets_through l.reply) items (replied more)) (sym first) in
      let legal : LegalFrom naming (after naming st a.session a.command) more =
      subst (λ next. LegalFrom naming next more)
      (λ i. after naming st (sym sessions i) (sym commands i)) q.1 in
      let rest = one_history (after naming st a.session a.command) (lets_through a.reply) items
      lines more s.1 t.1 rest_a rest_of_a p.1 legal in
      λ i. first i ∷ rest i)
      (λ x y. one_history st through items (a ∷ lines) (b ∷ more) s t x y p q) e f

  legal_parts : (st : State N) (own closing : List (Line N)) → LegalFrom naming st (own ++ closing)
      → LegalFrom naming st own × LegalFrom naming (left_by naming st own) closing
  legal_parts st [] closing legal = (tt, legal)
  legal_parts st (line ∷ own) closing legal =
      let rest = legal_parts (after naming st line.session line.command) own closing legal.1 in
      ((legal.0, rest.0), rest.1)

  -- the same closing lines follow the same lines
  one_closing : (st : State N) (own a b : List (Line N))
      → AllByRecursion (λ line. line.session ≡ 0) a → AllByRecursion (λ line. line.session ≡ 0) b
      → ClosesAfter naming own a → ClosesAfter naming own b
      → LegalFrom naming st a → LegalFrom naming st b → a ≡ b
  one_closing st own [] [] s t e f p q = refl
  one_closing st own [] (b ∷ bs) s t e f p q = absurd (let wrong = f.0 in cc)
  one_closing st own (a ∷ left) [] s t e f p q = absurd (let wrong = e.0 in cc)
  one_closing st own (a ∷ left) (b ∷ bs) s t e f p q =
      let told : Some a.command ≡ Some b.command = sym e.0 ∙ f.0 in
      let commands : a.command ≡ b.command = cc in
      let first = one_line st a b (s.0 ∙ sym t.0) commands p.0 q.0 in
      let closes : ClosesAfter naming (own ++ a ∷ []) bs =
      subst (λ (l : Line N). ClosesAfter naming (own ++ l ∷ []) bs) (sym first) f.1 in
      let legal : LegalFrom naming (after naming st a.session a.command) bs =
      subst (λ (l : Line N). LegalFrom naming (after naming st l.session l.command) bs)
      (sym first) q.1 in
      let rest = one_closing (after naming st a.session a.command) (own ++ a ∷ []) left bs s.1 t.1
      e.1 closes p.1 legal in
      λ i. first i ∷ rest i

  -- all that a session does
  one_doing : (script : List (Item N)) (lines more : List (Line N))
      → AllByRecursion (λ line. line.session ≡ 0) lines
      → AllByRecursion (λ line. line.session ≡ 0) more
      → Does naming script lines → Does naming script more
      → Legal naming lines → Legal naming more → lines ≡ more
  one_doing script lines more s t one other p q =
      let IsFirst : Line N → Type 0 = λ line. line.session ≡ 0 in
      let s_both = subst (AllByRecursion IsFirst) one.both s in
      let t_both = subst (AllByRecursion IsFirst) other.both t in
      let p_both = legal_parts empty one.own one.closing (subst (Legal naming) one.both p) in
      let q_both = legal_parts empty other.own other.closing (subst (Legal naming) other.both q) in
      let own : one.own ≡ other.own =
      one_history empty true script one.own other.own (all-front IsFirst one.own one.closing s_both)
      (all-front IsFirst other.own other.closing t_both) one.done other.done p_both.0 q_both.0 in
      let closing : one.closing ≡ other.closing =
      one_closing (left_by naming empty one.own) one.own one.closing other.closing
      (all-back IsFirst one.own one.closing s_both) (all-back IsFirst other.own other.closing t_both)
      one.closes (subst (λ ls. ClosesAfter naming ls other.closing) (sym own) other.closes)
      p_both.1
      (subst (λ ls. LegalFrom naming (left_by naming empty ls) other.closing) (sym own) q_both.1) in
      one.both ∙ (λ i. own i ++ closing i) ∙ sym other.both

-- the lines of one session's run are what its script does
pub one_done : (script : List (Item Text)) (lines : List (Line Text))
    → IsRun (script ∷ []) lines → Does texts script lines
one_done script lines run =
    subst (Does texts script) (whole_part lines (alone lines run.sessions))
    (run.parts 0 (lit< tt))

-- one run for the script of one session
pub one_run : (script : List (Item Text)) (a b : List (Line Text)) → IsRun (script ∷ []) a
    → IsRun (script ∷ []) b → a ≡ b
one_run script a b p q =
    one_doing texts_are_names script a b (alone a p.sessions) (alone b q.sessions)
    (one_done script a p) (one_done script b q) p.legal q.legal

-- the script of one file
record IsOnly (file : Text) (scripts : List (List (Item Text))) : Type 0 where
  script : List (Item Text)
  names : List Text
  whole : scripts ≡ script ∷ []
  is : IsScript [] file script names

only_script : (file : Text) (scripts : List (List (Item Text))) (names : List Text)
    → AreAccepted [] (Some file ∷ []) scripts names → IsOnly file scripts
only_script file [] names are = absurd are
only_script file (script ∷ []) names are = record {
  script = script;
  names = are.0;
  whole = refl;
  is = are.1.1;
}
only_script file (script ∷ more ∷ scripts) names are = absurd are.2

-- one run text for the bytes of one file
pub one_run_text : (file a b : Text) → RunsAs (Some file ∷ []) a → RunsAs (Some file ∷ []) b → a ≡ b
one_run_text file a b (scripts, (some, few, (names, are)), (lines, run, is))
    (others, (one, most, (more_names, accepted)), (more, other_run, is_other)) =
    let p : IsOnly file scripts = only_script file scripts names are in
    let q : IsOnly file others = only_script file others more_names accepted in
    let commands : p.script ≡ q.script =
    (one_script [] file p.script q.script p.names q.names p.is q.is).0 in
    let first : scripts ≡ q.script ∷ [] =
    p.whole ∙ ap (λ (cs : List (Item Text)). cs ∷ []) commands in
    let same : lines ≡ more =
    one_run q.script lines more (subst (λ (all : List (List (Item Text))). IsRun all lines)
    first run) (subst (λ (all : List (List (Item Text))). IsRun all more) q.whole
    other_run) in
    let scripts_same : scripts ≡ others = first ∙ sym q.whole in
    is
    ∙ (λ i. run_text_of (scripts_same i) (sessions_below (length (scripts_same i))) (same i))
    ∙ sym is_other
