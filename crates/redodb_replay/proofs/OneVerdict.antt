-- Lines have one verdict.
use Rattle.std.proofs.Common.{◌≡◌, ◌↔◌, ◌≢◌, ℕ, ◌+◌, suc, List, [], ◌∷◌, ◌++◌, refl, sym, ap, ◌∙◌, subst, length}
use Rattle.redodb_model.specs.Names.{Text, texts}
use Rattle.redodb_model.specs.State.{State, empty}
use Rattle.redodb_model.specs.Reply.{Reply}
use Rattle.redodb_model.specs.Step.{Answers, after}
use Rattle.redodb_model.specs.History.{Line, left_by, LegalFrom, Legal}
use Rattle.redodb_model.proofs.Texts.{texts_are_names}
use Rattle.redodb_model.proofs.Unique.{one_answer}
use Rattle.redodb_commands.specs.Meaning.{reply_at}
use Rattle.redodb_replay.specs.Verdicts.{Verdict, Same, Differs, IsSame, IsVerdict, IsFirstWrong, verdict_at}
use Rattle.redodb_history.specs.declared.verdict.Verdict as declared
use Rattle.redodb_history.specs.declared.verdict.Verdict.TheVariants as coded

-- this line's reply is wrong after these lines, which are legal, and this is the right one
record IsWrong (st : State Text) (before : List (Line Text)) (wrong : Line Text)
    (reply : Reply Text) : Type 0 where
  pub legal : LegalFrom texts st before
  pub answers : Answers texts (left_by texts st before) wrong.session wrong.command reply
  pub differs : reply ≢ wrong.reply

-- the same without the first line
without_first : (st : State Text) (first : Line Text) (before : List (Line Text))
    (wrong : Line Text) (reply : Reply Text)
    → IsWrong st (first ∷ before) wrong reply
    → IsWrong (after texts st first.session first.command) before wrong reply
without_first st first before wrong reply is = record {
  legal = is.legal.1;
  answers = is.answers;
  differs = is.differs;
}

-- a line with the right reply is not wrong
not_wrong : (st : State Text) (line : Line Text) (reply : Reply Text)
    → Answers texts st line.session line.command line.reply → IsWrong st [] line reply → ⊥
not_wrong st line reply answers is =
    is.differs (one_answer texts_are_names st line.session line.command reply line.reply is.answers
    answers)

-- a line of legal lines is not wrong
legal_not_wrong : (st : State Text) (before : List (Line Text)) (wrong : Line Text)
    (rest : List (Line Text)) (reply : Reply Text)
    → LegalFrom texts st (before ++ wrong ∷ rest) → IsWrong st before wrong reply → ⊥
legal_not_wrong st [] wrong rest reply legal is = not_wrong st wrong reply legal.0 is
legal_not_wrong st (first ∷ before) wrong rest reply legal is =
    legal_not_wrong (after texts st first.session first.command) before wrong rest reply legal.1
    (without_first st first before wrong reply is)

-- the first wrong line is one, and so is its right reply
one_wrong : (st : State Text) (xs ys : List (Line Text)) (x y : Line Text)
    (more rest : List (Line Text)) (a b : Reply Text)
    → xs ++ x ∷ more ≡ ys ++ y ∷ rest → IsWrong st xs x a → IsWrong st ys y b
    → (length xs ≡ length ys) × (a ≡ b)
one_wrong st [] [] x y more rest a b same p q =
    let lines : x ≡ y = cc in
    let moved = subst (λ line. IsWrong st [] line b) (sym lines) q in
    (refl, one_answer texts_are_names st x.session x.command a b p.answers moved.answers)
one_wrong st [] (first ∷ ys) x y more rest a b same p q =
    let lines : first ≡ x = cc in
    absurd (not_wrong st x a (subst (λ line. Answers texts st line.session line.command line.reply)
    lines q.legal.0) p)
one_wrong st (first ∷ xs) [] x y more rest a b same p q =
    let lines : first ≡ y = cc in
    absurd (not_wrong st y b (subst (λ line. Answers texts st line.session line.command line.reply)
    lines p.legal.0) q)
one_wrong st (first ∷ xs) (second ∷ ys) x y more rest a b same p q =
    let firsts : first ≡ second = cc in
    let others : xs ++ x ∷ more ≡ ys ++ y ∷ rest = cc in
    let moved = subst (λ line. IsWrong st (line ∷ ys) y b) (sym firsts) q in
    let both = one_wrong (after texts st first.session first.command) xs ys x y more rest a b others
    (without_first st first xs x a p) (without_first st first ys y b moved) in
    (ap suc both.0, both.1)

first_is_wrong : (lines : List (Line Text)) (number : ℕ) (reply : Reply Text)
    (is : IsFirstWrong lines number reply) → IsWrong empty is.before is.wrong reply
first_is_wrong lines number reply is = record {
  legal = is.legal;
  answers = is.answers;
  differs = is.differs;
}

-- legal lines have no wrong one
none_wrong : (lines : List (Line Text)) (number : ℕ) (reply : Reply Text) → Legal texts lines
    → IsFirstWrong lines number reply → ⊥
none_wrong lines number reply legal is =
    legal_not_wrong empty is.before is.wrong is.rest reply
    (subst (LegalFrom texts empty) is.split legal) (first_is_wrong lines number reply is)

pub one_verdict : (lines : List (Line Text)) (a b : Verdict) → IsVerdict lines a → IsVerdict lines b
    → a ≡ b
one_verdict lines (Same m) (Same n) p q = ap Same (p.0 ∙ sym q.0)
one_verdict lines (Same m) (Differs n reply) p q = absurd (none_wrong lines n reply p.1 q)
one_verdict lines (Differs m reply) (Same n) p q = absurd (none_wrong lines m reply q.1 p)
one_verdict lines (Differs m a) (Differs n b) p q =
    let both = one_wrong empty p.before q.before p.wrong q.wrong p.rest q.rest a b (sym p.split
    ∙ q.split) (first_is_wrong lines m a p) (first_is_wrong lines n b q) in
    let counted : m ≡ n = p.counted ∙ ap (λ k. k + 1) both.0 ∙ sym q.counted in
    λ i. Differs (counted i) (both.1 i)

-- the lines are legal if their verdict says so
pub same_where_legal : (lines : List (Line Text)) (verdict : Verdict) → IsVerdict lines verdict
    → (verdict ≡ Same (length lines)) ↔ Legal texts lines
same_where_legal lines verdict is = (
  λ same. (subst (IsVerdict lines) same is).1,
  λ legal. one_verdict lines verdict (Same (length lines)) is (refl, legal),
)

-- the same for the code's verdict
pub same_if_legal : (names : List Text) (lines : List (Line Text)) (verdict : declared.Verdict)
    → IsVerdict lines (verdict_at names verdict) → IsSame verdict ↔ Legal texts lines
same_if_legal names lines (coded.Same count) is = (λ same. is.1, λ legal. tt)
same_if_legal names lines (coded.Differs number reply) is =
    (λ same. absurd same, λ legal. none_wrong lines number (reply_at names reply) legal is)
