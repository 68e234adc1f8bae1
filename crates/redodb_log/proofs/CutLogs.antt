-- Any beginning of a log is a log of a prefix of its lines, or not even a header.
use Rattle.std.proofs.Common.{◌≡◌, ℕ, ◌<◌, ◌^◌, List, [], ◌∷◌, ◌++◌, length, refl, sym, ap, ◌∙◌, subst, append-nil, inl, inr, arith, append_assoc}
use Rattle.std.specs.Prelude.{◌⊎◌, Some, None}
use Rattle.std.specs.List.{AllByRecursion}
use Rattle.std.proofs.lemmas.List.{append_cancel_left}
use Rattle.redodb_model.specs.Names.{Text, texts}
use Rattle.redodb_model.specs.State.{empty}
use Rattle.redodb_model.specs.History.{Line, left_by}
use Rattle.redodb_history.specs.Support.HistoryTexts.{HasLineForm}
use Rattle.redodb_history.proofs.CutLogs as cuts
use Rattle.redodb_history.proofs.LinesFit.{legal_lines_fit}
use Rattle.redodb_live.specs.Lines.{lines_text_of, names_after}
use Rattle.redodb_dump.specs.Dumps.{dump_of}
use Rattle.redodb_dump.proofs.OneDump.{one_dump}
use Rattle.redodb_log.specs.Logs.{header_words, log_header, dump_header, Past, past_lines, head_of, AreLogged, HasPast, IsLogOf, IsPast, IsTornHead}
use Rattle.redodb_log.proofs.Grown.{all_parts, logged_prefix}

forms_of : (past : Past) (lines : List (Line Text)) → AreLogged (past_lines past ++ lines)
    → length (past_lines past ++ lines) < 2 ^ 32 → AllByRecursion (HasLineForm 65535) lines
forms_of past lines is few =
    (all_parts (HasLineForm 65535) (past_lines past) lines
    (legal_lines_fit 65535 (past_lines past ++ lines) is.legal is.said few).forms).1

-- of two ways to cut a text one comes first
first_of : (a b c d : Text) → a ++ b ≡ c ++ d
    → ((m : Text) × (a ≡ c ++ m)) ⊎ ((m : Text) × (c ≡ a ++ m) × (b ≡ m ++ d))
first_of [] b c d e = inr (c, refl, e)
first_of (x ∷ a) b [] d e = inl (x ∷ a, refl)
first_of (x ∷ a) b (y ∷ c) d e =
    let head : x ≡ y = cc in
    let rest : a ++ b ≡ c ++ d = cc in
    elim (first_of a b c d rest) [
      | inl h ↦ inl (h.0, λ i. head i ∷ h.1 i)
      | inr h ↦ inr (h.0, λ i. sym head i ∷ h.1 i, h.2)
    ]

-- it is a log of a prefix of the lines
abbrev pub IsCutLog : Past → Text → List (Line Text) → Type 0
IsCutLog past cut lines =
    (prefix : List (Line Text)) × (back : List (Line Text)) × (torn : Text)
    × (lines ≡ prefix ++ back) × IsLogOf past cut prefix torn

-- if what comes before the lines is whole
pub cut_behind : (past : Past) (cut more rest : Text) (lines : List (Line Text)) → IsPast past
    → AreLogged (past_lines past ++ lines) → length (past_lines past ++ lines) < 2 ^ 32
    → cut ≡ head_of past ++ more → lines_text_of lines ≡ more ++ rest → IsCutLog past cut lines
cut_behind past cut more rest lines is_past is few whole e =
    let (prefix, back, torn, parts, found, free) =
    cuts.cut_lines 65535 lines more rest (omega arith) (forms_of past lines is few) e in (
      prefix,
      back,
      torn,
      parts,
      record {
        is_past = is_past;
        logged = logged_prefix (past_lines past ++ prefix) back
            (subst AreLogged (sym (append_assoc (past_lines past) prefix back))
            (subst (λ (l : List (Line Text)). AreLogged (past_lines past ++ l)) parts is));
        parts = whole ∙ ap (λ (t : Text). head_of past ++ t) found
            ∙ sym (append_assoc (head_of past) (lines_text_of prefix) torn);
        free = free;
      },
    )

module _ (past : Past) (whole cut rest : Text) (lines : List (Line Text))
    (is : IsLogOf past whole lines []) (few : length (past_lines past ++ lines) < 2 ^ 32)
    (e : whole ≡ cut ++ rest)
  where
    regrouped : (head : Text) → head ≡ head_of past → head ++ lines_text_of lines ≡ cut ++ rest
    regrouped head same = ap (λ (t : Text). t ++ lines_text_of lines) same
        ∙ sym (append-nil (head_of past ++ lines_text_of lines)) ∙ sym is.parts ∙ e

    -- cut after the head, or at its end
    behind : (m : Text) → cut ≡ head_of past ++ m → lines_text_of lines ≡ m ++ rest
        → IsCutLog past cut lines
    behind m = cut_behind past cut m rest lines is.is_past is.logged few

pub cut_log : (past : Past) (whole cut rest : Text) (lines : List (Line Text))
    → IsLogOf past whole lines [] → length (past_lines past ++ lines) < 2 ^ 32
    → whole ≡ cut ++ rest → IsTornHead past cut ⊎ IsCutLog past cut lines
cut_log None whole cut rest lines is few e =
    by (first_of header_words (10 ∷ lines_text_of lines) cut rest
    (regrouped None whole cut rest lines is few e log_header refl))
  where
    after : (m : Text) → cut ≡ header_words ++ m → 10 ∷ lines_text_of lines ≡ m ++ rest
        → IsTornHead None cut ⊎ IsCutLog None cut lines
    after [] whole_is same = inl ([], sym (append-nil cut ∙ whole_is))
    after (b ∷ more) whole_is same =
        let first : b ≡ 10 = cc in
        let others : lines_text_of lines ≡ more ++ rest = cc in
        inr (behind None whole cut rest lines is few e more
        (whole_is ∙ ap (λ (x : ℕ). header_words ++ x ∷ more) first) others)

    by : ((m : Text) × (header_words ≡ cut ++ m))
        ⊎ ((m : Text) × (cut ≡ header_words ++ m) × (10 ∷ lines_text_of lines ≡ m ++ rest))
        → IsTornHead None cut ⊎ IsCutLog None cut lines
    by (inl torn) = inl torn
    by (inr (m, whole_is, same)) = after m whole_is same
cut_log (Some before) whole cut rest lines is few e =
    by (first_of (head_of (Some before)) (lines_text_of lines) cut rest
    (regrouped (Some before) whole cut rest lines is few e (head_of (Some before)) refl))
  where
    by : ((m : Text) × (head_of (Some before) ≡ cut ++ m))
        ⊎ ((m : Text) × (cut ≡ head_of (Some before) ++ m) × (lines_text_of lines ≡ m ++ rest))
        → IsTornHead (Some before) cut ⊎ IsCutLog (Some before) cut lines
    by (inl torn) = inl torn
    by (inr (m, whole_is, same)) =
        inr (behind (Some before) whole cut rest lines is few e m whole_is same)

pub one_log : (past : Past) (bytes : Text) (a b : List (Line Text)) (r s : Text)
    → IsLogOf past bytes a r → IsLogOf past bytes b s → length (past_lines past ++ a) < 2 ^ 32
    → length (past_lines past ++ b) < 2 ^ 32 → (a ≡ b) × (r ≡ s)
one_log past bytes a b r s p q few other =
    let same : head_of past ++ (lines_text_of a ++ r) ≡ head_of past ++ (lines_text_of b ++ s) =
    sym (append_assoc (head_of past) (lines_text_of a) r) ∙ sym p.parts ∙ q.parts
    ∙ append_assoc (head_of past) (lines_text_of b) s in
    cuts.one_cut 65535 a b r s (omega arith) (forms_of past a p.logged few)
    (forms_of past b q.logged other) p.free q.free
    (append_cancel_left (head_of past) (lines_text_of a ++ r) (lines_text_of b ++ s) same)

pub one_past : (bytes : Text) (a b : List (Line Text)) → HasPast (Some a) bytes
    → HasPast (Some b) bytes
    → (names_after a ≡ names_after b) × (left_by texts empty a ≡ left_by texts empty b)
one_past bytes a b (p, (rest, e)) (q, (more, f)) =
    let dump = λ (l : List (Line Text)). dump_of (names_after l) (left_by texts empty l) in
    let same : dump_header ++ (dump a ++ rest) ≡ dump_header ++ (dump b ++ more) =
    sym (append_assoc dump_header (dump a) rest) ∙ sym e ∙ f
    ∙ append_assoc dump_header (dump b) more in
    let one = one_dump (names_after a) (names_after b) (left_by texts empty a)
    (left_by texts empty b) rest more p.dumped q.dumped
    (append_cancel_left dump_header (dump a ++ rest) (dump b ++ more) same) in
    (one.0, one.1)
