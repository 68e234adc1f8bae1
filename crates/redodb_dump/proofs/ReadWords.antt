-- A word that is one of a dump is read as what it says.
use Rattle.std.proofs.Common.{◌≡◌, ℕ, zero, suc, ◌+◌, ◌-◌, ◌<◌, ◌≤◌, Bool, true, false, List, [], ◌∷◌, ◌++◌, length, get_or, take, drop, Option, Some, None, IfSome, refl, sym, ap, ◌∙◌, subst, arith, append-nil, inl, inr, if◌then◌else◌, length-drop}
use Rattle.std.specs.Prelude.{codes, decimal, bytes_eq, Contains}
use Rattle.std.specs.Char.{is_ascii_digit}
use Rattle.std.specs.Option.{option_eq}
use Rattle.std.specs.Str.Parse.{AllDigits}
use Rattle.std.proofs.lemmas.Bool.{false≢true}
use Rattle.std.proofs.lemmas.List.{length-take-le, take-append-drop, take_all}
use Rattle.std.proofs.lemmas.Str.Parse.{digit_from_value}
use Rattle.std.proofs.lemmas.List.Elements.{Contains-append_right}
use Rattle.std.proofs.lemmas.Slice.Eq.{bytes_eq-Decides}
use Rattle.hex.specs.Hex.{encode_lower}
use Rattle.redodb_model.specs.Names.{Text}
use Rattle.redodb_model.specs.State.{TargetState, Idle, Building, Built, Failed}
use Rattle.redodb_commands.specs.Stamp.{is_stamp}
use Rattle.redodb_text.specs.Replies.{IsDigest}
use Rattle.redodb_text.specs.Texts.{digest_word, spaced, stamp_word}
use Rattle.redodb_history.specs.HistoryFaults.{IsCutAtSpace}
use Rattle.redodb_history.proofs.CutOnce.{Without, contains_none, one_cut_at_space, same_prefix}
use Rattle.redodb_history.proofs.FreeWords.{without_unseen}
use Rattle.redodb_live.specs.Answers.{holder_word, stage_word}
use Rattle.redodb_dump.specs.Dumps.{IsStampOrNone, done_word, lettered_word}
use Rattle.redodb_dump.specs.Support.Forms.{IsHeldBuilt, IsHolder}
use Rattle.redodb_dump.specs.Support.Read.{HasNoDigit, joined}
use Rattle.redodb_dump.proofs.DumpMarks.{is_digit}
use Rattle.redodb_dump.proofs.DumpWords.{IsWord, same_done}

-- stamps

pub file_found : (word : Text) (read : Option (Option Text))
    → (word ≡ codes "-" → read ≡ Some None)
    → (is_stamp word ≡ true → read ≡ Some (Some word))
    → (file : Option Text) → IsStampOrNone file → word ≡ stamp_word file → read ≡ Some file
file_found word read none stamp None is e = none e
file_found word read none stamp (Some s) is e =
    stamp (ap is_stamp e ∙ is) ∙ ap (λ (t : Text). Some (Some t)) e

itself : (o : Option Text) → option_eq bytes_eq o o ≡ true
itself None = refl
itself (Some s) = (bytes_eq-Decides s s).1 refl

pub done_found : (word : Text) (file : Option Text) (read : Option (Option Text))
    → (word ≡ codes "=" → read ≡ Some file)
    → (word ≡ codes "-" → read ≡ Some None)
    → ((s : Text) → is_stamp s ≡ true → word ≡ codes "s" ++ s → read ≡ Some (Some s))
    → (done : Option Text) → IsStampOrNone done → word ≡ done_word file done
    → read ≡ Some done
done_found word file read same none stamp done is e =
    by (option_eq bytes_eq done file) refl e
  where
    other : (done : Option Text) → IsStampOrNone done → word ≡ lettered_word done
        → read ≡ Some done
    other None is e = none e
    other (Some s) is e = stamp s is e

    by : (b : Bool) → option_eq bytes_eq done file ≡ b
        → word ≡ (if b then codes "=" else lettered_word done) → read ≡ Some done
    by true eq e =
        same e ∙ ap Some (same_done file file done
        (ap (λ (b : Bool). if b then codes "=" else lettered_word file) (itself file)
        ∙ sym (ap (λ (b : Bool). if b then codes "=" else lettered_word done) eq)))
    by false eq e = other done is e

-- digests

pub digest_found : (word : Text) (read : Option (Option Text))
    → (word ≡ codes "-" → read ≡ Some None)
    → ((d : Text) → IsDigest d → word ≡ encode_lower d → read ≡ Some (Some d))
    → (digest : Option Text) → IfSome digest IsDigest → word ≡ digest_word digest
    → read ≡ Some digest
digest_found word read none digits None is e = none e
digest_found word read none digits (Some d) is e = digits d is e

-- holders

pub holder_found : (word : Text) (read : Option (Option ℕ))
    → (word ≡ codes "-" → read ≡ Some None)
    → ((s : ℕ) → s < 65535 → word ≡ decimal (s + 1) → read ≡ Some (Some s))
    → (holder : Option ℕ) → IsHolder holder → word ≡ holder_word holder → read ≡ Some holder
holder_found word read none number None is e = none e
holder_found word read none number (Some s) is e = number s is e

-- states

pub state_found : (word : Text) (holder : Option ℕ) (read : Option TargetState)
    → ((s : ℕ) → holder ≡ Some s → word ≡ codes "building" → read ≡ Some (Building s))
    → (word ≡ codes "built" → read ≡ Some Built)
    → (word ≡ codes "failed" → read ≡ Some Failed)
    → (word ≡ codes "idle" → read ≡ Some Idle)
    → (state : TargetState) → IsHeldBuilt state holder → word ≡ stage_word state
    → read ≡ Some state
state_found word holder read building built failed idle (Building s) held e =
    building s (held s refl) e
state_found word holder read building built failed idle Built held e = built e
state_found word holder read building built failed idle Failed held e = failed e
state_found word holder read building built failed idle Idle held e = idle e

-- lines of words

pub cut_word : (w : Text) (ws : List Text) (text a b : Text) → IsWord w → text ≡ spaced w ws
    → IsCutAtSpace text a b → (a ≡ w) × (b ≡ joined ws)
cut_word w [] text a b is e cut =
    elim cut.parts [
      | inl h ↦ absurd (contains_none 32 w free (subst (λ (t : Text). Contains t 32)
          (sym h ∙ whole) (Contains-append_right a (32 ∷ b) 32 (0, omega arith, refl))))
      | inr h ↦ (sym h.0 ∙ whole, h.1)
    ]
  where
    free : Without 32 w
    free = without_unseen 32 refl w is.0

    whole : text ≡ w
    whole = e ∙ append-nil w
cut_word w (v ∷ vs) text a b is e cut =
    one_cut_at_space text w (spaced v vs) a b (without_unseen 32 refl w is.0) e cut

-- the digits that a text begins with are cut off

digits_are : (ds rest : Text) (at : ℕ) → AllDigits 10 ds → HasNoDigit rest
    → at ≤ length (ds ++ rest)
    → ((k : ℕ) → k < at → is_ascii_digit (get_or (ds ++ rest) k 0) ≡ true)
    → (at < length (ds ++ rest) → is_ascii_digit (get_or (ds ++ rest) at 0) ≡ false)
    → at ≡ length ds
digits_are [] rest zero all none within before end = refl
digits_are [] [] (suc at) all none within before end = absurd (omega arith)
digits_are [] (c ∷ rest) (suc at) all none within before end =
    absurd (false≢true (sym none ∙ before 0 (omega arith)))
digits_are (d ∷ ds) rest zero all none within before end =
    absurd (false≢true (sym (end (omega arith)) ∙ is_digit d (digit_from_value d all.0)))
digits_are (d ∷ ds) rest (suc at) all none within before end =
    ap suc (digits_are ds rest at all.1 none (omega arith)
    (λ k less. before (suc k) (omega arith)) (λ less. end (omega arith)))

-- each byte of digits is one
pub digit_at : (ds : Text) → AllDigits 10 ds → (k : ℕ) → k < length ds
    → is_ascii_digit (get_or ds k 0) ≡ true
digit_at [] all k below = absurd (omega arith)
digit_at (d ∷ ds) all zero below = is_digit d (digit_from_value d all.0)
digit_at (d ∷ ds) all (suc k) below = digit_at ds all.1 k (omega arith)

pub digits_cut : (ds rest word : Text) (at : ℕ) → AllDigits 10 ds → HasNoDigit rest
    → word ≡ ds ++ rest → at ≤ length word
    → ((k : ℕ) → k < at → is_ascii_digit (get_or word k 0) ≡ true)
    → (at < length word → is_ascii_digit (get_or word at 0) ≡ false)
    → (take at word ≡ ds) × (take (length word - at) (drop at word) ≡ rest)
digits_cut ds rest word at all none is within before end =
    let both =
    same_prefix (take at word) ds (drop at word) rest (length-take-le at word within ∙ long)
    (take-append-drop at word ∙ is) in (
      both.0,
      take_all (length word - at) (drop at word) (omega (arith, length-drop at word)) ∙ both.1,
    )
  where
    long : at ≡ length ds
    long =
        digits_are ds rest at all none (subst (λ (w : Text). at ≤ length w) is within)
        (subst (λ (w : Text). (k : ℕ) → k < at → is_ascii_digit (get_or w k 0) ≡ true) is before)
        (subst (λ (w : Text). at < length w → is_ascii_digit (get_or w at 0) ≡ false) is end)
