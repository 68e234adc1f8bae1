-- Accepted files have no fault but `Memory` and the faults of devices.
use Rattle.std.proofs.Common.{◌≡◌, ℕ, zero, suc, ◌<◌, ◌≤◌, ◌⊎◌, Bool, Option, None, Some, List, [], ◌∷◌, map, take, length, get_or, refl, ap, subst, inl, inr, arith}
use Rattle.std.specs.Prelude.{IfSome}
use Rattle.redodb_model.specs.Names.{Text}
use Rattle.redodb_model.specs.Command.{Item}
use Rattle.redodb_text.specs.declared.fault.LineFault.{LineFault}
use Rattle.redodb_text.specs.Grammar.{IsScript}
use Rattle.redodb_text.specs.Faults.{IsFirstFault, IsDeviceFault}
use Rattle.redodb_text.proofs.ScriptLaws.{one_script}
use Rattle.redodb_text.proofs.ScriptSteps.{no_first_fault}
use Rattle.redodb_text.specs.declared.fault.Fault.{Fault}
use Rattle.redodb_text.specs.declared.fault.Fault.TheVariants.{Memory, Read, TooLong, Line, NoSession, TooManySessions, Write}
use Rattle.redodb_run.specs.Runs.{AreKnownSessions}
use Rattle.redodb_run.specs.Files.{AreAccepted}
use Rattle.redodb_run.specs.Faults.{IsRunCause}

-- a script leaves one list of names
one_after : (names : List Text) (text : Text) (a b : List (Item Text)) (m n : List Text)
    → IsScript names text a m → IsScript names text b n → m ≡ n
one_after names text a b m n p q = (one_script names text a b m n p q).1

-- a file of those that are accepted, after those before it
no_read : (names : List Text) (texts : List Text) (scripts : List (List (Item Text)))
    (after : List Text) → AreAccepted names (map Some texts) scripts after
    → (k : ℕ) → k < length (map Some texts) → (before : List (List (Item Text)))
    (middle : List Text) → AreAccepted names (take k (map Some texts)) before middle
    → (text : Text) × (get_or (map Some texts) k None ≡ Some text) × (length text ≤ 67108864)
    × ((line : ℕ) (fault : LineFault) → IsFirstFault middle text line fault → ⊥)
no_read names [] scripts after are k less before middle prefix = absurd (omega (arith, less))
no_read names (t ∷ ts) [] after are k less before middle prefix = absurd are
no_read names (t ∷ ts) (s ∷ scripts) after (m, is, are) zero less [] middle prefix = (
  t,
  refl,
  is.0,
  λ line fault first.
      no_first_fault names t s m line fault is.1
      (subst (λ (ns : List Text). IsFirstFault ns t line fault) prefix first),
)
no_read names (t ∷ ts) (s ∷ scripts) after (m, is, are) zero less (b ∷ before) middle prefix =
    absurd prefix
no_read names (t ∷ ts) (s ∷ scripts) after (m, is, are) (suc k) less [] middle prefix = absurd
    prefix
no_read names (t ∷ ts) (s ∷ scripts) after (m, is, are) (suc k) less (b ∷ before) middle
    (n, other, prefix) =
    no_read m ts scripts after are k (omega (arith, less)) before middle
    (subst (λ (ns : List Text). AreAccepted ns (take k (map Some ts)) before middle)
    (one_after names t b s n m other.1 is.1) prefix)

module _ (texts : List Text) (scripts : List (List (Item Text))) (names : List Text)
    (some : 1 ≤ length (map Some texts)) (few : length (map Some texts) ≤ 64)
    (are : AreAccepted [] (map Some texts) scripts names) where
  only_for : (failed : ℕ → Bool) (out : Bool) (fault : Fault)
      → IsRunCause (map Some texts) failed out fault → (fault ≡ Memory) ⊎ IsDeviceFault fault
  only_for failed out Memory cause = inl refl
  only_for failed out (Read file) cause = inr tt
  only_for failed out (TooLong file) (middle, (less, (before, prefix)), cause) =
      let no = no_read [] texts scripts names are file less before middle prefix in
      let long =
      subst (λ (o : Option Text). IfSome o (λ bytes. 67108864 < length bytes)) no.1 cause in
      let short = no.2 in
      absurd (omega arith)
  only_for failed out (Line file line fault) (middle, (less, (before, prefix)), cause) =
      let no = no_read [] texts scripts names are file less before middle prefix in
      let first =
      subst
      (λ (o : Option Text). IfSome o (λ bytes. (length bytes ≤ 67108864)
      × IsFirstFault middle bytes line fault)) no.1 cause in
      absurd (no.3 line fault first.1)
  only_for failed out NoSession cause = let none = ap length cause in absurd (omega arith)
  only_for failed out TooManySessions cause = let many = cause.0 in absurd (omega arith)
  only_for failed out Write cause = inr tt
  only_for failed out fault cause = absurd cause

pub refused_only : (files : List (Option Text)) (failed : ℕ → Bool) (out : Bool)
    (fault : Fault) → AreKnownSessions files → IsRunCause files failed out fault
    → (fault ≡ Memory) ⊎ IsDeviceFault fault
refused_only files failed out fault (texts, same, (scripts, (some, few, (names, are)))) cause =
    only_for texts scripts names (subst (λ (fs : List (Option Text)). 1 ≤ length fs) same some)
    (subst (λ (fs : List (Option Text)). length fs ≤ 64) same few)
    (subst (λ (fs : List (Option Text)). AreAccepted [] fs scripts names) same are) failed out fault
    (subst (λ (fs : List (Option Text)). IsRunCause fs failed out fault) same cause)
