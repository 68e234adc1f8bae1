-- The causes of faults, and the failures of the files.
use Rattle.std.proofs.Common.{◌≡◌, ℕ, ◌<◌, ◌≤◌, Bool, false, not, ◌==◌, Option, None, List, [], map, take, length, get_or, set, subst, sym, ap, ◌∙◌, arith}
use Rattle.std.specs.Prelude.{IsTrue, slice_index_or, IfSome}
use Rattle.std.proofs.lemmas.List.{get_or-map, length-map, get_or-set_same, get_or-set_other, map-set}
use Rattle.redodb_model.specs.Names.{Text}
use Rattle.redodb_model.specs.Command.{Item}
use Rattle.redodb_text.specs.declared.fault.Fault.{Fault}
use Rattle.redodb_text.specs.declared.fault.Fault.TheVariants.{Memory, Read, TooLong, Line}
use Rattle.redodb_text.specs.Faults.{IsFirstFault}
use Rattle.redodb_run.specs.Files.{AreAccepted, failed_at}
use Rattle.redodb_run.specs.Faults.{IsRunCause, FilesBefore}
use Rattle.redodb_run.specs.Support.Faults.{IsFileCause}

-- the fault of a file after those that are accepted
pub IsRunCause-file : (files : List (Option Text)) (failed : ℕ → Bool) (out : Bool) (at : ℕ)
    (names : List Text) (fault : Fault)
    → FilesBefore files at names
    → IsFileCause names (slice_index_or files at None) (failed at) at fault
    → IsRunCause files failed out fault
IsRunCause-file files failed out at names Memory before cause = tt
IsRunCause-file files failed out at names (Read file) before cause = (
  names,
  subst (λ (n : ℕ). FilesBefore files n names) (sym cause.0) before,
  subst (λ (n : ℕ). IsTrue (failed n)) (sym cause.0) cause.1,
)
IsRunCause-file files failed out at names (TooLong file) before cause = (
  names,
  subst (λ (n : ℕ). FilesBefore files n names) (sym cause.0) before,
  subst (λ (n : ℕ). IfSome (slice_index_or files n None) (λ bytes. 67108864 < length bytes))
      (sym cause.0) cause.1,
)
IsRunCause-file files failed out at names (Line file line fault) before cause = (
  names,
  subst (λ (n : ℕ). FilesBefore files n names) (sym cause.0) before,
  subst (λ (n : ℕ). IfSome (slice_index_or files n None) (λ bytes. (length bytes ≤ 67108864)
      × IsFirstFault names bytes line fault)) (sym cause.0) cause.1,
)
IsRunCause-file files failed out at names fault before cause = absurd cause

-- an element's value, if it has its first value
pub shown_at : {X : Type 0} (known : X → Option Text) (files initial : List X) (at : ℕ) (d : X)
    → at < length files → get_or (map known files) at None ≡ get_or (map known initial) at None
    → known (get_or files at d) ≡ get_or (map known initial) at None
shown_at known files initial at d within same = sym (get_or-map known files at d None within) ∙ same

-- an element is replaced: those after it keep their values
pub shown_after : {X : Type 0} (known : X → Option Text) (files : List X) (at k : ℕ) (file : X)
    → at < k
    → get_or (map known (set files at file)) k None ≡ get_or (map known files) k None
shown_after known files at k file after =
    ap (λ (all : List (Option Text)). get_or all k None) (map-set known files at file)
    ∙ get_or-set_other (map known files) at k (known file) None (λ same. omega arith)

-- an element is replaced: it has its own count
count_at : {X : Type 0} (count : X → ℕ) (files : List X) (at : ℕ) (file : X)
    → at < length files
    → get_or (map count (set files at file)) at 0 ≡ count file
count_at count files at file within =
    ap (λ (all : List ℕ). get_or all at 0) (map-set count files at file)
    ∙ get_or-set_same (map count files) at (count file) 0
    (omega (arith, length-map files count))

-- an element is replaced, and the counts were as at first: whether its own is another now
failed_there : {X : Type 0} (count : X → ℕ) (initial files : List X) (at : ℕ) (d file : X)
    → at < length files → map count files ≡ map count initial
    → not (count file == count (get_or files at d))
    ≡ failed_at (map count initial) (map count (set files at file)) at
failed_there count initial files at d file within same =
    let before : count (get_or files at d) ≡ get_or (map count initial) at 0 =
    sym (get_or-map count files at d 0 within)
    ∙ ap (λ (counts : List ℕ). get_or counts at 0) same in
    let after : count file ≡ get_or (map count (set files at file)) at 0 =
    sym (count_at count files at file within) in
    ap (λ (n : ℕ). not (n == count (get_or files at d))) after
    ∙ ap (λ (n : ℕ). not (get_or (map count (set files at file)) at 0 == n)) before

-- the fault of the file that is read, if those before it are accepted
pub IsRunCause-read : {X : Type 0} (known : X → Option Text) (count : X
    → ℕ) (initial files : List X)
    (at : ℕ) (d file : X) (names : List Text) (scripts : List (List (Item Text)))
    (fault : Fault)
    → length files ≡ length initial → at < length initial
    → AreAccepted [] (take at (map known initial)) scripts names
    → get_or (map known files) at None ≡ get_or (map known initial) at None
    → map count files ≡ map count initial
    → IsFileCause names (known (get_or files at d)) (not (count file == count (get_or files at d)))
    at fault
    → IsRunCause (map known initial)
    (failed_at (map count initial) (map count (set files at file)))
    false fault
IsRunCause-read known count initial files at d file names scripts fault long within are same counts
    cause =
    let here : at < length files = omega arith in
    let cause_1 = subst (λ (bytes : Option Text). IsFileCause names bytes
    (not (count file == count (get_or files at d))) at fault)
    (shown_at known files initial at d here same) cause in
    let cause_2 = subst (λ (failed : Bool). IsFileCause names (get_or (map known initial) at None)
    failed at fault) (failed_there count initial files at d file here counts) cause_1 in
    IsRunCause-file (map known initial)
    (failed_at (map count initial) (map count (set files at file))) false at names fault
    (omega (arith, length-map initial known), (scripts, are)) cause_2
