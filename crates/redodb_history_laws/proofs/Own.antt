-- A session's own lines, and what it builds.
use Rattle.std.proofs.Common.{◌≡◌, ◌≢◌, ℕ, Bool, true, false, cond, not, eqb, List, [], ◌∷◌, ◌++◌, Option, Some, None, refl, sym, ap, ◌∙◌, subst, inl, inr, ne_eqb, eqb-true}
use Rattle.std.proofs.lemmas.Bool.{cases_Bool}
use Rattle.std.proofs.lemmas.List.{append-nil}
use Rattle.std.proofs.lemmas.List.Elements.{filter-append}
use Rattle.std.specs.List.{AllByRecursion}
use mathlib.Core.Logic.{dite}
use native.Mathlib.Decide.{ℕ_discrete}
use Rattle.redodb_model.specs.Names.{Naming, put}
use Rattle.redodb_model.specs.Support.Names.{IsNaming}
use Rattle.redodb_model.specs.State.{Records, Cell, TargetState, Building, target_state, is_building}
use Rattle.redodb_model.specs.Command.{Command, File, Gone, Start, Stamp, Done, Failed}
use Rattle.redodb_model.specs.Reply.{Refusal, NotLocked, NotBuilding, Itself}
use Rattle.redodb_model.specs.Reply as replies
use Rattle.redodb_model.specs.Step.{verdict_of, effect_of, records_after, refusal_or, unless_refused, is_built_by}
use Rattle.redodb_model.specs.Placed.{PlacedLine, part_of}
use Rattle.redodb_model.proofs.Held.{test_failed}
use Rattle.redodb_history_laws.proofs.Exchange.{In, in_cond, cond_in, cond_same, cond_other}

pub part_of-own : {N : Type 0} (s : ℕ) (line : PlacedLine N) (lines : List (PlacedLine N))
    → line.session ≡ s → part_of s (line ∷ lines) ≡ line ∷ part_of s lines
part_of-own s line lines e = cond_same line.session s (line ∷ part_of s lines) (part_of s lines) e

pub part_of-other : {N : Type 0} (s : ℕ) (line : PlacedLine N) (lines : List (PlacedLine N))
    → line.session ≢ s → part_of s (line ∷ lines) ≡ part_of s lines
part_of-other s line lines n = cond_other line.session s (line ∷ part_of s lines) (part_of s lines)
    n

-- what is true of each line of each session is true of all lines
pub all_by_parts : {N : Type 0} (P : PlacedLine N → Type 0) (lines : List (PlacedLine N))
    → ((s : ℕ) (line : PlacedLine N) → In line (part_of s lines) → P line) → AllByRecursion P lines
all_by_parts P [] h = tt
all_by_parts P (line ∷ lines) h = (
  h line.session line
      (subst (In line) (sym (part_of-own line.session line lines refl)) (inl refl)),
  all_by_parts P lines
      (λ s other i. h s other (cond_in (eqb line.session s) other line (part_of s lines) i)),
)

-- what is true of all lines is true of each line of a session
pub all_of_part : {N : Type 0} (P : PlacedLine N → Type 0) (lines : List (PlacedLine N))
    → AllByRecursion P lines → (s : ℕ) (line : PlacedLine N) → In line (part_of s lines) → P line
all_of_part P [] all s line i = absurd i
all_of_part P (first ∷ lines) all s line i =
    elim (in_cond (eqb first.session s) line first (part_of s lines) i) [
      | inl e ↦ subst P e all.0
      | inr k ↦ all_of_part P lines all.1 s line k
    ]

pub push_own : {N : Type 0} (s : ℕ) (lines : List (PlacedLine N)) (line : PlacedLine N)
    → line.session ≡ s
    → part_of s (lines ++ line ∷ []) ≡ part_of s lines ++ line ∷ []
push_own s lines line e =
    filter-append (λ (x : PlacedLine _). eqb x.session s) lines (line ∷ [])
    ∙ ap (λ own. part_of s lines ++ own) (part_of-own s line [] e)

pub push_other : {N : Type 0} (s : ℕ) (lines : List (PlacedLine N)) (line : PlacedLine N)
    → line.session ≢ s → part_of s (lines ++ line ∷ []) ≡ part_of s lines
push_other s lines line n =
    filter-append (λ (x : PlacedLine _). eqb x.session s) lines (line ∷ [])
    ∙ ap (λ own. part_of s lines ++ own) (part_of-other s line [] n) ∙ append-nil (part_of s lines)

-- lines with the same parts, and one line more
pub push_same : {N : Type 0} (s : ℕ) (xs ys : List (PlacedLine N)) (line : PlacedLine N)
    → part_of s xs ≡ part_of s ys → part_of s (xs ++ line ∷ []) ≡ part_of s (ys ++ line ∷ [])
push_same s xs ys line e = dite (ℕ_discrete line.session s)
    (λ q. push_own s xs line q ∙ ap (λ zs. zs ++ line ∷ []) e ∙ sym (push_own s ys line q))
    (λ n. push_other s xs line n ∙ e ∙ sym (push_other s ys line n))

-- two lines of two sessions, in either order
pub push_swap : {N : Type 0} (s : ℕ) (lines : List (PlacedLine N)) (line other : PlacedLine N)
    → line.session ≢ other.session
    → part_of s ((lines ++ line ∷ []) ++ other ∷ [])
    ≡ part_of s ((lines ++ other ∷ []) ++ line ∷ [])
push_swap s lines line other ne = dite (ℕ_discrete line.session s)
    (λ q. let n : other.session ≢ s = (λ z. ne (q ∙ sym z)) in
    push_other s (lines ++ line ∷ []) other n ∙ push_own s lines line q
    ∙ ap (λ zs. zs ++ line ∷ []) (sym (push_other s lines other n))
    ∙ sym (push_own s (lines ++ other ∷ []) line q))
    (λ n. push_same s (lines ++ line ∷ []) lines other (push_other s lines line n)
    ∙ sym (push_other s (lines ++ other ∷ []) line n))

pub not_false : (b : Bool) → not b ≡ false → b ≡ true
not_false true e = refl
not_false false e = absurd (cc)

pub not_building : (a : TargetState) (s : ℕ) → is_building a ≡ false → is_built_by s a ≡ false
not_building (Building u) s e = absurd (cc)
not_building state s e = refl

other_builds : (a : TargetState) (u s : ℕ) → u ≢ s → is_built_by u a ≡ true
    → is_built_by s a ≡ false
other_builds (Building b) u s ne e = let q = eqb-true b u e in ne_eqb b s (λ z. ne (sym q ∙ z))
other_builds state u s ne e = refl

module _ {N : Type 0} {naming : Naming N} (law : IsNaming naming) where
  built_at : (s : ℕ) (n x : N) (c : Cell) (f : N → Cell)
      → is_built_by s c.state ≡ is_built_by s (f n).state
      → is_built_by s (put naming n c f x).state ≡ is_built_by s (f x).state
  built_at s n x c f e = elim (cases_Bool (naming.same n x)) [
    | inl q ↦ ap (λ b. is_built_by s (cond b c (f x)).state) q ∙ e
        ∙ ap (λ k. is_built_by s (f k).state) ((law.decides n x).0 q)
    | inr q ↦ ap (λ b. is_built_by s (cond b c (f x)).state) q
  ]

  not_built : (records : Records N) (u s : ℕ) (t : N) → u ≢ s
      → ◌≡◌ {A = Option (Refusal N)}
      (refusal_or (not (is_built_by u (target_state records t))) NotBuilding None) None
      → is_built_by s (target_state records t) ≡ false
  not_built records u s t ne v =
      other_builds (target_state records t) u s ne
      (not_false _
      (test_failed (not (is_built_by u (target_state records t))) NotBuilding None v).0)

  accepted : (records : Records N) (u s : ℕ) (held : Bool) (command : Command N) (x : N) → u ≢ s
      → verdict_of naming records u held command ≡ None
      → is_built_by s (target_state (effect_of naming records u command) x)
      ≡ is_built_by s (target_state records x)
  accepted records u s held (File n stamp) x ne v = built_at s n x _ records.cell refl
  accepted records u s held (Gone n) x ne v = built_at s n x _ records.cell refl
  accepted records u s held (Start t) x ne v =
      let none =
      (test_failed (is_building (target_state records t)) replies.Building None
      (test_failed (not held) NotLocked _ v).1).0 in
      built_at s t x _ records.cell
      (ne_eqb u s ne ∙ sym (not_building (target_state records t) s none))
  accepted records u s held (Stamp t content) x ne v = built_at s t x _ records.cell refl
  accepted records u s held (Done t stamp) x ne v =
      built_at s t x _ records.cell (sym (not_built records u s t ne v))
  accepted records u s held (Failed t) x ne v =
      built_at s t x _ records.cell (sym (not_built records u s t ne v))
  accepted records u s held c x ne v = refl

  by_verdict : (records : Records N) (u s : ℕ) (held : Bool) (command : Command N) (x : N)
      (verdict : Option (Refusal N))
      → u ≢ s → verdict_of naming records u held command ≡ verdict
      → is_built_by s
      (target_state (unless_refused verdict records (effect_of naming records u command)) x)
      ≡ is_built_by s (target_state records x)
  by_verdict records u s held command x None ne e = accepted records u s held command x ne e
  by_verdict records u s held command x (Some refusal) ne e = refl

  -- a command of one session doesn't change what another builds
  pub builds_kept : (records : Records N) (u s : ℕ) (held : Bool) (command : Command N) (x : N)
      → u ≢ s
      → is_built_by s (target_state (records_after naming records u held command) x)
      ≡ is_built_by s (target_state records x)
  builds_kept records u s held command x ne = by_verdict records u s held command x _ ne refl
