-- The verdict on a command over numbers, under their names, is the verdict over the names.
use Rattle.std.proofs.Common.{◌≡◌, ℕ, ◌<◌, Bool, true, false, cond, not, List, [], ◌∷◌, Option, Some, None, refl, ap, ◌∙◌, map, option_map, MatchOption}
use Rattle.std.specs.Prelude.{⊤, find}
use Rattle.std.specs.declared.cmp.Ordering.{Ordering}
use Rattle.redodb_model.specs.Names.{Naming, numbers}
use Rattle.redodb_model.specs.Support.Names.{IsNaming}
use Rattle.redodb_model.specs.State.{Locks, Records, has_file, target_state, is_building}
use Rattle.redodb_model.specs.Command.{Command, Lock, Unlock, Start, IfChange, IfCreate, Always, Stamp, Done, Failed}
use Rattle.redodb_model.specs.Reply.{Refusal, NotLocked, Building, NotBuilding, Itself, Refused}
use Rattle.redodb_model.specs.Step.{verdict_of, is_among, refusal_or, refusal_of_existing, is_built_by, holds_target, is_held_by}
use Rattle.redodb_model.specs.Renaming.{named_command, named_refusal, IsBelow, AllBelow, IsReplyBelow}
use Rattle.redodb_model.specs.Support.Renaming.{Renaming, IsRenaming, value_at, named_records, named_locks}
use Rattle.redodb_model.proofs.RecordsByName.{same_at, value_at_name, file_at_name, state_at_name}

module _ {M : Type 0} (name : ℕ → M) where
  two_refusals : (b c : Bool) (x y : Refusal ℕ) (rest : Option (Refusal ℕ))
      → refusal_or b (named_refusal name x)
      (refusal_or c (named_refusal name y) (option_map (named_refusal name) rest))
      ≡ option_map (named_refusal name) (refusal_or b x (refusal_or c y rest))
  two_refusals true c x y rest = refl
  two_refusals false true x y rest = refl
  two_refusals false false x y rest = refl

  one_refusal : (b : Bool) (x : Refusal ℕ) → refusal_or b (named_refusal name x) None
      ≡ option_map (named_refusal name) (refusal_or b x None)
  one_refusal true x = refl
  one_refusal false x = refl

  existing_cond : (b : Bool) (n : ℕ) (p : Option M) (q : Option ℕ)
      → refusal_of_existing p ≡ option_map (named_refusal name) (refusal_of_existing q)
      → refusal_of_existing (cond b (Some (name n)) p)
      ≡ option_map (named_refusal name) (refusal_of_existing (cond b (Some n) q))
  existing_cond true n p q e = refl
  existing_cond false n p q e = e

module _ {M : Type 0} {to : Renaming M} (law : IsRenaming to) where
  pub holder_at_name : (locks : Locks ℕ) (t : ℕ) → t < to.count
      → (named_locks to locks).holder (to.name t) ≡ locks.holder t
  holder_at_name locks t below = value_at_name law None locks.holder t below

  held_by_name : (locks : Locks ℕ) (s t : ℕ) → t < to.count
      → is_held_by s ((named_locks to locks).holder (to.name t)) ≡ is_held_by s (locks.holder t)
  held_by_name locks s t below = ap (is_held_by s) (holder_at_name locks t below)

  -- whether the session holds the command's target
  pub holds_by_name : (locks : Locks ℕ) (s : ℕ) (command : Command ℕ) → IsBelow to.count command
      → holds_target (named_locks to locks) s (named_command to.name command)
      ≡ holds_target locks s command
  holds_by_name locks s (Lock t) below = held_by_name locks s t below.0
  holds_by_name locks s (Unlock t) below = held_by_name locks s t below.0
  holds_by_name locks s (Start t) below = held_by_name locks s t below.0
  holds_by_name locks s (IfChange t ns) below = held_by_name locks s t below.0
  holds_by_name locks s (IfCreate t ns) below = held_by_name locks s t below.0
  holds_by_name locks s (Always t) below = held_by_name locks s t below.0
  holds_by_name locks s (Stamp t content) below = held_by_name locks s t below.0
  holds_by_name locks s (Done t stamp) below = held_by_name locks s t below.0
  holds_by_name locks s (Failed t) below = held_by_name locks s t below.0
  holds_by_name locks s command below = refl

  module _ (r : Records ℕ) where
    -- the first name with a file
    existing_by_name : (ns : List ℕ) → AllBelow to.count ns
        → refusal_of_existing (find (has_file (named_records to r)) (map to.name ns))
        ≡ option_map (named_refusal to.name) (refusal_of_existing (find (has_file r) ns))
    existing_by_name [] below = refl
    existing_by_name (n ∷ ns) below =
        ap (λ b. refusal_of_existing (cond b (Some (to.name n))
        (find (has_file (named_records to r)) (map to.name ns)))) (file_at_name law r n below.0)
        ∙ existing_cond to.name (has_file r n) n (find (has_file (named_records to r))
        (map to.name ns)) (find (has_file r) ns) (existing_by_name ns below.1)

    -- the verdict on a command that wants its target's lock
    of_holder : (h : Bool) (t : ℕ) → t < to.count → refusal_or (not h) NotLocked
        (refusal_or (is_building (target_state (named_records to r) (to.name t))) Building None)
        ≡ option_map (named_refusal to.name)
        (refusal_or (not h) NotLocked (refusal_or (is_building (target_state r t)) Building None))
    of_holder h t below =
        ap (λ a. refusal_or (not h) NotLocked (refusal_or (is_building a) Building None))
        (state_at_name law r t below)
        ∙ two_refusals to.name (not h) (is_building (target_state r t)) NotLocked Building None

    -- the verdict on a command that only its target's builder may give
    of_builder : (s t : ℕ) → t < to.count → refusal_or
        (not (is_built_by s (target_state (named_records to r) (to.name t)))) NotBuilding None
        ≡ option_map (named_refusal to.name)
        (refusal_or (not (is_built_by s (target_state r t))) NotBuilding None)
    of_builder s t below =
        ap (λ a. refusal_or (not (is_built_by s a)) NotBuilding None) (state_at_name law r t below)
        ∙ one_refusal to.name (not (is_built_by s (target_state r t))) NotBuilding

    -- the verdict on a command that only its target's builder may give, and not on its target
    of_others : (s t : ℕ) (a b : Bool) (u : Option (Refusal M)) (v : Option (Refusal ℕ))
        → t < to.count → a ≡ b → u ≡ option_map (named_refusal to.name) v →
        refusal_or (not (is_built_by s (target_state (named_records to r) (to.name t)))) NotBuilding
        (refusal_or a Itself u) ≡ option_map (named_refusal to.name)
        (refusal_or (not (is_built_by s (target_state r t))) NotBuilding (refusal_or b Itself v))
    of_others s t a b u v below e f =
        ap (λ state. refusal_or (not (is_built_by s state)) NotBuilding (refusal_or a Itself u))
        (state_at_name law r t below)
        ∙ ap (λ c. refusal_or (not (is_built_by s (target_state r t))) NotBuilding
        (refusal_or c Itself u)) e
        ∙ ap (λ o. refusal_or (not (is_built_by s (target_state r t))) NotBuilding
        (refusal_or b Itself o)) f
        ∙ two_refusals to.name (not (is_built_by s (target_state r t))) b NotBuilding Itself v

  module _ (naming : Naming M) (good : IsNaming naming) (order : ℕ → ℕ → Ordering) where
    -- whether a name is among the names of a list
    pub among_at : (ns : List ℕ) (t : M) (o : Option ℕ) → AllBelow to.count ns → to.number t ≡ o
        → is_among naming (map to.name ns) t ≡ value_at false (is_among (numbers order) ns) o
    among_at [] t None below e = refl
    among_at [] t (Some k) below e = refl
    among_at (n ∷ ns) t None below e =
        let here = same_at law naming good order n t None below.0 e in
        let there = among_at ns t None below.1 e in
        rw (here, there) refl
    among_at (n ∷ ns) t (Some k) below e =
        let here = same_at law naming good order n t (Some k) below.0 e in
        let there = among_at ns t (Some k) below.1 e in
        rw (here, there) refl

    among_names : (ns : List ℕ) (k : ℕ) → AllBelow to.count ns → k < to.count
        → is_among naming (map to.name ns) (to.name k) ≡ is_among (numbers order) ns k
    among_names ns k below in_range = among_at ns (to.name k) (Some k) below (law.back k in_range)

    pub verdict_by_name : (r : Records ℕ) (s : ℕ) (h : Bool) (command : Command ℕ)
        → IsBelow to.count command
        → verdict_of naming (named_records to r) s h (named_command to.name command)
        ≡ option_map (named_refusal to.name) (verdict_of (numbers order) r s h command)
    verdict_by_name r s h (Unlock t) below = of_holder r h t below.0
    verdict_by_name r s h (Start t) below = of_holder r h t below.0
    verdict_by_name r s h (IfChange t ns) below =
        of_others r s t (is_among naming (map to.name ns) (to.name t))
        (is_among (numbers order) ns t) None None below.0 (among_names ns t below.1 below.0) refl
    verdict_by_name r s h (IfCreate t ns) below =
        of_others r s t (is_among naming (map to.name ns) (to.name t))
        (is_among (numbers order) ns t)
        (refusal_of_existing (find (has_file (named_records to r)) (map to.name ns)))
        (refusal_of_existing (find (has_file r) ns))
        below.0 (among_names ns t below.1 below.0) (existing_by_name r ns below.1)
    verdict_by_name r s h (Always t) below = of_builder r s t below.0
    verdict_by_name r s h (Stamp t content) below = of_builder r s t below.0
    verdict_by_name r s h (Done t stamp) below = of_builder r s t below.0
    verdict_by_name r s h (Failed t) below = of_builder r s t below.0
    verdict_by_name r s h command below = refl

-- no refusal speaks of other numbers than its command
module _ (n : ℕ) where
  -- the refusal, if any, speaks of numbers below n alone
  abbrev pub RefusesBelow : Option (Refusal ℕ) → Type 0
  RefusesBelow v = MatchOption v ⊤ (λ refusal. IsReplyBelow n (Refused refusal))

  or_below : (b : Bool) (x : Refusal ℕ) (rest : Option (Refusal ℕ)) → IsReplyBelow n (Refused x)
      → RefusesBelow rest → RefusesBelow (refusal_or b x rest)
  or_below true x rest here there = here
  or_below false x rest here there = there

  existing_cond_below : (b : Bool) (m : ℕ) (o : Option ℕ) → m < n
      → RefusesBelow (refusal_of_existing o)
      → RefusesBelow (refusal_of_existing (cond b (Some m) o))
  existing_cond_below true m o here there = here
  existing_cond_below false m o here there = there

  existing_below : (test : ℕ → Bool) (ns : List ℕ) → AllBelow n ns
      → RefusesBelow (refusal_of_existing (find test ns))
  existing_below test [] below = tt
  existing_below test (m ∷ ns) below =
      existing_cond_below (test m) m (find test ns) below.0 (existing_below test ns below.1)

  of_holder_below : (b c : Bool)
      → RefusesBelow (refusal_or b NotLocked (refusal_or c Building None))
  of_holder_below b c =
      or_below b NotLocked (refusal_or c Building None) tt (or_below c Building None tt tt)

  of_others_below : (b c : Bool) (rest : Option (Refusal ℕ)) → RefusesBelow rest
      → RefusesBelow (refusal_or b NotBuilding (refusal_or c Itself rest))
  of_others_below b c rest there =
      or_below b NotBuilding (refusal_or c Itself rest) tt (or_below c Itself rest tt there)

  pub verdict_below : (order : ℕ → ℕ
      → Ordering) (r : Records ℕ) (s : ℕ) (h : Bool) (command : Command ℕ) → IsBelow n command
      → RefusesBelow (verdict_of (numbers order) r s h command)
  verdict_below order r s h (Unlock t) below =
      of_holder_below (not h) (is_building (target_state r t))
  verdict_below order r s h (Start t) below =
      of_holder_below (not h) (is_building (target_state r t))
  verdict_below order r s h (IfChange t ns) below =
      of_others_below (not (is_built_by s (target_state r t)))
      (is_among (numbers order) ns t) None tt
  verdict_below order r s h (IfCreate t ns) below =
      of_others_below (not (is_built_by s (target_state r t))) (is_among (numbers order) ns t)
      (refusal_of_existing (find (has_file r) ns)) (existing_below (has_file r) ns below.1)
  verdict_below order r s h (Always t) below =
      or_below (not (is_built_by s (target_state r t))) NotBuilding None tt tt
  verdict_below order r s h (Stamp t content) below =
      or_below (not (is_built_by s (target_state r t))) NotBuilding None tt tt
  verdict_below order r s h (Done t stamp) below =
      or_below (not (is_built_by s (target_state r t))) NotBuilding None tt tt
  verdict_below order r s h (Failed t) below =
      or_below (not (is_built_by s (target_state r t))) NotBuilding None tt tt
  verdict_below order r s h command below = tt
