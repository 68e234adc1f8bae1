-- The numbers of the pairs that a plan's lines list.
use Rattle.std.proofs.Common.{◌≡◌, ◌∙◌, ℕ, suc, ◌<◌, List, [], ◌∷◌, length, get_or, map, sym, subst, inl, inr, arith}
use Rattle.std.specs.List.{AllByRecursion, Contains, flat_map}
use Rattle.std.proofs.lemmas.List.{get_or-map, length-map}
use Rattle.std.proofs.lemmas.List.Elements.{All-from_recursion, All-get_or, Contains-append_cases}
use Rattle.redodb_model.specs.Command.{Command, Item, IfChange, IfCreate}
use Rattle.redodb_model.specs.Renaming.{AllBelow, IsBelow}
use Rattle.redodb_journal.specs.Plans.{PlanOf, IsPlan}
use Rattle.redodb_graph.specs.Graphs.{AreNumbers}
use Rattle.redodb_graph.specs.Steps.{listed_in, listed_by}

module _ (n : ℕ) where
  in_list : (t : ℕ) (ns : List ℕ) → AllBelow n (t ∷ ns) → (p : ℕ × ℕ)
      → Contains (map (λ m. (t, m)) ns) p → AreNumbers n p
  in_list t ns below p c =
      let k = c.0 in
      let in' : k < length ns = omega (arith, c.1, length-map {B = ℕ × ℕ} ns (λ (m : ℕ). (t, m))) in
      let is : (t, get_or ns k 0) ≡ p =
      sym (get_or-map {Y = ℕ × ℕ} (λ (m : ℕ). (t, m)) ns k 0 p in') ∙ c.2 in
      subst (AreNumbers n) is (
        below.0,
        All-get_or (λ m. m < n) ns k 0 in' (All-from_recursion (λ m. m < n) ns below.1),
      )

  in_nothing : (p : ℕ × ℕ) → Contains [] p → AreNumbers n p
  in_nothing p c = absurd (omega (arith, c.1))

  in_command : (x : Command ℕ) → IsBelow n x → (p : ℕ × ℕ) → Contains (listed_in x) p
      → AreNumbers n p
  in_command (IfChange t ns) below p c = in_list t ns below p c
  in_command (IfCreate t ns) below p c = in_list t ns below p c
  in_command x below p c = in_nothing p c

  in_script : (script : List (Item ℕ)) → AllByRecursion (λ item. IsBelow n item.command) script
      → (p : ℕ × ℕ) → Contains (flat_map (λ item. listed_in item.command) script) p → AreNumbers n p
  in_script [] below p c = in_nothing p c
  in_script (item ∷ script) below p c =
      elim (Contains-append_cases (listed_in item.command)
      (flat_map (λ (i : Item ℕ). listed_in i.command) script) p c) [
        | inl here ↦ in_command item.command below.0 p here
        | inr later ↦ in_script script below.1 p later
      ]

  in_scripts : (scripts : List (List (Item ℕ)))
      → ((s : ℕ) → AllByRecursion (λ item. IsBelow n item.command) (get_or scripts s []))
      → (p : ℕ × ℕ) → Contains (listed_by scripts) p → AreNumbers n p
  in_scripts [] below p c = in_nothing p c
  in_scripts (script ∷ scripts) below p c =
      elim (Contains-append_cases (flat_map (λ (i : Item ℕ). listed_in i.command) script)
      (listed_by scripts) p c) [
        | inl here ↦ in_script script (below 0) p here
        | inr later ↦ in_scripts scripts (λ s. below (suc s)) p later
      ]

-- what a plan's lines list are numbers of its names
pub listed_below : (plan : PlanOf) → IsPlan plan → (p : ℕ × ℕ) → Contains (listed_by plan.scripts) p
    → AreNumbers (length plan.names) p
listed_below plan is p c = in_scripts (length plan.names) plan.scripts is.below p c
