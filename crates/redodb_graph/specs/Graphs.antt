-- The graph of a plan.
use Rattle.std.specs.Prelude.{◌≡◌, ◌↔◌, ◌<◌, ℕ, List, Some, Contains, length, slice_get}
use Rattle.std.specs.List.{AllZip}
use Rattle.redodb_journal.specs.Plans.{PlanOf}
use Rattle.redodb_names.specs.Orders.{AreSorted, AreRanks}
use Rattle.redodb_graph.specs.declared.step.Step.{Step}
use Rattle.redodb_graph.specs.Pairs.{PairsOf, AreAscending, AreThose}
use Rattle.redodb_graph.specs.Steps.{TablesOf, AllMean, listed_by}

-- the steps of each session, what their numbers stand for, each name with the places of its pairs,
-- and the order of names
pub record GraphOf : Type 0 where
  pub steps : List (List Step)
  pub tables : TablesOf
  pub on : PairsOf
  pub sorted : List ℕ
  pub ranks : List ℕ

-- both numbers are below n
abbrev pub AreNumbers : ℕ → ℕ × ℕ → Type 0
AreNumbers n p = (p.0 < n) × (p.1 < n)

-- pair i is one on n
abbrev pub IsOn : List (ℕ × ℕ) → ℕ → ℕ → Type 0
IsOn pairs i n = (t : ℕ) × (slice_get pairs i ≡ Some (t, n))

-- nothing has two places
abbrev pub IsOnce : {X : Type 0} → List X → Type 0
IsOnce {X} xs = (i j : ℕ) (x : X) → slice_get xs i ≡ Some x → slice_get xs j ≡ Some x → i ≡ j

-- each line's step stands for the plan's command; the pairs are those that some line lists, each once,
-- of numbers of names, and `on` has the places of the pairs on each name; equal stamps have one number,
-- and equal digests
pub record IsGraphOf (plan : PlanOf) (g : GraphOf) : Type 0 where
  pub means : AllZip (AllMean g.tables) plan.scripts g.steps
  pub pairs_cover : AreThose (listed_by plan.scripts) g.tables.pairs.items
  pub below : (p : ℕ × ℕ) → Contains g.tables.pairs.items p → AreNumbers (length plan.names) p
  pub one_pair : AreAscending g.tables.pairs.items
  pub pairs_on : (n i : ℕ) → Contains g.on.items (n, i) ↔ IsOn g.tables.pairs.items i n
  pub one_on : AreAscending g.on.items
  pub one_stamp : IsOnce g.tables.stamps
  pub one_digest : IsOnce g.tables.digests
  pub sorted : AreSorted plan.names g.sorted
  pub ranks : AreRanks g.sorted g.ranks
  pub targets : g.tables.pairs.count ≡ length plan.names
  pub names : g.on.count ≡ length plan.names
