-- Joint orders: by their tickets, and legal in every order.
use Rattle.std.proofs.Common.{ℕ, ◌≤◌, length, List, [], ◌∷◌, ◌++◌, map, subst, sym, inl, inr, append_assoc, append-nil}
use Rattle.redodb_model.specs.Names.{Naming}
use Rattle.redodb_model.specs.Support.Names.{IsNaming}
use Rattle.redodb_model.specs.State.{empty}
use Rattle.redodb_model.specs.History.{Legal}
use Rattle.redodb_model.specs.Placed.{PlacedLine, line_of, Fits, Follows, IsPlacedAfter}
use Rattle.redodb_model.specs.Journals.{IsJointOrder, IsFirstJointOrder, NoLater, IsJournal}
use Rattle.redodb_model.specs.Support.Journals.{IsOfPlan}
use Rattle.redodb_model.specs.Command.{Item}
use Rattle.redodb_history_laws.proofs.Exchange.{In}
use Rattle.redodb_history_laws.proofs.Own.{all_by_parts, all_of_part}
use Rattle.redodb_history_laws.proofs.Greedy.{IsJoint, IsFirst}
use Rattle.redodb_history_laws.proofs.Greedy as greedy
use Rattle.redodb_history_laws.proofs.Moved.{tickets, one_for_all}
use Rattle.redodb_history_laws.proofs.Counts.{counters, paired_at_first, placed_come, come_placed}
use Rattle.redodb_history_laws.proofs.Bridge.{legal_by_rows}

-- one line more
pub placed_more : {N : Type 0} (naming : Naming N) (before lines : List (PlacedLine N))
    (line : PlacedLine N)
    → IsPlacedAfter naming before lines → Fits line.place line.command line.reply
    → Follows naming (before ++ lines) line.place → IsPlacedAfter naming before (lines ++ line ∷ [])
placed_more naming before [] line h fits follows = (
  fits,
  subst (λ (more : List (PlacedLine _)). Follows naming more line.place) (append-nil before)
      follows,
  tt,
)
placed_more naming before (first ∷ lines) line h fits follows = (
  h.0,
  h.1,
  placed_more naming (before ++ first ∷ []) lines line h.2 fits
      (subst (λ (more : List (PlacedLine _)). Follows naming more line.place)
      (sym (append_assoc before (first ∷ []) lines)) follows),
)

pub placed_less : {N : Type 0} (naming : Naming N) (before lines : List (PlacedLine N))
    (line : PlacedLine N)
    → IsPlacedAfter naming before (lines ++ line ∷ [])
    → IsPlacedAfter naming before lines × Fits line.place line.command line.reply
    × Follows naming (before ++ lines) line.place
placed_less naming before [] line h = (
  tt,
  h.0,
  subst (λ (more : List (PlacedLine _)). Follows naming more line.place)
      (sym (append-nil before))
      h.1,
)
placed_less naming before (first ∷ lines) line h =
    let rest = placed_less naming (before ++ first ∷ []) lines line h.2 in (
      (h.0, h.1, rest.0),
      rest.1,
      subst (λ (more : List (PlacedLine _)). Follows naming more line.place)
          (append_assoc before (first ∷ []) lines) rest.2,
    )

-- a prefix of placed lines is placed
pub prefix_placed : {N : Type 0} (naming : Naming N) (before prefix rest : List (PlacedLine N))
    → IsPlacedAfter naming before (prefix ++ rest) → IsPlacedAfter naming before prefix
prefix_placed naming before [] rest h = tt
prefix_placed naming before (line ∷ prefix) rest h =
    (h.0, h.1, prefix_placed naming (before ++ line ∷ []) prefix rest h.2)

pub joint_of_plan : {N : Type 0} (naming : Naming N) (plan : ℕ → List (Item N))
    (journals : ℕ → List (PlacedLine N)) (lines : List (PlacedLine N))
    → ((s : ℕ) → IsJournal naming s (plan s) (journals s)) → ((s : ℕ) → length (plan s) ≤ 4096)
    → IsJointOrder naming journals lines → IsOfPlan naming plan lines
joint_of_plan naming plan journals lines whole short joint = record {
  journals = λ s. subst (IsJournal naming s (plan s)) (sym (joint.0 s)) (whole s);
  short = short;
}

module _ {N : Type 0} {naming : Naming N} (law : IsNaming naming)
    (journals : ℕ → List (PlacedLine N)) where
  pub joint_by_tickets : (lines : List (PlacedLine N)) → IsJointOrder naming journals lines
      → IsJoint (tickets law) (counters naming []) journals lines
  joint_by_tickets lines h = record { parts = h.0; come = (placed_come law [] lines h.1).1 }

  -- if one joint order is legal, each is
  pub legal_in_every_order : (one other : List (PlacedLine N))
      → IsJointOrder naming journals one → IsJointOrder naming journals other
      → Legal naming (map line_of one) → Legal naming (map line_of other)
  legal_in_every_order one other a b legal =
      (legal_by_rows law other b.1).1
      (one_for_all law (counters naming []) (empty {N = N}).records [] journals one other
      (joint_by_tickets one a) (joint_by_tickets other b)
      ((legal_by_rows law one a.1).0 legal))

  no_later : (lines others : List (PlacedLine N)) → greedy.NoLater (tickets law) lines others
      → NoLater lines others
  no_later [] others h = tt
  no_later (line ∷ lines) [] h = absurd h
  no_later (line ∷ lines) (other ∷ others) (inl h) = inl h
  no_later (line ∷ lines) (other ∷ others) (inr h) = inr (h.0, no_later lines others h.1)

  -- each line of the journals has a place that fits it
  abbrev pub TheyFit : Type 0
  TheyFit =
      (s : ℕ) (line : PlacedLine N) → In line (journals s) → Fits line.place line.command line.reply

  pub joint_from_tickets : TheyFit → (lines : List (PlacedLine N))
      → IsJoint (tickets law) (counters naming []) journals lines
      → IsJointOrder naming journals lines
  joint_from_tickets fit lines h = (
    h.parts,
    come_placed law [] lines (paired_at_first naming)
        (all_by_parts (λ line. Fits line.place line.command line.reply) lines
        (λ s l i. fit s l (subst (In l) (h.parts s) i))) h.come,
  )

  pub first_from_tickets : TheyFit → (lines : List (PlacedLine N))
      → IsFirst (tickets law) (counters naming []) journals lines
      → IsFirstJointOrder naming journals lines
  first_from_tickets fit lines h = record {
    joint = joint_from_tickets fit lines h.joint;
    first = λ others o. no_later lines others (h.first others (joint_by_tickets others o));
  }

  -- a line that doesn't fit its place belongs to no joint order
  pub none_with_misfit : (s : ℕ) (line : PlacedLine N) → In line (journals s)
      → (Fits line.place line.command line.reply → ⊥) → (lines : List (PlacedLine N))
      → IsJointOrder naming journals lines → ⊥
  none_with_misfit s line i misfit lines h =
      misfit
      (all_of_part (λ one. Fits one.place one.command one.reply) lines
      (placed_come law [] lines h.1).0 s line (subst (In line) (sym (h.0 s)) i))
