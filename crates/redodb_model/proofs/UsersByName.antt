-- The targets with rows on a number are those with rows on its name.
use Rattle.std.proofs.Common.{◌≡◌, ℕ, ◌<◌, Bool, false, [], Option, Some, None, is_some, refl, sym, ap, ◌∙◌}
use Rattle.std.proofs.lemmas.Bool.{false≢true}
use Rattle.std.specs.declared.cmp.Ordering.{Ordering}
use Rattle.redodb_model.specs.Names.{Naming, numbers}
use Rattle.redodb_model.specs.State.{Records, Mark}
use Rattle.redodb_model.specs.OutOfDate.{HasChangeRow, HasCreatedRow}
use Rattle.redodb_model.specs.Support.Names.{IsNaming}
use Rattle.redodb_model.specs.Users.{Users, AreUsers}
use Rattle.redodb_model.specs.Support.Users.{IsUnused, named_users}
use Rattle.redodb_model.specs.Support.Renaming.{Renaming, IsRenaming, OrdersAlike, value_at, named_records, IsWithin}
use Rattle.redodb_model.proofs.RecordsByName.{number_where, value_at_name, change_at_names, created_at_names}
use Rattle.redodb_model.proofs.RepliesByName.{Carries, listed_forth}
use Rattle.redodb_model.proofs.UpToDate.{nothing_listed}

module _ {M : Type 0} {to : Renaming M} (law : IsRenaming to) (r : Records ℕ)
    (within : IsWithin to.count r)
  where
    change_carries : (k : ℕ) → k < to.count
        → Carries to (λ t. HasChangeRow r t k)
        (λ t. HasChangeRow (named_records to r) t (to.name k))
    change_carries k below = record {
      numbered = λ t row.
          let (n, number, is) =
          number_where {X = M → Option Mark} to.number (λ f. is_some (f (to.name k))) (λ n. None)
          (λ j n. value_at None (r.rows.change j) (to.number n)) t (to.number t) refl refl row in
          (n, number);
      below = λ t row. (within.changes t k row).0;
      forth = λ t there row. ap is_some (change_at_names law r t k there below) ∙ row;
      back = λ t there row. sym (ap is_some (change_at_names law r t k there below)) ∙ row;
    }

    created_carries : (k : ℕ) → k < to.count
        → Carries to (λ t. HasCreatedRow r t k)
        (λ t. HasCreatedRow (named_records to r) t (to.name k))
    created_carries k below = record {
      numbered = λ t row.
          let (n, number, is) =
          number_where {X = M → Bool} to.number (λ f. f (to.name k)) (λ n. false)
          (λ j n. value_at false (r.rows.created j) (to.number n)) t (to.number t) refl refl row in
          (n, number);
      below = λ t row. (within.createds t k row).0;
      forth = λ t there row. created_at_names law r t k there below ∙ row;
      back = λ t there row. sym (created_at_names law r t k there below) ∙ row;
    }

    pub users_by_name : (naming : Naming M) (order : ℕ → ℕ → Ordering)
        → OrdersAlike to naming order → (k : ℕ) → k < to.count → (users : Users ℕ)
        → AreUsers (numbers order) r k users
        → AreUsers naming (named_records to r) (to.name k) (named_users to.name users)
    users_by_name naming order orders k below users are = record {
      change = listed_forth law naming order orders (change_carries k below) users.change
          are.change;
      created = listed_forth law naming order orders (created_carries k below) users.created
          are.created;
    }

-- no target has a row on an unused name
pub unused_has_no_users : {N : Type 0} (r : Records N) (n : N) → IsUnused r n
    → {naming : Naming N} → IsNaming naming
    → AreUsers naming r n (record { change = []; created = [] })
unused_has_no_users r n unused good = record {
  change = nothing_listed good
      (λ t row. false≢true (sym (ap is_some (unused.change t)) ∙ row));
  created = nothing_listed good (λ t row. false≢true (sym (unused.created t) ∙ row));
}

-- what no number's row has at a name, no row has
column_at : {M X : Type 0} (number : M → Option ℕ) (d : X) (f : ℕ → ℕ → X) (t : M) (o : Option ℕ)
    → ((j : ℕ) → value_at d (f j) (number t) ≡ d)
    → value_at {X = M → X} (λ n. d) (λ j n. value_at d (f j) (number n)) o t ≡ d
column_at number d f t None each = refl
column_at number d f t (Some j) each = each j

module _ {M : Type 0} {to : Renaming M} (law : IsRenaming to) (r : Records ℕ) where
  -- the name of an unused number is unused
  pub unused_by_name : (k : ℕ) → k < to.count → IsUnused r k
      → IsUnused (named_records to r) (to.name k)
  unused_by_name k below unused = record {
    change = λ t. column_at to.number None r.rows.change (to.name k) (to.number t)
        (λ j. value_at_name law None (r.rows.change j) k below ∙ unused.change j);
    created = λ t. column_at to.number false r.rows.created (to.name k) (to.number t)
        (λ j. value_at_name law false (r.rows.created j) k below ∙ unused.created j);
  }

  -- and so is a name without a number
  pub unused_without_number : (n : M) → to.number n ≡ None → IsUnused (named_records to r) n
  unused_without_number n none = record {
    change = λ t. column_at to.number None r.rows.change n (to.number t)
        (λ j. ap (value_at None (r.rows.change j)) none);
    created = λ t. column_at to.number false r.rows.created n (to.number t)
        (λ j. ap (value_at false (r.rows.created j)) none);
  }
