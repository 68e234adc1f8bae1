use Rattle.std.proofs.Common.{◌≡◌, ℕ, ◌≤◌, subst}
use Rattle.redodb_model.specs.Support.Unknown.{IsUnknown}
use Rattle.redodb_model.specs.Support.Users.{IsUnused}
use Rattle.redodb_database.specs.Support.Kept.{tables_of}
use Rattle.redodb_database.specs.Tables.{Tables, locks_of, state_of, tables_count, tables_records}
use Rattle.redodb_database.proofs.Unknown.{ungranted_past, unknown_past, unused_past}
use Rattle.redodb_database.proofs.redo.Redo.count.Goals as goal

pub returns-clause-others : goal.returns-clause-others
returns-clause-others c =
    subst (λ (tables : Tables). (n : ℕ) → tables_count tables ≤ n → IsUnknown (state_of tables) n)
    c.self.view_is (unknown_past (tables_of c.self.inside) c.self.invariant.tables)

pub returns-clause-unused : goal.returns-clause-unused
returns-clause-unused c =
    subst (λ (tables : Tables). (n : ℕ) → tables_count tables ≤ n
    → IsUnused (tables_records tables) n) c.self.view_is
    (unused_past (tables_of c.self.inside) c.self.invariant.tables.rows_for_each
    c.are_on_names.ensures.change c.are_on_names.ensures.created)

pub returns-clause-ungranted : goal.returns-clause-ungranted
returns-clause-ungranted c =
    subst (λ (tables : Tables). (n : ℕ) → tables_count tables ≤ n → (locks_of tables).grants n ≡ 0)
    c.self.view_is (ungranted_past (tables_of c.self.inside) c.self.invariant.tables)
