-- The histories that were worked out by hand are legal.
use Rattle.std.proofs.Common.{ℕ, [], ◌∷◌, refl, ap, rules}
use Rattle.std.specs.Prelude.{codes}
use Rattle.std.specs.List.{IsDistinct}
use Rattle.redodb_model.specs.Names.{texts}
use Rattle.redodb_model.specs.Reply.{Reply, Stamped}
use Rattle.redodb_model.specs.History.{Legal}
use Rattle.redodb_history_laws.specs.WorkedHistories.{common_path, appearance, cycle, failed_mark, own_reasons, change_rows, names_without_a_file, created_rows, contents_and_builds, rows_of_both_kinds, chain_without_a_file}
use Rattle.redodb_history_laws.proofs.Digests.{digest_of_abc, digest_of_nothing}
use Rattle.redodb_history_laws.proofs.Computed.{legal_by}

pub common_path_legal : Legal texts common_path
unfolding IsDistinct
common_path_legal =
    legal_by (codes "a.c" ∷ codes "a.o" ∷ []) common_path (search rules) (search rules) refl
    (search rules)

pub appearance_legal : Legal texts appearance
unfolding IsDistinct
appearance_legal =
    legal_by (codes "T" ∷ codes "y" ∷ []) appearance (search rules) (search rules) refl
    (search rules)

pub cycle_legal : Legal texts cycle
unfolding IsDistinct
cycle_legal =
    legal_by (codes "a" ∷ codes "b" ∷ []) cycle (search rules) (search rules) refl
    (search (rules, ap {B = Reply ℕ} Stamped digest_of_abc, ap {B = Reply ℕ} Stamped digest_of_nothing))

pub failed_mark_legal : Legal texts failed_mark
unfolding IsDistinct
failed_mark_legal =
    legal_by (codes "T" ∷ codes "X" ∷ []) failed_mark (search rules) (search rules) refl
    (search (rules, ap {B = Reply ℕ} Stamped digest_of_abc))

pub own_reasons_legal : Legal texts own_reasons
unfolding IsDistinct
own_reasons_legal =
    legal_by (codes "T" ∷ []) own_reasons (search rules) (search rules) refl
    (search rules)

pub change_rows_legal : Legal texts change_rows
unfolding IsDistinct
change_rows_legal =
    legal_by (codes "T" ∷ codes "x" ∷ codes "y" ∷ []) change_rows (search rules) (search rules) refl
    (search rules)

pub names_without_a_file_legal : Legal texts names_without_a_file
unfolding IsDistinct
names_without_a_file_legal =
    legal_by (codes "T" ∷ codes "p" ∷ codes "q" ∷ []) names_without_a_file (search rules) (search rules) refl
    (search rules)

pub created_rows_legal : Legal texts created_rows
unfolding IsDistinct
created_rows_legal =
    legal_by (codes "T" ∷ codes "q" ∷ codes "y" ∷ []) created_rows (search rules) (search rules) refl
    (search rules)

pub contents_and_builds_legal : Legal texts contents_and_builds
unfolding IsDistinct
contents_and_builds_legal =
    legal_by (codes "app" ∷ codes "lib" ∷ []) contents_and_builds (search rules) (search rules) refl
    (search (rules, ap {B = Reply ℕ} Stamped digest_of_abc))

pub rows_of_both_kinds_legal : Legal texts rows_of_both_kinds
unfolding IsDistinct
rows_of_both_kinds_legal =
    legal_by (codes "T" ∷ codes "x" ∷ []) rows_of_both_kinds (search rules) (search rules) refl
    (search rules)

pub chain_legal : Legal texts chain_without_a_file
unfolding IsDistinct
chain_legal =
    legal_by (codes "all" ∷ codes "lib" ∷ codes "top" ∷ []) chain_without_a_file (search rules) (search rules) refl
    (search rules)
