use Rattle.std.proofs.Common.{◌≡◌, ◌∙◌, ap, subst, sym}
use Rattle.std.specs.Prelude.{nat_eq}
use Rattle.std.specs.List.{dedup, filter_map}
use Rattle.std.specs.List.Sorted.{IsStrictlyIncreasing}
use Rattle.std.proofs.lemmas.List.Filters.{dedup_is}
use Rattle.std.proofs.lemmas.Map.Keys.{IsStrictlyIncreasing-dedup}
use Rattle.redodb_database.specs.Support.Kept.{AreHolderNames}
use Rattle.redodb_database.specs.Tables.{Tables, locks_of}
use Rattle.redodb_database.proofs.Holding.{holder_members}
use Rattle.redodb_database.proofs.redo.Redo.holders.Goals as goal
use Rattle.redodb_database.proofs.redo.Redo.holders.Goals.{After-drop-names-2}

once : (c : After-drop-names-2) → c.dedup.new.self.items ≡ dedup nat_eq c.sort_unstable.new.self.items
once c = dedup_is nat_eq c.sort_unstable.new.self.items c.dedup.new.self.items
    c.dedup.ensures.filtered

pub returns-clause-holders : goal.returns-clause-holders
returns-clause-holders c =
    holder_members c.args.self.now c.self.inside.held c.in_ok-names.names.items
    (subst (λ (tables : Tables). AreHolderNames tables.holders c.self.inside.held) c.self.view_is
    c.self.invariant.held_right)
    c.in_ok-names.ensures.listed c.in_ok-sessions.sessions.items c.sort_unstable.new.self.items
    c.dedup.new.self.items
    (c.in_ok-sessions.ensures
    ∙ ap (filter_map (locks_of c.args.self.now).holder) c.deref.ensures.value)
    c.sort_unstable.ensures.permutation (once c)

pub returns-clause-distinct : goal.returns-clause-distinct
returns-clause-distinct c =
    subst IsStrictlyIncreasing (sym (once c))
    (IsStrictlyIncreasing-dedup c.sort_unstable.new.self.items c.sort_unstable.ensures.sorted)
