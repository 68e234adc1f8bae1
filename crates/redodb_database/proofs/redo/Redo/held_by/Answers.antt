use Rattle.std.proofs.Common.{◌≡◌, ◌∙◌, ◌<◌, ◌↔◌, ℕ, Bool, cond, List, [], ◌∷◌, ◌++◌, length, get_or, ap, subst, sym}
use Rattle.std.specs.List.{Contains, filter}
use Rattle.std.specs.List.Sorted.{IsStrictlyIncreasing}
use Rattle.std.proofs.lemmas.List.Elements.{filter_more}
use Rattle.std.proofs.lemmas.List.Kept.{IsStrictlyIncreasing-filter}
use Rattle.redodb_model.specs.Step.{is_held_by}
use Rattle.redodb_model.proofs.Listing.{at_take_all, each_below}
use Rattle.redodb_database.specs.Support.Kept.{AreHolderNames}
use Rattle.redodb_database.specs.Tables.{Tables, tables_count, locks_of}
use Rattle.redodb_database.proofs.Holding.{HeldBy, held_below, held_members, rising}
use Rattle.redodb_database.proofs.redo.Redo.held_by.Goals as goal
use Rattle.redodb_database.proofs.redo.Redo.held_by.Goals.{After-drop-names-2}

pub loop-t-preserved : goal.loop-t-preserved
loop-t-preserved c =
    let p : ℕ → Bool =
    λ t. is_held_by c.args.session ((locks_of c.args.self.now).holder t) in
    let names = c.deref-t-items.result.now in
    let n = get_or names c.loop-t.t-index 0 in
    c.in_ok-push_if.ensures
    ∙ ap (λ (b : Bool). c.loop-t.held.items ++ cond b (n ∷ []) []) c.holds-is_held.ensures
    ∙ ap (λ (ts : List ℕ). ts ++ cond (p n) (n ∷ []) []) c.loop-t.invariant
    ∙ sym (filter_more p names c.loop-t.t-index 0 c.loop-t-test.true)

-- the list has all names that the session holds
all_tested : (c : After-drop-names-2) → c.loop-t.held.items
    ≡ filter (λ t. is_held_by c.args.session ((locks_of c.args.self.now).holder t))
    c.in_ok-names.names.items
all_tested c =
    let p : ℕ → Bool =
    λ t. is_held_by c.args.session ((locks_of c.args.self.now).holder t) in
    at_take_all (λ ts. c.loop-t.held.items ≡ filter p ts) c.deref-t-items.result.now
    c.loop-t.t-index c.loop-t-test.false c.loop-t.invariant
    ∙ ap (filter p) c.deref-t-items.ensures.value

members : (c : After-drop-names-2) → (t : ℕ) → Contains c.loop-t.held.items t
    ↔ HeldBy c.args.self.now c.args.session t
members c =
    held_members c.args.self.now c.self.inside.held c.in_ok-names.names.items
    (subst (λ (tables : Tables). AreHolderNames tables.holders c.self.inside.held) c.self.view_is
    c.self.invariant.held_right)
    c.in_ok-names.ensures.listed c.args.session c.loop-t.held.items (all_tested c)

pub returns-clause-held : goal.returns-clause-held
returns-clause-held c = members c

pub returns-clause-below : goal.returns-clause-below
returns-clause-below c =
    let tables : Tables = c.args.self.now in
    let each : length tables.holders ≡ tables_count tables =
    subst (λ (t : Tables). length t.holders ≡ tables_count t) c.self.view_is
    c.self.invariant.tables.holder_for_each in
    each_below (tables_count tables) c.loop-t.held.items (λ t h.
    subst (λ n. t < n) each (held_below tables c.args.session t ((members c t).0 h)))

pub returns-clause-distinct : goal.returns-clause-distinct
returns-clause-distinct c =
    let names = c.in_ok-names.names.items in
    subst IsStrictlyIncreasing (sym (all_tested c))
    (IsStrictlyIncreasing-filter
    (λ t. is_held_by c.args.session ((locks_of c.args.self.now).holder t)) names
    (rising names c.in_ok-names.ensures.listed))
