use Rattle.std.proofs.Common.{ℕ, length, subst}
use Rattle.redodb_model.specs.Deps as model
use Rattle.redodb_model.specs.Deps.{AreDeps}
use Rattle.redodb_model.specs.Names.{Text, texts, text_at, by_number, by_text}
use Rattle.redodb_model.specs.Support.Deps.{named_deps}
use Rattle.redodb_database.specs.Meaning.{deps_of}
use Rattle.redodb_database.specs.Tables.{state_of, tables_records}
use Rattle.redodb_live.specs.Support.LiveState.{LiveState, state_in}
use Rattle.redodb_live.specs.Support.Ordered.{AreSortedAgain}
use Rattle.redodb_live.specs.Support.Within.{IsStateWithin}
use Rattle.redodb_live.proofs.Asking.{deps_below, sorted_deps, deps_over_names}
use Rattle.redodb_live.proofs.Forms.{deps_form}
use Rattle.redodb_live.proofs.live.Live.deps.Goals as goal

pub returns-in_ok-deps-in-Some : goal.returns-in_ok-deps-in-Some
returns-in_ok-deps-in-Some c =
    let live : LiveState = c.args.self.now in
    let known = c.in-Some.ensures.known in
    let are = c.in-Some.ensures.names in
    let st = state_of live.tables in
    let old = deps_of c.in_ok-deps-in-Some.deps in
    let change = c.sort.new.numbers.items in
    let created = c.sort-in-Some.new.numbers.items in
    let within = subst (λ (l : LiveState). IsStateWithin (length l.names) (state_of l.tables))
    c.self.view_is c.self.invariant.state.within in
    let rows = subst
    (λ (l : LiveState). AreDeps by_number (tables_records l.tables) c.in-Some.t old)
    c.self.view_is c.in_ok-deps-in-Some.ensures.deps in
    let changes = subst
    (λ (l : LiveState). AreSortedAgain (by_text l.names).order old.change change)
    c.self.view_is (record { same = c.sort.ensures.same; sorted = c.sort.ensures.sorted }) in
    let createds = subst
    (λ (l : LiveState). AreSortedAgain (by_text l.names).order old.created created)
    c.self.view_is
    (record { same = c.sort-in-Some.ensures.same; sorted = c.sort-in-Some.ensures.sorted }) in
    let sorted = sorted_deps live.names are st within c.in-Some.t old change created rows changes
    createds in
    let new : model.Deps ℕ = record {
      change = change;
      created = created;
      always = c.in_ok-deps-in-Some.deps.always;
    } in
    record {
      deps = subst (λ (name : Text). AreDeps texts (state_in live).records name
          (named_deps (text_at live.names) new)) known.named
          (deps_over_names live.names are st within c.in-Some.t known.among_names new sorted);
      below = deps_below live.names are st within c.in-Some.t new sorted;
      form = deps_form live.names are st within c.in-Some.t new sorted;
    }
