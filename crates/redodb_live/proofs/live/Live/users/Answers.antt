use Rattle.std.proofs.Common.{ℕ, length, subst}
use Rattle.redodb_model.specs.Users as model
use Rattle.redodb_model.specs.Users.{AreUsers}
use Rattle.redodb_model.specs.Names.{Text, texts, text_at, by_number, by_text}
use Rattle.redodb_model.specs.Support.Users.{named_users}
use Rattle.redodb_database.specs.Meaning.{users_of}
use Rattle.redodb_database.specs.Tables.{state_of, tables_records}
use Rattle.redodb_live.specs.Support.LiveState.{LiveState, state_in}
use Rattle.redodb_live.specs.Support.Ordered.{AreSortedAgain}
use Rattle.redodb_live.specs.Support.Within.{IsStateWithin}
use Rattle.redodb_live.proofs.Asking.{users_below, sorted_users, users_over_names}
use Rattle.redodb_live.proofs.Forms.{users_form}
use Rattle.redodb_live.proofs.live.Live.users.Goals as goal

pub returns-in_ok-users-in-Some : goal.returns-in_ok-users-in-Some
returns-in_ok-users-in-Some c =
    let live : LiveState = c.args.self.now in
    let known = c.in-Some.ensures.known in
    let are = c.in-Some.ensures.names in
    let st = state_of live.tables in
    let old = users_of c.in_ok-users-in-Some.users in
    let change = c.sort.new.numbers.items in
    let created = c.sort-in-Some.new.numbers.items in
    let within = subst (λ (l : LiveState). IsStateWithin (length l.names) (state_of l.tables))
    c.self.view_is c.self.invariant.state.within in
    let rows = subst
    (λ (l : LiveState). AreUsers by_number (tables_records l.tables) c.in-Some.n old)
    c.self.view_is c.in_ok-users-in-Some.ensures.users in
    let changes = subst
    (λ (l : LiveState). AreSortedAgain (by_text l.names).order old.change change)
    c.self.view_is (record { same = c.sort.ensures.same; sorted = c.sort.ensures.sorted }) in
    let createds = subst
    (λ (l : LiveState). AreSortedAgain (by_text l.names).order old.created created)
    c.self.view_is
    (record { same = c.sort-in-Some.ensures.same; sorted = c.sort-in-Some.ensures.sorted }) in
    let sorted = sorted_users live.names are st within c.in-Some.n old change created rows changes
    createds in
    let new : model.Users ℕ = record {
      change = change;
      created = created;
    } in
    record {
      users = subst (λ (name : Text). AreUsers texts (state_in live).records name
          (named_users (text_at live.names) new)) known.named
          (users_over_names live.names are st within c.in-Some.n known.among_names new sorted);
      below = users_below live.names are st within c.in-Some.n new sorted;
      form = users_form live.names are st within c.in-Some.n new sorted;
    }
