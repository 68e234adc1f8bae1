use Rattle.std.proofs.Common.{[], sym, subst, arith}
use Rattle.std.proofs.lemmas.Option.{slice_get_within, get_or_from_slice_get}
use Rattle.redodb_model.specs.Support.Unknown.{IsUnknown}
use Rattle.redodb_model.specs.Support.Users.{IsUnused}
use Rattle.redodb_database.specs.Tables.{state_of}
use Rattle.redodb_live.specs.Support.Kept.{live_of}
use Rattle.redodb_live.specs.Support.LiveState.{LiveState, IsNumberOf, state_in}
use Rattle.redodb_live.proofs.Asking.{unknown_name, unknown_number, unused_name, unused_number}
use Rattle.redodb_live.proofs.live.Live.known_number.Goals as goal

pub returns-in_err-number-clause-unknown : goal.returns-in_err-number-clause-unknown
returns-in_err-number-clause-unknown c = λ _.
    subst (λ (l : LiveState). IsUnknown (state_in l) c.args.name.now) c.self.view_is
    (unknown_name c.self.inside.names c.are_names.ensures (state_of c.self.inside.redo)
    c.self.invariant.state.within c.args.name.now (sym c.in_err-number.ensures.there))

pub returns-then-number-count-clause-known : goal.returns-then-number-count-clause-known
returns-then-number-count-clause-known c =
    let n = c.in_ok-number.number in
    let names = c.self.inside.names in
    let known : IsNumberOf (live_of c.self.inside) c.args.name.now n = record {
      named = get_or_from_slice_get names n c.args.name.now [] c.in_ok-number.ensures.found;
      among_names = slice_get_within names n c.args.name.now c.in_ok-number.ensures.found;
      among_numbers = omega (arith, c.if-number-count.true, c.count.ensures.count);
    } in
    subst (λ (l : LiveState). IsNumberOf l c.args.name.now n) c.self.view_is known

pub returns-else-number-count-clause-unknown : goal.returns-else-number-count-clause-unknown
returns-else-number-count-clause-unknown c = λ _.
    let n = c.in_ok-number.number in
    subst (λ (l : LiveState). IsUnknown (state_in l) c.args.name.now) c.self.view_is
    (unknown_number c.self.inside.names c.are_names.ensures (state_of c.self.inside.redo)
    c.self.invariant.state.within n c.args.name.now c.in_ok-number.ensures.found
    (c.count.ensures.others n (omega (arith, c.if-number-count.false, c.count.ensures.count))))

pub returns-in_err-number-clause-unused : goal.returns-in_err-number-clause-unused
returns-in_err-number-clause-unused c = λ _.
    subst (λ (l : LiveState). IsUnused (state_in l).records c.args.name.now) c.self.view_is
    (unused_name c.self.inside.names c.are_names.ensures (state_of c.self.inside.redo)
    c.self.invariant.state.within c.args.name.now (sym c.in_err-number.ensures.there))

pub returns-else-number-count-clause-unused : goal.returns-else-number-count-clause-unused
returns-else-number-count-clause-unused c = λ _.
    let n = c.in_ok-number.number in
    subst (λ (l : LiveState). IsUnused (state_in l).records c.args.name.now) c.self.view_is
    (unused_number c.self.inside.names c.are_names.ensures (state_of c.self.inside.redo)
    c.self.invariant.state.within n c.args.name.now c.in_ok-number.ensures.found
    (c.count.ensures.unused n (omega (arith, c.if-number-count.false, c.count.ensures.count))))
