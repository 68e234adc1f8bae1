use Rattle.std.proofs.Common.{◌≡◌, ◌<◌, None, length, get_or, sym, subst, arith}
use Rattle.redodb_database.specs.Tables.{Tables, tables_count, locks_of}
use Rattle.redodb_database.specs.Support.Kept.{tables_of}
use Rattle.redodb_database.proofs.Kept.{granted}
use Rattle.redodb_database.proofs.redo.Redo.grant.Goals as goal

pub returns-clause-after : goal.returns-clause-after
returns-clause-after c =
    let t : Tables = tables_of c.self.inside in
    let below : c.args.t < tables_count t =
    subst (λ (u : Tables). c.args.t < tables_count u) (sym c.self.view_is) c.requires.number in
    let are = c.self.invariant.tables in
    let held : c.args.t < length t.holders = omega (arith, are.holder_for_each) in
    let counted : c.args.t < length t.grants = omega (arith, are.grants_for_each) in
    let free : get_or t.holders c.args.t None ≡ None =
    subst (λ (u : Tables). (locks_of u).holder c.args.t ≡ None) (sym c.self.view_is)
    c.requires.free in
    rw (← c.self.view_is) (granted t c.args.session c.args.t c.index_mut-2.result.now
    held counted free c.index_mut-2.ensures.value)
