use Rattle.std.proofs.Common.{refl, arith}
use Rattle.std.proofs.lemmas.Grind.{common_steps}
use Rattle.redodb_records.specs.Support.Kept.{has_created}
use Rattle.redodb_records.proofs.Changed.{created_written}
use Rattle.redodb_records.proofs.Writing.{kept_created, knows_row}
use Rattle.redodb_records.proofs.rows.DepRows.put_created.Goals as goal

pub put_in-requires-clause-was : goal.put_in-requires-clause-was
put_in-requires-clause-was c =
    (knows_row has_created (λ k. refl) c.args.t c.args.n c.self.view_is c.requires.target c.requires.name
    c.index_mut.ensures.value c.requires.room c.put_created-was.ensures.was c.self.invariant.awaits).listed

pub put_in-requires-clause-room : goal.put_in-requires-clause-room
put_in-requires-clause-room c =
    (knows_row has_created (λ k. refl) c.args.t c.args.n c.self.view_is c.requires.target c.requires.name
    c.index_mut.ensures.value c.requires.room c.put_created-was.ensures.was c.self.invariant.awaits).room

pub invariant_of-self : goal.invariant_of-self
invariant_of-self c =
    let e = c.put_created-was.ensures in
    kept_created c.args.t c.args.n c.put_created-was.new.self c.self.view_is c.requires.target
    c.index_mut.ensures.value
    (record { rows = e.rows; room = e.room; always = e.always }) e.was c.put_in.ensures
    c.self.invariant

pub returns-clause-rows : goal.returns-clause-rows
returns-clause-rows c =
    let e = c.put_created-was.ensures in
    created_written c.args.t c.args.n c.put_created-was.new.self c.self.view_is c.requires.target
    c.index_mut.ensures.value
    (record { rows = e.rows; room = e.room; always = e.always })

pub put_created-was-requires : goal.put_created-was-requires
put_created-was-requires c = grind (arith, common_steps)

pub returns-clause-room : goal.returns-clause-room
returns-clause-room c = grind (arith, common_steps)
