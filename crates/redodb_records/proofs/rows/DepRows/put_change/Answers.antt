use Rattle.std.proofs.Common.{refl, arith}
use Rattle.std.proofs.lemmas.Grind.{common_steps}
use Rattle.redodb_model.specs.State.{mark_in}
use Rattle.redodb_records.specs.Support.Kept.{has_change}
use Rattle.redodb_records.proofs.Changed.{change_written}
use Rattle.redodb_records.proofs.Writing.{kept_change, knows_row}
use Rattle.redodb_records.proofs.rows.DepRows.put_change.Goals as goal

pub put_in-requires-clause-was : goal.put_in-requires-clause-was
put_in-requires-clause-was c =
    (knows_row has_change (λ k. refl) c.args.t c.args.n c.self.view_is c.requires.target c.requires.name
    c.index_mut.ensures.value c.requires.room c.put_change-was.ensures.was c.self.invariant.needs).listed

pub put_in-requires-clause-room : goal.put_in-requires-clause-room
put_in-requires-clause-room c =
    (knows_row has_change (λ k. refl) c.args.t c.args.n c.self.view_is c.requires.target c.requires.name
    c.index_mut.ensures.value c.requires.room c.put_change-was.ensures.was c.self.invariant.needs).room

pub invariant_of-self : goal.invariant_of-self
invariant_of-self c =
    let e = c.put_change-was.ensures in
    kept_change c.args.t c.args.n c.put_change-was.new.self (mark_in c.args.cell.now.state c.args.cell.now)
    c.self.view_is c.requires.target c.index_mut.ensures.value
    (record { rows = e.rows; room = e.room; always = e.always }) e.was c.put_in.ensures
    c.self.invariant

pub returns-clause-rows : goal.returns-clause-rows
returns-clause-rows c =
    let e = c.put_change-was.ensures in
    change_written c.args.t c.args.n c.put_change-was.new.self (mark_in c.args.cell.now.state c.args.cell.now)
    c.self.view_is c.requires.target c.index_mut.ensures.value
    (record { rows = e.rows; room = e.room; always = e.always })

pub returns-clause-room : goal.returns-clause-room
returns-clause-room c = grind (arith, common_steps)
