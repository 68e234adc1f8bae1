use Rattle.std.proofs.Common.{rules}
use Rattle.redodb_database.proofs.redo.Redo.apply.Goals as goal

pub returns-in-IfChange-clause-after : goal.returns-in-IfChange-clause-after
returns-in-IfChange-clause-after c = search (rules, c.put_changes.ensures.after c.args.s)

pub returns-in-IfCreate-clause-after : goal.returns-in-IfCreate-clause-after
returns-in-IfCreate-clause-after c = search (rules, c.put_created.ensures.after c.args.s)

pub returns-in-Always-clause-after : goal.returns-in-Always-clause-after
returns-in-Always-clause-after c = search (rules, c.put_always.ensures.after c.args.s)

pub returns-in-Stamp-clause-after : goal.returns-in-Stamp-clause-after
returns-in-Stamp-clause-after c = search (rules, c.stamp.ensures.after c.args.s)

pub returns-in-Done-clause-after : goal.returns-in-Done-clause-after
returns-in-Done-clause-after c = search (rules, c.done.ensures.after c.args.s)

pub returns-in-Failed-clause-after : goal.returns-in-Failed-clause-after
returns-in-Failed-clause-after c = search (rules, c.failed.ensures.after c.args.s)
