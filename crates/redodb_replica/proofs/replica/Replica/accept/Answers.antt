use Rattle.std.proofs.Common.{length, sym, ap, subst, arith}
use Rattle.redodb_replica.specs.Replicas.{ReplicaOf, IsStepBelow, count_of}
use Rattle.redodb_replica.specs.Support.Changes.{IsReady}
use Rattle.redodb_replica.specs.Support.Entries.{HasNumber}
use Rattle.redodb_replica.proofs.Fitting.{has_number}
use Rattle.redodb_replica.proofs.Listed.{ready}
use Rattle.redodb_replica.proofs.Seeds.{right_but}
use Rattle.redodb_replica.proofs.replica.Replica.accept.Goals as goal

pub seed_of-seed-requires : goal.seed_of-seed-requires
seed_of-seed-requires c = (
  c.self.inside.graph.now.tables,
  subst (λ (r : ReplicaOf). IsReady r.graph.tables (count_of r) c.args.step.now)
      (sym c.self.view_is)
      (ready c.args.self.now.graph.tables (count_of c.args.self.now) c.args.step.now
      c.requires.step),
)

pub obey-requires-clause-ready : goal.obey-requires-clause-ready
obey-requires-clause-ready c =
    subst (λ (r : ReplicaOf). IsReady r.graph.tables (count_of r) c.args.step.now)
    (sym c.self.view_is)
    (ready c.args.self.now.graph.tables (count_of c.args.self.now) c.args.step.now
    c.requires.step)

pub obey-requires-clause-entry : goal.obey-requires-clause-entry
obey-requires-clause-entry c =
    subst (λ (r : ReplicaOf). HasNumber r.graph.tables c.args.step.now) (sym c.self.view_is)
    (has_number c.args.self.now.graph.tables c.args.step.now c.requires.step.0 c.requires.step.1)

pub invariant_of-self : goal.invariant_of-self
invariant_of-self c =
    let inside = c.self.inside in
    let tables = inside.graph.now.tables in
    let kept = c.self.invariant in
    let below =
    subst (λ (r : ReplicaOf). IsStepBelow r.graph.tables (count_of r) c.args.step.now)
    (sym c.self.view_is) c.requires.step in
    record {
      fit = c.obey.ensures.fit kept.fit;
      builds = c.obey.ensures.builds inside.applied kept.builds;
      remembered = record {
        sized = omega (
          arith,
          ap length c.note.ensures.out,
          kept.remembered.sized,
          c.obey.ensures.sized.names,
          kept.fit.sized.names,
        );
        right =
            right_but tables (length inside.cells) c.args.step.now inside.cells c.obey.new.cells
            inside.rows c.obey.new.rows inside.memo c.note.new.self c.args.s
            c.seed_of-seed.result below kept.remembered.right
            (c.seed_of-seed.ensures.seed tables inside.rows) c.obey.ensures.effect
            c.note.ensures.out c.note.ensures.seeds;
      };
    }
