use Rattle.std.proofs.Common.{◌≡◌, ℕ, option_map, sym, subst}
use Rattle.redodb_model.specs.Command as commands
use Rattle.redodb_model.specs.Step.{verdict_of}
use Rattle.redodb_commands.specs.Meaning.{refusal_of}
use Rattle.redodb_records.specs.Rows.{by_number}
use Rattle.redodb_graph.specs.Steps.{Means}
use Rattle.redodb_replica.specs.Replicas.{ReplicaOf, count_of, records_of}
use Rattle.redodb_replica.specs.Support.Changes.{IsReady}
use Rattle.redodb_replica.proofs.Listed.{ready}
use Rattle.redodb_replica.proofs.replica.Replica.verdict.Goals as goal

pub verdict-requires : goal.verdict-requires
verdict-requires c =
    subst (λ (r : ReplicaOf). IsReady r.graph.tables (count_of r) c.args.step.now)
    (sym c.self.view_is)
    (ready c.args.self.now.graph.tables (count_of c.args.self.now) c.args.step.now c.requires)

pub returns : goal.returns
returns c =
    subst (λ (r : ReplicaOf). (x : commands.Command ℕ) → Means r.graph.tables c.args.step.now x
    → option_map refusal_of c.verdict.result
    ≡ verdict_of by_number (records_of r) c.args.s c.args.holds x)
    c.self.view_is (c.verdict.ensures c.self.inside.rows)
