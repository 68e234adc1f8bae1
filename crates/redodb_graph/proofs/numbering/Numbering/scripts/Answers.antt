use Rattle.std.proofs.Common.{ℕ, List, map, take, sym, subst, arith}
use Rattle.std.specs.List.{AllZip, Contains, flat_map}
use Rattle.std.specs.Prelude.{Vec}
use Rattle.std.specs.Global.{Global}
use Rattle.std.proofs.lemmas.List.{take_all}
use Rattle.redodb_model.specs.Command as commands
use Rattle.redodb_commands.specs.declared.script.Item.{Item}
use Rattle.redodb_commands.specs.Support.Meaning.{item_of}
use Rattle.redodb_graph.specs.declared.step.Step.{Step}
use Rattle.redodb_graph.specs.Pairs.{PairsOf}
use Rattle.redodb_graph.specs.Steps.{AllMean, Means, listed_in}
use Rattle.redodb_graph.proofs.Covered.{covers_part}
use Rattle.redodb_graph.proofs.Growing.{all_mapped, all_mapped_right, all_next, all_weaker, grows_then, means_more}
use Rattle.redodb_graph.proofs.numbering.Numbering.scripts.Goals as goal

pub script-requires : goal.script-requires
script-requires c = λ p there.
    subst (λ (of : PairsOf). Contains of.items p) (sym c.loop-script.invariant.grows.pairs)
    (covers_part
    (λ (script : List (commands.Item ℕ)). flat_map (λ item. listed_in item.command) script)
    (λ (script : List Item). map item_of script)
    c.args.self.now.pairs.items c.args.scripts.now c.loop-script.script-index c.script-item.result
    (omega arith) c.script-item.is c.requires p there)

pub loop-script-preserved : goal.loop-script-preserved
loop-script-preserved c =
    let before = c.loop-script.self in
    let after = c.script.new.self in
    record {
      means = rw c.in_ok-push.ensures.items
          (all_next (λ script steps. AllMean after (map item_of script) steps.items)
          c.args.scripts.now c.loop-script.steps.items c.loop-script.script-index
          c.script-item.result c.in_ok-script.field-0 (omega arith) c.script-item.is
          (all_weaker (λ script steps. AllMean before (map item_of script) steps.items)
          (λ script steps. AllMean after (map item_of script) steps.items)
          (λ script steps. all_weaker (λ item step. Means before step item.command)
          (λ item step. Means after step item.command)
          (λ item step. means_more before after c.in_ok-script.ensures.grows step item.command)
          (map item_of script) steps.items) (take c.loop-script.script-index c.args.scripts.now)
          c.loop-script.steps.items c.loop-script.invariant.means) c.in_ok-script.ensures.steps);
      grows = grows_then c.args.self.now before after c.loop-script.invariant.grows
          c.in_ok-script.ensures.grows;
    }

pub returns-clause-steps : goal.returns-clause-steps
returns-clause-steps c =
    let scripts = c.args.scripts.now in
    let steps = c.loop-script.steps.items in
    let self = c.loop-script.self in
    all_mapped (AllMean self) (λ (script : List Item). map item_of script) scripts _
    (all_mapped_right (λ (script : List Item) row. AllMean self (map item_of script) row)
    (λ (row : Vec Step Global). row.items) scripts steps
    (subst (λ (l : List (List Item)).
    AllZip (λ script row. AllMean self (map item_of script) row.items) l steps)
    (take_all c.loop-script.script-index scripts (omega arith)) c.loop-script.invariant.means))
