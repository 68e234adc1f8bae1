use Rattle.std.proofs.Common.{◌≡◌, ◌∙◌, ℕ, List, take, sym, subst, arith}
use Rattle.std.specs.List.{AllZip, Contains}
use Rattle.std.proofs.lemmas.List.{take_all}
use Rattle.redodb_model.specs.Command as commands
use Rattle.redodb_commands.specs.declared.script.Item.{Item}
use Rattle.redodb_commands.specs.Meaning.{command_of}
use Rattle.redodb_commands.specs.Support.Meaning.{item_of}
use Rattle.redodb_graph.specs.Pairs.{PairsOf}
use Rattle.redodb_graph.specs.Steps.{Means, listed_in}
use Rattle.redodb_graph.proofs.Covered.{covers_part}
use Rattle.redodb_graph.proofs.Growing.{all_mapped, all_next, all_weaker, grows_then, means_more}
use Rattle.redodb_graph.proofs.numbering.Numbering.script.Goals as goal

pub step-requires : goal.step-requires
step-requires c = λ p there.
    let items : List Item = c.items-items.result.now in
    let same : items ≡ c.args.script.now = c.items-items.ensures.items in
    subst (λ (of : PairsOf). Contains of.items p) (sym c.loop-item.invariant.grows.pairs)
    (covers_part (λ (item : commands.Item ℕ). listed_in item.command) item_of
    c.args.self.now.pairs.items items c.loop-item.item-index c.item-item.result (omega arith)
    c.item-item.is (rw same c.requires) p there)

pub loop-item-preserved : goal.loop-item-preserved
loop-item-preserved c =
    let before = c.loop-item.self in
    let after = c.step.new.self in
    let items : List Item = c.items-items.result.now in
    record {
      means = rw c.in_ok-push.ensures.items
          (all_next (λ item step. Means after step (command_of item.command)) items
          c.loop-item.steps.items c.loop-item.item-index c.item-item.result c.in_ok-step.field-0
          (omega arith) c.item-item.is
          (all_weaker (λ item step. Means before step (command_of item.command))
          (λ item step. Means after step (command_of item.command))
          (λ item step. means_more before after c.in_ok-step.ensures.grows step
          (command_of item.command)) (take c.loop-item.item-index items) c.loop-item.steps.items
          c.loop-item.invariant.means) c.in_ok-step.ensures.step);
      grows = grows_then c.args.self.now before after c.loop-item.invariant.grows
          c.in_ok-step.ensures.grows;
    }

pub returns-clause-steps : goal.returns-clause-steps
returns-clause-steps c =
    let items : List Item = c.items-items.result.now in
    let all : take c.loop-item.item-index items ≡ c.args.script.now =
    take_all c.loop-item.item-index items (omega arith) ∙ c.items-items.ensures.items in
    all_mapped (λ item step. Means c.loop-item.self step item.command) item_of c.args.script.now
    c.loop-item.steps.items
    (subst (λ (l : List Item).
    AllZip (λ item step. Means c.loop-item.self step (command_of item.command)) l
    c.loop-item.steps.items)
    all c.loop-item.invariant.means)
