use Rattle.std.proofs.Common.{◌<◌, [], length, sym, subst, arith}
use Rattle.redodb_live.specs.Support.Kept.{live_of}
use Rattle.redodb_live.specs.Support.LiveState.{LiveState}
use Rattle.redodb_live.proofs.Parts.{AreSlotsOf, slots_over_names}
use Rattle.redodb_live.proofs.live.Live.slots.Goals as goal

-- the slots of a number that the database knows
known : (c : goal.After-slots) → AreSlotsOf c.args.self.now c.args.t c.slots.result.now
known c =
    let t = c.args.t in
    let below = subst (λ (l : LiveState). t < length l.names) (sym c.self.view_is) c.requires in
    subst (λ (l : LiveState). AreSlotsOf l t c.slots.result.now) c.self.view_is
    (slots_over_names (live_of c.self.inside) c.are_names.ensures c.self.invariant.state.within t
    below c.slots.result.now c.slots.ensures.change c.slots.ensures.created)

-- no slots of another
unknown : (c : goal.After-result-1) → AreSlotsOf c.args.self.now c.args.t []
unknown c =
    let t = c.args.t in
    let below = subst (λ (l : LiveState). t < length l.names) (sym c.self.view_is) c.requires in
    let none = c.count.ensures.others t
    (omega (arith, c.if-t-count.false, c.count.ensures.count)) in
    subst (λ (l : LiveState). AreSlotsOf l t []) c.self.view_is
    (slots_over_names (live_of c.self.inside) c.are_names.ensures c.self.invariant.state.within t
    below [] (λ n. sym (none.change n)) (λ n. sym (none.created n)))

pub returns-then-t-count-clause-change : goal.returns-then-t-count-clause-change
returns-then-t-count-clause-change c = (known c).change

pub returns-else-t-count-clause-change : goal.returns-else-t-count-clause-change
returns-else-t-count-clause-change c = (unknown c).change

pub returns-then-t-count-clause-created : goal.returns-then-t-count-clause-created
returns-then-t-count-clause-created c = (known c).created

pub returns-else-t-count-clause-created : goal.returns-else-t-count-clause-created
returns-else-t-count-clause-created c = (unknown c).created

pub returns-then-t-count-clause-no_change : goal.returns-then-t-count-clause-no_change
returns-then-t-count-clause-no_change c = (known c).no_change

pub returns-else-t-count-clause-no_change : goal.returns-else-t-count-clause-no_change
returns-else-t-count-clause-no_change c = (unknown c).no_change

pub returns-then-t-count-clause-no_created : goal.returns-then-t-count-clause-no_created
returns-then-t-count-clause-no_created c = (known c).no_created

pub returns-else-t-count-clause-no_created : goal.returns-else-t-count-clause-no_created
returns-else-t-count-clause-no_created c = (unknown c).no_created
