use Rattle.std.proofs.Common.{◌≡◌, ◌∙◌, ◌-◌, ◌<◌, ℕ, List, [], length, take, drop, get_or, sym, ap, arith}
use Rattle.redodb_names.specs.Support.Texts.{start_at}
use Rattle.redodb_names.proofs.Pieces.{counted, end_is, piece_at, piece_within}
use Rattle.redodb_names.proofs.texts.Texts.get.Goals as goal
use Rattle.redodb_names.proofs.texts.Texts.get.Goals.{After-index}

pub start_of-start-requires : goal.start_of-start-requires
start_of-start-requires c =
    let all =
    counted c.self.inside.ends.items c.self.inside.bytes.items c.args.self.now c.self.view_is in
    omega (arith, c.requires, all, ap length c.deref.ensures.value)

pub index-requires : goal.index-requires
index-requires c =
    let all =
    counted c.self.inside.ends.items c.self.inside.bytes.items c.args.self.now c.self.view_is in
    omega (arith, c.requires, all, ap length c.deref.ensures.value, c.deref.ensures.len)

within : (c : After-index) → c.args.number < length c.self.inside.ends.items
within c =
    let all =
    counted c.self.inside.ends.items c.self.inside.bytes.items c.args.self.now c.self.view_is in
    omega (arith, c.requires, all)

begins : (c : After-index)
    → c.start_of-start.result ≡ start_at 0 c.self.inside.ends.items c.args.number
begins c =
    c.start_of-start.ensures
    ∙ ap (λ (es : List ℕ). start_at 0 es c.args.number) c.deref.ensures.value

ends : (c : After-index) → c.index.result.now ≡ get_or c.self.inside.ends.items c.args.number 0
ends c = end_is c.self.inside.ends.items c.args.number c.index.result.now (within c) c.index.ensures

pub part-requires-clause-order : goal.part-requires-clause-order
part-requires-clause-order c =
    let at = (goal.at.part-requires-clause-order c).After-index in
    let both = piece_within 0 c.self.inside.ends.items (length c.self.inside.bytes.items)
    c.args.number c.self.invariant (within at) in
    omega (arith, begins at, ends at, both.0)

pub part-requires-clause-within : goal.part-requires-clause-within
part-requires-clause-within c =
    let at = (goal.at.part-requires-clause-within c).After-index in
    let both = piece_within 0 c.self.inside.ends.items (length c.self.inside.bytes.items)
    c.args.number c.self.invariant (within at) in
    omega (arith, ends at, both.1, ap length c.deref-2.ensures.value)

pub returns : goal.returns
returns c =
    let at = (goal.at.returns c).After-index in
    c.part.ensures
    ∙ (λ i. take (ends at i - begins at i) (drop (begins at i) (c.deref-2.ensures.value i)))
    ∙ sym (piece_at 0 c.self.inside.ends.items c.self.inside.bytes.items c.args.number (within at))
    ∙ ap (λ (ts : List (List ℕ)). get_or ts c.args.number []) c.self.view_is
