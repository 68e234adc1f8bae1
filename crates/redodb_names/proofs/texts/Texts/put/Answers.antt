use Rattle.std.proofs.Common.{rules, ◌≡◌, ◌∙◌, ◌≤◌, ℕ, List, [], ◌∷◌, ◌++◌, length, take, Result, Ok, Err, sym, ap, subst, append-nil, arith}
use Rattle.std.specs.Prelude.{OnErr}
use Rattle.std.proofs.lemmas.List.{take-take}
use Rattle.redodb_names.specs.Support.Texts.{pieces, start_at, AreEnds}
use Rattle.redodb_names.proofs.Pieces.{counted, first_kept, first_ends_kept, put_behind, ends_behind}
use Rattle.redodb_names.proofs.texts.Texts.put.Goals as goal
use Rattle.redodb_names.proofs.texts.Texts.put.Goals.{After-truncate-2, After-extend_from_slice, After-push}

on_err : {X E : Type 0} (result : Result X E) (P : Type 0) → P → OnErr result P
on_err (Ok x) P p = tt
on_err (Err e) P p = p

pub start_of-start-requires : goal.start_of-start-requires
start_of-start-requires c =
    let all =
    counted c.self.inside.ends.items c.self.inside.bytes.items c.args.self.now c.self.view_is in
    omega (arith, c.requires, all, ap length c.deref.ensures.value)

enough : (c : After-truncate-2) → c.args.count ≤ length c.self.inside.ends.items
enough c =
    let all =
    counted c.self.inside.ends.items c.self.inside.bytes.items c.args.self.now c.self.view_is in
    omega (arith, c.requires, all)

-- what is left of the bytes
front : (c : After-truncate-2) → c.truncate-2.new.self.items
    ≡ take (start_at 0 c.self.inside.ends.items c.args.count) c.self.inside.bytes.items
front c =
    let begins = c.start_of-start.ensures
    ∙ ap (λ (es : List ℕ). start_at 0 es c.args.count) c.deref.ensures.value in
    c.truncate-2.ensures.items ∙ ap (λ n. take n c.self.inside.bytes.items) begins

-- the first texts stay, whatever follows the bytes that are left
kept : (c : After-truncate-2) (ends bytes more : List ℕ) → ends ≡ c.truncate.new.self.items
    → bytes ≡ c.truncate-2.new.self.items ++ more
    → AreEnds 0 ends (length bytes)
    × (take c.args.count (pieces 0 ends bytes) ≡ take c.args.count c.args.self.now)
kept c ends bytes more ends_is bytes_is =
    let es = c.self.inside.ends.items in
    let bs = c.self.inside.bytes.items in
    let k = c.args.count in
    let first = ends_is ∙ c.truncate.ensures.items in
    let all = bytes_is ∙ ap (λ (xs : List ℕ). xs ++ more) (front c) in (
      subst (λ (p : List ℕ × List ℕ). AreEnds 0 p.0 (length p.1))
          (λ i. (sym first i, sym all i))
          (first_ends_kept es bs more k c.self.invariant (enough c)),
      ap (take k) ((λ i. pieces 0 (first i) (all i))
          ∙ first_kept es bs more k c.self.invariant (enough c))
          ∙ take-take k k (pieces 0 es bs) (omega arith)
          ∙ ap (take k) c.self.view_is,
    )

pub invariant_of-self : goal.invariant_of-self
invariant_of-self c =
    (kept (goal.at.invariant_of-self c).After-truncate-2 _ _ []
    (λ i. c.truncate.new.self.items)
    (c.in_err-extend_from_slice.ensures.items ∙ sym (append-nil c.truncate-2.new.self.items))).0

pub returns-in_err-extend_from_slice-clause-err : goal.returns-in_err-extend_from_slice-clause-err
returns-in_err-extend_from_slice-clause-err c =
    on_err c.from_residual.result _
    (kept (goal.at.returns-in_err-extend_from_slice-clause-err c).After-truncate-2
    c.truncate.new.self.items c.extend_from_slice.new.self.items []
    (λ i. c.truncate.new.self.items)
    (c.in_err-extend_from_slice.ensures.items ∙ sym (append-nil c.truncate-2.new.self.items))).1

pub invariant_of-self-in_err-push : goal.invariant_of-self-in_err-push
invariant_of-self-in_err-push c =
    (kept (goal.at.invariant_of-self-in_err-push c).After-truncate-2
    c.push.new.self.items c.extend_from_slice.new.self.items c.args.text.now
    c.in_err-push.ensures.items c.in_ok-extend_from_slice.ensures.items).0

pub returns-in_err-push-clause-err : goal.returns-in_err-push-clause-err
returns-in_err-push-clause-err c =
    on_err c.from_residual-in_err-push.result _
    (kept (goal.at.returns-in_err-push-clause-err c).After-truncate-2
    c.push.new.self.items c.extend_from_slice.new.self.items c.args.text.now
    c.in_err-push.ensures.items c.in_ok-extend_from_slice.ensures.items).1

-- the text was put behind the first ones
done : (c : After-truncate-2) (ends bytes text : List ℕ) (end : ℕ)
    → ends ≡ c.truncate.new.self.items ++ end ∷ [] → bytes ≡ c.truncate-2.new.self.items ++ text
    → end ≡ length bytes → AreEnds 0 ends (length bytes)
    × (pieces 0 ends bytes ≡ take c.args.count c.args.self.now ++ text ∷ [])
done c ends bytes text end ends_is bytes_is end_is =
    let es = c.self.inside.ends.items in
    let bs = c.self.inside.bytes.items in
    let k = c.args.count in
    let all = bytes_is ∙ ap (λ (xs : List ℕ). xs ++ text) (front c) in
    let longer = ends_is
    ∙ (λ i. c.truncate.ensures.items i ++ (end_is ∙ ap length all) i ∷ []) in (
      subst (λ (p : List ℕ × List ℕ). AreEnds 0 p.0 (length p.1))
          (λ i. (sym longer i, sym all i))
          (ends_behind es bs text k c.self.invariant (enough c)),
      (λ i. pieces 0 (longer i) (all i))
          ∙ put_behind es bs text k c.self.invariant (enough c)
          ∙ ap (λ (ts : List (List ℕ)). take k ts ++ text ∷ []) c.self.view_is,
    )

counts : (c : After-push) → c.len.result ≡ length c.extend_from_slice.new.self.items
counts c = search rules

pub invariant_of-self-2 : goal.invariant_of-self-2
invariant_of-self-2 c =
    (done (goal.at.invariant_of-self-2 c).After-truncate-2
    c.push.new.self.items c.extend_from_slice.new.self.items c.args.text.now c.len.result
    c.in_ok-push.ensures.items c.in_ok-extend_from_slice.ensures.items
    (counts (goal.at.invariant_of-self-2 c).After-push)).0

pub returns-clause-put : goal.returns-clause-put
returns-clause-put c =
    (done (goal.at.returns-clause-put c).After-truncate-2
    c.push.new.self.items c.extend_from_slice.new.self.items c.args.text.now c.len.result
    c.in_ok-push.ensures.items c.in_ok-extend_from_slice.ensures.items
    (counts (goal.at.returns-clause-put c).After-push)).1
