use Rattle.std.proofs.Common.{◌≡◌, ◌∙◌, ℕ, Option, Some, sym, ap, subst, inl, inr}
use Rattle.std.specs.List.{Contains}
use Rattle.redodb_memo.proofs.Marking.{queued_too}
use Rattle.redodb_replica.specs.Support.Memos.{MemoOf}
use Rattle.redodb_replica.proofs.memo.Memo.note.Goals as goal

one_seed : (seed : Option ℕ) (m n : ℕ) → seed ≡ Some m → seed ≡ Some n → n ≡ m
one_seed seed m n here there = cc

pub returns-in-Some-clause-seeds : goal.returns-in-Some-clause-seeds
returns-in-Some-clause-seeds c = λ n.
    let both = queued_too c.self.invariant.noted c.enter.ensures n in (
      λ q. elim (both.0 q) [
        | inl before ↦ inl (subst (λ (m : MemoOf). Contains m.seeds n) c.self.view_is before)
        | inr here ↦ inr (c.in-Some.is ∙ ap Some (sym here))
      ],
      λ s. both.1 (elim s [
        | inl before ↦ inl (subst (λ (m : MemoOf). Contains m.seeds n) (sym c.self.view_is) before)
        | inr is ↦ inr (one_seed c.args.seed c.in-Some.n n c.in-Some.is is)
      ]),
    )
