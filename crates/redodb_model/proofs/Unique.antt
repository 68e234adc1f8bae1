-- One state gives one answer to a command.
use Rattle.std.proofs.Common.{◌≡◌, ℕ, Bool, List, Option, Some, None, sym, ap, ◌∙◌}
use Rattle.std.specs.Prelude.{MatchOption}
use Rattle.redodb_model.specs.Names.{Naming, IsListed}
use Rattle.redodb_model.specs.Support.Names.{IsNaming}
use Rattle.redodb_model.specs.State.{Records, State}
use Rattle.redodb_model.specs.Command.{Command, Lock, IfChange, Ood, Targets, Sources, asked_lock}
use Rattle.redodb_model.specs.Reply.{Refusal, Reply, Refused}
use Rattle.redodb_model.specs.Reply as replies
use Rattle.redodb_model.specs.Step.{Tells, Replies, Answers, stale_reply, verdict_of, holds_target, lock_reply}
use Rattle.redodb_model.proofs.Lists.{one_list}

module _ {N : Type 0} {naming : Naming N} (law : IsNaming naming) where
  listed : {P : N → Type 0} (f : List N → Reply N) (a b : Reply N)
      → (names : List N) × IsListed naming P names × (a ≡ f names)
      → (names : List N) × IsListed naming P names × (b ≡ f names) → a ≡ b
  listed f a b (xs, p, e) (ys, q, g) = e ∙ ap f (one_list law xs ys p q) ∙ sym g

  one_tells : (r : Records N) (command : Command N) (a b : Reply N) → Tells naming r command a
      → Tells naming r command b → a ≡ b
  one_tells r (Lock t) a b p q = absurd p
  one_tells r (IfChange t ns) a b p q = listed stale_reply a b p q
  one_tells r Ood a b p q = listed replies.Ood a b p q
  one_tells r Targets a b p q = listed replies.Targets a b p q
  one_tells r Sources a b p q = listed replies.Sources a b p q
  one_tells r x a b p q = p ∙ sym q

  either_way : (o : Option (Refusal N)) (r : Records N) (command : Command N) (a b : Reply N)
      → MatchOption o (Tells naming r command a) (λ refusal. a ≡ Refused refusal)
      → MatchOption o (Tells naming r command b) (λ refusal. b ≡ Refused refusal) → a ≡ b
  either_way None r command a b p q = one_tells r command a b p q
  either_way (Some refusal) r command a b p q = p ∙ sym q

  pub one_reply : (r : Records N) (s : ℕ) (holds : Bool) (command : Command N) (a b : Reply N)
      → Replies naming r s holds command a → Replies naming r s holds command b → a ≡ b
  one_reply r s holds command a b p q =
      either_way (verdict_of naming r s holds command) r command a b p q

  at_lock : (o : Option N) (st : State N) (s : ℕ) (command : Command N) (a b : Reply N)
      → MatchOption o (Replies naming st.records s (holds_target st.locks s command) command a)
      (λ t. a ≡ lock_reply (st.locks.holder t) (st.locks.grants t))
      → MatchOption o (Replies naming st.records s (holds_target st.locks s command) command b)
      (λ t. b ≡ lock_reply (st.locks.holder t) (st.locks.grants t)) → a ≡ b
  at_lock None st s command a b p q =
      one_reply st.records s (holds_target st.locks s command) command a b p q
  at_lock (Some t) st s command a b p q = p ∙ sym q

  pub one_answer : (st : State N) (s : ℕ) (command : Command N) (a b : Reply N)
      → Answers naming st s command a → Answers naming st s command b → a ≡ b
  one_answer st s command a b p q = at_lock (asked_lock command) st s command a b p q
