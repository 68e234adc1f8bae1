-- An answer whose list of names is reordered is the answer by that order.
use Rattle.std.proofs.Common.{◌≡◌, ◌≢◌, ℕ, ◌<◌, Bool, false, List, [], ◌∷◌, Option, Some, None, refl, sym, ap, ◌∙◌, subst, get_or, length, arith, MatchOption}
use Rattle.std.specs.Prelude.{nat_eq}
use Rattle.std.specs.List.{Contains, IsDistinct}
use Rattle.std.specs.List.Sorted.{IsPermutation}
use Rattle.std.specs.Ordering.{is_lt, ordering_reverse}
use Rattle.std.specs.Cmp.{IsTotalOrder}
use Rattle.std.specs.declared.cmp.Ordering.{Ordering}
use Rattle.std.specs.declared.cmp.Ordering.TheVariants.{Less, Equal, Greater}
use Rattle.std.proofs.lemmas.Bool.{ne_eqb, eq-eqb, false≢true}
use Rattle.std.proofs.lemmas.Cmp.{nat_eq_equiv}
use Rattle.std.proofs.lemmas.List.Elements.{Contains-get_or}
use Rattle.std.proofs.lemmas.List.Sorted.{Contains-permutation, IsPermutation-sym, length_permutation, sorted_far, ranks_by}
use Rattle.std.proofs.lemmas.Map.Keys.{IsDistinct-from_apart, apart_from_distinct, IsDistinct-IsPermutation}
use Rattle.redodb_model.specs.Names.{IsListed, Ascending, numbers}
use Rattle.redodb_model.specs.State.{State, Records}
use Rattle.redodb_model.specs.Command.{Command, File, Lock, IfChange, Ood, Targets, Sources, asked_lock}
use Rattle.redodb_model.specs.Reply.{Refusal, Reply, Okay, Stale, Refused}
use Rattle.redodb_model.specs.Step.{Answers, Tells, Replies, holds_target, lock_reply, stale_reply, verdict_of}
use Rattle.redodb_model.specs.OutOfDate.{IsStale}
use Rattle.redodb_model.specs.Renaming.{IsBelow}
use Rattle.redodb_model.specs.Support.Renaming.{IsWithin}
use Rattle.redodb_live.specs.Support.Ordered.{AreSortedAgain, IsSortedReply}
use Rattle.redodb_live.proofs.Within.{in_list, file_below}

-- what two orders of the numbers below a count need
pub record AreOrders (count : ℕ) (order other : ℕ → ℕ → Ordering) : Type 0 where
  pub strict : (n : ℕ) → order n n ≢ Less
  pub total : IsTotalOrder other
  pub apart : (m n : ℕ) → m < count → n < count → other m n ≡ Equal → m ≡ n

strictly : (other : ℕ → ℕ → Ordering) (m n : ℕ) (o : Ordering) → IsTotalOrder other
    → other n m ≡ o → is_lt o ≡ false → (other n m ≡ Equal → ⊥) → other m n ≡ Less
strictly other m n Less total e none differ = absurd (false≢true (sym none))
strictly other m n Equal total e none differ = absurd (differ e)
strictly other m n Greater total e none differ = total.antisymm m n ∙ ap ordering_reverse e

-- a list that rises has each number once
pub ascending_once : (order : ℕ → ℕ → Ordering) → ((n : ℕ) → order n n ≢ Less) → (ns : List ℕ)
    → Ascending (numbers order) ns → IsDistinct nat_eq ns
ascending_once order strict ns up =
    IsDistinct-from_apart nat_eq ns
    (λ i j d before below. ne_eqb (get_or ns i d) (get_or ns j d) (λ e. strict (get_or ns j d)
    (subst (λ m. order m (get_or ns j d) ≡ Less) e (up i j d before below))))

module _ (count : ℕ) (order other : ℕ → ℕ → Ordering) (are : AreOrders count order other) where
  rises : (ns ms : List ℕ) → ((n : ℕ) → Contains ns n → n < count)
      → Ascending (numbers order) ns → AreSortedAgain other ns ms → Ascending (numbers other) ms
  rises ns ms below up again i j d before in' =
      let once : IsDistinct nat_eq ms =
      IsDistinct-IsPermutation nat_eq nat_eq_equiv.symm ns ms again.same
      (ascending_once order are.strict ns up) in
      let m = get_or ms i d in
      let n = get_or ms j d in
      let none : is_lt (other n m) ≡ false =
      sorted_far (λ a b. is_lt (other a b)) (ranks_by are.total (λ (r : ℕ). r)) ms again.sorted i j
      d (omega arith) in' in
      let there : (k : ℕ) → Contains ms k → k < count =
      λ k c. below k (Contains-permutation ms ns k (IsPermutation-sym ns ms again.same) c) in
      let before_end : i < length ms = omega arith in
      let differ : other n m ≡ Equal → ⊥ = λ e.
      let same : n ≡ m =
      are.apart n m (there n (Contains-get_or ms j d in'))
      (there m (Contains-get_or ms i d before_end)) e in
      let no : nat_eq m n ≡ false = apart_from_distinct nat_eq ms i j d once before in' in
      false≢true (sym no ∙ eq-eqb m n (sym same)) in
      strictly other m n (other n m) are.total refl none differ

  pub listed_again : {P : ℕ → Type 0} (ns ms : List ℕ) → ((n : ℕ) → P n → n < count)
      → IsListed (numbers order) P ns → AreSortedAgain other ns ms → IsListed (numbers other) P ms
  listed_again ns ms below h again = (
    rises ns ms (λ n c. below n ((h.1 n).0 c)) h.0 again,
    λ n. (
      λ c. (h.1 n).0 (Contains-permutation ms ns n (IsPermutation-sym ns ms again.same) c),
      λ p. Contains-permutation ns ms n again.same ((h.1 n).1 p),
    ),
  )

  -- a list that isn't empty
  stale_again : (ns ms : List ℕ) → ns ≢ [] → IsPermutation ns ms → Stale ms ≡ stale_reply ms
  stale_again [] ms some moved = absurd (some refl)
  stale_again (n ∷ ns) [] some moved =
      absurd (omega (arith, length_permutation (n ∷ ns) [] moved))
  stale_again (n ∷ ns) (m ∷ ms) some moved = refl

  StaleIs : (ℕ → Type 0) → (ℕ → ℕ → Ordering) → Reply ℕ → Type 0
  StaleIs P by reply =
      (stale : List ℕ) × IsListed (numbers by) P stale × (reply ≡ stale_reply stale)

  stale_ordered : (P : ℕ → Type 0) (stale : List ℕ) (reply now : Reply ℕ)
      → ((n : ℕ) → P n → n < count) → IsListed (numbers order) P stale → reply ≡ stale_reply stale
      → IsSortedReply other reply now → StaleIs P other now
  unfolding StaleIs
  stale_ordered P [] reply now below listed e is =
      let same : IsSortedReply other Okay now =
      subst (λ r. IsSortedReply other r now) e is in (
        [],
        ((λ i j d before in'. absurd (omega arith)), listed.1),
        same,
      )
  stale_ordered P (n ∷ ns) reply now below listed e is =
      let (ms, again, same) = subst (λ r. IsSortedReply other r now) e is in (
        ms,
        listed_again (n ∷ ns) ms below listed again,
        same ∙ stale_again (n ∷ ns) ms (λ none. cc) again.same,
      )

  tells_again : (r : Records ℕ) (command : Command ℕ) (reply now : Reply ℕ) → IsWithin count r
      → IsBelow count command → Tells (numbers order) r command reply
      → IsSortedReply other reply now → Tells (numbers other) r command now
  unfolding StaleIs
  tells_again r (IfChange t ns) reply now within below (stale, listed, e) is =
      stale_ordered (λ n. Contains ns n × IsStale r n) stale reply now
      (λ n p. in_list count order ns n below.1 p.0) listed e is
  tells_again r Ood reply now within below (names, listed, e) is =
      let (ms, again, same) = subst (λ x. IsSortedReply other x now) e is in
      (ms, listed_again names ms (λ n p. file_below count order r within n p.0) listed again, same)
  tells_again r Targets reply now within below (names, listed, e) is =
      let (ms, again, same) = subst (λ x. IsSortedReply other x now) e is in
      (ms, listed_again names ms (λ n p. file_below count order r within n p.0) listed again, same)
  tells_again r Sources reply now within below (names, listed, e) is =
      let (ms, again, same) = subst (λ x. IsSortedReply other x now) e is in
      (ms, listed_again names ms (λ n p. file_below count order r within n p.1) listed again, same)
  tells_again r (Lock t) reply now within below e is = e
  tells_again r command reply now within below e is = subst (λ x. IsSortedReply other x now) e is

  same_verdict : (r : Records ℕ) (s : ℕ) (holds : Bool) (command : Command ℕ)
      → verdict_of (numbers order) r s holds command ≡ verdict_of (numbers other) r s holds command
  same_verdict r s holds (File n stamp) = refl
  same_verdict r s holds command = refl

  by_verdict : (v : Option (Refusal ℕ)) (r : Records ℕ) (command : Command ℕ) (reply now : Reply ℕ)
      → IsWithin count r → IsBelow count command
      → MatchOption v (Tells (numbers order) r command reply) (λ refusal. reply ≡ Refused refusal)
      → IsSortedReply other reply now
      → MatchOption v (Tells (numbers other) r command now) (λ refusal. now ≡ Refused refusal)
  by_verdict None r command reply now within below h is =
      tells_again r command reply now within below h is
  by_verdict (Some refusal) r command reply now within below h is =
      subst (λ x. IsSortedReply other x now) h is

  locked_again : (o : Option ℕ) (grants : ℕ) (reply now : Reply ℕ) → reply ≡ lock_reply o grants
      → IsSortedReply other reply now → now ≡ lock_reply o grants
  locked_again None grants reply now e is = subst (λ x. IsSortedReply other x now) e is
  locked_again (Some holder) grants reply now e is =
      subst (λ x. IsSortedReply other x now) e is

  by_lock : (o : Option ℕ) (st : State ℕ) (s : ℕ) (command : Command ℕ) (reply now : Reply ℕ)
      → IsWithin count st.records → IsBelow count command → MatchOption o
      (Replies (numbers order) st.records s (holds_target st.locks s command) command reply)
      (λ t. reply ≡ lock_reply (st.locks.holder t) (st.locks.grants t))
      → IsSortedReply other reply now
      → MatchOption o
      (Replies (numbers other) st.records s (holds_target st.locks s command) command now)
      (λ t. now ≡ lock_reply (st.locks.holder t) (st.locks.grants t))
  by_lock None st s command reply now within below h is =
      let holds = holds_target st.locks s command in
      subst (λ v. MatchOption v (Tells (numbers other) st.records command now)
      (λ refusal. now ≡ Refused refusal)) (same_verdict st.records s holds command)
      (by_verdict (verdict_of (numbers order) st.records s holds command) st.records command reply
      now within below h is)
  by_lock (Some t) st s command reply now within below h is =
      locked_again (st.locks.holder t) (st.locks.grants t) reply now h is

  pub answers_again : (st : State ℕ) (s : ℕ) (command : Command ℕ) (reply now : Reply ℕ)
      → IsWithin count st.records → IsBelow count command
      → Answers (numbers order) st s command reply → IsSortedReply other reply now
      → Answers (numbers other) st s command now
  answers_again st s command reply now within below h is =
      by_lock (asked_lock command) st s command reply now within below h is
