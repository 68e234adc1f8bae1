-- Replies over numbers and over their names say the same.
use Rattle.std.proofs.Common.{◌≡◌, ◌↔◌, ℕ, ◌<◌, List, [], ◌∷◌, Some, refl, sym, ap, ◌∙◌, subst, map}
use Rattle.std.specs.List.{Contains}
use Rattle.std.specs.declared.cmp.Ordering.{Ordering}
use Rattle.std.specs.declared.cmp.Ordering.TheVariants.{Less}
use Rattle.redodb_model.specs.Names.{Naming, numbers, IsListed}
use Rattle.redodb_model.specs.Reply.{Exists, Reply, Stale, Ood, Targets, Sources, Refused}
use Rattle.redodb_model.specs.Renaming.{named_reply, AllBelow, IsReplyBelow}
use Rattle.redodb_model.specs.Support.Renaming.{Renaming, IsRenaming, value_at, OrdersAlike}
use Rattle.redodb_model.proofs.Members.{contains_map, contains_from_map, pairs_map}
use Rattle.redodb_model.proofs.RecordsByName.{value_at_name}

-- numbers and names with a property, which the renaming carries both ways
pub record Carries {M : Type 0} (to : Renaming M) (P : ℕ → Type 0) (Q : M → Type 0) : Type 0 where
  pub numbered : (t : M) → Q t → (k : ℕ) × (to.number t ≡ Some k)
  pub below : (k : ℕ) → P k → k < to.count
  pub forth : (k : ℕ) → k < to.count → P k → Q (to.name k)
  pub back : (k : ℕ) → k < to.count → Q (to.name k) → P k

-- the number of a name, and 0 where there is none
pub number_of : {M : Type 0} → Renaming M → M → ℕ
number_of to t = value_at 0 (λ k. k) (to.number t)

module _ {M : Type 0} {to : Renaming M} (law : IsRenaming to) where
  number_of_name : (k : ℕ) → k < to.count → number_of to (to.name k) ≡ k
  unfolding number_of
  number_of_name k below = value_at_name law 0 (λ j. j) k below

  name_of_number : (t : M) (k : ℕ) → to.number t ≡ Some k → to.name (number_of to t) ≡ t
  unfolding number_of
  name_of_number t k e = ap (λ o. to.name (value_at 0 (λ j. j) o)) e ∙ law.forth t k e

  number_below : (t : M) (k : ℕ) → to.number t ≡ Some k → number_of to t < to.count
  unfolding number_of
  number_below t k e = subst (λ o. value_at 0 (λ j. j) o < to.count) (sym e) (law.below t k e)

  -- two numbers with one name are one
  pub one_number : (j k : ℕ) → j < to.count → k < to.count → to.name j ≡ to.name k → j ≡ k
  one_number j k bj bk e = sym (number_of_name j bj) ∙ ap (number_of to) e ∙ number_of_name k bk

  list_back : (ks : List ℕ) → AllBelow to.count ks → map (number_of to) (map to.name ks) ≡ ks
  list_back [] below = refl
  list_back (k ∷ ks) below =
      let first = number_of_name k below.0 in
      let rest = list_back ks below.1 in
      λ i. first i ∷ rest i

  reply_back : (reply : Reply ℕ) → IsReplyBelow to.count reply
      → named_reply (number_of to) (named_reply to.name reply) ≡ reply
  reply_back (Stale ns) below = ap Stale (list_back ns below)
  reply_back (Ood ns) below = ap Ood (list_back ns below)
  reply_back (Targets ns) below = ap Targets (list_back ns below)
  reply_back (Sources ns) below = ap Sources (list_back ns below)
  reply_back (Refused (Exists m)) below = ap (λ j. Refused (Exists j)) (number_of_name m below)
  reply_back reply below = refl

  -- two replies over numbers are equal exactly if they are equal over the names
  pub same_reply : (a b : Reply ℕ) → IsReplyBelow to.count a → IsReplyBelow to.count b
      → (a ≡ b) ↔ (named_reply to.name a ≡ named_reply to.name b)
  same_reply a b below_a below_b = (
    ap (named_reply to.name),
    λ e. sym (reply_back a below_a) ∙ ap (named_reply (number_of to)) e ∙ reply_back b below_b,
  )

  module _ (naming : Naming M) (order : ℕ → ℕ → Ordering)
      (orders : OrdersAlike to naming order) where
    pub listed_forth : {P : ℕ → Type 0} {Q : M → Type 0} → Carries to P Q → (ks : List ℕ)
        → IsListed (numbers order) P ks → IsListed naming Q (map to.name ks)
    listed_forth {P = P} {Q = Q} carries ks h = (
      pairs_map (λ j k. order j k ≡ Less) (λ s t. naming.order s t ≡ Less) to.name ks
          (λ j k in_j in_k less. sym (orders.alike j k (carries.below j ((h.1 j).0 in_j))
          (carries.below k ((h.1 k).0 in_k))) ∙ less) h.0,
      λ t. (
        λ is.
            let (k, in_k, e) = contains_from_map to.name ks t is in
            let p = (h.1 k).0 in_k in
            subst Q e (carries.forth k (carries.below k p) p),
        λ q.
            let (k, e) = carries.numbered t q in
            let named = law.forth t k e in
            subst (Contains (map to.name ks)) named (contains_map to.name ks k
            ((h.1 k).1 (carries.back k (law.below t k e) (subst Q (sym named) q)))),
      ),
    )

    listed_back : {P : ℕ → Type 0} {Q : M → Type 0} → Carries to P Q → (ts : List M)
        → IsListed naming Q ts → IsListed (numbers order) P (map (number_of to) ts)
    listed_back {P = P} {Q = Q} carries ts h = (
      pairs_map (λ s t. naming.order s t ≡ Less) (λ j k. order j k ≡ Less) (number_of to) ts
          (λ s t in_s in_t less.
          let (j, is_j) = carries.numbered s ((h.1 s).0 in_s) in
          let (k, is_k) = carries.numbered t ((h.1 t).0 in_t) in
          orders.alike (number_of to s) (number_of to t) (number_below s j is_j)
          (number_below t k is_k)
          ∙ ap (λ u. naming.order u (to.name (number_of to t))) (name_of_number s j is_j)
          ∙ ap (naming.order s) (name_of_number t k is_k) ∙ less) h.0,
      λ k. (
        λ is.
            let (t, in_t, e) = contains_from_map (number_of to) ts k is in
            let q = (h.1 t).0 in_t in
            let (j, is_j) = carries.numbered t q in
            subst P e (carries.back (number_of to t) (number_below t j is_j)
            (subst Q (sym (name_of_number t j is_j)) q)),
        λ p.
            let below = carries.below k p in
            subst (Contains (map (number_of to) ts)) (number_of_name k below) (contains_map
            (number_of to) ts (to.name k) ((h.1 (to.name k)).1 (carries.forth k below p))),
      ),
    )

    -- a reply that lists what has a property
    pub listing : {P : ℕ → Type 0} {Q : M → Type 0} (f : List ℕ → Reply ℕ) (g : List M → Reply M)
        → ((ks : List ℕ) → named_reply to.name (f ks) ≡ g (map to.name ks))
        → ((ts : List M) → named_reply (number_of to) (g ts) ≡ f (map (number_of to) ts))
        → Carries to P Q → (reply : Reply ℕ) → IsReplyBelow to.count reply →
        ((ks : List ℕ) × IsListed (numbers order) P ks × (reply ≡ f ks))
        ↔ ((ts : List M) × IsListed naming Q ts × (named_reply to.name reply ≡ g ts))
    listing f g named numbered carries reply below = (
      λ (ks, h, e). (
        map to.name ks,
        listed_forth carries ks h,
        ap (named_reply to.name) e ∙ named ks,
      ),
      λ (ts, h, e). (
        map (number_of to) ts,
        listed_back carries ts h,
        sym (reply_back reply below) ∙ ap (named_reply (number_of to)) e ∙ numbered ts,
      ),
    )
