-- Lemmas that show names not out of date, and short lists right.
use Rattle.std.proofs.Common.{◌≡◌, ◌⊎◌, zero, suc, false, List, [], ◌∷◌, Some, None, sym, subst, inl, inr, arith}
use Rattle.std.proofs.lemmas.Bool.{cases_Bool}
use Rattle.std.specs.Prelude.{IsTrue, Contains}
use Rattle.std.specs.declared.cmp.Ordering.TheVariants.{Less}
use Rattle.redodb_model.specs.Names.{Naming, Ascending, IsListed}
use Rattle.redodb_model.specs.Support.Names.{IsNaming}
use Rattle.redodb_model.specs.State.{Records, Mark, Idle, Built, target_state, mark_of}
use Rattle.redodb_model.specs.OutOfDate.{HasFile, HasReason, ReasonIn, Depends, Chain, OutOfDate, IsStale}
use Rattle.redodb_model.proofs.Members.{contains_first, contains_later, contains_cases, contains_none}

module _ {N : Type 0} (r : Records N) where
  -- what is calm depends on calm names alone and has no reason
  pub calm_up_to_date : (Calm : N → Type 0) → ((t n : N) → Calm t → Depends r t n → Calm n)
      → ((t : N) → Calm t → HasReason r t → ⊥) → (ns : List N) (t : N) → Calm t
      → Chain (Depends r) (HasReason r) t ns → ⊥
  calm_up_to_date Calm closed none [] t calm chain = none t calm chain
  calm_up_to_date Calm closed none (n ∷ ns) t calm chain =
      calm_up_to_date Calm closed none ns n (closed t n calm chain.0) chain.1

  pub up_to_date_without_reasons : ((t : N) → HasReason r t → ⊥) → (t : N) → OutOfDate r t → ⊥
  up_to_date_without_reasons none t (ns, chain) =
      calm_up_to_date (λ n. Unit {0}) (λ u n calm step. tt) (λ u calm. none u) ns t tt chain

  pub idle_without_reason : (n : N) → target_state r n ≡ Idle → HasReason r n → ⊥
  idle_without_reason n idle reason = subst (λ s. ReasonIn s r n) idle reason

  pub idle_up_to_date : (n : N) → target_state r n ≡ Idle → OutOfDate r n → ⊥
  idle_up_to_date n idle ([], reason) = idle_without_reason n idle reason
  idle_up_to_date n idle (m ∷ ns, chain) = chain.0.0 idle

  -- a built target that wasn't edited, has no always row, no created row on a file, and only change
  -- rows with today's marks
  pub built_without_reason : (t : N) → target_state r t ≡ Built → (r.cell t).file ≡ (r.cell t).done
      → r.rows.always t ≡ false → ((n : N) → IsTrue (r.rows.created t n) → HasFile r n → ⊥)
      → ((n : N) (mark : Mark) → r.rows.change t n ≡ Some mark → mark ≡ mark_of r n) → HasReason r t
      → ⊥
  built_without_reason t built kept always created change reason =
      elim (subst (λ s. ReasonIn s r t) built reason) [
        | inl edited ↦ edited kept
        | inr more ↦ elim more [
          | inl h ↦ cc
          | inr rows ↦ elim rows [
            | inl (n, row, file) ↦ created n row file
            | inr (n, mark, row, other) ↦ other (change n mark row)
          ]
        ]
      ]

module _ {N : Type 0} {naming : Naming N} (law : IsNaming naming) where
  pub nothing_listed : {P : N → Type 0} → ((n : N) → P n → ⊥) → IsListed naming P []
  nothing_listed none = (
    λ i j d before below. absurd (omega arith),
    λ n. (λ h. absurd (contains_none n h), λ p. absurd (none n p)),
  )

  pub one_listed : {P : N → Type 0} (x : N) → P x → ((n : N) → P n → x ≡ n)
      → IsListed naming P (x ∷ [])
  one_listed {P = P} x p only = (
    λ i j d before below. absurd (omega arith),
    λ n. (
      λ h. elim (contains_cases x [] n h)
          [ inl e ↦ subst P e p | inr k ↦ absurd (contains_none n k) ],
      λ q. subst (Contains (x ∷ [])) (only n q) (contains_first x []),
    ),
  )

  pub two_listed : {P : N → Type 0} (x y : N) → naming.order x y ≡ Less → P x → P y
      → ((n : N) → P n → (x ≡ n) ⊎ (y ≡ n)) → IsListed naming P (x ∷ y ∷ [])
  two_listed {P = P} x y less p q only = (
    ascending,
    λ n. (
      λ h. elim (contains_cases x (y ∷ []) n h) [
        | inl e ↦ subst P e p
        | inr k ↦ elim (contains_cases y [] n k)
            [ inl e ↦ subst P e q | inr l ↦ absurd (contains_none n l) ]
      ],
      λ u. elim (only n u) [
        | inl e ↦ subst (Contains (x ∷ y ∷ [])) e (contains_first x (y ∷ []))
        | inr e ↦
            subst (Contains (x ∷ y ∷ [])) e (contains_later x (y ∷ []) y (contains_first y []))
      ],
    ),
  )
    where
      ascending : Ascending naming (x ∷ y ∷ [])
      ascending zero (suc zero) d before below = less
      ascending i j d before below = absurd (omega arith)

  -- a lone name that isn't stale
  pub none_stale : (r : Records N) (x : N) → (IsStale r x → ⊥)
      → IsListed naming (λ n. Contains (x ∷ []) n × IsStale r n) []
  none_stale r x fresh =
      nothing_listed (λ n h. elim (contains_cases x [] n h.0)
      [ inl e ↦ fresh (subst (IsStale r) (sym e) h.1) | inr k ↦ contains_none n k ])

  pub one_stale : (r : Records N) (x : N) → IsStale r x
      → IsListed naming (λ n. Contains (x ∷ []) n × IsStale r n) (x ∷ [])
  one_stale r x stale =
      one_listed x (contains_first x [], stale)
      (λ n h. elim (contains_cases x [] n h.0) [ inl e ↦ e | inr k ↦ absurd (contains_none n k) ])

  -- what is true of x, and of each name that the test tells from x, is true of all
  pub at_one : (x : N) (Q : N → Type 0) → Q x → ((n : N) → naming.same x n ≡ false → Q n) → (n : N)
      → Q n
  at_one x Q here other n = elim (cases_Bool (naming.same x n))
      [ inl e ↦ subst Q ((law.decides x n).0 e) here | inr e ↦ other n e ]

  pub at_two : (x y : N) (Q : N → Type 0) → Q x → Q y
      → ((n : N) → naming.same x n ≡ false → naming.same y n ≡ false → Q n) → (n : N) → Q n
  at_two x y Q here there other =
      at_one x Q here
      (λ n e. at_one y (λ m. naming.same x m ≡ false → Q m) (λ d. there) (λ m f d. other m d f) n e)

  -- a lone change row, whose mark is the one that the name has now
  one_row_kept : (r : Records N) (t x : N) → r.rows.change t x ≡ Some (mark_of r x)
      → ((n : N) → naming.same x n ≡ false → r.rows.change t n ≡ None) → (n : N) (mark : Mark)
      → r.rows.change t n ≡ Some mark → mark ≡ mark_of r n
  one_row_kept r t x here other =
      at_one x (λ n. (mark : Mark) → r.rows.change t n ≡ Some mark → mark ≡ mark_of r n)
      (λ mark row. cc) (λ n e mark row. let none = other n e in absurd (cc))

  pub built_on_one : (r : Records N) (t x : N) → target_state r t ≡ Built
      → (r.cell t).file ≡ (r.cell t).done → r.rows.always t ≡ false
      → ((n : N) → r.rows.created t n ≡ false) → r.rows.change t x ≡ Some (mark_of r x)
      → ((n : N) → naming.same x n ≡ false → r.rows.change t n ≡ None) → HasReason r t → ⊥
  built_on_one r t x built kept always created here other =
      built_without_reason r t built kept always (λ n row file. let none = created n in cc)
      (one_row_kept r t x here other)
