-- Pairs gathered by their first numbers.
use Rattle.std.proofs.Common.{◌≡◌, ◌↔◌, ◌⊎◌, ℕ, ◌<◌, ◌+◌, ◌-◌, List, [], ◌∷◌, ◌++◌, length, get_or, map, set, take, refl, sym, ap, ◌∙◌, subst, inl, inr, arith, length-append}
use Rattle.std.specs.List.{AllPairs, Contains}
use Rattle.std.proofs.lemmas.Bool.{cases_eq, cases_lt}
use Rattle.std.proofs.lemmas.List.{get_or_append_left, get_or-append_right, get_or-set_same, get_or-set_other, take_more}
use Rattle.std.proofs.lemmas.List.Elements.{Contains-get_or, Contains-append_left, Contains-append_right, Contains-append_cases, Contains-push, Contains-push_cases}
use Rattle.redodb_model.proofs.Members.{contains_map, contains_from_map, contains_none, pairs_map}
use Rattle.redodb_model.proofs.MorePlaces.{get_or-extended}
use Rattle.redodb_graph.specs.Pairs.{ComesBefore, AreAscending}
use Rattle.redodb_graph.specs.Support.Pairs.{AreBlocks}

-- no block has a number
abbrev pub AreBare : List (List ℕ) → Type 0
AreBare blocks = (t : ℕ) → get_or blocks t [] ≡ []

pub bare_more : (blocks : List (List ℕ)) → AreBare blocks → AreBare (blocks ++ [] ∷ [])
bare_more blocks bare t = get_or-extended blocks 1 t [] ∙ bare t

pub bare_are_blocks : (blocks : List (List ℕ)) → AreBare blocks → AreBlocks 0 [] blocks
bare_are_blocks blocks bare t n le = (
  λ c. absurd (contains_none n (subst (λ (ns : List ℕ). Contains ns n) (bare t) c)),
  λ c. absurd (contains_none (t, n) c),
)

-- a pair more, in the block of its first number
module _ (pairs : List (ℕ × ℕ)) (k : ℕ) (p : ℕ × ℕ) (in' : k < length pairs)
    (is : get_or pairs k p ≡ p)
  where
    more : take (k + 1) pairs ≡ take k pairs ++ p ∷ []
    more = take_more pairs k p in' ∙ ap (λ q. take k pairs ++ q ∷ []) is

    pair_more : (q : ℕ × ℕ) → Contains (take (k + 1) pairs) q
        ↔ (Contains (take k pairs) q ⊎ (p ≡ q))
    pair_more q = (
      λ c. Contains-push_cases (take k pairs) p q
          (subst (λ (ps : List (ℕ × ℕ)). Contains ps q) more c),
      λ s. subst (λ (ps : List (ℕ × ℕ)). Contains ps q) (sym more) (elim s [
        | inl old ↦ Contains-append_left (take k pairs) (p ∷ []) q old
        | inr here ↦ subst (Contains (take k pairs ++ p ∷ [])) here (Contains-push (take k pairs) p)
      ]),
    )

    pub block_more : (blocks : List (List ℕ)) → p.0 < length blocks
        → AreBlocks 0 (take k pairs) blocks
        → AreBlocks 0 (take (k + 1) pairs)
        (set blocks p.0 (get_or blocks p.0 [] ++ p.1 ∷ []))
    block_more blocks below are t n le = elim (cases_eq p.0 t) [
      | inl same ↦
          let old = get_or blocks p.0 [] in
          let at : get_or (set blocks p.0 (old ++ p.1 ∷ [])) t [] ≡ old ++ p.1 ∷ [] =
          subst (λ u. get_or (set blocks p.0 (old ++ p.1 ∷ [])) u [] ≡ old ++ p.1 ∷ []) same
          (get_or-set_same blocks p.0 (old ++ p.1 ∷ []) [] below) in
          let was = are p.0 n (omega arith) in (
            λ c. (pair_more (t, n)).1 (elim (Contains-push_cases old p.1 n
                (subst (λ (ns : List ℕ). Contains ns n) at c)) [
                  | inl there ↦ inl (subst (λ u. Contains (take k pairs) (u, n)) same (was.0 there))
                  | inr here ↦ inr (ap (λ u. (u, p.1)) same ∙ ap (λ m. (t, m)) here)
                ]),
            λ c. subst (λ (ns : List ℕ). Contains ns n) (sym at)
                (elim ((pair_more (t, n)).0 c) [
                  | inl there ↦ Contains-append_left old (p.1 ∷ []) n
                      (was.1 (subst (λ u. Contains (take k pairs) (u, n)) (sym same) there))
                  | inr here ↦ subst (Contains (old ++ p.1 ∷ []))
                      (ap (λ (q : ℕ × ℕ). q.1) here) (Contains-push old p.1)
                ]),
          )
      | inr other ↦
          let at = get_or-set_other blocks p.0 t (get_or blocks p.0 [] ++ p.1 ∷ []) []
          (λ same. other (sym same)) in
          let was = are t n le in (
            λ c. (pair_more (t, n)).1
                (inl (was.0 (subst (λ (ns : List ℕ). Contains ns n) at c))),
            λ c. subst (λ (ns : List ℕ). Contains ns n) (sym at)
                (elim ((pair_more (t, n)).0 c) [
                  | inl there ↦ was.1 there
                  | inr here ↦ absurd (other (ap (λ (q : ℕ × ℕ). q.0) here))
                ]),
          )
    ]

-- a block that was taken out is before all that are left
pub blocks_left : (pairs : List (ℕ × ℕ)) (blocks : List (List ℕ)) (t : ℕ) (block : List ℕ)
    → AreBlocks t pairs blocks → AreBlocks (t + 1) pairs (set blocks t block)
blocks_left pairs blocks t block are u n le =
    let at = get_or-set_other blocks t u block [] (λ same. omega (arith, same, le)) in
    let was = are u n (omega (arith, le)) in (
      λ c. was.0 (subst (λ (ns : List ℕ). Contains ns n) at c),
      λ c. subst (λ (ns : List ℕ). Contains ns n) (sym at) (was.1 c),
    )

ascend_both : (ps qs : List (ℕ × ℕ)) → AreAscending ps → AreAscending qs
    → ((p q : ℕ × ℕ) → Contains ps p → Contains qs q → ComesBefore p q)
    → AreAscending (ps ++ qs)
ascend_both ps qs first second between i j d before in' = elim (cases_lt j (length ps)) [
  | inl low ↦
      subst (λ p. ComesBefore p (get_or (ps ++ qs) j d))
      (sym (get_or_append_left ps qs d i (omega (arith, low, before))))
      (subst (ComesBefore (get_or ps i d)) (sym (get_or_append_left ps qs d j low))
      (first i j d before low))
  | inr high ↦
      let q = get_or qs (j - length ps) d in
      let at = get_or-append_right ps qs (length ps) j d refl high in
      let within : j - length ps < length qs = omega (arith, high, in', length-append ps qs) in
      subst (ComesBefore (get_or (ps ++ qs) i d)) (sym at) (elim (cases_lt i (length ps)) [
        | inl low ↦
            subst (λ p. ComesBefore p q) (sym (get_or_append_left ps qs d i low))
            (between (get_or ps i d) q (Contains-get_or ps i d low)
            (Contains-get_or qs (j - length ps) d within))
        | inr le ↦
            subst (λ p. ComesBefore p q)
            (sym (get_or-append_right ps qs (length ps) i d refl le))
            (second (i - length ps) (j - length ps) d (omega (arith, le, before)) within)
      ])
]

-- the listed pairs whose first number is below t, in ascending order
pub record ArePut (t : ℕ) (listed pairs : List (ℕ × ℕ)) : Type 0 where
  pub ascending : AreAscending pairs
  pub those : (p : ℕ × ℕ) → Contains pairs p ↔ (Contains listed p × (p.0 < t))

pub none_put : (listed : List (ℕ × ℕ)) → ArePut 0 listed []
none_put listed = record {
  ascending = λ i j d before in'. absurd (omega (arith, in'));
  those = λ p. (λ c. absurd (contains_none p c), λ h. absurd (omega (arith, h.1)));
}

-- the block of t, in order, after those of lesser numbers
pub block_put : (listed pairs : List (ℕ × ℕ)) (t : ℕ) (block : List ℕ) → ArePut t listed pairs
    → AllPairs (λ m n. m < n) block
    → ((n : ℕ) → Contains block n ↔ Contains listed (t, n))
    → ArePut (t + 1) listed (pairs ++ map (λ n. (t, n)) block)
block_put listed pairs t block put rising those = record {
  ascending = ascend_both pairs more put.ascending
      (pairs_map (λ m n. m < n) ComesBefore (λ n. (t, n)) block
      (λ m n _ _ less. inr (refl, less)) rising)
      (λ p q low high. let from = contains_from_map (λ n. (t, n)) block q high in
      inl (subst (λ u. p.0 < u) (ap (λ (r : ℕ × ℕ). r.0) from.2) ((put.those p).0 low).1));
  those = λ p. (
    λ c. elim (Contains-append_cases pairs more p c) [
      | inl old ↦ let was = (put.those p).0 old in (was.0, omega (arith, was.1))
      | inr new ↦
          let from = contains_from_map (λ n. (t, n)) block p new in
          let first : t ≡ p.0 = ap (λ (r : ℕ × ℕ). r.0) from.2 in
          (subst (Contains listed) from.2 ((those from.0).0 from.1), omega (arith, first))
    ],
    λ h. elim (cases_lt p.0 t) [
      | inl low ↦ Contains-append_left pairs more p ((put.those p).1 (h.0, low))
      | inr high ↦
          let first : p.0 ≡ t = omega (arith, high, h.1) in
          let there : Contains listed (t, p.1) =
          subst (λ u. Contains listed (u, p.1)) first h.0 in
          Contains-append_right pairs more p (subst (λ u. Contains more (u, p.1)) (sym first)
          (contains_map (λ n. (t, n)) block p.1 ((those p.1).1 there)))
    ],
  );
}
  where
    more : List (ℕ × ℕ)
    more = map (λ n. (t, n)) block
