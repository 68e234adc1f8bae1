-- Where a text is cut: at a byte, and at the arrow.
use Rattle.std.proofs.Common.{◌≡◌, ◌≢◌, ℕ, ◌+◌, ◌≤◌, suc, List, [], ◌∷◌, ◌++◌, length, refl, sym, ap, ◌∙◌, subst, arith, append_assoc, length-append, inl, inr}
use Rattle.std.specs.Prelude.{◌⊎◌, Contains, codes}
use Rattle.std.specs.List.{AllByRecursion, flat_map}
use Rattle.std.proofs.lemmas.List.Elements.{All-contains, All-from_recursion}
use Rattle.redodb_model.specs.Names.{Text}
use Rattle.redodb_text.specs.Texts.{after_space, spaced}
use Rattle.redodb_history.specs.HistoryFaults.{IsCutAtSpace, IsCutAtArrow, arrow}

abbrev pub Without : ℕ → Text → Type 0
Without b text = AllByRecursion (λ c. c ≢ b) text

pub without_append : (b : ℕ) (x y : Text) → Without b x → Without b y → Without b (x ++ y)
without_append b [] y p q = q
without_append b (c ∷ x) y p q = (p.0, without_append b x y p.1 q)

-- what does not contain a byte is without it
pub without_from : (b : ℕ) (x : Text) → ¬ (Contains x b) → Without b x
without_from b [] h = tt
without_from b (c ∷ x) h = (
  λ e. h (0, omega arith, e),
  without_from b x (λ k. h (suc k.0, omega arith, k.2)),
)

pub contains_none : (b : ℕ) (x : Text) → Without b x → ¬ (Contains x b)
contains_none b x without has =
    All-contains (λ c. c ≢ b) x b (All-from_recursion (λ c. c ≢ b) x without) has refl

-- a text can be cut at a byte in one way, if the parts before it are without it
pub first_cut : (b : ℕ) (x y r s : Text) → Without b x → Without b y → x ++ b ∷ r ≡ y ++ b ∷ s
    → (x ≡ y) × (r ≡ s)
first_cut b [] [] r s p q e = (refl, cc)
first_cut b [] (c ∷ y) r s p q e =
    let same : c ≡ b = cc in
    absurd (q.0 same)
first_cut b (c ∷ x) [] r s p q e =
    let same : c ≡ b = cc in
    absurd (p.0 same)
first_cut b (c ∷ x) (d ∷ y) r s p q e =
    let first : c ≡ d = cc in
    let others : x ++ b ∷ r ≡ y ++ b ∷ s = cc in
    let both = first_cut b x y r s p.1 q.1 others in
    (λ i. first i ∷ both.0 i, both.1)

-- any cut is the first one or a later one
pub any_cut : (b : ℕ) (x prefix r s : Text) → Without b x → x ++ b ∷ r ≡ prefix ++ b ∷ s
    → ((prefix ≡ x) × (r ≡ s)) ⊎ ((more : Text) × (prefix ≡ x ++ b ∷ more) × (r ≡ more ++ b ∷ s))
any_cut b [] [] r s p e = inl (refl, cc)
any_cut b [] (c ∷ prefix) r s p e =
    let first : c ≡ b = cc in
    let others : r ≡ prefix ++ b ∷ s = cc in
    inr (prefix, λ i. first i ∷ prefix, others)
any_cut b (c ∷ x) [] r s p e =
    let same : c ≡ b = cc in
    absurd (p.0 same)
any_cut b (c ∷ x) (d ∷ prefix) r s p e =
    let first : d ≡ c = cc in
    let others : x ++ b ∷ r ≡ prefix ++ b ∷ s = cc in
    elim (any_cut b x prefix r s p.1 others) [
      | inl h ↦ inl (λ i. first i ∷ h.0 i, h.1)
      | inr h ↦ inr (h.0, λ i. first i ∷ h.1 i, h.2)
    ]

-- prefixes of one length
pub same_prefix : {X : Type 0} (x y r s : List X) → length x ≡ length y → x ++ r ≡ y ++ s
    → (x ≡ y) × (r ≡ s)
same_prefix [] [] r s long e = (refl, e)
same_prefix (c ∷ x) (d ∷ y) r s long e =
    let first : c ≡ d = cc in
    let others : x ++ r ≡ y ++ s = cc in
    let both = same_prefix x y r s (omega arith) others in
    (λ i. first i ∷ both.0 i, both.1)
same_prefix x y r s long e = absurd (omega arith)

-- a cut at a space if a space is there
pub one_cut_at_space : (line x rest prefix others : Text) → Without 32 x → line ≡ x ++ 32 ∷ rest
    → IsCutAtSpace line prefix others → (prefix ≡ x) × (others ≡ rest)
one_cut_at_space line x rest prefix others without parts is =
    let free = without_from 32 prefix is.free in
    elim is.parts [
      | inl h ↦ first_cut 32 prefix x others rest free without (sym h ∙ parts)
      | inr h ↦ absurd (contains_none 32 prefix free (subst (λ (t : Text). Contains t 32) (sym parts
          ∙ h.0) (has_it x)))
    ]
  where
    has_it : (x : Text) → Contains (x ++ 32 ∷ rest) 32
    has_it [] = (0, omega arith, refl)
    has_it (c ∷ x) = let k = has_it x in (suc k.0, omega arith, k.2)

-- a word that is no arrow, and has no space
abbrev pub IsFreeWord : Text → Type 0
IsFreeWord word = Without 32 word × (word ≢ codes "=>")

tail_of : (ws : List Text) (reply : Text)
    → (t : Text) × (flat_map after_space ws ++ (arrow ++ reply) ≡ 32 ∷ t)
tail_of [] reply = (codes "=> " ++ reply, refl)
tail_of (w ∷ ws) reply = ((w ++ flat_map after_space ws) ++ (arrow ++ reply), refl)

no_arrow_yet : (w : Text) (ws : List Text) (reply back : Text) → IsFreeWord w
    → w ++ (flat_map after_space ws ++ (arrow ++ reply)) ≡ codes "=>" ++ 32 ∷ back → ⊥
no_arrow_yet w ws reply back free e =
    let tail = tail_of ws reply in
    free.1 ((first_cut 32 w (codes "=>") tail.0 back free.0 (
      λ h. omega arith,
      (λ h. omega arith, tt),
    ) (ap (λ (t : Text). w ++ t) (sym tail.1) ∙ e)).0)

-- after free words, the first arrow
arrow_after : (w : Text) (ws : List Text) (reply prefix back : Text) → IsFreeWord w
    → AllByRecursion IsFreeWord ws
    → w ++ (flat_map after_space ws ++ (arrow ++ reply)) ≡ prefix ++ (arrow ++ back)
    → length w + length (flat_map after_space ws) ≤ length prefix
arrow_after w [] reply prefix back free all e =
    elim (any_cut 32 w prefix (codes "=> " ++ reply) (codes "=> " ++ back) free.0 e) [
      | inl h ↦ omega (arith, ap length h.0)
      | inr h ↦ omega (arith, ap length h.1, length-append w (32 ∷ h.0))
    ]
arrow_after w (v ∷ vs) reply prefix back free all e =
    let split : (v ++ flat_map after_space vs) ++ (arrow ++ reply)
    ≡ v ++ (flat_map after_space vs ++ (arrow ++ reply)) =
    append_assoc v (flat_map after_space vs) (arrow ++ reply) in
    elim (any_cut 32 w prefix ((v ++ flat_map after_space vs) ++ (arrow ++ reply))
    (codes "=> " ++ back) free.0 e) [
      | inl h ↦ absurd (no_arrow_yet v vs reply back all.0 (sym split ∙ h.1))
      | inr h ↦
          let rest = arrow_after v vs reply h.0 back all.0 all.1 (sym split ∙ h.2) in
          omega (
            arith,
            ap length h.1,
            length-append w (32 ∷ h.0),
            length-append v (flat_map after_space vs),
          )
    ]

-- a text of free words ends before the first arrow
pub cut_after : (w : Text) (ws : List Text) (reply : Text) → IsFreeWord w
    → AllByRecursion IsFreeWord ws
    → IsCutAtArrow (spaced w ws ++ arrow ++ reply) (spaced w ws) reply
cut_after w ws reply free all = record {
  parts = refl;
  first = λ prefix back e.
      let left = append_assoc (spaced w ws) arrow reply in
      let words = append_assoc w (flat_map after_space ws) (arrow ++ reply) in
      let right = append_assoc prefix arrow back in
      let long = arrow_after w ws reply prefix back free all (sym words ∙ sym left ∙ e ∙ right) in
      omega (arith, length-append w (flat_map after_space ws));
}

-- the first arrow is one
pub one_cut_at_arrow : (rest a b c d : Text) → IsCutAtArrow rest a b → IsCutAtArrow rest c d
    → (a ≡ c) × (b ≡ d)
one_cut_at_arrow rest a b c d p q =
    let up = p.first c d q.parts in
    let down = q.first a b p.parts in
    let long : length a ≡ length c = omega arith in
    let both = same_prefix a c (arrow ++ b) (arrow ++ d) long (sym (append_assoc a arrow b)
    ∙ sym p.parts ∙ q.parts ∙ append_assoc c arrow d) in
    (both.0, (same_prefix arrow arrow b d refl both.1).1)
