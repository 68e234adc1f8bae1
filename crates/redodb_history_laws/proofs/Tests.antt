-- Tests of what is true of numbers, made of smaller ones.
use Rattle.std.proofs.Common.{◌≡◌, ◌≢◌, ◌⊎◌, ℕ, zero, suc, ◌<◌, Bool, true, false, not, ◌&&◌, ◌||◌, List, [], ◌∷◌, get_or, Option, Some, None, refl, sym, ap, subst, inl, inr, arith, Decides}
use Rattle.std.specs.Prelude.{bytes_eq, Contains, IsTrue, ◌==◌}
use Rattle.std.specs.List.{list_all}
use Rattle.std.specs.Cmp.Lexicographic.{bytes_decides}
use Rattle.std.specs.Ordering.{is_lt}
use Rattle.std.specs.declared.cmp.Ordering.{Ordering}
use Rattle.std.specs.declared.cmp.Ordering.TheVariants.{Less, Equal, Greater}
use Rattle.std.proofs.lemmas.Bool.{false≢true}
use Rattle.std.proofs.lemmas.Bool.Decides.{Decides-eqb, Decides-not, Decides-and, Decides-or, Decides-like, Decides-below_or, Decides-below_and}
use Rattle.std.proofs.lemmas.List.Elements.{Contains-get_or}
use Rattle.redodb_model.specs.Names.{Text, Ascending, IsListed, numbers}
use Rattle.redodb_model.specs.State.{Mark, Digest, Builds, Pending, File, Absent, TargetState, Idle, file_mark}
use Rattle.redodb_model.specs.Support.State.{is_idle}
use Rattle.redodb_model.proofs.Members.{contains_first, contains_later, contains_cases, contains_none}

abbrev some_below : (ℕ → Bool) → ℕ → Bool
some_below test zero = false
some_below test (suc n) = test n || some_below test n

abbrev pub every_below : (ℕ → Bool) → ℕ → Bool
every_below test zero = true
every_below test (suc n) = test n && every_below test n

pub every_is : (test : ℕ → Bool) (count : ℕ) → every_below test count ≡ true → (n : ℕ)
    → n < count → test n ≡ true
every_is test count =
    (Decides-below_and test (λ n. IsTrue (test n)) (every_below test) (λ n. (λ e. e, λ e. e)) refl
    (λ _. refl) count).0

pub both_true : (a b : Bool) → (a && b) ≡ true → (a ≡ true) × (b ≡ true)
both_true true b e = (refl, e)
both_true false b e = absurd cc

pub implied : (a b : Bool) → (not a || b) ≡ true → a ≡ true → b ≡ true
implied true b e given = e
implied false b e given = absurd cc

pub decides_idle : (state : TargetState) → Decides (is_idle state) (state ≡ Idle)
decides_idle Idle = (λ e. refl, λ e. refl)
decides_idle state = (λ e. absurd cc, λ e. absurd cc)

abbrev is_same_mark : Mark → Mark → Bool
is_same_mark (Digest digest) (Digest other) = bytes_eq digest other
is_same_mark (Builds builds) (Builds other) = builds == other
is_same_mark (File stamp) (File other) = bytes_eq stamp other
is_same_mark Pending Pending = true
is_same_mark Absent Absent = true
is_same_mark mark other = false

pub decides_mark : (a b : Mark) → Decides (is_same_mark a b) (a ≡ b)
decides_mark (Digest a) (Digest b) =
    Decides-like (bytes_eq a b) (ap Digest) (λ e. cc) (bytes_decides a b)
decides_mark (Builds a) (Builds b) =
    Decides-like (a == b) (ap Builds) (λ e. cc) (Decides-eqb a b)
decides_mark (File a) (File b) =
    Decides-like (bytes_eq a b) (ap File) (λ e. cc) (bytes_decides a b)
decides_mark Pending Pending = (λ e. refl, λ e. refl)
decides_mark Absent Absent = (λ e. refl, λ e. refl)
decides_mark a b = (λ e. absurd cc, λ e. absurd cc)

pub decides_stamp : (a b : Option Text)
    → Decides (is_same_mark (file_mark a) (file_mark b)) (a ≡ b)
decides_stamp None None = (λ e. refl, λ e. refl)
decides_stamp (Some a) (Some b) =
    Decides-like (bytes_eq a b) (ap Some) (λ e. cc) (bytes_decides a b)
decides_stamp a b = (λ e. absurd cc, λ e. absurd cc)

abbrev is_other : Option Mark → Mark → Bool
is_other None now = false
is_other (Some mark) now = not (is_same_mark mark now)

pub decides_other : (row : Option Mark) (now : Mark)
    → Decides (is_other row now) ((mark : Mark) × (row ≡ Some mark) × (mark ≢ now))
decides_other None now = (λ e. absurd cc, λ w. absurd (let e = w.1 in cc))
decides_other (Some mark) now =
    let d = Decides-not (is_same_mark mark now) (decides_mark mark now) in
    (λ e. (mark, refl, d.0 e), λ w. d.1 (λ e. w.2 (let f = w.1 in cc)))

-- a test that decides P where what is given is true
pub record Test (Given P : Type 0) : Type 0 where
  pub is : Bool
  pub decides : Given → Decides is P

module _ {Given : Type 0} where
  abbrev pub sure : {P : Type 0} → P → Test Given P
  sure p = record { is = true; decides = λ g. (λ e. p, λ h. refl) }

  abbrev pub never : {P : Type 0} → (P → ⊥) → Test Given P
  never none =
      record { is = false; decides = λ g. (λ e. absurd (false≢true e), λ h. absurd (none h)) }

  abbrev pub holds : (b : Bool) → Test Given (IsTrue b)
  holds b = record { is = b; decides = λ g. (λ e. e, λ e. e) }

  abbrev pub fails : (b : Bool) → Test Given (b ≡ false)
  fails true = never (λ e. false≢true (sym e))
  fails false = sure refl

  abbrev pub like : {P Q : Type 0} → Test Given P → (P → Q) → (Q → P) → Test Given Q
  like p to from = record { is = p.is; decides = λ g. Decides-like p.is to from (p.decides g) }

  abbrev pub no : {P : Type 0} → Test Given P → Test Given (P → ⊥)
  no p = record { is = not p.is; decides = λ g. Decides-not p.is (p.decides g) }

  abbrev pub both : {P Q : Type 0} → Test Given P → Test Given Q → Test Given (P × Q)
  both p q = record {
    is = p.is && q.is;
    decides = λ g. Decides-and p.is q.is (p.decides g) (q.decides g);
  }

  abbrev pub either : {P Q : Type 0} → Test Given P → Test Given Q → Test Given (P ⊎ Q)
  either p q = record {
    is = p.is || q.is;
    decides = λ g. Decides-or p.is q.is (p.decides g) (q.decides g);
  }

  -- where only numbers below the count have P
  abbrev pub some : (count : ℕ) (P : ℕ → Type 0) → ((n : ℕ) → Test Given (P n))
      → (Given → (n : ℕ) → P n → n < count) → Test Given ((n : ℕ) × P n)
  some count P test below = record {
    is = some_below (λ n. (test n).is) count;
    decides = λ g.
        Decides-like (some_below (λ n. (test n).is) count) (λ w. (w.0, w.2))
        (λ w. (w.0, below g w.0 w.1, w.1))
        (Decides-below_or (λ n. (test n).is) P (some_below (λ n. (test n).is))
        (λ n. (test n).decides g) refl (λ _. refl) count);
  }

  abbrev pub same_stamp : (a b : Option Text) → Test Given (a ≡ b)
  same_stamp a b =
      record { is = is_same_mark (file_mark a) (file_mark b); decides = λ g. decides_stamp a b }

  abbrev pub idle : (state : TargetState) → Test Given (state ≡ Idle)
  idle state = record { is = is_idle state; decides = λ g. decides_idle state }

  -- a row with another mark than the name has now
  abbrev pub other : (row : Option Mark) (now : Mark)
      → Test Given ((mark : Mark) × (row ≡ Some mark) × (mark ≢ now))
  other row now = record { is = is_other row now; decides = λ g. decides_other row now }

  abbrev pub among : (ns : List ℕ) (n : ℕ) → Test Given (Contains ns n)
  among [] n = never (contains_none n)
  among (m ∷ ns) n =
      like (either (record { is = m == n; decides = λ g. Decides-eqb m n }) (among ns n))
      (λ w. elim w [
        | inl e ↦ subst (Contains (m ∷ ns)) e (contains_first m ns)
        | inr later ↦ contains_later m ns n later
      ])
      (contains_cases m ns n)

-- lists that are in order

is_less : (o : Ordering) → is_lt o ≡ true → o ≡ Less
is_less Less e = refl
is_less Equal e = absurd cc
is_less Greater e = absurd cc

member_passes : (test : ℕ → Bool) (ns : List ℕ) (n : ℕ) → list_all test ns ≡ true → Contains ns n
    → test n ≡ true
member_passes test [] n e c = absurd (contains_none n c)
member_passes test (m ∷ ns) n e c =
    let all = both_true (test m) (list_all test ns) e in
    elim (contains_cases m ns n c) [
      | inl same ↦ subst (λ k. test k ≡ true) same all.0
      | inr later ↦ member_passes test ns n all.1 later
    ]

module _ (order : ℕ → ℕ → Ordering) where
  abbrev ascends : List ℕ → Bool
  ascends [] = true
  ascends (n ∷ ns) = list_all (λ m. is_lt (order n m)) ns && ascends ns

  ascending_is : (ns : List ℕ) → ascends ns ≡ true → Ascending (numbers order) ns
  ascending_is [] e i j d before below = absurd (omega arith)
  ascending_is (n ∷ ns) e i zero d before below = absurd (omega arith)
  ascending_is (n ∷ ns) e zero (suc j) d before below =
      is_less (order n (get_or ns j d))
      (member_passes (λ m. is_lt (order n m)) ns (get_or ns j d)
      (both_true (list_all (λ m. is_lt (order n m)) ns) (ascends ns) e).0
      (Contains-get_or ns j d (omega arith)))
  ascending_is (n ∷ ns) e (suc i) (suc j) d before below =
      ascending_is ns (both_true (list_all (λ m. is_lt (order n m)) ns) (ascends ns) e).1 i j d
      (omega arith) (omega arith)

  module _ {Given : Type 0} (count : ℕ) (P : ℕ → Type 0) (test : (n : ℕ) → Test Given (P n))
      (ns : List ℕ) where
    abbrev missing : ℕ → Bool
    missing n = not (test n).is || (among {Given = Given} ns n).is

    -- the list has exactly the numbers below the count that pass, in order
    abbrev pub is_listed : Bool
    is_listed = ascends ns && (list_all (λ n. (test n).is) ns && every_below missing count)

    pub listed : Given → ((n : ℕ) → P n → n < count) → is_listed ≡ true
        → IsListed (numbers order) P ns
    listed given below e =
        let all = list_all (λ n. (test n).is) ns in
        let a = both_true (ascends ns) (all && every_below missing count) e in
        let b = both_true all (every_below missing count) a.1 in (
          ascending_is ns a.0,
          λ n. (
            λ c. ((test n).decides given).0 (member_passes (λ n. (test n).is) ns n b.0 c),
            λ p.
                ((among ns n).decides given).0
                (implied (test n).is (among {Given = Given} ns n).is
                (every_is missing count b.1 n (below n p)) (((test n).decides given).1 p)),
          ),
        )
