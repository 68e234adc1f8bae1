-- Tables that grow.
use Rattle.std.proofs.Common.{◌≡◌, ◌==◌, ℕ, zero, suc, ◌<◌, ◌≤◌, ◌+◌, Bool, true, false, inl, inr, List, [], ◌∷◌, ◌++◌, length, get_or, map, take, Some, slice_get, refl, sym, ap, ◌∙◌, subst, arith, append-nil, append_assoc, if◌then◌else◌}
use Rattle.std.specs.Prelude.{Result, Ok, Err, OnOk}
use Rattle.std.specs.List.{AllZip, IsDistinct, list_any}
use Rattle.std.proofs.lemmas.Bool.{cases_order, false≢true}
use Rattle.std.proofs.lemmas.List.{get_or_append_left, get_or-append-add, length-append, take_more}
use Rattle.std.proofs.lemmas.List.Elements.{AllZip-get_or}
use Rattle.std.proofs.lemmas.Map.Keys.{apart_from_distinct}
use Rattle.std.proofs.lemmas.Option.{slice_get_within, get_or_from_slice_get}
use Rattle.std.proofs.lemmas.Slice.Zip.{all_zipped_more, AllZip-long}
use Rattle.indexmap.specs.IndexSet.{insert_key}
use Rattle.redodb_model.specs.Command.{Command}
use Rattle.redodb_graph.specs.declared.step.Listed.{Listed}
use Rattle.redodb_graph.specs.declared.step.Step.{Step}
use Rattle.redodb_graph.specs.declared.step.Step.TheVariants.{File, IfChange, IfCreate, Stamp, Done}
use Rattle.redodb_graph.specs.Graphs.{IsOnce}
use Rattle.redodb_graph.specs.Steps.{TablesOf, AreListed, Means}
use Rattle.redodb_graph.specs.Support.Tables.{IsPrefix, Grows, ArePlaces}

module _ {X : Type 0} where
  pub prefix_same : (xs : List X) → IsPrefix xs xs
  prefix_same xs = ([], sym (append-nil xs))

  pub prefix_then : (xs ys zs : List X) → IsPrefix xs ys → IsPrefix ys zs → IsPrefix xs zs
  prefix_then xs ys zs a b = (
    a.0 ++ b.0,
    b.1 ∙ ap (λ (l : List X). l ++ b.0) a.1 ∙ append_assoc xs a.0 b.0,
  )

  get_appended : (xs ys : List X) (i : ℕ) (x : X) → slice_get xs i ≡ Some x
      → slice_get (xs ++ ys) i ≡ Some x
  get_appended [] ys i x e = absurd cc
  get_appended (y ∷ xs) ys zero x e = e
  get_appended (y ∷ xs) ys (suc i) x e = get_appended xs ys i x e

  -- what was at a place stays there
  pub prefix_get : (xs ys : List X) → IsPrefix xs ys → (i : ℕ) (x : X) → slice_get xs i ≡ Some x
      → slice_get ys i ≡ Some x
  prefix_get xs ys p i x e =
      subst (λ (l : List X). slice_get l i ≡ Some x) (sym p.1) (get_appended xs p.0 i x e)

  pub prefix_index : (xs ys : List X) → IsPrefix xs ys → (i : ℕ) (d : X) → i < length xs
      → get_or ys i d ≡ get_or xs i d
  prefix_index xs ys p i d below =
      ap (λ (l : List X). get_or l i d) p.1 ∙ get_or_append_left xs p.0 d i below

  pub prefix_long : (xs ys : List X) → IsPrefix xs ys → length xs ≤ length ys
  prefix_long xs ys p = omega (arith, ap length p.1, length-append xs p.0)

  -- a set's keys stay where they are when a key is inserted
  pub prefix_insert : (eq : X → X → Bool) (ks : List X) (k : X) → IsPrefix ks (insert_key eq ks k)
  prefix_insert eq ks k = by (list_any (eq k) ks)
    where
      by : (b : Bool) → IsPrefix ks (if b then ks else ks ++ k ∷ [])
      by true = prefix_same ks
      by false = (k ∷ [], refl)

  -- keys of which no two are equal have one place each
  pub once_from_distinct : (eq : X → X → Bool) → ((x : X) → eq x x ≡ true) → (xs : List X)
      → IsDistinct eq xs → IsOnce xs
  once_from_distinct eq itself xs distinct i j x at_i at_j =
      elim (cases_order i j) [
        | inl e ↦ e
        | inr h ↦ elim h [
          | inl before ↦ absurd (apart i j x at_i at_j before)
          | inr after ↦ absurd (apart j i x at_j at_i after)
        ]
      ]
    where
      apart : (i j : ℕ) (x : X) → slice_get xs i ≡ Some x → slice_get xs j ≡ Some x → i < j → ⊥
      apart i j x at_i at_j before =
          let differ =
          apart_from_distinct eq xs i j x distinct before (slice_get_within xs j x at_j) in
          let here : get_or xs i x ≡ x = get_or_from_slice_get xs i x x at_i in
          let there : get_or xs j x ≡ x = get_or_from_slice_get xs j x x at_j in
          false≢true
          (sym differ ∙ ap (λ y. eq y (get_or xs j x)) here ∙ ap (eq x) there ∙ itself x)

pub grows_same : (a : TablesOf) → Grows a a
grows_same a = record {
  pairs = refl;
  listed = prefix_same a.listed;
  stamps = prefix_same a.stamps;
  digests = prefix_same a.digests;
}

pub grows_then : (a b c : TablesOf) → Grows a b → Grows b c → Grows a c
grows_then a b c first second = record {
  pairs = second.pairs ∙ first.pairs;
  listed = prefix_then a.listed b.listed c.listed first.listed second.listed;
  stamps = prefix_then a.stamps b.stamps c.stamps first.stamps second.stamps;
  digests = prefix_then a.digests b.digests c.digests first.digests second.digests;
}

module _ (a b : TablesOf) (grows : Grows a b) where
  listed_more : (t : ℕ) (ns : List ℕ) (list : Listed) → AreListed a t ns list
      → AreListed b t ns list
  listed_more t ns list are = record {
    count = are.count;
    within = omega (arith, are.within, prefix_long a.listed b.listed grows.listed);
    each = λ k below.
        let in' : list.from + k < length a.listed = omega (arith, below, are.within, are.count) in
        ap (λ i. slice_get b.pairs.items i)
        (prefix_index a.listed b.listed grows.listed (list.from + k) 0 in')
        ∙ ap (λ pairs. slice_get pairs.items (get_or a.listed (list.from + k) 0)) grows.pairs
        ∙ are.each k below;
    itself = are.itself;
  }

  pub means_more : (step : Step) (x : Command ℕ) → Means a step x → Means b step x
  means_more (File n i) x m = (m.0, m.1, prefix_get a.stamps b.stamps grows.stamps i m.0 m.2)
  means_more (IfChange t list) x m = (m.0, m.1, listed_more t m.0 list m.2)
  means_more (IfCreate t list) x m = (m.0, m.1, listed_more t m.0 list m.2)
  means_more (Stamp t i) x m =
      (m.0, m.1, prefix_get a.digests b.digests grows.digests i _ m.2)
  means_more (Done t (Some i)) x m =
      (m.0, m.1, prefix_get a.stamps b.stamps grows.stamps i m.0 m.2)
  means_more step x m = m

module _ {A B : Type 0} (R S : A → B → Type 0) (then' : (x : A) (y : B) → R x y → S x y) where
  pub all_weaker : (xs : List A) (ys : List B) → AllZip R xs ys → AllZip S xs ys
  all_weaker (x ∷ xs) (y ∷ ys) h = (then' x y h.0, all_weaker xs ys h.1)
  all_weaker xs ys h = h

module _ {A B C : Type 0} (R : B → C → Type 0) (f : A → B) where
  pub all_mapped : (xs : List A) (ys : List C) → AllZip (λ x y. R (f x) y) xs ys
      → AllZip R (map f xs) ys
  all_mapped (x ∷ xs) (y ∷ ys) h = (h.0, all_mapped xs ys h.1)
  all_mapped xs ys h = h

module _ {A B C : Type 0} (R : A → C → Type 0) (f : B → C) where
  pub all_mapped_right : (xs : List A) (ys : List B) → AllZip (λ x y. R x (f y)) xs ys
      → AllZip R xs (map f ys)
  all_mapped_right [] [] h = h
  all_mapped_right [] (y ∷ ys) h = h
  all_mapped_right (x ∷ xs) [] h = h
  all_mapped_right (x ∷ xs) (y ∷ ys) h = (h.0, all_mapped_right xs ys h.1)

-- one more element on either side
pub all_next : {A B : Type 0} (R : A → B → Type 0) (xs : List A) (ys : List B) (i : ℕ) (x : A)
    (y : B) → i < length xs → x ≡ get_or xs i x → AllZip R (take i xs) ys → R x y
    → AllZip R (take (i + 1) xs) (ys ++ y ∷ [])
all_next {A = A} R xs ys i x y below at all holds =
    subst (λ (l : List A). AllZip R l (ys ++ y ∷ []))
    (sym (take_more xs i x below ∙ ap (λ (z : A). take i xs ++ z ∷ []) (sym at)))
    (all_zipped_more R (take i xs) ys x y all holds)

-- what was appended for a list
pub listed_from : (a b : TablesOf) (t : ℕ) (names : List ℕ) (list : Listed) → b.pairs ≡ a.pairs
    → list.from ≡ length a.listed → list.len ≡ length names
    → list.itself ≡ list_any (λ n. n == t) names
    → ArePlaces a.pairs.items t names a.listed b.listed → AreListed b t names list
listed_from a b t names list same from len itself (more, is, all) =
    let long : length more ≡ length names = AllZip-long _ names more all in
    record {
      count = len;
      within = omega (arith, from, len, long, ap length is, length-append a.listed more);
      each = λ k below.
          ap (λ i. slice_get b.pairs.items i)
          (ap (λ (l : List ℕ). get_or l (list.from + k) 0) is
          ∙ ap (λ n. get_or (a.listed ++ more) (n + k) 0) from
          ∙ get_or-append-add a.listed more k 0)
          ∙ ap (λ pairs. slice_get pairs.items (get_or more k 0)) same
          ∙ AllZip-get_or (λ n i. slice_get a.pairs.items i ≡ Some (t, n)) names more k 0 0 all
          below;
      itself = itself;
    }

pub on_ok : {T E : Type 0} (r : Result T E) (P : Type 0) → P → OnOk r P
on_ok (Ok x) P p = p
on_ok (Err e) P p = tt
