-- Names, and what a map has at each of them.
use Rattle.std.proofs.Common.{◌≡◌, ◌≢◌, ◌↔◌, ℕ, zero, suc, ◌+◌, ◌<◌, ◌≤◌, ◌^◌, Bool, true, false, cond, ◌||◌, List, [], ◌∷◌, ◌++◌, length, take, Option, Some, None, slice_get, refl, sym, ap, subst, ◌∙◌, ◌⊎◌, inl, inr, arith, slice_index_or, length-append}
use Rattle.std.specs.Prelude.{String, bytes_eq, string_bytes, is_some, IfSome}
use Rattle.std.specs.Global.{Global}
use Rattle.std.specs.HashMap.{HashMap, IsEmpty, get_by_text}
use Rattle.std.specs.List.{AllByRecursion}
use Rattle.std.specs.Map.{lookup, update}
use Rattle.std.proofs.lemmas.List.{length-take, take-take, take_all}
use Rattle.std.proofs.lemmas.Option.{slice_get-get_or}
use Rattle.std.proofs.lemmas.Slice.Eq.{bytes_eq-Decides}
use Rattle.redodb_names.specs.Names.{is_name, has}
use Rattle.redodb_names.specs.Support.Names.{AreNames, AreNumbered}
use Rattle.redodb_names.proofs.NameLists.{AreNames-none, AreNames-push, AreNames-take, has-at}

-- each name has its number, and no other text has one
abbrev pub HaveNumbers : (List ℕ → Option ℕ) → List (List ℕ) → Type 0
HaveNumbers at names =
    (number : ℕ) (text : List ℕ) → slice_get names number ≡ Some text ↔ at text ≡ Some number

pub length-taken : (n : ℕ) (texts : List (List ℕ)) → n ≤ length texts → length (take n texts) ≡ n
length-taken n texts long = omega (arith, length-take n texts, long)

-- what is true of each text
pub each-at : (P : List ℕ → Type 0) (texts : List (List ℕ)) (number : ℕ) (text : List ℕ)
    → AllByRecursion P texts → slice_get texts number ≡ Some text → P text
each-at P [] number text each got = absurd cc
each-at P (x ∷ texts) zero text each got = subst P (same got) each.0
  where
    same : Some x ≡ Some text → x ≡ text
    same e = cc
each-at P (x ∷ texts) (suc number) text each got = each-at P texts number text each.1 got

-- one of the first texts
pub taken : (n : ℕ) (texts : List (List ℕ)) (number : ℕ) (text : List ℕ)
    → slice_get (take n texts) number ≡ Some text
    → (slice_get texts number ≡ Some text) × (number < n)
taken zero texts number text got = absurd cc
taken (suc n) [] number text got = absurd cc
taken (suc n) (x ∷ texts) zero text got = (got, omega arith)
taken (suc n) (x ∷ texts) (suc number) text got =
    let rest = taken n texts number text got in
    (rest.0, omega (arith, rest.1))

pub untaken : (n : ℕ) (texts : List (List ℕ)) (number : ℕ) (text : List ℕ)
    → slice_get texts number ≡ Some text → number < n
    → slice_get (take n texts) number ≡ Some text
untaken zero texts number text got less = absurd (omega (arith, less))
untaken (suc n) [] number text got less = got
untaken (suc n) (x ∷ texts) zero text got less = got
untaken (suc n) (x ∷ texts) (suc number) text got less =
    untaken n texts number text got (omega (arith, less))

-- the text of a number below the count
pub got-at : (count : ℕ) (texts : List (List ℕ)) (number : ℕ) (text : List ℕ)
    → count ≤ length texts → number < count → text ≡ slice_index_or texts number []
    → slice_get texts number ≡ Some text
got-at count texts number text long less is =
    slice_get-get_or texts number [] (omega (arith, long, less)) ∙ ap Some (sym is)

-- a name that is there has a number
place : (names : List (List ℕ)) (text : List ℕ) → has names text ≡ true
    → (number : ℕ) × (slice_get names number ≡ Some text)
place [] text there = absurd cc
place (name ∷ names) text there = by (bytes_eq text name) refl there (place names text)
  where
    by : (same : Bool) → bytes_eq text name ≡ same → (same || has names text) ≡ true
        → (has names text ≡ true → (number : ℕ) × (slice_get names number ≡ Some text))
        → (number : ℕ) × (slice_get (name ∷ names) number ≡ Some text)
    by true same there later = (zero, ap Some (sym ((bytes_eq-Decides text name).0 same)))
    by false same there later =
        let rest = later there in
        (suc rest.0, rest.1)

-- the map has what is a name, and nothing else
pub has-mapped : (at : List ℕ → Option ℕ) (names : List (List ℕ)) (text : List ℕ)
    → HaveNumbers at names → is_some (at text) ≡ has names text
has-mapped at names text all = by (at text) refl (has names text) refl
  where
    by : (found : Option ℕ) → at text ≡ found → (there : Bool) → has names text ≡ there
        → is_some found ≡ has names text
    by (Some number) is there said = sym (has-at names text number ((all number text).1 is))
    by None is false said = sym said
    by None is true said =
        let at_place = place names text said in
        absurd (let some = sym is ∙ (all at_place.0 text).0 at_place.1 in cc)

-- what the map has for a text is the number of that name
pub found-mapped : (at : List ℕ → Option ℕ) (names : List (List ℕ)) (text : List ℕ)
    → HaveNumbers at names → IfSome (at text) (λ number. slice_get names number ≡ Some text)
found-mapped at names text all = by (at text) refl
  where
    by : (found : Option ℕ) → at text ≡ found
        → IfSome found (λ number. slice_get names number ≡ Some text)
    by (Some number) is = (all number text).1 is
    by None is = tt

-- a name among the names and one more
pushed : (names : List (List ℕ)) (text : List ℕ) (number : ℕ) (name : List ℕ)
    → slice_get (names ++ text ∷ []) number ≡ Some name
    → (slice_get names number ≡ Some name) ⊎ ((number ≡ length names) × (text ≡ name))
pushed [] text zero name got = inr (refl, same got)
  where
    same : Some text ≡ Some name → text ≡ name
    same e = cc
pushed [] text (suc number) name got = absurd cc
pushed (x ∷ names) text zero name got = inl got
pushed (x ∷ names) text (suc number) name got =
    elim (pushed names text number name got) [
      | inl here ↦ inl here
      | inr last ↦ inr (ap suc last.0, last.1)
    ]

kept-at : (names : List (List ℕ)) (text : List ℕ) (number : ℕ) (name : List ℕ)
    → slice_get names number ≡ Some name → slice_get (names ++ text ∷ []) number ≡ Some name
kept-at [] text number name got = absurd cc
kept-at (x ∷ names) text zero name got = got
kept-at (x ∷ names) text (suc number) name got = kept-at names text number name got

last-at : (names : List (List ℕ)) (text : List ℕ)
    → slice_get (names ++ text ∷ []) (length names) ≡ Some text
last-at [] text = refl
last-at (x ∷ names) text = last-at names text

same_number : (n k : ℕ) → Some n ≡ Some k → n ≡ k
same_number n k e = cc

-- a new name is put into the map
pub HaveNumbers-more : (at after : List ℕ → Option ℕ) (names : List (List ℕ)) (text : List ℕ)
    (count : ℕ) → HaveNumbers at names → has names text ≡ false → count ≡ length names
    → ((name : List ℕ) → after name ≡ update bytes_eq at text (Some count) name)
    → HaveNumbers after (names ++ text ∷ [])
HaveNumbers-more at after names text count all new counted put number name = (there, back)
  where
    put_as : (same : Bool) → bytes_eq text name ≡ same
        → after name ≡ cond same (Some count) (at name)
    put_as same is = put name ∙ ap (λ (b : Bool). cond b (Some count) (at name)) is

    there : slice_get (names ++ text ∷ []) number ≡ Some name → after name ≡ Some number
    there got = elim (pushed names text number name got) [
      | inl here ↦ put_as false (other here) ∙ (all number name).0 here
      | inr last ↦ put_as true ((bytes_eq-Decides text name).1 last.1)
          ∙ ap Some (counted ∙ sym last.0)
    ]
      where
        other : slice_get names number ≡ Some name → bytes_eq text name ≡ false
        other here = by (bytes_eq text name) refl
          where
            by : (same : Bool) → bytes_eq text name ≡ same → same ≡ false
            by false same = refl
            by true same =
                let text_is : text ≡ name = (bytes_eq-Decides text name).0 same in
                let there : has names text ≡ true =
                has-at names text number (here ∙ ap Some (sym text_is)) in
                absurd cc

    back : after name ≡ Some number → slice_get (names ++ text ∷ []) number ≡ Some name
    back is = by (bytes_eq text name) refl
      where
        by : (same : Bool) → bytes_eq text name ≡ same
            → slice_get (names ++ text ∷ []) number ≡ Some name
        by false same =
            kept-at names text number name
            ((all number name).1 (sym (put_as false same) ∙ is))
        by true same =
            let number_is : count ≡ number =
            same_number count number (sym (put_as true same) ∙ is) in
            subst (λ (k : ℕ). slice_get (names ++ text ∷ []) k ≡ Some name)
            (sym counted ∙ number_is)
            (last-at names text ∙ ap Some ((bytes_eq-Decides text name).0 same))

-- the last name is taken out of the map
pub HaveNumbers-less : (at after : List ℕ → Option ℕ) (texts : List (List ℕ)) (count : ℕ)
    (text : List ℕ) → HaveNumbers at (take (suc count) texts)
    → slice_get texts count ≡ Some text
    → ((name : List ℕ) → after name ≡ update bytes_eq at text None name)
    → HaveNumbers after (take count texts)
HaveNumbers-less at after texts count text all last cut number name = (there, back)
  where
    cut_as : (same : Bool) → bytes_eq text name ≡ same
        → after name ≡ cond same None (at name)
    cut_as same is = cut name ∙ ap (λ (b : Bool). cond b None (at name)) is

    last_number : at text ≡ Some count
    last_number = (all count text).0 (untaken (suc count) texts count text last (omega arith))

    there : slice_get (take count texts) number ≡ Some name → after name ≡ Some number
    there got =
        let here = taken count texts number name got in
        let is : at name ≡ Some number =
        (all number name).0
        (untaken (suc count) texts number name here.0 (omega (arith, here.1))) in
        by is here.1 (bytes_eq text name) refl
      where
        by : at name ≡ Some number → number < count → (same : Bool) → bytes_eq text name ≡ same
            → after name ≡ Some number
        by is less false same = cut_as false same ∙ is
        by is less true same =
            let number_is : count ≡ number =
            same_number count number
            (sym last_number ∙ ap at ((bytes_eq-Decides text name).0 same) ∙ is) in
            absurd (omega (arith, number_is, less))

    back : after name ≡ Some number → slice_get (take count texts) number ≡ Some name
    back is = by (bytes_eq text name) refl
      where
        by : (same : Bool) → bytes_eq text name ≡ same
            → slice_get (take count texts) number ≡ Some name
        by true same = absurd (let none = sym (cut_as true same) ∙ is in cc)
        by false same =
            within
            (taken (suc count) texts number name
            ((all number name).1 (sym (cut_as false same) ∙ is)))
          where
            same_text : Some text ≡ Some name → text ≡ name
            same_text e = cc

            other : slice_get texts number ≡ Some name → number ≢ count
            other got is =
                let text_is : text ≡ name =
                same_text (sym last ∙ ap (slice_get texts) (sym is) ∙ got) in
                let yes : bytes_eq text name ≡ true = (bytes_eq-Decides text name).1 text_is in
                absurd (let no = sym same ∙ yes in cc)

            within : (slice_get texts number ≡ Some name) × (number < suc count)
                → slice_get (take count texts) number ≡ Some name
            within here =
                untaken count texts number name here.0 (omega (arith, here.1, other here.0))

-- the names after a new one was put behind them
pub taken-more : (count : ℕ) (texts after : List (List ℕ)) (text : List ℕ)
    → count ≤ length texts → after ≡ take count texts ++ text ∷ []
    → take (count + 1) after ≡ take count texts ++ text ∷ []
taken-more count texts after text long put =
    let more : List (List ℕ) = take count texts ++ text ∷ [] in
    ap (take (count + 1)) put
    ∙ take_all (count + 1) more
    (omega (arith, length-append (take count texts) (text ∷ []), length-taken count texts long))

pub AreNumbered-none : {S : Type 0} (numbers : HashMap (String Global) ℕ S)
    (texts : List (List ℕ)) → IsEmpty numbers → AreNumbered numbers 0 texts
AreNumbered-none numbers texts empty = record {
  are = AreNames-none;
  long = omega arith;
  found = λ number text.
      (λ got. absurd cc, λ got. absurd (let is = sym (none text) ∙ got in cc));
}
  where
    none : (text : List ℕ) → get_by_text numbers text ≡ None
    none text = ap (lookup (λ (name : String Global). bytes_eq text (string_bytes name))) empty

pub AreNumbered-more : {S : Type 0} (old new : HashMap (String Global) ℕ S) (count : ℕ)
    (texts after : List (List ℕ)) (text : List ℕ) → AreNumbered old count texts
    → is_name text ≡ true → has (take count texts) text ≡ false → count + 1 < 2 ^ 32
    → after ≡ take count texts ++ text ∷ []
    → ((name : List ℕ) → get_by_text new name
    ≡ update bytes_eq (λ name. get_by_text old name) text (Some count) name)
    → AreNumbered new (count + 1) after
AreNumbered-more old new count texts after text are is absent few put updates =
    let names : List (List ℕ) = take count texts in
    let counted : length names ≡ count = length-taken count texts are.long in
    let more : take (count + 1) after ≡ names ++ text ∷ [] =
    taken-more count texts after text are.long put in record {
      are = subst AreNames (sym more)
          (AreNames-push names text are.are is absent
          (omega (arith, counted, are.are.few, few)));
      long = omega (arith, ap length put, length-append names (text ∷ []), counted);
      found = subst (HaveNumbers (λ name. get_by_text new name)) (sym more)
          (HaveNumbers-more (λ name. get_by_text old name) (λ name. get_by_text new name) names
          text count are.found absent (sym counted) updates);
    }

pub AreNumbered-less : {S : Type 0} (old new : HashMap (String Global) ℕ S) (count : ℕ)
    (texts : List (List ℕ)) (text : List ℕ) → AreNumbered old (suc count) texts
    → slice_get texts count ≡ Some text
    → ((name : List ℕ) → get_by_text new name
    ≡ update bytes_eq (λ name. get_by_text old name) text None name)
    → AreNumbered new count texts
AreNumbered-less old new count texts text are last updates = record {
  are = subst AreNames (take-take count (suc count) texts (omega arith))
      (AreNames-take (take (suc count) texts) count are.are);
  long = omega (arith, are.long);
  found = HaveNumbers-less (λ name. get_by_text old name) (λ name. get_by_text new name) texts
      count text are.found last updates;
}
