-- A closing command is over the names of the lines before it.
use Rattle.std.proofs.Common.{◌≡◌, ℕ, ◌<◌, Bool, true, false, cond, List, [], ◌∷◌, filter, Option, Some, None, option_map, subst}
use Rattle.std.specs.List.{AllByRecursion, filter_map, cons_option}
use Rattle.std.specs.declared.cmp.Ordering.{Ordering}
use Rattle.std.specs.declared.cmp.Ordering.TheVariants.{Greater}
use Rattle.redodb_model.specs.Names.{Naming}
use Rattle.redodb_model.specs.Command.{Command, Lock, Unlock, Failed, asked_lock}
use Rattle.redodb_model.specs.History.{Line}
use Rattle.redodb_model.specs.Closing.{lesser, lesser_of, least, holds, builds, held_in, letting_go, closing_of}
use Rattle.redodb_model.specs.Renaming.{AllBelow, IsBelow}

module _ (n : ℕ) where
  -- the number is below n, if there is one
  abbrev pub IsSomeBelow : Option ℕ → Type 0
  IsSomeBelow None = Unit {0}
  IsSomeBelow (Some k) = k < n

  asked_below : (command : Command ℕ) → IsBelow n command → IsSomeBelow (asked_lock command)
  asked_below (Lock t) below = below.0
  asked_below command below = tt

  cons_below : (o : Option ℕ) (ks : List ℕ) → IsSomeBelow o → AllBelow n ks
      → AllBelow n (cons_option o ks)
  cons_below None ks one all = all
  cons_below (Some k) ks one all = (one, all)

  abbrev pub AllAskBelow : List (Line ℕ) → Type 0
  AllAskBelow own = AllByRecursion (λ line. IsBelow n line.command) own

  pub locks_below : (own : List (Line ℕ)) → AllAskBelow own
      → AllBelow n (filter_map (λ line. asked_lock line.command) own)
  locks_below [] below = tt
  locks_below (line ∷ own) below =
      cons_below (asked_lock line.command)
      (filter_map (λ (other : Line ℕ). asked_lock other.command) own)
      (asked_below line.command below.0) (locks_below own below.1)

  cond_below : (b : Bool) (k : ℕ) (ks : List ℕ) → k < n → AllBelow n ks
      → AllBelow n (cond b (k ∷ ks) ks)
  cond_below true k ks one all = (one, all)
  cond_below false k ks one all = all

  pub filter_below : (p : ℕ → Bool) (ks : List ℕ) → AllBelow n ks → AllBelow n (filter p ks)
  filter_below p [] below = tt
  filter_below p (k ∷ ks) below =
      cond_below (p k) k (filter p ks) below.0 (filter_below p ks below.1)

  lesser_below : (o : Ordering) (k m : ℕ) → k < n → m < n → lesser o k m < n
  lesser_below Greater k m bk bm = bm
  lesser_below o k m bk bm = bk

  lesser_of_below : (naming : Naming ℕ) (k : ℕ) (o : Option ℕ) → k < n → IsSomeBelow o
      → lesser_of naming k o < n
  lesser_of_below naming k None bk bo = bk
  lesser_of_below naming k (Some m) bk bo = lesser_below (naming.order k m) k m bk bo

  pub least_below : (naming : Naming ℕ) (ks : List ℕ)
      → AllBelow n ks → IsSomeBelow (least naming ks)
  least_below naming [] below = tt
  least_below naming (k ∷ ks) below =
      lesser_of_below naming k (least naming ks) below.0 (least_below naming ks below.1)

  letting_below : (b : Bool) (t : ℕ) → t < n → IsBelow n (cond b (Failed t) (Unlock t))
  letting_below true t below = (below, tt)
  letting_below false t below = (below, tt)

  letting_some : (naming : Naming ℕ) (own : List (Line ℕ)) (o : Option ℕ) (command : Command ℕ)
      → IsSomeBelow o → option_map (letting_go naming own) o ≡ Some command → IsBelow n command
  letting_some naming own None command below e = absurd (cc)
  letting_some naming own (Some t) command below e =
      let same : letting_go naming own t ≡ command = cc in
      subst (IsBelow n) same (letting_below (builds naming own t) t below)

  pub closing_below : (naming : Naming ℕ) (own : List (Line ℕ)) (command : Command ℕ)
      → AllAskBelow own → closing_of naming own ≡ Some command → IsBelow n command
  closing_below naming own command below e =
      let asked = filter_map (λ (line : Line ℕ). asked_lock line.command) own in
      letting_some naming own (least naming (held_in naming own)) command
      (least_below naming (held_in naming own)
      (filter_below (holds naming own) asked (locks_below own below))) e
