-- The closing command over numbers, under their names, is the one over the names.
use Rattle.std.proofs.Common.{◌≡◌, ℕ, ◌<◌, Bool, true, false, cond, List, [], ◌∷◌, map, Option, Some, None, option_map, refl, sym, ap, ◌∙◌}
use Rattle.std.specs.Prelude.{◌==◌}
use Rattle.std.specs.List.{AllByRecursion, filter, filter_map, cons_option}
use Rattle.std.specs.declared.cmp.Ordering.{Ordering}
use Rattle.std.specs.declared.cmp.Ordering.TheVariants.{Less}
use Rattle.redodb_model.specs.Names.{Naming, numbers}
use Rattle.redodb_model.specs.Support.Names.{IsNaming}
use Rattle.redodb_model.specs.Command.{Command, Lock, Unlock, Start, Done, Failed, asked_lock}
use Rattle.redodb_model.specs.Reply.{Reply, Okay, Granted}
use Rattle.redodb_model.specs.History.{Line}
use Rattle.redodb_model.specs.Closing.{is_okay, is_granted, lesser, lesser_of, least, holds_then, builds_accepted, builds_then, holds_after, builds_after, holds, held_in, letting_go, closing_of}
use Rattle.redodb_model.specs.Renaming.{named_command, named_line, named_reply, AllBelow, IsBelow}
use Rattle.redodb_model.specs.Support.Renaming.{Renaming, IsRenaming, OrdersAlike}
use Rattle.redodb_model.proofs.ClosingBelow.{IsSomeBelow, locks_below, filter_below, least_below}
use Rattle.redodb_model.proofs.RecordsByName.{same_at}

module _ {N M : Type 0} (name : N → M) where
  okay_named : (reply : Reply N) → is_okay (named_reply name reply) ≡ is_okay reply
  okay_named Okay = refl
  okay_named reply = refl

  granted_named : (reply : Reply N) → is_granted (named_reply name reply) ≡ is_granted reply
  granted_named (Granted g) = refl
  granted_named reply = refl

  asked_named : (command : Command N)
      → asked_lock (named_command name command) ≡ option_map name (asked_lock command)
  asked_named (Lock t) = refl
  asked_named command = refl

  cons_named : (o : Option N) (xs : List N) (ys : List M) → ys ≡ map name xs
      → cons_option (option_map name o) ys ≡ map name (cons_option o xs)
  cons_named None xs ys e = e
  cons_named (Some x) xs ys e = ap (λ zs. name x ∷ zs) e

  locks_named : (own : List (Line N))
      → filter_map (λ line. asked_lock line.command) (map (named_line name) own)
      ≡ map name (filter_map (λ line. asked_lock line.command) own)
  locks_named [] = refl
  locks_named (line ∷ own) =
      let asked : Line M → Option M = λ other. asked_lock other.command in
      ap (λ o. cons_option o (filter_map asked (map (named_line name) own)))
      (asked_named line.command)
      ∙ cons_named (asked_lock line.command)
      (filter_map (λ (other : Line N). asked_lock other.command) own)
      (filter_map asked (map (named_line name) own)) (locks_named own)

  cond_named : (b : Bool) (x : N) (xs : List N) (ys : List M) → ys ≡ map name xs
      → cond b (name x ∷ ys) ys ≡ map name (cond b (x ∷ xs) xs)
  cond_named true x xs ys e = ap (λ zs. name x ∷ zs) e
  cond_named false x xs ys e = e

  lesser_named : (o : Ordering) (n m : N) → lesser o (name n) (name m) ≡ name (lesser o n m)
  lesser_named Less n m = refl
  lesser_named o n m = refl

  letting_by : (b : Bool) (t : N)
      → cond b (Failed (name t)) (Unlock (name t))
      ≡ named_command name (cond b (Failed t) (Unlock t))
  letting_by true t = refl
  letting_by false t = refl

module _ {M : Type 0} {to : Renaming M} (law : IsRenaming to) {naming : Naming M}
    (good : IsNaming naming) (order : ℕ → ℕ → Ordering) where
  same_named : (u t : ℕ) → u < to.count → t < to.count
      → naming.same (to.name u) (to.name t) ≡ (u == t)
  same_named u t bu bt = same_at law naming good order u (to.name t) (Some t) bu (law.back t bt)

  holds_named : (command : Command ℕ) (reply : Reply ℕ) (t : ℕ) (held : Bool)
      → IsBelow to.count command → t < to.count
      → holds_then naming (named_command to.name command) (named_reply to.name reply) (to.name t)
      held ≡ holds_then (numbers order) command reply t held
  holds_named (Lock u) reply t held below bt =
      let same = same_named u t below.0 bt in
      let granted = granted_named to.name reply in
      λ i. cond (granted i) (cond (same i) true held) held
  holds_named (Unlock u) reply t held below bt =
      let same = same_named u t below.0 bt in
      let okay = okay_named to.name reply in
      λ i. cond (okay i) (cond (same i) false held) held
  holds_named command reply t held below bt = refl

  accepted_named : (command : Command ℕ) (t : ℕ) (building : Bool) → IsBelow to.count command
      → t < to.count → builds_accepted naming (named_command to.name command) (to.name t) building
      ≡ builds_accepted (numbers order) command t building
  accepted_named (Start u) t building below bt =
      ap (λ b. cond b true building) (same_named u t below.0 bt)
  accepted_named (Done u stamp) t building below bt =
      ap (λ b. cond b false building) (same_named u t below.0 bt)
  accepted_named (Failed u) t building below bt =
      ap (λ b. cond b false building) (same_named u t below.0 bt)
  accepted_named command t building below bt = refl

  builds_named : (command : Command ℕ) (reply : Reply ℕ) (t : ℕ) (building : Bool)
      → IsBelow to.count command → t < to.count
      → builds_then naming (named_command to.name command) (named_reply to.name reply) (to.name t)
      building ≡ builds_then (numbers order) command reply t building
  builds_named command reply t building below bt =
      let okay = okay_named to.name reply in
      let accepted = accepted_named command t building below bt in
      λ i. cond (okay i) (accepted i) building

  abbrev Below : List (Line ℕ) → Type 0
  Below own = AllByRecursion (λ line. IsBelow to.count line.command) own

  holds_after_named : (t : ℕ) (held : Bool) (own : List (Line ℕ)) → Below own → t < to.count
      → holds_after naming (to.name t) held (map (named_line to.name) own)
      ≡ holds_after (numbers order) t held own
  holds_after_named t held [] below bt = refl
  holds_after_named t held (line ∷ own) below bt =
      ap (λ h. holds_after naming (to.name t) h (map (named_line to.name) own))
      (holds_named line.command line.reply t held below.0 bt)
      ∙ holds_after_named t (holds_then (numbers order) line.command line.reply t held) own
      below.1 bt

  builds_after_named : (t : ℕ) (building : Bool) (own : List (Line ℕ)) → Below own → t < to.count
      → builds_after naming (to.name t) building (map (named_line to.name) own)
      ≡ builds_after (numbers order) t building own
  builds_after_named t building [] below bt = refl
  builds_after_named t building (line ∷ own) below bt =
      ap (λ b. builds_after naming (to.name t) b (map (named_line to.name) own))
      (builds_named line.command line.reply t building below.0 bt)
      ∙ builds_after_named t (builds_then (numbers order) line.command line.reply t building) own
      below.1 bt

  kept_named : (own : List (Line ℕ)) (ks : List ℕ) → Below own → AllBelow to.count ks
      → filter (holds naming (map (named_line to.name) own)) (map to.name ks)
      ≡ map to.name (filter (holds (numbers order) own) ks)
  kept_named own [] below all = refl
  kept_named own (k ∷ ks) below all =
      let kept = filter (holds naming (map (named_line to.name) own)) (map to.name ks) in
      ap (λ b. cond b (to.name k ∷ kept) kept) (holds_after_named k false own below all.0)
      ∙ cond_named to.name (holds (numbers order) own k) k (filter (holds (numbers order) own) ks)
      kept (kept_named own ks below all.1)

  held_named : (own : List (Line ℕ)) → Below own
      → held_in naming (map (named_line to.name) own) ≡ map to.name (held_in (numbers order) own)
  held_named own below =
      ap (filter (holds naming (map (named_line to.name) own))) (locks_named to.name own)
      ∙ kept_named own (filter_map (λ (line : Line ℕ). asked_lock line.command) own) below
      (locks_below to.count own below)

  module _ (alike : OrdersAlike to naming order) where
    lesser_of_named : (k : ℕ) (o : Option ℕ) → k < to.count → IsSomeBelow to.count o
        → lesser_of naming (to.name k) (option_map to.name o)
        ≡ to.name (lesser_of (numbers order) k o)
    lesser_of_named k None bk bo = refl
    lesser_of_named k (Some m) bk bm =
        ap (λ o. lesser o (to.name k) (to.name m)) (sym (alike.alike k m bk bm))
        ∙ lesser_named to.name (order k m) k m

    least_named : (ks : List ℕ) → AllBelow to.count ks
        → least naming (map to.name ks) ≡ option_map to.name (least (numbers order) ks)
    least_named [] below = refl
    least_named (k ∷ ks) below =
        ap (λ o. Some (lesser_of naming (to.name k) o)) (least_named ks below.1)
        ∙ ap Some (lesser_of_named k (least (numbers order) ks) below.0
        (least_below to.count (numbers order) ks below.1))

    letting_named : (own : List (Line ℕ)) (o : Option ℕ) → Below own → IsSomeBelow to.count o
        → option_map (letting_go naming (map (named_line to.name) own)) (option_map to.name o)
        ≡ option_map (named_command to.name) (option_map (letting_go (numbers order) own) o)
    letting_named own None below bo = refl
    letting_named own (Some t) below bt =
        let building = builds_after_named t false own below bt in
        ap (λ b. Some (cond b (Failed (to.name t)) (Unlock (to.name t)))) building
        ∙ ap Some (letting_by to.name (builds_after (numbers order) t false own) t)

    -- the closing command under names
    pub closing_by_name : (own : List (Line ℕ)) → Below own
        → closing_of naming (map (named_line to.name) own)
        ≡ option_map (named_command to.name) (closing_of (numbers order) own)
    closing_by_name own below =
        let names = held_in (numbers order) own in
        let all : AllBelow to.count names =
        filter_below to.count (holds (numbers order) own)
        (filter_map (λ (line : Line ℕ). asked_lock line.command) own)
        (locks_below to.count own below) in
        ap (λ xs. option_map (letting_go naming (map (named_line to.name) own)) (least naming xs))
        (held_named own below)
        ∙ ap (option_map (letting_go naming (map (named_line to.name) own)))
        (least_named names all)
        ∙ letting_named own (least (numbers order) names) below
        (least_below to.count (numbers order) names all)
