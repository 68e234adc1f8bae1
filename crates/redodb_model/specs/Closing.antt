-- What a session holds and builds by its own lines, and its closing commands.
use Rattle.std.specs.Prelude.{◌≡◌, Bool, true, false, cond, List, [], ◌∷◌, ◌++◌, filter, filter_map, Option, Some, None, option_map}
use Rattle.std.specs.declared.cmp.Ordering.{Ordering}
use Rattle.std.specs.declared.cmp.Ordering.TheVariants.{Less, Equal, Greater}
use Rattle.redodb_model.specs.Names.{Naming}
use Rattle.redodb_model.specs.Command.{Command, Lock, Unlock, Start, Done, Failed, asked_lock}
use Rattle.redodb_model.specs.Reply.{Reply, Okay, Granted}
use Rattle.redodb_model.specs.History.{Line}

abbrev pub is_okay : {N : Type 0} → Reply N → Bool
is_okay Okay = true
is_okay reply = false

abbrev pub is_granted : {N : Type 0} → Reply N → Bool
is_granted (Granted g) = true
is_granted reply = false

abbrev pub lesser : {N : Type 0} → Ordering → N → N → N
lesser Less n m = n
lesser Equal n m = n
lesser Greater n m = m

module _ {N : Type 0} (naming : Naming N) where
  -- whether the session holds t after this command and its reply; `held`: whether it did before
  abbrev pub holds_then : Command N → Reply N → N → Bool → Bool
  holds_then (Lock u) reply t held = cond (is_granted reply) (cond (naming.same u t) true held) held
  holds_then (Unlock u) reply t held = cond (is_okay reply) (cond (naming.same u t) false held) held
  holds_then command reply t held = held

  -- whether it builds t after an accepted command
  abbrev pub builds_accepted : Command N → N → Bool → Bool
  builds_accepted (Start u) t building = cond (naming.same u t) true building
  builds_accepted (Done u stamp) t building = cond (naming.same u t) false building
  builds_accepted (Failed u) t building = cond (naming.same u t) false building
  builds_accepted command t building = building

  abbrev pub builds_then : Command N → Reply N → N → Bool → Bool
  builds_then command reply t building =
      cond (is_okay reply) (builds_accepted command t building) building

  abbrev pub holds_after : N → Bool → List (Line N) → Bool
  holds_after t held [] = held
  holds_after t held (line ∷ lines) =
      holds_after t (holds_then line.command line.reply t held) lines

  abbrev pub builds_after : N → Bool → List (Line N) → Bool
  builds_after t building [] = building
  builds_after t building (line ∷ lines) =
      builds_after t (builds_then line.command line.reply t building) lines

  -- by its own lines, from the first on, the session holds the target
  abbrev pub holds : List (Line N) → N → Bool
  holds own t = holds_after t false own

  -- and it builds the target
  abbrev pub builds : List (Line N) → N → Bool
  builds own t = builds_after t false own

  abbrev pub lesser_of : N → Option N → N
  lesser_of n None = n
  lesser_of n (Some m) = lesser (naming.order n m) n m

  -- the least of the names, if there is one
  abbrev pub least : List N → Option N
  least [] = None
  least (n ∷ names) = Some (lesser_of n (least names))

  -- the names that the session locked and holds
  abbrev pub held_in : List (Line N) → List N
  held_in own = filter (holds own) (filter_map (λ line. asked_lock line.command) own)

  -- the closing commands of a target: its build fails if there is one, and then it is unlocked
  abbrev pub letting_go : List (Line N) → N → Command N
  letting_go own t = cond (builds own t) (Failed t) (Unlock t)

  -- the closing command after the session's lines: about the least target that it holds
  abbrev pub closing_of : List (Line N) → Option (Command N)
  closing_of own = option_map (letting_go own) (least (held_in own))

  -- each line has the closing command that comes after those before it, and none comes after them
  abbrev pub ClosesAfter : List (Line N) → List (Line N) → Type 0
  ClosesAfter own [] = closing_of own ≡ None
  ClosesAfter own (line ∷ lines) =
      (closing_of own ≡ Some line.command) × ClosesAfter (own ++ line ∷ []) lines
