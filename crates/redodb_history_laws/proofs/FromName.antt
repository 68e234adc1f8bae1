-- A joint order over names of journals over numbers is one over the numbers.
use Rattle.std.proofs.Common.{◌≡◌, ℕ, ◌<◌, List, [], ◌∷◌, ◌++◌, Option, map, refl, sym, ap, ◌∙◌, subst, inl, inr}
use Rattle.std.specs.List.{AllByRecursion}
use Rattle.std.proofs.lemmas.List.{map_push}
use Rattle.std.specs.declared.cmp.Ordering.{Ordering}
use Rattle.redodb_model.specs.Names.{Naming, numbers}
use Rattle.redodb_model.specs.Support.Names.{IsNaming}
use Rattle.redodb_model.specs.Command.{Command, File, Gone, Lock, Unlock, Start, IfChange, IfCreate, Always, Stamp, Done, Failed}
use Rattle.redodb_model.specs.Reply.{Reply, Okay, Stale, Stamped, Refused, NotLocked, Building, NotBuilding, Itself, Exists}
use Rattle.redodb_model.specs.Reply as replies
use Rattle.redodb_model.specs.Renaming.{named_command, named_reply, AllBelow, IsBelow, IsReplyBelow}
use Rattle.redodb_model.specs.Support.Renaming.{Renaming, IsRenaming, value_at}
use Rattle.redodb_model.specs.Placed.{Place, Row, Granted, Busy, Released, PlacedLine, Fits, IsPlacedAfter, IsPlaced}
use Rattle.redodb_model.specs.Journals.{IsJointOrder, IsFirstJointOrder, NoLater}
use Rattle.redodb_history_laws.specs.Named.{named_place, named_placed_line, named_journals, IsPlaceBelow, IsPlacedBelow, IsToldBelow, AreToldBelow}
use Rattle.redodb_history_laws.proofs.Exchange.{In}
use Rattle.redodb_history_laws.proofs.Own.{all_by_parts}
use Rattle.redodb_history_laws.proofs.ByName.{all_push, part_map, fits_kept, follows_by_name, joint_by_name}

pub in_map : {A B : Type 0} (f : A → B) (y : B) (xs : List A) → In y (map f xs)
    → (x : A) × In x xs × (f x ≡ y)
in_map f y [] h = absurd h
in_map f y (x ∷ xs) (inl e) = (x, inl refl, e)
in_map f y (x ∷ xs) (inr i) = let r = in_map f y xs i in (r.0, inr r.1, r.2)

all_in : {A : Type 0} (P : A → Type 0) (x : A) (xs : List A) → AllByRecursion P xs → In x xs → P x
all_in P x [] all i = absurd i
all_in P x (y ∷ ys) all (inl e) = subst P e all.0
all_in P x (y ∷ ys) all (inr i) = all_in P x ys all.1 i

module _ {M : Type 0} {to : Renaming M} (law : IsRenaming to) where
  -- the number of a name, and 0 where there is none
  abbrev pub number_or_zero : M → ℕ
  number_or_zero t = value_at 0 (λ k. k) (to.number t)

  number_back : (k : ℕ) → k < to.count → number_or_zero (to.name k) ≡ k
  number_back k h = ap (λ (o : Option ℕ). value_at 0 (λ j. j) o) (law.back k h)

  list_back : (ks : List ℕ) → AllBelow to.count ks → map number_or_zero (map to.name ks) ≡ ks
  list_back [] below = refl
  list_back (k ∷ ks) below = λ i. number_back k below.0 i ∷ list_back ks below.1 i

  reply_back : (reply : Reply ℕ) → IsReplyBelow to.count reply
      → named_reply number_or_zero (named_reply to.name reply) ≡ reply
  reply_back (Stale ns) below = ap Stale (list_back ns below)
  reply_back (replies.Ood ns) below = ap replies.Ood (list_back ns below)
  reply_back (replies.Targets ns) below = ap replies.Targets (list_back ns below)
  reply_back (replies.Sources ns) below = ap replies.Sources (list_back ns below)
  reply_back (Refused (Exists m)) below = ap (λ j. Refused (Exists j)) (number_back m below)
  reply_back reply below = refl

  command_back : (command : Command ℕ) → IsBelow to.count command
      → named_command number_or_zero (named_command to.name command) ≡ command
  command_back (File n stamp) below = ap (λ m. File m stamp) (number_back n below.0)
  command_back (Gone n) below = ap (λ m. Gone m) (number_back n below.0)
  command_back (Lock t) below = ap (λ m. Lock m) (number_back t below.0)
  command_back (Unlock t) below = ap (λ m. Unlock m) (number_back t below.0)
  command_back (Start t) below = ap (λ m. Start m) (number_back t below.0)
  command_back (IfChange t ns) below =
      λ i. IfChange (number_back t below.0 i) (list_back ns below.1 i)
  command_back (IfCreate t ns) below =
      λ i. IfCreate (number_back t below.0 i) (list_back ns below.1 i)
  command_back (Always t) below = ap (λ m. Always m) (number_back t below.0)
  command_back (Stamp t content) below = ap (λ m. Stamp m content) (number_back t below.0)
  command_back (Done t stamp) below = ap (λ m. Done m stamp) (number_back t below.0)
  command_back (Failed t) below = ap (λ m. Failed m) (number_back t below.0)
  command_back command below = refl

  place_back : (place : Place ℕ) → IsPlaceBelow to.count place
      → named_place number_or_zero (named_place to.name place) ≡ place
  place_back (Row r) below = refl
  place_back (Granted t g) below = ap (λ m. Granted m g) (number_back t below)
  place_back (Busy t g) below = ap (λ m. Busy m g) (number_back t below)
  place_back (Released t g) below = ap (λ m. Released m g) (number_back t below)

  line_back : (line : PlacedLine ℕ) → IsToldBelow to.count line
      → named_placed_line number_or_zero (named_placed_line to.name line) ≡ line
  line_back line h =
      λ i.
      record {
        session = line.session;
        number = line.number;
        command = command_back line.command h.placed.command i;
        reply = reply_back line.reply h.reply i;
        place = place_back line.place h.placed.place i;
      }

  lines_back : (lines : List (PlacedLine ℕ)) → AllByRecursion (IsToldBelow to.count) lines
      → map (named_placed_line number_or_zero) (map (named_placed_line to.name) lines) ≡ lines
  lines_back [] all = refl
  lines_back (line ∷ lines) all = λ i. line_back line all.0 i ∷ lines_back lines all.1 i

  -- each line is the name of one that is below
  abbrev IsNamed : PlacedLine M → Type 0
  IsNamed x =
      (line : PlacedLine ℕ) × IsToldBelow to.count line × (named_placed_line to.name line ≡ x)

  renumbered : (x : PlacedLine M) → IsNamed x
      → (named_placed_line to.name (named_placed_line number_or_zero x) ≡ x)
      × IsToldBelow to.count (named_placed_line number_or_zero x)
  renumbered x h =
      subst
      (λ (y : PlacedLine M).
      (named_placed_line to.name (named_placed_line number_or_zero y) ≡ y)
      × IsToldBelow to.count (named_placed_line number_or_zero y))
      h.2 (
        ap (named_placed_line to.name) (line_back h.0 h.1),
        subst (IsToldBelow to.count) (sym (line_back h.0 h.1)) h.1,
      )

  names_back : (xs : List (PlacedLine M)) → AllByRecursion IsNamed xs
      → map (named_placed_line to.name) (map (named_placed_line number_or_zero) xs) ≡ xs
  names_back [] all = refl
  names_back (x ∷ xs) all = λ i. (renumbered x all.0).0 i ∷ names_back xs all.1 i

  all_told : (xs : List (PlacedLine M)) → AllByRecursion IsNamed xs
      → AllByRecursion (IsToldBelow to.count) (map (named_placed_line number_or_zero) xs)
  all_told [] all = tt
  all_told (x ∷ xs) all = ((renumbered x all.0).1, all_told xs all.1)

  module _ {naming : Naming M} (good : IsNaming naming) (order : ℕ → ℕ → Ordering) where
    fits_back : (line : PlacedLine ℕ) → IsToldBelow to.count line
        → Fits (named_place to.name line.place) (named_command to.name line.command)
        (named_reply to.name line.reply)
        → Fits line.place line.command line.reply
    fits_back line h fits =
        subst (λ (x : PlacedLine ℕ). Fits x.place x.command x.reply) (line_back line h)
        (fits_kept number_or_zero (named_place to.name line.place)
        (named_command to.name line.command) (named_reply to.name line.reply) fits)

    placed_after_from : (before lines : List (PlacedLine ℕ))
        → AllByRecursion (IsPlacedBelow to.count) before
        → AllByRecursion (IsToldBelow to.count) lines
        → IsPlacedAfter naming (map (named_placed_line to.name) before)
        (map (named_placed_line to.name) lines)
        → IsPlacedAfter (numbers order) before lines
    placed_after_from before [] all more h = tt
    placed_after_from before (line ∷ lines) all more h = (
      fits_back line more.0 h.0,
      (follows_by_name law good order before all line.place more.0.placed.place).1 h.1,
      placed_after_from (before ++ line ∷ []) lines
          (all_push (IsPlacedBelow to.count) before line all more.0.placed) more.1
          (subst
          (λ (bs : List (PlacedLine M)). IsPlacedAfter naming bs
          (map (named_placed_line to.name) lines))
          (sym (map_push (named_placed_line to.name) before line)) h.2),
    )

    -- each joint order over the names is that of one over the numbers
    pub joint_from_name : (journals : ℕ → List (PlacedLine ℕ)) → AreToldBelow to.count journals
        → (lines : List (PlacedLine M))
        → IsJointOrder naming (named_journals to.name journals) lines
        → (over : List (PlacedLine ℕ)) × IsJointOrder (numbers order) journals over
        × (map (named_placed_line to.name) over ≡ lines)
    joint_from_name journals below lines joint =
        let named : AllByRecursion IsNamed lines =
        all_by_parts IsNamed lines
        (λ s line i. let found = in_map (named_placed_line to.name) line (journals s)
        (subst (In line) (joint.0 s) i) in (
          found.0,
          all_in (IsToldBelow to.count) found.0 (journals s) (below s) found.1,
          found.2,
        )) in
        let over = map (named_placed_line number_or_zero) lines in (
          over,
          (
            λ s. part_map number_or_zero s lines
                ∙ ap (map (named_placed_line number_or_zero)) (joint.0 s)
                ∙ lines_back (journals s) (below s),
            placed_after_from [] over tt (all_told lines named)
                (subst (IsPlaced naming) (sym (names_back lines named)) joint.1),
          ),
          names_back lines named,
        )

    -- the lines of a joint order are below if those of the journals are
    pub joint_below : (journals : ℕ → List (PlacedLine ℕ)) → AreToldBelow to.count journals
        → (lines : List (PlacedLine ℕ)) → IsJointOrder (numbers order) journals lines
        → AllByRecursion (IsPlacedBelow to.count) lines
    joint_below journals below lines joint =
        all_by_parts (IsPlacedBelow to.count) lines
        (λ s line i.
        (all_in (IsToldBelow to.count) line (journals s) (below s)
        (subst (In line) (joint.0 s) i)).placed)

    no_later_by_name : (lines others : List (PlacedLine ℕ)) → NoLater lines others
        → NoLater (map (named_placed_line to.name) lines)
        (map (named_placed_line to.name) others)
    no_later_by_name [] others h = tt
    no_later_by_name (line ∷ lines) [] h = absurd h
    no_later_by_name (line ∷ lines) (other ∷ others) (inl h) = inl h
    no_later_by_name (line ∷ lines) (other ∷ others) (inr h) =
        inr (h.0, no_later_by_name lines others h.1)

    -- the first joint order over numbers, under their names, is the first over the names
    pub first_joint_by_name : (journals : ℕ → List (PlacedLine ℕ)) (lines : List (PlacedLine ℕ))
        → AreToldBelow to.count journals → IsFirstJointOrder (numbers order) journals lines
        → IsFirstJointOrder naming (named_journals to.name journals)
        (map (named_placed_line to.name) lines)
    first_joint_by_name journals lines below h = record {
      joint =
          joint_by_name law good order journals lines (joint_below journals below lines h.joint)
          h.joint;
      first =
          λ others joint. let from = joint_from_name journals below others joint in
          subst (NoLater (map (named_placed_line to.name) lines)) from.2
          (no_later_by_name lines from.0 (h.first from.0 from.1));
    }

    -- if there is no joint order over numbers, there is none over the names
    pub no_joint_by_name : (journals : ℕ → List (PlacedLine ℕ)) → AreToldBelow to.count journals
        → ((lines : List (PlacedLine ℕ)) → IsJointOrder (numbers order) journals lines → ⊥)
        → (lines : List (PlacedLine M))
        → IsJointOrder naming (named_journals to.name journals) lines → ⊥
    no_joint_by_name journals below none lines joint =
        let from = joint_from_name journals below lines joint in none from.0 from.1
