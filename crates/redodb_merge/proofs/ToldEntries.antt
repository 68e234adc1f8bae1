-- The entries of a journal: their commands are over the names, and few of them are busy replies.
use Rattle.std.proofs.Common.{◌≡◌, ℕ, suc, ◌-◌, ◌≤◌, Bool, true, false, cond, List, [], ◌∷◌, ◌++◌, length, map, Some, refl, sym, ◌∙◌, subst, inl, inr, arith}
use Rattle.std.specs.List.{AllByRecursion}
use Rattle.std.proofs.lemmas.List.{map_push}
use Rattle.redodb_model.specs.Names.{Naming}
use Rattle.redodb_model.specs.Command as commands
use Rattle.redodb_model.specs.Command.{Lock, Unlock, Failed}
use Rattle.redodb_model.specs.Reply as replies
use Rattle.redodb_model.specs.Placed.{PlacedLine, Fits, line_of}
use Rattle.redodb_model.specs.Renaming.{IsBelow}
use Rattle.redodb_model.specs.Closing.{builds, closing_of}
use Rattle.redodb_model.specs.Journals.{Numbered, next_of, numbered, IsJournal, IsJournalAfter}
use Rattle.redodb_model.proofs.Nexts.{past_of, past_of_more, next_cases, next_line_from}
use Rattle.redodb_model.proofs.Letting.{closing_held}
use Rattle.redodb_journal.specs.declared.entry.Place.{Place}
use Rattle.redodb_journal.specs.declared.entry.Place.TheVariants.{Row, Granted, Busy, Released}
use Rattle.redodb_journal.specs.declared.entry.Entry.{Entry}
use Rattle.redodb_journal.specs.Journals.{place_of, command_told, line_told, lines_told}
use Rattle.redodb_journal.proofs.Closings.{TellsBelow, closing_told_below}
use Rattle.redodb_journal.proofs.Steps.{at_below}
use Rattle.redodb_merge.specs.Support.Merging.{FitsAt, busy_one, busy_in}
use Rattle.redodb_merge.proofs.BusyCounts.{busy_in-cons, busy_one-le}

tells_more : (n : ℕ) (script : List (commands.Item ℕ)) (entries : List Entry) (entry : Entry)
    → TellsBelow n script entries → IsBelow n (command_told script entry)
    → TellsBelow n script (entries ++ entry ∷ [])
tells_more n script [] entry all here = (here, tt)
tells_more n script (first ∷ entries) entry all here =
    (all.0, tells_more n script entries entry all.1 here)

lock_stays : (t u : ℕ) (b : Bool) → Lock u ≡ cond b (Failed t) (Unlock t) → ⊥
lock_stays t u true e = cc
lock_stays t u false e = cc

module _ (naming : Naming ℕ) (s : ℕ) (script : List (commands.Item ℕ)) where
  -- the commands of a journal are over the names of its script
  module _ (n : ℕ) (below : AllByRecursion (λ item. IsBelow n item.command) script) where
    next_below : (before : List Entry) (next : Numbered ℕ) → TellsBelow n script before
        → next_of naming script (lines_told s script before) ≡ Some next
        → IsBelow n next.command
    next_below before next all e =
        elim (next_cases naming script (lines_told s script before) next e) [
          | inl is ↦
              subst (IsBelow n) (next_line_from script (lines_told s script before) next is).command
              (at_below n script next.number below)
          | inr closing ↦
              closing_told_below naming n s script before next.command all closing.closes
        ]

    below_after : (before entries : List Entry) → TellsBelow n script before
        → IsJournalAfter naming s script (lines_told s script before)
        (lines_told s script entries)
        → TellsBelow n script entries
    below_after before [] all is = tt
    below_after before (entry ∷ entries) all is =
        let here = next_below before (numbered (line_told s script entry)) all is.1 in (
          here,
          below_after (before ++ entry ∷ []) entries (tells_more n script before entry all here)
              (subst
              (λ ls. IsJournalAfter naming s script ls (lines_told s script entries))
              (sym (map_push (line_told s script) before entry)) is.2),
        )

    pub told_below : (entries : List Entry)
        → IsJournal naming s script (lines_told s script entries) → TellsBelow n script entries
    told_below entries is = below_after [] entries tt is

  -- a closing command is no lock, so it has no busy reply
  closing_free : (before : List (PlacedLine ℕ)) (command : commands.Command ℕ)
      (reply : replies.Reply ℕ) (place : Place) (t g : ℕ)
      → closing_of naming (map line_of before) ≡ Some command
      → Fits (place_of place) command reply → busy_one t g place ≡ 0
  closing_free before command reply (Busy u h) t g closes fits =
      let (held, holds, is) = closing_held naming (map line_of before) command closes in
      absurd (lock_stays held u (builds naming (map line_of before) held) (sym fits.0 ∙ is))
  closing_free before command reply place t g closes fits = refl

  busy_after : (t g : ℕ) (before : List (PlacedLine ℕ)) (entries : List Entry)
      → IsJournalAfter naming s script before (lines_told s script entries)
      → ((k : ℕ) → FitsAt script entries k)
      → busy_in t g entries ≤ length script - past_of before
  busy_after t g before [] is fit = omega arith
  busy_after t g before (entry ∷ entries) is fit =
      let line = line_told s script entry in
      let all = busy_in-cons t g entry entries in
      let past = past_of_more before line in
      let rest = busy_after t g (before ++ line ∷ []) entries is.2
      (λ k within. fit (suc k) (omega arith)) in
      elim (next_cases naming script before (numbered line) is.1) [
        | inl on ↦
            let found = next_line_from script before (numbered line) on in
            omega (arith, found.from, found.within, busy_one-le t g entry.place)
        | inr closing ↦
            let one = closing_free before line.command line.reply entry.place t g closing.closes
            (fit 0 (omega arith)) in
            let beyond = closing.past in
            omega arith
      ]

  -- there are no more busy replies of a grant than the script has lines
  pub busy_few : (t g : ℕ) (entries : List Entry)
      → IsJournal naming s script (lines_told s script entries)
      → ((k : ℕ) → FitsAt script entries k) → busy_in t g entries ≤ length script
  busy_few t g entries is fit =
      let few = busy_after t g [] entries is fit in
      omega arith
