-- If the lines of one joint order are valid (`Stands`), those of each are.
use Rattle.std.proofs.Common.{◌≡◌, ◌≢◌, ℕ, ◌+◌, ◌*◌, ◌⊎◌, Bool, true, false, List, [], ◌∷◌, ◌++◌, Option, Some, None, refl, sym, ap, ◌∙◌, subst, inl, inr, arith, Decides}
use mathlib.Core.Logic.{dite}
use native.Mathlib.Decide.{ℕ_discrete}
use Rattle.redodb_model.specs.Names.{Naming}
use Rattle.redodb_model.specs.Support.Names.{IsNaming}
use Rattle.redodb_model.specs.State.{Records}
use Rattle.redodb_model.specs.Command.{Command, target_of}
use Rattle.redodb_model.specs.Reply.{Reply}
use Rattle.redodb_model.specs.Placed.{Place, Row, Granted, Busy, Released, PlacedLine, part_of}
use Rattle.redodb_model.specs.Support.Placed.{holds_by}
use Rattle.redodb_history_laws.specs.ByRows.{Stands, records_by, StandAfter}
use Rattle.redodb_history_laws.proofs.Exchange.{Ticket, Tickets, In, cond_same, cond_other, without, after, Comes, AllCome, Free, part-own, part-other, apart_sym, apart_first, free_rest, no_move}
use Rattle.redodb_history_laws.proofs.Greedy.{IsJoint, first_may, takes_first, rest_joint, exchange}
use Rattle.redodb_history_laws.proofs.Own.{push_other, push_same, push_swap, builds_kept}

abbrev pub same_counter : {N : Type 0} → Naming N → Option N → Option N → Bool
same_counter naming None None = true
same_counter naming None (Some b) = false
same_counter naming (Some a) None = false
same_counter naming (Some a) (Some b) = naming.same b a

-- one counter for the rows, and one for the grants and releases of each target, which starts at 2
abbrev pub ticket_of : {N : Type 0} → Place N → Ticket (Option N)
ticket_of (Row r) = record { counter = None; value = r; step = 1 }
ticket_of (Granted t g) = record { counter = Some t; value = 2 * g; step = 1 }
ticket_of (Busy t g) = record { counter = Some t; value = 2 * g + 1; step = 0 }
ticket_of (Released t g) = record { counter = Some t; value = 2 * g + 1; step = 1 }

pub counter_decides : {N : Type 0} {naming : Naming N} (law : IsNaming naming) (a b : Option N)
    → Decides (same_counter naming a b) (a ≡ b)
counter_decides law None None = (λ _. refl, λ _. refl)
counter_decides law None (Some b) = (λ e. absurd (cc), λ e. absurd (cc))
counter_decides law (Some a) None = (λ e. absurd (cc), λ e. absurd (cc))
counter_decides law (Some a) (Some b) =
    (λ e. ap Some (sym ((law.decides b a).0 e)), λ e. (law.decides b a).1 (cc))

module _ {N : Type 0} {naming : Naming N} (law : IsNaming naming) where
  abbrev pub tickets : Tickets (PlacedLine N) (Option N)
  tickets =
      record {
        session = λ line. line.session;
        ticket = λ line. ticket_of line.place;
        same = same_counter naming;
        decides = counter_decides law;
      }

  abbrev Away : Place N → Place N → Type 0
  Away place next_place =
      ((ticket_of place).counter ≢ (ticket_of next_place).counter)
      ⊎ (((ticket_of place).step ≡ 0) × ((ticket_of next_place).step ≡ 0))

  two_rows : (m n : ℕ) → Away (Row m) (Row n) → ⊥
  two_rows m n (inl ne) = absurd (ne refl)
  two_rows m n (inr z) = let y = z.0 in omega arith

  -- a line is valid after one of another session that is apart from it exactly if it is valid
  -- before it
  still : (place next_place : Place N) (records : Records N) (own next_own : List (PlacedLine N))
      (s v : ℕ)
      (command next_command : Command N)
      (reply : Reply N)
      → s ≢ v → Away place next_place
      → Stands naming next_place (records_by naming place records own s command) next_own v
      next_command reply
      ≡ Stands naming next_place records next_own v next_command reply
  still (Row m) (Row n) records own next_own s v command next_command reply ne a =
      absurd (two_rows m n a)
  still (Row m) (Released t g) records own next_own s v command next_command reply ne a =
      λ i. (holds_by naming next_own (Some t) ≡ true)
      ×
      (builds_kept law records s v
      (holds_by naming own (target_of command))
      command t ne i
      ≡ false)
  still place next_place records own next_own s v command next_command reply ne a = refl

  records_swap : (place next_place : Place N) (records : Records N)
      (own next_own : List (PlacedLine N)) (s v : ℕ)
      (command next_command : Command N)
      → Away place next_place
      → records_by naming next_place (records_by naming place records own s command) next_own v
      next_command
      ≡ records_by naming place (records_by naming next_place records next_own v next_command)
      own s command
  records_swap (Row m) (Row n) records own next_own s v command next_command a =
      absurd (two_rows m n a)
  records_swap place next_place records own next_own s v command next_command a = refl

  -- lines that are valid after some lines are valid after others with the same parts
  alike : (records : Records N) (before others lines : List (PlacedLine N))
      → ((s : ℕ) → part_of s before ≡ part_of s others) → StandAfter naming records before lines
      → StandAfter naming records others lines
  alike records before others [] h all = tt
  alike records before others (line ∷ lines) h all =
      let here =
      subst
      (λ (own : List (PlacedLine N)). Stands naming line.place records own line.session
      line.command line.reply
      × StandAfter naming
      (records_by naming line.place records own line.session line.command)
      (before ++ line ∷ []) lines)
      (h line.session) all in (
        here.0,
        alike
            (records_by naming line.place records (part_of line.session others) line.session
            line.command)
            (before ++ line ∷ []) (others ++ line ∷ []) lines
            (λ s. push_same s before others line (h s)) here.1,
      )

  -- a line that may come next, moved to the beginning of valid lines, leaves them valid
  pub moved_first : (counts : Option N → ℕ) (records : Records N) (before : List (PlacedLine N))
      (next : PlacedLine N) (rest lines : List (PlacedLine N))
      → AllCome tickets counts lines → part_of next.session lines ≡ next ∷ rest
      → Comes tickets counts next
      → Free tickets (λ u. part_of u lines) next
      → StandAfter naming records before lines
      → StandAfter naming records before (next ∷ without tickets next.session lines)
  moved_first counts records before next rest [] p h ce free all = absurd (cc)
  moved_first counts records before next rest (line ∷ lines) p h ce free all =
      dite (ℕ_discrete line.session next.session)
      (λ q. let a = part-own tickets next.session line lines q in let same : line ≡ next = cc in
      subst (λ (others : List (PlacedLine N)). StandAfter naming records before (next ∷ others))
      (sym
      (cond_same line.session next.session lines (line ∷ without tickets next.session lines)
      q))
      (subst (λ (other : PlacedLine N). StandAfter naming records before (other ∷ lines)) same
      all))
      (λ n. let z = apart_first tickets next counts line lines rest n p h ce free in
      let y = no_move tickets next line (apart_sym tickets line next z) in
      let own_line = part_of line.session before in
      let own_next = part_of next.session before in
      let rest_of = without tickets next.session lines in
      let records_line = records_by naming line.place records own_line line.session line.command in
      let ih =
      moved_first (after tickets counts line) records_line (before ++ line ∷ []) next rest lines
      p.1
      (sym (part-other tickets next.session line lines n) ∙ h) (omega arith)
      (free_rest tickets next line lines free) all.1 in
      let there =
      subst
      (λ (own : List (PlacedLine N)). Stands naming next.place records_line own next.session
      next.command next.reply
      × StandAfter naming
      (records_by naming next.place records_line own next.session next.command)
      ((before ++ line ∷ []) ++ next ∷ []) rest_of)
      (push_other next.session before line n) ih in
      let first : Stands naming next.place records own_next next.session next.command next.reply =
      subst (λ (T : Type 0). T)
      (still line.place next.place records own_line own_next line.session next.session
      line.command
      next.command next.reply n z)
      there.0 in
      let records_next = records_by naming next.place records own_next next.session next.command in
      let back : Stands naming line.place records_next own_line line.session line.command
      line.reply =
      subst (λ (T : Type 0). T)
      (sym
      (still next.place line.place records own_next own_line next.session line.session
      next.command
      line.command line.reply
      (λ q. n (sym q)) (apart_sym tickets line next z)))
      all.0 in
      let tail : StandAfter naming
      (records_by naming line.place records_next own_line line.session line.command)
      ((before ++ next ∷ []) ++ line ∷ []) rest_of =
      alike (records_by naming line.place records_next own_line line.session line.command)
      ((before ++ line ∷ []) ++ next ∷ [])
      ((before ++ next ∷ []) ++ line ∷ []) rest_of (λ s. push_swap s before line next n)
      (subst (λ (d : Records N). StandAfter naming d ((before ++ line ∷ []) ++ next ∷ []) rest_of)
      (records_swap line.place next.place records own_line own_next line.session next.session
      line.command
      next.command z)
      there.1) in
      let both =
      subst
      (λ (own : List (PlacedLine N)). Stands naming line.place records_next own line.session
      line.command
      line.reply
      × StandAfter naming
      (records_by naming line.place records_next own line.session line.command)
      ((before ++ next ∷ []) ++ line ∷ []) rest_of)
      (sym (push_other line.session before next (λ q. n (sym q)))) (back, tail) in
      subst (λ (others : List (PlacedLine N)). StandAfter naming records before (next ∷ others))
      (sym (cond_other line.session next.session lines (line ∷ rest_of) n)) (first, both))

  -- if the lines of one joint order are valid, those of each are
  pub one_for_all : (counts : Option N → ℕ) (records : Records N) (before : List (PlacedLine N))
      (lists : ℕ → List (PlacedLine N)) (lines others : List (PlacedLine N))
      → IsJoint tickets counts lists lines → IsJoint tickets counts lists others
      → StandAfter naming records before lines
      → StandAfter naming records before others
  one_for_all counts records before lists lines [] x y h = tt
  one_for_all counts records before lists lines (other ∷ others) x y h =
      let may = first_may tickets counts lists other others y in
      let k = takes_first tickets counts lists other others y in
      let all =
      moved_first counts records before other (part_of other.session others) lines x.come
      (x.parts other.session ∙ k.here)
      may.comes (λ u e i. may.free u e (subst (In e) (x.parts u) i)) h in (
        all.0,
        one_for_all (after tickets counts other)
            (records_by naming other.place records (part_of other.session before) other.session
            other.command)
            (before ++ other ∷ []) (λ u. part_of u others) (without tickets other.session lines)
            others
            (exchange tickets counts lists (λ u. part_of u others) other lines x may k)
            (rest_joint tickets counts lists (λ u. part_of u others) other others y k) all.1,
      )
