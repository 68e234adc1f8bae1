-- The answer to a command that was read, over the names of its numbers.
use Rattle.std.proofs.Common.{◌≡◌, ◌≢◌, ℕ, ◌≤◌, List, [], ◌∷◌, refl, length, arith}
use Rattle.std.specs.Cmp.Lexicographic.{nat_list_cmp_total}
use Rattle.std.specs.Cmp.{tied_itself}
use Rattle.std.specs.declared.cmp.Ordering.{Ordering}
use Rattle.std.specs.declared.cmp.Ordering.TheVariants.{Less}
use Rattle.std.proofs.lemmas.Cmp.{nat_cmp_total, on_total}
use Rattle.std.specs.Ordering.{nat_cmp}
use Rattle.redodb_names.specs.Support.Names.{AreNames, Extends}
use Rattle.redodb_model.specs.Names.{Text, texts, numbers, text_at, by_number, by_text}
use Rattle.redodb_model.specs.State.{State}
use Rattle.redodb_model.specs.Command.{Command, names_in}
use Rattle.redodb_model.specs.Reply.{Reply}
use Rattle.redodb_model.specs.Step.{Answers}
use Rattle.redodb_model.specs.Renaming.{AllBelow, IsBelow, IsReplyBelow, named_command, named_reply}
use Rattle.redodb_model.specs.Support.Renaming.{IsRenaming, OrdersAlike, named_state, numbering}
use Rattle.redodb_model.proofs.Texts.{same_texts, texts_are_names}
use Rattle.redodb_model.proofs.Naming.{numbering_is_renaming}
use Rattle.redodb_model.proofs.RepliesByName.{one_number}
use Rattle.redodb_model.proofs.AnswersByName.{answers_by_name}
use Rattle.redodb_database.specs.Tables.{Tables, state_of}
use Rattle.redodb_live.specs.Support.Ordered.{IsSortedReply}
use Rattle.redodb_live.specs.Support.Within.{IsStateWithin}
use Rattle.redodb_live.proofs.Within.{IsReplyBelow-answers}
use Rattle.redodb_live.proofs.MoreNames.{named_state-Extends, IsStateWithin-Extends}
use Rattle.redodb_live.proofs.Reordered.{AreOrders, answers_again}

all_below_more : (a b : ℕ) (ns : List ℕ) → a ≤ b → AllBelow a ns → AllBelow b ns
all_below_more a b [] few below = tt
all_below_more a b (n ∷ ns) few below = (omega (arith, below.0), all_below_more a b ns few below.1)

pub below_more : (a b : ℕ) (command : Command ℕ) → a ≤ b → IsBelow a command → IsBelow b command
below_more a b command few below = all_below_more a b (names_in command) few below

pub number_is_strict : (n : ℕ) → nat_cmp n n ≢ Less
number_is_strict n e = let f = tied_itself nat_cmp_total n in cc

pub renaming : (names : List Text) → AreNames names → IsRenaming (numbering names)
renaming names are = numbering_is_renaming names are.distinct

module _ (names : List Text) (are : AreNames names) where
  pub orders : (order : ℕ → ℕ → Ordering) → ((n : ℕ) → order n n ≢ Less)
      → AreOrders (length names) order (by_text names).order
  orders order strict = record {
    strict = strict;
    total = on_total (text_at names) nat_list_cmp_total;
    apart = λ m n a b e. one_number (renaming names are) m n a b
        (same_texts (text_at names m) (text_at names n) e);
  }

  pub alike : OrdersAlike (numbering names) texts (by_text names).order
  alike = record { alike = λ k m a b. refl }

  module _ (tables : Tables) (within : IsStateWithin (length names) (state_of tables)) (session : ℕ)
      (command : Command ℕ) (below : IsBelow (length names) command) (reply now : Reply ℕ)
      (answers : Answers by_number (state_of tables) session command reply)
      (sorted : IsSortedReply (by_text names).order reply now)
    where
      by_texts : Answers (numbers (by_text names).order) (state_of tables) session command now
      by_texts =
          answers_again (length names) nat_cmp (by_text names).order
          (orders nat_cmp number_is_strict) (state_of tables) session command reply now
          within.records below answers sorted

      pub now_below : IsReplyBelow (length names) now
      now_below =
          IsReplyBelow-answers (length names) (by_text names).order
          (state_of tables) session command
          now within below by_texts

      pub now_answers : Answers texts (named_state (numbering names) (state_of tables)) session
          (named_command (text_at names) command) (named_reply (text_at names) now)
      now_answers =
          (answers_by_name (renaming names are) texts texts_are_names (by_text names).order alike
          (state_of tables) within.records session command now below now_below).0 by_texts

module _ (old new : List Text) (old_are : AreNames old) (new_are : AreNames new)
    (grows : Extends old new) (st : State ℕ) (within : IsStateWithin (length old) st)
  where
    pub state_kept : named_state (numbering new) st ≡ named_state (numbering old) st
    state_kept =
        named_state-Extends old new grows (renaming old old_are) (renaming new new_are) st within

    pub within_kept : IsStateWithin (length new) st
    within_kept =
        IsStateWithin-Extends old new grows (renaming old old_are) (renaming new new_are) st within
