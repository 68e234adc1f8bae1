-- Numbers in the order of their names: commands and replies are the same, whichever such order is
-- used.
use Rattle.std.proofs.Common.{◌≡◌, ℕ, ◌<◌, Bool, List, [], ◌∷◌, Option, Some, None, refl, sym, ◌∙◌, subst, get_or, length, arith}
use Rattle.std.specs.Prelude.{MatchOption}
use Rattle.std.specs.declared.cmp.Ordering.{Ordering}
use Rattle.std.proofs.lemmas.Bool.Decides.{Decides-eqb}
use Rattle.std.proofs.lemmas.List.Elements.{All-from_recursion, All-contains, Contains-get_or}
use Rattle.redodb_model.specs.Names.{Text, IsListed, numbers, text_at, by_text}
use Rattle.redodb_model.specs.Support.Names.{IsNaming}
use Rattle.redodb_model.specs.State.{Records}
use Rattle.redodb_model.specs.Command.{Command, File, IfChange, Ood, Targets, Sources}
use Rattle.redodb_model.specs.Reply.{Reply, Refusal, Refused}
use Rattle.redodb_model.specs.Step.{Replies, Tells, verdict_of, records_after, stale_reply}
use Rattle.redodb_model.specs.Renaming.{IsReplyBelow, AllBelow}
use Rattle.redodb_model.proofs.Texts.{texts_are_names}

-- numbers by their texts are distinguished and ordered strictly
pub by_text_is_naming : (names : List Text) → IsNaming (by_text names)
by_text_is_naming names = record {
  decides = Decides-eqb;
  irreflexive = λ n. texts_are_names.irreflexive (text_at names n);
  transitive =
      λ l m n. texts_are_names.transitive (text_at names l) (text_at names m) (text_at names n);
}

module _ (one two : ℕ → ℕ → Ordering) where
  -- only the lists of replies depend on the order
  pub same_verdict : (r : Records ℕ) (s : ℕ) (holds : Bool) (x : Command ℕ)
      → verdict_of (numbers one) r s holds x ≡ verdict_of (numbers two) r s holds x
  same_verdict r s holds (File n stamp) = refl
  same_verdict r s holds x = refl

  pub same_records : (r : Records ℕ) (s : ℕ) (holds : Bool) (x : Command ℕ)
      → records_after (numbers one) r s holds x ≡ records_after (numbers two) r s holds x
  same_records r s holds (File n stamp) = refl
  same_records r s holds x = refl

  module _ (n : ℕ) (alike : (k m : ℕ) → k < n → m < n → one k m ≡ two k m) where
    at_place : (ns : List ℕ) (i d : ℕ) → AllBelow n ns → i < length ns → get_or ns i d < n
    at_place ns i d below l =
        All-contains (λ k. k < n) ns (get_or ns i d) (All-from_recursion (λ k. k < n) ns below)
        (Contains-get_or ns i d l)

    listed_too : (P : ℕ → Type 0) (ns : List ℕ) → AllBelow n ns → IsListed (numbers one) P ns
        → IsListed (numbers two) P ns
    listed_too P ns below h = (
      λ i j d before l. sym
          (alike (get_or ns i d) (get_or ns j d) (at_place ns i d below (omega arith))
          (at_place ns j d below l))
          ∙ h.0 i j d before l,
      h.1,
    )

    -- a reply whose list is below n
    stale_below : (names : List ℕ) → IsReplyBelow n (stale_reply names) → AllBelow n names
    stale_below [] h = tt
    stale_below (m ∷ ms) h = h

    tells_too : (r : Records ℕ) (x : Command ℕ) (reply : Reply ℕ) → IsReplyBelow n reply
        → Tells (numbers one) r x reply → Tells (numbers two) r x reply
    tells_too r (IfChange t ns) reply below (names, listed, is) =
        (names, listed_too _ names (stale_below names (subst (IsReplyBelow n) is below)) listed, is)
    tells_too r Ood reply below (names, listed, is) =
        (names, listed_too _ names (subst (IsReplyBelow n) is below) listed, is)
    tells_too r Targets reply below (names, listed, is) =
        (names, listed_too _ names (subst (IsReplyBelow n) is below) listed, is)
    tells_too r Sources reply below (names, listed, is) =
        (names, listed_too _ names (subst (IsReplyBelow n) is below) listed, is)
    tells_too r x reply below h = h

    match_too : (v : Option (Refusal ℕ)) (r : Records ℕ) (x : Command ℕ) (reply : Reply ℕ)
        → IsReplyBelow n reply
        → MatchOption v (Tells (numbers one) r x reply) (λ f. reply ≡ Refused f)
        → MatchOption v (Tells (numbers two) r x reply) (λ f. reply ≡ Refused f)
    match_too None r x reply below h = tells_too r x reply below h
    match_too (Some f) r x reply below h = h

    pub replies_too : (r : Records ℕ) (s : ℕ) (holds : Bool) (x : Command ℕ) (reply : Reply ℕ)
        → IsReplyBelow n reply → Replies (numbers one) r s holds x reply
        → Replies (numbers two) r s holds x reply
    replies_too r s holds x reply below h =
        match_too (verdict_of (numbers two) r s holds x) r x reply below
        (subst (λ v. MatchOption v (Tells (numbers one) r x reply) (λ f. reply ≡ Refused f))
        (same_verdict r s holds x) h)
