-- An answer over numbers is the answer over their names.
use Rattle.std.proofs.Common.{◌≡◌, ◌↔◌, ℕ, ◌<◌, Bool, false, List, [], ◌∷◌, Option, Some, None, is_some, refl, sym, ap, ◌∙◌, subst, inl, inr, map, option_map, MatchOption}
use Rattle.std.proofs.lemmas.Bool.{cases_lt, false≢true}
use Rattle.std.specs.List.{Contains}
use Rattle.std.specs.declared.cmp.Ordering.{Ordering}
use Rattle.sha1.specs.Sha1.{sha1}
use Rattle.redodb_model.specs.Names.{Naming, numbers}
use Rattle.redodb_model.specs.Support.Names.{IsNaming}
use Rattle.redodb_model.specs.State.{State, Records, Cell, idle}
use Rattle.redodb_model.specs.Command.{Command, Lock, IfChange, Stamp, Ood, Targets, Sources}
use Rattle.redodb_model.specs.Reply.{Refusal, Reply, Okay, Stamped, Refused}
use Rattle.redodb_model.specs.Reply as replies
use Rattle.redodb_model.specs.OutOfDate.{IsTarget, HasFile, OutOfDate, IsStale, IsSource}
use Rattle.redodb_model.specs.Step.{verdict_of, Tells, Replies, Answers, stale_reply, holds_target, lock_reply}
use Rattle.redodb_model.specs.Renaming.{named_command, named_refusal, named_reply, IsBelow, AllBelow, IsReplyBelow}
use Rattle.redodb_model.specs.Support.Renaming.{Renaming, IsRenaming, named_state, named_records, named_locks, IsWithin, OrdersAlike}
use Rattle.redodb_model.proofs.Listing.{below_in}
use Rattle.redodb_model.proofs.Members.{contains_map, contains_from_map}
use Rattle.redodb_model.proofs.RecordsByName.{value_at_name, number_where, row_where, file_at_name, state_at_name, change_at_names, created_at_names, target_to_name, target_from_name, out_to_name, out_from_name}
use Rattle.redodb_model.proofs.VerdictsByName.{verdict_by_name, holds_by_name, RefusesBelow, verdict_below}
use Rattle.redodb_model.proofs.RepliesByName.{Carries, number_of, one_number, same_reply, listing}

stale_by_name : {N M : Type 0} (name : N → M) (ns : List N)
    → named_reply name (stale_reply ns) ≡ stale_reply (map name ns)
stale_by_name name [] = refl
stale_by_name name (n ∷ ns) = refl

lock_by_name : {N M : Type 0} (name : N → M) (o : Option ℕ) (grants : ℕ)
    → named_reply name (lock_reply o grants) ≡ lock_reply o grants
lock_by_name name None grants = refl
lock_by_name name (Some holder) grants = refl

lock_below : (n : ℕ) (o : Option ℕ) (grants : ℕ) → IsReplyBelow n (lock_reply o grants)
lock_below n None grants = tt
lock_below n (Some holder) grants = tt

module _ {M : Type 0} {to : Renaming M} (law : IsRenaming to) where
  module _ (r : Records ℕ) (within : IsWithin to.count r) where
    file_below : (k : ℕ) → HasFile r k → k < to.count
    file_below k h = elim (cases_lt k to.count) [
      | inl l ↦ l
      | inr past ↦
          absurd (false≢true (sym (ap (λ (c : Cell). is_some c.file) (within.cells k past)) ∙ h))
    ]

    file_numbered : (t : M) → HasFile (named_records to r) t → (k : ℕ) × (to.number t ≡ Some k)
    file_numbered t h =
        let (k, e, f) = number_where to.number (λ (c : Cell). is_some c.file) idle r.cell t
        (to.number t) refl refl h in
        (k, e)

    stale_forth : (k : ℕ) → k < to.count → IsStale r k → IsStale (named_records to r) (to.name k)
    stale_forth k below (inl h) = inl (out_to_name law r within k below h)
    stale_forth k below (inr h) =
        inr (state_at_name law r k below ∙ h.0, file_at_name law r k below ∙ h.1)

    stale_back : (k : ℕ) → k < to.count → IsStale (named_records to r) (to.name k) → IsStale r k
    stale_back k below (inl h) = inl (out_from_name law r within k below h)
    stale_back k below (inr h) =
        inr (sym (state_at_name law r k below) ∙ h.0, sym (file_at_name law r k below) ∙ h.1)

    source_forth : (k : ℕ) → k < to.count → IsSource r k → IsSource (named_records to r) (to.name k)
    source_forth k below (is_idle, file, (t, inl has)) =
        let both = within.changes t k has in (
          state_at_name law r k below ∙ is_idle,
          file_at_name law r k below ∙ file,
          (to.name t, inl (ap is_some (change_at_names law r t k both.0 both.1) ∙ has)),
        )
    source_forth k below (is_idle, file, (t, inr has)) =
        let both = within.createds t k has in (
          state_at_name law r k below ∙ is_idle,
          file_at_name law r k below ∙ file,
          (to.name t, inr (created_at_names law r t k both.0 both.1 ∙ has)),
        )

    source_back : (k : ℕ) → k < to.count → IsSource (named_records to r) (to.name k) → IsSource r k
    source_back k below (is_idle, file, (t, inl has)) =
        let (j, h) =
        row_where to.number is_some None r.rows.change (to.name k) (to.number t) refl has in (
          sym (state_at_name law r k below) ∙ is_idle,
          sym (file_at_name law r k below) ∙ file,
          (j, inl (sym (ap is_some (value_at_name law None (r.rows.change j) k below)) ∙ h)),
        )
    source_back k below (is_idle, file, (t, inr has)) =
        let (j, h) =
        row_where to.number (λ b. b) false r.rows.created (to.name k) (to.number t) refl has in (
          sym (state_at_name law r k below) ∙ is_idle,
          sym (file_at_name law r k below) ∙ file,
          (j, inr (sym (value_at_name law false (r.rows.created j) k below) ∙ h)),
        )

    stale_carries : (ns : List ℕ) → AllBelow to.count ns → Carries to (λ n. Contains ns n
        × IsStale r n) (λ t. Contains (map to.name ns) t × IsStale (named_records to r) t)
    stale_carries ns below = record {
      numbered = λ t q. let (k, in_k, e) = contains_from_map to.name ns t q.0 in
          (k, ap to.number (sym e) ∙ law.back k (below_in to.count ns k below in_k));
      below = λ k p. below_in to.count ns k below p.0;
      forth = λ k b p. (contains_map to.name ns k p.0, stale_forth k b p.1);
      back = λ k b q.
          let (j, in_j, e) = contains_from_map to.name ns (to.name k) q.0 in (
            subst (Contains ns) (one_number law j k (below_in to.count ns j below in_j) b e) in_j,
            stale_back k b q.1,
          );
    }

    ood_carries : Carries to (λ t. HasFile r t × OutOfDate r t) (λ t. HasFile (named_records to r) t
        × OutOfDate (named_records to r) t)
    ood_carries = record {
      numbered = λ t q. file_numbered t q.0;
      below = λ k p. file_below k p.0;
      forth = λ k b p. (file_at_name law r k b ∙ p.0, out_to_name law r within k b p.1);
      back = λ k b q. (sym (file_at_name law r k b) ∙ q.0, out_from_name law r within k b q.1);
    }

    targets_carry : Carries to (λ t. HasFile r t
        × IsTarget r t) (λ t. HasFile (named_records to r) t × IsTarget (named_records to r) t)
    targets_carry = record {
      numbered = λ t q. file_numbered t q.0;
      below = λ k p. file_below k p.0;
      forth = λ k b p. (file_at_name law r k b ∙ p.0, target_to_name law r k b p.1);
      back = λ k b q. (sym (file_at_name law r k b) ∙ q.0, target_from_name law r k b q.1);
    }

    sources_carry : Carries to (IsSource r) (IsSource (named_records to r))
    sources_carry = record {
      numbered = λ t q. file_numbered t q.1;
      below = λ k p. file_below k p.1;
      forth = source_forth;
      back = source_back;
    }

    module _ (naming : Naming M) (good : IsNaming naming) (order : ℕ → ℕ → Ordering)
        (orders : OrdersAlike to naming order) where
      tells_by_name : (command : Command ℕ) (reply : Reply ℕ) → IsBelow to.count command
          → IsReplyBelow to.count reply → Tells (numbers order) r command reply ↔ Tells naming
          (named_records to r) (named_command to.name command) (named_reply to.name reply)
      tells_by_name (Lock t) reply below reply_below = (λ h. h, λ h. h)
      tells_by_name (IfChange t ns) reply below reply_below =
          listing law naming order orders stale_reply stale_reply (stale_by_name to.name)
          (stale_by_name (number_of to)) (stale_carries ns below.1) reply reply_below
      tells_by_name (Stamp t content) reply below reply_below =
          same_reply law reply (Stamped (sha1 content)) reply_below tt
      tells_by_name Ood reply below reply_below =
          listing law naming order orders replies.Ood replies.Ood (λ ks. refl)
          (λ ts. refl) ood_carries reply reply_below
      tells_by_name Targets reply below reply_below =
          listing law naming order orders replies.Targets replies.Targets (λ ks. refl)
          (λ ts. refl) targets_carry reply reply_below
      tells_by_name Sources reply below reply_below =
          listing law naming order orders replies.Sources replies.Sources (λ ks. refl)
          (λ ts. refl) sources_carry reply reply_below
      tells_by_name command reply below reply_below = same_reply law reply Okay reply_below tt

      by_verdict : (v : Option (Refusal ℕ)) (command : Command ℕ) (reply : Reply ℕ)
          → IsBelow to.count command → IsReplyBelow to.count reply → RefusesBelow to.count v →
          MatchOption v (Tells (numbers order) r command reply) (λ refusal. reply ≡ Refused refusal)
          ↔ MatchOption (option_map (named_refusal to.name) v) (Tells naming (named_records to r)
          (named_command to.name command) (named_reply to.name reply))
          (λ refusal. named_reply to.name reply ≡ Refused refusal)
      by_verdict None command reply below reply_below refuses =
          tells_by_name command reply below reply_below
      by_verdict (Some refusal) command reply below reply_below refuses =
          same_reply law reply (Refused refusal) reply_below refuses

      replies_by_name : (s : ℕ) (h : Bool) (command : Command ℕ) (reply : Reply ℕ)
          → IsBelow to.count command → IsReplyBelow to.count reply
          → Replies (numbers order) r s h command reply ↔ Replies naming (named_records to r) s h
          (named_command to.name command) (named_reply to.name reply)
      replies_by_name s h command reply below reply_below =
          subst (λ v. Replies (numbers order) r s h command reply
          ↔ MatchOption v (Tells naming (named_records to r) (named_command to.name command)
          (named_reply to.name reply)) (λ refusal. named_reply to.name reply ≡ Refused refusal))
          (sym (verdict_by_name law naming good order r s h command below))
          (by_verdict (verdict_of (numbers order) r s h command) command reply below reply_below
          (verdict_below to.count order r s h command below))

  module _ (naming : Naming M) (good : IsNaming naming) (order : ℕ → ℕ → Ordering)
      (orders : OrdersAlike to naming order) (st : State ℕ)
      (within : IsWithin to.count st.records) where
    but_lock : (s : ℕ) (command : Command ℕ) (reply : Reply ℕ) → IsBelow to.count command
        → IsReplyBelow to.count reply →
        Replies (numbers order) st.records s (holds_target st.locks s command) command reply
        ↔ Replies naming (named_records to st.records) s (holds_target (named_locks to st.locks) s
        (named_command to.name command)) (named_command to.name command) (named_reply to.name reply)
    but_lock s command reply below reply_below =
        subst (λ h. Replies (numbers order) st.records s (holds_target st.locks s command) command
        reply ↔ Replies naming (named_records to st.records) s h (named_command to.name command)
        (named_reply to.name reply))
        (sym (holds_by_name law st.locks s command below))
        (replies_by_name st.records within naming good order orders s
        (holds_target st.locks s command) command reply below reply_below)

    at_lock : (t : ℕ) (reply : Reply ℕ) → t < to.count → IsReplyBelow to.count reply →
        (reply ≡ lock_reply (st.locks.holder t) (st.locks.grants t))
        ↔ (named_reply to.name reply ≡ lock_reply ((named_locks to st.locks).holder (to.name t))
        ((named_locks to st.locks).grants (to.name t)))
    at_lock t reply below reply_below =
        let e = lock_by_name to.name (st.locks.holder t) (st.locks.grants t)
        ∙ ap (λ o. lock_reply o (st.locks.grants t))
        (sym (value_at_name law None st.locks.holder t below))
        ∙ ap (lock_reply ((named_locks to st.locks).holder (to.name t)))
        (sym (value_at_name law 0 st.locks.grants t below)) in
        let same =
        same_reply law reply (lock_reply (st.locks.holder t) (st.locks.grants t)) reply_below
        (lock_below to.count (st.locks.holder t) (st.locks.grants t)) in
        (λ h. same.0 h ∙ e, λ h. same.1 (h ∙ sym e))

    pub answers_by_name : (s : ℕ) (command : Command ℕ) (reply : Reply ℕ) → IsBelow to.count command
        → IsReplyBelow to.count reply → Answers (numbers order) st s command reply ↔ Answers naming
        (named_state to st) s (named_command to.name command) (named_reply to.name reply)
    answers_by_name s (Lock t) reply below reply_below = at_lock t reply below.0 reply_below
    answers_by_name s command reply below reply_below = but_lock s command reply below reply_below
