-- A history over a few names is legal if tests find its lists right.
use Rattle.std.proofs.Common.{◌≡◌, ◌≢◌, ◌⊎◌, ◌↔◌, ℕ, zero, suc, ◌<◌, Bool, true, not, ◌||◌, List, [], ◌∷◌, length, map, Option, Some, None, is_some, refl, sym, ap, subst, inl, inr}
use Rattle.std.specs.Prelude.{bytes_eq, Contains, IsTrue, IsSome, IsNone, MatchOption}
use Rattle.std.specs.List.{AllByRecursion, IsDistinct, position_or_len}
use Rattle.std.proofs.lemmas.Bool.{cases_lt}
use Rattle.sha1.specs.Sha1.{sha1}
use Rattle.redodb_model.specs.Names.{Text, Naming, IsListed, texts, by_text, text_at}
use Rattle.redodb_model.specs.State.{Records, State, Cell, Mark, TargetState, Idle, Building, Built, Failed, empty, has_file, target_state, mark_of}
use Rattle.redodb_model.specs.Command.{Command, IfChange, Stamp, Ood, Targets, Sources, asked_lock}
use Rattle.redodb_model.specs.Reply.{Refusal, Reply, Stale, Stamped, Refused}
use Rattle.redodb_model.specs.Reply as replies
use Rattle.redodb_model.specs.OutOfDate.{HasFile, HasReason, ReasonIn, HasCreatedRow, Depends, Chain, OutOfDate, IsTarget, IsStale, IsSource, HasRow}
use Rattle.redodb_model.specs.Step.{Tells, Replies, Answers, after, verdict_of, holds_target, lock_reply, stale_reply, unless_refused, with_cell}
use Rattle.redodb_model.specs.History.{Line, Legal, LegalFrom}
use Rattle.redodb_model.specs.Renaming.{named_line, IsBelow, IsLineBelow}
use Rattle.redodb_model.specs.Support.Renaming.{IsWithin}
use Rattle.redodb_model.proofs.HistoriesByName.{legal_by_name}
use Rattle.redodb_model.proofs.Listing.{below_in}
use Rattle.redodb_model.proofs.Naming.{numbering_is_renaming}
use Rattle.redodb_model.proofs.Region.{out_of_date_by_step}
use Rattle.redodb_model.proofs.Texts.{texts_are_names}
use Rattle.redodb_model.proofs.Within.{within_after, within_empty}
use Rattle.redodb_history_laws.proofs.Tests.{Test, sure, never, holds, fails, like, no, both, either, some, same_stamp, idle, other, among, every_below, every_is, implied, is_listed, listed}

module _ (count : ℕ) (r : Records ℕ) where
  abbrev reason : (state : TargetState) (t : ℕ) → Test (IsWithin count r) (ReasonIn state r t)
  reason Idle t = never (λ h. h)
  reason (Building s) t = sure tt
  reason Failed t = sure tt
  reason Built t =
      either (no (same_stamp (r.cell t).file (r.cell t).done))
      (either (holds (r.rows.always t))
      (either
      (like
      (some count (λ n. HasCreatedRow r t n × HasFile r n)
      (λ n. both (holds (r.rows.created t n)) (holds (has_file r n)))
      (λ within n h. (within.createds t n h.0).1))
      (λ w. (w.0, w.1.0, w.1.1)) (λ w. (w.0, (w.1, w.2))))
      (like
      (some count (λ n. (mark : Mark) × (r.rows.change t n ≡ Some mark) × (mark ≢ mark_of r n))
      (λ n. other (r.rows.change t n) (mark_of r n))
      (λ within n h. (within.changes t n (subst IsSome (sym h.1) refl)).1))
      (λ w. (w.0, w.1.0, w.1.1, w.1.2)) (λ w. (w.0, (w.1, w.2, w.3))))))

  abbrev target : (t : ℕ) → Test (IsWithin count r) (IsTarget r t)
  target t = no (idle (target_state r t))

  -- a chain of at most so many steps leads from t to a target with a reason of its own
  abbrev IsOutBy : ℕ → ℕ → Type 0
  IsOutBy zero t = HasReason r t
  IsOutBy (suc k) t = IsOutBy k t ⊎ ((n : ℕ) × (Depends r t n × IsOutBy k n))

  abbrev out_by : (k t : ℕ) → Test (IsWithin count r) (IsOutBy k t)
  out_by zero t = reason (target_state r t) t
  out_by (suc k) t =
      either (out_by k t)
      (some count (λ n. Depends r t n × IsOutBy k n)
      (λ n. both (both (target t) (holds (is_some (r.rows.change t n)))) (out_by k n))
      (λ within n h. (within.changes t n h.0.1).1))

  -- no target is out of date by a longer chain alone
  abbrev is_closed_at : ℕ → Bool
  is_closed_at t = not (out_by (suc count) t).is || (out_by count t).is

  abbrev is_closed : Bool
  is_closed = every_below is_closed_at count

  abbrev IsStaleBy : List ℕ → ℕ → Type 0
  IsStaleBy ns n =
      Contains ns n × (IsOutBy count n ⊎ ((target_state r n ≡ Idle) × IsNone (r.cell n).file))

  abbrev stale : (ns : List ℕ) (n : ℕ) → Test (IsWithin count r) (IsStaleBy ns n)
  stale ns n =
      both (among ns n)
      (either (out_by count n) (both (idle (target_state r n)) (fails (has_file r n))))

  abbrev out_file : (t : ℕ) → Test (IsWithin count r) (HasFile r t × IsOutBy count t)
  out_file t = both (holds (has_file r t)) (out_by count t)

  abbrev target_file : (t : ℕ) → Test (IsWithin count r) (HasFile r t × IsTarget r t)
  target_file t = both (holds (has_file r t)) (target t)

  abbrev source : (n : ℕ) → Test (IsWithin count r) (IsSource r n)
  source n =
      like
      (both (idle (target_state r n))
      (both (holds (has_file r n))
      (some count (λ t. HasRow r t n)
      (λ t. either (holds (is_some (r.rows.change t n))) (holds (r.rows.created t n)))
      (λ within t row. elim row [
        | inl change ↦ (within.changes t n change).0
        | inr created ↦ (within.createds t n created).0
      ]))))
      (λ w. (w.0, w.1.0, w.1.1)) (λ w. (w.0, (w.1, w.2)))

  is_out : (k t : ℕ) → IsOutBy k t → OutOfDate r t
  is_out zero t reason = ([], reason)
  is_out (suc k) t (inl before) = is_out k t before
  is_out (suc k) t (inr (n, (step, there))) = out_of_date_by_step r t n step (is_out k n there)

  by_reason : (k t : ℕ) → HasReason r t → IsOutBy k t
  by_reason zero t reason = reason
  by_reason (suc k) t reason = inl (by_reason k t reason)

  module _ (within : IsWithin count r) where
    below_target : (t : ℕ) → IsTarget r t → t < count
    below_target t target = elim (cases_lt t count) [
      | inl below ↦ below
      | inr past ↦ absurd (target (ap (λ (c : Cell). c.state) (within.cells t past)))
    ]

    below_file : (n : ℕ) → HasFile r n → n < count
    below_file n file = elim (cases_lt n count) [
      | inl below ↦ below
      | inr past ↦
          absurd (let none = subst (λ (c : Cell). IsSome c.file) (within.cells n past) file in cc)
    ]

    module _ (closed : is_closed ≡ true) where
      along : (ns : List ℕ) (t : ℕ) → Chain (Depends r) (HasReason r) t ns → IsOutBy count t
      along [] t reason = by_reason count t reason
      along (n ∷ ns) t chain =
          let longer : IsOutBy (suc count) t = inr (n, (chain.0, along ns n chain.1)) in
          ((out_by count t).decides within).0
          (implied (out_by (suc count) t).is (out_by count t).is
          (every_is is_closed_at count closed t (below_target t chain.0.0))
          (((out_by (suc count) t).decides within).1 longer))

      out : (t : ℕ) → IsOutBy count t ↔ OutOfDate r t
      out t = (is_out count t, λ o. along o.0 t o.1)

same_listed : (naming : Naming ℕ) (ns : List ℕ) {P Q : ℕ → Type 0} → ((n : ℕ) → P n ↔ Q n)
    → IsListed naming P ns → IsListed naming Q ns
same_listed naming ns same h =
    (h.0, λ n. (λ c. (same n).0 ((h.1 n).0 c), λ q. (h.1 n).1 ((same n).1 q)))

-- the names on the list of a reply
abbrev told : Reply ℕ → List ℕ
told (Stale ns) = ns
told (replies.Ood ns) = ns
told (replies.Targets ns) = ns
told (replies.Sources ns) = ns
told reply = []

if_none : {A : Type 0} (o : Option A) (P Q : Type 0) (R : A → Type 0) → (P → Q) → MatchOption o P R
    → MatchOption o Q R
if_none None P Q R to h = to h
if_none (Some a) P Q R to h = h

-- a history over these names, as one over their numbers
module _ (names : List Text) where
  abbrev pub count : ℕ
  count = length names

  abbrev pub naming : Naming ℕ
  naming = by_text names

  -- `Tells`, if tests find the list of the reply right
  abbrev pub IsTold : Records ℕ → Command ℕ → Reply ℕ → Type 0
  IsTold r (IfChange t ns) reply =
      IsTrue (is_closed count r)
      × IsTrue (is_listed naming.order count (IsStaleBy count r ns) (stale count r ns) (told reply))
      × (reply ≡ stale_reply (told reply))
  IsTold r Ood reply =
      IsTrue (is_closed count r)
      × IsTrue
      (is_listed naming.order count (λ t. HasFile r t × IsOutBy count r count t) (out_file count r)
      (told reply))
      × (reply ≡ replies.Ood (told reply))
  IsTold r Targets reply =
      IsTrue
      (is_listed naming.order count (λ t. HasFile r t × IsTarget r t) (target_file count r)
      (told reply))
      × (reply ≡ replies.Targets (told reply))
  IsTold r Sources reply =
      IsTrue (is_listed naming.order count (IsSource r) (source count r) (told reply))
      × (reply ≡ replies.Sources (told reply))
  IsTold r command reply = Tells naming r command reply

  tells : (r : Records ℕ) → IsWithin count r → (command : Command ℕ) (reply : Reply ℕ)
      → IsBelow count command → IsTold r command reply → Tells naming r command reply
  tells r within (IfChange t ns) reply below h =
      let list =
      listed naming.order count (IsStaleBy count r ns) (stale count r ns) (told reply) within
      (λ n p. below_in count ns n below.1 p.0) h.1 in
      let same : (n : ℕ) → IsStaleBy count r ns n ↔ (Contains ns n × IsStale r n) =
      λ n.
      let o = out count r within h.0 n in (
        λ s. (s.0, elim s.1 [ inl is ↦ inl (o.0 is) | inr lost ↦ inr lost ]),
        λ s. (s.0, elim s.1 [ inl is ↦ inl (o.1 is) | inr lost ↦ inr lost ]),
      ) in
      (told reply, same_listed naming (told reply) same list, h.2)
  tells r within Ood reply below h =
      let list =
      listed naming.order count (λ t. HasFile r t × IsOutBy count r count t) (out_file count r)
      (told reply) within (λ n p. below_file count r within n p.0) h.1 in
      let same : (n : ℕ) → (HasFile r n × IsOutBy count r count n) ↔ (HasFile r n × OutOfDate r n) =
      λ n.
      let o = out count r within h.0 n in
      (λ s. (s.0, o.0 s.1), λ s. (s.0, o.1 s.1)) in
      (told reply, same_listed naming (told reply) same list, h.2)
  tells r within Targets reply below h = (
    told reply,
    listed naming.order count (λ t. HasFile r t × IsTarget r t) (target_file count r) (told reply)
        within (λ n p. below_file count r within n p.0) h.0,
    h.1,
  )
  tells r within Sources reply below h = (
    told reply,
    listed naming.order count (IsSource r) (source count r) (told reply) within
        (λ n p. below_file count r within n p.1) h.0,
    h.1,
  )
  tells r within command reply below h = h

  -- `Answers` by that
  abbrev pub IsAnswered : State ℕ → ℕ → Command ℕ → Reply ℕ → Type 0
  IsAnswered st s command reply =
      MatchOption (asked_lock command)
      (MatchOption (verdict_of naming st.records s (holds_target st.locks s command) command)
      (IsTold st.records command reply) (λ refusal. reply ≡ Refused refusal))
      (λ t. reply ≡ lock_reply (st.locks.holder t) (st.locks.grants t))

  answers : (st : State ℕ) → IsWithin count st.records → (s : ℕ) (command : Command ℕ)
      (reply : Reply ℕ) → IsBelow count command → IsAnswered st s command reply
      → Answers naming st s command reply
  answers st within s command reply below =
      let holds = holds_target st.locks s command in
      let verdict = verdict_of naming st.records s holds command in
      if_none (asked_lock command)
      (MatchOption verdict (IsTold st.records command reply) (λ refusal. reply ≡ Refused refusal))
      (Replies naming st.records s holds command reply)
      (λ t. reply ≡ lock_reply (st.locks.holder t) (st.locks.grants t))
      (if_none verdict (IsTold st.records command reply) (Tells naming st.records command reply)
      (λ refusal. reply ≡ Refused refusal) (tells st.records within command reply below))

  -- the state after a line, with the digest that its reply has, so that no test computes one
  abbrev pub after_line : State ℕ → ℕ → Command ℕ → Reply ℕ → State ℕ
  after_line st s (Stamp t content) (Stamped digest) = record st {
    records = with_cell naming st.records t (record (st.records.cell t) { digest = Some digest });
  }
  after_line st s command reply = after naming st s command

  same_after : (st : State ℕ) (s : ℕ) (command : Command ℕ) (reply : Reply ℕ)
      → Answers naming st s command reply → after naming st s command ≡ after_line st s command reply
  same_after st s (Stamp t content) (Stamped digest) =
      by (verdict_of naming st.records s (holds_target st.locks s (Stamp t content))
      (Stamp t content))
    where
      with_digest : List ℕ → Records ℕ
      with_digest d =
          with_cell naming st.records t (record (st.records.cell t) { digest = Some d })

      by : (v : Option (Refusal ℕ))
          → MatchOption v (◌≡◌ {A = Reply ℕ} (Stamped digest) (Stamped (sha1 content)))
          (λ refusal. Stamped digest ≡ Refused refusal)
          → record st { records = unless_refused v st.records (with_digest (sha1 content)) }
          ≡ record st { records = with_digest digest }
      by None e =
          let same : sha1 content ≡ digest = cc in ap (λ d. record st { records = with_digest d }) same
      by (Some refusal) e = absurd cc
  same_after st s command reply = λ h. refl

  abbrev pub AreAnswered : State ℕ → List (Line ℕ) → Type 0
  AreAnswered st [] = Unit {0}
  AreAnswered st (line ∷ lines) =
      IsAnswered st line.session line.command line.reply
      × AreAnswered (after_line st line.session line.command line.reply) lines

  legal_from : (st : State ℕ) (lines : List (Line ℕ)) → IsWithin count st.records
      → AllByRecursion (IsLineBelow count) lines → AreAnswered st lines
      → LegalFrom naming st lines
  legal_from st [] within below h = tt
  legal_from st (line ∷ lines) within below h =
      let here = answers st within line.session line.command line.reply below.0.0 h.0 in
      let next : State ℕ = after naming st line.session line.command in (
        here,
        legal_from next lines
            (within_after count naming.order st line.session line.command within below.0.0) below.1
            (subst (λ next. AreAnswered next lines)
            (sym (same_after st line.session line.command line.reply here)) h.1),
      )

  abbrev pub numbered : List (Line Text) → List (Line ℕ)
  numbered = map (named_line (λ t. position_or_len (bytes_eq t) names))

  pub legal_by : (lines : List (Line Text)) → IsDistinct bytes_eq names
      → AllByRecursion (IsLineBelow count) (numbered lines)
      → map (named_line (text_at names)) (numbered lines) ≡ lines
      → AreAnswered empty (numbered lines) → Legal texts lines
  legal_by lines distinct below back h =
      subst (Legal texts) back
      ((legal_by_name (numbering_is_renaming names distinct) texts texts_are_names naming.order
      (record { alike = λ k m x y. refl }) (numbered lines) below).0
      (legal_from empty (numbered lines) (within_empty count) below h))
