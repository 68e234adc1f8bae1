-- The database's replies: their words have the form of a reply's, and their names are known.
use Rattle.std.proofs.Common.{◌≡◌, ℕ, ◌+◌, ◌≤◌, Bool, true, false, not, cond, List, [], ◌∷◌, Option, Some, None, IsSome, refl, sym, subst, arith}
use Rattle.std.specs.Prelude.{MatchOption, find, ⊤}
use Rattle.redodb_model.specs.Names.{Text, texts, IsListed}
use Rattle.redodb_model.specs.State.{State, Records, has_file, target_state, is_building}
use Rattle.redodb_model.specs.Command.{Command, Lock, Unlock, Start, IfChange, IfCreate, Always, Stamp, Done, Failed, Ood, Targets, Sources, names_in, asked_lock}
use Rattle.redodb_model.specs.Reply.{Refusal, NotLocked, Building, NotBuilding, Itself, Exists, Reply, Okay, Refused}
use Rattle.redodb_model.specs.Step.{Tells, Replies, Answers, verdict_of, refusal_or, refusal_of_existing, stale_reply, lock_reply, holds_target, is_among, is_built_by}
use Rattle.redodb_text.specs.Replies.{HasReplyForm, AreAllNames, names_in_reply}
use Rattle.redodb_history.proofs.KnownNames.{IsKnown, AreKnown, known_are_names, all_members, member_of_all}
use Rattle.redodb_history.proofs.KnownFiles.{AreFilesKnown}
use Rattle.redodb_history.proofs.Grants.{AreFewGrants}
use Rattle.redodb_history.proofs.Digests.{sha1_is_digest}

-- the reply has its form, and its names are among these
abbrev pub IsFitting : List Text → Reply Text → Type 0
IsFitting names reply = HasReplyForm reply × AreKnown names (names_in_reply reply)

abbrev RefusalFits : List Text → Option (Refusal Text) → Type 0
RefusalFits names None = ⊤
RefusalFits names (Some refusal) = IsFitting names (Refused refusal)

or_fits : (names : List Text) (test : Bool) (refusal : Refusal Text) (rest : Option (Refusal Text))
    → IsFitting names (Refused refusal) → RefusalFits names rest
    → RefusalFits names (refusal_or test refusal rest)
or_fits names true refusal rest here later = here
or_fits names false refusal rest here later = later

module _ (names : List Text) (each : AreAllNames names) where
  exists_fits : (n : Text) → IsKnown names n → IsFitting names (Refused (Exists n))
  exists_fits n known = ((known_are_names names (n ∷ []) each (known, tt)).0, (known, tt))

  found_fits : (p : Text → Bool) (ns : List Text) → AreKnown names ns
      → RefusalFits names (refusal_of_existing (find p ns))
  found_fits p [] known = tt
  found_fits p (n ∷ ns) known = here_or_later (p n) (find p ns) n known.0 (found_fits p ns known.1)
    where
      here_or_later : (b : Bool) (rest : Option Text) (m : Text) → IsKnown names m
          → RefusalFits names (refusal_of_existing rest)
          → RefusalFits names (refusal_of_existing (cond b (Some m) rest))
      here_or_later true rest m here later = exists_fits m here
      here_or_later false rest m here later = later

  unlocked_fits : (free building : Bool)
      → RefusalFits names (refusal_or free NotLocked (refusal_or building Building None))
  unlocked_fits free building = or_fits names free NotLocked (refusal_or building Building None)
      (tt, tt) (or_fits names building Building None (tt, tt) tt)

  unbuilt_fits : (test : Bool) (rest : Option (Refusal Text)) → RefusalFits names rest
      → RefusalFits names (refusal_or test NotBuilding rest)
  unbuilt_fits test rest later = or_fits names test NotBuilding rest (tt, tt) later

  verdict_fits : (r : Records Text) (s : ℕ) (holds : Bool) (command : Command Text)
      → AreKnown names (names_in command) → RefusalFits names (verdict_of texts r s holds command)
  verdict_fits r s holds (Unlock t) known =
      unlocked_fits (not holds) (is_building (target_state r t))
  verdict_fits r s holds (Start t) known =
      unlocked_fits (not holds) (is_building (target_state r t))
  verdict_fits r s holds (IfChange t ns) known =
      unbuilt_fits (not (is_built_by s (target_state r t)))
      (refusal_or (is_among texts ns t) Itself None)
      (or_fits names (is_among texts ns t) Itself None (tt, tt) tt)
  verdict_fits r s holds (IfCreate t ns) known =
      let rest = refusal_of_existing (find (has_file r) ns) in
      unbuilt_fits (not (is_built_by s (target_state r t)))
      (refusal_or (is_among texts ns t) Itself rest)
      (or_fits names (is_among texts ns t) Itself rest (tt, tt)
      (found_fits (has_file r) ns known.1))
  verdict_fits r s holds (Always t) known =
      unbuilt_fits (not (is_built_by s (target_state r t))) None tt
  verdict_fits r s holds (Stamp t content) known =
      unbuilt_fits (not (is_built_by s (target_state r t))) None tt
  verdict_fits r s holds (Done t stamp) known =
      unbuilt_fits (not (is_built_by s (target_state r t))) None tt
  verdict_fits r s holds (Failed t) known =
      unbuilt_fits (not (is_built_by s (target_state r t))) None tt
  verdict_fits r s holds command known = tt

  okay_fits : (reply : Reply Text) → reply ≡ Okay → IsFitting names reply
  okay_fits reply e = subst (IsFitting names) (sym e) (tt, tt)

  stale_fits : (ns : List Text) → AreKnown names ns → IsFitting names (stale_reply ns)
  stale_fits [] known = (tt, tt)
  stale_fits (n ∷ ns) known = ((λ e. cc, known_are_names names (n ∷ ns) each known), known)

  -- each of the listed names is known if each with the property is
  listed_known : {P : Text → Type 0} (ns : List Text) → IsListed texts P ns
      → ((n : Text) → P n → IsKnown names n) → AreKnown names ns
  listed_known ns listed of = all_members (IsKnown names) ns (λ n h. of n ((listed.1 n).0 h))

  told_fits : (r : Records Text) (command : Command Text) (reply : Reply Text)
      → AreFilesKnown names r → AreKnown names (names_in command) → Tells texts r command reply
      → IsFitting names reply
  told_fits r (Lock t) reply files known e = absurd e
  told_fits r (IfChange t ns) reply files known (stale, listed, e) =
      subst (IsFitting names) (sym e)
      (stale_fits stale (listed_known stale listed
      (λ n h. member_of_all (IsKnown names) ns n known.1 h.0)))
  told_fits r (Stamp t content) reply files known e =
      subst (IsFitting names) (sym e) (sha1_is_digest content, tt)
  told_fits r Ood reply files known (ns, listed, e) =
      let are = listed_known ns listed (λ n h. files n h.0) in
      subst (IsFitting names) (sym e) (known_are_names names ns each are, are)
  told_fits r Targets reply files known (ns, listed, e) =
      let are = listed_known ns listed (λ n h. files n h.0) in
      subst (IsFitting names) (sym e) (known_are_names names ns each are, are)
  told_fits r Sources reply files known (ns, listed, e) =
      let are = listed_known ns listed (λ n h. files n h.1) in
      subst (IsFitting names) (sym e) (known_are_names names ns each are, are)
  told_fits r command reply files known e = okay_fits reply e

  by_verdict : (verdict : Option (Refusal Text)) (r : Records Text) (command : Command Text)
      (reply : Reply Text) → AreFilesKnown names r → AreKnown names (names_in command)
      → RefusalFits names verdict
      → MatchOption verdict (Tells texts r command reply) (λ refusal. reply ≡ Refused refusal)
      → IsFitting names reply
  by_verdict None r command reply files known fits told = told_fits r command reply files known told
  by_verdict (Some refusal) r command reply files known fits told =
      subst (IsFitting names) (sym told) fits

  lock_fits : (holder : Option ℕ) (grants count : ℕ) → grants ≤ count → count + 1 ≤ 4294967295
      → (IsSome holder → 1 ≤ grants) → IsFitting names (lock_reply holder grants)
  lock_fits None grants count few room held = ((omega arith, omega arith), tt)
  lock_fits (Some s) grants count few room held = ((held refl, omega arith), tt)

  by_lock : (asked : Option Text) (st : State Text) (s count : ℕ) (command : Command Text)
      (reply : Reply Text) → AreFilesKnown names st.records → AreFewGrants count st.locks
      → count + 1 ≤ 4294967295 → AreKnown names (names_in command)
      → MatchOption asked (Replies texts st.records s (holds_target st.locks s command) command
      reply) (λ t. reply ≡ lock_reply (st.locks.holder t) (st.locks.grants t))
      → IsFitting names reply
  by_lock None st s count command reply files grants room known told =
      let holds = holds_target st.locks s command in
      by_verdict (verdict_of texts st.records s holds command) st.records command reply files known
      (verdict_fits st.records s holds command known) told
  by_lock (Some t) st s count command reply files grants room known told =
      subst (IsFitting names) (sym told) (lock_fits (st.locks.holder t) (st.locks.grants t) count
      (grants.few t) room (grants.held t))

  -- the database's reply to a command whose names are known, if each name with a file is, and locks
  -- were granted so often
  pub reply_fits : (st : State Text) (s count : ℕ) (command : Command Text) (reply : Reply Text)
      → AreFilesKnown names st.records → AreFewGrants count st.locks → count + 1 ≤ 4294967295
      → AreKnown names (names_in command)
      → Answers texts st s command reply → IsFitting names reply
  reply_fits st s count command reply files grants room known told =
      by_lock (asked_lock command) st s count command reply files grants room known told
