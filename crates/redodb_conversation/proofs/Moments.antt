-- What is true at each moment stays true as more is done, and as more rounds are answered.
use Rattle.std.proofs.Common.{◌≡◌, ◌⊎◌, Bool, true, false, cond, List, [], ◌∷◌, ◌++◌, refl, sym, ap, ◌∙◌, subst, append-nil, append_assoc, inl, inr}
use Rattle.std.proofs.lemmas.List.Concat.{flat_map-append}
use Rattle.redodb_model.specs.Names.{Text, texts}
use Rattle.redodb_model.specs.State.{State, empty}
use Rattle.redodb_model.specs.History.{left_by}
use Rattle.redodb_model.proofs.OneMore.{left_by-append}
use Rattle.redodb_log.specs.Operations.{Operation, Append, Sync, Write, LogFailed, OutputFailed, HasNoFailure, IsPrefix, IsAlways, held_after, is_copy, written_by}
use Rattle.redodb_log.specs.Restores.{IsDamagedAfter}
use Rattle.redodb_conversation.specs.Logs.{HasNoEnd, logged_of}
use Rattle.redodb_keeping.specs.Rounds.{Round, lines_in, output_in}
use Rattle.redodb_conversation.specs.Talks.{Former, AreLines, BeginsBy, HasNoCopy, IsLogAfter, IsSalvaged, history_of, lines_after, output_of, greeting_of, state_after}
use Rattle.redodb_conversation.specs.Support.Moments.{Start, IsSafe}
use Rattle.redodb_keeping.specs.Support.Sending.{after_logging}
use Rattle.redodb_conversation.proofs.RoundByRound.{logged-append}

pub prefix_self : (bytes : Text) → IsPrefix bytes bytes
prefix_self bytes = ([], sym (append-nil bytes))

pub prefix_longer : (prefix bytes more : Text) → IsPrefix prefix bytes
    → IsPrefix prefix (bytes ++ more)
prefix_longer prefix bytes more (rest, e) =
    (rest ++ more, ap (λ t. t ++ more) e ∙ append_assoc prefix rest more)

pub prefix_trans : (a b c : Text) → IsPrefix a b → IsPrefix b c → IsPrefix a c
prefix_trans a b c (rest, e) (more, f) =
    (rest ++ more, f ∙ ap (λ t. t ++ more) e ∙ append_assoc a rest more)

pub prefix_behind : (front prefix bytes : Text) → IsPrefix prefix bytes
    → IsPrefix (front ++ prefix) (front ++ bytes)
prefix_behind front prefix bytes (rest, e) =
    (rest, ap (λ t. front ++ t) e ∙ sym (append_assoc front prefix rest))

pub prefix_of_same : (prefix bytes : Text) → prefix ≡ bytes → IsPrefix prefix bytes
prefix_of_same prefix bytes e = ([], sym e ∙ sym (append-nil prefix))

pub prefix_of_either : (b : Bool) (prefix x y : Text) → IsPrefix prefix x → IsPrefix prefix y
    → IsPrefix prefix (cond b x y)
prefix_of_either true prefix x y p q = p
prefix_of_either false prefix x y p q = q

-- more was done
module _ (bytes : Text) (former : Former) (operation : Operation) (done : List Operation)
    (no_copy : is_copy operation ≡ false) (begins : BeginsBy bytes former done)
  where
    salvaged_more : (later : List Operation)
        → (IsDamagedAfter former.past bytes former.lines × IsSalvaged later)
        ⊎ (¬ (IsDamagedAfter former.past bytes former.lines) × HasNoCopy later)
        → (IsDamagedAfter former.past bytes former.lines × IsSalvaged (operation ∷ later))
        ⊎ (¬ (IsDamagedAfter former.past bytes former.lines) × HasNoCopy (operation ∷ later))
    salvaged_more later (inl (damaged, is)) =
        inl (
          damaged,
          record {
            size = is.size;
            synced = is.synced;
            rest = operation ∷ is.rest;
            are = ap (λ ops. operation ∷ ops) is.are;
            sync = is.sync;
            once = (no_copy, is.once);
          },
        )
    salvaged_more later (inr (whole, none)) = inr (whole, (no_copy, none))

    pub begins_more : BeginsBy bytes former (operation ∷ done)
    begins_more = record {
      later = operation ∷ begins.later;
      begins = ap (λ ops. operation ∷ ops) begins.begins;
      salvaged = salvaged_more begins.later begins.salvaged;
    }

pub begins_after_logging : (bytes : Text) (former : Former) (sync : Bool) (logged : Text)
    (done : List Operation) → BeginsBy bytes former done
    → BeginsBy bytes former (after_logging sync logged done)
begins_after_logging bytes former true logged done begins =
    begins_more bytes former Sync (Append logged ∷ done) refl
    (begins_more bytes former (Append logged) done refl begins)
begins_after_logging bytes former false logged done begins =
    begins_more bytes former (Append logged) done refl begins

-- one more line was read
pub lines_more : (rounds : List Round) (round : Round) → AreLines rounds → HasNoEnd round.received
    → AreLines (rounds ++ round ∷ [])
lines_more [] round are free = (free, tt)
lines_more (first ∷ rounds) round are free = (are.0, lines_more rounds round are.1 free)

-- what is true of each moment
pub always_then : (P Q : List Operation → Type 0) → ((now : List Operation) → P now → Q now)
    → (done : List Operation) → IsAlways P done → IsAlways Q done
always_then P Q f [] is = tt
always_then P Q f (operation ∷ earlier) (parts, rest) =
    (λ part of. f (part ∷ earlier) (parts part of), always_then P Q f earlier rest)

module _ (P : List Operation → Type 0) (done : List Operation) (before : IsAlways P done) where
  pub append_always : (bytes : Text)
      → ((some : Text) → IsPrefix some bytes → P (Append some ∷ done))
      → IsAlways P (Append bytes ∷ done)
  append_always bytes f =
      (λ part of. subst (λ o. P (o ∷ done)) (sym of.2) (f of.0 of.1), before)

  pub write_always : (bytes : Text)
      → ((some : Text) → IsPrefix some bytes → P (Write some ∷ done))
      → IsAlways P (Write bytes ∷ done)
  write_always bytes f =
      (λ part of. subst (λ o. P (o ∷ done)) (sym of.2) (f of.0 of.1), before)

-- what more rounds log
pub logged_more : (state : State Text) (rounds more : List Round)
    → logged_of state (lines_in (rounds ++ more))
    ≡ logged_of state (lines_in rounds)
    ++ logged_of (left_by texts state (lines_in rounds)) (lines_in more)
logged_more state rounds more =
    ap (logged_of state) (flat_map-append (λ r. r.lines) rounds more)
    ∙ logged-append state (lines_in rounds) (lines_in more)

-- the history after more rounds
pub lines_after_more : (former : Former) (rounds more : List Round)
    → lines_after former (rounds ++ more) ≡ lines_after former rounds ++ lines_in more
lines_after_more former rounds more =
    ap (λ ls. history_of former ++ ls) (flat_map-append (λ r. r.lines) rounds more)
    ∙ sym (append_assoc (history_of former) (lines_in rounds) (lines_in more))

-- the state after more rounds
pub state_more : (former : Former) (rounds more : List Round)
    → left_by texts (state_after former rounds) (lines_in more) ≡ state_after former (rounds ++ more)
state_more former rounds more =
    sym (left_by-append texts empty (lines_after former rounds) (lines_in more))
    ∙ ap (left_by texts empty) (sym (lines_after_more former rounds more))

module _ (former : Former) (first : Text) (rounds more : List Round) (log : Text)
    (is : IsLogAfter former first rounds log)
  where
    -- the bytes of the log after more rounds
    pub text_more : log ++ logged_of (state_after former rounds) (lines_in more)
        ≡ is.base ++ logged_of (state_after former is.before) (lines_in (is.since ++ more))
    text_more =
        let begun = state_after former is.before in
        let behind = logged_of (state_after former rounds) (lines_in more) in
        let state_is : left_by texts begun (lines_in is.since) ≡ state_after former rounds =
        state_more former is.before is.since ∙ ap (state_after former) (sym is.parts) in
        ap (λ t. t ++ behind) is.log_is
        ∙ append_assoc is.base (logged_of begun (lines_in is.since)) behind
        ∙ ap (λ st. is.base ++ (logged_of begun (lines_in is.since)
        ++ logged_of st (lines_in more))) (sym state_is)
        ∙ ap (λ t. is.base ++ t) (sym (logged_more begun is.since more))

    -- the log after more rounds
    pub log_more : IsLogAfter former first (rounds ++ more)
        (log ++ logged_of (state_after former rounds) (lines_in more))
    log_more = record {
      before = is.before;
      since = is.since ++ more;
      parts = ap (λ rs. rs ++ more) is.parts ∙ append_assoc is.before is.since more;
      base = is.base;
      is_base = is.is_base;
      log_is = text_more;
    }

-- the log before the first answer
pub log_at_first : (former : Former) (first : Text) → IsLogAfter former first [] first
log_at_first former first = record {
  before = [];
  since = [];
  parts = refl;
  base = first;
  is_base = inl (refl, refl);
  log_is = sym (append-nil first);
}

-- the output after more rounds
pub output_more : (version : Text) (former : Former) (rounds more : List Round)
    → output_of version former (rounds ++ more)
    ≡ output_of version former rounds ++ output_in more
output_more version former rounds more =
    let greeting = greeting_of version former in
    ap (λ t. greeting ++ t) (flat_map-append (λ r. r.output) rounds more)
    ∙ sym (append_assoc greeting (output_in rounds) (output_in more))

-- more rounds are answered
safe_more : (start : Start) (rounds more : List Round) (now : List Operation)
    → IsSafe start rounds now → IsSafe start (rounds ++ more) now
safe_more start rounds more now (inl begun) = inl begun
safe_more start rounds more now (inr is) =
    inr (record {
      answered = is.answered;
      others = is.others ++ more;
      parts = ap (λ rs. rs ++ more) is.parts ∙ append_assoc is.answered is.others more;
      written = is.written;
      log = is.log;
      is_log = is.is_log;
      logged = is.logged;
      nothing_else =
          let state = state_after start.former is.answered in
          let some = logged_of state (lines_in is.others) in
          let behind = logged_of (left_by texts state (lines_in is.others)) (lines_in more) in
          subst (IsPrefix (held_after now).all)
          (append_assoc is.log some behind
          ∙ ap (λ t. is.log ++ t) (sym (logged_more state is.others more)))
          (prefix_longer (held_after now).all (is.log ++ some) behind is.nothing_else);
    })

pub always_more : (start : Start) (rounds more : List Round) (done : List Operation)
    → IsAlways (IsSafe start rounds) done → IsAlways (IsSafe start (rounds ++ more)) done
always_more start rounds more =
    always_then (IsSafe start rounds) (IsSafe start (rounds ++ more))
    (safe_more start rounds more)

-- what is true at a moment is so by what is held and written
safe_as : (start : Start) (rounds : List Round) (done later : List Operation)
    → held_after later ≡ held_after done → written_by later ≡ written_by done
    → IsSafe start rounds done → IsSafe start rounds later
safe_as start rounds done later held written (inl begun) =
    inl (record {
      written = written ∙ begun.written;
      lines = rw held begun.lines;
      nothing_else = rw held begun.nothing_else;
    })
safe_as start rounds done later held written (inr is) =
    inr (record {
      answered = is.answered;
      others = is.others;
      parts = is.parts;
      written = rw written is.written;
      log = is.log;
      is_log = is.is_log;
      logged = rw held is.logged;
      nothing_else = rw held is.nothing_else;
    })

-- a failure changes nothing
pub log_failed_safe : (start : Start) (rounds : List Round) (done : List Operation)
    → IsSafe start rounds done → IsSafe start rounds (LogFailed ∷ done)
log_failed_safe start rounds done = safe_as start rounds done (LogFailed ∷ done) refl refl

pub output_failed_safe : (start : Start) (rounds : List Round) (done : List Operation)
    → IsSafe start rounds done → IsSafe start rounds (OutputFailed ∷ done)
output_failed_safe start rounds done = safe_as start rounds done (OutputFailed ∷ done) refl refl

-- after bytes were appended, and synced or not
module _ (logged : Text) (done : List Operation) where
  pub all_after_logging : (sync : Bool) → (held_after (after_logging sync logged done)).all
      ≡ (held_after done).all ++ logged
  all_after_logging true = refl
  all_after_logging false = refl

  pub kept_after_logging : (sync : Bool)
      → cond sync (held_after (after_logging sync logged done)).synced
      (held_after (after_logging sync logged done)).all ≡ (held_after done).all ++ logged
  kept_after_logging true = refl
  kept_after_logging false = refl

  pub fine_after_logging : HasNoFailure done → (sync : Bool)
      → HasNoFailure (after_logging sync logged done)
  fine_after_logging fine true = (refl, (refl, fine))
  fine_after_logging fine false = (refl, fine)

  pub written_after_logging : (sync : Bool)
      → written_by (after_logging sync logged done) ≡ written_by done
  written_after_logging true = refl
  written_after_logging false = refl

  pub always_after_logging : (P : List Operation → Type 0) (sync : Bool)
      → IsAlways P (Append logged ∷ done) → P (Sync ∷ Append logged ∷ done)
      → IsAlways P (after_logging sync logged done)
  always_after_logging P true always synced =
      (λ part e. subst (λ o. P (o ∷ Append logged ∷ done)) (sym e) synced, always)
  always_after_logging P false always synced = always
