-- A log that was opened: what is kept of it, the ends of the sessions that it left, a dump, and the greeting.
use Rattle.std.proofs.Common.{◌≡◌, ◌≢◌, ◌⊎◌, ℕ, Bool, List, [], ◌++◌, Option, take, refl, sym, ap, ◌∙◌, append-nil, append_assoc, inl, inr}
use Rattle.std.specs.Prelude.{IfSome, None, Some, codes, decimal}
use Rattle.redodb_model.specs.Names.{Text}
use Rattle.redodb_model.specs.History.{Line}
use Rattle.redodb_history.specs.Histories.{ended}
use Rattle.redodb_live.specs.Support.LiveState.{LiveState}
use Rattle.redodb_live.specs.Lines.{lines_text_of}
use Rattle.redodb_log.specs.Logs.{Past, past_lines, head_of, log_header, AreLogged, IsPast}
use Rattle.redodb_log.specs.Operations.{IsPrefix}
use Rattle.redodb_keeping.specs.Rounds.{lines_in}
use Rattle.redodb_keeping.specs.Support.Steps.{known_of, LeadsTo}
use Rattle.redodb_keeping.specs.Support.Opening.{AreKept, IsKeptFrom, EndsAll}
use Rattle.redodb_conversation.specs.Support.Opening.{IsOpenedFrom}
use Rattle.redodb_keeping.specs.declared.restoring.Kept.{Kept}
use Rattle.redodb_conversation.specs.declared.opening.Opened.{Opened}

-- the log gets a header if it has none
abbrev pub IsHeaderIfNone : ℕ → Text → Type 0
IsHeaderIfNone size logged =
    ((size ≡ 0) × (logged ≡ log_header)) ⊎ ((size ≢ 0) × (logged ≡ []))

-- a dump that can take the place of any lines that left this
abbrev pub IsDumpOf : LiveState → Text → Type 0
IsDumpOf live dump =
    (before : List (Line Text)) → AreLogged before → LeadsTo before (known_of live)
    → IsPast (Some before) × (dump ≡ head_of (Some before))

some_then : {T : Type 0} (o : Option T) (P Q : T → Type 0) → ((t : T) → P t → Q t)
    → IfSome o P → IfSome o Q
some_then None P Q f p = tt
some_then (Some t) P Q f p = f t p

-- a log begins with something
begins_so : (past : Past) (more : Text) → [] ≡ head_of past ++ more → ⊥
begins_so None more e = absurd (cc)
begins_so (Some lines) more e = absurd (cc)

module _ (past : Past) (bytes : Text) (size : ℕ) (lines : List (Line Text))
    (are : AreKept past bytes size lines)
  where
    -- what is kept and the header are what the log begins with and the lines
    kept_text : (header : Text) → IsHeaderIfNone size header
        → take size bytes ++ header ≡ head_of past ++ lines_text_of lines
    kept_text header is = by are is
      where
        by : AreKept past bytes size lines → IsHeaderIfNone size header
            → take size bytes ++ header ≡ head_of past ++ lines_text_of lines
        by (inl e) (inl (zero, h)) =
            absurd (begins_so past (lines_text_of lines) (sym (ap (λ n. take n bytes) zero) ∙ e))
        by (inl e) (inr (some, h)) =
            ap (λ (t : Text). take size bytes ++ t) h ∙ append-nil (take size bytes) ∙ e
        by (inr (zero, no_past, none)) (inl (same, h)) =
            ap (λ n. take n bytes ++ header) zero ∙ h
            ∙ (λ i. head_of (sym no_past i) ++ lines_text_of (sym none i))
        by (inr (zero, no_past, none)) (inr (some, h)) = absurd (some zero)

    -- no line of them is lost
    lines_kept : ((past ≡ None) × (lines ≡ []))
        ⊎ IsPrefix (head_of past ++ lines_text_of lines) (take size bytes)
    lines_kept = by are
      where
        by : AreKept past bytes size lines → ((past ≡ None) × (lines ≡ []))
            ⊎ IsPrefix (head_of past ++ lines_text_of lines) (take size bytes)
        by (inl e) = inr ([], e ∙ sym (append-nil (head_of past ++ lines_text_of lines)))
        by (inr (zero, no_past, none)) = inl (no_past, none)

module _ (salvage : Bool) (version : Text) (past : Past) (bytes : Text) (kept : Kept)
    (is : IsKeptFrom salvage past bytes kept) (header : Text)
    (header_is : IsHeaderIfNone kept.restored.bytes header) (opened : Opened)
    (all : EndsAll (past_lines past ++ is.lines) opened.live header opened.logged.items)
  where
    log_is : take kept.restored.bytes bytes ++ opened.logged.items
        ≡ head_of past ++ lines_text_of is.lines ++ lines_text_of (lines_in all.some.ends)
    log_is =
        let first = take kept.restored.bytes bytes in
        let ends = lines_text_of (lines_in all.some.ends) in
        ap (λ (t : Text). first ++ t) all.some.logs ∙ sym (append_assoc first header ends)
        ∙ ap (λ (t : Text). t ++ ends)
        (kept_text past bytes kept.restored.bytes is.lines is.are_kept header header_is)

    pub opened_from : opened.bytes ≡ kept.restored.bytes → opened.rest ≡ kept.rest
        → IfSome opened.dump (λ dump. IsDumpOf opened.live dump.items)
        → opened.greeting.items
        ≡ ended (codes "redodb-live " ++ version ++ codes " restored "
        ++ decimal kept.restored.lines)
        → IsOpenedFrom salvage version past bytes opened
    opened_from size rest dump greeting = record {
      former = record { past = past; lines = is.lines; ends = all.some.ends };
      past_is = refl;
      restored = is.restored;
      ended = all.ended;
      left = all.some.left;
      logged = all.some.logged_lines;
      within = rw size is.within;
      lines = rw size (lines_kept past bytes kept.restored.bytes is.lines is.are_kept);
      rest = rw (size, rest) is.rest;
      log = rw size log_is;
      dump = some_then opened.dump _ _
          (λ d of. of (past_lines past ++ is.lines ++ lines_in all.some.ends)
          all.some.logged_lines all.some.left) dump;
      greeting = greeting
          ∙ ap (λ n. ended (codes "redodb-live " ++ version ++ codes " restored " ++ decimal n))
          is.count;
    }
