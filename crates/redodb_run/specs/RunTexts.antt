-- The texts of whole runs.
use Rattle.std.specs.Prelude.{ℕ, zero, suc, ◌+◌, Bool, true, cond, not, ◌||◌, List, [], ◌∷◌, ◌++◌, length, map, codes, decimal, slice_index_or}
use Rattle.std.specs.List.{flat_map}
use Rattle.redodb_model.specs.Names.{Text}
use Rattle.redodb_model.specs.Command.{Item}
use Rattle.redodb_model.specs.Reply.{Reply, lets_through}
use Rattle.redodb_model.specs.History.{Line, part_of}
use Rattle.redodb_text.specs.Texts.{item_text_of, reply_text_of}
use Rattle.redodb_history.specs.Histories.{ended, answer_text_of, history_text_of}

-- a line of a script with its reply
abbrev pub done_text_of : Item Text → Reply Text → Text
done_text_of item reply = item_text_of item ++ codes " => " ++ reply_text_of reply

-- a line that was not done
abbrev pub skipped_text_of : Item Text → Text
skipped_text_of item = item_text_of item ++ codes " => skipped"

-- the text of a session with this script and these lines: each line of the script, with its reply
-- if it is done, unguarded or let through; and then the lines that are left, which are closing
-- commands
abbrev pub session_lines_of : Bool → List (Item Text) → List (Line Text) → List Text
session_lines_of through [] part = map answer_text_of part
session_lines_of through (item ∷ items) [] =
    skipped_text_of item ∷ session_lines_of through items []
session_lines_of through (item ∷ items) (line ∷ part) =
    cond (through || not item.guarded)
    (done_text_of item line.reply ∷ session_lines_of (lets_through line.reply) items part)
    (skipped_text_of item ∷ session_lines_of through items (line ∷ part))

-- a session, and how many lines are printed of it
abbrev pub session_header_of : ℕ → ℕ → Text
session_header_of s count =
    ended (codes "session " ++ decimal (s + 1) ++ codes " " ++ decimal count)

-- a session's header and its lines
abbrev pub session_text_of : ℕ → List (Item Text) → List (Line Text) → Text
session_text_of s script part =
    let lines = session_lines_of true script part in
    session_header_of s (length lines) ++ flat_map ended lines

-- the history, and then each session's lines
abbrev pub run_text_of : List (List (Item Text)) → List ℕ → List (Line Text) → Text
run_text_of scripts sessions lines =
    history_text_of lines
    ++ flat_map (λ s. session_text_of s (slice_index_or scripts s []) (part_of s lines)) sessions

-- the sessions 0 to n - 1
abbrev pub sessions_below : ℕ → List ℕ
sessions_below zero = []
sessions_below (suc n) = sessions_below n ++ n ∷ []
