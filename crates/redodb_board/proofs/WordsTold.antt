-- The row words of a legal history are those of the core.
use Rattle.std.proofs.Common.{◌≡◌, ℕ, List, [], ◌∷◌, ◌++◌, Option, Some, None, refl, sym, ap, ◌∙◌, append_assoc}
use Rattle.std.proofs.lemmas.List.{append-nil}
use Rattle.redodb_model.specs.Command.{target_of}
use Rattle.redodb_model.specs.Placed.{part_of}
use Rattle.redodb_history_laws.specs.Words.{word_before, row_word_of, row_words_after, row_words_of}
use Rattle.redodb_history_laws.proofs.Tied.{flag}
use Rattle.redodb_journal.specs.Plans.{PlanOf, IsPlan, script_of}
use Rattle.redodb_board.specs.Rows.{naming_of}
use Rattle.redodb_board.specs.Core.{Core, start, Line, IsLegal, Way, row, claim, free, claim_place, place_at, rows_then, holds_at, way_at, done, after_all, row_words, word}
use Rattle.redodb_board.proofs.Bridge.{Stood, start-stood, line_stood}
use Rattle.redodb_board.proofs.Sound.{Sound, start-sound, done-sound}

-- the word that a line writes: the session's own lines determine what it holds
word-is : (p : PlanOf) (c : Core) (l : Line) (before : List Line) → Stood p c before
    → row_word_of (naming_of p) (script_of p) (part_of l.session before) l
    ≡ word p l.session l.number l.command (holds_at c l.session l.command)
word-is p c l before so =
    ap (word p l.session l.number l.command)
    (flag (naming_of p) c.state before l.session (target_of l.command) so.tied)

claim_word_none : (t g n : ℕ) (a : Option ℕ) (ws : List ℕ)
    → word_before (claim_place a g t) n ws ≡ ws
claim_word_none t g n None ws = refl
claim_word_none t g n (Some h) ws = refl

before-is : (c : Core) (w : Way) (n : ℕ) (ws : List ℕ)
    → c.rows ++ word_before (place_at c w) n ws ≡ rows_then w c.rows n ++ ws
before-is c row n ws = sym (append_assoc c.rows (n ∷ []) ws)
before-is c (claim t) n ws =
    ap (λ xs. c.rows ++ xs)
    (claim_word_none t (c.state.locks.grants t) n (c.state.locks.holder t) ws)
before-is c (free t) n ws = refl

words_from : (p : PlanOf) (c : Core) (before : List Line) (log : List Line) → IsPlan p
    → Sound p c → Stood p c before → IsLegal p c log
    → c.rows ++ row_words_after (naming_of p) (script_of p) before log ≡ (after_all p c log).rows
words_from p c before [] plan o so h = append-nil c.rows
words_from p c before (l ∷ ls) plan o so h =
    let s : ℕ = l.session in
    let rest =
    words_from p (done p c l) (before ++ l ∷ []) ls plan (done-sound p c l plan h.0 o)
    (line_stood p c l before so plan o h.0).2 h.1 in
    let ws = row_words_after (naming_of p) (script_of p) (before ++ l ∷ []) ls in
    let w = word p s l.number l.command (holds_at c s l.command) in
    ap (λ n. c.rows ++ word_before l.place n ws) (word-is p c l before so)
    ∙ ap (λ q. c.rows ++ word_before q w ws) h.0.place
    ∙ before-is c (way_at c s l.command) w ws
    ∙ rest

pub words-told : (p : PlanOf) (log : List Line) → IsPlan p → IsLegal p start log
    → row_words_of (naming_of p) (script_of p) log ≡ row_words p log
words-told p log plan h = words_from p start [] log plan (start-sound p) (start-stood p) h
