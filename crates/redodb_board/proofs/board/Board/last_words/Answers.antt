use Rattle.std.proofs.Common.{ℕ, ◌+◌, ◌<◌, get_or, List, sym, ap, ◌∙◌, subst, arith}
use Rattle.std.proofs.lemmas.List.{get_or_past}
use Rattle.redodb_board.specs.Rows.{rows_of}
use Rattle.redodb_board.specs.Core.{row_words}
use Rattle.redodb_board.proofs.Bridge.{stood_told}
use Rattle.redodb_board.proofs.Ended.{history-of, joint-of}
use Rattle.redodb_board.proofs.Running.{row-at, claim-word-at}
use Rattle.redodb_board.proofs.Bounds.{words_name}
use Rattle.redodb_board.proofs.Totals.{few}
use Rattle.redodb_board.proofs.WordsTold.{words-told}
use Rattle.redodb_board.proofs.board.Board.last_words.Goals as goal

pub returns-clause-words : goal.returns-clause-words
returns-clause-words c =
    let f = c.close_with.ensures.values.2 in
    let p = c.args.self.table.shared.key in
    let o = f.1.0 in
    let v = c.args.seat.seat.me.0 in
    let stood = (stood_told p o.log o.plan o.legal).rows in
    let words = words-told p o.log o.plan o.legal in
    record {
      lines = o.log;
      history = history-of p o.log o.plan o.legal;
      joint =
          joint-of p o.log v o.plan o.legal (o.fits c.args.seat.seat.id v f.1.1) c.requires.all;
      seats = ap (λ l. get_or l 0 0) (sym f.2) ∙ o.seat;
      rows = λ r h. ap (λ l. get_or l (r + 1) 0) (sym f.2) ∙ row-at p f.0 o r h;
      claims =
          λ t h.
          ap (λ l. get_or l (rows_of p + 1 + t) 0) (sym f.2) ∙ claim-word-at p f.0 o t h;
      few = let a = few p o.log o.plan o.legal in omega arith;
      filled =
          λ r h.
          subst (λ (l : List ℕ). 0 < get_or l r 0) (sym words)
          (words_name p o.log o.plan o.legal r (omega arith)).some;
      empty =
          λ r h.
          ap (λ l. get_or l r 0) words ∙ get_or_past (row_words p o.log) r 0 (omega arith);
    }

pub returns-clause-count : goal.returns-clause-count
returns-clause-count c = c.close_with.ensures.counts.0 ∙ c.requires.belongs.0.words
