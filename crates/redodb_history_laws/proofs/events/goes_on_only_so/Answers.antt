use Rattle.redodb_model.proofs.Texts.{texts_are_names}
use Rattle.redodb_model.specs.Placed.{Row, Granted, Busy, Released}
use Rattle.redodb_history_laws.proofs.EndMore.{line_at}
use Rattle.redodb_history_laws.proofs.OnlySo.{prefix_placed, only_so, word_at_grant, word_at_busy}
use Rattle.std.proofs.Common.{sym}
use Rattle.redodb_history_laws.proofs.events.goes_on_only_so.Goals as goal

pub returns-clause-row : goal.returns-clause-row
returns-clause-row c lines s number r command reply on =
    let h = only_so texts_are_names lines (line_at s number command reply (Row r)) on in
    (sym h.1, h.0, h.2)

pub returns-clause-grant : goal.returns-clause-grant
returns-clause-grant c lines s number g t command reply on =
    let line = line_at s number command reply (Granted t g) in
    let h = only_so texts_are_names lines line on in
    let placed = prefix_placed texts_are_names lines line on in
    let w = word_at_grant texts_are_names lines t g placed h.1 in
    (h.0.0, h.0.1, w.0, w.1)

pub returns-clause-busy : goal.returns-clause-busy
returns-clause-busy c lines s number g t command reply on =
    let line = line_at s number command reply (Busy t g) in
    let h = only_so texts_are_names lines line on in
    let placed = prefix_placed texts_are_names lines line on in
    let w = word_at_busy texts_are_names lines t g placed h.1 in
    (h.0.0, h.0.1, w.0, w.1)

pub returns-clause-release : goal.returns-clause-release
returns-clause-release c lines s number g t command reply on =
    let line = line_at s number command reply (Released t g) in
    let h = only_so texts_are_names lines line on in
    let placed = prefix_placed texts_are_names lines line on in
    let w = word_at_busy texts_are_names lines t g placed h.1 in
    (h.0.0, h.0.1, w.1, h.2.0, h.2.1)
