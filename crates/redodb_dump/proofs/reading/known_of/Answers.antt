use Rattle.std.proofs.Common.{◌≡◌, ◌<◌, ◌∙◌, sym, None, Some, length, arith}
use Rattle.std.proofs.lemmas.Bool.Decides.{nat_tests}
use Rattle.redodb_model.specs.State.{Idle}
use Rattle.redodb_text.specs.Texts.{stamp_word}
use Rattle.redodb_dump.specs.Dumps.{is_plain}
use Rattle.redodb_dump.proofs.DumpCells.{plain_is, told_cell}
use Rattle.redodb_dump.proofs.DumpWords.{stamp_word_is_word}
use Rattle.redodb_dump.proofs.ReadCells.{after_file, built_with, is_none, plain_without}
use Rattle.redodb_dump.proofs.ReadWords.{cut_word, file_found}
use Rattle.redodb_dump.proofs.reading.known_of.Goals as goal

pub returns-in_err-file-clause-only : goal.returns-in_err-file-clause-only
returns-in_err-file-clause-only c = λ cell grants holder is e.
    let cut =
    cut_word (stamp_word cell.file) (after_file cell grants holder (is_plain cell grants holder))
    c.args.words.now _ _ (stamp_word_is_word cell.file is.form.file) e c.cut_at_space.ensures in
    is_none (file_found _ None c.in_err-file.ensures.none c.in_err-file.ensures.stamp cell.file
    is.form.file cut.0)

pub returns-then-is_empty-clause-only : goal.returns-then-is_empty-clause-only
returns-then-is_empty-clause-only c = λ cell grants holder is e.
    let cut =
    cut_word (stamp_word cell.file) (after_file cell grants holder (is_plain cell grants holder))
    c.args.words.now _ _ (stamp_word_is_word cell.file is.form.file) e c.cut_at_space.ensures in
    let read : Some c.in_ok-file.file ≡ Some cell.file =
    file_found _ (Some c.in_ok-file.file) c.in_ok-file.ensures.none c.in_ok-file.ensures.stamp
    cell.file is.form.file cut.0 in
    let file : c.in_ok-file.file ≡ cell.file = cc in
    let none : length c.cut_at_space.result.1.now ≡ 0 = grind (arith, nat_tests) in
    let plain =
    plain_is cell grants holder (plain_without cell grants holder _ cut.1 none) in
    record {
      cell = c.known.ensures ∙ (λ i. told_cell (file i) Idle 0 None None) ∙ sym plain.cell;
      grants = sym plain.grants;
      holder = sym plain.holder;
    }

pub returns-clause-only : goal.returns-clause-only
returns-clause-only c = λ cell grants holder is e.
    let cut =
    cut_word (stamp_word cell.file) (after_file cell grants holder (is_plain cell grants holder))
    c.args.words.now _ _ (stamp_word_is_word cell.file is.form.file) e c.cut_at_space.ensures in
    let read : Some c.in_ok-file.file ≡ Some cell.file =
    file_found _ (Some c.in_ok-file.file) c.in_ok-file.ensures.none c.in_ok-file.ensures.stamp
    cell.file is.form.file cut.0 in
    let file : c.in_ok-file.file ≡ cell.file = cc in
    let some : 0 < length c.cut_at_space.result.1.now = grind (arith, nat_tests) in
    c.build_of.ensures.only cell grants holder is file
    (built_with cell grants holder _ cut.1 some)
