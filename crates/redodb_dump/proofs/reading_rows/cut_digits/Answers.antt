use Rattle.redodb_dump.proofs.ReadWords.{digits_cut}
use Rattle.redodb_dump.proofs.reading_rows.cut_digits.Goals as goal

pub returns : goal.returns
returns c = λ digits rest all none e.
    let end = c.digits_end-end.ensures in
    digits_cut digits rest c.args.word.now c.digits_end-end.result all none e end.within end.digits
    end.end
