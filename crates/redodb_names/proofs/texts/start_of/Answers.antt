use Rattle.std.proofs.Common.{◌≡◌, ◌-◌, suc, sym, ap, ◌∙◌, arith}
use Rattle.redodb_names.specs.Support.Texts.{start_at}
use Rattle.redodb_names.proofs.Pieces.{start_is}
use Rattle.redodb_names.proofs.texts.start_of.Goals as goal

pub returns : goal.returns
returns c =
    let n = c.args.number - 1 in
    let same : suc n ≡ c.args.number = omega (arith, c.if-number-eq0.false) in
    sym (start_is 0 c.args.ends.now n (omega (arith, c.requires, same)))
    ∙ ap (start_at 0 c.args.ends.now) same
