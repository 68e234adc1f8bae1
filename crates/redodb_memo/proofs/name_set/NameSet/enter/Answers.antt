use Rattle.std.proofs.Common.{◌≡◌, ◌∙◌, false, get_or, sym, subst}
use Rattle.redodb_memo.specs.NameSet.{Marked}
use Rattle.redodb_memo.proofs.Marking.{enters_name}
use Rattle.redodb_memo.proofs.name_set.NameSet.enter.Goals as goal

pub returns-then-not-contains : goal.returns-then-not-contains
returns-then-not-contains c =
    let t = c.args.t in
    let read = sym c.contains.ensures ∙ c.if-not-contains.true in
    let off = subst (λ (k : Marked). get_or k.marks t false ≡ false) c.self.view_is read in
    rw c.enter_new.ensures (enters_name c.args.self.now t c.requires off)
