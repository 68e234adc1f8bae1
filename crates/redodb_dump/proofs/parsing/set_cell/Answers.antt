use Rattle.std.proofs.Common.{◌+◌, arith, sym, subst}
use Rattle.redodb_model.specs.Names.{text_at}
use Rattle.redodb_database.specs.Support.Parts.{Parts}
use Rattle.redodb_dump.specs.Support.Read.{AreCellsUpTo}
use Rattle.redodb_dump.specs.Support.SetParts.{AreSetUpTo}
use Rattle.redodb_dump.proofs.DumpLines.{told}
use Rattle.redodb_dump.proofs.ReadLines.{own_cut}
use Rattle.redodb_dump.proofs.SettingParts.{cells_more, set_more}
use Rattle.redodb_dump.proofs.parsing.set_cell.Goals as goal

pub returns-clause-set : goal.returns-clause-set
returns-clause-set c =
    let old = c.args.loading.now in
    let n = c.args.n in
    let known = c.in-Some-known_of.known in
    let below = c.requires in
    λ grants are. subst (λ (parts : Parts). AreSetUpTo parts (n + 1)) (sym c.set.ensures)
    (set_more old n known.cell known.holder known.grants are below (omega (arith, grants, below))
    c.in-Some-known_of.ensures.session)

pub returns-in_default-known_of-clause-only : goal.returns-in_default-known_of-clause-only
returns-in_default-known_of-clause-only c = λ all st more is below cells whole.
    let cut =
    own_cut all st is c.args.n below more c.args.left.now c.in-Some.line.now c.in-Some.rest.now
    c.cut_at_space.result.0.now c.cut_at_space.result.1.now whole c.in-Some.ensures
    c.cut_at_space.ensures in
    let name = text_at all c.args.n in
    c.in_default-known_of.ensures.only (st.records.cell name) (st.locks.grants name)
    (st.locks.holder name) (told all st is.over name) cut.2

pub returns-clause-only : goal.returns-clause-only
returns-clause-only c = λ all st more is below cells whole.
    let cut =
    own_cut all st is c.args.n below more c.args.left.now c.in-Some.line.now c.in-Some.rest.now
    c.cut_at_space.result.0.now c.cut_at_space.result.1.now whole c.in-Some.ensures
    c.cut_at_space.ensures in
    let name = text_at all c.args.n in
    let known =
    c.in-Some-known_of.ensures.only (st.records.cell name) (st.locks.grants name)
    (st.locks.holder name) (told all st is.over name) cut.2 in
    let own = c.in-Some-known_of.known in (
      cut.0,
      subst (λ (parts : Parts). AreCellsUpTo all st parts (c.args.n + 1)) (sym c.set.ensures)
          (cells_more c.args.loading.now c.args.n own.cell own.holder own.grants all st cells
          c.requires known.cell known.grants known.holder),
    )
