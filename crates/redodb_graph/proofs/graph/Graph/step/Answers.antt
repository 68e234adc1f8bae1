use Rattle.std.proofs.Common.{◌≡◌, ◌<◌, List, [], Some, get_or, length, slice_get, map, ap, subst, sym}
use Rattle.std.specs.Prelude.{Vec}
use Rattle.std.specs.Global.{Global}
use Rattle.redodb_graph.specs.declared.step.Step.{Step}
use Rattle.redodb_graph.proofs.Covered.{row_read}
use Rattle.redodb_graph.proofs.graph.Graph.step.Goals as goal

pub returns : goal.returns
returns c =
    let rows = c.self.inside.steps.items in
    let items : Vec Step Global → List Step = λ row. row.items in
    let same : map items rows ≡ c.args.self.now.steps = ap (λ graph. graph.steps) c.self.view_is in
    let below : c.args.line < length (get_or (map items rows) c.args.session []) =
    subst (λ (l : List (List Step)). c.args.line < length (get_or l c.args.session [])) (sym same)
    c.requires in
    subst (λ (l : List (List Step)).
    slice_get (get_or l c.args.session []) c.args.line ≡ Some c.index-2.result.now)
    same
    (row_read items rows c.args.session c.args.line c.index.result.now c.index-2.result.now below
    c.index.ensures c.index-2.ensures)
