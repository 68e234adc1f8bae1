use Rattle.std.proofs.Common.{◌≡◌, ◌∙◌, ℕ, List, Option, Some, slice_get, ap, subst, sym}
use Rattle.std.specs.HashMap.{get_by_text}
use Rattle.std.specs.Prelude.{is_some, IfSome}
use Rattle.redodb_names.proofs.Ascii.{is_no_name}
use Rattle.redodb_names.proofs.Numbered.{HaveNumbers, found-mapped, has-mapped}
use Rattle.redodb_names.proofs.names.Names.search.Goals as goal

pub returns-then-not-is_ascii-clause-there : goal.returns-then-not-is_ascii-clause-there
returns-then-not-is_ascii-clause-there c =
    sym (is_no_name c.args.self.now c.args.text.now c.are_names.ensures.each
    c.if-not-is_ascii.ensures.cases)

pub returns-clause-found : goal.returns-clause-found
returns-clause-found c =
    let at = λ (name : List ℕ). get_by_text c.self.inside.numbers name in
    let names = c.args.self.now in
    let text = c.args.text.now in
    let is : c.copied.result ≡ at text =
    c.copied.ensures ∙ c.get.ensures.value ∙ ap at c.ascii_text.ensures in
    subst (λ (found : Option ℕ). IfSome found (λ number. slice_get names number ≡ Some text))
    (sym is)
    (found-mapped at names text (subst (HaveNumbers at) c.self.view_is c.self.invariant.found))

pub returns-clause-there : goal.returns-clause-there
returns-clause-there c =
    let at = λ (name : List ℕ). get_by_text c.self.inside.numbers name in
    let names = c.args.self.now in
    let text = c.args.text.now in
    let is : c.copied.result ≡ at text =
    c.copied.ensures ∙ c.get.ensures.value ∙ ap at c.ascii_text.ensures in
    ap is_some is
    ∙ has-mapped at names text (subst (HaveNumbers at) c.self.view_is c.self.invariant.found)
