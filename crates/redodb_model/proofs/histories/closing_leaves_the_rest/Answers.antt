use Rattle.std.specs.Cmp.Lexicographic.{nat_list_cmp_total}
use Rattle.redodb_model.proofs.Ending.{leaves_without}
use Rattle.redodb_model.proofs.Texts.{texts_are_names}
use Rattle.redodb_model.proofs.histories.closing_leaves_the_rest.Goals as goal

pub returns-clause-left : goal.returns-clause-left
returns-clause-left c before session =
    leaves_without texts_are_names nat_list_cmp_total session before
