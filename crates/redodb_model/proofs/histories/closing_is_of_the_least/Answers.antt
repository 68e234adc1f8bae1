use Rattle.std.specs.Cmp.Lexicographic.{nat_list_cmp_total}
use Rattle.redodb_model.proofs.Least.{closing_least, closing_nothing}
use Rattle.redodb_model.proofs.Texts.{same_texts, texts_are_names}
use Rattle.redodb_model.proofs.histories.closing_is_of_the_least.Goals as goal

pub returns-clause-some : goal.returns-clause-some
returns-clause-some c = closing_least texts_are_names nat_list_cmp_total same_texts

pub returns-clause-none : goal.returns-clause-none
returns-clause-none c = closing_nothing texts_are_names nat_list_cmp_total same_texts
