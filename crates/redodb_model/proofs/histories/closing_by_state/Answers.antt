use Rattle.std.specs.Cmp.Lexicographic.{nat_list_cmp_total}
use Rattle.redodb_model.proofs.Ending.{closes_by_state}
use Rattle.redodb_model.proofs.Texts.{texts_are_names}
use Rattle.redodb_model.proofs.histories.closing_by_state.Goals as goal

pub returns : goal.returns
returns c before session = closes_by_state texts_are_names nat_list_cmp_total session before
