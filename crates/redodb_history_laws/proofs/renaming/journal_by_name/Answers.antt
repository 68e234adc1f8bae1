use Rattle.redodb_model.proofs.Texts.{texts_are_names}
use Rattle.redodb_history_laws.proofs.JournalByName.{journal_by_name, whole_by_name}
use Rattle.redodb_history_laws.proofs.renaming.journal_by_name.Goals as goal

pub returns-clause-journal : goal.returns-clause-journal
returns-clause-journal c to order s script lines law alike =
    journal_by_name law texts_are_names order alike s script lines

pub returns-clause-whole : goal.returns-clause-whole
returns-clause-whole c to order s script lines law alike =
    whole_by_name law texts_are_names order alike s script lines
