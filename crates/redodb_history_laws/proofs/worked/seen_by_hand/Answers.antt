use Rattle.redodb_history_laws.proofs.ByHand.{row_seen, earlier_row_seen, later_row_unseen, grant_seen, earlier_grant_seen, release_seen, later_release_unseen}
use Rattle.redodb_history_laws.proofs.worked.seen_by_hand.Goals as goal

pub returns-clause-row : goal.returns-clause-row
returns-clause-row c = row_seen

pub returns-clause-no_later_row : goal.returns-clause-no_later_row
returns-clause-no_later_row c = later_row_unseen

pub returns-clause-grant : goal.returns-clause-grant
returns-clause-grant c = grant_seen

pub returns-clause-release : goal.returns-clause-release
returns-clause-release c = release_seen

pub returns-clause-no_later_release : goal.returns-clause-no_later_release
returns-clause-no_later_release c = later_release_unseen

pub returns-clause-earlier_row : goal.returns-clause-earlier_row
returns-clause-earlier_row c = earlier_row_seen

pub returns-clause-earlier_grant : goal.returns-clause-earlier_grant
returns-clause-earlier_grant c = earlier_grant_seen
