use Rattle.std.proofs.Common.{◌∙◌, sym}
use Rattle.redodb_database.proofs.redo.loading.Loading.finish.Goals as goal

pub invariant_of-result : goal.invariant_of-result
invariant_of-result c =
    let parts = c.self.invariant.parts in record {
      tables = record {
        rows_for_each = parts.rows_for_each;
        holder_for_each = parts.holder_for_each;
        grants_for_each = parts.grants_for_each;
        few_names = parts.few_names;
        few_builds = parts.few_builds;
        few_grants = parts.few_grants;
      };
      memo_for_each = c.in_ok-memo.ensures.count;
      memo_right = c.in_ok-memo.ensures.right;
      held_for_each = parts.held_for_each ∙ sym parts.holder_for_each;
      held_right = parts.held_right;
    }

pub returns-clause-builders : goal.returns-clause-builders
returns-clause-builders c = c.self.invariant.parts.builders
