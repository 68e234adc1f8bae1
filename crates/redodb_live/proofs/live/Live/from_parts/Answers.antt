use Rattle.std.proofs.Common.{◌≡◌, ◌≤◌, ℕ, subst}
use Rattle.redodb_model.specs.Support.Unknown.{IsUnknown}
use Rattle.redodb_model.specs.Support.Users.{IsUnused}
use Rattle.redodb_database.specs.Tables.{calls_of, state_of}
use Rattle.redodb_live.proofs.Keeping.{IsKept-loaded}
use Rattle.redodb_live.proofs.live.Live.from_parts.Goals as goal

pub invariant_of-result : goal.invariant_of-result
invariant_of-result c =
    let names = c.args.names in
    let st = state_of c.args.redo in
    let same = c.requires.count in
    record {
      few = c.requires.few;
      state = IsKept-loaded names st
          (subst (λ (count : ℕ). (n : ℕ) → count ≤ n → IsUnknown st n) same
          c.count-numbers.ensures.others)
          (subst (λ (count : ℕ). (n : ℕ) → count ≤ n → IsUnused st.records n) same
          c.count-numbers.ensures.unused)
          (subst (λ (count : ℕ). (n : ℕ) → count ≤ n → st.locks.grants n ≡ 0) same
          c.count-numbers.ensures.ungranted)
          (calls_of c.args.redo) c.requires.builders c.requires.calls;
      numbers = c.count-numbers.ensures.count;
    }
