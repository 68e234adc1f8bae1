use Rattle.std.proofs.Common.{◌<◌, ◌≤◌, ◌++◌, length}
use Rattle.redodb_history.specs.Histories.{header_of}
use Rattle.redodb_live.specs.Support.LiveState.{calls_in}
use Rattle.redodb_replay.proofs.Judged.{IsReplayedSoFar}
use Rattle.redodb_replay.proofs.replays.verdict_on.Given as goal

abbrev pub invariant-lines : goal.invariant-lines
invariant-lines l = record {
  so_far : IsReplayedSoFar (header_of l.count ++ l.fn.rest) l.count l.number l.live l.left
      l.verdict;
  few : length l.live.names ≤ 65536;
  calls : calls_in l.live < l.number;
}
