use Rattle.std.proofs.Common.{◌≤◌, ◌++◌, length, vec_capacity}
use Rattle.redodb_model.specs.Names.{Text}
use Rattle.redodb_conversation.specs.Support.KeptLines.{IsPrefixOf}
use Rattle.redodb_conversation.specs.Support.Places.{GoesOnInLine, as_place}
use Rattle.redodb_keeping.specs.Support.Sending.{IsFollowedBy}
use Rattle.redodb_conversation.proofs.answering.answer_lines.Given as goal

abbrev pub invariant-lines : goal.invariant-lines
invariant-lines g l = record {
  room : 8199 ≤ vec_capacity l.prefix;
  few : length l.prefix.items ≤ 8199;
  talk : (begun : Text) → IsPrefixOf begun l.initial.prefix.items → GoesOnInLine l.sync
      (as_place l.initial.live (g.D.Devices.history l.initial.devices) l.initial.unsent)
      (as_place l.live (g.D.Devices.history l.devices) l.unsent)
      (begun ++ l.initial.bytes) l.prefix.items l.rest;
  more : IsFollowedBy (g.D.Devices.history l.initial.devices) (g.D.Devices.history l.devices);
}

abbrev pub decreases-lines : goal.decreases-lines
decreases-lines g l = length l.rest
