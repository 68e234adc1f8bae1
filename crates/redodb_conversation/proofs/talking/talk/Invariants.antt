use Rattle.std.proofs.Common.{◌≡◌, ◌<◌, ◌≤◌, [], length, vec_capacity}
use Rattle.redodb_model.specs.Names.{Text}
use Rattle.redodb_io.specs.Watched.{inner_of, failures_of}
use Rattle.redodb_conversation.specs.Support.KeptLines.{IsPrefixOf}
use Rattle.redodb_keeping.specs.Support.Steps.{known_of}
use Rattle.redodb_conversation.specs.Support.Places.{TalksAt, as_place}
use Rattle.redodb_keeping.specs.Support.Sending.{IsFollowedBy}
use Rattle.redodb_conversation.specs.Support.Talking.{TalksFrom}
use Rattle.redodb_conversation.proofs.talking.talk.Given as goal

abbrev pub invariant-reads : goal.invariant-reads
invariant-reads g l = record {
  room : 8199 ≤ vec_capacity l.prefix;
  few : length l.prefix.items ≤ 8199;
  chunk : 0 < length l.chunk.items;
  none_output : l.unsent.output.items ≡ [];
  none_logged : l.unsent.logged.items ≡ [];
  failures : failures_of l.input ≡ failures_of l.initial.input;
  talk : TalksFrom l.sync (known_of l.initial.live)
      (g.R.Read.remaining (inner_of l.initial.input)) (g.D.Devices.history l.initial.devices)
      (λ start. (begun : Text) × IsPrefixOf begun l.prefix.items
      × TalksAt start (g.R.Read.remaining (inner_of l.input))
      (as_place l.live (g.D.Devices.history l.devices) l.unsent) begun);
  more : IsFollowedBy (g.D.Devices.history l.initial.devices) (g.D.Devices.history l.devices);
}
