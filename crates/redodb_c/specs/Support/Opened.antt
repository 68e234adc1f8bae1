-- The value behind a handle.
use Rattle.redodb_live.specs.Support.LiveState.{LiveState}
use Rattle.redodb_c.specs.declared.contents.Opened.TheInside.{Inside}

abbrev pub live_in : Inside → LiveState
live_in inside = inside.live.value
