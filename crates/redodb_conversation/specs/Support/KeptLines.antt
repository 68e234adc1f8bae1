-- Lines of any length, of which a prefix is kept.
use Rattle.std.specs.Prelude.{◌≡◌, ◌⊎◌, take}
use Rattle.redodb_model.specs.Names.{Text}
use Rattle.redodb_conversation.specs.Logs.{HasNoEnd}

-- so much of a line is kept that its fault is known
abbrev pub kept_of : Text → Text
kept_of line = take 8199 line

-- of a whole line this was received: the line itself, or what is kept of it
pub record IsReceivedOf (whole line : Text) : Type 0 where
  pub unended : HasNoEnd whole
  pub is : (line ≡ whole) ⊎ (line ≡ kept_of whole)

-- what is kept of a line that has not ended
pub record IsPrefixOf (whole prefix : Text) : Type 0 where
  pub unended : HasNoEnd whole
  pub kept : prefix ≡ kept_of whole
