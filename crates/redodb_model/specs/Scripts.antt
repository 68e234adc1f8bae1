-- What a session does with the lines of its script, over the lines of a history.
use Rattle.std.specs.Prelude.{◌≡◌, Bool, true, cond, not, ◌||◌, List, [], ◌∷◌, ◌++◌, map}
use Rattle.redodb_model.specs.Names.{Naming}
use Rattle.redodb_model.specs.Command.{Command, Item}
use Rattle.redodb_model.specs.Reply.{Reply, lets_through}
use Rattle.redodb_model.specs.History.{Line}
use Rattle.redodb_model.specs.Closing.{ClosesAfter}

-- the commands that are done of these items, given these replies: each unguarded one, and each guarded one that the
-- reply before lets through
abbrev pub done_by : {N : Type 0} → Bool → List (Item N) → List (Reply N) → List (Command N)
done_by through [] replies = []
done_by through (item ∷ items) [] =
    cond (through || not item.guarded) (item.command ∷ []) (done_by through items [])
done_by through (item ∷ items) (reply ∷ replies) =
    cond (through || not item.guarded)
    (item.command ∷ done_by (lets_through reply) items replies)
    (done_by through items (reply ∷ replies))

-- the lines are all that a session with this script does: its own commands, those that are done with their replies,
-- once and in order; and then closing ones
pub record Does {N : Type 0} (naming : Naming N) (script : List (Item N)) (lines : List (Line N)) :
    Type 0 where
  pub own : List (Line N)
  pub closing : List (Line N)
  pub both : lines ≡ own ++ closing
  pub done : map (λ line. line.command) own ≡ done_by true script (map (λ line. line.reply) own)
  pub closes : ClosesAfter naming own closing
