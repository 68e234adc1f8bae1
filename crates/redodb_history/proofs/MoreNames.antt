-- Adding names does not change what a reply means, nor that its numbers have names.
use Rattle.std.proofs.Common.{◌≡◌, ℕ, List, [], ◌∷◌, length, refl, ap}
use Rattle.redodb_names.specs.Support.Names.{Extends}
use Rattle.redodb_model.specs.Names.{Text}
use Rattle.redodb_model.specs.Reply as replies
use Rattle.redodb_model.specs.Renaming.{IsReplyBelow}
use Rattle.redodb_commands.specs.declared.reply.Refusal.TheVariants.{Exists}
use Rattle.redodb_commands.specs.declared.reply.Reply.{Reply}
use Rattle.redodb_commands.specs.declared.reply.Reply.TheVariants.{Stale, Ood, Targets, Sources, Refused}
use Rattle.redodb_commands.specs.Meaning.{reply_of, reply_at}
use Rattle.redodb_text.proofs.Added.{text_at-Extends, texts-Extends, all_below-Extends}

module _ (old new : List Text) (x : Extends old new) where
  pub IsReplyBelow-Extends : (reply : replies.Reply ℕ) → IsReplyBelow (length old) reply
      → IsReplyBelow (length new) reply
  IsReplyBelow-Extends (replies.Stale ns) below = all_below-Extends old new ns x below
  IsReplyBelow-Extends (replies.Ood ns) below = all_below-Extends old new ns x below
  IsReplyBelow-Extends (replies.Targets ns) below = all_below-Extends old new ns x below
  IsReplyBelow-Extends (replies.Sources ns) below = all_below-Extends old new ns x below
  IsReplyBelow-Extends (replies.Refused (replies.Exists n)) below =
      (all_below-Extends old new (n ∷ []) x (below, tt)).0
  IsReplyBelow-Extends reply below = tt

  pub reply_at-Extends : (reply : Reply) → IsReplyBelow (length old) (reply_of reply)
      → reply_at new reply ≡ reply_at old reply
  reply_at-Extends (Stale ns) below = ap replies.Stale (texts-Extends old new ns.items x below)
  reply_at-Extends (Ood ns) below = ap replies.Ood (texts-Extends old new ns.items x below)
  reply_at-Extends (Targets ns) below = ap replies.Targets (texts-Extends old new ns.items x below)
  reply_at-Extends (Sources ns) below = ap replies.Sources (texts-Extends old new ns.items x below)
  reply_at-Extends (Refused (Exists n)) below = let e = text_at-Extends old new n x below in
      λ i. replies.Refused (replies.Exists (e i))
  reply_at-Extends reply below = refl
