use Rattle.std.proofs.Common.{ℕ, ◌≡◌, ◌+◌, ◌-◌, ◌<◌, drop, filter, map, length, Option, Some, None, ap, ◌∙◌, subst, arith}
use Rattle.std.specs.Option.{ForSome, IfSome}
use Rattle.redodb_model.specs.Closing.{least}
use Rattle.redodb_model.specs.Names.{by_text}
use Rattle.redodb_commands.specs.Support.Meaning.{item_of}
use Rattle.redodb_journal.specs.Support.Holds.{is_held, locked_in, lesser_held}
use Rattle.redodb_journal.proofs.Closings.{least_from}
use Rattle.redodb_journal.proofs.holds.Holds.least_held.Goals as goal

for_some : (o : Option ℕ) (n : ℕ) → IfSome o (λ t. t < n) → ForSome o (λ t. t < n)
for_some None n below t e = absurd (cc)
for_some (Some u) n below t e = let same : u ≡ t = cc in subst (λ t. t < n) same below

pub loop-at-preserved : goal.loop-at-preserved
loop-at-preserved c =
    let names = c.args.names.now in
    let holds = c.args.self.now in
    let script = map item_of c.args.script.now in
    let entries = c.args.entries.now in
    let at = c.loop-at.at in
    let entry = c.index-entries-at.result in
    let kept = c.loop-at.invariant.within in
    let more = c.loop-at-test.true in
    let within : at - 1 < length entries = omega arith in
    let back : at ≡ at - 1 + 1 = omega arith in
    record {
      within = omega arith;
      below = for_some c.lesser_held-least.result (length names) c.lesser_held-least.ensures.below;
      found =
          c.lesser_held-least.ensures.lesser
          ∙ ap (λ o. lesser_held (by_text names) holds o c.loop-at.least) c.locked_by.ensures
          ∙ least_from (by_text names) holds script entries (at - 1) entry c.loop-at.least within
          c.index-entries-at.is
          (c.loop-at.invariant.found
          ∙ ap (λ k. least (by_text names)
          (filter (is_held holds) (locked_in script (drop k entries)))) back);
    }
