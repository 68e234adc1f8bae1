use Rattle.std.proofs.Common.{◌≡◌, Bool, true, false, cond, Some, map, sym, ap, ◌∙◌}
use Rattle.std.specs.Option.{option_map}
use Rattle.redodb_model.specs.Command.{Failed, Unlock}
use Rattle.redodb_commands.specs.Meaning.{command_of}
use Rattle.redodb_commands.specs.Support.Meaning.{item_of}
use Rattle.redodb_journal.specs.declared.holds.Hold.{Hold}
use Rattle.redodb_journal.specs.Holds.{hold_at}
use Rattle.redodb_journal.proofs.Closings.{no_closing, closing_told}
use Rattle.redodb_journal.proofs.holds.Holds.closing.Goals as goal

pub returns-in_err-name-clause-closing : goal.returns-in_err-name-clause-closing
returns-in_err-name-clause-closing c s says =
    ap (option_map command_of) c.from_residual.ensures
    ∙ sym (no_closing c.args.names.now c.args.self.now s (map item_of c.args.script.now)
    c.args.entries.now says c.requires.below c.in_err-name.ensures.least)

pub returns-then-at-clause-closing : goal.returns-then-at-clause-closing
returns-then-at-clause-closing c s says =
    let name = c.in_ok-name.name in
    let building : (hold_at c.args.self.now name).building ≡ true =
    sym (ap (λ (h : Hold). h.building) c.at.ensures) ∙ c.if-at.true in
    sym (closing_told c.args.names.now c.args.self.now s (map item_of c.args.script.now)
    c.args.entries.now says c.requires.below name c.in_ok-name.ensures.below
    c.in_ok-name.ensures.least
    ∙ ap (λ (b : Bool). Some (cond b (Failed name) (Unlock name))) building)

pub returns-else-at-clause-closing : goal.returns-else-at-clause-closing
returns-else-at-clause-closing c s says =
    let name = c.in_ok-name.name in
    let building : (hold_at c.args.self.now name).building ≡ false =
    sym (ap (λ (h : Hold). h.building) c.at.ensures) ∙ c.if-at.false in
    sym (closing_told c.args.names.now c.args.self.now s (map item_of c.args.script.now)
    c.args.entries.now says c.requires.below name c.in_ok-name.ensures.below
    c.in_ok-name.ensures.least
    ∙ ap (λ (b : Bool). Some (cond b (Failed name) (Unlock name))) building)
