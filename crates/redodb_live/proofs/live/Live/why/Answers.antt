use Rattle.std.proofs.Common.{IfOk, length, option_map, refl, rules, subst}
use Rattle.std.proofs.lemmas.Result.{IfOk-weaker}
use Rattle.redodb_model.specs.Why.{TellsWhy}
use Rattle.redodb_model.proofs.WhyByName.{unknown_up_to_date}
use Rattle.redodb_database.specs.Meaning.{why_of}
use Rattle.redodb_database.specs.Tables.{state_of, tables_records}
use Rattle.redodb_live.specs.Support.LiveState.{LiveState, state_in}
use Rattle.redodb_live.specs.Support.Within.{IsStateWithin}
use Rattle.redodb_live.proofs.Asking.{why_over_names, found_why_below}
use Rattle.redodb_live.proofs.Forms.{why_form}
use Rattle.redodb_live.proofs.live.Live.why.Goals as goal

pub returns-in-Some : goal.returns-in-Some
returns-in-Some c =
    let live : LiveState = c.args.self.now in
    let are = c.in-Some.ensures.names in
    let st = state_of live.tables in
    let known = c.in-Some.ensures.known in
    let within = subst (λ (l : LiveState). IsStateWithin (length l.names) (state_of l.tables))
    c.self.view_is c.self.invariant.state.within in
    let found = subst (λ (l : LiveState). IfOk c.why.result (λ found.
    TellsWhy (tables_records l.tables) c.in-Some.t (option_map why_of found)))
    c.self.view_is c.why.ensures.why in
    let below = IfOk-weaker c.why.result _ _ (found_why_below live.names are st within c.in-Some.t)
    found in
    record {
      kept = search rules;
      why = IfOk-weaker c.why.result _ _ (why_over_names live.names are st within c.in-Some.t
          c.args.name.now known.among_names known.named) found;
      below = below;
      form = IfOk-weaker c.why.result _ _ (why_form live.names are) below;
    }

pub returns-in-None-clause-why : goal.returns-in-None-clause-why
returns-in-None-clause-why c =
    unknown_up_to_date (state_in c.args.self.now) c.args.name.now (c.in-None.ensures.unknown refl)
