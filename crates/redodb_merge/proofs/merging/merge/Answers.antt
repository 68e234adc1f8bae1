use Rattle.std.proofs.Common.{arith, ℕ, List, ◌<◌, ◌≤◌, ap, get_or, length, subst, sym, ◌∙◌, refl}
use Rattle.std.proofs.lemmas.Grind.{common_steps}
use Rattle.std.proofs.Math.ListN.{replicate}
use Rattle.redodb_journal.specs.Journals.{entries_of}
use Rattle.redodb_merge.specs.Support.Merging.{AreWithin, NoneMayCome}
use Rattle.redodb_merge.proofs.MergeSteps.{all_within, few_busy, fit_lent, misfit_lent, merging_first, take_lent, less_lent, merging_lent, waiting_lent, merged, stuck_none}
use Rattle.redodb_merge.proofs.WaitingSteps.{waiting_first}
use Rattle.redodb_merge.proofs.merging.merge.Goals as goal

pub returns-then-not-all_fit : goal.returns-then-not-all_fit
returns-then-not-all_fit c = record {
  merged = misfit_lent c.requires.journals c.scripts-scripts.result.now
      c.scripts-scripts.ensures.scripts c.if-not-all_fit.ensures;
}

pub busy_answers-requires-clause-short : goal.busy_answers-requires-clause-short
busy_answers-requires-clause-short c =
    few_busy c.requires.journals c.scripts-scripts.ensures.plan
    (fit_lent c.requires.journals c.scripts-scripts.result.now c.scripts-scripts.ensures.scripts
    c.if-not-all_fit.ensures)

pub merging-init : goal.merging-init
merging-init c = record {
  merging =
      merging_first c.requires.journals _ c.in_ok-counts.counts c.in_ok-next.next.items c.in_ok-lines.lines.items refl
      (c.in_ok-claims.ensures.items_if_clones_equal (λ y e. e)
      ∙ ap (λ n. replicate n 0) (c.len.ensures.count ∙ ap length c.names.ensures))
      (c.in_ok-next.ensures.items_if_clones_equal (λ y e. e))
      c.in_ok-lines.ensures.items c.in_ok-counts.ensures;
  waiting =
      waiting_first c.in_ok-waiting.waiting _ c.in_ok-counts.counts c.args.journals.now
      c.in_ok-next.next.items
      (omega (arith, c.scripts-scripts.ensures.plan.few, c.requires.journals.one_each))
      c.in_ok-waiting.ensures.ready c.in_ok-waiting.ensures.buckets;
}

pub least-requires-clause-within : goal.least-requires-clause-within
least-requires-clause-within c =
    let fit = fit_lent c.requires.journals c.scripts-scripts.result.now
    c.scripts-scripts.ensures.scripts c.if-not-all_fit.ensures in
    subst (λ (n : ℕ). (s : ℕ) → AreWithin n (entries_of c.args.journals.now s))
    (sym c.merging.invariant.merging.wide)
    (all_within c.requires.journals c.scripts-scripts.ensures.plan fit)

pub take_entry-requires : goal.take_entry-requires
take_entry-requires c =
    take_lent c.requires.journals c.scripts-scripts.result.now c.scripts-scripts.ensures.scripts
    c.merging.invariant.merging c.deref.ensures.value c.in-Some.ensures.least
    c.index-scripts-s.is c.index-journals-s.is c.index-k.ensures
    c.scripts-scripts.ensures.plan c.if-not-all_fit.ensures

pub merging-smaller : goal.merging-smaller
merging-smaller c =
    less_lent c.requires.journals c.scripts-scripts.result.now c.scripts-scripts.ensures.scripts
    c.merging.invariant.merging c.deref.ensures.value c.in-Some.ensures.least
    c.index-scripts-s.is c.index-journals-s.is c.index-k.ensures

pub merging-preserved : goal.merging-preserved
merging-preserved c = record {
  merging =
      merging_lent c.requires.journals c.scripts-scripts.result.now c.scripts-scripts.ensures.scripts
      c.merging.invariant.merging c.deref.ensures.value c.in-Some.ensures.least
      c.index-scripts-s.is c.index-journals-s.is c.index-k.ensures
      c.take_entry.new.turns c.take_entry.new.counts c.take_entry.new.lines.items
      c.in_ok-place.ensures.turned c.in_ok-place.ensures.taken c.in_ok-place.ensures.told;
  waiting =
      waiting_lent c.requires.journals c.scripts-scripts.result.now c.scripts-scripts.ensures.scripts
      c.merging.invariant.merging c.deref.ensures.value c.in-Some.ensures.least
      c.index-scripts-s.is c.index-journals-s.is c.index-k.ensures
      c.take_entry.new.turns c.take_entry.new.counts c.in_ok-place.place
      c.least.new.waiting c.wake.new.self c.in_ok-place.ensures.place
      c.in-Some.ensures.waiting c.in_ok-place.ensures.turned c.in_ok-place.ensures.taken
      c.wake.ensures;
}

pub returns-then-is_done : goal.returns-then-is_done
returns-then-is_done c =
    let fit = fit_lent c.requires.journals c.scripts-scripts.result.now
    c.scripts-scripts.ensures.scripts c.if-not-all_fit.ensures in
    let done =
    subst
    (λ (ns : List ℕ). (s : ℕ) → s < length c.args.journals.now
    → length (entries_of c.args.journals.now s) ≤ get_or ns s 0)
    c.deref-2.ensures.value c.if-is_done.ensures in
    record {
      merged = merged c.requires.journals fit c.merging.invariant.merging done;
    }

pub returns : goal.returns
returns c =
    let left = c.if-is_done.ensures in
    let stuck =
    subst (NoneMayCome c.merging.turns c.merging.counts c.args.journals.now)
    c.deref.ensures.value c.in_default.ensures.least in
    let more =
    subst (λ (ns : List ℕ). get_or ns left.0 0 < length (entries_of c.args.journals.now left.0))
    c.deref-2.ensures.value left.2 in
    record {
      merged = stuck_none c.requires.journals c.merging.invariant.merging stuck left.0 more;
    }

pub overflow_add-k : goal.overflow_add-k
overflow_add-k c = grind (arith, common_steps)

pub bounds-scripts-s : goal.bounds-scripts-s
bounds-scripts-s c = grind (arith, common_steps)
