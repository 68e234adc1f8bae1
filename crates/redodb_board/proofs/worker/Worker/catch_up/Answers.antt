use Rattle.std.proofs.Common.{◌≡◌, ℕ, ap, subst, Some}
use Rattle.redodb_journal.specs.Plans.{PlanOf}
use Rattle.redodb_board.specs.Support.Core.{IsWord}
use Rattle.redodb_board.specs.Views.{ViewOf}
use Rattle.redodb_board.specs.Kept.{Works, Lags, view_of}
use Rattle.redodb_board.specs.declared.worker.Worker.{Worker}
use Rattle.redodb_board.proofs.NextSteps.{plan_is}
use Rattle.redodb_board.proofs.Stores.{seen_word, lags_few, lags_caught}
use Rattle.redodb_board.proofs.worker.Worker.catch_up.Goals as goal

lags_at : (p : PlanOf) (w : Worker) (n : ℕ) → Works p w → w.pending ≡ Some n
    → Lags p w.replica (Some n) (view_of w).seen
lags_at p w n k e = subst (λ o. Lags p w.replica o (view_of w).seen) e k.lags

word_at : (p : PlanOf) (w : Worker) (n : ℕ) → Works p w → w.pending ≡ Some n → IsWord p n
word_at p w n k e =
    let l = lags_at p w n k e in
    seen_word p (view_of w) l.words n (ap (λ (v : ViewOf). v.plan) k.view) k.told l.behind

pub apply_word-requires-clause-word : goal.apply_word-requires-clause-word
apply_word-requires-clause-word c =
    let p = c.args.plan.now in
    let w = c.args.self.now in
    (plan_is c.requires, word_at p w c.in-Some.word c.requires c.in-Some.is)

pub apply_word-requires-clause-applied : goal.apply_word-requires-clause-applied
apply_word-requires-clause-applied c =
    lags_few c.args.plan.now (view_of c.args.self.now)
    c.args.self.now.replica c.args.self.now.pending
    c.requires.told c.requires.lags

pub returns-in-Some-clause-works : goal.returns-in-Some-clause-works
returns-in-Some-clause-works c =
    let p = c.args.plan.now in
    let w = c.args.self.now in
    let n : ℕ = c.in-Some.word in
    let k = c.requires in
    let f = c.apply_word.ensures in
    record {
      view = k.view;
      slots = k.slots;
      session = k.session;
      room = k.room;
      tries = k.tries;
      own = k.own;
      marked = k.marked;
      told = k.told;
      spent = k.spent;
      lags =
          lags_caught p w.replica c.apply_word.new.replica
          (view_of w).seen f.count f.graph f.applied n
          (lags_at p w n k c.in-Some.is) f.after;
    }
