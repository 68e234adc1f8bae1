-- A worker's replica: it is up to date with the row words that were seen, or one behind.
use Rattle.std.proofs.Common.{◌≡◌, ℕ, ◌+◌, ◌<◌, ◌≤◌, ◌^◌, Bool, List, [], ◌∷◌, ◌++◌, length, get_or, Option, Some, None, refl, sym, ap, ◌∙◌, subst, arith, length-append}
use Rattle.std.proofs.lemmas.List.{length_push}
use Rattle.redodb_model.specs.State.{Records}
use Rattle.redodb_model.specs.Command.{Command}
use Rattle.redodb_model.specs.Reply.{Reply}
use Rattle.redodb_model.specs.Step.{Replies, records_after}
use Rattle.redodb_model.specs.Renaming.{IsReplyBelow}
use Rattle.redodb_names.specs.Orders.{by_place}
use Rattle.redodb_names.proofs.Places.{by_place_is}
use Rattle.redodb_records.specs.Rows.{by_number}
use Rattle.redodb_graph.specs.Graphs.{IsGraphOf}
use Rattle.redodb_replica.specs.Replicas.{ReplicaOf, records_of, count_of}
use Rattle.redodb_replica.specs.Replies.{naming_in}
use Rattle.redodb_journal.specs.Plans.{PlanOf, script_of}
use Rattle.redodb_board.specs.Rows as rows
use Rattle.redodb_board.specs.Core.{replay, row_words, Begins}
use Rattle.redodb_board.specs.Support.Core.{IsWord}
use Rattle.redodb_board.specs.Views.{ViewOf}
use Rattle.redodb_board.specs.Rule.{Told}
use Rattle.redodb_board.specs.Kept.{Lags}
use Rattle.redodb_board.proofs.Orders.{same_records, replies_too}
use Rattle.redodb_history_laws.specs.RowWord.{decoded, session_of, holds_in, command_of, after_row}
use Rattle.redodb_board.proofs.Words.{replay-push}
use Rattle.redodb_board.proofs.Bounds.{words_name}
use Rattle.redodb_board.proofs.Totals.{few, few_rows}

get_or_begins : (all xs rest : List ℕ) (n : ℕ) → all ≡ (xs ++ n ∷ []) ++ rest
    → (get_or all (length xs) 0 ≡ n) × (length xs < length all)
get_or_begins all xs rest n e = (
  ap (λ l. get_or l (length xs) 0) e ∙ seam xs rest n,
  omega (arith, ap length e, length-append (xs ++ n ∷ []) rest, length_push xs n),
)
  where
    seam : (xs rest : List ℕ) (n : ℕ) → get_or ((xs ++ n ∷ []) ++ rest) (length xs) 0 ≡ n
    seam [] rest n = refl
    seam (x ∷ xs) rest n = seam xs rest n

-- a word that was seen names a command
pub seen_word : (p : PlanOf) (v : ViewOf) (words : List ℕ) (n : ℕ) → v.plan ≡ p → Told v
    → v.seen ≡ words ++ n ∷ [] → IsWord p n
seen_word p v words n q told e =
    let b : Begins (row_words v.plan told.log) (words ++ n ∷ []) =
    subst (Begins (row_words v.plan told.log)) e told.fits.seen in
    let at = get_or_begins (row_words v.plan told.log) words b.0 n b.1 in
    subst (λ (x : PlanOf × ℕ). IsWord x.0 x.1) (λ i. (q i, at.0 i))
    (words_name v.plan told.log told.plan told.legal (length words) at.1)

-- few words were seen
pub few_seen : (v : ViewOf) → Told v → length v.seen ≤ 524288
few_seen v told =
    let a = few v.plan told.log told.plan told.legal in
    let b = few_rows v.plan told.plan in
    omega (arith, ap length told.fits.seen.1, length-append v.seen told.fits.seen.0)

pub lags_few : (p : PlanOf) (v : ViewOf) (replica : ReplicaOf) (pending : Option ℕ) → Told v
    → Lags p replica pending v.seen → replica.applied + 1 < 2 ^ 32
lags_few p v replica None told lags =
    omega (arith, few_seen v told, ap length lags.behind, lags.applied)
lags_few p v replica (Some n) told lags =
    omega (arith, few_seen v told, ap length lags.behind, length_push lags.words n, lags.applied)

module _ (p : PlanOf) (old new : ReplicaOf) (seen : List ℕ)
    (count : count_of new ≡ count_of old) (graph : new.graph ≡ old.graph)
    (applied : new.applied ≡ old.applied + 1) where
  -- the pending word is applied
  pub lags_caught : (n : ℕ) → Lags p old (Some n) seen
      → records_of new ≡ after_row by_number (script_of p) (records_of old) (decoded n)
      → Lags p new None seen
  lags_caught n lags after = record {
    words = seen;
    behind = refl;
    records =
        after
        ∙ same_records by_number.order (rows.naming_of p).order (records_of old)
        (session_of (decoded n)) (holds_in (decoded n)) (command_of (script_of p) (decoded n))
        ∙ ap (λ r. after_row (rows.naming_of p) (script_of p) r (decoded n)) lags.records
        ∙ sym (replay-push p lags.words n)
        ∙ ap (replay p) (sym lags.behind);
    applied = omega (arith, lags.applied, ap length lags.behind, length_push lags.words n);
    count = count ∙ lags.count;
    graph = subst (IsGraphOf p) (sym graph) lags.graph;
  }

  -- the session's own command is applied
  pub lags_won : (s : ℕ) (w : ℕ) (h : Bool) (x : Command ℕ) → Lags p old None seen
      → replay p (seen ++ w ∷ []) ≡ records_after (rows.naming_of p) (replay p seen) s h x
      → records_of new ≡ records_after by_number (records_of old) s h x
      → Lags p new None (seen ++ w ∷ [])
  lags_won s w h x lags tells after = record {
    words = seen ++ w ∷ [];
    behind = refl;
    records =
        after
        ∙ same_records by_number.order (rows.naming_of p).order (records_of old) s h x
        ∙ ap (λ r. records_after (rows.naming_of p) r s h x)
        (lags.records ∙ ap (replay p) (sym lags.behind))
        ∙ sym tells;
    applied = omega (arith, lags.applied, ap length lags.behind, length_push seen w);
    count = count ∙ lags.count;
    graph = subst (IsGraphOf p) (sym graph) lags.graph;
  }

-- the replica's reply is the database's after the words that were seen
pub says : (p : PlanOf) (replica : ReplicaOf) (seen : List ℕ) (s : ℕ) (h g : Bool) (x : Command ℕ)
    (reply : Reply ℕ)
    → Lags p replica None seen → h ≡ g
    → Replies (naming_in replica.graph) (records_of replica) s h x reply
    → IsReplyBelow (count_of replica) reply
    → Replies (rows.naming_of p) (replay p seen) s g x reply × IsReplyBelow (length p.names) reply
says p replica seen s h g x reply lags same r below =
    let b : IsReplyBelow (length p.names) reply =
    subst (λ n. IsReplyBelow n reply) lags.count below in (
      subst
          (λ (z : Records ℕ × Bool). Replies (rows.naming_of p) z.0 s z.1 x reply)
          (λ i. ((lags.records ∙ ap (replay p) (sym lags.behind)) i, same i))
          (replies_too (by_place replica.graph.sorted) (rows.naming_of p).order (length p.names)
          (λ k m. by_place_is lags.graph.sorted k m) (records_of replica) s h x reply b r),
      b,
    )
