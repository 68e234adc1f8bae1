-- The scripts of a plan, and the run text of one session more.
use Rattle.std.proofs.Common.{◌≡◌, ℕ, suc, ◌+◌, ◌<◌, List, [], ◌++◌, sym, ap, subst, ◌∙◌, map, get_or, length, arith}
use Rattle.std.specs.List.{AllByRecursion}
use Rattle.std.proofs.lemmas.List.{flat_map_more, get_or-map}
use Rattle.std.proofs.lemmas.Simd.{map-map}
use Rattle.redodb_model.specs.Names.{Text, text_at}
use Rattle.redodb_model.specs.Command as model
use Rattle.redodb_model.specs.Renaming.{IsBelow, named_item}
use Rattle.redodb_model.specs.History as histories
use Rattle.redodb_model.specs.History.{part_of}
use Rattle.redodb_commands.specs.Support.Meaning.{item_at, item_of}
use Rattle.redodb_commands.specs.declared.script.Item.{Item}
use Rattle.redodb_journal.specs.Plans.{PlanOf, IsPlan, AreBelow, script_of, scripts_named}
use Rattle.redodb_history.specs.Histories.{history_text_of}
use Rattle.redodb_run.specs.RunTexts.{session_text_of, run_text_of, sessions_below}
use Rattle.redodb_run.proofs.Lists.{all-unmapped}

module _ (p : PlanOf) (s : ℕ) (items : List Item) (told : map item_of items ≡ script_of p s) where
  -- the session's script, under the names of its numbers
  pub script_named : s < length p.scripts
      → map (item_at p.names) items ≡ get_or (scripts_named p) s []
  script_named less =
      let named : List (model.Item ℕ) → List (model.Item Text) =
      λ script. map (named_item (text_at p.names)) script in
      sym (map-map (named_item (text_at p.names)) item_of items)
      ∙ ap named told ∙ sym (get_or-map named p.scripts s [] [] less)

  pub script_below : IsPlan p → AreBelow (length p.names) items
  script_below is =
      all-unmapped item_of (λ item. IsBelow (length p.names) item.command) items
      (subst (AllByRecursion (λ (item : model.Item ℕ). IsBelow (length p.names) item.command))
      (sym told) (is.below s))

-- the text with the part of one session more
pub run_more : (scripts : List (List (model.Item Text))) (n : ℕ)
    (lines : List (histories.Line Text))
    → run_text_of scripts (sessions_below n) lines
    ++ session_text_of n (get_or scripts n []) (part_of n lines)
    ≡ run_text_of scripts (sessions_below (n + 1)) lines
run_more scripts n lines =
    let text : ℕ → Text = λ s. session_text_of s (get_or scripts s []) (part_of s lines) in
    let next : suc n ≡ n + 1 = omega arith in
    flat_map_more text (history_text_of lines) (sessions_below n) n
    ∙ ap (λ (m : ℕ). run_text_of scripts (sessions_below m) lines) next
