-- Parts that are the same but for their rows.
use Rattle.std.proofs.Common.{ℕ, ◌∙◌, List, Option, None, length, get_or, refl, sym, ap}
use Rattle.redodb_model.specs.Names.{Text}
use Rattle.redodb_model.specs.State.{Cell, State}
use Rattle.redodb_records.specs.Cells.{cell_at}
use Rattle.redodb_database.specs.Support.Parts.{Parts, AreSameButRows}
use Rattle.redodb_dump.specs.Support.Read.{AreCellsUpTo}

pub same_parts : (parts : Parts) → AreSameButRows parts parts
same_parts parts = record {
  cells = refl;
  count = refl;
  holders = refl;
  grants = refl;
  most = refl;
}

pub same_after : {old new newer : Parts} → AreSameButRows old new → AreSameButRows new newer
    → AreSameButRows old newer
same_after first next = record {
  cells = next.cells ∙ first.cells;
  count = next.count ∙ first.count;
  holders = next.holders ∙ first.holders;
  grants = next.grants ∙ first.grants;
  most = next.most ∙ first.most;
}

pub cells_kept : (names : List Text) (st : State Text) (count : ℕ) {old new : Parts}
    → AreSameButRows old new → AreCellsUpTo names st old count → AreCellsUpTo names st new count
cells_kept names st count same are = record {
  holder_for_each = ap length same.holders ∙ are.holder_for_each ∙ sym (ap length same.cells);
  grants_for_each = ap length same.grants ∙ are.grants_for_each ∙ sym (ap length same.cells);
  cells = λ k below. ap (λ (cells : List Cell). cell_at cells k) same.cells ∙ are.cells k below;
  holders = λ k below. ap (λ (hs : List (Option ℕ)). get_or hs k None) same.holders
      ∙ are.holders k below;
  grants = λ k below. ap (λ (gs : List ℕ). get_or gs k 0) same.grants ∙ are.grants k below;
}
