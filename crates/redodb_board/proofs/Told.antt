-- What one entry more says, and what steps on rows and on claim words do.
use Rattle.std.proofs.Common.{◌≡◌, ℕ, List, [], ◌∷◌, ◌++◌, Bool, true, false, not, ◌&&◌, cond, None, refl, ap, ◌∙◌}
use Rattle.std.proofs.lemmas.List.{map-append}
use Rattle.redodb_model.specs.Command as commands
use Rattle.redodb_model.specs.Command.{asked_lock}
use Rattle.redodb_journal.specs.Journals.{line_told}
use Rattle.redodb_journal.specs.declared.entry.Entry.{Entry}
use Rattle.redodb_board.specs.Core.{way, row, claim, free}
use Rattle.redodb_board.specs.Shown.{told}

pub told-push : (s : ℕ) (script : List (commands.Item ℕ)) (xs ys : List Entry) (x : Entry)
    → ys ≡ xs ++ x ∷ [] → told s script ys ≡ told s script xs ++ line_told s script x ∷ []
told-push s script xs ys x e =
    ap (told s script) e ∙ map-append (line_told s script) xs (x ∷ [])

pub way-row : (x : commands.Command ℕ) (h b : Bool) → way x h b ≡ row → asked_lock x ≡ None
way-row (commands.Lock u) h b e = absurd cc
way-row x h b e = refl

pub way-claim : (x : commands.Command ℕ) (h b : Bool) (t : ℕ) → way x h b ≡ claim t
    → x ≡ commands.Lock t
way-claim (commands.Lock u) h b t e = cc
way-claim (commands.Unlock u) h b t e = by (h && not b) e
  where
    by : (c : Bool) → cond c (free u) row ≡ claim t → commands.Unlock u ≡ commands.Lock t
    by true e = absurd cc
    by false e = absurd cc
way-claim x h b t e = absurd cc

pub way-free : (x : commands.Command ℕ) (h b : Bool) (t : ℕ) → way x h b ≡ free t
    → x ≡ commands.Unlock t
way-free (commands.Unlock u) h b t e = by (h && not b) e
  where
    by : (c : Bool) → cond c (free u) row ≡ free t → commands.Unlock u ≡ commands.Unlock t
    by true e = cc
    by false e = absurd cc
way-free x h b t e = absurd cc
