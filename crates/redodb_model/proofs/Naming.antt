-- A list of distinct texts makes a renaming.
use Rattle.std.proofs.Common.{◌≡◌, ℕ, ◌<◌, cond, List, [], Some, None, refl, sym, ap, ◌∙◌, length, get_or, arith}
use Rattle.std.specs.Prelude.{bytes_eq, nat_lt}
use Rattle.std.specs.Cmp.Lexicographic.{bytes_decides}
use Rattle.std.specs.List.{IsDistinct, position, position_or_len}
use Rattle.std.proofs.lemmas.Bool.{false_from_ne_true}
use Rattle.std.proofs.lemmas.Bool.Decides.{Decides-ltb}
use Rattle.std.proofs.lemmas.List.Sums.{position_or_len_is}
use Rattle.std.proofs.lemmas.List.Quantifiers.{position-Some}
use Rattle.std.proofs.lemmas.Map.Made.{AllPairs-from_IsDistinct}
use Rattle.redodb_model.specs.Names.{Text}
use Rattle.redodb_model.specs.Support.Renaming.{IsRenaming, numbering}

-- each of distinct texts has its place as its position
position_of_name : (names : List Text) (k : ℕ) → IsDistinct bytes_eq names → k < length names
    → position (bytes_eq (get_or names k [])) names ≡ Some k
position_of_name names k distinct below =
    let place : position_or_len (bytes_eq (get_or names k [])) names ≡ k =
    position_or_len_is (bytes_eq (get_or names k [])) names k [] (omega arith)
    (λ j before. false_from_ne_true (bytes_eq (get_or names k []) (get_or names j []))
    (λ e. AllPairs-from_IsDistinct bytes_decides names distinct j k [] before below
    (sym ((bytes_decides (get_or names k []) (get_or names j [])).0 e))))
    (λ b. (bytes_decides (get_or names k []) (get_or names k [])).1 refl) in
    ap (λ i. cond (nat_lt i (length names)) (Some i) None) place
    ∙ ap (λ b. cond b (Some k) None) ((Decides-ltb k (length names)).1 below)

pub numbering_is_renaming : (names : List Text) → IsDistinct bytes_eq names
    → IsRenaming (numbering names)
numbering_is_renaming names distinct = record {
  back = λ k below. position_of_name names k distinct below;
  below = λ t k e. (position-Some (bytes_eq t) names k [] e).0;
  forth = λ t k e. sym
      ((bytes_decides t (get_or names k [])).0 (position-Some (bytes_eq t) names k [] e).1);
}
