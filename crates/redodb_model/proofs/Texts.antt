-- Texts are names.
use Rattle.std.proofs.Common.{◌≡◌, sym, ap, ◌∙◌}
use Rattle.std.specs.Cmp.{tied_itself}
use Rattle.std.specs.Cmp.Lexicographic.{bytes_decides, nat_list_cmp_total, slice_cmp}
use Rattle.std.specs.Ordering.{is_eq, nat_cmp}
use Rattle.std.specs.declared.cmp.Ordering.TheVariants.{Equal}
use Rattle.std.proofs.lemmas.Map.Text.{is_eq-slice_cmp}
use Rattle.redodb_model.specs.Names.{Text, texts}
use Rattle.redodb_model.specs.Support.Names.{IsNaming}

pub texts_are_names : IsNaming texts
texts_are_names = record {
  decides = bytes_decides;
  irreflexive = λ n e. let f = tied_itself nat_list_cmp_total n in cc;
  transitive = nat_list_cmp_total.trans;
}

-- the order tells any two different texts apart
pub same_texts : (a b : Text) → slice_cmp nat_cmp a b ≡ Equal → a ≡ b
same_texts a b e = (bytes_decides a b).0 (sym (is_eq-slice_cmp a b) ∙ ap is_eq e)
