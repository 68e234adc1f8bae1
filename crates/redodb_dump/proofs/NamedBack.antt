-- If each number has what its name has in a state over the names, the names have what that state says.
use Rattle.std.proofs.Common.{◌≡◌, ℕ, ◌<◌, ◌≤◌, false, List, [], Option, Some, None, length, refl, sym, ap, ◌∙◌, subst}
use Rattle.std.specs.Prelude.{bytes_eq, Contains}
use Rattle.std.specs.List.{position}
use Rattle.std.proofs.Math.Path.{fun_ext}
use Rattle.std.proofs.lemmas.List.{get_or_default}
use Rattle.redodb_model.specs.Names.{Text, text_at}
use Rattle.redodb_model.specs.State.{Cell, State, idle}
use Rattle.redodb_model.specs.Support.Renaming.{named_state, numbering, value_at}
use Rattle.redodb_live.proofs.Answering.{renaming}
use Rattle.redodb_dump.specs.Dumps.{HasCountsUpTo, IsStateOver}
use Rattle.redodb_dump.specs.Support.Read.{IsNumbered}
use Rattle.redodb_dump.specs.Support.SetParts.{HasNumbersUpTo}
use Rattle.redodb_dump.proofs.ReadCells.{is_none}

module _ (names : List Text) (st : State Text) (is : IsStateOver names st) (own : State ℕ)
    (are : IsNumbered names st own)
  where
    at_text : {X : Type 0} (d : X) (f : ℕ → X) (g : Text → X)
        → ((k : ℕ) → k < length names → f k ≡ g (text_at names k))
        → ((t : Text) → ¬ (Contains names t) → d ≡ g t)
        → (t : Text) → value_at d f (position (bytes_eq t) names) ≡ g t
    at_text d f g named others t = by (position (bytes_eq t) names) refl
      where
        by : (at : Option ℕ) → position (bytes_eq t) names ≡ at → value_at d f at ≡ g t
        by None e = others t (λ has.
            let name : text_at names has.0 ≡ t =
            sym (get_or_default names has.0 t [] has.1) ∙ has.2 in
            is_none (sym e
            ∙ ap (λ (u : Text). position (bytes_eq u) names) (sym name)
            ∙ (renaming names is.are_names).back has.0 has.1))
        by (Some k) e =
            named k ((renaming names is.are_names).below t k e)
            ∙ ap g ((renaming names is.are_names).forth t k e)

    pub named_back : named_state (numbering names) own ≡ st
    named_back =
        let cells =
        fun_ext (at_text idle own.records.cell st.records.cell are.cells
        (λ t none. sym (is.others t none).unknown.cell)) in
        let changes =
        fun_ext (at_text (λ n. None) (λ k n. value_at None (own.records.rows.change k)
        (position (bytes_eq n) names)) st.records.rows.change
        (λ k below. fun_ext (at_text None (own.records.rows.change k)
        (st.records.rows.change (text_at names k)) (are.rows.targets k below).change
        (λ n none. sym ((is.others n none).change (text_at names k)))))
        (λ t none. fun_ext (λ n. sym ((is.others t none).unknown.change n)))) in
        let createds =
        fun_ext (at_text (λ n. false) (λ k n. value_at false (own.records.rows.created k)
        (position (bytes_eq n) names)) st.records.rows.created
        (λ k below. fun_ext (at_text false (own.records.rows.created k)
        (st.records.rows.created (text_at names k)) (are.rows.targets k below).created
        (λ n none. sym ((is.others n none).created (text_at names k)))))
        (λ t none. fun_ext (λ n. sym ((is.others t none).unknown.created n)))) in
        let always =
        fun_ext (at_text false own.records.rows.always st.records.rows.always are.rows.always
        (λ t none. sym (is.others t none).unknown.always)) in
        let holders =
        fun_ext (at_text None own.locks.holder st.locks.holder are.holders
        (λ t none. sym (is.others t none).unknown.holder)) in
        let grants =
        fun_ext (at_text 0 own.locks.grants st.locks.grants are.grants
        (λ t none. sym (is.others t none).grants)) in
        λ i. record {
          records = record {
            cell = cells i;
            rows = record { change = changes i; created = createds i; always = always i };
          };
          locks = record { holder = holders i; grants = grants i };
        }

    pub counts_numbered : (most : ℕ) → HasCountsUpTo st most
        → HasNumbersUpTo (length names) own most
    counts_numbered most within = record {
      builds = λ n below. subst (λ (c : Cell). c.builds ≤ most) (sym (are.cells n below))
          (within.builds (text_at names n));
      grants = λ n below. subst (λ g. g ≤ most) (sym (are.grants n below))
          (within.grants (text_at names n));
    }
