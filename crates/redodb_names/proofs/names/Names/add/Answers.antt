use Rattle.std.proofs.Common.{rules, ◌≡◌, ◌∙◌, ◌<◌, ◌+◌, ◌^◌, ℕ, List, [], ◌∷◌, ◌++◌, length, take, Some, false, sym, ap, subst, arith}
use Rattle.std.proofs.lemmas.Map.Text.{hash_map_updates_text}
use Rattle.std.specs.HashMap.{get_by_text}
use Rattle.std.specs.Map.{update}
use Rattle.std.specs.Prelude.{bytes_eq, string_bytes}
use Rattle.redodb_names.specs.Names.{has}
use Rattle.redodb_names.specs.Support.Names.{AreNames}
use Rattle.redodb_names.proofs.Ascii.{name_is_ascii}
use Rattle.redodb_names.proofs.NameLists.{AreNames-push}
use Rattle.redodb_names.proofs.Numbered.{AreNumbered-more, length-taken, taken-more}
use Rattle.redodb_names.proofs.names.Names.add.Goals as goal

pub ascii_text-requires : goal.ascii_text-requires
ascii_text-requires c = name_is_ascii c.args.text.now c.requires

pub invariant_of-self-2 : goal.invariant_of-self-2
invariant_of-self-2 c =
    let old = c.self.inside in
    let text = c.args.text.now in
    let name = c.in_ok-name.name in
    let absent : has (take old.count old.texts) text ≡ false =
    subst (λ (names : List (List ℕ)). has names text ≡ false) (sym c.self.view_is)
    (sym c.in_default.ensures.there) in
    let few : old.count + 1 < 2 ^ 32 = search rules in
    AreNumbered-more old.numbers c.insert.new.self old.count old.texts c.put.new.self text
    c.self.invariant c.requires absent few c.in_ok-put.ensures.put
    (subst
    (λ (key : List ℕ). (n : List ℕ) → get_by_text c.insert.new.self n
    ≡ update bytes_eq (λ (m : List ℕ). get_by_text old.numbers m) key (Some old.count) n)
    (c.in_ok-name.ensures.ok ∙ c.ascii_text.ensures)
    (hash_map_updates_text (string_bytes name) old.numbers c.insert.new.self (Some old.count)
    c.in_ok-insert.ensures.updates))

pub returns-clause-names : goal.returns-clause-names
returns-clause-names c =
    let old = c.self.inside in
    let text = c.args.text.now in
    let names : List (List ℕ) = c.args.self.now in
    let are : AreNames names = subst AreNames c.self.view_is c.self.invariant.are in
    let few : old.count + 1 < 2 ^ 32 = search rules in
    let counted : length names ≡ old.count =
    sym (ap length c.self.view_is) ∙ length-taken old.count old.texts c.self.invariant.long in
    let more : c.remember-2.new.self ≡ names ++ text ∷ [] =
    c.remember-2.ensures
    ∙ taken-more old.count old.texts c.put.new.self text c.self.invariant.long
    c.in_ok-put.ensures.put
    ∙ ap (λ (all : List (List ℕ)). all ++ text ∷ []) c.self.view_is in
    subst AreNames (sym more)
    (AreNames-push names text are c.requires (sym c.in_default.ensures.there)
    (omega (arith, counted, few)))
