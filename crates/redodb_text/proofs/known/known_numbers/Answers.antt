use Rattle.std.proofs.Common.{◌∷◌, ◌++◌, [], List, map, length, sym, ap, ◌∙◌, append_assoc}
use Rattle.std.proofs.lemmas.List.{map_push}
use Rattle.redodb_model.specs.Names.{Text, text_at}
use Rattle.redodb_text.specs.Support.Reading.{words_after}
use Rattle.redodb_text.proofs.NameLists.{AllBelow-push}
use Rattle.redodb_text.proofs.known.known_numbers.Goals as goal

pub loop-left-preserved : goal.loop-left-preserved
loop-left-preserved c =
    let names = c.loop-left.names in
    let before = c.loop-left.numbers.items in
    let n = c.in-Some-cut_known.number in
    let others = words_after c.in-Some-cut_known.others in
    let so_far = rw c.in-Some.is at c.loop-left.invariant.words in
    let words = so_far
    ∙ ap (λ (l : List Text). map (text_at names) before ++ l) c.in-Some-cut_known.ensures.cut.words
    ∙ sym (append_assoc (map (text_at names) before) (text_at names n ∷ []) others)
    ∙ ap (λ (l : List Text). l ++ others) (sym (map_push (text_at names) before n)) in
    record {
      same = c.in-Some-cut_known.ensures.kept ∙ c.loop-left.invariant.same;
      words = rw (c.in-Some-cut_known.ensures.kept, c.in_ok-push.ensures.items) words;
      below =
          rw (c.in-Some-cut_known.ensures.kept, c.in_ok-push.ensures.items)
          (AllBelow-push (length names) before n c.loop-left.invariant.below
          c.in-Some-cut_known.ensures.cut.below);
    }
