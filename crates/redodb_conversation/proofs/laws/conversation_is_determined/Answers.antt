use Rattle.std.proofs.Common.{◌≡◌, arith, List, [], ◌∷◌, ◌++◌, length, refl, sym, ap, ◌∙◌}
use Rattle.redodb_conversation.specs.Logs.{logged_of}
use Rattle.redodb_keeping.specs.Rounds.{lines_in}
use Rattle.redodb_conversation.specs.Talks.{history_of, output_of, state_after}
use Rattle.redodb_conversation.proofs.LawfulBytes.{received_once}
use Rattle.redodb_conversation.proofs.LawfulTurns.{rounds_agree, same_rounds}
use Rattle.redodb_conversation.proofs.laws.conversation_is_determined.Goals as goal

-- lists that have first parts of the same length have the same parts
same_parts : {X : Type 0} (a b c d : List X) → length a ≡ length c → a ++ b ≡ c ++ d
    → (a ≡ c) × (b ≡ d)
same_parts [] b [] d count e = (refl, e)
same_parts [] b (y ∷ c) d count e = absurd (cc)
same_parts (x ∷ a) b [] d count e = absurd (cc)
same_parts (x ∷ a) b (y ∷ c) d count e =
    let head : x ≡ y = cc in
    let tails : a ++ b ≡ c ++ d = cc in
    let counts : length a ≡ length c = omega (arith, count) in
    let (p, q) = same_parts a b c d counts tails in
    (λ i. head i ∷ p i, q)

pub returns-clause-agree : goal.returns-clause-agree
returns-clause-agree c = rounds_agree

pub returns-clause-equal : goal.returns-clause-equal
returns-clause-equal c before a b p q same room other no_why =
    same_rounds a b same (rounds_agree before a b p q same room other) no_why

pub returns-clause-bytes : goal.returns-clause-bytes
returns-clause-bytes c version base second m n former a b rest last one other
    (k, i, j, (p, begins, first_count)) (l, o, q, (r, starts, second_count)) read room room' no_why =
    let before = history_of former in
    let received = received_once a b rest last p.talk.are_lines r.talk.are_lines p.unended r.unended
    read in
    let same = same_rounds a b received
    (rounds_agree before a b p.talk.are_rounds r.talk.are_rounds received room room') no_why in (
      p.output ∙ ap (output_of version former) same ∙ sym r.output,
      λ e counts.
          let x = p.log in
          let y = r.log in
          let (first, since) = same_parts x.before x.since y.before y.since
          (first_count ∙ counts ∙ sym second_count) (sym x.parts ∙ same ∙ y.parts) in
          x.log_is
          ∙ (λ i. (begins ∙ e ∙ sym starts) i ++ logged_of (state_after former (first i)) (lines_in (since i)))
          ∙ sym y.log_is,
    )
