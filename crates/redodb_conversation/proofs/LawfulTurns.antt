-- After one history, the same lines are answered in the same way.
use Rattle.std.proofs.Common.{◌≡◌, ◌⊎◌, ℕ, suc, ◌≤◌, List, [], ◌∷◌, ◌++◌, Some, None, length, map, refl, sym, ap, ◌∙◌, subst, inl, inr}
use Rattle.std.specs.List.{AllByRecursion}
use Rattle.redodb_model.specs.Names.{Text}
use Rattle.redodb_model.specs.Command.{names_in}
use Rattle.redodb_model.specs.History.{Line}
use Rattle.redodb_text.specs.Grammar.{with_names}
use Rattle.redodb_text.specs.Inquiries.{asked_fault, inquiry_text_of, inquiry_word}
use Rattle.redodb_text.proofs.FaultOrCommand.{no_fault_in_a_line}
use Rattle.redodb_text.proofs.Inquired.{asked_of_command}
use Rattle.redodb_live.specs.Lines.{names_after}
use Rattle.redodb_keeping.specs.Rounds.{Round, IsRound, IsAnswered, IsEnded, IsInquired, IsListed, IsFaulty, AreRounds, Asks, end_word, names_word}
use Rattle.redodb_conversation.specs.Support.Laws.{Agree, Agrees, AsksWhy, HasSufficed}
use Rattle.redodb_log.proofs.Grown.{names_after-append}
use Rattle.redodb_conversation.proofs.LawfulRounds.{answered_agree, ended_agree, inquired_agree, listed_agree, faulty_agree, has_fault, HasFault, FaultCause}
use Rattle.redodb_conversation.proofs.LawfulTexts.{asks_one, command_asks_nothing, command_keyword, received_kind, inquiry_asked, inquiry_kind, inquiry_words, kind_of_first}

-- the line has no fault, and is of this kind
record IsFine (before : List (Line Text)) (received : Text) (kind : ℕ) : Type 0 where
  pub session : ℕ
  pub text : Text
  pub asks : Asks received session text
  pub kind_is : received_kind received ≡ kind
  pub fine : (text ≡ end_word) ⊎ ((text ≡ names_word)
      ⊎ (asked_fault 16777216 (names_after before) text ≡ None))

-- which alternative holds, if those after the first have numbers
abbrev later : {A B : Type 0} → (B → ℕ) → A ⊎ B → ℕ
later number (inl a) = 0
later number (inr b) = suc (number b)

module _ (before : List (Line Text)) (round : Round) where
  answered_fine : IsAnswered before round → IsFine before round.received 0
  answered_fine is =
      let names = names_after before in
      let line = is.line in
      let keyword = command_keyword is.text line.command is.parsed.2 in
      let after = with_names names (names_in line.command ++ []) in
      let few : length after ≤ 16777216 =
      subst (λ ns. length ns ≤ 16777216) (names_after-append before (line ∷ [])) is.few_names in
      record {
        session = line.session;
        text = is.text;
        asks = is.asks;
        kind_is = kind_of_first round.received line.session is.text keyword.word keyword.words
            is.asks keyword.words_are ∙ keyword.kind;
        fine = inr (inr (asked_of_command 16777216 names is.text
            (command_asks_nothing is.text line.command is.parsed.2)
            ∙ no_fault_in_a_line {most = 16777216} names is.text line.command after is.parsed
            (refl, few)));
      }

  ended_fine : IsEnded before round → IsFine before round.received 1
  ended_fine is = record {
    session = is.session;
    text = end_word;
    asks = is.asks;
    kind_is = kind_of_first round.received is.session end_word end_word [] is.asks refl;
    fine = inl refl;
  }

  listed_fine : IsListed before round → IsFine before round.received 3
  listed_fine is = record {
    session = is.session;
    text = names_word;
    asks = is.asks;
    kind_is = kind_of_first round.received is.session names_word names_word [] is.asks refl;
    fine = inr (inl refl);
  }

  inquired_fine : IsInquired before round → IsFine before round.received 2
  inquired_fine is =
      let text = inquiry_text_of is.inquiry is.name in
      record {
        session = is.session;
        text = text;
        asks = is.asks;
        kind_is = kind_of_first round.received is.session text (inquiry_word is.inquiry) _ is.asks
            (inquiry_words is.inquiry is.name) ∙ inquiry_kind is.inquiry;
        fine = inr (inr (inquiry_asked (names_after before) is.inquiry is.name ∙ is.fits));
      }

  -- and a line with a fault is not fine
  faulty_not_fine : (kind : ℕ) → IsFaulty before round → HasSufficed round
      → ¬ (IsFine before round.received kind)
  faulty_not_fine kind is room fine = by is.cause
    where
      fails : (text word : Text) → HasFault before text word → fine.text ≡ text → ⊥
      fails text word (fault, no_end, no_names, found, e) same = either fine.fine
        where
          either : (fine.text ≡ end_word) ⊎ ((fine.text ≡ names_word)
              ⊎ (asked_fault 16777216 (names_after before) fine.text ≡ None)) → ⊥
          either (inl ended) = no_end (sym same ∙ ended)
          either (inr (inl listed)) = no_names (sym same ∙ listed)
          either (inr (inr none)) =
              let some : None ≡ Some fault =
              sym none ∙ ap (asked_fault 16777216 (names_after before)) same ∙ found in
              cc

      by : FaultCause before round → ⊥
      by (inl none) = none.0 fine.session fine.text fine.asks
      by (inr (s, text, word, asks, found, e)) =
          fails text word (has_fault before round s text word room e found)
          (asks_one round.received fine.session s fine.text text fine.asks asks).1

  -- which of the five it is
  abbrev kind_in : IsRound before round → ℕ
  kind_in = later (later (later (later (λ is. 0))))

  fine_or_faulty : (is : IsRound before round) → IsFine before round.received (kind_in is)
      ⊎ (IsFaulty before round × (kind_in is ≡ 4))
  fine_or_faulty (inl is) = inl (answered_fine is)
  fine_or_faulty (inr (inl is)) = inl (ended_fine is)
  fine_or_faulty (inr (inr (inl is))) = inl (inquired_fine is)
  fine_or_faulty (inr (inr (inr (inl is)))) = inl (listed_fine is)
  fine_or_faulty (inr (inr (inr (inr is)))) = inr (is, refl)

module _ (before : List (Line Text)) (a b : Round) (same : a.received ≡ b.received)
    (room : HasSufficed a) (room' : HasSufficed b)
  where
    same_kind : (m n : ℕ) → IsFine before a.received m ⊎ (IsFaulty before a × (m ≡ 4))
        → IsFine before b.received n ⊎ (IsFaulty before b × (n ≡ 4)) → m ≡ n
    same_kind m n (inl p) (inl q) = sym p.kind_is ∙ ap received_kind same ∙ q.kind_is
    same_kind m n (inl p) (inr (q, e)) =
        absurd (faulty_not_fine before b m q room' (subst (λ h. IsFine before h m) same p))
    same_kind m n (inr (p, e)) (inl q) =
        absurd (faulty_not_fine before a n p room (subst (λ h. IsFine before h n) (sym same) q))
    same_kind m n (inr (p, e)) (inr (q, f)) = e ∙ sym f

    kinds_agree : (p : IsRound before a) (q : IsRound before b)
        → kind_in before a p ≡ kind_in before b q → Agrees a b
    kinds_agree (inl p) (inl q) e = answered_agree before a b same p q
    kinds_agree (inr (inl p)) (inr (inl q)) e = ended_agree before a b same p q
    kinds_agree (inr (inr (inl p))) (inr (inr (inl q))) e = inquired_agree before a b same p q
    kinds_agree (inr (inr (inr (inl p)))) (inr (inr (inr (inl q)))) e =
        listed_agree before a b same p q
    kinds_agree (inr (inr (inr (inr p)))) (inr (inr (inr (inr q)))) e =
        faulty_agree before a b same room room' p q
    kinds_agree p q e = absurd cc

    round_agrees : IsRound before a → IsRound before b → Agrees a b
    round_agrees p q =
        kinds_agree p q (same_kind (kind_in before a p) (kind_in before b q)
        (fine_or_faulty before a p) (fine_or_faulty before b q))

abbrev all_received : List Round → List Text
all_received rounds = map (λ (round : Round). round.received) rounds

-- rounds after one history in which the same is received
pub rounds_agree : (before : List (Line Text)) (a b : List Round) → AreRounds before a
    → AreRounds before b → all_received a ≡ all_received b → AllByRecursion HasSufficed a
    → AllByRecursion HasSufficed b → Agree a b
rounds_agree before [] [] p q same room room' = tt
rounds_agree before [] (b ∷ others) p q same room room' = absurd cc
rounds_agree before (a ∷ more) [] p q same room room' = absurd cc
rounds_agree before (a ∷ more) (b ∷ others) p q same room room' =
    let first : a.received ≡ b.received = cc in
    let rest : all_received more ≡ all_received others = cc in
    let agrees = round_agrees before a b first room.0 room'.0 p.0 q.0 in (
      agrees,
      rounds_agree (before ++ b.lines) more others
          (subst (λ ls. AreRounds (before ++ ls) more) agrees.lines p.1) q.1 rest room.1 room'.1,
    )

-- and in which nobody asks why a name is out of date
pub same_rounds : (a b : List Round) → all_received a ≡ all_received b → Agree a b
    → AllByRecursion (λ round. ¬ (AsksWhy round.received)) a → a ≡ b
same_rounds [] [] same agree no_why = refl
same_rounds [] (b ∷ others) same agree no_why = absurd agree
same_rounds (a ∷ more) [] same agree no_why = absurd agree
same_rounds (a ∷ more) (b ∷ others) same agree no_why =
    let received : a.received ≡ b.received = cc in
    let lines = agree.0.lines in
    let output = agree.0.output no_why.0 in
    let first : a ≡ b = λ i. record { received = received i; lines = lines i; output = output i } in
    let rest : all_received more ≡ all_received others = cc in
    let all = same_rounds more others rest agree.1 no_why.1 in
    λ i. first i ∷ all i
