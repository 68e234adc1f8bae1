-- Reading a history: from line to line, to its end, and to a fault.
use Rattle.std.proofs.Common.{◌≡◌, ℕ, ◌+◌, ◌≤◌, List, [], ◌∷◌, ◌++◌, length, refl, sym, ap, subst, ◌∙◌, arith, append-nil, append_assoc}
use Rattle.std.specs.Prelude.{Contains}
use Rattle.std.specs.List.{flat_map}
use Rattle.std.proofs.lemmas.Grind.{flat_map-append}
use Rattle.redodb_model.specs.Names.{Text}
use Rattle.redodb_model.specs.History as histories
use Rattle.redodb_text.specs.Grammar.{with_names}
use Rattle.redodb_history.specs.Histories.{ended, header_of}
use Rattle.redodb_text.proofs.ScriptParts.{with_names-append}
use Rattle.redodb_history.specs.HistoryTexts.{IsHistoryLine, AreHistoryLines, names_in_line, AreNamesOf, AreLinesOf, IsHistory}
use Rattle.redodb_history.specs.Support.HistoryTexts.{AddsLineNames}
use Rattle.redodb_history.specs.HistoryFaults.{IsReadUpTo, IsReadBefore, IsHistoryFault}
use Rattle.redodb_history.specs.Support.HistoryFaults.{IsLineCause}
use Rattle.redodb_history.specs.declared.fault.HistoryFault.{HistoryFault}
use Rattle.redodb_history.specs.declared.fault.HistoryFault.TheVariants.{Memory, BadHeader, Cut}

-- these lines are read, with these names, and this is what is left of the input
pub record IsReadSoFar (input : Text) (count : ℕ) (lines : List (histories.Line Text))
    (names : List Text) (left : Text) : Type 0 where
  pub texts : List Text
  pub read : AreLinesOf texts lines names
  pub parts : input ≡ header_of count ++ flat_map ended texts ++ left

pub flat_map_push : {X Y : Type 0} (f : X → List Y) (xs : List X) (x : X)
    → flat_map f (xs ++ x ∷ []) ≡ flat_map f xs ++ f x
flat_map_push {X} {Y} f xs x =
    flat_map-append f xs (x ∷ []) ∙ ap (λ (l : List Y). flat_map f xs ++ l) (append-nil (f x))

pub texts_count : (texts : List Text) (lines : List (histories.Line Text))
    → AreHistoryLines texts lines
    → length texts ≡ length lines
texts_count [] [] each = refl
texts_count (text ∷ texts) (line ∷ lines) each = omega (arith, texts_count texts lines each.1)
texts_count texts lines each = absurd each

pub each_more : (texts : List Text) (lines : List (histories.Line Text)) (text : Text)
    (line : histories.Line Text)
    → AreHistoryLines texts lines → IsHistoryLine text line
    → AreHistoryLines (texts ++ text ∷ []) (lines ++ line ∷ [])
each_more [] [] text line each is = (is, tt)
each_more (first ∷ texts) (other ∷ lines) text line each is =
    (each.0, each_more texts lines text line each.1 is)
each_more texts lines text line each is = absurd each

pub ended_cut : (left text after : Text) → left ≡ text ++ 10 ∷ after → left ≡ ended text ++ after
ended_cut left text after cut = cut ∙ sym (append_assoc text (10 ∷ []) after)

pub lines_named : (lines : List (histories.Line Text)) (line : histories.Line Text)
    (names new : List Text) → AreNamesOf lines names → AddsLineNames names line new
    → AreNamesOf (lines ++ line ∷ []) new
lines_named lines line names new are adds = (
  adds.0 ∙ ap (λ (ns : List Text). with_names ns (names_in_line line)) are.0
      ∙ sym (with_names-append [] (flat_map names_in_line lines) (names_in_line line))
      ∙ ap (with_names []) (sym (flat_map_push names_in_line lines line)),
  adds.1,
)

-- one line more
pub one_read : (input : Text) (count : ℕ) (lines : List (histories.Line Text)) (names : List Text)
    (left text after : Text) (line : histories.Line Text) (new : List Text)
    → IsReadSoFar input count lines names left → left ≡ text ++ 10 ∷ after
    → IsHistoryLine text line → AddsLineNames names line new
    → IsReadSoFar input count (lines ++ line ∷ []) new after
one_read input count lines names left text after line new so_far cut is adds =
    let prefix = header_of count ++ flat_map ended so_far.texts in
    let whole : header_of count ++ flat_map ended (so_far.texts ++ text ∷ [])
    ≡ prefix ++ ended text =
    ap (λ (l : Text). header_of count ++ l) (flat_map_push ended so_far.texts text)
    ∙ sym (append_assoc (header_of count) (flat_map ended so_far.texts) (ended text)) in
    record {
      texts = so_far.texts ++ text ∷ [];
      read = record {
        each = each_more so_far.texts lines text line so_far.read.each is;
        named = lines_named lines line names new so_far.read.named adds;
      };
      parts = so_far.parts ∙ ap (λ (l : Text). prefix ++ l) (ended_cut left text after cut)
          ∙ sym (append_assoc prefix (ended text) after)
          ∙ ap (λ (l : Text). l ++ after) (sym whole);
    }

-- all lines are read
pub all_read : (input : Text) (count : ℕ) (lines : List (histories.Line Text)) (names : List Text)
    (left : Text) → count ≤ 1048576 → length lines ≡ count
    → IsReadSoFar input count lines names left → IsHistory input names lines
all_read input count lines names left few counted so_far = record {
  few = omega arith;
  texts = so_far.texts;
  rest = left;
  parts = so_far.parts ∙ ap (λ (n : ℕ). header_of n ++ flat_map ended so_far.texts ++ left)
      (sym counted);
  read = so_far.read;
}

pub read_up_to : (input : Text) (count number : ℕ) (lines : List (histories.Line Text))
    (names : List Text) (left : Text)
    → count ≤ 1048576 → number ≤ count → number ≡ length lines + 1
    → IsReadSoFar input count lines names left → IsReadUpTo input number names left
read_up_to input count number lines names left few within counted so_far = record {
  count = count;
  few = few;
  within = within;
  texts = so_far.texts;
  lines = lines;
  read = so_far.read;
  counted = omega (arith, texts_count so_far.texts lines so_far.read.each);
  parts = so_far.parts;
}

pub read_before : (input : Text) (number : ℕ) (names : List Text) (left text after : Text)
    → left ≡ text ++ 10 ∷ after → ¬ (Contains text 10) → IsReadUpTo input number names left
    → IsReadBefore input number names text
read_before input number names left text after cut free up_to = (
  free,
  (
    after,
    subst (λ (l : Text). IsReadUpTo input number names l)
        (ended_cut left text after cut) up_to,
  ),
)

-- the fault of a line is that of the history
pub line_fails : (input : Text) (number : ℕ) (names : List Text) (line : Text)
    (fault : HistoryFault) → IsReadBefore input number names line
    → IsLineCause names number line fault → IsHistoryFault input fault
line_fails input number names line Memory before cause = tt
line_fails input number names line BadHeader before cause = absurd cause
line_fails input number names line Cut before cause = absurd cause
line_fails input number names line fault before cause =
    (names, line, subst (λ (n : ℕ). IsReadBefore input n names line) (sym cause.0) before, cause.1)
