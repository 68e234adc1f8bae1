-- A script is read in one way, and no line of it is at fault.
use Rattle.std.proofs.Common.{◌≡◌, ℕ, ◌+◌, ◌<◌, ◌≤◌, Bool, true, false, cond, not, List, [], ◌∷◌, ◌++◌, length, Option, Some, None, Result, Ok, Err, refl, sym, ap, subst, ◌∙◌, arith, ltb, eqb, length-append, filter}
use Rattle.std.proofs.lemmas.Bool.{ltb-false, le-ltb, eqb-false, ne_eqb}
use Rattle.std.specs.List.{flat_map}
use Rattle.redodb_model.specs.Names.{Text}
use Rattle.redodb_model.specs.Command.{Command, Item, commands_in, names_in}
use Rattle.redodb_text.specs.declared.fault.LineFault.{LineFault}
use Rattle.redodb_text.specs.declared.fault.LineFault.TheVariants.{LineTooLong, TooManyLines}
use Rattle.redodb_text.specs.Grammar.{is_skipped, lines_of, AddsNames, AreItemLines, AreScriptLines, IsScript}
use Rattle.redodb_text.specs.Questions.{file_line_fault, unguarded}
use Rattle.redodb_text.specs.Faults.{FailsAfter}
use Rattle.redodb_text.specs.Support.Reading.{Reading, ◌>>=◌, line_in, item_in, script_line_in}
use Rattle.redodb_text.proofs.Asked.{fault_in, asked_file_line}
use Rattle.redodb_text.proofs.Guards.{item_found, item_only}
use Rattle.redodb_text.proofs.ScriptParts.{with_names-longer, InParts, script_split}

abbrev LineRead : Type 0
LineRead = Result (Option (Item Text) × List Text) LineFault

abbrev line_read : Option (Item Text) × List Text → LineRead
line_read x = Ok x

-- the items of a line that was read
abbrev pub items_read : Option (Item Text) → List (Item Text)
items_read None = []
items_read (Some item) = item ∷ []

pub filter_one : (line : Text) (skipped : Bool) → is_skipped line ≡ skipped
    → filter (λ l. not (is_skipped l)) (line ∷ []) ≡ cond (not skipped) (line ∷ []) []
filter_one line skipped e = ap (λ (b : Bool). cond (not b) (line ∷ []) []) e

-- a command that was read, with what the rest of the line gave
record ReadFrom (line : Text) (given : Reading) (read : Option (Item Text)) (after : List Text)
    : Type 0 where
  command : Command Text
  is : read ≡ Some (item_in line command)
  rest : given ≡ Ok (command, after)

abbrev then_item : Text → Reading → LineRead
then_item line given = given >>= λ x. Ok (Some (item_in line x.0), x.1)

read_is : (x : Option (Item Text) × List Text) (read : Option (Item Text)) (after : List Text)
    → line_read x ≡ Ok (read, after) → (x.0 ≡ read) × (x.1 ≡ after)
read_is x read after e =
    let same : x ≡ (read, after) = cc in (
      ap (λ (y : Option (Item Text) × List Text). y.0) same,
      ap (λ (y : Option (Item Text) × List Text). y.1) same,
    )

read_from : (line : Text) (given : Reading) (read : Option (Item Text)) (after : List Text)
    → then_item line given ≡ Ok (read, after) → ReadFrom line given read after
read_from line (Err fault) read after e = absurd cc
read_from line (Ok x) read after e =
    let h = read_is (Some (item_in line x.0), x.1) read after e in
    record { command = x.0; is = sym h.0; rest = λ i. Ok (x.0, h.1 i) }

-- the line alone is read so, and the script has a place for its item
pub record Taken (count : ℕ) (names : List Text) (line : Text) (read : Option (Item Text))
    (after : List Text) : Type 0 where
  pub script : AreScriptLines names (line ∷ []) (items_read read) after
  pub room : count + length (items_read read) ≤ 4096

none_taken : (count : ℕ) (names : List Text) (line : Text) → count ≤ 4096 → length names ≤ 65536
    → length line ≤ 8192 → is_skipped line ≡ true → Taken count names line None names
none_taken count names line room few short skipped = record {
  script = record {
    short = (short, tt);
    said = subst (λ (l : List Text). AreItemLines l []) (sym (filter_one line true skipped)) tt;
    few = omega arith;
    named = (refl, few);
  };
  room = omega arith;
}

some_taken : (count : ℕ) (names : List Text) (line : Text) (command : Command Text)
    (after : List Text) → count < 4096 → length names ≤ 65536 → length line ≤ 8192
    → is_skipped line ≡ false → line_in 65536 names (unguarded line) ≡ Ok (command, after)
    → Taken count names line (Some (item_in line command)) after
some_taken count names line command after room few short said e =
    let found = item_found names line command after few short e in
    record {
      script = record {
        short = (short, tt);
        said = subst (λ (l : List Text). AreItemLines l (item_in line command ∷ []))
            (sym (filter_one line false said)) (found.0, tt);
        few = omega arith;
        named = found.1;
      };
      room = omega arith;
    }

-- what a line of a script is read as, it says
pub line_taken : (count : ℕ) (names : List Text) (line : Text) (read : Option (Item Text))
    (after : List Text) → count ≤ 4096 → length names ≤ 65536
    → script_line_in count names line ≡ Ok (read, after) → Taken count names line read after
unfolding script_line_in
line_taken count names line read after room few e =
    by (ltb 8192 (length line)) (is_skipped line) (eqb count 4096) refl refl refl e
  where
    by : (long skipped full : Bool) → ltb 8192 (length line) ≡ long → is_skipped line ≡ skipped
        → eqb count 4096 ≡ full
        → cond long (Err LineTooLong) (cond skipped (line_read (None, names))
        (cond full (Err TooManyLines) (then_item line (line_in 65536 names (unguarded line)))))
        ≡ Ok (read, after)
        → Taken count names line read after
    by true skipped full l s f h = absurd cc
    by false true full l s f h =
        let is = read_is (None, names) read after h in
        subst (λ (a : List Text). Taken count names line read a) is.1
        (subst (λ (r : Option (Item Text)). Taken count names line r names) is.0
        (none_taken count names line room few (ltb-false _ _ l) s))
    by false false true l s f h = absurd cc
    by false false false l s f h =
        let from : ReadFrom line (line_in 65536 names (unguarded line)) read after =
        read_from line (line_in 65536 names (unguarded line)) read after h in
        let differ : count ≡ 4096 → ⊥ = eqb-false count 4096 f in
        let lt : count < 4096 = omega (arith, differ) in
        subst (λ (r : Option (Item Text)). Taken count names line r after) (sym from.is)
        (some_taken count names line from.command after lt few (ltb-false _ _ l) s from.rest)

skipped_line : (count : ℕ) (names : List Text) (line : Text) → length line ≤ 8192
    → is_skipped line ≡ true → script_line_in count names line ≡ Ok (None, names)
unfolding script_line_in
skipped_line count names line short s =
    let l : ltb 8192 (length line) ≡ false = le-ltb 8192 (length line) short in
    λ i. cond (l i) (Err LineTooLong) (cond (s i) (line_read (None, names))
    (cond (eqb count 4096) (Err TooManyLines)
    (then_item line (line_in 65536 names (unguarded line)))))

said_line : (count : ℕ) (names : List Text) (line : Text) (item : Item Text)
    (after : List Text) → length line ≤ 8192 → is_skipped line ≡ false → count < 4096
    → (line_in 65536 names (unguarded line) ≡ Ok (item.command, after))
    × (item_in line item.command ≡ item)
    → script_line_in count names line ≡ Ok (Some item, after)
unfolding script_line_in
said_line count names line item after short s room e =
    let l : ltb 8192 (length line) ≡ false = le-ltb 8192 (length line) short in
    let f : eqb count 4096 ≡ false = ne_eqb count 4096 (λ (full : count ≡ 4096). omega arith) in
    (λ i. cond (l i) (Err LineTooLong) (cond (s i) (line_read (None, names))
    (cond (f i) (Err TooManyLines) (then_item line (e.0 i)))))
    ∙ ap (λ (said : Item Text). line_read (Some said, after)) e.1

-- what reading a line of a script gives, if the items are the line's
pub record Takes (count : ℕ) (names : List Text) (text : Text) (items : List (Item Text))
    (after : List Text) : Type 0 where
  pub read : Option (Item Text)
  pub gives : script_line_in count names text ≡ Ok (read, after)
  pub whole : items ≡ items_read read

-- what a line of a script says, it is read as
pub line_takes : (count : ℕ) (names : List Text) (line : Text) (items : List (Item Text))
    (after : List Text) → AreScriptLines names (line ∷ []) items after
    → count + length items ≤ 4096
    → Takes count names line items after
line_takes count names line items after script room =
    by (is_skipped line) refl items script.said room script.named
  where
    by : (skipped : Bool) → is_skipped line ≡ skipped → (cs : List (Item Text))
        → AreItemLines (cond (not skipped) (line ∷ []) []) cs → count + length cs ≤ 4096
        → AddsNames 65536 names (commands_in cs) after → Takes count names line cs after
    by true s [] said fits adds = record {
      read = None;
      gives = subst (λ (a : List Text). script_line_in count names line ≡ Ok (None, a))
          (sym adds.0) (skipped_line count names line script.short.0 s);
      whole = refl;
    }
    by true s (c ∷ cs) said fits adds = absurd said
    by false s [] said fits adds = absurd said
    by false s (c ∷ []) said fits adds =
        let longer : length names ≤ length after =
        subst (λ (a : List Text). length names ≤ length a) (sym adds.0)
        (with_names-longer names (flat_map names_in (c.command ∷ []))) in
        let fit : length after ≤ 65536 = adds.1 in
        record {
          read = Some c;
          gives = said_line count names line c after script.short.0 s
              (omega arith) (item_only names line c after (omega arith) said.0 adds);
          whole = refl;
        }
    by false s (c ∷ d ∷ cs) said fits adds = absurd said.1

-- a script says one list of items, and adds one list of names
pub scripts_agree : (names : List Text) (lines : List Text) (items : List (Item Text))
    (after : List Text) (others : List (Item Text)) (others_after : List Text)
    → AreScriptLines names lines items after → AreScriptLines names lines others others_after
    → (items ≡ others) × (after ≡ others_after)
scripts_agree names [] [] after [] others_after one other = (refl, one.named.0 ∙ sym other.named.0)
scripts_agree names [] [] after (d ∷ ds) others_after one other = absurd other.said
scripts_agree names [] (c ∷ cs) after others others_after one other = absurd one.said
scripts_agree names (line ∷ lines) items after others others_after one other =
    let p : InParts names (line ∷ []) lines items after =
    script_split names (line ∷ []) lines items after one in
    let q : InParts names (line ∷ []) lines others others_after =
    script_split names (line ∷ []) lines others others_after other in
    let x : Takes 0 names line p.first p.mid =
    line_takes 0 names line p.first p.mid p.one (omega (arith, p.one.few)) in
    let y : Takes 0 names line q.first q.mid =
    line_takes 0 names line q.first q.mid q.one (omega (arith, q.one.few)) in
    let same = read_is (x.read, p.mid) y.read q.mid (sym x.gives ∙ y.gives) in
    let rest =
    scripts_agree q.mid lines p.second after q.second others_after
    (subst (λ (m : List Text). AreScriptLines m lines p.second after) same.1 p.other) q.other in
    let first : p.first ≡ q.first = x.whole ∙ ap items_read same.0 ∙ sym y.whole in
    (p.whole ∙ (λ i. first i ++ rest.0 i) ∙ sym q.whole, rest.1)

-- with the same names before, a text is one script
pub one_script : (names : List Text) (text : Text) (a b : List (Item Text)) (n m : List Text)
    → IsScript names text a n → IsScript names text b m → (a ≡ b) × (n ≡ m)
one_script names text a b n m = scripts_agree names (lines_of text) a n b m

-- no line of a script fails after the items of the lines before it
pub no_fault_in_a_script : (names : List Text) (before : List Text) (line : Text) (rest : List Text)
    (items : List (Item Text)) (after : List Text) (fault : LineFault)
    → AreScriptLines names (before ++ line ∷ rest) items after
    → FailsAfter names before line fault → ⊥
no_fault_in_a_script names before line rest items after fault script fails =
    let p : InParts names before (line ∷ rest) items after =
    script_split names before (line ∷ rest) items after script in
    let q : InParts p.mid (line ∷ []) rest p.second after =
    script_split p.mid (line ∷ []) rest p.second after p.other in
    let same =
    scripts_agree names before p.first p.mid fails.items fails.after p.one fails.read in
    let few : length p.first + (length q.first + length q.second) ≤ 4096 =
    subst (λ (n : ℕ). n ≤ 4096) (ap length p.whole ∙ length-append p.first p.second
    ∙ ap (λ (l : List (Item Text)). length p.first + length l) q.whole
    ∙ ap (λ (n : ℕ). length p.first + n) (length-append q.first q.second)) script.few in
    let x : Takes (length p.first) p.mid line q.first q.mid =
    line_takes (length p.first) p.mid line q.first q.mid q.one (omega arith) in
    let failed : file_line_fault (length p.first) p.mid line ≡ Some fault =
    (λ i. file_line_fault (length (same.0 i)) (same.1 i) line) ∙ fails.fails in
    let none : file_line_fault (length p.first) p.mid line ≡ None =
    sym (asked_file_line (length p.first) p.mid line p.one.named.1) ∙ ap fault_in x.gives in
    let both : None ≡ Some fault = sym none ∙ failed in
    absurd cc
