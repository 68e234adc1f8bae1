use Rattle.std.proofs.Common.{◌≡◌, ◌∙◌, ap, true, Option, Some, None, IsSomeAnd}
use Rattle.clap.specs.Words.{Rule, rule_of}
use Rattle.clap.specs.Lexer.{usize_max}
use Rattle.clap.specs.declared.builder.action.ArgAction.TheVariants.{Append}
use Rattle.clap.specs.declared.builder.arg.Arg.{Arg}
use Rattle.clap.specs.declared.builder.range.ValueRange.{ValueRange}
use Rattle.redodb_arguments.proofs.words.files.Goals as goal

some_is : {T : Type 0} (value : Option T) (x : T) → IsSomeAnd value (λ v. v ≡ x) → value ≡ Some x
some_is (Some v) x is = ap Some is
some_is None x is = absurd is

-- one value or more
abbrev some_values : ValueRange
some_values = record { start_inclusive = 1; end_inclusive = usize_max }

pub returns-clause-rule : goal.returns-clause-rule
returns-clause-rule c =
    let range_is : c.num_args.result.num_vals ≡ Some some_values =
    some_is _ some_values c.num_args.ensures.1 in
    let arg_is : c.num_args.result ≡ record c.new.result {
      required = true;
      num_vals =
          Some some_values;
    } = c.num_args.ensures.0
    ∙ ap (λ range. record c.required.result { num_vals = range }) range_is
    ∙ ap (λ (arg : Arg). record arg { num_vals = Some some_values }) c.required.ensures in
    ap rule_of c.action.ensures
    ∙ ap (λ (arg : Arg). rule_of (record arg { action = Some Append })) arg_is
    ∙ ap (λ (rule : Rule). record rule {
      required = true;
      range = Some some_values;
      action =
          Some Append;
    }) c.new.ensures.rule

pub returns-clause-own : goal.returns-clause-own
returns-clause-own c =
    ap (λ (arg : Arg). arg.global) c.action.ensures
    ∙ ap (λ (arg : Arg). arg.global) c.num_args.ensures.0
    ∙ ap (λ (arg : Arg). arg.global) c.required.ensures ∙ c.new.ensures.optional.1
