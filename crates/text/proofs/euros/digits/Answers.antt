use Rattle.std.proofs.Common.{◌≡◌, ◌+◌, ◌≤◌, true, length, take, Some, sym, ap, ◌∙◌, arith, rules}
use Rattle.std.specs.Str.Parse.{digits_value}
use Rattle.std.specs.Str.{all_ascii_digits}
use Rattle.std.proofs.lemmas.Int.Digits.{digits_more, digits_value_more}
use Rattle.std.proofs.lemmas.List.{take_all}
use Rattle.std.proofs.lemmas.Str.Parse.{digits_value_short}
use Rattle.text.proofs.Numbers.{own, digits_read, other_byte, front_small}
use Rattle.text.proofs.euros.digits.Goals as goal

pub returns-in_err-to_digit-clause-value : goal.returns-in_err-to_digit-clause-value
returns-in_err-to_digit-clause-value c =
    let none = other_byte c.args.most c.args.text.now c.loop-byte.byte-index c.loop-byte-test.true (λ digit. omega (arith, c.in_err-to_digit.ensures.cases)) in
    search (rules, none)

pub loop-byte-preserved : goal.loop-byte-preserved
loop-byte-preserved c =
    let text = c.args.text.now in
    let i = c.loop-byte.byte-index in
    let digit = rw c.from.ensures at c.in_ok-to_digit.ensures.value in
    let all = digits_more 10 text i (omega arith) c.loop-byte.invariant.0 digit.0 in
    let more = digits_value_more 10 text i (omega arith) in
    (all, omega arith, λ few. omega (arith, front_small text (i + 1) (omega arith) few all))

pub returns : goal.returns
returns c =
    let text = c.args.text.now in
    let whole : take c.loop-byte.byte-index text ≡ text = take_all c.loop-byte.byte-index text (omega arith) in
    let some : 1 ≤ length text = search rules in
    let all : all_ascii_digits text ≡ true = own.from text (rw whole at c.loop-byte.invariant.0) in
    let same : c.loop-byte.value ≡ digits_value 10 text = c.loop-byte.invariant.1 ∙ ap (digits_value 10) whole in
    record {
      value = ap Some same ∙ sym (digits_read c.args.most text some (omega arith) all);
      small = (omega arith, omega (arith, digits_value_short own text c.args.most all (omega arith)));
    }
