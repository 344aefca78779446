use Rattle.std.proofs.Common.{◌∙◌, sym}
use Rattle.text_core.proofs.DecimalLemmas.{digit_read, other_read, end_read, bounded_value_large}
use Rattle.text_core.proofs.decimals.value_of.Goals as goal

pub returns-then-not-is_ascii_digit-clause-value : goal.returns-then-not-is_ascii_digit-clause-value
returns-then-not-is_ascii_digit-clause-value c =
    sym (other_read c.args.most c.loop-byte.value c.loop-byte.byte-index c.args.digits.now c.loop-byte-test.true
    (sym c.is_ascii_digit.ensures.value ∙ c.if-not-is_ascii_digit.true))
    ∙ c.loop-byte.invariant.whole

pub returns-then-value-most-clause-value : goal.returns-then-value-most-clause-value
returns-then-value-most-clause-value c =
    sym (bounded_value_large _ _ _ c.if-value-most.true)
    ∙ digit_read c.args.most c.loop-byte.value c.loop-byte.byte-index c.args.digits.now c.loop-byte-test.true
    (sym c.is_ascii_digit.ensures.value ∙ c.if-not-is_ascii_digit.false)
    ∙ c.loop-byte.invariant.whole

pub loop-byte-preserved : goal.loop-byte-preserved
loop-byte-preserved c = record {
  bounded = c.if-value-most.false;
  whole = digit_read c.args.most c.loop-byte.value c.loop-byte.byte-index c.args.digits.now c.loop-byte-test.true
      (sym c.is_ascii_digit.ensures.value ∙ c.if-not-is_ascii_digit.false)
      ∙ c.loop-byte.invariant.whole;
}

pub returns-clause-value : goal.returns-clause-value
returns-clause-value c =
    sym (end_read c.args.most c.loop-byte.value c.loop-byte.byte-index c.args.digits.now c.loop-byte-test.false c.loop-byte.invariant.bounded)
    ∙ c.loop-byte.invariant.whole
