use Rattle.std.proofs.Common.{None, ◌∙◌, sym, arith}
use Rattle.text_core.proofs.DecimalLaws.{number_said, number_read}
use Rattle.text_core.proofs.DecimalLemmas.{number_padded, number_plain}
use Rattle.text_core.proofs.decimals.read_number.Goals as goal

pub returns-then-is_empty_or_padded-clause-value : goal.returns-then-is_empty_or_padded-clause-value
returns-then-is_empty_or_padded-clause-value c =
    number_padded c.args.most c.args.text.now (omega arith) (sym c.is_empty_or_padded.ensures ∙ c.if-is_empty_or_padded.true)

pub returns-then-is_empty_or_padded-clause-read : goal.returns-then-is_empty_or_padded-clause-read
returns-then-is_empty_or_padded-clause-read c =
    λ n. number_read c.args.most c.args.text.now None n (omega arith)
    (number_padded c.args.most c.args.text.now (omega arith) (sym c.is_empty_or_padded.ensures ∙ c.if-is_empty_or_padded.true))

pub returns-clause-value : goal.returns-clause-value
returns-clause-value c =
    c.value_of.ensures.value
    ∙ number_plain c.args.most c.args.text.now (omega arith) (sym c.is_empty_or_padded.ensures ∙ c.if-is_empty_or_padded.false)

pub returns-clause-said : goal.returns-clause-said
returns-clause-said c =
    number_said c.args.most c.args.text.now c.value_of.result (omega arith)
    (c.value_of.ensures.value
    ∙ number_plain c.args.most c.args.text.now (omega arith) (sym c.is_empty_or_padded.ensures ∙ c.if-is_empty_or_padded.false))

pub returns-clause-read : goal.returns-clause-read
returns-clause-read c =
    λ n. number_read c.args.most c.args.text.now c.value_of.result n (omega arith)
    (c.value_of.ensures.value
    ∙ number_plain c.args.most c.args.text.now (omega arith) (sym c.is_empty_or_padded.ensures ∙ c.if-is_empty_or_padded.false))
