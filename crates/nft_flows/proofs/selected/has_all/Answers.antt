use Rattle.std.proofs.Common.{◌∙◌, sym}
use Rattle.pass_core.specs.Dead.{is_listed}
use Rattle.nft_flows.proofs.SpanLaws.{all_next}
use Rattle.nft_flows.proofs.selected.has_all.Goals as goal

pub loop-rule-preserved : goal.loop-rule-preserved
loop-rule-preserved c =
    all_next (λ n. is_listed c.args.rules.now (record { chain = c.args.span.now.chain; rule = n })) c.loop-rule.rule c.args.span.now.end
    c.loop-rule-test.true (sym c.is_among.ensures ∙ c.if-not-is_among.false)
    ∙ c.loop-rule.invariant
