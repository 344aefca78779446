use Rattle.std.proofs.Common.{◌≡◌, Ok, Err, ap, subst, sym, ◌∙◌}
use Rattle.desc_core.specs.Description.{described_by_table}
use Rattle.desc_core.specs.inner.TableFacts.{IsRight}
use Rattle.sample_core.proofs.AcceptedLaws.{hosts_counted, sample_is_right, sample_is_whole}
use Rattle.toml.specs.Data.{Members}
use Rattle.sample_core.proofs.description.sample_description.Goals as goal

pub returns-in-Ok-clause-hosts : goal.returns-in-Ok-clause-hosts
returns-in-Ok-clause-hosts c =
    hosts_counted c.args.count c.in-Ok.description c.requires
    (subst (λ (t : Members). described_by_table t ≡ Ok c.in-Ok.description) c.in_ok-table.ensures c.in-Ok.ensures.given)

pub returns-in-Ok-clause-whole : goal.returns-in-Ok-clause-whole
returns-in-Ok-clause-whole c =
    sample_is_whole c.args.count c.in-Ok.description c.requires
    (subst (λ (t : Members). described_by_table t ≡ Ok c.in-Ok.description) c.in_ok-table.ensures c.in-Ok.ensures.given)

pub unreachable-requires : goal.unreachable-requires
unreachable-requires c =
    c.describe_table.ensures.accepted
    (subst IsRight (sym c.in_ok-table.ensures) (sample_is_right c.args.count c.requires)) c.in-Err-Refused.field-0-0
    (c.in-Err-Refused.is ∙ ap Err c.in-Err-Refused.field-0-is)
