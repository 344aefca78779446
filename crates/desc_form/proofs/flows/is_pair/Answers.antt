use Rattle.std.proofs.Common.{sym, ◌∙◌}
use Rattle.toml.specs.View.{view}
use Rattle.desc_form.proofs.ConflictLaws.{counted, uncounted}
use Rattle.desc_form.specs.RawFlow.{raw_flow}
use Rattle.desc_form.specs.RawTemplate.{raw_pair}
use Rattle.desc_form.proofs.flows.is_pair.Goals as goal

pub returns-in-Some : goal.returns-in-Some
unfolding raw_pair
returns-in-Some c = counted (raw_flow (view c.args.value.now)) c.in-Some.count (sym c.service_count.ensures ∙ c.in-Some.is)

pub returns-in-None : goal.returns-in-None
unfolding raw_pair
returns-in-None c = uncounted (raw_flow (view c.args.value.now)) (sym c.service_count.ensures ∙ c.in-None.is)
