use Rattle.std.proofs.Common.{ℕ, sym, subst, ◌∙◌}
use Rattle.flow_set.specs.Flow.{IsFlow}
use Rattle.header_space.proofs.BoxLaws.{own_least}
use Rattle.policy_space.proofs.FlowLaws.{flow_is_one}
use Rattle.policy_space.proofs.policy_box.is_of_within_flow.Goals as goal

pub has-requires : goal.has-requires
has-requires c =
    let least = c.args.within.now.least in
    subst (λ (n : ℕ). IsFlow n c.in-Some.flow) (sym c.requires.size)
    (flow_is_one c.args.policy.now.site.hosts least c.in-Some.flow (c.requires.flow least (own_least c.args.within.now c.requires.is_box) ∙ c.in-Some.is))
