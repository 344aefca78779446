use Rattle.std.proofs.Common.{◌≡◌, ℕ, ◌<◌, length, ap, sym, subst, ◌∙◌}
use Rattle.host_net.proofs.NamedLaws.{host_named_within}
use Rattle.edit_core.proofs.in_place.flow_between.Goals as goal

pub returns-clause-flow : goal.returns-clause-flow
returns-clause-flow c =
    let size : length c.args.description.now.hosts ≡ c.args.description.now.asked.size = sym c.asked-asked.ensures.size in (
      subst (λ (n : ℕ). c.in_ok-from.from < n) (ap length c.hosts.ensures.value ∙ size)
          (host_named_within c.hosts.result.now c.as_bytes.result.now c.in_ok-from.from (sym c.in_ok-from.ensures)),
      subst (λ (n : ℕ). c.in_ok-to.to < n) (ap length c.hosts-2.ensures.value ∙ size)
          (host_named_within c.hosts-2.result.now c.as_bytes-2.result.now c.in_ok-to.to (sym c.in_ok-to.ensures)),
      c.if-from-to.false,
    )
