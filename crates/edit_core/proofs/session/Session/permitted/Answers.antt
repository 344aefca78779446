use Rattle.edit_core.proofs.SessionLemmas.{kept_now}
use Rattle.edit_core.proofs.session.Session.permitted.Goals as goal

pub returns : goal.returns
returns c = (
  c.self.inside.network.network,
  c.self.inside.network.policy,
  kept_now c.args.self.now c.self.inside.table c.self.inside.network.network c.self.inside.network.policy c.self.view_is
      (record { described = c.self.invariant; is_policy = c.permitted.ensures.policy }),
  c.permitted.ensures.value,
)
