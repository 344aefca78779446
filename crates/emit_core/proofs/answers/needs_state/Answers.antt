use Rattle.emit_core.proofs.answers.needs_state.Goals as goal

pub returns-clause-barred : goal.returns-clause-barred
returns-clause-barred c = rw (c.services.ensures.value, c.permitted.ensures.flows, c.stateful.ensures.flows) at c.first_uncovered.ensures.barred c.args.policy.now.site.hosts

pub returns-clause-within : goal.returns-clause-within
returns-clause-within c = rw c.stateful.ensures.size at c.first_uncovered.ensures.within
