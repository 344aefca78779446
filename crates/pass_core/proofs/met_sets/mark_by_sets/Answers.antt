use Rattle.std.proofs.Common.{sym, ◌∙◌}
use Rattle.pass_core.proofs.MetSetLemmas.{all_marked}
use Rattle.pass_core.proofs.met_sets.mark_by_sets.Goals as goal

pub returns-clause-known : goal.returns-clause-known
returns-clause-known c = λ on.
    all_marked c.as_chains-chains.result c.args.met.now c.mark_state.new.met c.mark_state-2.new.met (sym (c.as_chains-chains.ensures ∙ c.rules.ensures))
    c.in_ok-new.ensures.more c.in_ok-established.ensures.more (c.in_ok-new.ensures.known c.if-not-new.false) (c.in_ok-established.ensures.known on)
