use Rattle.std.proofs.Common.{sym, ◌∙◌, ap, subst}
use Rattle.std.specs.FinSet as set
use Rattle.flow_set.specs.HostSet.{HostNumbers}
use Rattle.reach_core.specs.inner.Counting.{ReachesExactly}
use Rattle.reach_core.proofs.Counts.{reaches_exactly}
use Rattle.reach_core.proofs.reach_closure.ReachClosure.count.Goals as goal

pub returns : goal.returns
returns c =
    subst (ReachesExactly c.args.self.now.flows c.args.i)
    (sym (c.len.ensures ∙ ap (λ (s : HostNumbers). set.len s) (c.remove.ensures ∙ ap (λ (s : HostNumbers). set.remove s c.args.i) c.copy-others.ensures)))
    (reaches_exactly c.args.self.now.flows c.args.i c.reached_from.result.now c.reached_from.ensures)
