use Rattle.std.proofs.Common.{◌∙◌, ap, sym, rules}
use Rattle.std.specs.FinSet as set
use Rattle.flow_set.proofs.HostSets.{len-marked}
use Rattle.flow_set.specs.HostSet.{HostNumbers}
use Rattle.flow_set.proofs.host_set.HostSet.len.Goals as goal

pub returns : goal.returns
returns c = sym (len-marked _ _ (search rules) (search rules)) ∙ ap (λ (s : HostNumbers). set.len s) c.self.view_is
