-- The representation of the denied hosts: there are at most 256 hosts, and each denies only others.
use Rattle.std.specs.Prelude.{◌≤◌, List, length}
use Rattle.flow_set.specs.HostSet.{HostNumbers}
use Rattle.inv_law.specs.inner.Template.{AllMayHave}
use Rattle.tmpl_reach.specs.NoReach.{no_reach}

pub record DenyOthers (denied : List HostNumbers) : Type 0 where
  pub few : length denied ≤ 256
  pub may_have : AllMayHave no_reach denied
