use Rattle.flow_set.proofs.FirstBits.{first_upper_place, none_upper}
use Rattle.flow_set.proofs.host_set.HostSet.first_upper.Goals as goal

pub returns-in-Some : goal.returns-in-Some
returns-in-Some c = first_upper_place _ _ _ c.args.from c.in-Some.place (record { made = c.self.view_is }) c.in-Some.ensures

pub returns-in-None : goal.returns-in-None
returns-in-None c = none_upper _ _ _ c.args.from (record { made = c.self.view_is }) c.in-None.ensures
