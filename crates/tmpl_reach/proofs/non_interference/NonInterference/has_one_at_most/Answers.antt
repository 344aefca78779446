use Rattle.std.proofs.Common.{length, refl}
use Rattle.tmpl_reach.proofs.Still.{none_of_two, one_of_two}
use Rattle.tmpl_reach.proofs.non_interference.NonInterference.has_one_at_most.Goals as goal

pub returns-in_default : goal.returns-in_default
returns-in_default c =
    (λ _. none_of_two c.args.self.now c.args.hosts.now (length c.args.self.now) c.requires.small c.requires.hosts c.in_default.ensures, λ _. refl)

pub returns-in-None : goal.returns-in-None
returns-in-None c = (
  λ _. one_of_two c.args.self.now c.args.hosts.now (length c.args.self.now) c.in-Some.first c.requires.small c.requires.hosts c.in-Some.ensures c.in-None.ensures,
  λ _. refl,
)
