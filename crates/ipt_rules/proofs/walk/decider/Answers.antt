use Rattle.ipt_rules.specs.Matching.{matches}
use Rattle.ipt_rules.proofs.WalkLemmas.{each_gives_one}
use Rattle.ipt_rules.proofs.WalkingLemmas.{all_shallow, none_traversed}
use Rattle.ipt_rules.proofs.walk.decider.Goals as goal

pub traverse-requires-clause-deterministic : goal.traverse-requires-clause-deterministic
traverse-requires-clause-deterministic g c = each_gives_one c.args.chains.now c.requires.topological_order

pub traverse-requires-clause-shallow : goal.traverse-requires-clause-shallow
traverse-requires-clause-shallow g c = all_shallow c.args.chains.now c.args.number c.requires.topological_order c.requires.there

pub traverse-requires-clause-known : goal.traverse-requires-clause-known
traverse-requires-clause-known g c = λ p inside. none_traversed (matches p c.args.state) c.args.chains.now (g.R.Record.has c.args.met.now) 259

pub traverse-requires-else-depth-le-SMALL_CHAIN_COUNT-clause-deterministic : goal.traverse-requires-else-depth-le-SMALL_CHAIN_COUNT-clause-deterministic
traverse-requires-else-depth-le-SMALL_CHAIN_COUNT-clause-deterministic g c = each_gives_one c.args.chains.now c.requires.topological_order

pub traverse-requires-else-depth-le-SMALL_CHAIN_COUNT-clause-shallow : goal.traverse-requires-else-depth-le-SMALL_CHAIN_COUNT-clause-shallow
traverse-requires-else-depth-le-SMALL_CHAIN_COUNT-clause-shallow g c = all_shallow c.args.chains.now c.args.number c.requires.topological_order c.requires.there

pub traverse-requires-else-depth-le-SMALL_CHAIN_COUNT-clause-known : goal.traverse-requires-else-depth-le-SMALL_CHAIN_COUNT-clause-known
traverse-requires-else-depth-le-SMALL_CHAIN_COUNT-clause-known g c = λ p inside. none_traversed (matches p c.args.state) c.args.chains.now (g.R.Record.has c.args.met.now) 4096
