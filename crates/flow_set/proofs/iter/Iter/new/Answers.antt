use Rattle.flow_set.proofs.Onward.{flows_from-start}
use Rattle.flow_set.proofs.iter.Iter.new.Goals as goal

pub returns : goal.returns
returns c = flows_from-start c.args.set.now.flows
