use Rattle.host_net.proofs.PaddedLemmas.{padded_name}
use Rattle.host_net.proofs.name.Name.of.Goals as goal

pub invariant_of-result : goal.invariant_of-result
invariant_of-result c = padded_name c.args.text.now c.padded.result c.padded.ensures c.requires
