use Rattle.host_net.proofs.PrefixTextLaws.{address_said, address_read}
use Rattle.host_net.proofs.prefix.spelling.read_address.Goals as goal

pub returns-clause-said : goal.returns-clause-said
returns-clause-said c = address_said c.args.text.now c.read_octets.result c.read_octets.ensures

pub returns-clause-read : goal.returns-clause-read
returns-clause-read c = λ a fits written. address_read c.args.text.now c.read_octets.result a c.read_octets.ensures fits written
