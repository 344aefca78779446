-- The service and the rest that a parsed match holds.
use Rattle.nft_read.specs.declared.matches.Served.{Served as Held}
use Rattle.nft_read.specs.inner.LineSteps.{Served}

abbrev pub parts_of : Held → Served
parts_of s = (s.service, s.rest.now)
