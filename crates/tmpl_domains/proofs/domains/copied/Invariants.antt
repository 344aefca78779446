use Rattle.std.proofs.Common.{◌≡◌, take}
use Rattle.tmpl_domains.proofs.domains.copied.Given as goal

abbrev pub invariant-loop-host : goal.invariant-loop-host
invariant-loop-host l = l.copy.items ≡ take l.host-index l.hosts
