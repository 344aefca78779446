use Rattle.std.proofs.Common.{◌≡◌, replicate, None}
use Rattle.tmpl_domains.proofs.domains.Domains.new.Given as goal

abbrev pub invariant-loop : goal.invariant-loop
invariant-loop l = l.hosts.items ≡ replicate l.counter None
