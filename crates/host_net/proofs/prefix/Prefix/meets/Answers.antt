use Rattle.std.proofs.Common.{◌<◌, ◌^◌, arith}
use Rattle.host_net.specs.Prefix.{meets}
use Rattle.host_net.proofs.PrefixLaws.{meets_ShareAddress}
use Rattle.host_net.proofs.prefix.Prefix.meets.Goals as goal

pub returns-clause-shared : goal.returns-clause-shared
unfolding meets
returns-clause-shared c =
    let in_self : c.args.self.now.addr < 2 ^ 32 = omega arith in
    let in_other : c.args.other.now.addr < 2 ^ 32 = omega arith in
    rw (c.front.ensures, c.front-2.ensures, c.min-len.ensures)
    (meets_ShareAddress c.args.self.now c.args.other.now in_self in_other)
