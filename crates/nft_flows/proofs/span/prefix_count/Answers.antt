use Rattle.std.proofs.Common.{◌<◌, ◌^◌, ap, arith, length}
use Rattle.nft_flows.proofs.SpanLaws.{some_prefix}
use Rattle.nft_flows.proofs.span.prefix_count.Goals as goal

pub returns-clause-some : goal.returns-clause-some
returns-clause-some c =
    let small : c.args.first < 2 ^ 32 = omega arith in
    omega (arith, some_prefix c.args.first c.args.last small c.requires.some, c.len.ensures, ap length c.in_ok-prefixes.ensures)
