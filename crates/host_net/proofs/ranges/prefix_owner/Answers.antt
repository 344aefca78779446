use Rattle.std.proofs.Common.{Some, None, sym, ap, ◌∙◌}
use Rattle.std.specs.Option.{option_copied}
use Rattle.host_net.proofs.RangesLemmas.{holder_told, told_beyond, told_within}
use Rattle.host_net.proofs.ranges.prefix_owner.Goals as goal

pub returns-in-Some : goal.returns-in-Some
returns-in-Some c =
    let is = holder_told c.args.ranges.now c.begun.result c.args.addr (Some c.in-Some.range.now) c.requires
    c.begun.ensures.before c.begun.ensures.behind (sym c.last.ensures.value ∙ ap option_copied c.in-Some.is) in
    sym (is ∙ told_within c.args.addr c.in-Some.range.now c.if-addr-range.true)

pub returns-in_default : goal.returns-in_default
returns-in_default c =
    let is = holder_told c.args.ranges.now c.begun.result c.args.addr (Some c.in-Some.range.now) c.requires
    c.begun.ensures.before c.begun.ensures.behind (sym c.last.ensures.value ∙ ap option_copied c.in-Some.is) in
    sym (is ∙ told_beyond c.args.addr c.in-Some.range.now c.if-addr-range.false)

pub returns-in_default-2 : goal.returns-in_default-2
returns-in_default-2 c =
    sym (holder_told c.args.ranges.now c.begun.result c.args.addr None c.requires
    c.begun.ensures.before c.begun.ensures.behind (sym c.last.ensures.value ∙ ap option_copied c.in_default.is))
