use Rattle.std.proofs.Common.{Some, None, sym, ap, ◌∙◌, arith}
use Rattle.std.specs.Option.{option_copied}
use Rattle.host_net.proofs.RangesLemmas.{holder_told, told_beyond, told_within}
use Rattle.host_net.proofs.UntilLemmas.{before_more}
use Rattle.host_net.proofs.ranges.holder_until.Goals as goal

pub returns-in-Some-clause-held : goal.returns-in-Some-clause-held
returns-in-Some-clause-held c = λ a from to.
    let is = holder_told c.args.ranges.now c.begun-begun.result a (Some c.in-Some.range.now) c.requires.ordered
    (before_more _ c.args.addr a from c.begun-begun.ensures.before) (c.free_until-end.ensures.behind a (let least = c.min.ensures in omega (arith, to, least))) (sym c.last.ensures.value ∙ ap option_copied c.in-Some.is) in
    is ∙ told_within a c.in-Some.range.now (let least = c.min.ensures in omega (arith, to, least))

pub returns-in_default-clause-held : goal.returns-in_default-clause-held
returns-in_default-clause-held c = λ a from to.
    let is = holder_told c.args.ranges.now c.begun-begun.result a (Some c.in-Some.range.now) c.requires.ordered
    (before_more _ c.args.addr a from c.begun-begun.ensures.before) (c.free_until-end.ensures.behind a to) (sym c.last.ensures.value ∙ ap option_copied c.in-Some.is) in
    is ∙ told_beyond a c.in-Some.range.now (let beyond = c.if-addr-range.false in omega (arith, beyond, from))

pub returns-in_default-2-clause-held : goal.returns-in_default-2-clause-held
returns-in_default-2-clause-held c = λ a from to.
    holder_told c.args.ranges.now c.begun-begun.result a None c.requires.ordered
    (before_more _ c.args.addr a from c.begun-begun.ensures.before) (c.free_until-end.ensures.behind a to) (sym c.last.ensures.value ∙ ap option_copied c.in_default.is)
