use Rattle.std.proofs.Common.{◌∙◌, sym}
use Rattle.host_net.proofs.OverlapLemmas.{meeting_other, meeting_own}
use Rattle.host_net.proofs.overlap.neighbour.Goals as goal

pub returns-in-Some-clause-place : goal.returns-in-Some-clause-place
returns-in-Some-clause-place c =
    meeting_other c.args.hosts.now c.args.own.now c.args.prefix.now c.in-Some.host (sym c.among.ensures.place ∙ c.in-Some.is)

pub returns-in-None-clause-place : goal.returns-in-None-clause-place
returns-in-None-clause-place c =
    meeting_own c.args.hosts.now c.args.own.now c.args.prefix.now _ (sym c.among.ensures.place ∙ c.in-None.is)
    (sym c.meets_any.ensures ∙ c.if-meets_any.true)

pub returns-in-None-2-clause-place : goal.returns-in-None-2-clause-place
returns-in-None-2-clause-place c =
    meeting_own c.args.hosts.now c.args.own.now c.args.prefix.now _ (sym c.among.ensures.place ∙ c.in-None.is)
    (sym c.meets_any.ensures ∙ c.if-meets_any.false)
