use Rattle.std.proofs.Common.{List, IfOk, ◌∙◌, ap, length, subst, arith}
use Rattle.host_net.specs.declared.tuple_space.Ends.{Ends}
use Rattle.host_net.specs.inner.CoverView.{IsIndexOf}
use Rattle.ipt_rules.proofs.NextLemmas.{length_ends}
use Rattle.ipt_rules.proofs.next.index_of.Goals as goal

pub of-requires : goal.of-requires
of-requires c =
    let all = length_ends c.args.rules.now in
    let same = ap length (c.deref.ensures.value ∙ c.in_ok-all.ensures) in
    omega (arith, c.requires, all, same)

pub returns : goal.returns
returns c =
    subst (λ (es : List Ends). IfOk c.of.result (IsIndexOf es)) (c.deref.ensures.value ∙ c.in_ok-all.ensures) c.of.ensures
