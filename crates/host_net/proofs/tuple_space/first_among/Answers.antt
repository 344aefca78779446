use Rattle.std.proofs.Common.{List, slice_index_or, sym, subst, arith, take}
use Rattle.std.proofs.lemmas.List.{take_all, take_more}
use Rattle.std.proofs.lemmas.List.Elements.{Contains-get_or}
use Rattle.host_net.specs.declared.tuple_space.Group.{Group}
use Rattle.host_net.specs.inner.CoverView.{Begins, IsFirstKey}
use Rattle.host_net.proofs.CoverLemmas.{no_group}
use Rattle.host_net.proofs.tuple_space.first_among.Goals as goal

pub loop-group-preserved : goal.loop-group-preserved
loop-group-preserved c = λ order firsts.
    let groups = c.args.groups.now in
    let i = c.loop-group.group-index in
    let group = slice_index_or groups i no_group in
    subst (λ (gs : List Group). IsFirstKey (Begins gs c.args.src c.args.dst) c.args.keys.now c.args.from c.first_with-first.result) (sym (take_more groups i no_group c.loop-group-test.true))
    (c.first_with-first.ensures (take i groups) order (firsts.first group (Contains-get_or groups i no_group c.loop-group-test.true)) (c.loop-group.invariant order firsts))

pub returns : goal.returns
returns c = λ order firsts.
    let groups = c.args.groups.now in
    subst (λ (gs : List Group). IsFirstKey (Begins gs c.args.src c.args.dst) c.args.keys.now c.args.from c.loop-group.first)
    (take_all c.loop-group.group-index groups (omega (arith, c.loop-group-test.false))) (c.loop-group.invariant order firsts)
