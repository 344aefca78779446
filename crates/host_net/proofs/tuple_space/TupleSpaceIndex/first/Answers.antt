use Rattle.std.proofs.Common.{List, subst, arith}
use Rattle.host_net.specs.declared.tuple_space.Group.{Group}
use Rattle.host_net.specs.declared.tuple_space.Key.{Key}
use Rattle.host_net.specs.inner.CoverView.{AreFirst, AreInOrder, Begins, IsFirstKey}
use Rattle.host_net.proofs.CoverLemmas.{index_first, none_so_late}
use Rattle.host_net.proofs.tuple_space.TupleSpaceIndex.first.Goals as goal

pub returns-then-from : goal.returns-then-from
returns-then-from c = λ all is.
    let index = c.args.self.now in
    none_so_late all index.keys.items index.groups.items c.args.from c.args.src c.args.dst is (omega (arith, c.if-from.true))

pub returns : goal.returns
returns c = λ all is.
    let index = c.args.self.now in
    let found = c.first_among.result in
    let keys = subst (λ (ks : List Key). AreInOrder ks → AreFirst c.deref-2.result.now ks → IsFirstKey (Begins c.deref-2.result.now c.args.src c.args.dst) ks c.args.from found)
    c.deref.ensures.value c.first_among.ensures in
    let first = subst (λ (gs : List Group). AreFirst gs index.keys.items → IsFirstKey (Begins gs c.args.src c.args.dst) index.keys.items c.args.from found)
    c.deref-2.ensures.value (keys is.order) is.firsts in
    index_first all index.keys.items index.groups.items is c.args.src c.args.dst (omega (arith, c.ranges.src.fits)) (omega (arith, c.ranges.dst.fits)) c.args.from found first
