use Rattle.std.proofs.Common.{◌≡◌, ◌≤◌, ◌<◌, ◌++◌, ◌∷◌, [], ◌∙◌, List, length, true, sym, ap, subst, arith}
use Rattle.std.specs.List.Sorted.{IsNonDecreasingBy, IsPartitionPoint}
use Rattle.host_net.specs.declared.tuple_space.Group.{Group}
use Rattle.host_net.specs.declared.tuple_space.Key.{Key}
use Rattle.host_net.specs.inner.CoverView.{AreIndexOf, has_lengths, key_of, rank}
use Rattle.host_net.proofs.CoverLemmas.{always, index_more, index_noted, noted_there}
use Rattle.host_net.proofs.tuple_space.TupleSpaceIndex.add.Goals as goal

pub returns-in_err-note-clause-kept : goal.returns-in_err-note-clause-kept
returns-in_err-note-clause-kept c =
    always c.from_residual.result _ (λ all is.
    subst (λ (gs : List Group). AreIndexOf all c.args.self.now.keys.items gs) (sym c.in_err-note.ensures.err) is)

pub returns-in_err-insert-clause-kept : goal.returns-in_err-insert-clause-kept
returns-in_err-insert-clause-kept c =
    let index = c.args.self.now in
    let key = c.key_of-key.result in
    let counted : key.place ≡ length index.keys.items = ap (λ (k : Key). k.place) c.key_of-key.ensures.key ∙ omega (arith, c.len.ensures, c.args.self.now.keys.ok) in
    always c.from_residual-in_err-insert.result _ (λ all is.
    subst (λ (ks : List Key). AreIndexOf all ks c.note.new.groups.items) (sym c.in_err-insert.ensures.items)
    (subst (λ (gs : List Group). AreIndexOf all index.keys.items gs) (sym c.in_ok-note.ensures.ok) (index_noted all index.keys.items index.groups.items key counted is)))

pub returns-clause-added : goal.returns-clause-added
returns-clause-added c = λ all is.
    let index = c.args.self.now in
    let keys = index.keys.items in
    let groups = c.note.new.groups.items in
    let new = c.key_of-key.result in
    let counted : c.len.result ≡ length keys = omega (arith, c.len.ensures, c.args.self.now.keys.ok) in
    let last : new.place ≡ length keys = ap (λ (k : Key). k.place) c.key_of-key.ensures.key ∙ counted in
    let at = c.place_of-place.result in
    let bound = subst (λ (ks : List Key). at ≤ length ks) c.deref.ensures.value c.place_of-place.ensures.bound in
    let found = subst (λ (ks : List Key). IsNonDecreasingBy rank ks → IsPartitionPoint (λ k. rank k < rank new) (λ k. rank new ≤ rank k) ks at)
    c.deref.ensures.value c.place_of-place.ensures.point in
    let point = found is.order.rise in
    let now = subst (λ (gs : List Group). AreIndexOf all keys gs) (sym c.in_ok-note.ensures.ok) (index_noted all keys index.groups.items new last is) in
    let there = subst (λ (gs : List Group). has_lengths gs new.lengths ≡ true) (sym c.in_ok-note.ensures.ok) (noted_there index.groups.items new) in
    subst (λ (ks : List Key). AreIndexOf (all ++ c.args.ends ∷ []) ks groups) (sym c.in_ok-insert.ensures.items)
    (index_more all keys groups c.args.ends new at now
    (c.key_of-key.ensures.key ∙ ap (key_of c.args.ends) counted) c.key_of-key.ensures.small bound point there)
