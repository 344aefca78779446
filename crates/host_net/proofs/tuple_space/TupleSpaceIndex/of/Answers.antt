use Rattle.std.proofs.Common.{List, rules, subst, ◌∙◌}
use Rattle.std.proofs.lemmas.List.Sorted.{IsNonDecreasingBy-from_sort_by_key}
use Rattle.host_net.specs.declared.tuple_space.Key.{Key}
use Rattle.host_net.specs.inner.CoverView.{AreFirst, AreListed, rank}
use Rattle.host_net.proofs.CoverLemmas.{index_made}
use Rattle.host_net.proofs.tuple_space.TupleSpaceIndex.of.Goals as goal

pub returns : goal.returns
returns c =
    let keys = c.in_ok-keys.keys.items in
    let sorted = c.sort_unstable_by_key.new.self.items in
    let groups = c.in_ok-groups.groups.items in
    let listed = subst (λ (ks : List Key). AreListed groups ks) c.deref.ensures.value c.in_ok-groups.ensures.listed in
    let firsts = subst (λ (ks : List Key). AreFirst groups ks) c.deref.ensures.value (c.in_ok-groups.ensures.first c.args.all.now (c.deref.ensures.value ∙ c.in_ok-keys.ensures.keys)) in
    index_made c.args.all.now keys sorted groups c.in_ok-keys.ensures.keys c.in_ok-keys.ensures.small c.sort_unstable_by_key.ensures.permutation
    (IsNonDecreasingBy-from_sort_by_key rank _ c.sort_unstable_by_key.ensures.sorted (λ a r q k. search rules)) listed firsts
