use Rattle.std.proofs.Common.{◌≡◌, List, map, subst, ◌∷◌, [], ◌++◌, ap, sym, ◌∙◌, arith, zero-add, length}
use Rattle.std.proofs.lemmas.List.FromFn.{map-range_with_len_more, length-map-range_with_len}
use Rattle.std.specs.List.{range_with_len}
use Rattle.flow_set.specs.HostSet.{HostNumbers}
use Rattle.inv_law.specs.inner.Template.{AllMayHave}
use Rattle.tmpl_reach.specs.NoReach.{no_reach, others}
use Rattle.tmpl_reach.proofs.DeniedHosts.{AllMayHave-all_others}
use Rattle.tmpl_reach.proofs.no_reach.NoReach.new.Goals as goal

pub loop-host-preserved : goal.loop-host-preserved
loop-host-preserved c =
    c.in_ok-push.ensures.items ∙ (λ i. c.loop-host.invariant i ++ c.others.ensures i ∷ [])
    ∙ sym (map-range_with_len_more (others c.args.n) 0 c.loop-host.host c.loop-host.host (zero-add _))

pub invariant_of-result : goal.invariant_of-result
invariant_of-result c =
    let counted =
    ap (λ (xs : List HostNumbers). length xs) c.loop-host.invariant ∙ length-map-range_with_len (others c.args.n) 0 c.loop-host.host in
    let all : c.loop-host.host ≡ c.args.n = omega arith in
    let whole = c.loop-host.invariant ∙ ap (λ m. map (others c.args.n) (range_with_len 0 m)) all in
    record {
      few = omega (arith, counted);
      may_have = subst (AllMayHave no_reach) (sym whole) (AllMayHave-all_others c.args.n);
    }
