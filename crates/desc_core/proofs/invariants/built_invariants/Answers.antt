use Rattle.std.proofs.Common.{append_assoc, arith, ap, length, subst, List}
use Rattle.std.proofs.lemmas.List.Elements.{All-tail}
use Rattle.std.specs.List.{All}
use Rattle.std.specs.Vec.Iter.{into_iter_items}
use Rattle.desc_core.specs.declared.invariants.Judged.{Judged}
use Rattle.desc_core.specs.inner.Judgement.{CanBeBuilt}
use Rattle.desc_core.proofs.invariants.built_invariants.Goals as goal

pub loop-one-preserved : goal.loop-one-preserved
loop-one-preserved c =
    let kept = c.loop-one.invariant in
    let next = c.in-Some.ensures.steps in
    record {
      sized = omega (arith, ap length next.0, next.1, kept.sized);
      buildable =
          All-tail (CanBeBuilt c.args.hosts.now) c.in-Some.one (into_iter_items c.next.new.self)
          (subst (λ (left : List Judged). All (CanBeBuilt c.args.hosts.now) left) next.0 kept.buildable);
      grown = rw (c.in_ok-push.ensures.items, c.in_ok-built_invariant.ensures, append_assoc) (rw next.0 at kept.grown);
    }
