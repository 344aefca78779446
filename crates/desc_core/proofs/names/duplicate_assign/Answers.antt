use Rattle.std.proofs.Common.{◌+◌, List, map, sym, ap, ◌∙◌}
use Rattle.desc_core.proofs.ListingLaws.{found_here}
use Rattle.desc_core.specs.UseConditions.{duplicate_assign_of}
use Rattle.desc_form.specs.inner.RawView.{assign_view, invariant_view}
use Rattle.desc_form.specs.declared.raw.RawAssign.{RawAssign}
use Rattle.desc_core.proofs.names.duplicate_assign.Goals as goal

pub returns-then-is_some : goal.returns-then-is_some
returns-then-is_some c =
    let i = c.loop-index.index in
    let invariant = c.index-invariants-index.result in
    found_here duplicate_assign_of invariant_view c.args.invariants.now i invariant c.duplicate_in-found.result _ c.loop-index-test.true c.index-invariants-index.is
    (c.duplicate_in-found.ensures
    ∙ ap (λ (assigns : List RawAssign). duplicate_assign_of (record { number = i + 1; what = record { template = (invariant_view invariant).template; assigns = map assign_view assigns } })) c.deref.ensures.value)
    (sym c.is_some.ensures ∙ c.if-is_some.true) c.loop-index.invariant.same
