use Rattle.std.proofs.Common.{List, None, subst}
use Rattle.header_space.specs.declared.address_range.AddressRange.{AddressRange}
use Rattle.audit_core.specs.inner.Pairs.{DiffersSo, IsFoundBetween, ranges_in}
use Rattle.audit_core.specs.Pairs.{cases_between}
use Rattle.audit_core.proofs.PairLaws.{added_none, listed_nothing, six_added}
use Rattle.audit_core.proofs.SourceLaws.{none_differs, none_when}
use Rattle.audit_core.proofs.pairs.push_pair.Goals as goal

pub returns-then-is_none : goal.returns-then-is_none
returns-then-is_none c = λ sides sender owned.
    added_none sides (cases_between c.args.from.now.owner c.args.to.now.owner) c.args.list.now.items
    (listed_nothing sides c.args.from.now.owner c.args.to.now.owner
    (none_differs sides c.args.from.now c.args.to.now sender owned c.in_ok-some.some (none_when c.in_ok-some.some c.is_none.result c.is_none.ensures c.if-is_none.true)
    (subst (λ (l : List AddressRange). IsFoundBetween (DiffersSo sides None) (ranges_in c.args.from.now.sources.items) l c.in_ok-some.some)
    c.deref.ensures.value (c.in_ok-some.ensures sides sender.each))))

pub returns : goal.returns
returns c = λ sides sender owned.
    six_added sides c.args.from.now.owner c.args.to.now.owner c.args.list.now.items c.push_case.new.list.items c.push_case-2.new.list.items
    c.push_case-3.new.list.items c.push_case-4.new.list.items c.push_case-5.new.list.items c.push_case-6.new.list.items
    (c.in_ok-push_case.ensures sides sender owned) (c.in_ok-push_case-2.ensures sides sender owned) (c.in_ok-push_case-3.ensures sides sender owned)
    (c.in_ok-push_case-4.ensures sides sender owned) (c.in_ok-push_case-5.ensures sides sender owned) (c.in_ok-push_case-6.ensures sides sender owned)
