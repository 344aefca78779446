use Rattle.std.proofs.Common.{◌≡◌, sym, subst, arith, List, Result, Ok, Err, IfErr}
use Rattle.std.specs.Result.{IsErrAnd}
use Rattle.ofp_rules.specs.declared.entry.Entry.{Entry}
use Rattle.ofp_rules.specs.inner.Build.{IsNotAdded, IsRefused, IsUnambiguous}
use Rattle.ofp_rules.proofs.EntryLemmas.{refused_by}
use Rattle.ofp_rules.proofs.table.Table.build.Goals as goal

handed_on : {A E : Type 0} (P : E → Type 0) (result : Result A E) (why : E) → IsErrAnd result (λ w. w ≡ why) → P why → IfErr result P
handed_on P (Ok x) why is holds = tt
handed_on P (Err w) why is holds = subst P (sym is) holds

pub returns-in_err-add-clause-refused : goal.returns-in_err-add-clause-refused
returns-in_err-add-clause-refused c =
    let entries = c.deref-entry-items.result.now in
    let i = c.loop-entry.entry-index in
    handed_on (IsRefused c.args.entries.items) c.from_residual-in_err-add.result c.in_err-add.field-0.0
    c.from_residual-in_err-add.ensures.1 (
    subst (λ (es : List Entry). IsRefused es c.in_err-add.field-0.0) c.deref-entry-items.ensures.value
    (refused_by entries i c.entry-item.result c.in_err-add.field-0.0 (omega arith) (omega arith) c.entry-item.is
    (subst IsUnambiguous c.loop-entry.invariant.so_far c.loop-entry.invariant.is.accepted.1)
    (subst (λ (es : List Entry). IsNotAdded es c.entry-item.result c.in_err-add.field-0.0)
    c.loop-entry.invariant.so_far c.in_err-add.ensures.refused))
    )
