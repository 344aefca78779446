use Rattle.std.proofs.Common.{ℕ, ◌++◌, ◌∙◌, ap, codes, decimal, refl}
use Rattle.emit_core.specs.inner.EmitRefusals.{HasNoTable}
use Rattle.emit_core.specs.declared.refusal.NoTable.TheVariants as refusal
use Rattle.run_core.specs.Dialects.{NeedsState, RangeOfPorts, TooManyFlows}
use Rattle.run_core.specs.Reply.{not_emittable}
use Rattle.run_core.proofs.dialect.flows.layout.Goals as goal

pub returns-in-Some : goal.returns-in-Some
returns-in-Some c = NeedsState c.in-Some.flow c.in-Some.ensures.barred (rw c.hosts-hosts.ensures.value at c.in_ok-line.ensures)

pub returns-in_ok-line-in-Err-RangeOfPorts : goal.returns-in_ok-line-in-Err-RangeOfPorts
returns-in_ok-line-in-Err-RangeOfPorts c =
    let flow = c.in-Err-RangeOfPorts.flow in
    let ranged : HasNoTable c.args.policy.now.site c.args.policy.now.permitted (refusal.RangeOfPorts flow) =
    rw c.in-Err-RangeOfPorts.field-0-is at c.in-Err-RangeOfPorts.ensures.refused in
    RangeOfPorts flow c.in_default.ensures.barred ranged (rw c.hosts-hosts.ensures.value at c.in_ok-line-in-Err-RangeOfPorts.ensures)

pub returns-in_ok-count_line-in-Err-TooManyEntries : goal.returns-in_ok-count_line-in-Err-TooManyEntries
returns-in_ok-count_line-in-Err-TooManyEntries c =
    let count = c.in-Err-TooManyEntries.count in
    let many : HasNoTable c.args.policy.now.site c.args.policy.now.permitted (refusal.TooManyEntries count) =
    rw c.in-Err-TooManyEntries.field-0-is at c.in-Err-TooManyEntries.ensures.refused in
    TooManyFlows c.in_default.ensures.barred many.0 many.1
    (c.in_ok-count_line-in-Err-TooManyEntries.ensures ∙ ap (λ (n : ℕ). not_emittable (decimal n ++ codes " flows exceed 8192\n")) many.2)

pub returns-in-Ok : goal.returns-in-Ok
returns-in-Ok c =
    ((c.in_default.ensures.barred, c.in-Ok.ensures.ports, c.in-Ok.ensures.few), (c.in-Ok.table, c.in-Ok.ensures.layout, refl))
