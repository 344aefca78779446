use Rattle.audit_core.specs.Parts.{entry_parts}
use Rattle.audit_core.proofs.NamedLemmas.{listed_more, named_step, take_more}
use Rattle.audit_core.proofs.named.push_entries.Goals as goal

pub loop-k-preserved : goal.loop-k-preserved
loop-k-preserved c =
    named_step _ _ _ c.args.found.now c.loop-k.found c.push_entry.new.found c.loop-k.invariant c.in_ok-push_entry.ensures
    (listed_more entry_parts c.args.table.now c.loop-k.k c.entry.result (take_more c.args.table.now c.loop-k.k c.entry.result c.entry.ensures))
