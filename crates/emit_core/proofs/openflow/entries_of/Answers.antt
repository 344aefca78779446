use Rattle.emit_core.specs.FlowTable.{flow_entries}
use Rattle.emit_core.proofs.EntrySteps.{all_counted}
use Rattle.emit_core.proofs.HostSteps.{put_together}
use Rattle.emit_core.proofs.openflow.entries_of.Goals as goal

pub returns : goal.returns
returns c =
    let policy = c.args.policy.now in
    all_counted (flow_entries policy.site policy.permitted) c.push-2.new.self
    (put_together policy.site policy.permitted c.rest-rest.result c.new-entries.result c.push_between.new.entries c.push_with_rest.new.entries c.push.new.self c.push-2.new.self
    c.arp_entry.result c.other_entry.result c.rest-rest.ensures c.new-entries.ensures c.in_ok-push_between.ensures c.in_ok-push_with_rest.ensures c.in_ok-push.ensures c.in_ok-push-2.ensures c.arp_entry.ensures c.other_entry.ensures)
