use Rattle.emit_core.proofs.FlowTableUnnarrowedLaws.{flow_entries-unnarrowed, AnswersAreCovered-unnarrowed}
use Rattle.emit_core.proofs.UnnarrowedLaws.{is_of-unnarrowed, host_rules-unnarrowed}
use Rattle.emit_core.proofs.laws.unnarrowed_flows_are_whole.Goals as goal

pub returns : goal.returns
returns c = record {
  meaning = is_of-unnarrowed;
  chains = host_rules-unnarrowed;
  entries = flow_entries-unnarrowed;
  answers = AnswersAreCovered-unnarrowed;
}
