use Rattle.std.proofs.Common.{◌+◌, drop, take}
use Rattle.std.specs.Prelude.{IsTrue}
use Rattle.permit_core.specs.Policy.{AllHold}
use Rattle.net_core.specs.Policies.{MeetsAll, holds_on}
use Rattle.report_core.proofs.OffenceLemmas.{GoesOn}
use Rattle.report_core.proofs.check.push_offences.Given as goal

abbrev pub invariant-loop-place : goal.invariant-loop-place
invariant-loop-place l = record {
  -- The invariants so far are reported.
  report : GoesOn l.fn.description l.text.items (l.place + 1) (drop l.place l.invariants);
  -- They hold if and only if none of them has a finding.
  held : IsTrue l.holds → AllHold holds_on (take l.place l.invariants) l.fn.description.asked.flows;
  all : MeetsAll l.fn.description l.fn.description.asked.flows → IsTrue l.holds;
}
