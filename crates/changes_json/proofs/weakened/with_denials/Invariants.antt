use Rattle.std.proofs.Common.{◌≡◌, map, take}
use Rattle.std.specs.List.{All}
use Rattle.changes_json.specs.inner.Denying.{HasFinding}
use Rattle.changes_json.proofs.weakened.with_denials.Given as goal

-- The list has the weaker flows so far, each with the numbers of a finding.
abbrev pub invariant-loop-flows : goal.invariant-loop-flows
invariant-loop-flows l = record {
  flows : map (λ x. x.flows) l.list.items ≡ take l.flows-index l.weaker;
  denied_by : All (λ x. HasFinding l.denials x.flows.old x.denied_by.items) l.list.items;
}
