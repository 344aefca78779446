use Rattle.std.proofs.Common.{◌≡◌, ◌-◌}
use Rattle.std.specs.List.{list_all, range_with_len}
use Rattle.pass_core.specs.Dead.{is_listed}
use Rattle.nft_flows.specs.inner.Selected.{has_all}
use Rattle.nft_flows.proofs.selected.has_all.Given as goal

abbrev pub invariant-loop-rule : goal.invariant-loop-rule
invariant-loop-rule l =
    list_all (λ n. is_listed l.rules (record { chain = l.span.chain; rule = n })) (range_with_len l.rule (l.span.end - l.rule)) ≡ has_all l.rules l.span
