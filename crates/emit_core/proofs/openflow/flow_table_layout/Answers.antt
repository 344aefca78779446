use Rattle.std.proofs.Common.{◌≡◌, ℕ, ◌≤◌, ◌∙◌, refl, sym, ap, subst, List, length, arith}
use Rattle.std.specs.List.{list_all}
use Rattle.host_net.specs.Site.{Site}
use Rattle.host_net.specs.inner.Site.{IsSite}
use Rattle.flow_set.specs.declared.flow.Flow.{Flow}
use Rattle.pkt_core.specs.FlowPolicy.{policy_with}
use Rattle.ofp_rules.specs.declared.entry.Entry.{Entry}
use Rattle.ofp_rules.specs.declared.table.TableRefusal.{TableRefusal}
use Rattle.ofp_rules.specs.declared.table.TableRefusal.TheVariants.{TooMany, Ambiguous, Memory}
use Rattle.ofp_rules.specs.inner.Build.{IsRefused}
use Rattle.ofp_rules.specs.Matching.{asks_of_ip}
use Rattle.emit_core.specs.FlowTable.{flow_entries}
use Rattle.emit_core.proofs.FlowTableEventsLaws.{arp_alone, flows_enforced, flows_expected}
use Rattle.emit_core.proofs.FlowTableLaws.{ForwardsFlows, unambiguous}
use Rattle.emit_core.proofs.FlowTableRangeLaws.{all_ask}
use Rattle.emit_core.proofs.FlowTableVerdictLaws.{forwards_flows}
use Rattle.emit_core.specs.PortRanges.{HasNoRange}
use Rattle.emit_core.proofs.openflow.flow_table_layout.Goals.{in-Memory, in_default-matches}
use Rattle.emit_core.proofs.openflow.flow_table_layout.Goals as goal

pub build-requires-clause-asks : goal.build-requires-clause-asks
build-requires-clause-asks c =
    ap (list_all asks_of_ip) (c.into_kept.ensures ∙ c.in-Ok.ensures.kept (omega (arith, c.count-count-2.ensures, c.if-count-gt-ENTRY_LIMIT.false))) ∙ all_ask c.args.policy.now.site c.args.policy.now.permitted c.count-count.ensures.policy.site.services

-- Entries within the limit and without a range of ports are refused only if memory allocation fails.
memory_alone : (site : Site) (p : List Flow) (entries : List Entry) (count : ℕ) (why : TableRefusal) → IsSite site → HasNoRange site.services p
    → entries ≡ flow_entries site p → count ≡ length (flow_entries site p) → count ≤ 8192 → IsRefused entries why → why ≡ Memory
memory_alone site p entries count (TooMany n) known plain is all few refused = absurd (omega (arith, refused.0, ap length is))
memory_alone site p entries count (Ambiguous i j) known plain is all few refused =
    absurd (subst (λ (es : List Entry). IsRefused es (Ambiguous i j) → ⊥) (sym is) (λ bad. unambiguous site p known plain i j bad.1.ambiguous) refused)
memory_alone site p entries count Memory known plain is all few refused = refl

pub prove-unreachable-requires : goal.prove-unreachable-requires
prove-unreachable-requires c =
    elim c.match-matches.branch [
      | in-Memory w ↦ cc (w.matches-is, c.if-prove.true)
      | in_default-matches w ↦ w.in_default-matches.not-Memory
          (memory_alone c.args.policy.now.site c.args.policy.now.permitted c.into_kept.result.items c.count-count-2.result c.in-Err.why
          c.count-count.ensures.policy.site c.in_default.ensures
          (c.into_kept.ensures ∙ c.in-Ok.ensures.kept (omega (arith, c.count-count-2.ensures, c.if-count-gt-ENTRY_LIMIT.false)))
          (c.count-count-2.ensures ∙ c.in-Ok.ensures.counted) c.if-count-gt-ENTRY_LIMIT.false c.in-Err.ensures.refused)
    ]

forwards : (c : goal.In-Ok-build) → ForwardsFlows c.in-Ok-build.table c.args.policy.now.site c.args.policy.now.permitted
forwards c =
    let site = c.args.policy.now.site in
    subst (λ (es : List Entry). ForwardsFlows es site c.args.policy.now.permitted) (sym (c.in-Ok-build.ensures.ok ∙ c.into_kept.ensures ∙ c.in-Ok.ensures.kept (omega (arith, c.count-count-2.ensures, c.if-count-gt-ENTRY_LIMIT.false))))
    (forwards_flows site c.args.policy.now.permitted c.count-count.ensures.policy.site c.in_default.ensures)

pub returns-in-Ok-build-clause-enforces : goal.returns-in-Ok-build-clause-enforces
returns-in-Ok-build-clause-enforces c = flows_enforced c.in-Ok-build.table c.args.policy.now.site c.args.policy.now.permitted (forwards c)

pub returns-in-Ok-build-clause-others : goal.returns-in-Ok-build-clause-others
returns-in-Ok-build-clause-others c = arp_alone c.in-Ok-build.table c.args.policy.now.site c.args.policy.now.permitted (forwards c)

pub returns-in-Ok-build-clause-expected : goal.returns-in-Ok-build-clause-expected
returns-in-Ok-build-clause-expected c =
    λ s answers. flows_expected c.in-Ok-build.table (policy_with c.args.policy.now.site c.args.policy.now.permitted s) (forwards c) answers
