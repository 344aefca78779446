-- The report of the sample (docs/TEXTS.md): the sizes of its policy, rules and offending sets, and the packets that the rules forward.
use Rattle.std.specs.Prelude.{◌≡◌, ◌≤◌, ◌<◌, ℕ, ◌+◌, ◌*◌, ◌^◌, Bool, false, List, [], ◌++◌, length, map, filter, flat_map, Option, Ok, codes, decimal}
use Rattle.std.specs.Option.{unwrap_or}
use Rattle.text_core.specs.FirstMatch.{Numbered, numbered}
use Rattle.desc_core.specs.Description.{described_by_table}
use Rattle.emit_core.specs.FlowTable.{flow_entries}
use Rattle.emit_core.specs.FlowTableEvents.{AnswersAreCovered}
use Rattle.emit_core.specs.Layout.{layout}
use Rattle.flow_set.specs.EveryFlow.{every_flow}
use Rattle.flow_set.specs.declared.flow.Flow.{Flow}
use Rattle.host_net.specs.declared.packet.Packet.{Packet}
use Rattle.ipt_rules.specs.Chain.{Chain}
use Rattle.ipt_rules.specs.Semantics.{PassesChains}
use Rattle.ipt_rules.specs.Text.{text_lines}
use Rattle.net_core.specs.Network.{Network}
use Rattle.net_core.specs.Policies.{IsPolicyOf, Policy}
use Rattle.ofp_rules.specs.Ambiguity.{most_entries}
use Rattle.ofp_rules.specs.Text.{text_lines as table_text_lines}
use Rattle.pkt_core.specs.declared.event.Event.{Event}
use Rattle.pkt_core.specs.declared.event.Event.TheVariants.{Seen}
use Rattle.pkt_core.specs.Filter.{RunsFromNoConnections}
use Rattle.pkt_core.specs.FlowPolicy.{FlowPolicy}
use Rattle.report_core.specs.CheckReport.{AreViolations}
use Rattle.report_core.specs.FlowPolicies.{flow_policy_of}
use Rattle.sample_core.specs.SampleTable.{sample_table}
use Rattle.sample_core.specs.declared.counts.TableLines.{TableLines}
use Rattle.sample_core.specs.declared.counts.TableLines.TheVariants.{Lines, NeedsState, TooMany}

-- The only address of host k.
abbrev pub sample_address : ℕ → ℕ
sample_address k = 10 * 2 ^ 24 + k

-- The packet of a flow: between the addresses of its two hosts, of protocol 17, from port 1000 to port 1000.
abbrev pub packet_between : Flow → Packet
packet_between f = record { src = sample_address f.from; dst = sample_address f.to; proto = 17; sport = 1000; dport = 1000 }

-- One packet is seen for each flow between two hosts, in order.
abbrev pub sample_events : ℕ → List Event
sample_events n = map Seen (map packet_between (every_flow n))

-- The lines of the flow table of a policy: a table is stateless, and has an entry limit.
abbrev pub IsTableLines : FlowPolicy → TableLines → Type 0
IsTableLines policy NeedsState = AnswersAreCovered policy → ⊥
IsTableLines policy TooMany = AnswersAreCovered policy × (most_entries < length (flow_entries policy.site policy.permitted))
IsTableLines policy (Lines count) =
    AnswersAreCovered policy × (length (flow_entries policy.site policy.permitted) ≤ most_entries)
    × (count ≡ length (table_text_lines (flow_entries policy.site policy.permitted)))

-- The chains of a policy of the network.
abbrev pub chains_of : Network → Policy → List Chain
chains_of d policy = layout (flow_policy_of d policy)

-- The results for the sample of n hosts: the network that its table describes, its policy, the finding for each invariant, the lines of its
-- flow table, and the packets that its chains forward from an empty connection table.
pub record Found (n : ℕ) : Type 0 where
  pub network : Network
  pub described : described_by_table (sample_table n) ≡ Ok network
  pub policy : Policy
  pub is_policy : IsPolicyOf network policy
  pub offences : List (Option (List Flow))
  pub are_offences : AreViolations network.invariants network.asked.flows offences
  pub table : TableLines
  pub is_table : IsTableLines (flow_policy_of network policy) table
  pub results : List (Option Bool)
  pub run : RunsFromNoConnections (PassesChains (chains_of network policy)) (sample_events n) results

-- ---- the printed form

-- The size of the finding for an invariant.
abbrev pub offence_size : Option (List Flow) → ℕ
offence_size offence = length (unwrap_or offence [])

-- The result of an event is that a packet passes.
abbrev pub was_forwarded : Option Bool → Bool
was_forwarded answer = unwrap_or answer false

-- A word and a number.
abbrev pub count_line : List ℕ → ℕ → List ℕ
count_line word count = word ++ (codes " " ++ (decimal count ++ codes "\n"))

-- The lines for each invariant, by its number.
abbrev pub offending_lines : List ℕ → List ℕ
offending_lines counts = flat_map (λ (told : Numbered ℕ). count_line (codes "offending " ++ decimal told.number) told.what) (numbered counts)

-- The line for the flow table.
abbrev pub table_line : TableLines → List ℕ
table_line (Lines count) = count_line (codes "openflow") count
table_line NeedsState = codes "openflow needs state\n"
table_line TooMany = codes "openflow too many\n"

-- The report of the results, line by line.
abbrev pub sample_text : (n : ℕ) → Found n → List ℕ
sample_text n found =
    count_line (codes "sample") n
    ++ (count_line (codes "hosts") (length found.network.hosts)
    ++ (count_line (codes "asked") (length found.network.asked.flows)
    ++ (offending_lines (map offence_size found.offences)
    ++ (count_line (codes "permitted") (length found.policy.permitted.flows)
    ++ (count_line (codes "stateful") (length found.policy.stateful.flows)
    ++ (count_line (codes "iptables") (length (text_lines (chains_of found.network found.policy)))
    ++ (table_line found.table
    ++ (count_line (codes "events") (length (sample_events n))
    ++ count_line (codes "forwarded") (length (filter was_forwarded found.results))))))))))

-- The text is the report of the sample of n hosts.
pub record IsSample (n : ℕ) (text : List ℕ) : Type 0 where
  pub found : Found n
  pub written : text ≡ sample_text n found
