-- The numbers of the sample, as separate values of the code, and their text.
use Rattle.std.specs.Prelude.{◌≡◌, ℕ, Bool, List, ◌++◌, length, map, filter, Option, codes}
use Rattle.flow_set.specs.declared.flow.Flow.{Flow}
use Rattle.ipt_rules.specs.Chain.{Chain}
use Rattle.ipt_rules.specs.Semantics.{PassesChains}
use Rattle.ipt_rules.specs.Text.{text_lines}
use Rattle.net_core.specs.Network.{Network}
use Rattle.pkt_core.specs.declared.event.Event.{Event}
use Rattle.pkt_core.specs.Filter.{RunsFromNoConnections}
use Rattle.pkt_core.specs.Firewall.{Filter}
use Rattle.report_core.specs.CheckReport.{AreViolations}
use Rattle.sample_core.specs.Sample.{Found, chains_of, count_line, offence_size, offending_lines, sample_events, table_line, was_forwarded}
use Rattle.sample_core.specs.declared.counts.TableLines.{TableLines}
use Rattle.sample_core.specs.declared.printed.Counts.{Counts}

-- The numbers for each invariant of a network.
pub record AreOffending (d : Network) (counts : List ℕ) : Type 0 where
  pub offences : List (Option (List Flow))
  pub found : AreViolations d.invariants d.asked.flows offences
  pub counted : counts ≡ map offence_size offences

-- The number of packets that a run of the filter forwards, from an empty connection table.
pub record AreForwarded (filter_of : Filter) (events : List Event) (count : ℕ) : Type 0 where
  pub results : List (Option Bool)
  pub run : RunsFromNoConnections filter_of events results
  pub counted : count ≡ length (filter was_forwarded results)

-- The number of lines of the text of the chains, of events, and of packets that the chains forward.
pub record AreRunCounts (n : ℕ) (chains : List Chain) (rules events forwarded : ℕ) : Type 0 where
  pub lines : rules ≡ length (text_lines chains)
  pub all : events ≡ length (sample_events n)
  pub passed : AreForwarded (PassesChains chains) (sample_events n) forwarded

-- The numbers of the results for the sample of n hosts.
pub record AreCounts (n : ℕ) (counts : Counts) : Type 0 where
  pub found : Found n
  pub hosts : counts.hosts ≡ length found.network.hosts
  pub asked : counts.asked ≡ length found.network.asked.flows
  pub offending : counts.offending.items ≡ map offence_size found.offences
  pub permitted : counts.permitted ≡ length found.policy.permitted.flows
  pub stateful : counts.stateful ≡ length found.policy.stateful.flows
  pub rules : counts.run.rules ≡ length (text_lines (chains_of found.network found.policy))
  pub table : counts.table ≡ found.table
  pub events : counts.run.events ≡ length (sample_events n)
  pub forwarded : counts.run.forwarded ≡ length (filter was_forwarded found.results)

-- The text of these numbers.
abbrev pub rows : (n hosts asked : ℕ) (offending : List ℕ) (permitted stateful rules : ℕ) → TableLines → (events forwarded : ℕ) → List ℕ
rows n hosts asked offending permitted stateful rules table events forwarded =
    count_line (codes "sample") n
    ++ (count_line (codes "hosts") hosts
    ++ (count_line (codes "asked") asked
    ++ (offending_lines offending
    ++ (count_line (codes "permitted") permitted
    ++ (count_line (codes "stateful") stateful
    ++ (count_line (codes "iptables") rules
    ++ (table_line table
    ++ (count_line (codes "events") events
    ++ count_line (codes "forwarded") forwarded))))))))

abbrev pub counts_text : ℕ → Counts → List ℕ
counts_text n counts =
    rows n counts.hosts counts.asked counts.offending.items counts.permitted counts.stateful counts.run.rules counts.table
    counts.run.events counts.run.forwarded
