-- The rules of both dialects, as filters.
use Rattle.std.specs.Prelude.{List, Option, Some, None}
use Rattle.pkt_core.specs.Firewall.{Filter}
use Rattle.ipt_rules.specs.Chain.{Chain}
use Rattle.ipt_rules.specs.Semantics.{PassesChains}
use Rattle.ofp_rules.specs.declared.entry.Entry.{Entry}
use Rattle.ofp_rules.specs.Semantics.{PassesEntries}

-- AnyRules: rules of either dialect, the chains of a packet filter, or the entries of a flow table.
pub data AnyRules : Type 0 where
  Chains : List Chain → AnyRules
  Entries : List Entry → AnyRules

-- The filter of the rules: the packets that they forward in each state. A flow table is stateless.
abbrev pub filter_of : AnyRules → Filter
filter_of (Chains chains) = PassesChains chains
filter_of (Entries entries) = PassesEntries entries

-- The chains of the rules. A flow table has none.
abbrev pub chains_of : AnyRules → Option (List Chain)
chains_of (Chains chains) = Some chains
chains_of (Entries entries) = None
