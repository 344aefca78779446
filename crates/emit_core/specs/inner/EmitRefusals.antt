-- The reasons why a policy has no chains, or no flow table, and why a call emits nothing.
use Rattle.std.specs.Prelude.{◌≡◌, ◌<◌, List, length}
use Rattle.host_net.specs.Site.{Site}
use Rattle.flow_set.specs.declared.flow.Flow.{Flow}
use Rattle.pkt_core.specs.FlowPolicy.{FlowPolicy}
use Rattle.ipt_rules.specs.ChainTable.{rule_count}
use Rattle.ofp_rules.specs.Ambiguity.{most_entries}
use Rattle.emit_core.specs.declared.refusal.EmitRefusal.{EmitRefusal}
use Rattle.emit_core.specs.declared.refusal.EmitRefusal.TheVariants as emit
use Rattle.emit_core.specs.declared.refusal.NoChains.{NoChains}
use Rattle.emit_core.specs.declared.refusal.NoChains.TheVariants.{TooManyRules, Memory}
use Rattle.emit_core.specs.declared.refusal.NoTable.{NoTable}
use Rattle.emit_core.specs.declared.refusal.NoTable.TheVariants.{RangeOfPorts, TooManyEntries, Memory as NoMemory}
use Rattle.emit_core.specs.FlowTable.{flow_entries}
use Rattle.emit_core.specs.Layout.{layout}
use Rattle.emit_core.specs.PortRanges.{HasNoRange, IsFirstRange}
use Rattle.emit_core.specs.EmitRefusals.{rule_limit}

-- The reasons for no chains: there are too many rules, or memory allocation fails.
abbrev pub HasNoChains : FlowPolicy → NoChains → Type 0
HasNoChains policy (TooManyRules count) = (rule_limit < rule_count (layout policy)) × (count ≡ rule_count (layout policy))
HasNoChains policy Memory = Unit {0}

-- The reasons for no table: a permitted flow has a range of ports; or no flow has one, and there are too many entries; or memory allocation
-- fails.
abbrev pub HasNoTable : Site → List Flow → NoTable → Type 0
HasNoTable site p (RangeOfPorts flow) = IsFirstRange site.services p flow
HasNoTable site p (TooManyEntries count) = HasNoRange site.services p × (most_entries < length (flow_entries site p)) × (count ≡ length (flow_entries site p))
HasNoTable site p NoMemory = Unit {0}

-- An EmitRefusal of iptables rules is the reason for no chains. It is never a range of ports.
abbrev pub IsIptablesRefusal : FlowPolicy → EmitRefusal → Type 0
IsIptablesRefusal policy (emit.RangeOfPorts flow) = ⊥
IsIptablesRefusal policy (emit.TooManyRules count) = HasNoChains policy (TooManyRules count)
IsIptablesRefusal policy emit.Memory = HasNoChains policy Memory

-- An EmitRefusal of a flow table is the reason for no table.
abbrev pub IsOpenflowRefusal : Site → List Flow → EmitRefusal → Type 0
IsOpenflowRefusal site p (emit.RangeOfPorts flow) = HasNoTable site p (RangeOfPorts flow)
IsOpenflowRefusal site p (emit.TooManyRules count) = HasNoTable site p (TooManyEntries count)
IsOpenflowRefusal site p emit.Memory = HasNoTable site p NoMemory
