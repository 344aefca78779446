-- Effects of lists of rules on packets. Not visible to callers.
use Rattle.std.specs.Prelude.{◌≡◌, ℕ, ◌<◌, ◌++◌, ◌||◌, ◌&&◌, not, Bool, true, false, List, length, Option, Some, None}
use Rattle.host_net.specs.declared.packet.Packet.{Packet}
use Rattle.host_net.specs.declared.packet.CtState.{CtState}
use Rattle.host_net.specs.declared.packet.Verdict.{Verdict}
use Rattle.host_net.specs.declared.packet.Verdict.TheVariants.{Forward as Forwarded, Drop as Dropped}
use Rattle.header_space.specs.declared.packet_box.PacketBox.{PacketBox}
use Rattle.header_space.specs.Boxes.{IsIn}
use Rattle.ipt_rules.specs.declared.rule.Rule.{Rule}
use Rattle.ipt_rules.specs.Chain.{Chain}
use Rattle.ipt_rules.specs.Matching.{matches}
use Rattle.ipt_rules.specs.Semantics.{Gives}
use Rattle.packet_set.specs.declared.node.Node.{Node}
use Rattle.packet_set.specs.Nodes.{has}
use Rattle.packet_set.specs.Sets.{IsSet}
use Rattle.rules_set.specs.declared.effect.Effect.{Effect}

-- The outcome of rules that accept a packet, drop it or return it to the calling chain, or else leave it to later rules with outcome o.
abbrev pub outcome_by : (accepts drops returns : Bool) → Option Verdict → Option Verdict
outcome_by true drops returns o = Some Forwarded
outcome_by false true returns o = Some Dropped
outcome_by false false true o = None
outcome_by false false false o = o

-- Whatever rules follow, the rules accept a packet, drop it or return it to the calling chain, or else leave it to the rules that follow.
abbrev pub Turns : (Rule → Bool) → List Chain → List Rule → (accepts drops returns : Bool) → Type 0
Turns fits chains rules accepts drops returns =
    (rest : List Rule) (o : Option Verdict) → Gives fits chains rest o → Gives fits chains (rules ++ rest) (outcome_by accepts drops returns o)

-- The sets of the effect exist.
pub record AreSets (nodes : List Node) (e : Effect) : Type 0 where
  pub accepted : e.accepted < length nodes
  pub dropped : e.dropped < length nodes
  pub returned : e.returned < length nodes

-- The effect has the packets that the three tests select.
pub record IsEffectBy (nodes : List Node) (accepts drops returns : Packet → Bool) (e : Effect) : Type 0 where
  pub accepted : IsSet nodes e.accepted accepts
  pub dropped : IsSet nodes e.dropped drops
  pub returned : IsSet nodes e.returned returns

-- The effect of two lists of rules, the second after the first.
abbrev pub IsComposed : (old new : List Node) → (first second e : Effect) → Type 0
IsComposed old new first second e =
    IsEffectBy new
    (λ p. has old first.accepted p || (has old second.accepted p && not (has old first.dropped p || has old first.returned p)))
    (λ p. has old first.dropped p || (has old second.dropped p && not (has old first.accepted p || has old first.returned p)))
    (λ p. has old first.returned p || (has old second.returned p && not (has old first.accepted p || has old first.dropped p))) e

-- The effect of the rules on the packets of the box.
pub record IsEffect (nodes : List Node) (chains : List Chain) (state : CtState) (b : PacketBox) (rules : List Rule) (e : Effect) : Type 0 where
  pub sets : AreSets nodes e
  pub turns : (p : Packet) → IsIn b p
      → Turns (matches p state) chains rules (has nodes e.accepted p) (has nodes e.dropped p) (has nodes e.returned p)

-- The set has all packets of the box.
pub record HasBox (nodes : List Node) (b : PacketBox) (set : ℕ) : Type 0 where
  pub there : set < length nodes
  pub all : (p : Packet) → IsIn b p → has nodes set p ≡ true

-- The rules of the effect decide all packets of the box: none continues after the rules.
abbrev pub DecidesAll : List Node → PacketBox → Effect → Type 0
DecidesAll nodes b e = (p : Packet) → IsIn b p → (has nodes e.accepted p || has nodes e.dropped p || has nodes e.returned p) ≡ true
