-- Slices: the part of a rule set that can decide packets of a box.
use Rattle.std.specs.Prelude.{◌↔◌, List}
use Rattle.host_net.specs.declared.packet.Packet.{Packet}
use Rattle.host_net.specs.declared.packet.CtState.{CtState}
use Rattle.host_net.specs.declared.packet.Verdict.{Verdict}
use Rattle.header_space.specs.declared.packet_box.PacketBox.{PacketBox}
use Rattle.header_space.specs.Boxes.{IsIn}
use Rattle.ipt_rules.specs.Chain.{Chain}
use Rattle.ipt_rules.specs.Semantics.{HasVerdictIn}

-- Two lists of chains have the same verdict on each packet of the box that traverses FORWARD, in each state.
abbrev pub HaveSameChainVerdicts : PacketBox → List Chain → List Chain → Type 0
HaveSameChainVerdicts b chains others =
    (p : Packet) → IsIn b p → (state : CtState) (v : Verdict) → (HasVerdictIn chains 1 p state v ↔ HasVerdictIn others 1 p state v)
