-- The printed difference of an audit, and the line for too many classes (docs/TEXTS.md, audits). A packet has the line that its event has.
use Rattle.std.specs.Prelude.{ℕ, Bool, true, false, List, [], ◌++◌, Option, Some, None, codes, decimal}
use Rattle.host_net.specs.declared.packet.Packet.{Packet}
use Rattle.host_net.specs.Prefix.{address_text}
use Rattle.audit_core.specs.declared.finding.Trace.{Trace}

-- The fields of a packet as printed: two addresses, the protocol and two ports.
abbrev pub addresses_text : Packet → List ℕ
addresses_text p = codes " " ++ (address_text p.src ++ (codes " " ++ address_text p.dst))

abbrev pub numbers_text : Packet → List ℕ
numbers_text p = codes " " ++ (decimal p.proto ++ (codes " " ++ (decimal p.sport ++ (codes " " ++ decimal p.dport))))

-- A packet as a line of an event file, without and with its newline.
abbrev pub packet_text : Packet → List ℕ
packet_text p = codes "packet" ++ (addresses_text p ++ numbers_text p)

abbrev pub packet_line : Packet → List ℕ
packet_line p = packet_text p ++ codes "\n"

-- The line of a packet, if there is a packet.
abbrev pub some_line : Option Packet → List ℕ
some_line None = []
some_line (Some p) = packet_line p

-- The line for the verdict of the rules on the last packet.
abbrev pub verdict_line : Bool → List ℕ
verdict_line true = codes "text forwards\n"
verdict_line false = codes "text drops\n"

abbrev pub trace_text : Trace → List ℕ
trace_text trace =
    codes "differ\n" ++ (packet_line trace.first ++ (some_line trace.second ++ (some_line trace.third ++ verdict_line trace.forwards)))

-- The line on the error stream if there are too many classes: their number is `count`.
abbrev pub classes_line : ℕ → List ℕ
classes_line count = codes "topos: not emittable: " ++ (decimal count ++ codes " classes exceed 4000000\n")
