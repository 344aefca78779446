-- Whether two entries match a common frame, decided from their kinds and fields. Not visible to callers, which use `Ambiguity`.
use Rattle.std.specs.Prelude.{ℕ, Bool, true, false, ◌&&◌, ◌==◌, Option, Some, None}
use Rattle.host_net.specs.declared.prefix.Prefix.{Prefix}
use Rattle.host_net.specs.Prefix.{meets}
use Rattle.ofp_rules.specs.declared.entry.FrameKind.{FrameKind}
use Rattle.ofp_rules.specs.declared.entry.FrameKind.TheVariants.{Any, Arp, Ip}
use Rattle.ofp_rules.specs.declared.entry.Entry.{Entry}

abbrev pub parts_meet : Option Prefix → Option Prefix → Bool
parts_meet None part = true
parts_meet (Some p) None = true
parts_meet (Some p) (Some q) = meets p q

abbrev pub kinds_meet : FrameKind → FrameKind → Bool → Bool
kinds_meet Any other parts = true
kinds_meet Arp Any parts = true
kinds_meet Arp Arp parts = true
kinds_meet Arp Ip parts = false
kinds_meet Ip Any parts = true
kinds_meet Ip Arp parts = false
kinds_meet Ip Ip parts = parts

abbrev pub numbers_meet : Option ℕ → Option ℕ → Bool
numbers_meet None other = true
numbers_meet (Some n) None = true
numbers_meet (Some n) (Some m) = n == m

-- The fields of the entries e and f are compatible: a packet can match both.
abbrev pub packets_meet : Entry → Entry → Bool
packets_meet e f =
    numbers_meet e.proto f.proto
    && (numbers_meet e.tp_src f.tp_src && (numbers_meet e.tp_dst f.tp_dst && (parts_meet e.src f.src && parts_meet e.dst f.dst)))

abbrev pub entries_meet : Entry → Entry → Bool
entries_meet e f = kinds_meet e.kind f.kind (packets_meet e f)
