-- The packets that a match selects: a match has at most one range for each of the five fields, and may negate each range.
use Rattle.std.specs.Prelude.{ℕ, Bool, true, not, ◌&&◌, nat_le, nat_lt, ◌||◌, if◌then◌else◌, Option, Some, None}
use Rattle.host_net.specs.declared.packet.Packet.{Packet}
use Rattle.header_space.specs.declared.header_match.FieldMatch.{FieldMatch}
use Rattle.header_space.specs.declared.header_match.HeaderMatch.{HeaderMatch}

-- Number n lies in the range.
abbrev pub lies_in : FieldMatch → ℕ → Bool
lies_in asked n = nat_le asked.low n && nat_le n asked.high

-- Number n matches: it lies in the range or, if the match is negated, outside the range.
abbrev pub range_fits : FieldMatch → ℕ → Bool
range_fits asked n = if asked.negated then not (lies_in asked n) else lies_in asked n

-- Without a range, each number matches.
abbrev pub field_fits : Option FieldMatch → ℕ → Bool
field_fits None n = true
field_fits (Some asked) n = range_fits asked n

-- Packet p matches: each of its fields matches.
abbrev pub fits : HeaderMatch → Packet → Bool
fits asked p =
    field_fits asked.src p.src
    && (field_fits asked.dst p.dst && (field_fits asked.proto p.proto && (field_fits asked.sport p.sport && field_fits asked.dport p.dport)))

-- A number from `first` to `last` may match the range.
abbrev pub range_may_fit : FieldMatch → ℕ → ℕ → Bool
range_may_fit asked first last =
    if asked.negated then nat_lt first asked.low || nat_lt asked.high last else nat_le first asked.high && nat_le asked.low last

-- A number from `first` to `last` may match the field. Without a range, each number matches.
abbrev pub field_may_fit : Option FieldMatch → ℕ → ℕ → Bool
field_may_fit None first last = true
field_may_fit (Some asked) first last = range_may_fit asked first last
