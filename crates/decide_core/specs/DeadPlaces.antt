-- Dead rules of both dialects, by their places: rules that no packet that enters FORWARD meets, and entries that decide no IPv4 packet.
use Rattle.std.specs.Prelude.{◌≡◌, ◌↔◌, ℕ, ◌+◌, Bool, if◌then◌else◌, List, [], ◌∷◌, map}
use Rattle.std.specs.List.{All}
use Rattle.host_net.specs.Packet.{IsPacket}
use Rattle.host_net.specs.declared.packet.Packet.{Packet}
use Rattle.host_net.specs.declared.packet.Verdict.{Verdict}
use Rattle.ipt_rules.specs.declared.marks.Place.{Place}
use Rattle.ofp_rules.specs.declared.entry.Entry.{Entry}
use Rattle.ofp_rules.specs.declared.entry.Frame.TheVariants.{Ipv4}
use Rattle.ofp_rules.specs.Semantics.{HasVerdict}
use Rattle.rules_space.specs.Rules.{AnyRules, Chains, Entries}
use Rattle.pass_core.specs.Dead.{AreDead, AreRemovable, is_listed}
use Rattle.decide_core.specs.DeadEntries.{AreDeadEntries}

-- The places are those of the dead rules, in ascending order. Dead entry k of a flow table has place k of chain 0.
abbrev pub AreDeadPlaces : AnyRules → List Place → Type 0
AreDeadPlaces (Chains chains) places = AreDead chains places
AreDeadPlaces (Entries entries) places = All (λ place. place.chain ≡ 0) places × AreDeadEntries entries (map (λ place. place.rule) places)

-- The entries, numbered from i on, without those whose numbers are removed.
abbrev pub without_entries : (removed : ℕ → Bool) → (i : ℕ) → List Entry → List Entry
without_entries removed i [] = []
without_entries removed i (e ∷ es) = if removed i then without_entries removed (i + 1) es else e ∷ without_entries removed (i + 1) es

-- The rules at the places are removable: without them each packet that enters FORWARD has the same verdict in each state, and each IPv4
-- packet has the same verdict of a flow table.
abbrev pub AreRemovablePlaces : AnyRules → List Place → Type 0
AreRemovablePlaces (Chains chains) places = AreRemovable chains places
AreRemovablePlaces (Entries entries) places = (p : Packet) (v : Verdict) → IsPacket p
    → (HasVerdict entries (Ipv4 p) v ↔ HasVerdict (without_entries (λ k. is_listed places (record { chain = 0; rule = k })) 0 entries) (Ipv4 p) v)
