-- Results of a survey. Internal: callers use `Passing`.
use Rattle.std.specs.Prelude.{◌≡◌, ◌⊎◌, ℕ, ◌≤◌, Bool, true, false, List, Option, Some, None, IfSome}
use Rattle.std.specs.Bool.{Decides}
use Rattle.host_net.specs.declared.packet.Packet.{Packet}
use Rattle.host_net.specs.Packet.{IsPacket}
use Rattle.header_space.specs.declared.packet_box.PacketBox.{PacketBox}
use Rattle.header_space.specs.Boxes.{IsBox, IsIn}
use Rattle.pass_core.specs.declared.area.Area.{Area}
use Rattle.pass_core.specs.declared.survey.Survey.{Survey}
use Rattle.pass_core.specs.Services.{service_of}
use Rattle.pass_core.specs.inner.Areas.{IsInOne}
use Rattle.pass_core.specs.inner.Numbers.{number}

-- The packets are fellows: they differ at most in their services.
pub record AreFellows (p q : Packet) : Type 0 where
  pub src : q.src ≡ p.src
  pub dst : q.dst ≡ p.dst
  pub sport : q.sport ≡ p.sport

-- The protocol and the destination port of the packet are in the ranges of the box.
pub record HasService (b : PacketBox) (p : Packet) : Type 0 where
  pub from_proto : b.least.proto ≤ p.proto
  pub to_proto : p.proto ≤ b.greatest.proto
  pub from_port : b.least.dport ≤ p.dport
  pub to_port : p.dport ≤ b.greatest.dport

-- The second box differs from the first at most in its greatest protocol and its greatest destination port.
pub record Raises (old new : PacketBox) : Type 0 where
  pub least : new.least ≡ old.least
  pub is_box : IsBox new
  pub src : new.greatest.src ≡ old.greatest.src
  pub dst : new.greatest.dst ≡ old.greatest.dst
  pub sport : new.greatest.sport ≡ old.greatest.sport

-- The survey with the packet recorded as a packet that passes, or as a packet that does not.
abbrev pub noted : Survey → Bool → Packet → Survey
noted s true p = record s { passes = Some p }
noted s false p = record s { stays = Some p }

-- The option has a packet.
abbrev pub IsThere : Option Packet → Type 0
IsThere None = ⊥
IsThere (Some p) = Unit {0}

-- The result for the packet is recorded: it passes and the survey has a packet that passes, or it does not and the survey has a packet that
-- does not.
abbrev pub IsRecorded : (Packet → Type 0) → Survey → Packet → Type 0
IsRecorded Holds s p = (Holds p × IsThere s.passes) ⊎ ((Holds p → ⊥) × IsThere s.stays)

-- The service is surveyed: its number is from the number of the first service to the number of the last service.
abbrev pub IsSurveyed : Survey → ℕ → Type 0
IsSurveyed s n = (number s.first ≤ n) × (n ≤ number s.last)

-- If the packet has the first service, the results for all its fellows with surveyed services are recorded.
abbrev pub IsKnown : (Packet → Type 0) → Survey → Packet → Type 0
IsKnown Holds s p = service_of p ≡ number s.first → (f : Packet) → AreFellows p f → IsPacket f → IsSurveyed s (service_of f) → IsRecorded Holds s f

-- The fellows of the packet with services from `first` to `last` all pass, or all do not pass, as `passes` states.
abbrev pub AreAlike : (Packet → Type 0) → (first last : ℕ) → Bool → Packet → Type 0
AreAlike Holds first last passes p = (f : Packet) → AreFellows p f → IsPacket f → first ≤ service_of f → service_of f ≤ last → Decides passes (Holds f)

-- The packet is in the box and has the first service. All its fellows with surveyed services pass, or all do not, as `passes` states.
pub record IsFoundIn (Holds : Packet → Type 0) (b : PacketBox) (s : Survey) (passes : Bool) (p : Packet) : Type 0 where
  pub inside : IsIn b p
  pub service : service_of p ≡ number s.first
  pub alike : AreAlike Holds (number s.first) (number s.last) passes p

-- The recorded packet is unchanged, or is found in the box.
abbrev pub Notes : (Packet → Type 0) → PacketBox → Survey → Bool → (old new : Option Packet) → Type 0
Notes Holds b s passes old new = (new ≡ old) ⊎ ((p : Packet) × (new ≡ Some p) × IsFoundIn Holds b s passes p)

-- The new survey extends the old survey by packets of the box: the first service is the same, the last is not later, and packets of the box
-- may be recorded.
pub record Grows (Holds : Packet → Type 0) (b : PacketBox) (old new : Survey) : Type 0 where
  pub first : new.first ≡ old.first
  pub last : number new.last ≤ number old.last
  pub some : number old.first ≤ number old.last → number old.first ≤ number new.last
  pub passes : Notes Holds b new true old.passes new.passes
  pub stays : Notes Holds b new false old.stays new.stays

-- The new survey extends the old survey by packets of the box, with the same question.
abbrev pub GrowsBy : {Q : Type 0} → (Q → Packet → Type 0) → (asked asks : Q) → PacketBox → (old new : Survey) → Type 0
GrowsBy HoldsOf asked asks b old new = (asks ≡ asked) × Grows (HoldsOf asked) b old new

-- The packet is in the areas and has the first service. All its fellows with services up to the last pass, or all do not, as `passes`
-- states.
pub record IsFound (Holds : Packet → Type 0) (areas : List Area) (first last : ℕ) (passes : Bool) (p : Packet) : Type 0 where
  pub inside : IsInOne areas p
  pub packet : IsPacket p
  pub service : service_of p ≡ first
  pub alike : AreAlike Holds first last passes p

abbrev pub IsFoundIf : (Packet → Type 0) → List Area → (first last : ℕ) → Bool → Option Packet → Type 0
IsFoundIf Holds areas first last passes o = IfSome o (IsFound Holds areas first last passes)

-- The survey is a partial result for the areas: only packets of the areas `left` may lack a recorded result.
pub record IsUnderWay (Holds : Packet → Type 0) (areas left : List Area) (s : Survey) : Type 0 where
  pub some : number s.first ≤ number s.last
  pub passes : IsFoundIf Holds areas (number s.first) (number s.last) true s.passes
  pub stays : IsFoundIf Holds areas (number s.first) (number s.last) false s.stays
  pub covers : (f : Packet) → IsPacket f → IsInOne areas f → IsSurveyed s (service_of f) → IsInOne left f ⊎ IsRecorded Holds s f

-- The survey has a recorded packet.
abbrev pub HasFound : Survey → Type 0
HasFound s = IsThere s.passes ⊎ IsThere s.stays

-- The survey is complete for the areas: it starts at the service `start`, has recorded the results for all packets of its services, and
-- has a recorded packet.
pub record IsSurvey (Holds : Packet → Type 0) (areas : List Area) (start : ℕ) (s : Survey) : Type 0 where
  pub first : number s.first ≡ start
  pub some : number s.first ≤ number s.last
  pub passes : IsFoundIf Holds areas (number s.first) (number s.last) true s.passes
  pub stays : IsFoundIf Holds areas (number s.first) (number s.last) false s.stays
  pub covers : (f : Packet) → IsPacket f → IsInOne areas f → IsSurveyed s (service_of f) → IsRecorded Holds s f
  pub found : HasFound s
