-- Services that pass between two sets of addresses: wholly, in part or not at all, and ranges of these services. A packet passes if a
-- question holds for it.
use Rattle.std.specs.Prelude.{◌≡◌, ◌⊎◌, ◌↔◌, ℕ, ◌+◌, ◌<◌, ◌≤◌, Bool, true, false, List, [], ◌∷◌, length, IfSome, is_none}
use Rattle.std.specs.Bool.{Decides}
use Rattle.std.specs.List.{All}
use Rattle.host_net.specs.declared.packet.Packet.{Packet}
use Rattle.header_space.specs.declared.address_range.AddressRange.{AddressRange}
use Rattle.header_space.specs.Owners.{IsRange}
use Rattle.pass_core.specs.declared.passing_range.PassingRange.{PassingRange}
use Rattle.pass_core.specs.Services.{service_count, service_of}

-- ---- sets of addresses

-- The ranges are a set of addresses: there is at least one range, and each range has addresses.
abbrev pub AreRanges : List AddressRange → Type 0
AreRanges rs = (0 < length rs) × All IsRange rs

-- ---- how a service passes: `Holds` decides which packets pass, `Between` selects the packets

-- The packet has the service, and passes if and only if `passes` is true.
pub record IsOfService (Holds : Packet → Type 0) (Between : Packet → Type 0) (n : ℕ) (passes : Bool) (p : Packet) : Type 0 where
  pub between : Between p
  pub service : service_of p ≡ n
  pub decided : Decides passes (Holds p)

-- The service passes wholly: each of its packets passes.
abbrev pub PassesWholly : (Packet → Type 0) → (Packet → Type 0) → ℕ → Type 0
PassesWholly Holds Between n = (p : Packet) → Between p → service_of p ≡ n → Holds p

-- The service passes in part: at least one of its packets passes, and at least one does not.
abbrev pub PassesInPart : (Packet → Type 0) → (Packet → Type 0) → ℕ → Type 0
PassesInPart Holds Between n = ((p : Packet) × IsOfService Holds Between n true p) × ((p : Packet) × IsOfService Holds Between n false p)

-- The service does not pass: none of its packets passes.
abbrev pub PassesNot : (Packet → Type 0) → (Packet → Type 0) → ℕ → Type 0
PassesNot Holds Between n = (p : Packet) → Between p → service_of p ≡ n → Holds p → ⊥

-- ---- ranges of services

-- The services of the range pass wholly. Otherwise they pass in part, and the range has an example of a packet that does not pass.
abbrev pub is_wholly : PassingRange → Bool
is_wholly r = is_none r.stays

-- The second range continues the first: it follows without a gap, and both pass wholly or both pass in part.
abbrev pub GoesOn : PassingRange → PassingRange → Type 0
GoesOn r s = (r.high + 1 ≡ s.low) × (is_wholly r ≡ is_wholly s)

-- The range precedes the first range of the list, if there is one, and that range does not continue it.
abbrev pub IsBefore : PassingRange → List PassingRange → Type 0
IsBefore r [] = Unit {0}
IsBefore r (s ∷ ss) = (r.high < s.low) × (GoesOn r s → ⊥)

-- The ranges are in ascending order, disjoint and maximal.
abbrev pub AreMaximal : List PassingRange → Type 0
AreMaximal [] = Unit {0}
AreMaximal (r ∷ rs) = IsBefore r rs × AreMaximal rs

-- The service is in a range of services that pass wholly, or in a range of services that pass in part, as `wholly` states.
abbrev pub LiesInRange : List PassingRange → (wholly : Bool) → ℕ → Type 0
LiesInRange [] wholly n = ⊥
LiesInRange (r ∷ rs) wholly n = ((is_wholly r ≡ wholly) × (r.low ≤ n) × (n ≤ r.high)) ⊎ LiesInRange rs wholly n

-- The packet is an example of the range: it has a service of the range, and passes if and only if `passes` is true.
pub record IsExampleOf (Holds : Packet → Type 0) (Between : Packet → Type 0) (r : PassingRange) (passes : Bool) (p : Packet) : Type 0 where
  pub between : Between p
  pub low : r.low ≤ service_of p
  pub high : service_of p ≤ r.high
  pub decided : Decides passes (Holds p)

-- The range is not empty, and its packets are examples.
pub record IsShown (Holds : Packet → Type 0) (Between : Packet → Type 0) (r : PassingRange) : Type 0 where
  pub some : r.low ≤ r.high
  pub services : r.high < service_count
  pub passes : IsExampleOf Holds Between r true r.passes
  pub stays : IfSome r.stays (λ p. IsExampleOf Holds Between r false p)

-- The ranges are those of all services that pass, wholly or in part.
pub record ArePassing (Holds : Packet → Type 0) (Between : Packet → Type 0) (rs : List PassingRange) : Type 0 where
  pub maximal : AreMaximal rs
  pub shown : All (λ r. IsShown Holds Between r) rs
  pub wholly : (n : ℕ) → n < service_count → (LiesInRange rs true n ↔ PassesWholly Holds Between n)
  pub in_part : (n : ℕ) → n < service_count → (LiesInRange rs false n ↔ PassesInPart Holds Between n)
  pub not : (n : ℕ) → n < service_count → (((kind : Bool) → LiesInRange rs kind n → ⊥) ↔ PassesNot Holds Between n)
