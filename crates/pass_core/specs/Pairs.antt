-- Services by pair of owners. The pair of a packet is the owner of its source and the owner of its destination.
use Rattle.std.specs.Prelude.{◌≡◌, ℕ, ◌<◌, ◌++◌, List, [], ◌∷◌, length, Option}
use Rattle.host_net.specs.declared.packet.Packet.{Packet}
use Rattle.host_net.specs.Host.{Host}
use Rattle.header_space.specs.declared.owners.Owned.{Owned}
use Rattle.header_space.specs.Owners.{GoesBetween, IsOfPair, owners_of}
use Rattle.pass_core.specs.declared.pairs.PairServices.{PairServices}
use Rattle.pass_core.specs.Passing.{ArePassing}

-- The entry belongs to the pair, and has the ranges of the services that pass. There is at least one range.
pub record IsEntryOf (Holds : Packet → Type 0) (Between : Packet → Type 0) (from to : Option ℕ) (s : PairServices) : Type 0 where
  pub source : s.from ≡ from
  pub destination : s.to ≡ to
  pub some : 0 < length s.ranges.items
  pub passing : ArePassing Holds Between s.ranges.items

-- The list for a pair is one entry, or empty if no packet of the pair passes.
abbrev pub IsListedFor : (Packet → Type 0) → (Packet → Type 0) → (from to : Option ℕ) → List PairServices → Type 0
IsListedFor Holds Between from to [] = (p : Packet) → Between p → Holds p → ⊥
IsListedFor Holds Between from to (s ∷ []) = IsEntryOf Holds Between from to s
IsListedFor Holds Between from to (s ∷ t ∷ ss) = ⊥

-- The list is the concatenation of the lists for the elements, in their order.
abbrev pub AreListedFor : {A : Type 0} → (A → List PairServices → Type 0) → List A → List PairServices → Type 0
AreListedFor Listed [] ss = ss ≡ []
AreListedFor Listed (x ∷ xs) ss =
    (one : List PairServices) × (rest : List PairServices) × (ss ≡ one ++ rest) × Listed x one × AreListedFor Listed xs rest

-- The list has the entries for the pairs of one source owner with each destination owner.
abbrev pub AreListedFrom : (Packet → Type 0) → List Owned → Owned → List PairServices → Type 0
AreListedFrom Holds owned from ss =
    AreListedFor (λ to. IsListedFor Holds (GoesBetween from.ranges.items to.ranges.items) from.owner to.owner) owned ss

-- The list has the entries for all pairs of owners, ordered by source owner, then by destination owner.
abbrev pub AreListed : (Packet → Type 0) → List Owned → List PairServices → Type 0
AreListed Holds owned ss = AreListedFor (λ from. AreListedFrom Holds owned from) owned ss

-- The list has the entries for all pairs of owners of addresses: the owners are the hosts in their order, then nobody.
abbrev pub AreListedByOwners : (Packet → Type 0) → List Host → List PairServices → Type 0
AreListedByOwners Holds hosts ss =
    AreListedFor (λ from. AreListedFor (λ to. IsListedFor Holds (IsOfPair hosts from to) from to) (owners_of hosts)) (owners_of hosts) ss
