-- Changes from an old policy to a new one: the packets that only one of them permits, or permits answers to, by pair of owners.
use Rattle.std.specs.Prelude.{◌≡◌, ◌<◌, ◌++◌, Bool, IsTrue, IsFalse, List, [], ◌∷◌, length}
use Rattle.std.specs.List.{Contains}
use Rattle.host_net.specs.declared.packet.Packet.{Packet}
use Rattle.host_net.specs.Packet.{IsPacket}
use Rattle.pkt_core.specs.FlowPolicy.{FlowPolicy, permits, permits_reply_to}
use Rattle.change_core.specs.declared.change.Change.{Change}
use Rattle.change_core.specs.declared.kind.ChangeKind.{ChangeKind}
use Rattle.change_core.specs.declared.kind.ChangeKind.TheVariants.{FlowComes, FlowGoes, AnswersCome, AnswersGo}
use Rattle.change_core.specs.declared.named_owner.NamedOwner.{NamedOwner}
use Rattle.change_core.specs.Names.{IsOfNames, all_names, named_owner}
use Rattle.pass_core.specs.Passing.{ArePassing}

-- The condition is false before, and true after.
abbrev pub Comes : (before after : Bool) → Type 0
Comes before after = IsFalse before × IsTrue after

-- Packet p changes by the kind from the old policy to the new policy.
abbrev pub ChangesBy : (old new : FlowPolicy) → ChangeKind → Packet → Type 0
ChangesBy old new FlowComes p = Comes (permits old p) (permits new p)
ChangesBy old new FlowGoes p = Comes (permits new p) (permits old p)
ChangesBy old new AnswersCome p = Comes (permits_reply_to old p) (permits_reply_to new p)
ChangesBy old new AnswersGo p = Comes (permits_reply_to new p) (permits_reply_to old p)

-- The policies have the same permitted and the same stateful packets. Then they forward alike; policies that differ only in answers that a
-- reverse flow permits forward alike too.
abbrev pub TreatAlike : (old new : FlowPolicy) → Type 0
TreatAlike old new = (p : Packet) → IsPacket p → (permits old p ≡ permits new p) × (permits_reply_to old p ≡ permits_reply_to new p)

-- ---- changes by pair of owners

-- The change has the kind and the pair, and the ranges of services of which packets of the pair change by the kind. There is at least one
-- range.
pub record IsChange (old new : FlowPolicy) (kind : ChangeKind) (from to : NamedOwner) (c : Change) : Type 0 where
  pub kind_is : c.kind ≡ kind
  pub source : c.from ≡ from
  pub destination : c.to ≡ to
  pub some : 0 < length c.ranges.items
  pub services : ArePassing (ChangesBy old new kind) (IsOfNames new.site.hosts old.site.hosts from to) c.ranges.items

-- The list for a kind and a pair is one change, or empty if no packet of the pair changes by the kind.
abbrev pub IsListedFor : (old new : FlowPolicy) → ChangeKind → (from to : NamedOwner) → List Change → Type 0
IsListedFor old new kind from to [] = (p : Packet) → IsOfNames new.site.hosts old.site.hosts from to p → ChangesBy old new kind p → ⊥
IsListedFor old new kind from to (c ∷ []) = IsChange old new kind from to c
IsListedFor old new kind from to (c ∷ d ∷ cs) = ⊥

-- The list is the concatenation of the lists for the elements, in their order.
abbrev pub AreListedFor : {A : Type 0} → (A → List Change → Type 0) → List A → List Change → Type 0
AreListedFor Listed [] cs = cs ≡ []
AreListedFor Listed (x ∷ xs) cs = (one : List Change) × (rest : List Change) × (cs ≡ one ++ rest) × Listed x one × AreListedFor Listed xs rest

-- All owners of addresses under both policies.
abbrev pub names_of : (old new : FlowPolicy) → List NamedOwner
names_of old new = all_names new.site.hosts old.site.hosts

-- The list has the changes by the kind for all pairs of owners, ordered by source owner, then by destination owner.
abbrev pub AreChangesBy : (old new : FlowPolicy) → ChangeKind → List Change → Type 0
AreChangesBy old new kind cs = AreListedFor (λ from. AreListedFor (λ to. IsListedFor old new kind from to) (names_of old new)) (names_of old new) cs

-- All kinds of changes, in their order.
abbrev pub all_kinds : List ChangeKind
all_kinds = FlowComes ∷ FlowGoes ∷ AnswersCome ∷ AnswersGo ∷ []

-- The list has one change for each kind and pair of which some packet changes by the kind, and no other, ordered by kind, then by pair.
abbrev pub AreChanges : (old new : FlowPolicy) → List Change → Type 0
AreChanges old new cs = AreListedFor (AreChangesBy old new) all_kinds cs

-- The list is complete: for each packet that changes by a kind, it has the change of this kind for the owners of the addresses of the
-- packet.
abbrev pub IsComplete : (old new : FlowPolicy) → List Change → Type 0
IsComplete old new cs = (kind : ChangeKind) (p : Packet) → IsPacket p → ChangesBy old new kind p
    → (c : Change) × Contains cs c
    × IsChange old new kind (named_owner new.site.hosts old.site.hosts p.src) (named_owner new.site.hosts old.site.hosts p.dst) c
