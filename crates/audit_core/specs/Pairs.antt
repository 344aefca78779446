-- The differences between the rules and a policy, by pairs of owners. A pair is the owner of the source and the owner of the destination of
-- a packet.
use Rattle.std.specs.Prelude.{◌≡◌, ℕ, ◌++◌, Bool, true, false, List, [], ◌∷◌, Option}
use Rattle.std.specs.List.{Contains, flat_map}
use Rattle.host_net.specs.declared.packet.Packet.{Packet}
use Rattle.host_net.specs.Host.{owner_of}
use Rattle.host_net.specs.Packet.{IsPacket}
use Rattle.header_space.specs.Order.{ComesBefore}
use Rattle.header_space.specs.Owners.{IsOfPair, owners_of}
use Rattle.audit_core.specs.declared.kind.Kind.{Kind}
use Rattle.audit_core.specs.declared.kind.Kind.TheVariants.{Alone, AfterSwap, AfterBoth}
use Rattle.audit_core.specs.declared.difference.Difference.{Difference}
use Rattle.audit_core.specs.Findings.{trace_of}
use Rattle.audit_core.specs.Lists.{front_of}
use Rattle.audit_core.specs.Sides.{DifferThen, Sides}

-- The two sides differ at the end of the list of that kind at p: the rules forward p there (or drop it), and the policy expects the
-- opposite.
abbrev pub DiffersAt : Sides → Kind → Packet → Bool → Type 0
DiffersAt sides kind p forwards = DifferThen sides (front_of kind p) p forwards

-- A case is a pair, a kind of list, and a direction: whether the rules forward the last packet of the list.
pub record Case : Type 0 where
  pub from : Option ℕ
  pub to : Option ℕ
  pub kind : Kind
  pub forwards : Bool

-- No packet of the pair differs in that kind and direction.
abbrev pub HasNone : Sides → Case → Type 0
HasNone sides c = (p : Packet) → IsOfPair sides.policy.site.hosts c.from c.to p → DiffersAt sides c.kind p c.forwards → ⊥

-- The difference has the pair of the case, and its trace is the list of that kind at the first packet of the pair that differs in that
-- direction.
pub record IsDifference (sides : Sides) (c : Case) (d : Difference) : Type 0 where
  pub packet : Packet
  pub of_pair : IsOfPair sides.policy.site.hosts c.from c.to packet
  pub differs : DiffersAt sides c.kind packet c.forwards
  pub first : (q : Packet) → IsOfPair sides.policy.site.hosts c.from c.to q → ComesBefore q packet → DiffersAt sides c.kind q c.forwards → ⊥
  pub is : d ≡ record { from = c.from; to = c.to; trace = trace_of c.kind packet c.forwards }

-- The list for a case has one difference, or it is empty if no packet differs.
abbrev pub IsListedFor : Sides → Case → List Difference → Type 0
IsListedFor sides c [] = HasNone sides c
IsListedFor sides c (d ∷ []) = IsDifference sides c d
IsListedFor sides c (d ∷ e ∷ ds) = ⊥

-- The list is the concatenation of the lists for each case, in the order of the cases.
abbrev pub AreListedFor : Sides → List Case → List Difference → Type 0
AreListedFor sides [] ds = ds ≡ []
AreListedFor sides (c ∷ cs) ds =
    (one : List Difference) × (rest : List Difference) × (ds ≡ one ++ rest) × IsListedFor sides c one × AreListedFor sides cs rest

abbrev pub case_of : Option ℕ → Option ℕ → Kind → Bool → Case
case_of from to kind forwards = record { from = from; to = to; kind = kind; forwards = forwards }

-- The cases of a pair are ordered by kind, and then by direction: the rules forward more, or less.
abbrev pub cases_between : Option ℕ → Option ℕ → List Case
cases_between from to =
    case_of from to Alone true
    ∷ case_of from to Alone false
    ∷ case_of from to AfterSwap true
    ∷ case_of from to AfterSwap false
    ∷ case_of from to AfterBoth true
    ∷ case_of from to AfterBoth false ∷ []

-- All cases are ordered by the owner of the source, and then by the owner of the destination.
abbrev pub all_cases : List (Option ℕ) → List (Option ℕ) → List Case
all_cases froms tos = flat_map (λ from. flat_map (λ to. cases_between from to) tos) froms

-- The list has one difference for each pair, kind and direction in which some packet of the pair differs, and no other difference, in the
-- order of all cases.
abbrev pub AreDifferences : Sides → List Difference → Type 0
AreDifferences sides ds = AreListedFor sides (all_cases (owners_of sides.policy.site.hosts) (owners_of sides.policy.site.hosts)) ds

-- The list has a difference of the pair, kind and direction.
abbrev pub HasDifference : List Difference → Option ℕ → Option ℕ → Kind → Bool → Type 0
HasDifference ds from to kind forwards =
    (d : Difference) × Contains ds d × (d.from ≡ from) × (d.to ≡ to) × (q : Packet) × (d.trace ≡ trace_of kind q forwards)

-- The list has a difference for the pair of each packet that differs, in its kind and direction.
abbrev pub IsComplete : Sides → List Difference → Type 0
IsComplete sides ds = (kind : Kind) (p : Packet) (forwards : Bool) → IsPacket p → DiffersAt sides kind p forwards
    → HasDifference ds (owner_of sides.policy.site.hosts p.src) (owner_of sides.policy.site.hosts p.dst) kind forwards
