-- The flows between all pairs of owners have every packet that the rules let pass as a packet of a new connection.
use Rattle.std.proofs.Common.{◌≡◌, ◌⊎◌, inl, inr, ℕ, ◌<◌, ◌≤◌, Bool, true, List, [], ◌∷◌, Option, map, refl, sym, subst, ◌∙◌, arith}
use Rattle.std.specs.List.{AllZip, Contains}
use Rattle.std.proofs.lemmas.List.Elements.{Contains-append_left, Contains-append_right}
use Rattle.rules_space.specs.Rules.{AnyRules}
use Rattle.rules_space.proofs.ListLaws.{contains_cases, contains_first, contains_later, contains_none}
use Rattle.audit_core.proofs.PairLaws.{owner_among}
use Rattle.decide_core.specs.Flows.{AreFlows, AreFlowsOf, AreFlowsOfEach, IsOfRange}
use Rattle.decide_core.specs.declared.flows.FlowRange.{FlowRange}
use Rattle.decide_core.specs.declared.flows.PairFlows.{PairFlows}
use Rattle.header_space.proofs.SplitLaws.{le_or_lt}
use Rattle.header_space.specs.Owners.{IsOfPair, owners_of}
use Rattle.host_net.specs.Host.{Host, owner_of}
use Rattle.host_net.specs.Packet.{IsPacket}
use Rattle.host_net.specs.declared.packet.Packet.{Packet}
use Rattle.host_net.specs.declared.packet.CtState.TheVariants.{New}
use Rattle.nft_flows.specs.Flows.{AreTableFlows, AreTableFlowsOf}
use Rattle.nft_flows.specs.declared.flows.PairTableFlows.{PairTableFlows}
use Rattle.nft_flows.specs.declared.flows.TableFlowRange.{TableFlowRange}
use Rattle.nft_rules.specs.Semantics.{PassesTable}
use Rattle.nft_rules.specs.declared.table.Table.{Table}
use Rattle.pass_core.specs.NewPackets.{LetsPass}
use Rattle.pass_core.specs.Pairs.{AreListedByOwners, AreListedFor, IsEntryOf, IsListedFor}
use Rattle.pass_core.specs.Passing.{LiesInRange}
use Rattle.pass_core.specs.Services.{service_count, service_of}
use Rattle.pass_core.specs.declared.pairs.PairServices.{PairServices}
use Rattle.pass_core.specs.declared.passing_range.PassingRange.{PassingRange}
use Rattle.query_top.specs.Flows.{AreComplete}
use Rattle.query_top.specs.TableFlows.{IsTableComplete}

-- ---- ranges

-- A range of the list has the service.
record HasService (rs : List PassingRange) (n : ℕ) : Type 0 where
  range : PassingRange
  listed : Contains rs range
  low : range.low ≤ n
  high : n ≤ range.high

later_service : (r : PassingRange) (rs : List PassingRange) (n : ℕ) → HasService rs n → HasService (r ∷ rs) n
later_service r rs n has = record {
  range = has.range;
  listed = contains_later r rs has.range has.listed;
  low = has.low;
  high = has.high;
}

-- The service lies within the range, or it does not.
within_range : (r : PassingRange) (n : ℕ) → ((r.low ≤ n) × (n ≤ r.high)) ⊎ ((r.low ≤ n) → (n ≤ r.high) → ⊥)
within_range r n = elim (le_or_lt r.low n) [
  | inl low ↦ elim (le_or_lt n r.high) [ inl high ↦ inl (low, high) | inr above ↦ inr (λ down up. omega (arith, above, up)) ]
  | inr below ↦ inr (λ down up. omega (arith, below, down))
]

in_one_or_none : (rs : List PassingRange) (n : ℕ) → HasService rs n ⊎ ((kind : Bool) → LiesInRange rs kind n → ⊥)
in_one_or_none [] n = inr (λ kind lies. lies)
in_one_or_none (r ∷ rs) n = elim (within_range r n) [
  | inl within ↦ inl (record { range = r; listed = contains_first r rs r refl; low = within.0; high = within.1 })
  | inr not ↦ elim (in_one_or_none rs n) [
    | inl later ↦ inl (later_service r rs n later)
    | inr none ↦ inr (λ kind lies. elim lies [ inl here ↦ not here.1 here.2 | inr later ↦ none kind later ])
  ]
]

-- ---- lists

-- A part of the list is the list for an element.
record IsPartFor {A : Type 0} (Listed : A → List PairServices → Type 0) (x : A) (ss : List PairServices) : Type 0 where
  part : List PairServices
  listed : Listed x part
  within : (s : PairServices) → Contains part s → Contains ss s

part_for : {A : Type 0} (Listed : A → List PairServices → Type 0) (xs : List A) (ss : List PairServices) → AreListedFor Listed xs ss → (x : A)
    → Contains xs x → IsPartFor Listed x ss
part_for Listed [] ss are x there = absurd (contains_none x there)
part_for {A = A} Listed (y ∷ xs) ss are x there = elim (contains_cases y xs x there) [
  | inl is ↦ record {
    part = are.0;
    listed = subst (λ (z : A). Listed z are.0) is are.3;
    within = λ s has. subst (λ (l : List PairServices). Contains l s) (sym are.2) (Contains-append_left are.0 are.1 s has);
  }
  | inr later ↦
      let rest = part_for Listed xs are.1 are.4 x later in
      record {
        part = rest.part;
        listed = rest.listed;
        within = λ s has. subst (λ (l : List PairServices). Contains l s) (sym are.2) (Contains-append_right are.0 are.1 s (rest.within s has));
      }
]

-- An element of the ranges of a pair has the range of the list.
of_range : {X : Type 0} (range : X → PassingRange) (rs : List X) (ranges : List PassingRange) (r : PassingRange) → map range rs ≡ ranges → Contains ranges r
    → (x : X) × Contains rs x × (range x ≡ r)
of_range range [] ranges r is has = absurd (contains_none r (subst (λ (l : List PassingRange). Contains l r) (sym is) has))
of_range range (x ∷ xs) ranges r is has =
    elim (contains_cases (range x) (map range xs) r (subst (λ (l : List PassingRange). Contains l r) (sym is) has)) [
      | inl here ↦ (x, contains_first x xs x refl, here)
      | inr later ↦
          let rest = of_range range xs (map range xs) r refl later in
          (rest.0, contains_later x xs rest.0 rest.1, rest.2)
    ]

module _ (Holds : Packet → Type 0) (hosts : List Host) where
  -- If some packet of a pair passes, the pair has an entry.
  entry_of : (from to : Option ℕ) (part : List PairServices) → IsListedFor Holds (IsOfPair hosts from to) from to part → (p : Packet)
      → IsOfPair hosts from to p → Holds p
      → (s : PairServices) × Contains part s × IsEntryOf Holds (IsOfPair hosts from to) from to s
  entry_of from to [] none p of passes = absurd (none p of passes)
  entry_of from to (s ∷ []) is p of passes = (s, contains_first s [] s refl, is)
  entry_of from to (s ∷ t ∷ ss) wrong p of passes = absurd wrong

  -- The entry of the pair has the service of the packet.
  service_in : (from to : Option ℕ) (s : PairServices) → IsEntryOf Holds (IsOfPair hosts from to) from to s → (p : Packet)
      → IsOfPair hosts from to p → Holds p → HasService s.ranges.items (service_of p)
  service_in from to s is p of passes =
      let packet = of.packet in
      let small : service_of p < service_count = let proto = packet.2 in let port = packet.4 in omega (arith, proto, port) in
      elim (in_one_or_none s.ranges.items (service_of p)) [
        | inl has ↦ has
        | inr none ↦ absurd ((is.passing.not (service_of p) small).0 none p of refl passes)
      ]

  -- The services that are listed have the service of a packet for which the question holds, at its pair.
  record IsServed (ss : List PairServices) (p : Packet) : Type 0 where
    entry : PairServices
    listed : Contains ss entry
    source : entry.from ≡ owner_of hosts p.src
    destination : entry.to ≡ owner_of hosts p.dst
    service : HasService entry.ranges.items (service_of p)

  is_served : (ss : List PairServices) → AreListedByOwners Holds hosts ss → (p : Packet) → IsPacket p → Holds p → IsServed ss p
  is_served ss are p is passes =
      let from = owner_of hosts p.src in
      let to = owner_of hosts p.dst in
      let owners = owners_of hosts in
      let of : IsOfPair hosts from to p = record { packet = is; src = refl; dst = refl } in
      let row : IsPartFor (λ f. AreListedFor (λ t. IsListedFor Holds (IsOfPair hosts f t) f t) owners) from ss =
      part_for (λ f. AreListedFor (λ t. IsListedFor Holds (IsOfPair hosts f t) f t) owners) owners ss are from (owner_among hosts p.src) in
      let cell : IsPartFor (λ t. IsListedFor Holds (IsOfPair hosts from t) from t) to row.part =
      part_for (λ t. IsListedFor Holds (IsOfPair hosts from t) from t) owners row.part row.listed to (owner_among hosts p.dst) in
      let entry = entry_of from to cell.part cell.listed p of passes in
      record {
        entry = entry.0;
        listed = row.within entry.0 (cell.within entry.0 entry.1);
        source = entry.2.source;
        destination = entry.2.destination;
        service = service_in from to entry.0 entry.2 p of passes;
      }

-- A packet of the pair with the service of the range.
in_range : (hosts : List Host) (from to : Option ℕ) (range r : PassingRange) (p : Packet) → IsPacket p → from ≡ owner_of hosts p.src → to ≡ owner_of hosts p.dst
    → range ≡ r → r.low ≤ service_of p → service_of p ≤ r.high → IsOfRange hosts from to range p
in_range hosts from to range r p is source destination same low high = record {
  pair = record { packet = is; src = sym source; dst = sym destination };
  low = subst (λ (x : PassingRange). x.low ≤ service_of p) (sym same) low;
  high = subst (λ (x : PassingRange). service_of p ≤ x.high) (sym same) high;
}

module _ (rules : AnyRules) (hosts : List Host) where
  -- The flows of a pair with services are listed.
  flows_for : (ss : List PairServices) (fs : List PairFlows) → AreFlowsOfEach rules hosts ss fs → (s : PairServices) → Contains ss s
      → (f : PairFlows) × Contains fs f × AreFlowsOf rules hosts s f
  flows_for [] fs each s there = absurd (contains_none s there)
  flows_for (t ∷ ss) [] each s there = absurd each
  flows_for (t ∷ ss) (f ∷ fs) each s there = elim (contains_cases t ss s there) [
    | inl is ↦ (f, contains_first f fs f refl, subst (λ (x : PairServices). AreFlowsOf rules hosts x f) is each.0)
    | inr later ↦
        let rest = flows_for ss fs each.1 s later in
        (rest.0, contains_later f fs rest.0 rest.1, rest.2)
  ]

  pub are_complete : (flows : List PairFlows) → AreFlows rules hosts flows → AreComplete hosts rules flows
  are_complete flows are p is passes =
      let served = is_served (LetsPass rules) hosts are.services are.listed p is passes in
      let has = served.service in
      let flow = flows_for are.services flows are.each served.entry served.listed in
      let range = of_range (λ (x : FlowRange). x.range) flow.0.ranges.items served.entry.ranges.items has.range flow.2.ranges has.listed in
      record {
        flow = flow.0;
        listed = flow.1;
        range = range.0;
        of_flow = range.1;
        of_range =
            in_range hosts flow.0.from flow.0.to range.0.range has.range p is (flow.2.source ∙ served.source) (flow.2.destination ∙ served.destination)
            range.2 has.low has.high;
      }

module _ (table : Table) (hosts : List Host) where
  table_flows_for : (ss : List PairServices) (fs : List PairTableFlows) → AllZip (AreTableFlowsOf table hosts) ss fs → (s : PairServices) → Contains ss s
      → (f : PairTableFlows) × Contains fs f × AreTableFlowsOf table hosts s f
  table_flows_for [] fs each s there = absurd (contains_none s there)
  table_flows_for (t ∷ ss) [] each s there = absurd each
  table_flows_for (t ∷ ss) (f ∷ fs) each s there = elim (contains_cases t ss s there) [
    | inl is ↦ (f, contains_first f fs f refl, subst (λ (x : PairServices). AreTableFlowsOf table hosts x f) is each.0)
    | inr later ↦
        let rest = table_flows_for ss fs each.1 s later in
        (rest.0, contains_later f fs rest.0 rest.1, rest.2)
  ]

  pub table_is_complete : (flows : List PairTableFlows) → AreTableFlows table hosts flows → IsTableComplete hosts table flows
  table_is_complete flows are p is passes =
      let served = is_served (λ x. PassesTable table New x true) hosts are.services are.listed p is passes in
      let has = served.service in
      let flow = table_flows_for are.services flows are.each served.entry served.listed in
      let range = of_range (λ (x : TableFlowRange). x.range) flow.0.ranges.items served.entry.ranges.items has.range flow.2.ranges has.listed in
      record {
        flow = flow.0;
        listed = flow.1;
        range = range.0;
        of_flow = range.1;
        of_range =
            in_range hosts flow.0.from flow.0.to range.0.range has.range p is (flow.2.source ∙ served.source) (flow.2.destination ∙ served.destination)
            range.2 has.low has.high;
      }
