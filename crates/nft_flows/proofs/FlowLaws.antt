-- The flows of a table from those of its chains.
use Rattle.std.proofs.Common.{◌≡◌, ◌↔◌, ℕ, true, List, [], ◌∷◌, Option, map, refl, sym, ap, subst, ◌∙◌}
use Rattle.std.specs.List.{All, AllZip}
use Rattle.std.proofs.lemmas.List.Elements.{All-cons, All-head, All-nil, All-tail}
use Rattle.host_net.specs.Host.{Host}
use Rattle.host_net.specs.Packet.{IsPacket}
use Rattle.host_net.specs.declared.packet.Packet.{Packet}
use Rattle.host_net.specs.declared.packet.CtState.TheVariants.{New}
use Rattle.header_space.specs.Owners.{IsOfPair, owners_of}
use Rattle.nft_rules.specs.declared.table.Table.{Table}
use Rattle.nft_rules.specs.Loadable.{IsLoadable}
use Rattle.nft_rules.specs.Semantics.{PassesTable}
use Rattle.nft_chains.specs.Translation.{HaveSameVerdicts, chains_of}
use Rattle.rules_space.specs.Rules.{Chains}
use Rattle.pass_core.specs.NewPackets.{LetsPass}
use Rattle.pass_core.specs.Pairs.{AreListedByOwners, AreListedFor, IsListedFor}
use Rattle.pass_core.specs.declared.pairs.PairServices.{PairServices}
use Rattle.pass_core.specs.declared.passing_range.PassingRange.{PassingRange}
use Rattle.pass_core.proofs.PairLemmas.{listed_alike}
use Rattle.decide_core.specs.Deciders.{AreDeciders}
use Rattle.decide_core.specs.Flows.{AreFlows, AreFlowsOf, AreFlowsOfEach, IsOfRange}
use Rattle.decide_core.specs.declared.flows.FlowRange.{FlowRange}
use Rattle.decide_core.specs.declared.flows.PairFlows.{PairFlows}
use Rattle.nft_flows.specs.Deciders.{AreTableDeciders}
use Rattle.nft_flows.specs.Flows.{AreTableFlows, AreTableFlowsOf}
use Rattle.nft_flows.specs.declared.flows.PairTableFlows.{PairTableFlows}
use Rattle.nft_flows.specs.declared.flows.TableFlowRange.{TableFlowRange}
use Rattle.nft_flows.specs.inner.Selected.{IsPlacedPair, IsPlacedRange}
use Rattle.nft_flows.specs.inner.Spans.{spans_of}
use Rattle.nft_flows.proofs.ResultLaws.{table_deciders}

each_alike : {A : Type 0} (Listed Others : A → List PairServices → Type 0) → ((x : A) (ss : List PairServices) → Listed x ss → Others x ss)
    → (xs : List A) (ss : List PairServices) → AreListedFor Listed xs ss → AreListedFor Others xs ss
each_alike Listed Others alike [] ss are = are
each_alike Listed Others alike (x ∷ xs) ss are =
    (are.0, are.1, are.2, alike x are.0 are.3, each_alike Listed Others alike xs are.1 are.4)

-- The same services are listed for two questions that hold for the same packets.
pub listed_same : (Holds Others : Packet → Type 0) (hosts : List Host) → ((p : Packet) → IsPacket p → (Holds p ↔ Others p)) → (ss : List PairServices)
    → AreListedByOwners Holds hosts ss → AreListedByOwners Others hosts ss
listed_same Holds Others hosts alike ss are =
    each_alike (λ from. AreListedFor (λ to. IsListedFor Holds (IsOfPair hosts from to) from to) (owners_of hosts))
    (λ from. AreListedFor (λ to. IsListedFor Others (IsOfPair hosts from to) from to) (owners_of hosts))
    (λ from. each_alike (λ to. IsListedFor Holds (IsOfPair hosts from to) from to) (λ to. IsListedFor Others (IsOfPair hosts from to) from to)
    (λ to one listed. listed_alike Holds Others (IsOfPair hosts from to) (IsOfPair hosts from to) (λ p. (λ of. of, λ of. of))
    (λ p of. alike p of.packet) from to one listed) (owners_of hosts)) (owners_of hosts) ss are

module _ (table : Table) (hosts : List Host) (is : IsLoadable table) (same : HaveSameVerdicts table (chains_of table)) where
  -- ---- Services

  services_alike : (ss : List PairServices) → AreListedByOwners (LetsPass (Chains (chains_of table))) hosts ss
      → AreListedByOwners (λ p. PassesTable table New p true) hosts ss
  services_alike ss are =
      listed_same (LetsPass (Chains (chains_of table))) (λ p. PassesTable table New p true) hosts
      (λ p packet. ((same New p true packet).1, (same New p true packet).0)) ss are

  -- ---- Ranges

  range_decided : (from to : Option ℕ) (r : FlowRange) (t : TableFlowRange) → IsPlacedRange (spans_of table) r t
      → AreDeciders (Chains (chains_of table)) (IsOfRange hosts from to r.range) r.deciders → AreTableDeciders table (IsOfRange hosts from to t.range) t.deciders.items
  range_decided from to r t placed are =
      subst (λ (range : PassingRange). AreTableDeciders table (IsOfRange hosts from to range) t.deciders.items) (sym placed.range)
      (table_deciders table is same (IsOfRange hosts from to r.range) (λ p of. of.pair.packet) r.deciders are t.deciders.items placed.deciders)

  ranges_decided : (from to : Option ℕ) (rs : List FlowRange) (ts : List TableFlowRange) → AllZip (IsPlacedRange (spans_of table)) rs ts
      → All (λ r. AreDeciders (Chains (chains_of table)) (IsOfRange hosts from to r.range) r.deciders) rs
      → All (λ t. AreTableDeciders table (IsOfRange hosts from to t.range) t.deciders.items) ts
  ranges_decided from to [] [] placed are = All-nil (λ (t : TableFlowRange). AreTableDeciders table (IsOfRange hosts from to t.range) t.deciders.items)
  ranges_decided from to [] (t ∷ ts) placed are = absurd placed
  ranges_decided from to (r ∷ rs) [] placed are = absurd placed
  ranges_decided from to (r ∷ rs) (t ∷ ts) placed are =
      let Known = λ (x : FlowRange). AreDeciders (Chains (chains_of table)) (IsOfRange hosts from to x.range) x.deciders in
      All-cons (λ (x : TableFlowRange). AreTableDeciders table (IsOfRange hosts from to x.range) x.deciders.items) t ts
      (range_decided from to r t placed.0 (All-head Known r rs are)) (ranges_decided from to rs ts placed.1 (All-tail Known r rs are))

  ranges_same : (rs : List FlowRange) (ts : List TableFlowRange) → AllZip (IsPlacedRange (spans_of table)) rs ts → map (λ t. t.range) ts ≡ map (λ r. r.range) rs
  ranges_same [] [] placed = refl
  ranges_same [] (t ∷ ts) placed = absurd placed
  ranges_same (r ∷ rs) [] placed = absurd placed
  ranges_same (r ∷ rs) (t ∷ ts) placed =
      ap (λ (x : PassingRange). x ∷ map (λ y. y.range) ts) placed.0.range ∙ ap (λ (xs : List PassingRange). r.range ∷ xs) (ranges_same rs ts placed.1)

  -- ---- Pairs

  pair_flows : (s : PairServices) (f : PairFlows) (t : PairTableFlows) → AreFlowsOf (Chains (chains_of table)) hosts s f
      → IsPlacedPair (spans_of table) f t → AreTableFlowsOf table hosts s t
  pair_flows s f t are placed = record {
    source = placed.source ∙ are.source;
    destination = placed.destination ∙ are.destination;
    ranges = ranges_same f.ranges.items t.ranges.items placed.ranges ∙ are.ranges;
    deciders =
        subst (λ (from : Option ℕ). All (λ r. AreTableDeciders table (IsOfRange hosts from t.to r.range) r.deciders.items) t.ranges.items) (sym placed.source)
        (subst (λ (to : Option ℕ). All (λ r. AreTableDeciders table (IsOfRange hosts f.from to r.range) r.deciders.items) t.ranges.items) (sym placed.destination)
        (ranges_decided f.from f.to f.ranges.items t.ranges.items placed.ranges are.deciders));
  }

  each_pair : (ss : List PairServices) (fs : List PairFlows) (ts : List PairTableFlows) → AreFlowsOfEach (Chains (chains_of table)) hosts ss fs
      → AllZip (IsPlacedPair (spans_of table)) fs ts → AllZip (AreTableFlowsOf table hosts) ss ts
  each_pair [] [] [] are placed = tt
  each_pair [] [] (t ∷ ts) are placed = absurd placed
  each_pair [] (f ∷ fs) ts are placed = absurd are
  each_pair (s ∷ ss) [] ts are placed = absurd are
  each_pair (s ∷ ss) (f ∷ fs) [] are placed = absurd placed
  each_pair (s ∷ ss) (f ∷ fs) (t ∷ ts) are placed = (pair_flows s f t are.0 placed.0, each_pair ss fs ts are.1 placed.1)

  pub table_flows : (fs : List PairFlows) (ts : List PairTableFlows) → AreFlows (Chains (chains_of table)) hosts fs
      → AllZip (IsPlacedPair (spans_of table)) fs ts → AreTableFlows table hosts ts
  table_flows fs ts are placed = record {
    services = are.services;
    listed = services_alike are.services are.listed;
    each = each_pair are.services fs ts are.each placed;
  }
