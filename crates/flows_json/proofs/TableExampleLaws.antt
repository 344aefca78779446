-- Laws of the flows of tables: what similar tables let pass, and their dead places, are determined, but for the examples.
use Rattle.std.proofs.Common.{◌≡◌, ℕ, suc, Bool, true, List, [], ◌∷◌, map, Option, refl, sym, ap, ◌∙◌, arith}
use Rattle.std.specs.List.{All, AllZip}
use Rattle.host_net.specs.Host.{Host}
use Rattle.host_net.specs.declared.packet.Packet.{Packet}
use Rattle.host_net.specs.declared.packet.CtState.TheVariants.{New}
use Rattle.nft_rules.specs.Semantics.{PassesTable}
use Rattle.nft_rules.specs.declared.table.Table.{Table}
use Rattle.pass_core.specs.Pairs.{AreListedByOwners}
use Rattle.pass_core.specs.declared.pairs.PairServices.{PairServices}
use Rattle.decide_core.specs.Flows.{IsOfRange}
use Rattle.nft_flows.specs.Dead.{AreDeadTablePlaces}
use Rattle.nft_flows.specs.Deciders.{AreTableDeciders}
use Rattle.nft_flows.specs.Flows.{AreTableFlows, AreTableFlowsOf}
use Rattle.nft_flows.specs.Places.{ComesBefore}
use Rattle.nft_flows.specs.declared.flows.PairTableFlows.{PairTableFlows}
use Rattle.nft_flows.specs.declared.flows.TableFlowRange.{TableFlowRange}
use Rattle.nft_flows.specs.declared.place.TablePlace.{TablePlace}
use Rattle.nft_flows.proofs.AlikeLaws.{AreSimilar, IsKnown, ascending_pairs, dead_alike, decides_alike, not_both, passes_alike, similar_back}
use Rattle.nft_flows.proofs.FlowLaws.{listed_same}
use Rattle.range_json.specs.WithoutExamples.{range_without_examples}
use Rattle.range_json.proofs.OrderLaws.{one_order}
use Rattle.flows_json.specs.WithoutExamples.{table_pair_without_examples, table_range_without_examples}
use Rattle.flows_json.proofs.FlowExampleLaws.{of_range_too, service_facts, services_alike}

module _ (a b : Table) (one : IsKnown a) (two : IsKnown b) (similar : AreSimilar a b) where
  pub dead_are_one : (ps qs : List TablePlace) → AreDeadTablePlaces a ps → AreDeadTablePlaces b qs → ps ≡ qs
  dead_are_one ps qs first second =
      one_order ComesBefore not_both ps qs (ascending_pairs ps first.ascending) (ascending_pairs qs second.ascending)
      (λ x there. (second.exact x).1 (dead_alike a b one two similar x ((first.exact x).0 there)))
      (λ x there. (first.exact x).1 (dead_alike b a two one (similar_back a b similar) x ((second.exact x).0 there)))

  module _ (hosts : List Host) where
    ranges_alike : (from to from' to' : Option ℕ) → from ≡ from' → to ≡ to' → (rs qs : List TableFlowRange)
        → map range_without_examples (map (λ r. r.range) rs) ≡ map range_without_examples (map (λ r. r.range) qs)
        → All (λ r. AreTableDeciders a (IsOfRange hosts from to r.range) r.deciders.items) rs
        → All (λ r. AreTableDeciders b (IsOfRange hosts from' to' r.range) r.deciders.items) qs
        → map table_range_without_examples rs ≡ map table_range_without_examples qs
    ranges_alike from to from' to' sources ends [] [] same first second = refl
    ranges_alike from to from' to' sources ends [] (q ∷ qs) same first second = cc same
    ranges_alike from to from' to' sources ends (r ∷ rs) [] same first second = cc same
    ranges_alike from to from' to' sources ends (r ∷ rs) (q ∷ qs) same first second =
        let facts : range_without_examples r.range ≡ range_without_examples q.range = cc same in
        let rest : map range_without_examples (map (λ x. x.range) rs) ≡ map range_without_examples (map (λ x. x.range) qs) = cc same in
        let lows : r.range.low ≡ q.range.low = ap (λ (x : ℕ × ℕ × Bool). x.0) facts in
        let highs : r.range.high ≡ q.range.high = ap (λ (x : ℕ × ℕ × Bool). x.1) facts in
        let into = of_range_too hosts from to from' to' r.range q.range sources ends lows highs in
        let back = of_range_too hosts from' to' from to q.range r.range (sym sources) (sym ends) (sym lows) (sym highs) in
        let here = first 0 r (omega arith) in
        let there = second 0 q (omega arith) in
        let places : r.deciders.items ≡ q.deciders.items =
        one_order ComesBefore not_both r.deciders.items q.deciders.items (ascending_pairs r.deciders.items here.ascending)
        (ascending_pairs q.deciders.items there.ascending)
        (λ x among. (there.exact x).1 (decides_alike a b one two similar (IsOfRange hosts from to r.range) (IsOfRange hosts from' to' q.range) into
        (λ p of. of.pair.packet) x ((here.exact x).0 among)))
        (λ x among. (here.exact x).1 (decides_alike b a two one (similar_back a b similar) (IsOfRange hosts from' to' q.range) (IsOfRange hosts from to r.range) back
        (λ p of. of.pair.packet) x ((there.exact x).0 among))) in
        let later = ranges_alike from to from' to' sources ends rs qs rest (λ k d low. first (suc k) d (omega (arith, low)))
        (λ k d low. second (suc k) d (omega (arith, low))) in
        λ i. (facts i, places i) ∷ later i

    pair_alike : (s t : PairServices) (f g : PairTableFlows) → service_facts s ≡ service_facts t → AreTableFlowsOf a hosts s f
        → AreTableFlowsOf b hosts t g → table_pair_without_examples f ≡ table_pair_without_examples g
    pair_alike s t f g same first second =
        let sources : f.from ≡ g.from = first.source ∙ ap (λ (x : Option ℕ × Option ℕ × List (ℕ × ℕ × Bool)). x.0) same ∙ sym second.source in
        let ends : f.to ≡ g.to = first.destination ∙ ap (λ (x : Option ℕ × Option ℕ × List (ℕ × ℕ × Bool)). x.1) same ∙ sym second.destination in
        let ranges = ap (map range_without_examples) first.ranges ∙ ap (λ (x : Option ℕ × Option ℕ × List (ℕ × ℕ × Bool)). x.2) same ∙ sym (ap (map range_without_examples) second.ranges) in
        let all = ranges_alike f.from f.to g.from g.to sources ends f.ranges.items g.ranges.items ranges first.deciders second.deciders in
        λ i. (sources i, ends i, all i)

    each_alike : (ss ts : List PairServices) (fs gs : List PairTableFlows) → map service_facts ss ≡ map service_facts ts
        → AllZip (AreTableFlowsOf a hosts) ss fs → AllZip (AreTableFlowsOf b hosts) ts gs → map table_pair_without_examples fs ≡ map table_pair_without_examples gs
    each_alike [] [] [] [] same first second = refl
    each_alike [] ts (f ∷ fs) gs same first second = absurd first
    each_alike (s ∷ ss) ts [] gs same first second = absurd first
    each_alike [] [] [] (g ∷ gs) same first second = absurd second
    each_alike [] (t ∷ ts) [] gs same first second = cc same
    each_alike (s ∷ ss) [] (f ∷ fs) gs same first second = cc same
    each_alike (s ∷ ss) (t ∷ ts) (f ∷ fs) [] same first second = absurd second
    each_alike (s ∷ ss) (t ∷ ts) (f ∷ fs) (g ∷ gs) same first second =
        let facts : service_facts s ≡ service_facts t = cc same in
        let rest : map service_facts ss ≡ map service_facts ts = cc same in
        let here = pair_alike s t f g facts first.0 second.0 in
        let later = each_alike ss ts fs gs rest first.1 second.1 in
        λ i. here i ∷ later i

    -- Two lists of all flows are alike.
    pub table_flows_are_alike : (fs gs : List PairTableFlows) → AreTableFlows a hosts fs → AreTableFlows b hosts gs
        → map table_pair_without_examples fs ≡ map table_pair_without_examples gs
    table_flows_are_alike fs gs first second =
        let Holds = λ (p : Packet). PassesTable b New p true in
        let moved : AreListedByOwners Holds hosts first.services =
        listed_same (λ p. PassesTable a New p true) Holds hosts
        (λ p packet. (passes_alike a b one two similar p packet, passes_alike b a two one (similar_back a b similar) p packet)) first.services first.listed in
        each_alike first.services second.services fs gs (services_alike Holds hosts first.services second.services moved second.listed) first.each second.each
