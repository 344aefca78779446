-- Two tables with the same chains and the same spans have the same deciders and the same dead places.
use Rattle.std.proofs.Common.{◌≡◌, inl, inr, ℕ, zero, suc, true, List, [], ◌∷◌, Option, Some, get_or, refl, sym, ap, subst, ◌∙◌, arith}
use Rattle.std.specs.Prelude.{IsSome, IsTrue}
use Rattle.std.specs.List.{AllPairs, Contains}
use Rattle.std.proofs.lemmas.List.Elements.{Contains-get_or}
use Rattle.host_net.specs.declared.packet.Packet.{Packet}
use Rattle.host_net.specs.declared.packet.CtState.{CtState}
use Rattle.host_net.specs.declared.packet.CtState.TheVariants.{New}
use Rattle.host_net.specs.declared.packet.Verdict.{Verdict as Outcome}
use Rattle.host_net.specs.Packet.{IsPacket}
use Rattle.ipt_rules.specs.Chain.{Chain}
use Rattle.ipt_rules.specs.Meets.{IsMet as IsRuleMet, verdict_at as rule_verdict}
use Rattle.ipt_rules.specs.Semantics.{PassesChains}
use Rattle.nft_rules.specs.declared.table.Table.{Table}
use Rattle.nft_rules.specs.declared.table.Verdict.{Verdict}
use Rattle.nft_rules.specs.Loadable.{IsLoadable}
use Rattle.nft_rules.specs.Semantics.{PassesTable}
use Rattle.nft_chains.specs.Translation.{HaveSameVerdicts, chains_of}
use Rattle.nft_flows.specs.Dead.{IsDeadPlace}
use Rattle.nft_flows.specs.Deciders.{DecidesOne, ends_evaluation}
use Rattle.nft_flows.specs.Places.{AreAscending, ComesBefore, IsMet, rank, verdict_at}
use Rattle.nft_flows.specs.declared.place.TablePlace.{TablePlace}
use Rattle.nft_flows.specs.declared.span.Span.{Span}
use Rattle.nft_flows.specs.inner.Spans.{spans_of}
use Rattle.nft_flows.proofs.MetLaws.{met_stands}
use Rattle.nft_flows.proofs.OrderLaws.{last_of_none, one_of_rule}
use Rattle.nft_flows.proofs.ReachLaws.{met_has_rule}
use Rattle.nft_flows.proofs.ResultLaws.{ends_verdict, known_span, rule_has, verdict_ends}
use Rattle.nft_flows.proofs.TargetLaws.{span_verdict}

-- A table whose verdicts are those of its chains.
pub record IsKnown (table : Table) : Type 0 where
  pub loadable : IsLoadable table
  pub same : HaveSameVerdicts table (chains_of table)

-- Two tables have the same chains and the same spans.
pub record AreSimilar (a b : Table) : Type 0 where
  pub chains : chains_of a ≡ chains_of b
  pub spans : spans_of a ≡ spans_of b

pub similar_back : (a b : Table) → AreSimilar a b → AreSimilar b a
similar_back a b similar = record { chains = sym similar.chains; spans = sym similar.spans }

module _ (a b : Table) (one : IsKnown a) (two : IsKnown b) (similar : AreSimilar a b) where
  pub passes_alike : (p : Packet) → IsPacket p → PassesTable a New p true → PassesTable b New p true
  passes_alike p packet passes =
      (two.same New p true packet).1
      (subst (λ (chains : List Chain). PassesChains chains New p true) similar.chains ((one.same New p true packet).0 passes))

  met_alike : (state : CtState) (p : Packet) (place : TablePlace) → IsPacket p → IsMet a p state place → IsMet b p state place
  met_alike state p place packet met =
      let found = met_has_rule a state p one.loadable packet place met in
      let s = found.0 in
      let q = found.3.0 in
      let among = subst (λ (ss : List Span). Contains ss s) similar.spans found.1 in
      elim (met_stands b state p q two.loadable packet (subst (λ (chains : List Chain). IsRuleMet chains p state q) similar.chains found.3.2)) [
        | inl stand ↦
            let own = one_of_rule b stand.0 s q stand.1 among stand.2 found.3.1 in
            subst (IsMet b p state) found.2 (subst (λ (t : Span). IsMet b p state t.place) own stand.3)
        | inr last ↦ absurd (last_of_none b s q among found.3.1 last)
      ]

  ends_alike : (state : CtState) (p : Packet) (place : TablePlace) → IsPacket p → IsMet a p state place
      → IsTrue (ends_evaluation (verdict_at a place)) → IsTrue (ends_evaluation (verdict_at b place))
  ends_alike state p place packet met ends =
      let found = met_has_rule a state p one.loadable packet place met in
      let s = found.0 in
      let q = found.3.0 in
      let among = subst (λ (ss : List Span). Contains ss s) similar.spans found.1 in
      let known = span_verdict a s found.1 in
      let own = span_verdict b s among in
      let here : verdict_at a place ≡ Some known.verdict = ap (verdict_at a) (sym found.2) ∙ known.there in
      let there : verdict_at b place ≡ Some own.verdict = ap (verdict_at b) (sym found.2) ∙ own.there in
      let some : IsSome (rule_verdict (chains_of a) q) =
      subst (λ (o : Option Outcome). IsSome o) (sym (rule_has a s q known found.3.1))
      (ends_verdict known.verdict (subst (λ (o : Option Verdict). IsTrue (ends_evaluation o)) here ends)) in
      let also : IsSome (rule_verdict (chains_of b) q) = subst (λ (chains : List Chain). IsSome (rule_verdict chains q)) similar.chains some in
      subst (λ (o : Option Verdict). IsTrue (ends_evaluation o)) (sym there)
      (verdict_ends own.verdict (rule_verdict (chains_of b) q) (rule_has b s q own found.3.1) also)

  pub decides_alike : (Among Others : Packet → Type 0) → ((p : Packet) → Among p → Others p) → ((p : Packet) → Among p → IsPacket p) → (place : TablePlace)
      → DecidesOne a Among place → DecidesOne b Others place
  decides_alike Among Others into packets place decides =
      let p = decides.packet in
      let packet = packets p decides.among in
      record {
        packet = p;
        among = into p decides.among;
        passes = passes_alike p packet decides.passes;
        decides = (met_alike New p place packet decides.decides.0, ends_alike New p place packet decides.decides.0 decides.decides.1);
      }

module _ (a b : Table) (one : IsKnown a) (two : IsKnown b) (similar : AreSimilar a b) where
  pub dead_alike : (place : TablePlace) → IsDeadPlace a place → IsDeadPlace b place
  dead_alike place dead =
      let found = known_span a place (verdict_at a place) refl dead.there in
      let among = subst (λ (ss : List Span). Contains ss found.0) similar.spans found.1 in
      let own = span_verdict b found.0 among in
      record {
        there = subst (λ (o : Option Verdict). IsSome o) (sym (ap (verdict_at b) (sym found.2) ∙ own.there)) refl;
        unmet = λ p state packet met. dead.unmet p state packet (met_alike b a two one (similar_back a b similar) state p place packet met);
      }

-- ---- Lists of places

pub not_both : (p q : TablePlace) → ComesBefore p q → ComesBefore q p → ⊥
not_both p q (inl low) (inl high) = omega (arith, low, high)
not_both p q (inl low) (inr (chain, more)) = let same = ap (λ (c : Option ℕ). rank c) chain in omega (arith, low, same)
not_both p q (inr (chain, more)) (inl high) = let same = ap (λ (c : Option ℕ). rank c) chain in omega (arith, high, same)
not_both p q (inr (chain, inl low)) (inr (also, inl high)) = omega (arith, low, high)
not_both p q (inr (chain, inl low)) (inr (also, inr (rule, element))) = omega (arith, low, rule)
not_both p q (inr (chain, inr (rule, element))) (inr (also, inl high)) = omega (arith, rule, high)
not_both p q (inr (chain, inr (rule, element))) (inr (also, inr (other, more))) = omega (arith, element, more)

pub ascending_pairs : (ps : List TablePlace) → AreAscending ps → AllPairs ComesBefore ps
ascending_pairs [] are i j d low there = absurd (omega (arith, there))
ascending_pairs (p ∷ ps) are i zero d low there = absurd (omega (arith, low))
ascending_pairs (p ∷ ps) are zero (suc j) d low there = are.0 (get_or ps j d) (Contains-get_or ps j d (omega (arith, there)))
ascending_pairs (p ∷ ps) are (suc i) (suc j) d low there = ascending_pairs ps are.1 i j d (omega (arith, low)) (omega (arith, there))
