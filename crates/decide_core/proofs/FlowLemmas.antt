-- Flows: lists made element by element, the packets of a pair and its range, and the services of listed pairs.
use Rattle.std.proofs.Common.{◌≡◌, ◌↔◌, ℕ, ◌+◌, ◌<◌, ◌≤◌, ◌∙◌, List, [], ◌∷◌, ◌++◌, Option, get_or, length, map, take, sym, ap, subst}
use Rattle.std.specs.List.{All}
use Rattle.std.proofs.lemmas.List.{map_push, take_all, take_more}
use Rattle.std.proofs.lemmas.List.Elements.{All-append, All-cons, All-nil, All-weaker}
use Rattle.host_net.specs.Host.{Host}
use Rattle.host_net.specs.declared.packet.Packet.{Packet}
use Rattle.header_space.specs.declared.address_range.AddressRange.{AddressRange}
use Rattle.header_space.specs.Owners.{HaveAddresses, IsOfPair, owners_of}
use Rattle.header_space.proofs.OwnersLaws.{covered_owned}
use Rattle.rules_space.specs.Rules.{AnyRules}
use Rattle.rules_space.proofs.ListLaws.{take_at}
use Rattle.pass_core.specs.Pairs.{AreListedByOwners, AreListedFor, IsListedFor}
use Rattle.pass_core.specs.Passing.{IsShown}
use Rattle.pass_core.specs.Services.{service_count}
use Rattle.pass_core.specs.declared.pairs.PairServices.{PairServices}
use Rattle.pass_core.specs.declared.passing_range.PassingRange.{PassingRange}
use Rattle.decide_core.specs.declared.flows.FlowRange.{FlowRange}
use Rattle.decide_core.specs.declared.flows.PairFlows.{PairFlows}
use Rattle.decide_core.specs.Deciders.{AreDeciders}
use Rattle.decide_core.specs.Flows.{AreFlowsOf, AreFlowsOfEach, IsOfRange}
use Rattle.decide_core.specs.ServiceRanges.{HasServiceBetween}
use Rattle.decide_core.specs.inner.Flows.{HasServices}
use Rattle.decide_core.proofs.ServiceLemmas.{same_deciders}

-- ---- lists made element by element

pub mapped_more : {X Y : Type 0} (f : X → Y) (ys : List Y) (i : ℕ) (d : Y) (old new : List X) (x : X) → i < length ys → f x ≡ get_or ys i d
    → new ≡ old ++ x ∷ [] → map f old ≡ take i ys → map f new ≡ take (i + 1) ys
mapped_more {Y = Y} f ys i d old new x within is pushed before =
    ap (map f) pushed ∙ map_push f old x ∙ ap (λ (l : List Y). l ++ f x ∷ []) before ∙ ap (λ (y : Y). take i ys ++ y ∷ []) is
    ∙ sym (take_more ys i d within)

-- ---- the packets of a pair

module _ (rules : AnyRules) (hosts : List Host) where
  module _ (from to : Option ℕ) (xs ys : List AddressRange) (sources : HaveAddresses hosts from xs) (targets : HaveAddresses hosts to ys) where
    of_range : (r : PassingRange) (p : Packet) → HasServiceBetween xs ys r.low r.high p ↔ IsOfRange hosts from to r p
    of_range r p = (
      λ has. record {
        pair = record {
          packet = has.between.packet;
          src = covered_owned hosts from xs sources.owned p.src has.between.src;
          dst = covered_owned hosts to ys targets.owned p.dst has.between.dst;
        };
        low = has.low;
        high = has.high;
      },
      λ is. record {
        between = record {
          packet = is.pair.packet;
          src = sources.covered p.src is.pair.packet.0 is.pair.src;
          dst = targets.covered p.dst is.pair.packet.1 is.pair.dst;
        };
        low = is.low;
        high = is.high;
      },
    )

    pub deciders_of_pair : (list : List FlowRange) → All (λ r. AreDeciders rules (HasServiceBetween xs ys r.range.low r.range.high) r.deciders) list
        → All (λ r. AreDeciders rules (IsOfRange hosts from to r.range) r.deciders) list
    deciders_of_pair list all =
        All-weaker (λ r. AreDeciders rules (HasServiceBetween xs ys r.range.low r.range.high) r.deciders)
        (λ r. AreDeciders rules (IsOfRange hosts from to r.range) r.deciders)
        (λ r are. same_deciders rules (HasServiceBetween xs ys r.range.low r.range.high) (IsOfRange hosts from to r.range) (of_range r.range) r.deciders are)
        list all

  -- ---- one pair after another

  flows_push : (ss : List PairServices) (fs : List PairFlows) (s : PairServices) (f : PairFlows) → AreFlowsOfEach rules hosts ss fs
      → AreFlowsOf rules hosts s f → AreFlowsOfEach rules hosts (ss ++ s ∷ []) (fs ++ f ∷ [])
  flows_push [] [] s f each are = (are, tt)
  flows_push [] (g ∷ fs) s f each are = absurd each
  flows_push (t ∷ ss) [] s f each are = absurd each
  flows_push (t ∷ ss) (g ∷ fs) s f each are = (each.0, flows_push ss fs s f each.1 are)

  pub flows_more : (ss : List PairServices) (i : ℕ) (s : PairServices) (old new : List PairFlows) (f : PairFlows) → i < length ss → s ≡ get_or ss i s
      → new ≡ old ++ f ∷ [] → AreFlowsOfEach rules hosts (take i ss) old → AreFlowsOf rules hosts s f
      → AreFlowsOfEach rules hosts (take (i + 1) ss) new
  flows_more ss i s old new f within read pushed each are =
      rw (take_at ss i s within read, pushed) (flows_push (take i ss) old s f each are)

  pub flows_all : (ss : List PairServices) (i : ℕ) (fs : List PairFlows) → length ss ≤ i → AreFlowsOfEach rules hosts (take i ss) fs
      → AreFlowsOfEach rules hosts ss fs
  flows_all ss i fs past each = subst (λ (l : List PairServices). AreFlowsOfEach rules hosts l fs) (take_all i ss past) each

  pub flows_none : (fs : List PairFlows) → fs ≡ [] → AreFlowsOfEach rules hosts [] fs
  flows_none fs none = subst (λ (l : List PairFlows). AreFlowsOfEach rules hosts [] l) (sym none) tt

-- ---- the services of listed pairs

listed_services : (Holds Between : Packet → Type 0) (from to : Option ℕ) (ss : List PairServices) → IsListedFor Holds Between from to ss
    → All HasServices ss
listed_services Holds Between from to [] none = All-nil HasServices
listed_services Holds Between from to (s ∷ []) one =
    All-cons HasServices s []
    (All-weaker (λ r. IsShown Holds Between r) (λ r. r.high < service_count) (λ r is. is.services) s.ranges.items one.passing.shown)
    (All-nil HasServices)
listed_services Holds Between from to (s ∷ t ∷ ss) wrong = absurd wrong

listed_each : {A : Type 0} (Listed : A → List PairServices → Type 0) → ((x : A) (ss : List PairServices) → Listed x ss → All HasServices ss)
    → (xs : List A) (ss : List PairServices) → AreListedFor Listed xs ss → All HasServices ss
listed_each Listed each [] ss none = subst (All HasServices) (sym none) (All-nil HasServices)
listed_each Listed each (x ∷ xs) ss are =
    subst (All HasServices) (sym are.2)
    (All-append HasServices are.0 are.1 (each x are.0 are.3) (listed_each Listed each xs are.1 are.4))

pub listed_have_services : (Holds : Packet → Type 0) (hosts : List Host) (ss : List PairServices) → AreListedByOwners Holds hosts ss → All HasServices ss
listed_have_services Holds hosts ss are =
    listed_each (λ from. AreListedFor (λ to. IsListedFor Holds (IsOfPair hosts from to) from to) (owners_of hosts))
    (λ from. listed_each (λ to. IsListedFor Holds (IsOfPair hosts from to) from to)
    (λ to. listed_services Holds (IsOfPair hosts from to) from to) (owners_of hosts)) (owners_of hosts) ss are
