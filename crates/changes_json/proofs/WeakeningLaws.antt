-- Laws of weakenings: the flows of findings that satisfy a condition, and that the flows of a weakening are flows of the two networks.
use Rattle.std.proofs.Common.{◌≡◌, ◌↔◌, ◌<◌, ◌≤◌, ℕ, ◌+◌, Bool, true, false, cond, ◌&&◌, ◌||◌, List, [], ◌∷◌, ◌++◌, length, get_or, take, map, refl, sym, ◌∙◌, ap, subst, inl, inr}
use Rattle.std.specs.Prelude.{All, IsTrue}
use Rattle.std.proofs.lemmas.Bool.{and_parts, or_cases, or_left, or_right}
use Rattle.std.specs.List.{Contains}
use Rattle.std.proofs.lemmas.List.Elements.{All-contains, Contains-get_or}
use Rattle.change_core.proofs.ListLaws.{contains_cases, contains_first, contains_later, contains_none}
use Rattle.change_core.specs.Weaker.{AreWeaker, IsNewGap, IsWeaker}
use Rattle.change_core.specs.declared.weaker.Weaker.{Weaker}
use Rattle.explain_core.specs.Failing.{AreDenying}
use Rattle.explain_core.specs.declared.finding.Finding.{Finding}
use Rattle.flow_set.specs.Flow.{IsFlow, same_flow}
use Rattle.flow_set.specs.FlowSet.{SetOfFlows, has, with_flow}
use Rattle.flow_set.specs.declared.flow.Flow.{Flow}
use Rattle.flow_set.specs.laws.FlowLaws.{has-with_flow, or_swap}
use Rattle.flow_set.proofs.EveryFlowLaws.{IsFull-every_flow}
use Rattle.host_net.specs.Host.{Host}
use Rattle.host_net.specs.Site.{Site}
use Rattle.net_core.specs.Network.{Network, site_of}
use Rattle.net_core.specs.Policies.{Policy, holds_on}
use Rattle.changes_json.specs.Weakening.{AreAllDenials, IsWeakening, flows_where, is_denied, is_free, is_gap_of}
use Rattle.changes_json.specs.declared.weakened.Weakened.{Weakened}
use Rattle.changes_json.specs.declared.weakening.Weakening.{Weakening}
use Rattle.changes_json.specs.inner.Denying.{HasFinding}
use Rattle.why_json.specs.inner.Fitting.{FitsPair}
use Rattle.changes_json.specs.inner.Fitting.{FitsWeakening}
use Rattle.json_core.proofs.ArrayLaws.{take_read}

-- ---- the flows of findings

has_if : (b : Bool) (g : Flow) (gs : List Flow) (f : Flow) → has (cond b (g ∷ gs) gs) f ≡ ((b && same_flow g f) || has gs f)
has_if true g gs f = refl
has_if false g gs f = refl

-- The members after one finding more.
where_push : (wanted : Finding → Bool) (seen : List Finding) (x : Finding) (f : Flow)
    → has (flows_where wanted (seen ++ x ∷ [])) f ≡ ((wanted x && same_flow x.flow f) || has (flows_where wanted seen) f)
where_push wanted [] x f = has_if (wanted x) x.flow [] f
where_push wanted (y ∷ ys) x f =
    has_if (wanted y) y.flow (flows_where wanted (ys ++ x ∷ [])) f
    ∙ ap (λ (b : Bool). (wanted y && same_flow y.flow f) || b) (where_push wanted ys x f)
    ∙ or_swap (wanted y && same_flow y.flow f) (wanted x && same_flow x.flow f) (has (flows_where wanted ys) f)
    ∙ ap (λ (b : Bool). (wanted x && same_flow x.flow f) || b) (sym (has_if (wanted y) y.flow (flows_where wanted ys) f))

inserted_members : (old new : SetOfFlows) (g f : Flow) (b : Bool) → new ≡ cond b (record { size = old.size; flows = with_flow old.flows g }) old
    → has new.flows f ≡ ((b && same_flow g f) || has old.flows f)
inserted_members old new g f true is = ap (λ (s : SetOfFlows). has s.flows f) is ∙ has-with_flow old.flows g f
inserted_members old new g f false is = ap (λ (s : SetOfFlows). has s.flows f) is

pub where_more : (wanted : Finding → Bool) (old new : SetOfFlows) (found : List Finding) (i : ℕ) (x : Finding) (b : Bool)
    → i < length found → x ≡ get_or found i x → ((f : Flow) → has old.flows f ≡ has (flows_where wanted (take i found)) f) → b ≡ wanted x
    → new ≡ cond b (record { size = old.size; flows = with_flow old.flows x.flow }) old
    → (f : Flow) → has new.flows f ≡ has (flows_where wanted (take (i + 1) found)) f
where_more wanted old new found i x b below read before is after f =
    inserted_members old new x.flow f b after
    ∙ ap (λ (c : Bool). (c && same_flow x.flow f) || has old.flows f) is
    ∙ ap (λ (c : Bool). (wanted x && same_flow x.flow f) || c) (before f)
    ∙ sym (where_push wanted (take i found) x f)
    ∙ ap (λ (xs : List Finding). has (flows_where wanted xs) f) (sym (take_read found i x below read))

-- Each flow is that of a finding.
where_within : (wanted : Finding → Bool) (found : List Finding) (f : Flow) → IsTrue (has (flows_where wanted found) f)
    → IsTrue (has (map (λ x. x.flow) found) f)
where_within wanted [] f there = there
where_within wanted (x ∷ xs) f there =
    elim (or_cases (wanted x && same_flow x.flow f) (has (flows_where wanted xs) f) (sym (has_if (wanted x) x.flow (flows_where wanted xs) f) ∙ there)) [
      | inl here ↦ or_left (same_flow x.flow f) (has (map (λ y. y.flow) xs) f) (and_parts (wanted x) (same_flow x.flow f) here).1
      | inr later ↦ or_right (same_flow x.flow f) (has (map (λ y. y.flow) xs) f) (where_within wanted xs f later)
    ]

-- ---- sets with the same members

module _ (old : Site) (xs ys : List Flow) (same : (f : Flow) → has xs f ≡ has ys f) (new : Site) (us vs : List Flow)
    (alike : (f : Flow) → has us f ≡ has vs f) where
  weaker_alike : (w : Weaker) → IsWeaker old xs new us w → IsWeaker old ys new vs w
  weaker_alike w is = record { is_free = sym (alike w.flow) ∙ is.is_free; is_denied = sym (same w.old) ∙ is.is_denied; shared = is.shared }

  weaker_again : (w : Weaker) → IsWeaker old ys new vs w → IsWeaker old xs new us w
  weaker_again w is = record { is_free = alike w.flow ∙ is.is_free; is_denied = same w.old ∙ is.is_denied; shared = is.shared }

  -- Weaker flows depend on the members of the two sets alone.
  pub are_weaker_alike : (ws : List Weaker) → AreWeaker old xs new us ws → AreWeaker old ys new vs ws
  are_weaker_alike ws are = record {
    ascending = are.ascending;
    exact = λ w. ((λ there. weaker_alike w ((are.exact w).0 there)), (λ is. (are.exact w).1 (weaker_again w is)));
  }

module _ (old : List Host) (xs ys : List Flow) (same : (f : Flow) → has xs f ≡ has ys f) (new : List Host) (us vs : List Flow)
    (alike : (f : Flow) → has us f ≡ has vs f) where
  gap_alike : (f : Flow) → IsNewGap old xs new us f → IsNewGap old ys new vs f
  gap_alike f is = record {
    is_gap = sym (alike f) ∙ is.is_gap;
    packet = is.packet;
    of_gap = is.of_gap;
    of_no_old_gap = λ g there of. is.of_no_old_gap g (same g ∙ there) of;
  }

  gap_again : (f : Flow) → IsNewGap old ys new vs f → IsNewGap old xs new us f
  gap_again f is = record {
    is_gap = alike f ∙ is.is_gap;
    packet = is.packet;
    of_gap = is.of_gap;
    of_no_old_gap = λ g there of. is.of_no_old_gap g (sym (same g) ∙ there) of;
  }

  -- New gaps depend on the members of the two sets alone.
  pub are_gaps_alike : (fs : List Flow) → ((f : Flow) → (IsTrue (has fs f) ↔ IsNewGap old xs new us f))
      → (f : Flow) → (IsTrue (has fs f) ↔ IsNewGap old ys new vs f)
  are_gaps_alike fs are f = ((λ there. gap_alike f ((are f).0 there)), (λ is. (are f).1 (gap_again f is)))

-- ---- flows of the network

-- What an element is mapped to is an element of the mapped list.
pub mapped : {X Y : Type 0} (f : X → Y) (xs : List X) (x : X) → Contains xs x → Contains (map f xs) (f x)
mapped f [] x there = absurd (contains_none x there)
mapped f (y ∷ ys) x there = elim (contains_cases y ys x there) [
  | inl is ↦ contains_first (f y) (map f ys) (f x) (ap f is)
  | inr later ↦ contains_later (f y) (map f ys) (f x) (mapped f ys x later)
]

-- The findings of a network are of its flows.
pub flows_fit : (d : Network) (policy : Policy) (found : List Finding) → All (FitsPair d policy) found → All (λ x. IsFlow (length d.hosts) x.flow) found
flows_fit d policy found fit k x below = (fit k x below).finding.flow

where_fits : (d : Network) (policy : Policy) (wanted : Finding → Bool) (found : List Finding) → AreAllDenials d policy found → (f : Flow)
    → IsTrue (has (flows_where wanted found) f) → IsFlow (length d.hosts) f
where_fits d policy wanted found are f there =
    (IsFull-every_flow (length d.hosts) f).0 (subst (λ (fs : List Flow). IsTrue (has fs f)) are.flows (where_within wanted found f there))

-- The old flow of a weaker flow is a flow of the old network.
pub old_flows_fit : (old : Network) (before : Policy) (new : Site) (free : List Flow) (found : List Finding) (ws : List Weaker) → AreAllDenials old before found
    → AreWeaker (site_of old) (flows_where is_denied found) new free ws → All (λ w. IsFlow (length old.hosts) w.old) ws
old_flows_fit old before new free found ws are weaker k x below =
    where_fits old before is_denied found are (get_or ws k x).old ((weaker.exact (get_or ws k x)).0 (Contains-get_or ws k x below)).is_denied

-- The numbers of a finding of a flow are those of all invariants that deny it.
pub denied_as : (d : Network) (policy : Policy) (found : List Finding) → AreAllDenials d policy found → (f : Flow) (numbers : List ℕ)
    → HasFinding found f numbers → AreDenying holds_on d.invariants policy.permitted.flows f numbers
denied_as d policy found are f numbers has =
    let p = policy.permitted.flows in
    subst (λ (ns : List ℕ). AreDenying holds_on d.invariants p f ns) has.numbers_are
    (subst (λ (g : Flow). AreDenying holds_on d.invariants p g has.finding.by.items) has.flow
    (All-contains (λ x. AreDenying holds_on d.invariants p x.flow x.by.items) found has.finding are.each has.listed))

pub all_denied_as : (d : Network) (policy : Policy) (found : List Finding) → AreAllDenials d policy found → (xs : List Weakened)
    → All (λ x. HasFinding found x.flows.old x.denied_by.items) xs
    → All (λ x. AreDenying holds_on d.invariants policy.permitted.flows x.flows.old x.denied_by.items) xs
all_denied_as d policy found are xs has k x below =
    denied_as d policy found are (get_or xs k x).flows.old (get_or xs k x).denied_by.items (has k x below)

-- The flows of a weakening are flows of the two networks.
pub weakening_fits : (old : Network) (before : Policy) (new : Network) (after : Policy) (w : Weakening) → length new.hosts ≤ 256
    → IsWeakening old before new after w → FitsWeakening new.hosts old.hosts w
weakening_fits old before new after w small is = record {
  weaker = λ k x below.
      let v : Weakened = get_or w.weaker.items k x in
      let one = (is.weaker.exact v.flows).0 (mapped (λ y. y.flows) w.weaker.items v (Contains-get_or w.weaker.items k x below)) in
      record {
        flow = where_fits new after is_free is.denials is.are_denials v.flows.flow one.is_free;
        old_flow = where_fits old before is_denied is.old_denials is.are_old_denials v.flows.old one.is_denied;
      };
  gaps = record {
    small = small;
    ordered = is.ordered;
    flows = λ f there. where_fits new after (is_gap_of new after) is.denials is.are_denials f ((is.gaps f).0 there).is_gap;
  };
}
