-- Two weakenings by one change have a weaker flow, or neither has one.
use Rattle.std.proofs.Common.{◌≡◌, ℕ, Bool, true, List, [], ◌∷◌, length, map, not, refl, sym, ◌∙◌, ap, ap₂, subst}
use Rattle.std.specs.Prelude.{IsTrue, if◌then◌else◌}
use Rattle.rules_space.proofs.ListLaws.{contains_first, contains_none}
use Rattle.change_core.specs.Weaker.{AreWeaker}
use Rattle.change_core.specs.declared.weaker.Weaker.{Weaker}
use Rattle.explain_core.specs.Failing.{AreDenying}
use Rattle.explain_core.specs.declared.finding.Finding.{Finding}
use Rattle.explain_core.proofs.LeastLaws.{both_imply}
use Rattle.explain_core.proofs.ReasonLaws.{failing_is_one, finding_parts, findings_are_one}
use Rattle.flow_set.specs.EveryFlow.{every_flow}
use Rattle.flow_set.specs.FlowSet.{with_flow}
use Rattle.flow_set.specs.declared.flow.Flow.{Flow}
use Rattle.host_net.specs.Site.{Site}
use Rattle.net_core.specs.Network.{Network, site_of}
use Rattle.net_core.specs.Policies.{Policy, holds_on}
use Rattle.json_core.specs.Json.{is_nothing}
use Rattle.changes_json.specs.Weakening.{AreAllDenials, IsWeakening, flows_where, is_denied, is_free}
use Rattle.changes_json.specs.declared.weakening.Weakening.{Weakening}

-- ---- the flows of findings with the same flows and numbers

-- The flows of the parts of findings that satisfy a condition.
abbrev flows_of_parts : (Flow × List ℕ → Bool) → List (Flow × List ℕ) → List Flow
flows_of_parts wanted [] = []
flows_of_parts wanted (x ∷ xs) = if wanted x then x.0 ∷ flows_of_parts wanted xs else flows_of_parts wanted xs

flows_by_parts : (wanted : Finding → Bool) (judges : Flow × List ℕ → Bool) → ((x : Finding) → wanted x ≡ judges (finding_parts x)) → (xs : List Finding)
    → flows_where wanted xs ≡ flows_of_parts judges (map finding_parts xs)
flows_by_parts wanted judges alike [] = refl
flows_by_parts wanted judges alike (x ∷ xs) =
    ap₂ (λ (b : Bool) (both : List Flow × List Flow). if b then both.0 else both.1) (alike x)
    (ap (λ (fs : List Flow). (x.flow ∷ fs, fs)) (flows_by_parts wanted judges alike xs))

pub same_flows_where : (wanted : Finding → Bool) (judges : Flow × List ℕ → Bool) → ((x : Finding) → wanted x ≡ judges (finding_parts x)) → (xs ys : List Finding)
    → map finding_parts xs ≡ map finding_parts ys → flows_where wanted xs ≡ flows_where wanted ys
same_flows_where wanted judges alike xs ys same =
    flows_by_parts wanted judges alike xs ∙ ap (flows_of_parts judges) same ∙ sym (flows_by_parts wanted judges alike ys)

-- All denials of a network by one policy have the same flows and numbers.
pub denials_are_one : (d : Network) (policy : Policy) (xs ys : List Finding) → AreAllDenials d policy xs → AreAllDenials d policy ys
    → map finding_parts xs ≡ map finding_parts ys
denials_are_one d policy xs ys a b =
    let p : List Flow = policy.permitted.flows in
    findings_are_one (AreDenying holds_on d.invariants p) (λ f. failing_is_one (λ _. true) holds_on d.invariants (with_flow p f)) (every_flow (length d.hosts)) xs ys a b

pub one_denied : (d : Network) (policy : Policy) (xs ys : List Finding) → AreAllDenials d policy xs → AreAllDenials d policy ys
    → flows_where is_denied xs ≡ flows_where is_denied ys
one_denied d policy xs ys a b = same_flows_where is_denied (λ parts. not (is_nothing parts.1)) (λ x. refl) xs ys (denials_are_one d policy xs ys a b)

pub one_free : (d : Network) (policy : Policy) (xs ys : List Finding) → AreAllDenials d policy xs → AreAllDenials d policy ys
    → flows_where is_free xs ≡ flows_where is_free ys
one_free d policy xs ys a b = same_flows_where is_free (λ parts. is_nothing parts.1) (λ x. refl) xs ys (denials_are_one d policy xs ys a b)

-- ---- two lists of weaker flows

-- If one list of all weaker flows has none, so has every other.
none_too : (old : Site) (denied : List Flow) (new : Site) (free : List Flow) (vs ws : List Weaker) → AreWeaker old denied new free vs
    → AreWeaker old denied new free ws → IsTrue (is_nothing vs) → IsTrue (is_nothing ws)
none_too old denied new free vs [] a b none = refl
none_too old denied new free [] (w ∷ ws) a b none = absurd (contains_none w ((a.exact w).1 ((b.exact w).0 (contains_first w ws w refl))))
none_too old denied new free (v ∷ vs) (w ∷ ws) a b none = cc none

weaker_alike : (old : Site) (denied : List Flow) (new : Site) (free : List Flow) (vs ws : List Weaker) → AreWeaker old denied new free vs
    → AreWeaker old denied new free ws → is_nothing vs ≡ is_nothing ws
weaker_alike old denied new free vs ws a b =
    both_imply (is_nothing vs) (is_nothing ws) (none_too old denied new free vs ws a b) (none_too old denied new free ws vs b a)

-- A mapped list is empty if the list is.
nothing_mapped : {X Y : Type 0} (f : X → Y) (xs : List X) → is_nothing (map f xs) ≡ is_nothing xs
nothing_mapped f [] = refl
nothing_mapped f (x ∷ xs) = refl

-- Two weakenings by one change both have a weaker flow, or both have none.
pub weakens_once : (old : Network) (before : Policy) (new : Network) (after : Policy) (v w : Weakening) → IsWeakening old before new after v
    → IsWeakening old before new after w → is_nothing v.weaker.items ≡ is_nothing w.weaker.items
weakens_once old before new after v w a b =
    let denied : flows_where is_denied a.old_denials ≡ flows_where is_denied b.old_denials =
    one_denied old before a.old_denials b.old_denials a.are_old_denials b.are_old_denials in
    let free : flows_where is_free a.denials ≡ flows_where is_free b.denials = one_free new after a.denials b.denials a.are_denials b.are_denials in
    let fd : List Flow = flows_where is_denied b.old_denials in
    let left : List Weaker = map (λ x. x.flows) v.weaker.items in
    let right : List Weaker = map (λ x. x.flows) w.weaker.items in
    sym (nothing_mapped (λ x. x.flows) v.weaker.items)
    ∙ weaker_alike (site_of old) fd (site_of new) (flows_where is_free b.denials) left right
    (subst (λ (fs : List Flow). AreWeaker (site_of old) fd (site_of new) fs left) free
    (subst (λ (fs : List Flow). AreWeaker (site_of old) fs (site_of new) (flows_where is_free a.denials) left) denied a.weaker)) b.weaker
    ∙ nothing_mapped (λ x. x.flows) w.weaker.items
