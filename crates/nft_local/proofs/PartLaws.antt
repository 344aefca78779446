-- The part of a policy that concerns one host has the verdict of the policy on the packets of the host.
use Rattle.std.proofs.Common.{◌≡◌, ◌⊎◌, inl, inr, ℕ, Bool, true, false, ◌&&◌, ◌||◌, ◌==◌, List, [], ◌∷◌, ◌++◌, Option, Some, None, refl, sym, ap, ◌∙◌, append-nil, eq-eqb}
use Rattle.std.specs.Prelude.{if◌then◌else◌}
use Rattle.std.specs.Option.{option_map_or}
use Rattle.std.proofs.Math.Bool.{and-true}
use Rattle.std.proofs.lemmas.Bool.{and_from, and_parts, or_left, or_right}
use Rattle.std.proofs.lemmas.List.Elements.{filter-append}
use Rattle.std.proofs.lemmas.Option.{same_Some}
use Rattle.host_net.specs.declared.packet.Packet.{Packet}
use Rattle.host_net.specs.declared.packet.CtState.{CtState}
use Rattle.host_net.specs.Host.{Host, owner_of}
use Rattle.host_net.specs.Packet.{swap_of}
use Rattle.host_net.specs.Service.{is_served}
use Rattle.host_net.specs.Services.{RestrictedFlow, services_of}
use Rattle.host_net.specs.Site.{Site, site_with}
use Rattle.flow_set.specs.declared.flow.Flow.{Flow}
use Rattle.flow_set.specs.FlowSet.{IsOrdered, IsSubset, SetOfFlows, has, with_flow}
use Rattle.flow_set.specs.laws.FlowLaws.{IsOrdered-filter, front_before, has-filter, has_first, with_flow-last}
use Rattle.pkt_core.specs.Firewall.{is_established}
use Rattle.pkt_core.specs.FlowPolicy.{FlowPolicy, flow_of_owners, lets_pass, permits, permits_reply_to, policy_with}
use Rattle.host_emit.specs.Delivery.{is_end}
use Rattle.nft_local.specs.inner.Part.{flows_at, part_at}

-- 1. The flows of a host, one after the other.

flow_kept : (h : ℕ) (xs rest : List Flow) (f : Flow) → IsOrdered (xs ++ f ∷ rest) → is_end (Some f) h ≡ true
    → with_flow (flows_at h xs) f ≡ flows_at h (xs ++ f ∷ [])
flow_kept h xs rest f ordered there =
    with_flow-last (flows_at h xs) f
    (λ g kept. front_before xs (f ∷ rest) g f ordered (and_parts (has xs g) (is_end (Some g) h) (sym (has-filter (λ x. is_end (Some x) h) xs g) ∙ kept)).0 (has_first f rest))
    ∙ ap (λ fs. flows_at h xs ++ fs) (sym (last_kept (is_end (Some f) h) there)) ∙ sym (filter-append (λ x. is_end (Some x) h) xs (f ∷ []))
  where
    last_kept : (b : Bool) → b ≡ true → (if b then f ∷ [] else []) ≡ f ∷ []
    last_kept true is = refl
    last_kept false is = cc

flow_left : (h : ℕ) (xs : List Flow) (f : Flow) → is_end (Some f) h ≡ false → flows_at h xs ≡ flows_at h (xs ++ f ∷ [])
flow_left h xs f away =
    sym (append-nil (flows_at h xs)) ∙ ap (λ fs. flows_at h xs ++ fs) (sym (last_left (is_end (Some f) h) away))
    ∙ sym (filter-append (λ x. is_end (Some x) h) xs (f ∷ []))
  where
    last_left : (b : Bool) → b ≡ false → (if b then f ∷ [] else []) ≡ []
    last_left true is = cc
    last_left false is = refl

pub part_size : (old new : SetOfFlows) (f : Flow) (wanted : Bool) → new ≡ (if wanted then record { size = old.size; flows = with_flow old.flows f } else old)
    → new.size ≡ old.size
part_size old new f true is = ap (λ (s : SetOfFlows). s.size) is
part_size old new f false is = ap (λ (s : SetOfFlows). s.size) is

pub part_grows : (h : ℕ) (old new : SetOfFlows) (xs rest : List Flow) (f : Flow) (wanted : Bool) → IsOrdered (xs ++ f ∷ rest) → old.flows ≡ flows_at h xs
    → wanted ≡ is_end (Some f) h → new ≡ (if wanted then record { size = old.size; flows = with_flow old.flows f } else old)
    → new.flows ≡ flows_at h (xs ++ f ∷ [])
part_grows h old new xs rest f true ordered so_far there is =
    ap (λ (s : SetOfFlows). s.flows) is ∙ ap (λ fs. with_flow fs f) so_far ∙ flow_kept h xs rest f ordered (sym there)
part_grows h old new xs rest f false ordered so_far there is = ap (λ (s : SetOfFlows). s.flows) is ∙ so_far ∙ flow_left h xs f (sym there)

pub part_within : (h : ℕ) (stateful permitted : List Flow) → IsSubset stateful permitted → IsSubset (flows_at h stateful) (flows_at h permitted)
part_within h stateful permitted within = record {
  ordered = IsOrdered-filter (λ f. is_end (Some f) h) stateful within.ordered;
  within = λ f there.
      let parts = and_parts (has stateful f) (is_end (Some f) h) (sym (has-filter (λ x. is_end (Some x) h) stateful f) ∙ there) in
      has-filter (λ x. is_end (Some x) h) permitted f ∙ and_from (has permitted f) (is_end (Some f) h) (within.within f parts.0) parts.1;
}

-- 2. The verdict.

ends_of : (h i j : ℕ) → (Some i ≡ Some h) ⊎ (Some j ≡ Some h) → is_end (Some (record { from = i; to = j })) h ≡ true
ends_of h i j (inl from) = or_left (i == h) (j == h) (eq-eqb i h (same_Some i h from))
ends_of h i j (inr to) = or_right (i == h) (j == h) (eq-eqb j h (same_Some j h to))

has_at : (h : ℕ) (flows : List Flow) (f : Flow) → is_end (Some f) h ≡ true → has (flows_at h flows) f ≡ has flows f
has_at h flows f there = has-filter (λ x. is_end (Some x) h) flows f ∙ ap (λ b. has flows f && b) there ∙ and-true (has flows f)

of_owners : (site : Site) (h : ℕ) (flows : List Flow) (packet : Packet) (from to : Option ℕ) → (from ≡ Some h) ⊎ (to ≡ Some h)
    → option_map_or (λ f. has (flows_at h flows) f && is_served (services_of site.services f.from f.to) packet) (flow_of_owners from to) false
    ≡ option_map_or (λ f. has flows f && is_served (services_of site.services f.from f.to) packet) (flow_of_owners from to) false
of_owners site h flows packet None to ends = refl
of_owners site h flows packet (Some i) None ends = refl
of_owners site h flows packet (Some i) (Some j) ends = by_test (i == j)
  where
    by_test : (b : Bool)
        → option_map_or (λ f. has (flows_at h flows) f && is_served (services_of site.services f.from f.to) packet) (if b then None else Some (record { from = i; to = j })) false
        ≡ option_map_or (λ f. has flows f && is_served (services_of site.services f.from f.to) packet) (if b then None else Some (record { from = i; to = j })) false
    by_test true = refl
    by_test false = ap (λ b. b && is_served (services_of site.services i j) packet) (has_at h flows (record { from = i; to = j }) (ends_of h i j ends))

other_way : {A B : Type 0} → A ⊎ B → B ⊎ A
other_way (inl a) = inr a
other_way (inr b) = inl b

pub part_passes : (h : ℕ) (policy : FlowPolicy) (packet : Packet) (state : CtState)
    → (owner_of policy.site.hosts packet.src ≡ Some h) ⊎ (owner_of policy.site.hosts packet.dst ≡ Some h)
    → lets_pass (part_at h policy) packet state ≡ lets_pass policy packet state
part_passes h policy packet state ends =
    ap (λ b. b || (permits_reply_to (part_at h policy) (swap_of packet) && is_established state))
    (of_owners policy.site h policy.permitted packet (owner_of policy.site.hosts packet.src) (owner_of policy.site.hosts packet.dst) ends)
    ∙ ap (λ b. permits policy packet || (b && is_established state))
    (of_owners policy.site h policy.stateful (swap_of packet) (owner_of policy.site.hosts packet.dst) (owner_of policy.site.hosts packet.src) (other_way ends))

pub part_made : (h : ℕ) (policy part : FlowPolicy) (hosts : List Host) (services : List RestrictedFlow) (permitted stateful : List Flow) → hosts ≡ policy.site.hosts
    → services ≡ policy.site.services → permitted ≡ flows_at h policy.permitted → stateful ≡ flows_at h policy.stateful
    → part ≡ policy_with (site_with hosts services) permitted stateful → part ≡ part_at h policy
part_made h policy part hosts services permitted stateful same_hosts same_services same_permitted same_stateful is =
    is ∙ ap (λ hs. policy_with (site_with hs services) permitted stateful) same_hosts
    ∙ ap (λ ss. policy_with (site_with policy.site.hosts ss) permitted stateful) same_services
    ∙ ap (λ fs. policy_with policy.site fs stateful) same_permitted
    ∙ ap (λ fs. policy_with policy.site (flows_at h policy.permitted) fs) same_stateful
