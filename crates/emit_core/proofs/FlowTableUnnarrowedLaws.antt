-- If all flows are unrestricted, services change nothing: there is at most one entry between two prefixes, and answers are covered if they
-- are permitted.
use Rattle.std.proofs.Common.{◌≡◌, ◌↔◌, ℕ, Bool, true, false, List, [], ◌∷◌, ◌++◌, Option, Some, None, map, refl, sym, ap, ◌∙◌}
use Rattle.std.specs.Prelude.{IsTrue}
use Rattle.std.specs.List.{flat_map}
use Rattle.std.proofs.Math.Bool.{and-true}
use Rattle.host_net.specs.declared.prefix.Prefix.{Prefix}
use Rattle.host_net.specs.Host.{Host, rest_of}
use Rattle.host_net.specs.inner.Site.{unnarrowed}
use Rattle.flow_set.specs.declared.flow.Flow.{Flow}
use Rattle.flow_set.specs.Flow.{reverse_of}
use Rattle.flow_set.specs.FlowSet.{has}
use Rattle.pkt_core.specs.FlowPolicy.{FlowPolicy}
use Rattle.ofp_rules.specs.declared.entry.Action.TheVariants.{Normal}
use Rattle.ofp_rules.specs.declared.entry.Entry.{Entry}
use Rattle.emit_core.specs.FlowTable.{ip_entry, for_each_host, pair_entries, between, to_rest_host, from_rest_host, with_rest, arp_entry, other_entry, flow_entries}
use Rattle.emit_core.specs.FlowTableEvents.{is_covered, AnswersAreCovered}
use Rattle.emit_core.specs.Directions.{permits}
use Rattle.emit_core.specs.inner.UnnarrowedFlowTable.{whole_pair, whole_between, whole_to_rest, whole_from_rest, whole_with_rest, whole_entries}
use Rattle.emit_core.specs.inner.UnnarrowedLayout.{without_services}

pair_same : (permitted : Bool) (rest : Option ℕ) (q t : Prefix) → pair_entries permitted [] rest q t ≡ whole_pair permitted rest q t
pair_same true rest q t = refl
pair_same false rest q t = refl

between_same : (hosts : List Host) (p : List Flow) (rest : Option ℕ) → between (unnarrowed hosts) p rest ≡ whole_between hosts p rest
between_same hosts p rest =
    λ k. for_each_host (λ i qs. for_each_host (λ j ts. flat_map (λ q. flat_map (λ t. pair_same (permits p i j) rest q t k) ts) qs) 0 hosts) 0 hosts

each_one : (f : Prefix → Entry) (qs : List Prefix) → flat_map (λ q. f q ∷ []) qs ≡ map f qs
each_one f [] = refl
each_one f (q ∷ qs) = ap (λ es. f q ∷ es) (each_one f qs)

to_rest_same : (permitted : Bool) (qs : List Prefix) → to_rest_host permitted [] qs ≡ whole_to_rest permitted qs
to_rest_same true qs = each_one (λ q. ip_entry 30 (Some q) None Normal) qs
to_rest_same false qs = refl

from_rest_same : (permitted : Bool) (qs : List Prefix) → from_rest_host permitted [] qs ≡ whole_from_rest permitted qs
from_rest_same true qs = each_one (λ q. ip_entry 30 None (Some q) Normal) qs
from_rest_same false qs = refl

with_rest_same : (hosts : List Host) (p : List Flow) (rest : Option ℕ) → with_rest (unnarrowed hosts) p rest ≡ whole_with_rest hosts p rest
with_rest_same hosts p None = refl
with_rest_same hosts p (Some r) =
    λ k. for_each_host (λ i qs. to_rest_same (permits p i r) qs k) 0 hosts ++ for_each_host (λ i qs. from_rest_same (permits p r i) qs k) 0 hosts

-- The entire table.
pub flow_entries-unnarrowed : (hosts : List Host) (p : List Flow)
    → flow_entries (unnarrowed hosts) p ≡ whole_entries hosts p
unfolding flow_entries
flow_entries-unnarrowed hosts p = λ k. between_same hosts p (rest_of hosts) k ++ (with_rest_same hosts p (rest_of hosts) k ++ arp_entry ∷ other_entry ∷ [])

covered_same : (p : List Flow) (f : Flow) → is_covered [] p f ≡ has p (reverse_of f)
covered_same p f = and-true (has p (reverse_of f))

-- The reverse of each stateful flow is permitted itself.
pub AnswersAreCovered-unnarrowed : (policy : FlowPolicy)
    → AnswersAreCovered (without_services policy) ↔ ((f : Flow) → IsTrue (has policy.stateful f) → IsTrue (has policy.permitted (reverse_of f)))
AnswersAreCovered-unnarrowed policy = (
  λ covered f stateful. sym (covered_same policy.permitted f) ∙ covered f stateful,
  λ permitted f stateful. covered_same policy.permitted f ∙ permitted f stateful,
)
