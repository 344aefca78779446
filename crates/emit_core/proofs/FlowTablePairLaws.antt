-- The entries between two prefixes.
use Rattle.std.proofs.Common.{◌≡◌, inl, inr, ℕ, ◌<◌, Bool, true, false, List, [], ◌∷◌, Option, Some, None, map, refl, arith}
use Rattle.std.specs.Prelude.{if◌then◌else◌}
use Rattle.std.proofs.lemmas.Bool.{and_from}
use Rattle.host_net.specs.declared.packet.Packet.{Packet}
use Rattle.host_net.specs.declared.prefix.Prefix.{Prefix}
use Rattle.host_net.specs.declared.service.Service.{Service}
use Rattle.host_net.specs.Prefix.{covers}
use Rattle.host_net.specs.Service.{is_whole, service_matches}
use Rattle.ofp_rules.specs.declared.entry.Action.TheVariants.{Drop}
use Rattle.ofp_rules.specs.declared.entry.Entry.{Entry}
use Rattle.ofp_rules.specs.declared.entry.Frame.TheVariants.{Ipv4}
use Rattle.ofp_rules.proofs.HighestLaws.{one_of_front, one_of_back, one_of_parts}
use Rattle.ofp_rules.specs.Matching.{matches}
use Rattle.ofp_rules.specs.Semantics.{IsOneOf}
use Rattle.emit_core.proofs.EachHostLaws.{map_from, map_in}
use Rattle.emit_core.specs.FlowTable.{ip_entry, service_entry, rest_drop, pair_entries}

drop_listed : (rest : Option ℕ) (k : ℕ) (q t : Prefix) (e : Entry) → IsOneOf e (rest_drop rest k q t) → e ≡ ip_entry k (Some q) (Some t) Drop
drop_listed None k q t e listed = absurd listed
drop_listed (Some r) k q t e (inl is) = is
drop_listed (Some r) k q t e (inr none) = absurd none

-- Such an entry is for a service of a permitted flow, or drops the packets that its services do not match, or drops all packets of another
-- flow.
pub data PairKind (permitted : Bool) (ss : List Service) (q t : Prefix) (e : Entry) : Type 0 where
  of_service : (n : Option Service) → permitted ≡ true → IsOneOf n (service_matches ss) → e ≡ service_entry 40 (Some q) (Some t) n → PairKind permitted ss q t e
  of_low : permitted ≡ true → is_whole ss ≡ false → e ≡ ip_entry 35 (Some q) (Some t) Drop → PairKind permitted ss q t e
  of_drop : permitted ≡ false → e ≡ ip_entry 40 (Some q) (Some t) Drop → PairKind permitted ss q t e

low_kind : (whole : Bool) (ss : List Service) (rest : Option ℕ) (q t : Prefix) (e : Entry) → is_whole ss ≡ whole
    → IsOneOf e (if whole then [] else rest_drop rest 35 q t) → PairKind true ss q t e
low_kind true ss rest q t e is listed = absurd listed
low_kind false ss rest q t e is listed = of_low refl is (drop_listed rest 35 q t e listed)

pub pair_kind : (permitted : Bool) (ss : List Service) (rest : Option ℕ) (q t : Prefix) (e : Entry) → IsOneOf e (pair_entries permitted ss rest q t)
    → PairKind permitted ss q t e
pair_kind true ss rest q t e listed =
    elim (one_of_parts e (map (service_entry 40 (Some q) (Some t)) (service_matches ss)) (if is_whole ss then [] else rest_drop rest 35 q t) listed) [
      | inl front ↦
          let made = map_from (service_entry 40 (Some q) (Some t)) (service_matches ss) e front in
          of_service made.from refl made.listed made.is
      | inr back ↦ low_kind (is_whole ss) ss rest q t e refl back
    ]
pair_kind false ss rest q t e listed = of_drop refl (drop_listed rest 40 q t e listed)

-- Each service of a permitted flow has an entry.
pub pair_service : (ss : List Service) (rest : Option ℕ) (q t : Prefix) (n : Option Service) → IsOneOf n (service_matches ss)
    → IsOneOf (service_entry 40 (Some q) (Some t) n) (pair_entries true ss rest q t)
pair_service ss rest q t n one =
    one_of_front (service_entry 40 (Some q) (Some t) n) (map (service_entry 40 (Some q) (Some t)) (service_matches ss)) (if is_whole ss then [] else rest_drop rest 35 q t)
    (map_in (service_entry 40 (Some q) (Some t)) (service_matches ss) n one)

-- If there is a rest host, one of the entries matches every packet between the two prefixes.
pub record MatchesAll (es : List Entry) (q t : Prefix) : Type 0 where
  pub entry : Entry
  pub listed : IsOneOf entry es
  pub above : 30 < entry.priority
  pub matched : (packet : Packet) → covers q packet.src ≡ true → covers t packet.dst ≡ true → matches (Ipv4 packet) entry ≡ true

pub pair_all : (permitted : Bool) (ss : List Service) (r : ℕ) (q t : Prefix) → MatchesAll (pair_entries permitted ss (Some r) q t) q t
pair_all false ss r q t = record { entry = ip_entry 40 (Some q) (Some t) Drop; listed = inl refl; above = omega arith; matched = λ packet from to. and_from _ _ from to }
pair_all true [] r q t =
    record { entry = service_entry 40 (Some q) (Some t) None; listed = inl refl; above = omega arith; matched = λ packet from to. and_from _ _ from to }
pair_all true (s ∷ ss) r q t = record {
  entry = ip_entry 35 (Some q) (Some t) Drop;
  listed = one_of_back (ip_entry 35 (Some q) (Some t) Drop) (map (service_entry 40 (Some q) (Some t)) (service_matches (s ∷ ss))) (ip_entry 35 (Some q) (Some t) Drop ∷ []) (inl refl);
  above = omega arith;
  matched = λ packet from to. and_from _ _ from to;
}
