-- The origin of an entry of a flow table: two hosts and a service, a host and the rest host, or the end of the table.
use Rattle.std.proofs.Common.{◌≡◌, inl, inr, ℕ, Bool, true, false, List, [], ◌∷◌, ◌++◌, Option, Some, None, slice_get, map, refl, sym, subst}
use Rattle.host_net.specs.declared.prefix.Prefix.{Prefix}
use Rattle.host_net.specs.declared.service.Service.{Service}
use Rattle.host_net.specs.Host.{Host, rest_of}
use Rattle.host_net.specs.Service.{service_matches}
use Rattle.host_net.specs.Services.{services_of}
use Rattle.host_net.specs.Site.{Site}
use Rattle.flow_set.specs.declared.flow.Flow.{Flow}
use Rattle.ofp_rules.specs.declared.entry.Entry.{Entry}
use Rattle.ofp_rules.proofs.HighestLaws.{one_of_front, one_of_back, one_of_parts}
use Rattle.ofp_rules.specs.Semantics.{IsOneOf}
use Rattle.emit_core.proofs.EachHostLaws.{flat_from, flat_in, map_from, map_in, each_from, each_in}
use Rattle.emit_core.specs.FlowTable.{service_entry, pair_entries, from_prefix, host_pair, from_host, between, to_rest_host, from_rest_host, to_rest, from_rest, with_rest, arp_entry, other_entry, flow_entries}
use Rattle.emit_core.specs.Directions.{permits}

module _ (site : Site) (p : List Flow) where
  pub record IsBetween (e : Entry) : Type 0 where
    pub i : ℕ
    pub j : ℕ
    pub g : Host
    pub h : Host
    pub q : Prefix
    pub t : Prefix
    pub at_i : slice_get site.hosts i ≡ Some g
    pub at_j : slice_get site.hosts j ≡ Some h
    pub from : IsOneOf q g.prefixes
    pub to : IsOneOf t h.prefixes
    pub listed : IsOneOf e (pair_entries (permits p i j) (services_of site.services i j) (rest_of site.hosts) q t)

  pub record IsToRest (e : Entry) : Type 0 where
    pub r : ℕ
    pub i : ℕ
    pub h : Host
    pub q : Prefix
    pub n : Option Service
    pub rest : rest_of site.hosts ≡ Some r
    pub there : slice_get site.hosts i ≡ Some h
    pub from : IsOneOf q h.prefixes
    pub permitted : permits p i r ≡ true
    pub one : IsOneOf n (service_matches (services_of site.services i r))
    pub is : e ≡ service_entry 30 (Some q) None n

  pub record IsFromRest (e : Entry) : Type 0 where
    pub r : ℕ
    pub i : ℕ
    pub h : Host
    pub q : Prefix
    pub n : Option Service
    pub rest : rest_of site.hosts ≡ Some r
    pub there : slice_get site.hosts i ≡ Some h
    pub to : IsOneOf q h.prefixes
    pub permitted : permits p r i ≡ true
    pub one : IsOneOf n (service_matches (services_of site.services r i))
    pub is : e ≡ service_entry 30 None (Some q) n

  pub data Origin (e : Entry) : Type 0 where
    of_pair : IsBetween e → Origin e
    of_to_rest : IsToRest e → Origin e
    of_from_rest : IsFromRest e → Origin e
    of_arp : e ≡ arp_entry → Origin e
    of_other : e ≡ other_entry → Origin e

  between_origin : (e : Entry) → IsOneOf e (between site p (rest_of site.hosts)) → IsBetween e
  between_origin e listed =
      let a = each_from (from_host site p (rest_of site.hosts)) site.hosts e listed in
      let b = each_from (λ j ts. host_pair (permits p a.place j) (services_of site.services a.place j) (rest_of site.hosts) a.host.prefixes ts) site.hosts e a.listed in
      let permitted = permits p a.place b.place in
      let ss = services_of site.services a.place b.place in
      let c = flat_from (from_prefix permitted ss (rest_of site.hosts) b.host.prefixes) a.host.prefixes e b.listed in
      let d = flat_from (pair_entries permitted ss (rest_of site.hosts) c.from) b.host.prefixes e c.written in
      record {
        i = a.place;
        j = b.place;
        g = a.host;
        h = b.host;
        q = c.from;
        t = d.from;
        at_i = a.there;
        at_j = b.there;
        from = c.listed;
        to = d.listed;
        listed = d.written;
      }

  to_rest_by : (r i : ℕ) (h : Host) (e : Entry) (b : Bool) → rest_of site.hosts ≡ Some r → slice_get site.hosts i ≡ Some h → permits p i r ≡ b
      → IsOneOf e (to_rest_host b (services_of site.services i r) h.prefixes) → IsToRest e
  to_rest_by r i h e false rest there is listed = absurd listed
  to_rest_by r i h e true rest there is listed =
      let a = flat_from (λ q. map (service_entry 30 (Some q) None) (service_matches (services_of site.services i r))) h.prefixes e listed in
      let made = map_from (service_entry 30 (Some a.from) None) (service_matches (services_of site.services i r)) e a.written in
      record { r = r; i = i; h = h; q = a.from; n = made.from; rest = rest; there = there; from = a.listed; permitted = is; one = made.listed; is = made.is }

  from_rest_by : (r i : ℕ) (h : Host) (e : Entry) (b : Bool) → rest_of site.hosts ≡ Some r → slice_get site.hosts i ≡ Some h → permits p r i ≡ b
      → IsOneOf e (from_rest_host b (services_of site.services r i) h.prefixes) → IsFromRest e
  from_rest_by r i h e false rest there is listed = absurd listed
  from_rest_by r i h e true rest there is listed =
      let a = flat_from (λ q. map (service_entry 30 None (Some q)) (service_matches (services_of site.services r i))) h.prefixes e listed in
      let made = map_from (service_entry 30 None (Some a.from)) (service_matches (services_of site.services r i)) e a.written in
      record { r = r; i = i; h = h; q = a.from; n = made.from; rest = rest; there = there; to = a.listed; permitted = is; one = made.listed; is = made.is }

  rest_origin : (e : Entry) (rest : Option ℕ) → rest_of site.hosts ≡ rest → IsOneOf e (with_rest site p rest) → Origin e
  rest_origin e None is listed = absurd listed
  rest_origin e (Some r) is listed = elim (one_of_parts e (to_rest site p r) (from_rest site p r) listed) [
    | inl front ↦
        let a = each_from (λ i qs. to_rest_host (permits p i r) (services_of site.services i r) qs) site.hosts e front in
        of_to_rest (to_rest_by r a.place a.host e (permits p a.place r) is a.there refl a.listed)
    | inr back ↦
        let a = each_from (λ i qs. from_rest_host (permits p r i) (services_of site.services r i) qs) site.hosts e back in
        of_from_rest (from_rest_by r a.place a.host e (permits p r a.place) is a.there refl a.listed)
  ]

  last_origin : (e : Entry) → IsOneOf e (arp_entry ∷ other_entry ∷ []) → Origin e
  last_origin e (inl is) = of_arp is
  last_origin e (inr (inl is)) = of_other is
  last_origin e (inr (inr none)) = absurd none

  pub origin : (e : Entry) → IsOneOf e (flow_entries site p) → Origin e
  unfolding flow_entries
  origin e listed = elim (one_of_parts e (between site p (rest_of site.hosts)) (with_rest site p (rest_of site.hosts) ++ arp_entry ∷ other_entry ∷ []) listed) [
    | inl front ↦ of_pair (between_origin e front)
    | inr back ↦ elim (one_of_parts e (with_rest site p (rest_of site.hosts)) (arp_entry ∷ other_entry ∷ []) back) [
      | inl rest ↦ rest_origin e (rest_of site.hosts) refl rest
      | inr last ↦ last_origin e last
    ]
  ]

  -- The converse: the entries of these origins are in the table.
  pub pair_in : (i j : ℕ) (g h : Host) (q t : Prefix) (e : Entry) → slice_get site.hosts i ≡ Some g → slice_get site.hosts j ≡ Some h
      → IsOneOf q g.prefixes → IsOneOf t h.prefixes → IsOneOf e (pair_entries (permits p i j) (services_of site.services i j) (rest_of site.hosts) q t)
      → IsOneOf e (flow_entries site p)
  unfolding flow_entries
  pair_in i j g h q t e at_i at_j from to listed =
      let permitted = permits p i j in
      let ss = services_of site.services i j in
      one_of_front e (between site p (rest_of site.hosts)) (with_rest site p (rest_of site.hosts) ++ arp_entry ∷ other_entry ∷ [])
      (each_in (from_host site p (rest_of site.hosts)) site.hosts e i g at_i
      (each_in (λ k ts. host_pair (permits p i k) (services_of site.services i k) (rest_of site.hosts) g.prefixes ts) site.hosts e j h at_j
      (flat_in (from_prefix permitted ss (rest_of site.hosts) h.prefixes) g.prefixes q e from
      (flat_in (pair_entries permitted ss (rest_of site.hosts) q) h.prefixes t e to listed))))

  rest_in : (r : ℕ) (e : Entry) → rest_of site.hosts ≡ Some r → IsOneOf e (to_rest site p r ++ from_rest site p r) → IsOneOf e (flow_entries site p)
  unfolding flow_entries
  rest_in r e rest listed =
      one_of_back e (between site p (rest_of site.hosts)) (with_rest site p (rest_of site.hosts) ++ arp_entry ∷ other_entry ∷ [])
      (one_of_front e (with_rest site p (rest_of site.hosts)) (arp_entry ∷ other_entry ∷ [])
      (subst (λ (o : Option ℕ). IsOneOf e (with_rest site p o)) (sym rest) listed))

  pub to_rest_in : (r i : ℕ) (h : Host) (q : Prefix) (n : Option Service) → rest_of site.hosts ≡ Some r → slice_get site.hosts i ≡ Some h
      → IsOneOf q h.prefixes → permits p i r ≡ true → IsOneOf n (service_matches (services_of site.services i r))
      → IsOneOf (service_entry 30 (Some q) None n) (flow_entries site p)
  to_rest_in r i h q n rest there from permitted one =
      let e : Entry = service_entry 30 (Some q) None n in
      rest_in r e rest
      (one_of_front e (to_rest site p r) (from_rest site p r)
      (each_in (λ k qs. to_rest_host (permits p k r) (services_of site.services k r) qs) site.hosts e i h there
      (subst (λ (b : Bool). IsOneOf e (to_rest_host b (services_of site.services i r) h.prefixes)) (sym permitted)
      (flat_in (λ x. map (service_entry 30 (Some x) None) (service_matches (services_of site.services i r))) h.prefixes q e from
      (map_in (service_entry 30 (Some q) None) (service_matches (services_of site.services i r)) n one)))))

  pub from_rest_in : (r i : ℕ) (h : Host) (q : Prefix) (n : Option Service) → rest_of site.hosts ≡ Some r → slice_get site.hosts i ≡ Some h
      → IsOneOf q h.prefixes → permits p r i ≡ true → IsOneOf n (service_matches (services_of site.services r i))
      → IsOneOf (service_entry 30 None (Some q) n) (flow_entries site p)
  from_rest_in r i h q n rest there to permitted one =
      let e : Entry = service_entry 30 None (Some q) n in
      rest_in r e rest
      (one_of_back e (to_rest site p r) (from_rest site p r)
      (each_in (λ k qs. from_rest_host (permits p r k) (services_of site.services r k) qs) site.hosts e i h there
      (subst (λ (b : Bool). IsOneOf e (from_rest_host b (services_of site.services r i) h.prefixes)) (sym permitted)
      (flat_in (λ x. map (service_entry 30 None (Some x)) (service_matches (services_of site.services r i))) h.prefixes q e to
      (map_in (service_entry 30 None (Some q)) (service_matches (services_of site.services r i)) n one)))))

  pub last_in : (e : Entry) → IsOneOf e (arp_entry ∷ other_entry ∷ []) → IsOneOf e (flow_entries site p)
  unfolding flow_entries
  last_in e listed =
      one_of_back e (between site p (rest_of site.hosts)) (with_rest site p (rest_of site.hosts) ++ arp_entry ∷ other_entry ∷ [])
      (one_of_back e (with_rest site p (rest_of site.hosts)) (arp_entry ∷ other_entry ∷ []) listed)
