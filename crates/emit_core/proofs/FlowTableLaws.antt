-- The expected verdict on a frame: an entry that matches the frame has the verdict of its priority, so no two entries contradict each
-- other.
use Rattle.std.proofs.Common.{◌≡◌, ℕ, ◌==◌, Bool, true, false, not, ◌&&◌, List, Option, Some, None, refl, sym, ap, ◌∙◌, subst, arith}
use Rattle.std.specs.Prelude.{if◌then◌else◌}
use Rattle.std.specs.Option.{option_map_or}
use Rattle.std.proofs.lemmas.Bool.{and_parts, and_from}
use Rattle.std.proofs.lemmas.Bool.Decides.{nat_tests}
use Rattle.host_net.specs.declared.packet.Packet.{Packet}
use Rattle.host_net.specs.declared.packet.Verdict.{Verdict}
use Rattle.host_net.specs.declared.service.Service.{Service}
use Rattle.host_net.specs.Prefix.{covers}
use Rattle.host_net.specs.Host.{owner_of, rest_of}
use Rattle.host_net.specs.Service.{is_served, service_matches}
use Rattle.host_net.specs.Services.{RestrictedFlow, services_of}
use Rattle.host_net.specs.Site.{Site}
use Rattle.host_net.specs.inner.Site.{IsSite}
use Rattle.host_net.specs.Verdict.{verdict_if}
use Rattle.flow_set.specs.declared.flow.Flow.{Flow}
use Rattle.flow_set.specs.FlowSet.{has}
use Rattle.pkt_core.specs.FlowPolicy.{flow_of_owners, is_of}
use Rattle.ofp_rules.specs.declared.entry.Action.{Action}
use Rattle.ofp_rules.specs.declared.entry.Action.TheVariants.{Normal, Drop}
use Rattle.ofp_rules.specs.declared.entry.Entry.{Entry}
use Rattle.ofp_rules.specs.declared.entry.Frame.{Frame}
use Rattle.ofp_rules.specs.declared.entry.Frame.TheVariants.{Arp, Ipv4, Other}
use Rattle.ofp_rules.specs.Ambiguity.{IsFrame}
use Rattle.ofp_rules.specs.inner.Build.{AreAmbiguous}
use Rattle.ofp_rules.proofs.HighestLaws.{one_of_at}
use Rattle.ofp_rules.specs.Matching.{matches}
use Rattle.ofp_rules.specs.Semantics.{IsOneOf, HasVerdict}
use Rattle.emit_core.specs.FlowTable.{ip_entry, service_entry, flow_entries}
use Rattle.emit_core.proofs.FlowTableOriginLaws.{IsBetween, Origin, of_pair, of_to_rest, of_from_rest, of_arp, of_other, origin}
use Rattle.emit_core.proofs.FlowTablePairLaws.{PairKind, of_service, of_low, of_drop, pair_kind}
use Rattle.emit_core.proofs.FlowTableServiceLaws.{IsAskable, askable, entry_matches, served_by}
use Rattle.emit_core.proofs.HeldLaws.{owner_is}
use Rattle.emit_core.proofs.NarrowingLaws.{lets}
use Rattle.emit_core.specs.PortRanges.{HasNoRange}
use Rattle.emit_core.specs.Directions.{permits}

-- The frame is to be forwarded: an IPv4 frame if its packet belongs to a permitted flow, an ARP frame always, any other
-- frame never.
abbrev pub passes : Site → List Flow → Frame → Bool
passes site p Arp = true
passes site p (Ipv4 packet) = is_of site p packet
passes site p Other = false

-- The table forwards the frames that are to be forwarded and drops all others: each frame has this verdict and no
-- other.
pub record ForwardsFlows (entries : List Entry) (site : Site) (p : List Flow) : Type 0 where
  pub given : (frame : Frame) → IsFrame frame → HasVerdict entries frame (verdict_if (passes site p frame))
  pub only : (frame : Frame) (v : Verdict) → IsFrame frame → HasVerdict entries frame v → v ≡ verdict_if (passes site p frame)

-- The packet belongs to the flow: the flow is in the set, and its services match the packet.
abbrev pub belongs : List RestrictedFlow → List Flow → Packet → Option Flow → Bool
belongs services flows packet flow = option_map_or (λ f. has flows f && is_served (services_of services f.from f.to) packet) flow false

belongs_by : (same : Bool) (services : List RestrictedFlow) (p : List Flow) (f : Flow) (packet : Packet)
    → belongs services p packet (if same then None else Some f) ≡ ((not same && has p f) && is_served (services_of services f.from f.to) packet)
belongs_by true services p f packet = refl
belongs_by false services p f packet = refl

-- The action at a priority for a frame that is to be forwarded, or is not.
abbrev action_at : Bool → ℕ → Action
action_at goes n = if n == 40 then (if goes then Normal else Drop) else (if n == 35 then Drop else (if n == 0 then Drop else Normal))

pub never_within : (p : List Flow) (r : ℕ) → permits p r r ≡ false
never_within p r = let same : (r == r) ≡ true = grind (arith, nat_tests) in by (r == r) (has p (record { from = r; to = r })) same
  where
    by : (b c : Bool) → b ≡ true → (not b && c) ≡ false
    by true c h = refl
    by false c h = cc

module _ (site : Site) (p : List Flow) where
  -- Whether a packet belongs to a permitted flow, in terms of the owners of its addresses.
  pub of_owners : (packet : Packet) (i j : ℕ) → owner_of site.hosts packet.src ≡ Some i → owner_of site.hosts packet.dst ≡ Some j
      → is_of site p packet ≡ (permits p i j && is_served (services_of site.services i j) packet)
  of_owners packet i j from to =
      ap (λ (o : Option ℕ). belongs site.services p packet (flow_of_owners o (owner_of site.hosts packet.dst))) from
      ∙ ap (λ (o : Option ℕ). belongs site.services p packet (flow_of_owners (Some i) o)) to
      ∙ belongs_by (i == j) site.services p (record { from = i; to = j }) packet

  no_owner_to : (o : Option ℕ) (packet : Packet) → belongs site.services p packet (flow_of_owners o None) ≡ false
  no_owner_to None packet = refl
  no_owner_to (Some i) packet = refl

  pub of_nobody_from : (packet : Packet) → owner_of site.hosts packet.src ≡ None → is_of site p packet ≡ false
  of_nobody_from packet none = ap (λ (o : Option ℕ). belongs site.services p packet (flow_of_owners o (owner_of site.hosts packet.dst))) none

  pub of_nobody_to : (packet : Packet) → owner_of site.hosts packet.dst ≡ None → is_of site p packet ≡ false
  of_nobody_to packet none =
      ap (λ (o : Option ℕ). belongs site.services p packet (flow_of_owners (owner_of site.hosts packet.src) o)) none
      ∙ no_owner_to (owner_of site.hosts packet.src) packet

  -- A permitted flow with a service that an entry matches.
  pub passes_by : (packet : Packet) (i j : ℕ) (n : Option Service) → owner_of site.hosts packet.src ≡ Some i → owner_of site.hosts packet.dst ≡ Some j
      → permits p i j ≡ true → IsOneOf n (service_matches (services_of site.services i j)) → lets packet n ≡ true → is_of site p packet ≡ true
  passes_by packet i j n from to permitted one on =
      of_owners packet i j from to ∙ and_from _ _ permitted (served_by (services_of site.services i j) packet n one on)

  pub kind_of_pair : (e : Entry) (o : IsBetween site p e) → PairKind (permits p o.i o.j) (services_of site.services o.i o.j) o.q o.t e
  kind_of_pair e o = pair_kind (permits p o.i o.j) (services_of site.services o.i o.j) (rest_of site.hosts) o.q o.t e o.listed

module _ (site : Site) (p : List Flow) (known : IsSite site) where
  -- An entry between two prefixes matches packets between their hosts.
  between_owners : (packet : Packet) (e : Entry) (o : IsBetween site p e) → (covers o.q packet.src && covers o.t packet.dst) ≡ true
      → (owner_of site.hosts packet.src ≡ Some o.i) × (owner_of site.hosts packet.dst ≡ Some o.j)
  between_owners packet e o on =
      let both = and_parts (covers o.q packet.src) (covers o.t packet.dst) on in
      (owner_is site.hosts known.hosts o.i o.g o.q packet.src o.at_i o.from both.0, owner_is site.hosts known.hosts o.j o.h o.t packet.dst o.at_j o.to both.1)

  -- If an entry drops packets of a flow that is not permitted, they are not to be forwarded.
  pub drop_stays : (frame : Frame) (e : Entry) (o : IsBetween site p e) → permits p o.i o.j ≡ false
      → matches frame (ip_entry 40 (Some o.q) (Some o.t) Drop) ≡ true → passes site p frame ≡ false
  drop_stays Arp e o denied on = cc
  drop_stays Other e o denied on = cc
  drop_stays (Ipv4 packet) e o denied on =
      let owners = between_owners packet e o on in
      of_owners site p packet o.i o.j owners.0 owners.1 ∙ ap (λ b. b && is_served (services_of site.services o.i o.j) packet) denied

module _ (site : Site) (p : List Flow) (known : IsSite site) (plain : HasNoRange site.services p) where
  pub askable_by : (i j : ℕ) (n : Option Service) → permits p i j ≡ true → IsOneOf n (service_matches (services_of site.services i j)) → IsAskable n
  askable_by i j n permitted one =
      askable (services_of site.services i j) n (known.services.valid i j)
      (plain (record { from = i; to = j }) (and_parts (not (i == j)) (has p (record { from = i; to = j })) permitted).1) one

  -- A frame that an entry for a service forwards is to be forwarded.
  pub service_goes : (frame : Frame) (e : Entry) (o : IsBetween site p e) (n : Option Service) → IsFrame frame → permits p o.i o.j ≡ true
      → IsOneOf n (service_matches (services_of site.services o.i o.j)) → matches frame (service_entry 40 (Some o.q) (Some o.t) n) ≡ true
      → passes site p frame ≡ true
  service_goes Arp e o n is permitted one on = cc
  service_goes Other e o n is permitted one on = cc
  service_goes (Ipv4 packet) e o n is permitted one on =
      let matched = sym (entry_matches 40 (Some o.q) (Some o.t) n packet is (askable_by o.i o.j n permitted one)) ∙ on in
      let parts = and_parts (lets packet n) (covers o.q packet.src && covers o.t packet.dst) matched in
      let owners = between_owners site p known packet e o parts.1 in
      passes_by site p packet o.i o.j n owners.0 owners.1 permitted one parts.0

  -- Every entry that matches a frame has the verdict of its priority.
  pair_does : (frame : Frame) (e : Entry) (o : IsBetween site p e) → IsFrame frame → matches frame e ≡ true
      → PairKind (permits p o.i o.j) (services_of site.services o.i o.j) o.q o.t e → e.action ≡ action_at (passes site p frame) e.priority
  pair_does frame e o is on (of_service n permitted one e_is) =
      subst (λ (x : Entry). x.action ≡ action_at (passes site p frame) x.priority) (sym e_is)
      (ap (λ (b : Bool). if b then Normal else Drop) (sym (service_goes frame e o n is permitted one (ap (matches frame) (sym e_is) ∙ on))))
  pair_does frame e o is on (of_low permitted narrowed e_is) =
      subst (λ (x : Entry). x.action ≡ action_at (passes site p frame) x.priority) (sym e_is) refl
  pair_does frame e o is on (of_drop denied e_is) =
      subst (λ (x : Entry). x.action ≡ action_at (passes site p frame) x.priority) (sym e_is)
      (ap (λ (b : Bool). if b then Normal else Drop) (sym (drop_stays site p known frame e o denied (ap (matches frame) (sym e_is) ∙ on))))

  does : (frame : Frame) (e : Entry) → IsFrame frame → Origin site p e → matches frame e ≡ true → e.action ≡ action_at (passes site p frame) e.priority
  does frame e is (of_pair o) on = pair_does frame e o is on (kind_of_pair site p e o)
  does frame e is (of_to_rest o) on = subst (λ (x : Entry). x.action ≡ action_at (passes site p frame) x.priority) (sym o.is) refl
  does frame e is (of_from_rest o) on = subst (λ (x : Entry). x.action ≡ action_at (passes site p frame) x.priority) (sym o.is) refl
  does frame e is (of_arp e_is) on = subst (λ (x : Entry). x.action ≡ action_at (passes site p frame) x.priority) (sym e_is) refl
  does frame e is (of_other e_is) on = subst (λ (x : Entry). x.action ≡ action_at (passes site p frame) x.priority) (sym e_is) refl

  pub unambiguous : (i j : ℕ) → AreAmbiguous (flow_entries site p) i j → ⊥
  unambiguous i j pair =
      let meet = pair.contradict.meet in
      let first = does meet.frame pair.first meet.is (origin site p pair.first (one_of_at _ i pair.first pair.at_first)) meet.by_first in
      let second = does meet.frame pair.second meet.is (origin site p pair.second (one_of_at _ j pair.second pair.at_second)) meet.by_second in
      pair.contradict.different (first ∙ ap (action_at (passes site p meet.frame)) pair.contradict.equal ∙ sym second)
