-- The matching entry of highest priority has the verdict of the policy.
use Rattle.std.proofs.Common.{◌≡◌, ◌⊎◌, inl, inr, ℕ, ◌<◌, Bool, true, false, ◌&&◌, List, Option, Some, None, refl, sym, ap, ◌∙◌, subst, arith, true≢false}
use Rattle.std.proofs.lemmas.Bool.{and_parts, and_from, false_from_ne_true}
use Rattle.host_net.specs.declared.packet.Packet.{Packet}
use Rattle.host_net.specs.declared.packet.Verdict.{Verdict}
use Rattle.host_net.specs.Packet.{IsPacket}
use Rattle.host_net.specs.Prefix.{covers}
use Rattle.host_net.specs.Host.{owner_of, rest_of}
use Rattle.host_net.specs.Service.{is_served}
use Rattle.host_net.specs.Services.{services_of}
use Rattle.host_net.specs.Site.{Site}
use Rattle.host_net.specs.inner.Site.{IsSite}
use Rattle.host_net.specs.Verdict.{verdict_if}
use Rattle.flow_set.specs.declared.flow.Flow.{Flow}
use Rattle.pkt_core.specs.FlowPolicy.{is_of}
use Rattle.ofp_rules.specs.declared.entry.Action.TheVariants.{Drop}
use Rattle.ofp_rules.specs.declared.entry.Entry.{Entry}
use Rattle.ofp_rules.specs.declared.entry.Frame.{Frame}
use Rattle.ofp_rules.specs.declared.entry.Frame.TheVariants.{Arp, Ipv4, Other}
use Rattle.ofp_rules.specs.Ambiguity.{IsFrame}
use Rattle.ofp_rules.proofs.HighestLaws.{has_verdict}
use Rattle.ofp_rules.specs.Matching.{matches}
use Rattle.ofp_rules.specs.Semantics.{IsOneOf, IsHighest, HasVerdict, verdict_of as verdict_by_action}
use Rattle.emit_core.specs.FlowTable.{ip_entry, service_entry, pair_entries, arp_entry, other_entry, flow_entries}
use Rattle.emit_core.proofs.FlowTableLaws.{passes, ForwardsFlows, of_owners, of_nobody_from, of_nobody_to, never_within, askable_by, passes_by, service_goes, drop_stays, kind_of_pair}
use Rattle.emit_core.proofs.FlowTableOriginLaws.{IsBetween, IsToRest, IsFromRest, Origin, of_pair, of_to_rest, of_from_rest, of_arp, of_other, origin, pair_in, to_rest_in, from_rest_in, last_in}
use Rattle.emit_core.proofs.FlowTablePairLaws.{PairKind, of_service, of_low, of_drop, pair_service, pair_all}
use Rattle.emit_core.proofs.FlowTableServiceLaws.{entry_matches, server}
use Rattle.emit_core.proofs.HeldLaws.{IsHeld, ownership, owner_is}
use Rattle.emit_core.proofs.NarrowingLaws.{lets}
use Rattle.emit_core.specs.PortRanges.{HasNoRange}
use Rattle.emit_core.specs.Directions.{permits}

module _ (site : Site) (p : List Flow) (known : IsSite site) (plain : HasNoRange site.services p) where
  abbrev table : List Entry
  table = flow_entries site p

  -- A packet that is matched above a priority.
  record IsMatchedAbove (packet : Packet) (n : ℕ) : Type 0 where
    entry : Entry
    listed : IsOneOf entry table
    matched : matches (Ipv4 packet) entry ≡ true
    above : n < entry.priority

  owner_of_held : (a : ℕ) (s : IsHeld site.hosts a) → owner_of site.hosts a ≡ Some s.place
  owner_of_held a s = owner_is site.hosts known.hosts s.place s.host s.prefix a s.there s.listed s.covered

  -- A packet of a permitted flow, by its owners: their flow is permitted, and its services match the packet.
  of_parts : (packet : Packet) (i j : ℕ) → owner_of site.hosts packet.src ≡ Some i → owner_of site.hosts packet.dst ≡ Some j → is_of site p packet ≡ true
      → (permits p i j ≡ true) × (is_served (services_of site.services i j) packet ≡ true)
  of_parts packet i j from to of_flow =
      and_parts (permits p i j) (is_served (services_of site.services i j) packet) (sym (of_owners site p packet i j from to) ∙ of_flow)

  listed_between : (packet : Packet) (s : IsHeld site.hosts packet.src) (d : IsHeld site.hosts packet.dst) (e : Entry)
      → IsOneOf e (pair_entries (permits p s.place d.place) (services_of site.services s.place d.place) (rest_of site.hosts) s.prefix d.prefix)
      → IsOneOf e table
  listed_between packet s d e listed = pair_in site p s.place d.place s.host d.host s.prefix d.prefix e s.there d.there s.listed d.listed listed

  -- A packet that is to be forwarded, between two hosts that own its addresses by prefixes.
  held_service : (packet : Packet) → IsPacket packet → (s : IsHeld site.hosts packet.src) (d : IsHeld site.hosts packet.dst)
      → is_of site p packet ≡ true → IsMatchedAbove packet 35
  held_service packet is s d of_flow =
      let ss = services_of site.services s.place d.place in
      let parts = of_parts packet s.place d.place (owner_of_held packet.src s) (owner_of_held packet.dst d) of_flow in
      let by = server ss packet parts.1 in
      let e : Entry = service_entry 40 (Some s.prefix) (Some d.prefix) by.narrowing in
      record {
        entry = e;
        listed = listed_between packet s d e
            (subst (λ (b : Bool). IsOneOf e (pair_entries b ss (rest_of site.hosts) s.prefix d.prefix)) (sym parts.0)
            (pair_service ss (rest_of site.hosts) s.prefix d.prefix by.narrowing by.listed));
        matched = entry_matches 40 (Some s.prefix) (Some d.prefix) by.narrowing packet is (askable_by site p known plain s.place d.place by.narrowing parts.0 by.listed)
            ∙ and_from _ _ by.lets_it (and_from _ _ s.covered d.covered);
        above = omega arith;
      }

  -- If there is a rest host, any packet between two hosts that own its addresses by prefixes.
  held_any : (packet : Packet) (r : ℕ) (s : IsHeld site.hosts packet.src) (d : IsHeld site.hosts packet.dst) → rest_of site.hosts ≡ Some r
      → IsMatchedAbove packet 30
  held_any packet r s d rest =
      let ss = services_of site.services s.place d.place in
      let all = pair_all (permits p s.place d.place) ss r s.prefix d.prefix in
      record {
        entry = all.entry;
        listed = listed_between packet s d all.entry
            (subst (λ (o : Option ℕ). IsOneOf all.entry (pair_entries (permits p s.place d.place) ss o s.prefix d.prefix)) (sym rest) all.listed);
        matched = all.matched packet s.covered d.covered;
        above = all.above;
      }

  matched_by : (packet : Packet) (rest : Option ℕ) → IsPacket packet → rest_of site.hosts ≡ rest → is_of site p packet ≡ true
      → (owner_of site.hosts packet.src ≡ rest_of site.hosts) ⊎ IsHeld site.hosts packet.src
      → (owner_of site.hosts packet.dst ≡ rest_of site.hosts) ⊎ IsHeld site.hosts packet.dst → IsMatchedAbove packet 0
  matched_by packet rest is rest_is of_flow (inr s) (inr d) =
      let at = held_service packet is s d of_flow in
      let above = at.above in
      record { entry = at.entry; listed = at.listed; matched = at.matched; above = omega arith }
  matched_by packet None is rest_is of_flow (inl free) d = absurd (true≢false (sym of_flow ∙ of_nobody_from site p packet (free ∙ rest_is)))
  matched_by packet None is rest_is of_flow (inr s) (inl free) = absurd (true≢false (sym of_flow ∙ of_nobody_to site p packet (free ∙ rest_is)))
  matched_by packet (Some r) is rest_is of_flow (inl free) (inl also) =
      absurd (true≢false (sym (of_parts packet r r (free ∙ rest_is) (also ∙ rest_is) of_flow).0 ∙ never_within p r))
  matched_by packet (Some r) is rest_is of_flow (inl free) (inr d) =
      let ss = services_of site.services r d.place in
      let parts = of_parts packet r d.place (free ∙ rest_is) (owner_of_held packet.dst d) of_flow in
      let by = server ss packet parts.1 in
      record {
        entry = service_entry 30 None (Some d.prefix) by.narrowing;
        listed = from_rest_in site p r d.place d.host d.prefix by.narrowing rest_is d.there d.listed parts.0 by.listed;
        matched = entry_matches 30 None (Some d.prefix) by.narrowing packet is (askable_by site p known plain r d.place by.narrowing parts.0 by.listed)
            ∙ and_from _ _ by.lets_it d.covered;
        above = omega arith;
      }
  matched_by packet (Some r) is rest_is of_flow (inr s) (inl free) =
      let ss = services_of site.services s.place r in
      let parts = of_parts packet s.place r (owner_of_held packet.src s) (free ∙ rest_is) of_flow in
      let by = server ss packet parts.1 in
      record {
        entry = service_entry 30 (Some s.prefix) None by.narrowing;
        listed = to_rest_in site p r s.place s.host s.prefix by.narrowing rest_is s.there s.listed parts.0 by.listed;
        matched = entry_matches 30 (Some s.prefix) None by.narrowing packet is (askable_by site p known plain s.place r by.narrowing parts.0 by.listed)
            ∙ and_from _ _ by.lets_it (and_from _ _ s.covered refl);
        above = omega arith;
      }

  -- A packet that the entry below the services drops is not to be forwarded: no service matches it, since the entries
  -- of the services have higher priority.
  low_stays : (frame : Frame) (e : Entry) (o : IsBetween site p e) → IsFrame frame → IsHighest table frame e
      → e ≡ ip_entry 35 (Some o.q) (Some o.t) Drop → passes site p frame ≡ false
  low_stays Arp e o is high e_is = let never : false ≡ true = ap (matches Arp) (sym e_is) ∙ high.matched in cc
  low_stays Other e o is high e_is = let never : false ≡ true = ap (matches Other) (sym e_is) ∙ high.matched in cc
  low_stays (Ipv4 packet) e o is high e_is =
      let both = and_parts (covers o.q packet.src) (covers o.t packet.dst) (ap (matches (Ipv4 packet)) (sym e_is) ∙ high.matched) in
      let s : IsHeld site.hosts packet.src = record { place = o.i; host = o.g; prefix = o.q; there = o.at_i; listed = o.from; covered = both.0 } in
      let d : IsHeld site.hosts packet.dst = record { place = o.j; host = o.h; prefix = o.t; there = o.at_j; listed = o.to; covered = both.1 } in
      let priority : e.priority ≡ 35 = ap (λ (x : Entry). x.priority) e_is in
      false_from_ne_true (is_of site p packet) (λ of_flow.
      let at = held_service packet is s d of_flow in
      let above = at.above in
      let below = high.above at.entry at.listed at.matched in
      omega arith)

  -- The matching entry of highest priority has the verdict of the policy.
  pair_says : (frame : Frame) (e : Entry) (o : IsBetween site p e) → IsFrame frame → IsHighest table frame e
      → PairKind (permits p o.i o.j) (services_of site.services o.i o.j) o.q o.t e → verdict_by_action e.action ≡ verdict_if (passes site p frame)
  pair_says frame e o is high (of_service n permitted one e_is) =
      ap (λ (x : Entry). verdict_by_action x.action) e_is
      ∙ ap verdict_if (sym (service_goes site p known plain frame e o n is permitted one (ap (matches frame) (sym e_is) ∙ high.matched)))
  pair_says frame e o is high (of_low permitted narrowed e_is) =
      ap (λ (x : Entry). verdict_by_action x.action) e_is ∙ ap verdict_if (sym (low_stays frame e o is high e_is))
  pair_says frame e o is high (of_drop denied e_is) =
      ap (λ (x : Entry). verdict_by_action x.action) e_is
      ∙ ap verdict_if (sym (drop_stays site p known frame e o denied (ap (matches frame) (sym e_is) ∙ high.matched)))

  to_rest_says : (frame : Frame) (e : Entry) (o : IsToRest site p e) → IsFrame frame → IsHighest table frame e → passes site p frame ≡ true
  to_rest_says Arp e o is high = let never : false ≡ true = ap (matches Arp) (sym o.is) ∙ high.matched in cc
  to_rest_says Other e o is high = let never : false ≡ true = ap (matches Other) (sym o.is) ∙ high.matched in cc
  to_rest_says (Ipv4 packet) e o is high =
      let can = askable_by site p known plain o.i o.r o.n o.permitted o.one in
      let matched = sym (entry_matches 30 (Some o.q) None o.n packet is can) ∙ ap (matches (Ipv4 packet)) (sym o.is) ∙ high.matched in
      let parts = and_parts (lets packet o.n) (covers o.q packet.src && true) matched in
      let own = (and_parts (covers o.q packet.src) true parts.1).0 in
      let priority : e.priority ≡ 30 = ap (λ (x : Entry). x.priority) o.is in
      elim (ownership site.hosts packet.dst) [
        | inl free ↦
            let owner = owner_is site.hosts known.hosts o.i o.h o.q packet.src o.there o.from own in
            passes_by site p packet o.i o.r o.n owner (free ∙ o.rest) o.permitted o.one parts.0
        | inr held ↦
            let source : IsHeld site.hosts packet.src = record { place = o.i; host = o.h; prefix = o.q; there = o.there; listed = o.from; covered = own } in
            let at = held_any packet o.r source held o.rest in
            let above = at.above in
            let below = high.above at.entry at.listed at.matched in
            absurd (omega arith)
      ]

  from_rest_says : (frame : Frame) (e : Entry) (o : IsFromRest site p e) → IsFrame frame → IsHighest table frame e → passes site p frame ≡ true
  from_rest_says Arp e o is high = let never : false ≡ true = ap (matches Arp) (sym o.is) ∙ high.matched in cc
  from_rest_says Other e o is high = let never : false ≡ true = ap (matches Other) (sym o.is) ∙ high.matched in cc
  from_rest_says (Ipv4 packet) e o is high =
      let can = askable_by site p known plain o.r o.i o.n o.permitted o.one in
      let matched = sym (entry_matches 30 None (Some o.q) o.n packet is can) ∙ ap (matches (Ipv4 packet)) (sym o.is) ∙ high.matched in
      let parts = and_parts (lets packet o.n) (covers o.q packet.dst) matched in
      let priority : e.priority ≡ 30 = ap (λ (x : Entry). x.priority) o.is in
      elim (ownership site.hosts packet.src) [
        | inl free ↦
            let owner = owner_is site.hosts known.hosts o.i o.h o.q packet.dst o.there o.to parts.1 in
            passes_by site p packet o.r o.i o.n (free ∙ o.rest) owner o.permitted o.one parts.0
        | inr held ↦
            let destination : IsHeld site.hosts packet.dst = record { place = o.i; host = o.h; prefix = o.q; there = o.there; listed = o.to; covered = parts.1 } in
            let at = held_any packet o.r held destination o.rest in
            let above = at.above in
            let below = high.above at.entry at.listed at.matched in
            absurd (omega arith)
      ]

  other_says : (frame : Frame) (e : Entry) → IsFrame frame → e ≡ other_entry → IsHighest table frame e → passes site p frame ≡ false
  other_says Arp e is e_is high =
      let priority : e.priority ≡ 0 = ap (λ (x : Entry). x.priority) e_is in
      let below = high.above arp_entry (last_in site p arp_entry (inl refl)) refl in
      absurd (omega arith)
  other_says Other e is e_is high = refl
  other_says (Ipv4 packet) e is e_is high =
      let priority : e.priority ≡ 0 = ap (λ (x : Entry). x.priority) e_is in
      false_from_ne_true (is_of site p packet) (λ of_flow.
      let at = matched_by packet (rest_of site.hosts) is refl of_flow (ownership site.hosts packet.src) (ownership site.hosts packet.dst) in
      let above = at.above in
      let below = high.above at.entry at.listed at.matched in
      omega arith)

  arp_says : (frame : Frame) → matches frame arp_entry ≡ true → passes site p frame ≡ true
  arp_says Arp on = refl
  arp_says Other on = cc
  arp_says (Ipv4 packet) on = cc

  highest_says : (frame : Frame) (e : Entry) → IsFrame frame → Origin site p e → IsHighest table frame e
      → verdict_by_action e.action ≡ verdict_if (passes site p frame)
  highest_says frame e is (of_pair o) high = pair_says frame e o is high (kind_of_pair site p e o)
  highest_says frame e is (of_to_rest o) high = ap (λ (x : Entry). verdict_by_action x.action) o.is ∙ ap verdict_if (sym (to_rest_says frame e o is high))
  highest_says frame e is (of_from_rest o) high = ap (λ (x : Entry). verdict_by_action x.action) o.is ∙ ap verdict_if (sym (from_rest_says frame e o is high))
  highest_says frame e is (of_arp e_is) high =
      ap (λ (x : Entry). verdict_by_action x.action) e_is ∙ ap verdict_if (sym (arp_says frame (ap (matches frame) (sym e_is) ∙ high.matched)))
  highest_says frame e is (of_other e_is) high =
      ap (λ (x : Entry). verdict_by_action x.action) e_is ∙ ap verdict_if (sym (other_says frame e is e_is high))

  only_verdict : (frame : Frame) (v : Verdict) → IsFrame frame → HasVerdict table frame v → v ≡ verdict_if (passes site p frame)
  only_verdict frame v is (inl (e, high, verdict)) = verdict ∙ highest_says frame e is (origin site p e high.listed) high
  only_verdict frame v is (inr (none, verdict)) = absurd (none other_entry (last_in site p other_entry (inr (inl refl))) refl)

  pub forwards_flows : ForwardsFlows table site p
  forwards_flows = record {
    given = λ frame is.
        let some = has_verdict table frame in
        subst (HasVerdict table frame) (only_verdict frame some.verdict is some.has) some.has;
    only = λ frame v is has. only_verdict frame v is has;
  }
