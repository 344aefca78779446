-- The layout for the machines of a host enforces the policy on them.
use Rattle.std.proofs.Common.{◌≡◌, ℕ, zero, suc, ◌+◌, Bool, true, false, cond, not, ◌==◌, ◌&&◌, ◌||◌, List, [], ◌∷◌, Option, Some, None, refl, sym, ap, subst, ◌∙◌, true≢false, arith}
use Rattle.std.specs.Prelude.{if◌then◌else◌, slice_get}
use Rattle.std.specs.List.{flat_map, position_from}
use Rattle.std.specs.Option.{option_or, option_map_or}
use Rattle.std.proofs.Math.Bool.{and-true}
use Rattle.std.proofs.lemmas.Bool.Decides.{nat_tests}
use Rattle.host_net.specs.declared.prefix.Prefix.{Prefix}
use Rattle.host_net.specs.declared.packet.Packet.{Packet}
use Rattle.host_net.specs.declared.packet.CtState.{CtState}
use Rattle.host_net.specs.declared.packet.Verdict.{Verdict}
use Rattle.host_net.specs.declared.packet.Verdict.TheVariants.{Forward as Forwarded}
use Rattle.host_net.specs.Prefix.{covers}
use Rattle.host_net.specs.Host.{Host, covers_any, prefix_owner_of, owner_of, rest_of}
use Rattle.host_net.specs.inner.Hosts.{IsHosts}
use Rattle.host_net.proofs.OwnerLaws.{owner_of_covered}
use Rattle.host_net.specs.Packet.{IsPacket}
use Rattle.host_net.specs.Verdict.{verdict_if}
use Rattle.host_net.proofs.VerdictLaws.{verdict_if-injective}
use Rattle.pkt_core.specs.Firewall.{is_established}
use Rattle.pkt_core.specs.FlowPolicy.{FlowPolicy, lets_pass}
use Rattle.ipt_rules.specs.declared.rule.Rule.{Rule}
use Rattle.ipt_rules.specs.declared.rule.Target.TheVariants.{Jump}
use Rattle.ipt_rules.specs.declared.rule.Policy.TheVariants.{Drop as Dropping}
use Rattle.ipt_rules.specs.Chain.{policy_of, rules_of}
use Rattle.ipt_rules.specs.Matching.{matches}
use Rattle.ipt_rules.specs.Semantics.{Gives, HasVerdictIn, verdict_by}
use Rattle.ipt_rules.proofs.MeaningLaws.{verdict_once}
use Rattle.ipt_rules.specs.inner.Saying.{Says}
use Rattle.ipt_rules.proofs.SayingLaws.{says_append, says_one, says_jump, says_flat_map, gives_said, verdict_said}
use Rattle.emit_core.specs.declared.direction.Direction.{Direction}
use Rattle.emit_core.specs.declared.direction.Direction.TheVariants.{Outbound, Inbound}
use Rattle.emit_core.proofs.HostChainLaws.{host_says, may_link_owner, said_by, said_by_any}
use Rattle.emit_core.proofs.ForwardingLaws.{owners_receive, owners_send}
use Rattle.emit_core.specs.Layout.{match_peer, host_rules}
use Rattle.emit_core.specs.OtherAddress.{other_address}
use Rattle.emit_core.proofs.OwnerLaws.{hosts_hold_once}
use Rattle.emit_core.proofs.RuleFitsLaws.{whole_fits}
use Rattle.emit_core.specs.Directions.{other_direction}
use Rattle.host_emit.specs.LocalLayout.{chain_for, entry_of, entry_rules, is_specific, local_layout, loopback, loopback_rule, own_jump, prefixes_of}
use Rattle.host_emit.specs.HostEnforcement.{EnforcesAtHost, PassesOn, is_internal, is_own}

-- 1. Who owns an address.

-- An element that is found at an index passes the test.
found_at : (test : Host → Bool) (k : ℕ) (hs : List Host) (i : ℕ) → position_from test k hs ≡ Some i
    → (j : ℕ) × (x : Host) × (k + j ≡ i) × (slice_get hs j ≡ Some x) × (test x ≡ true)
found_at test k [] i found = cc
found_at test k (x ∷ xs) i found = by_test (test x) refl found (λ later. found_at test (k + 1) xs i later)
  where
    by_test : (b : Bool) → test x ≡ b → cond b (Some k) (position_from test (k + 1) xs) ≡ Some i →
        (position_from test (k + 1) xs ≡ Some i → (j : ℕ) × (y : Host) × (k + 1 + j ≡ i) × (slice_get xs j ≡ Some y) × (test y ≡ true)) →
        (j : ℕ) × (y : Host) × (k + j ≡ i) × (slice_get (x ∷ xs) j ≡ Some y) × (test y ≡ true)
    by_test true is here behind = let same : k ≡ i = cc in (zero, x, omega arith, refl, is)
    by_test false is later behind =
        let rest = behind later in
        let place : k + 1 + rest.0 ≡ i = rest.2 in
        (suc rest.0, rest.1, omega arith, rest.3, rest.4)

-- The prefixes of a host that is found as holder of an address cover it.
held_covered : (hosts : List Host) (a h : ℕ) → prefix_owner_of hosts a ≡ Some h → covers_any (prefixes_of hosts h) a ≡ true
held_covered hosts a h held =
    let found = found_at (λ x. covers_any x.prefixes a) 0 hosts h held in
    let place : found.0 ≡ h = let start = found.2 in omega arith in
    subst (λ (i : ℕ). covers_any (prefixes_of hosts i) a ≡ true) place (ap (λ (o : Option Host). covers_any (option_map_or (λ x. x.prefixes) o []) a) found.3 ∙ found.4)

-- A specific host that owns an address covers it.
pub owned_covered : (hosts : List Host) (a h : ℕ) → is_specific hosts h ≡ true → owner_of hosts a ≡ Some h
    → covers_any (prefixes_of hosts h) a ≡ true
unfolding owner_of
owned_covered hosts a h specific owned = by_holder (prefix_owner_of hosts a) refl owned
  where
    itself : (n : ℕ) → not (n == n) ≡ false
    itself n = grind (arith, nat_tests)

    not_rest : rest_of hosts ≡ Some h → ⊥
    not_rest same = true≢false (sym specific ∙ ap (λ (x : Option ℕ). option_map_or (λ r. not (r == h)) x true) same ∙ itself h)

    by_holder : (o : Option ℕ) → prefix_owner_of hosts a ≡ o → option_or o (rest_of hosts) ≡ Some h → covers_any (prefixes_of hosts h) a ≡ true
    by_holder None is owned = absurd (not_rest owned)
    by_holder (Some i) is owned = held_covered hosts a h (is ∙ owned)

-- A host that covers an address owns it.
covered_owned : (hosts : List Host) (a h : ℕ) → IsHosts hosts → covers_any (prefixes_of hosts h) a ≡ true → owner_of hosts a ≡ Some h
covered_owned hosts a h known covered = by_host (slice_get hosts h) refl covered
  where
    by_host : (o : Option Host) → slice_get hosts h ≡ o → covers_any (option_map_or (λ x. x.prefixes) o []) a ≡ true → owner_of hosts a ≡ Some h
    by_host None there covers = absurd (true≢false (sym covers))
    by_host (Some x) there covers = owner_of_covered hosts h x a known there covers

-- 2. The verdicts of the chains of a machine.

module _ (policy : FlowPolicy) (h : ℕ) (known : IsHosts policy.site.hosts) where
  -- The verdict of the host's chain is that of the policy for a packet of the host.
  own_part : (side : Direction) (state : CtState) (packet : Packet) → is_own side policy.site.hosts h packet ≡ true
      → may_link_owner side policy packet (is_established state) h (owner_of policy.site.hosts (other_address side packet)) ≡ lets_pass policy packet state
  own_part Outbound state packet own =
      sym (ap (λ (o : Option ℕ). option_map_or (λ i. may_link_owner Outbound policy packet (is_established state) i (owner_of policy.site.hosts packet.dst)) o false)
      (covered_owned policy.site.hosts packet.src h known own))
      ∙ owners_send policy packet (is_established state) (owner_of policy.site.hosts packet.src) (owner_of policy.site.hosts packet.dst)
  own_part Inbound state packet own =
      sym (ap (λ (o : Option ℕ). option_map_or (λ j. may_link_owner Inbound policy packet (is_established state) j (owner_of policy.site.hosts packet.src)) o false)
      (covered_owned policy.site.hosts packet.dst h known own))
      ∙ owners_receive policy packet (is_established state) (owner_of policy.site.hosts packet.src) (owner_of policy.site.hosts packet.dst)

  user_rules : (side : Direction) → rules_of (local_layout policy h) (chain_for side) ≡ host_rules side policy h
  user_rules Outbound = refl
  user_rules Inbound = refl

  entry_there : (side : Direction) → rules_of (local_layout policy h) (entry_of side) ≡ entry_rules side (prefixes_of policy.site.hosts h)
  entry_there Outbound = refl
  entry_there Inbound = refl

  entry_policy : (side : Direction) → policy_of (local_layout policy h) (entry_of side) ≡ Some Dropping
  entry_policy Outbound = refl
  entry_policy Inbound = refl

  jump_says : (side : Direction) (state : CtState) (packet : Packet) → IsPacket packet → (q : Prefix)
      → Says (matches packet state) (local_layout policy h) (own_jump side q)
      (if covers q (other_address (other_direction side) packet) then Some (said_by side policy packet state h) else None)
  jump_says side state packet is q =
      let fits = matches packet state in
      let chains = local_layout policy h in
      let v = said_by side policy packet state h in
      subst (λ (x : Bool). Says fits chains (own_jump side q) (if x then Some v else None))
      (whole_fits (other_direction side) (Some q) (Jump (chain_for side)) packet state)
      (says_jump fits chains (match_peer (other_direction side) (Some q) None (Jump (chain_for side))) (chain_for side) (Some v) refl
      (subst (λ (x : List Rule). Gives fits chains x (Some v)) (sym (user_rules side))
      (gives_said fits chains (host_rules side policy h) (Some v)
      (host_says side chains policy packet state h is (hosts_hold_once policy.site.hosts known (other_address side packet))))))

  loopback_says : (state : CtState) (packet : Packet)
      → Says (matches packet state) (local_layout policy h) (loopback_rule ∷ []) (if is_internal packet then Some Forwarded else None)
  loopback_says state packet =
      subst (λ (x : Bool). Says (matches packet state) (local_layout policy h) (loopback_rule ∷ []) (if x then Some Forwarded else None))
      (ap (λ (b : Bool). covers loopback packet.src && b) (and-true (covers loopback packet.dst)))
      (says_one (matches packet state) (local_layout policy h) loopback_rule Forwarded refl)

  entry_says : (side : Direction) (state : CtState) (packet : Packet) → IsPacket packet
      → Says (matches packet state) (local_layout policy h) (entry_rules side (prefixes_of policy.site.hosts h))
      (option_or (if is_internal packet then Some Forwarded else None) (if is_own side policy.site.hosts h packet then Some (said_by side policy packet state h) else None))
  entry_says side state packet is =
      let fits = matches packet state in
      let chains = local_layout policy h in
      let own = prefixes_of policy.site.hosts h in
      let a = other_address (other_direction side) packet in
      let v = said_by side policy packet state h in
      says_append fits chains (loopback_rule ∷ []) (flat_map (own_jump side) own) _ _ (loopback_says state packet)
      (subst (λ (o : Option Verdict). Says fits chains (flat_map (own_jump side) own) o)
      (said_by_any a (Some v) own)
      (says_flat_map fits chains (own_jump side) (λ q. if covers q a then Some v else None) (jump_says side state packet is) own))

  -- The combined verdict of the chains, with policy DROP.
  entry_verdict : (internal own lets : Bool) (v : Verdict) → (own ≡ true → v ≡ verdict_if lets)
      → verdict_by (Some Dropping) (option_or (if internal then Some Forwarded else None) (if own then Some v else None)) ≡ verdict_if (internal || (own && lets))
  entry_verdict true own lets v is = refl
  entry_verdict false true lets v is = is refl
  entry_verdict false false lets v is = refl

  passes_on : (side : Direction) (state : CtState) (packet : Packet) → IsPacket packet
      → PassesOn (local_layout policy h) side state packet (is_internal packet || (is_own side policy.site.hosts h packet && lets_pass policy packet state))
  passes_on side state packet is =
      let chains = local_layout policy h in
      let v = said_by side policy packet state h in
      let said = option_or (if is_internal packet then Some Forwarded else None) (if is_own side policy.site.hosts h packet then Some v else None) in
      subst (HasVerdictIn chains (entry_of side) packet state)
      (ap (λ policy. verdict_by policy said) (entry_policy side)
      ∙ entry_verdict (is_internal packet) (is_own side policy.site.hosts h packet) (lets_pass policy packet state) v (λ own. ap verdict_if (own_part side state packet own)))
      (verdict_said chains (entry_of side) packet state said
      (subst (λ (rs : List Rule). Says (matches packet state) chains rs said) (sym (entry_there side)) (entry_says side state packet is)))

  at_internal : (side : Direction) (state : CtState) (packet : Packet) (b : Bool) → IsPacket packet → is_internal packet ≡ b
      → PassesOn (local_layout policy h) side state packet (b || (is_own side policy.site.hosts h packet && lets_pass policy packet state))
  at_internal side state packet b is internal =
      subst (λ (x : Bool). PassesOn (local_layout policy h) side state packet (x || (is_own side policy.site.hosts h packet && lets_pass policy packet state)))
      internal (passes_on side state packet is)

  -- The layout enforces the policy on the machines of its host.
  pub layout_guards : EnforcesAtHost (PassesOn (local_layout policy h)) policy h
  layout_guards = record {
    given = λ side state packet is. at_internal side state packet false is.0 is.1;
    only = λ side state packet passes is has. verdict_if-injective passes _ (verdict_once has (at_internal side state packet false is.0 is.1));
    internal = λ side state packet is on. at_internal side state packet true is on;
  }
