-- The law of classes for rules: packets that the parts of the rules do not separate have the same verdicts.
use Rattle.std.proofs.Common.{◌≡◌, inl, inr, ℕ, zero, suc, Bool, ◌&&◌, ◌==◌, List, [], ◌∷◌, ◌++◌, Option, Some, None, refl, sym, ap, subst, ◌∙◌, arith}
use Rattle.std.specs.List.{AllByRecursion, flat_map}
use Rattle.std.proofs.lemmas.Bool.Decides.{nat_tests}
use Rattle.host_net.specs.declared.packet.Packet.{Packet}
use Rattle.host_net.specs.declared.packet.CtState.{CtState}
use Rattle.host_net.specs.declared.packet.Verdict.{Verdict}
use Rattle.host_net.specs.declared.prefix.Prefix.{Prefix}
use Rattle.ipt_rules.specs.declared.rule.AddrMatch.{AddrMatch}
use Rattle.ipt_rules.specs.declared.rule.PortMatch.{PortMatch}
use Rattle.ipt_rules.specs.declared.rule.ProtoMatch.{ProtoMatch}
use Rattle.ipt_rules.specs.declared.rule.Rule.{Rule}
use Rattle.ipt_rules.specs.Chain.{Chain, rules_of}
use Rattle.ipt_rules.specs.Matching.{address_matches, matches, port_matches, protocol_matches, state_matches, turned}
use Rattle.ipt_rules.specs.Semantics.{Gives, HasVerdictIn, at_end, goes_on, ends, decides, comes_back, step_of}
use Rattle.ipt_rules.specs.Rules.{all_rules}
use Rattle.ofp_rules.specs.declared.entry.Entry.{Entry}
use Rattle.ofp_rules.specs.declared.entry.Frame.TheVariants.{Ipv4}
use Rattle.ofp_rules.specs.declared.entry.FrameKind.{FrameKind}
use Rattle.ofp_rules.specs.declared.entry.FrameKind.TheVariants.{Any, Arp, Ip}
use Rattle.ofp_rules.specs.Matching.{kind_matches, number_matches, packet_matches, part_matches, matches as entry_matches}
use Rattle.ofp_rules.specs.Semantics.{HasVerdict, IsOneOf}
use Rattle.audit_core.specs.Parts.{address_parts, entry_parts, number_parts, one_port_parts, port_parts, prefix_parts, protocol_parts, rule_parts, rules_parts}
use Rattle.audit_core.specs.inner.Ranges.{within}
use Rattle.rules_space.specs.Rules.{AnyRules, Chains, Entries, filter_of}
use Rattle.audit_core.proofs.PartLemmas.{AreAlikeFor, IsAlikeFor, all_listed, all_parts}

-- 1. Chains of rules.

-- A rule matches both packets, or neither.
abbrev FitsBoth : Packet → Packet → CtState → Rule → Type 0
FitsBoth p q state r = matches p state r ≡ matches q state r

-- The parts of the five fields of a rule or an entry.
five_parts : {X : Type 0} (P : X → Type 0) (a b c d e : List X) → AllByRecursion P (a ++ (b ++ (c ++ (d ++ e))))
    → AllByRecursion P a × AllByRecursion P b × AllByRecursion P c × AllByRecursion P d × AllByRecursion P e
five_parts P a b c d e all =
    let one = all_parts P a (b ++ (c ++ (d ++ e))) all in
    let two = all_parts P b (c ++ (d ++ e)) one.1 in
    let three = all_parts P c (d ++ e) two.1 in
    let four = all_parts P d e three.1 in
    (one.0, two.0, three.0, four.0, four.1)

module _ (p q : Packet) where
  address_alike : (part : Option AddrMatch) → AreAlikeFor (address_parts part) p q
      → (address_matches part p.src ≡ address_matches part q.src) × (address_matches part p.dst ≡ address_matches part q.dst)
  address_alike None alike = (refl, refl)
  address_alike (Some part) alike = (ap (turned part.negated) alike.0.0, ap (turned part.negated) alike.0.1)

  proto_alike : (part : Option ProtoMatch) → AreAlikeFor (protocol_parts part) p q → protocol_matches part p.proto ≡ protocol_matches part q.proto
  proto_alike None alike = refl
  proto_alike (Some part) alike = ap (turned part.negated) alike.0

  port_alike : (part : Option PortMatch) → AreAlikeFor (port_parts part) p q
      → (port_matches part p.sport ≡ port_matches part q.sport) × (port_matches part p.dport ≡ port_matches part q.dport)
  port_alike None alike = (refl, refl)
  port_alike (Some part) alike = (ap (turned part.negated) alike.0.0, ap (turned part.negated) alike.0.1)

  rule_alike : (state : CtState) (r : Rule) → AreAlikeFor (rule_parts r) p q → FitsBoth p q state r
  rule_alike state r alike =
      let parts =
      five_parts (IsAlikeFor p q) (address_parts r.src) (address_parts r.dst) (protocol_parts r.proto) (port_parts r.sport) (port_parts r.dport) alike in
      let src = (address_alike r.src parts.0).0 in
      let dst = (address_alike r.dst parts.1).1 in
      let proto = proto_alike r.proto parts.2 in
      let sport = (port_alike r.sport parts.3).0 in
      let dport = (port_alike r.dport parts.4).1 in
      λ i. proto i && (sport i && (dport i && (src i && (dst i && state_matches r.state state))))

pub all_in_chain : (P : Rule → Type 0) (chains : List Chain) (c : ℕ) → AllByRecursion P (all_rules chains) → AllByRecursion P (rules_of chains c)
all_in_chain P [] c all = tt
all_in_chain P (x ∷ xs) zero all = (all_parts P x.rules (all_rules xs) all).0
all_in_chain P (x ∷ xs) (suc c) all = all_in_chain P xs c (all_parts P x.rules (all_rules xs) all).1

-- Rule lists with equal matches evaluate to the same outcome.
pub gives_alike : {fits other : Rule → Bool} {chains : List Chain} → ((c : ℕ) → AllByRecursion (λ r. fits r ≡ other r) (rules_of chains c)) →
    {rs : List Rule} {o : Option Verdict} → AllByRecursion (λ r. fits r ≡ other r) rs → Gives fits chains rs o → Gives other chains rs o
gives_alike each alike at_end = at_end
gives_alike each alike (goes_on {r} s g) = goes_on (ap (λ (t : Bool). step_of t r.target) (sym alike.0) ∙ s) (gives_alike each alike.1 g)
gives_alike each alike (ends {r} s) = ends (ap (λ (t : Bool). step_of t r.target) (sym alike.0) ∙ s)
gives_alike each alike (decides {r} {c = c} s g) = decides (ap (λ (t : Bool). step_of t r.target) (sym alike.0) ∙ s) (gives_alike each (each c) g)
gives_alike each alike (comes_back {r} {c = c} s h g) =
    comes_back (ap (λ (t : Bool). step_of t r.target) (sym alike.0) ∙ s) (gives_alike each (each c) h) (gives_alike each alike.1 g)

chains_alike : (chains : List Chain) (p q : Packet) (state : CtState) (v : Verdict) → AreAlikeFor (flat_map rule_parts (all_rules chains)) p q
    → HasVerdictIn chains 1 p state v → HasVerdictIn chains 1 q state v
chains_alike chains p q state v alike has_it =
    let each : (c : ℕ) → AllByRecursion (λ r. matches p state r ≡ matches q state r) (rules_of chains c) =
    λ c. all_in_chain (FitsBoth p q state) chains c
    (all_listed (IsAlikeFor p q) (FitsBoth p q state) rule_parts (all_rules chains) (rule_alike p q state) alike) in
    record { outcome = has_it.outcome; gives = gives_alike each (each 1) has_it.gives; verdict = has_it.verdict }

-- 2. Entries of a flow table.

abbrev MatchesBoth : Packet → Packet → Entry → Type 0
MatchesBoth p q e = entry_matches (Ipv4 p) e ≡ entry_matches (Ipv4 q) e

within_one : (n a : ℕ) → (n == a) ≡ within n n a
within_one n a = grind (arith, nat_tests)

module _ (p q : Packet) where
  prefix_alike : (part : Option Prefix) → AreAlikeFor (prefix_parts part) p q
      → (part_matches part p.src ≡ part_matches part q.src) × (part_matches part p.dst ≡ part_matches part q.dst)
  prefix_alike None alike = (refl, refl)
  prefix_alike (Some prefix) alike = alike.0

  number_alike : (part : Option ℕ) → AreAlikeFor (number_parts part) p q → number_matches part p.proto ≡ number_matches part q.proto
  number_alike None alike = refl
  number_alike (Some n) alike = alike.0

  one_port_alike : (part : Option ℕ) → AreAlikeFor (one_port_parts part) p q
      → (number_matches part p.sport ≡ number_matches part q.sport) × (number_matches part p.dport ≡ number_matches part q.dport)
  one_port_alike None alike = (refl, refl)
  one_port_alike (Some n) alike =
      (within_one n p.sport ∙ alike.0.0 ∙ sym (within_one n q.sport), within_one n p.dport ∙ alike.0.1 ∙ sym (within_one n q.dport))

  kind_alike : (kind : FrameKind) (asked : Packet → Bool) → asked p ≡ asked q → kind_matches kind asked (Ipv4 p) ≡ kind_matches kind asked (Ipv4 q)
  kind_alike Any asked same = refl
  kind_alike Arp asked same = refl
  kind_alike Ip asked same = same

  entry_alike : (e : Entry) → AreAlikeFor (entry_parts e) p q → MatchesBoth p q e
  entry_alike e alike =
      let parts =
      five_parts (IsAlikeFor p q) (prefix_parts e.src) (prefix_parts e.dst) (number_parts e.proto) (one_port_parts e.tp_src) (one_port_parts e.tp_dst) alike in
      let src = (prefix_alike e.src parts.0).0 in
      let dst = (prefix_alike e.dst parts.1).1 in
      let proto = number_alike e.proto parts.2 in
      let sport = (one_port_alike e.tp_src parts.3).0 in
      let dport = (one_port_alike e.tp_dst parts.4).1 in
      kind_alike e.kind (packet_matches e) (λ i. proto i && (sport i && (dport i && (src i && dst i))))

pub all_one_of : {X : Type 0} (P : X → Type 0) (xs : List X) (x : X) → AllByRecursion P xs → IsOneOf x xs → P x
all_one_of P [] x all one = absurd one
all_one_of P (y ∷ xs) x all (inl is) = subst P (sym is) all.0
all_one_of P (y ∷ xs) x all (inr later) = all_one_of P xs x all.1 later

pub verdict_alike : (es : List Entry) (p q : Packet) (v : Verdict) → AllByRecursion (MatchesBoth p q) es → HasVerdict es (Ipv4 p) v → HasVerdict es (Ipv4 q) v
verdict_alike es p q v alike (inl has_it) =
    let highest = has_it.1 in
    inl (
      has_it.0,
      record {
        listed = highest.listed;
        matched = sym (all_one_of (MatchesBoth p q) es has_it.0 alike highest.listed) ∙ highest.matched;
        above = λ f listed matched. highest.above f listed (all_one_of (MatchesBoth p q) es f alike listed ∙ matched);
      },
      has_it.2,
    )
verdict_alike es p q v alike (inr has_none) =
    inr ((λ f listed matched. has_none.0 f listed (all_one_of (MatchesBoth p q) es f alike listed ∙ matched)), has_none.1)

-- 3. Rules of either kind.

-- Packets of one class have the same verdicts.
pub filter_alike : (rules : AnyRules) (p q : Packet) (state : CtState) (b : Bool) → AreAlikeFor (rules_parts rules) p q
    → filter_of rules state p b → filter_of rules state q b
filter_alike (Chains chains) p q state b alike said = chains_alike chains p q state _ alike said
filter_alike (Entries entries) p q state b alike said = verdict_alike entries p q _ (all_listed (IsAlikeFor p q) (MatchesBoth p q) entry_parts entries (entry_alike p q) alike) said
