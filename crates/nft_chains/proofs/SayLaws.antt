-- The outcome of the chains of a table.
use Rattle.std.proofs.Common.{◌≡◌, ◌⊎◌, inl, inr, ℕ, ◌+◌, ◌<◌, ◌^◌, Bool, true, false, ◌||◌, List, [], ◌∷◌, ◌++◌, Option, Some, None, map, refl, sym, ap, subst, ◌∙◌, append_assoc, arith}
use Rattle.std.specs.Prelude.{if◌then◌else◌, slice_get}
use Rattle.std.specs.List.{flat_map, list_any}
use Rattle.std.specs.Option.{option_or}
use Rattle.std.proofs.lemmas.Bool.{false_from_ne_true, or_parts}
use Rattle.std.proofs.lemmas.List.Concat.{flat_map_single}
use Rattle.std.proofs.lemmas.Option.{same_Some}
use Rattle.host_net.specs.declared.packet.Packet.{Packet}
use Rattle.host_net.specs.declared.packet.CtState.{CtState}
use Rattle.host_net.specs.declared.packet.Verdict.{Verdict as Outcome}
use Rattle.host_net.specs.declared.packet.Verdict.TheVariants.{Forward as Forwarded, Drop as Dropped}
use Rattle.host_net.specs.declared.prefix.Prefix.{Prefix}
use Rattle.host_net.specs.Packet.{IsPacket}
use Rattle.host_net.specs.Prefix.{covers}
use Rattle.host_net.specs.Verdict.{verdict_if}
use Rattle.header_space.specs.Owners.{LiesIn}
use Rattle.ipt_rules.specs.declared.rule.Rule.{Rule as ChainRule}
use Rattle.ipt_rules.specs.declared.rule.Target.{Target}
use Rattle.ipt_rules.specs.declared.rule.Target.TheVariants.{Drop as ToDrop}
use Rattle.ipt_rules.specs.Chain.{Chain, rules_of}
use Rattle.ipt_rules.specs.Matching.{matches}
use Rattle.ipt_rules.specs.Semantics.{Gives as GivesOutcome, goes_on, ends, step_of}
use Rattle.ipt_rules.specs.inner.Saying.{Says, first_said}
use Rattle.ipt_rules.proofs.SayingLaws.{says_append, says_flat_map, says_jump, says_none, says_one}
use Rattle.nft_rules.specs.declared.table.Chain.{Chain as TableChain}
use Rattle.nft_rules.specs.declared.table.Element.{Element}
use Rattle.nft_rules.specs.declared.table.End.{End}
use Rattle.nft_rules.specs.declared.table.End.TheVariants.{Source, Destination}
use Rattle.nft_rules.specs.declared.table.MatchRule.{MatchRule}
use Rattle.nft_rules.specs.declared.table.Rule.{Rule}
use Rattle.nft_rules.specs.declared.table.Rule.TheVariants.{Map, Match}
use Rattle.nft_rules.specs.declared.table.Verdict.{Verdict}
use Rattle.nft_rules.specs.declared.table.Verdict.TheVariants.{Accept, Drop, Goto}
use Rattle.nft_rules.specs.Loadable.{AreRules, AscendFrom, IsRule, LeadBack}
use Rattle.nft_rules.specs.Maps.{LeadsNowhere, LeadsTo}
use Rattle.nft_rules.specs.Semantics.{Decides, Gives, address_at, fits}
use Rattle.nft_rules.specs.Semantics.Decides.{by_policy, by_next, by_accept, by_drop, by_goto}
use Rattle.nft_rules.proofs.MapLaws.{leads_same}
use Rattle.nft_chains.specs.Translation.{chain_number, element_rules, every_packet, match_rule, prefix_rule, prefixes_of, rules_of_rule, rules_of_rules, target_of}
use Rattle.nft_chains.proofs.CoverLaws.{covered_lies, is_covered, lies_covered}
use Rattle.nft_chains.proofs.MatchLaws.{match_matches, prefix_matches}

-- ---- One rule

-- What a rule with this verdict does has the outcome. That of `goto` is the outcome of its chain.
abbrev pub HasOutcome : (ChainRule → Bool) → List Chain → Verdict → Outcome → Type 0
HasOutcome test chains Accept o = o ≡ Forwarded
HasOutcome test chains Drop o = o ≡ Dropped
HasOutcome test chains (Goto c) o = GivesOutcome test chains (rules_of chains (chain_number c)) (Some o)

-- The first block that has an outcome decides.
says_before : (test : ChainRule → Bool) (chains : List Chain) (xs ys : List ChainRule) (o : Outcome) → Says test chains xs (Some o)
    → Says test chains (xs ++ ys) (Some o)
says_before test chains xs ys o first =
    λ rest. subst (λ (rs : List ChainRule). GivesOutcome test chains rs (Some o)) (sym (append_assoc xs ys rest)) (first (ys ++ rest))

says_if : (test : ChainRule → Bool) (chains : List Chain) (r : ChainRule) (v : Verdict) (o : Outcome) → r.target ≡ target_of v
    → HasOutcome test chains v o → Says test chains (r ∷ []) (if test r then Some o else None)
says_if test chains r Accept o target has =
    subst (λ (w : Outcome). Says test chains (r ∷ []) (if test r then Some w else None)) (sym has)
    (says_one test chains r Forwarded (ap (step_of true) target))
says_if test chains r Drop o target has =
    subst (λ (w : Outcome). Says test chains (r ∷ []) (if test r then Some w else None)) (sym has)
    (says_one test chains r Dropped (ap (step_of true) target))
says_if test chains r (Goto c) o target has = says_jump test chains r (chain_number c) (Some o) target has

-- A rule that matches has the outcome of its verdict. Another rule leaves the packet to the rules that follow.
said_one : (test : ChainRule → Bool) (chains : List Chain) (r : ChainRule) (v : Verdict) (o : Outcome) → r.target ≡ target_of v
    → HasOutcome test chains v o → test r ≡ true → Says test chains (r ∷ []) (Some o)
said_one test chains r v o target has is =
    subst (λ (b : Bool). Says test chains (r ∷ []) (if b then Some o else None)) is (says_if test chains r v o target has)

passed_one : (test : ChainRule → Bool) (chains : List Chain) (r : ChainRule) → test r ≡ false → Says test chains (r ∷ []) None
passed_one test chains r is = λ rest o gives. goes_on (ap (λ (b : Bool). step_of b r.target) is) gives

-- ---- A verdict map

first_said_if : (covering : Prefix → Bool) (o : Outcome) (qs : List Prefix)
    → first_said (λ q. if covering q then Some o else None) qs ≡ (if list_any covering qs then Some o else None)
first_said_if covering o [] = refl
first_said_if covering o (q ∷ qs) = by_first (covering q) (first_said_if covering o qs)
  where
    by_first : (b : Bool) → first_said (λ r. if covering r then Some o else None) qs ≡ (if list_any covering qs then Some o else None)
        → option_or (if b then Some o else None) (first_said (λ r. if covering r then Some o else None) qs)
        ≡ (if b || list_any covering qs then Some o else None)
    by_first true later = refl
    by_first false later = later

prefixes_said : (chains : List Chain) (state : CtState) (p : Packet) (end : End) (v : Verdict) (o : Outcome) (qs : List Prefix)
    → HasOutcome (matches p state) chains v o → is_covered (address_at end p) qs ≡ true
    → Says (matches p state) chains (map (prefix_rule end (target_of v)) qs) (Some o)
prefixes_said chains state p end v o qs has covered =
    let test = matches p state in
    let rule : Prefix → ChainRule = prefix_rule end (target_of v) in
    let covering : Prefix → Bool = λ q. covers q (address_at end p) in
    let each : (q : Prefix) → Says test chains (rule q ∷ []) (if covering q then Some o else None) =
    λ q. subst (λ (b : Bool). Says test chains (rule q ∷ []) (if b then Some o else None)) (prefix_matches state p end (target_of v) q)
    (says_if test chains (rule q) v o refl has) in
    let all = says_flat_map test chains (λ q. rule q ∷ []) (λ q. if covering q then Some o else None) each qs in
    let outcome : first_said (λ q. if covering q then Some o else None) qs ≡ Some o =
    first_said_if covering o qs ∙ ap (λ (b : Bool). if b then Some o else None) covered in
    subst (λ (rules : List ChainRule). Says test chains rules (Some o)) (flat_map_single rule qs)
    (subst (λ (said : Option Outcome). Says test chains (flat_map (λ q. rule q ∷ []) qs) said) outcome all)

prefixes_passed : (chains : List Chain) (state : CtState) (p : Packet) (end : End) (target : Target) (qs : List Prefix)
    → is_covered (address_at end p) qs ≡ false → Says (matches p state) chains (map (prefix_rule end target) qs) None
prefixes_passed chains state p end target [] covered = says_none (matches p state) chains
prefixes_passed chains state p end target (q ∷ qs) covered =
    let parts = or_parts (covers q (address_at end p)) (is_covered (address_at end p) qs) covered in
    says_append (matches p state) chains (prefix_rule end target q ∷ []) (map (prefix_rule end target) qs) None None
    (passed_one (matches p state) chains (prefix_rule end target q) (prefix_matches state p end target q ∙ parts.0))
    (prefixes_passed chains state p end target qs parts.1)

nowhere_passed : (chains : List Chain) (state : CtState) (p : Packet) (end : End) (es : List Element)
    → LeadsNowhere es (address_at end p) → Says (matches p state) chains (flat_map (element_rules end) es) None
nowhere_passed chains state p end [] nowhere = says_none (matches p state) chains
nowhere_passed chains state p end (e ∷ es) nowhere =
    let a = address_at end p in
    let outside : is_covered a (prefixes_of e.range) ≡ false =
    false_from_ne_true (is_covered a (prefixes_of e.range)) (λ covered. nowhere.0 (covered_lies a e.range covered)) in
    says_append (matches p state) chains (element_rules end e) (flat_map (element_rules end) es) None None
    (prefixes_passed chains state p end (target_of e.verdict) (prefixes_of e.range) outside)
    (nowhere_passed chains state p end es nowhere.1)

here_said : (chains : List Chain) (state : CtState) (p : Packet) (end : End) (e : Element) (es : List Element) (v : Verdict) (o : Outcome)
    → v ≡ e.verdict → HasOutcome (matches p state) chains v o → is_covered (address_at end p) (prefixes_of e.range) ≡ true
    → Says (matches p state) chains (flat_map (element_rules end) (e ∷ es)) (Some o)
here_said chains state p end e es v o same has covered =
    says_before (matches p state) chains (element_rules end e) (flat_map (element_rules end) es) o
    (prefixes_said chains state p end e.verdict o (prefixes_of e.range)
    (subst (λ (w : Verdict). HasOutcome (matches p state) chains w o) same has) covered)

later_said : (b : Bool) (chains : List Chain) (state : CtState) (p : Packet) (end : End) (e : Element) (es : List Element) (v : Verdict)
    (o : Outcome) → is_covered (address_at end p) (prefixes_of e.range) ≡ b → AscendFrom 0 (e ∷ es) → LeadsTo es (address_at end p) v
    → HasOutcome (matches p state) chains v o → Says (matches p state) chains (flat_map (element_rules end) es) (Some o)
    → Says (matches p state) chains (flat_map (element_rules end) (e ∷ es)) (Some o)
later_said true chains state p end e es v o covered ascend later has said =
    let a = address_at end p in
    let lies : LiesIn e.range a = covered_lies a e.range covered in
    let same : Some v ≡ Some e.verdict = leads_same (e ∷ es) a (Some v) (Some e.verdict) ascend (inr later) (inl (lies, refl)) in
    here_said chains state p end e es v o (same_Some v e.verdict same) has covered
later_said false chains state p end e es v o covered ascend later has said =
    says_append (matches p state) chains (element_rules end e) (flat_map (element_rules end) es) None (Some o)
    (prefixes_passed chains state p end (target_of e.verdict) (prefixes_of e.range) covered) said

leads_said : (chains : List Chain) (state : CtState) (p : Packet) (end : End) (from : ℕ) (es : List Element) (v : Verdict) (o : Outcome)
    → address_at end p < 2 ^ 32 → AscendFrom from es → LeadsTo es (address_at end p) v → HasOutcome (matches p state) chains v o
    → Says (matches p state) chains (flat_map (element_rules end) es) (Some o)
leads_said chains state p end from [] v o fits ascend leads has = absurd leads
leads_said chains state p end from (e ∷ es) v o fits ascend (inl here) has =
    here_said chains state p end e es v o here.1 has (lies_covered (address_at end p) e.range fits here.0)
leads_said chains state p end from (e ∷ es) v o fits ascend (inr later) has =
    later_said (is_covered (address_at end p) (prefixes_of e.range)) chains state p end e es v o refl (omega arith, ascend.1, ascend.2)
    later has (leads_said chains state p end (e.range.last + 1) es v o fits ascend.2 later has)

-- ---- A rule of the table

pub address_fits : (end : End) (p : Packet) → IsPacket p → address_at end p < 2 ^ 32
address_fits Source p is = is.0
address_fits Destination p is = is.1

match_said : (b : Bool) (chains : List Chain) (state : CtState) (p : Packet) (r : MatchRule) (v : Verdict) (o : Outcome) → fits state p r ≡ b
    → Some v ≡ (if b then Some r.verdict else None) → HasOutcome (matches p state) chains v o
    → Says (matches p state) chains (match_rule r ∷ []) (Some o)
match_said true chains state p r v o is gives has =
    said_one (matches p state) chains (match_rule r) v o (ap target_of (sym (same_Some v r.verdict gives))) has (match_matches state p r ∙ is)
match_said false chains state p r v o is gives has = let never : Some v ≡ None = gives in absurd (cc never)

match_passed : (b : Bool) (chains : List Chain) (state : CtState) (p : Packet) (r : MatchRule) → fits state p r ≡ b
    → None ≡ (if b then Some r.verdict else None) → Says (matches p state) chains (match_rule r ∷ []) None
match_passed true chains state p r is gives = let never : None ≡ Some r.verdict = gives in absurd (cc never)
match_passed false chains state p r is gives = passed_one (matches p state) chains (match_rule r) (match_matches state p r ∙ is)

rule_said : (chains : List Chain) (state : CtState) (p : Packet) (n : ℕ) (rule : Rule) (v : Verdict) (o : Outcome) → IsPacket p → IsRule n rule
    → Gives state p rule (Some v) → HasOutcome (matches p state) chains v o → Says (matches p state) chains (rules_of_rule rule) (Some o)
rule_said chains state p n (Map m) v o packet is gives has =
    leads_said chains state p m.end 0 m.elements.items v o (address_fits m.end p packet) is.1 gives has
rule_said chains state p n (Match r) v o packet is gives has = match_said (fits state p r) chains state p r v o refl gives has

rule_passed : (chains : List Chain) (state : CtState) (p : Packet) (rule : Rule) → Gives state p rule None
    → Says (matches p state) chains (rules_of_rule rule) None
rule_passed chains state p (Map m) gives = nowhere_passed chains state p m.end m.elements.items gives
rule_passed chains state p (Match r) gives = match_passed (fits state p r) chains state p r refl gives

-- ---- All rules

-- The rules of each chain, and a last rule that drops, are the rules of the chain that follows the three built-in chains.
abbrev pub HaveChains : List TableChain → List Chain → Type 0
HaveChains table chains =
    (c : ℕ) (x : TableChain) → slice_get table c ≡ Some x
    → rules_of chains (chain_number c) ≡ rules_of_rules x.rules.items ++ every_packet ToDrop ∷ []

-- The rules have the verdict as a block, or leave a packet that does not pass to the rules that follow.
abbrev pub Tells : (ChainRule → Bool) → List Chain → List ChainRule → Bool → Type 0
Tells test chains rules passes = Says test chains rules (Some (verdict_if passes)) ⊎ ((passes ≡ false) × Says test chains rules None)

tells_after : (test : ChainRule → Bool) (chains : List Chain) (xs ys : List ChainRule) (passes : Bool) → Says test chains xs None
    → Tells test chains ys passes → Tells test chains (xs ++ ys) passes
tells_after test chains xs ys passes first (inl said) = inl (says_append test chains xs ys None (Some (verdict_if passes)) first said)
tells_after test chains xs ys passes first (inr passed) = inr (passed.0, says_append test chains xs ys None None first passed.1)

-- The last rule drops what the rules before it do not decide.
chain_outcome : (test : ChainRule → Bool) (chains : List Chain) (rules : List ChainRule) (passes : Bool) → test (every_packet ToDrop) ≡ true
    → Tells test chains rules passes → GivesOutcome test chains (rules ++ every_packet ToDrop ∷ []) (Some (verdict_if passes))
chain_outcome test chains rules passes every (inl said) = said (every_packet ToDrop ∷ [])
chain_outcome test chains rules passes every (inr passed) =
    subst (λ (b : Bool). GivesOutcome test chains (rules ++ every_packet ToDrop ∷ []) (Some (verdict_if b))) (sym passed.0)
    (passed.1 (every_packet ToDrop ∷ []) (Some Dropped) (ends (ap (λ (b : Bool). step_of b ToDrop) every)))

pub decides_tells : (table : List TableChain) (chains : List Chain) (state : CtState) (p : Packet) (n : ℕ) (rules : List Rule) (passes : Bool)
    → IsPacket p → HaveChains table chains → LeadBack table → AreRules n rules → Decides table state p rules passes
    → Tells (matches p state) chains (rules_of_rules rules) passes
decides_tells table chains state p n _ _ packet have back are by_policy = inr (refl, says_none (matches p state) chains)
decides_tells table chains state p n (rule ∷ rules) passes packet have back are (by_next gives later) =
    tells_after (matches p state) chains (rules_of_rule rule) (rules_of_rules rules) passes (rule_passed chains state p rule gives)
    (decides_tells table chains state p n rules passes packet have back are.1 later)
decides_tells table chains state p n (rule ∷ rules) _ packet have back are (by_accept gives) =
    inl (says_before (matches p state) chains (rules_of_rule rule) (rules_of_rules rules) Forwarded
    (rule_said chains state p n rule Accept Forwarded packet are.0 gives refl))
decides_tells table chains state p n (rule ∷ rules) _ packet have back are (by_drop gives) =
    inl (says_before (matches p state) chains (rules_of_rule rule) (rules_of_rules rules) Dropped
    (rule_said chains state p n rule Drop Dropped packet are.0 gives refl))
decides_tells table chains state p n (rule ∷ rules) passes packet have back are (by_goto c chain gives there later) =
    let told = decides_tells table chains state p c chain.rules.items passes packet have back (back c chain there) later in
    let outcome : GivesOutcome (matches p state) chains (rules_of chains (chain_number c)) (Some (verdict_if passes)) =
    subst (λ (rs : List ChainRule). GivesOutcome (matches p state) chains rs (Some (verdict_if passes))) (sym (have c chain there))
    (chain_outcome (matches p state) chains (rules_of_rules chain.rules.items) passes refl told) in
    inl (says_before (matches p state) chains (rules_of_rule rule) (rules_of_rules rules) (verdict_if passes)
    (rule_said chains state p n rule (Goto c) (verdict_if passes) packet are.0 gives outcome))
