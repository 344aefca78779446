-- The results of a classifier, and marks for its rules, none of them set.
use Rattle.std.proofs.Common.{◌≡◌, ◌↔◌, inl, inr, ℕ, zero, suc, ◌+◌, ◌<◌, ◌≤◌, ◌∙◌, Bool, true, false, IsTrue, List, [], ◌∷◌, ◌++◌, Option, Some, None, length, replicate, slice_get, refl, sym, ap, subst, arith}
use Rattle.std.specs.Prelude.{IfSome, IsSome}
use Rattle.std.specs.Option.{option_and_then}
use Rattle.std.proofs.lemmas.Bool.{cases_lt}
use Rattle.std.proofs.lemmas.List.{length-replicate}
use Rattle.std.proofs.lemmas.List.FromFn.{get_or-map-range_with_len, length-map-range_with_len, map-range_with_len_more}
use Rattle.std.proofs.lemmas.Option.{slice_get-get_or, slice_get_past, slice_get_within}
use Rattle.host_net.specs.declared.packet.Packet.{Packet}
use Rattle.host_net.specs.declared.packet.CtState.TheVariants.{New}
use Rattle.host_net.specs.Packet.{IsPacket}
use Rattle.ipt_rules.specs.declared.marks.Place.{Place}
use Rattle.ipt_rules.specs.declared.rule.Rule.{Rule}
use Rattle.ipt_rules.specs.Chain.{Chain, rules_of}
use Rattle.ipt_rules.specs.Marks.{is_marked}
use Rattle.ipt_rules.specs.Meets.{target_verdict, IsRuleDecider}
use Rattle.ipt_rules.proofs.WalkingLemmas.{none_returns}
use Rattle.ofp_rules.specs.declared.entry.Entry.{Entry}
use Rattle.ofp_rules.specs.declared.entry.Frame.{Frame}
use Rattle.ofp_rules.specs.declared.entry.Frame.TheVariants.{Ipv4}
use Rattle.ofp_rules.specs.Deciders.{IsEntryDecider}
use Rattle.rules_space.specs.Rules.{AnyRules, Chains, Entries, filter_of}
use Rattle.rules_space.specs.Verdicts.{GivesOne}
use Rattle.pass_core.proofs.DeadLemmas.{no_rules}
use Rattle.decide_core.specs.Deciders.{IsDecider}
use Rattle.decide_core.specs.inner.Classifying.{HasMarks, HasRule, chain_count, count_in, entry_place, unset_marks}

-- ---- whether a packet passes

passes_iff : (rules : AnyRules) (p : Packet) (b : Bool) → GivesOne (filter_of rules) → IsPacket p → filter_of rules New p b → (IsTrue b ↔ filter_of rules New p true)
passes_iff rules p b gives packet is = (
  λ on. subst (λ (x : Bool). filter_of rules New p x) on is,
  λ passes. let one = gives New p packet in one.2 b is ∙ sym (one.2 true passes),
)

pub passes_only : (rules others : AnyRules) (p : Packet) (b : Bool) → rules ≡ others → GivesOne (filter_of rules) → IsPacket p → filter_of rules New p b
    → (IsTrue b ↔ filter_of others New p true)
passes_only rules others p b same gives packet is = subst (λ (r : AnyRules). IsTrue b ↔ filter_of r New p true) same (passes_iff rules p b gives packet is)

-- ---- places of deciders

pub verdict_there : (rs : List Rule) (n : ℕ) (o : Option Rule) → slice_get rs n ≡ o → IsSome (option_and_then (λ r. target_verdict r.target) o) → n < length rs
verdict_there rs n None is some = cc
verdict_there rs n (Some r) is some = slice_get_within rs n r is

pub rule_there : (chains : List Chain) (p : Packet) (d : Option Place) → IsRuleDecider chains p New d → IfSome d (λ place. HasRule (Chains chains) place)
rule_there chains p None is = tt
rule_there chains p (Some place) is =
    verdict_there (rules_of chains place.chain) place.rule (slice_get (rules_of chains place.chain) place.rule) refl is.1

pub entry_there : (entries : List Entry) (frame : Frame) (d : Option ℕ) → IsEntryDecider entries frame d
    → IfSome (entry_place d) (λ place. HasRule (Entries entries) place)
entry_there entries frame None is = tt
entry_there entries frame (Some k) is = slice_get_within entries k is.entry is.there

pub entry_decides : (entries : List Entry) (p : Packet) (d : Option ℕ) → IsEntryDecider entries (Ipv4 p) d → IsDecider (Entries entries) p (entry_place d)
entry_decides entries p None is = is
entry_decides entries p (Some k) is = (refl, is)

same_entry : (place : Place) → place.chain ≡ 0 → Some place ≡ entry_place (Some place.rule)
same_entry place first = λ i. Some (record { chain = first i; rule = place.rule })

pub entry_only : (entries : List Entry) (p : Packet) (d : Option ℕ) → ((other : Option ℕ) → IsEntryDecider entries (Ipv4 p) other → other ≡ d)
    → (other : Option Place) → IsDecider (Entries entries) p other → other ≡ entry_place d
entry_only entries p d only None is = ap entry_place (only None is)
entry_only entries p d only (Some place) is = same_entry place is.0 ∙ ap entry_place (only (Some place.rule) is.1)

-- ---- marks, none of them set

abbrev unset_row : AnyRules → ℕ → List Bool
unset_row rules c = replicate (count_in rules c) false

pub unset_next : (rules : AnyRules) (n : ℕ) → unset_marks rules (n + 1) ≡ unset_marks rules n ++ unset_row rules n ∷ []
unset_next rules n = map-range_with_len_more (unset_row rules) 0 n n (omega arith)

get_row : (rules : AnyRules) (n c : ℕ) → c < n → slice_get (unset_marks rules n) c ≡ Some (unset_row rules c)
get_row rules n c low =
    let long = length-map-range_with_len (unset_row rules) 0 n in
    slice_get-get_or (unset_marks rules n) c [] (omega (arith, long, low))
    ∙ ap (λ (row : List Bool). Some row) (get_or-map-range_with_len (unset_row rules) 0 n c c [] low (omega arith))

no_row : (rules : AnyRules) (n c : ℕ) → n ≤ c → slice_get (unset_marks rules n) c ≡ None
no_row rules n c past = let long = length-map-range_with_len (unset_row rules) 0 n in slice_get_past (unset_marks rules n) c (omega (arith, long, past))

pub none_past : (rules : AnyRules) (c : ℕ) → chain_count rules ≤ c → count_in rules c ≡ 0
none_past (Chains chains) c past = no_rules chains c past
none_past (Entries entries) zero past = absurd (omega (arith, past))
none_past (Entries entries) (suc c) past = refl

pub unset_has : (rules : AnyRules) → HasMarks rules (unset_marks rules (chain_count rules))
unset_has rules c = elim (cases_lt c (chain_count rules)) [
  | inl low ↦ rw (get_row rules (chain_count rules) c low) (length-replicate (count_in rules c) false)
  | inr past ↦ rw (no_row rules (chain_count rules) c past) (sym (none_past rules c past))
]

pub unset_none : (rules : AnyRules) (n : ℕ) (place : Place) → is_marked (unset_marks rules n) place ≡ false
unset_none rules n place = elim (cases_lt place.chain n) [
  | inl low ↦ rw (get_row rules n place.chain low) (none_returns (count_in rules place.chain) place.rule)
  | inr past ↦ rw (no_row rules n place.chain past)
]
