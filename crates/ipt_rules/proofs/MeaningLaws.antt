-- A chain has at most one outcome from each index, hence a packet has at most one verdict.
use Rattle.std.proofs.Common.{◌≡◌, ℕ, List, Bool, refl, sym, ap, ◌∙◌, Option, Some, None, subst}
use Rattle.host_net.specs.declared.packet.Packet.{Packet}
use Rattle.host_net.specs.declared.packet.CtState.{CtState}
use Rattle.ipt_rules.specs.declared.rule.Rule.{Rule}
use Rattle.host_net.specs.declared.packet.Verdict.{Verdict}
use Rattle.ipt_rules.specs.Chain.{Chain, rules_of, policy_of}
use Rattle.ipt_rules.specs.Semantics.{RuleEffect, JumpsTo, Gives, at_end, goes_on, ends, decides, comes_back, verdict_by, HasVerdictIn}

same_walked : {s : RuleEffect} {c d : ℕ} → s ≡ JumpsTo c → s ≡ JumpsTo d → c ≡ d
same_walked p q = cc

pub gives_once : {fits : Rule → Bool} {chains : List Chain} {rs : List Rule} {o o' : Option Verdict} → Gives fits chains rs o → Gives fits chains rs o' → o ≡ o'
gives_once at_end at_end = refl
gives_once (goes_on s g) (goes_on s' g') = gives_once g g'
gives_once (goes_on s g) (ends s') = cc
gives_once (goes_on s g) (decides s' h') = cc
gives_once (goes_on s g) (comes_back s' h' g') = cc
gives_once (ends s) (goes_on s' g') = cc
gives_once (ends s) (ends s') = cc
gives_once (ends s) (decides s' h') = cc
gives_once (ends s) (comes_back s' h' g') = cc
gives_once (decides s h) (goes_on s' g') = cc
gives_once (decides s h) (ends s') = cc
gives_once {fits} {chains} (decides {v} s h) (decides {v = v'} s' h') =
    gives_once h (subst (λ (c : ℕ). Gives fits chains (rules_of chains c) (Some v')) (same_walked s' s) h')
gives_once {fits} {chains} (decides {v} s h) (comes_back s' h' g') =
    let e : Some v ≡ None = gives_once h (subst (λ (c : ℕ). Gives fits chains (rules_of chains c) None) (same_walked s' s) h') in cc
gives_once (comes_back s h g) (goes_on s' g') = cc
gives_once (comes_back s h g) (ends s') = cc
gives_once {fits} {chains} (comes_back s h g) (decides {v} s' h') =
    let e : None ≡ Some v = gives_once h (subst (λ (c : ℕ). Gives fits chains (rules_of chains c) (Some v)) (same_walked s' s) h') in cc
gives_once (comes_back s h g) (comes_back s' h' g') = gives_once g g'

pub verdict_once : {chains : List Chain} {c : ℕ} {packet : Packet} {state : CtState} {v w : Verdict} → HasVerdictIn chains c packet state v → HasVerdictIn chains c packet state w → v ≡ w
verdict_once {chains} {c} p q =
    p.verdict ∙ (ap (verdict_by (policy_of chains c)) (gives_once p.gives q.gives) ∙ sym q.verdict)
