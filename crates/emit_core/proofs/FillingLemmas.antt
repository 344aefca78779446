-- Chains while rules are added to one of them, and when all its rules are added.
use Rattle.std.proofs.Common.{◌≡◌, ℕ, ◌+◌, ◌^◌, ◌<◌, List, [], ◌∷◌, ◌++◌, Option, None, length, drop, get_or, take, refl, sym, ap, subst, ◌∙◌, arith, append_assoc}
use Rattle.std.specs.Prelude.{IsNone}
use Rattle.std.proofs.lemmas.List.{append-nil, at_drop_more, take_more}
use Rattle.host_net.specs.Host.{Host}
use Rattle.pkt_core.specs.FlowPolicy.{FlowPolicy}
use Rattle.ipt_rules.specs.declared.rule.Rule.{Rule}
use Rattle.ipt_rules.specs.declared.rule.Policy.TheVariants.{Drop as Dropping}
use Rattle.ipt_rules.specs.Chain.{Chain, built_in_chains, with_policy, with_rule, number_of}
use Rattle.ipt_rules.specs.ChainTable.{rule_count}
use Rattle.ipt_rules.proofs.ChainLaws.{length_with_rule, rule_count_with_rule}
use Rattle.emit_core.specs.Layout.{entry_chains, forward_rules, host_chain_name}
use Rattle.emit_core.proofs.LayoutLaws.{name_unused}
use Rattle.emit_core.specs.inner.Filling.{with_rules, chains_up_to}
use Rattle.emit_core.proofs.FillingLaws.{with_rules-changed}

-- Some of the rules are added.
pub record IsFilling (c : ℕ) (rules : List Rule) (start now : List Chain) (done : ℕ) : Type 0 where
  pub left : with_rules now c (drop done rules) ≡ with_rules start c rules
  pub led : now ≡ with_rules start c (take done rules)
  pub counted : rule_count now ≡ rule_count start + done
  pub kept : length now ≡ length start

with_rules-then : (xs : List Chain) (c : ℕ) (rules : List Rule) (r : Rule) → with_rules xs c (rules ++ r ∷ []) ≡ with_rule (with_rules xs c rules) c r
with_rules-then xs c [] r = refl
with_rules-then xs c (x ∷ rules) r = with_rules-then (with_rule xs c x) c rules r

-- One more rule is added.
pub filling_more : (c : ℕ) (rules : List Rule) (start old new : List Chain) (done : ℕ) (rule : Rule)
    → done < length rules → rule ≡ get_or rules done rule → c < length start → new ≡ with_rule old c rule
    → IsFilling c rules start old done → IsFilling c rules start new (done + 1)
filling_more c rules start old new done rule below read there added before = record {
  left = ap (λ (x : List Chain). with_rules x c (drop (done + 1) rules)) (added ∙ ap (with_rule old c) read)
      ∙ sym (at_drop_more (with_rules old c) rules done rule below)
      ∙ before.left;
  led = added
      ∙ ap (λ (xs : List Chain). with_rule xs c rule) before.led
      ∙ sym (with_rules-then start c (take done rules) rule)
      ∙ ap (λ (rs : List Rule). with_rules start c rs)
      (ap (λ (r : Rule). take done rules ++ r ∷ []) read ∙ sym (take_more rules done rule below));
  counted = let kept = before.kept in let counted = before.counted in
      omega (arith, ap rule_count added, rule_count_with_rule old c rule (omega arith));
  kept = let kept = before.kept in omega (arith, ap length added, length_with_rule old c rule);
}

with_rule-last : (xs : List Chain) (x : Chain) (rule : Rule)
    → with_rule (xs ++ x ∷ []) (length xs) rule ≡ xs ++ record x { rules = x.rules ++ rule ∷ [] } ∷ []
unfolding with_rule
with_rule-last [] x rule = refl
with_rule-last (y ∷ xs) x rule = ap (λ (ys : List Chain). y ∷ ys) (with_rule-last xs x rule)

-- The rules are at the end of the last chain.
pub with_rules-last : (xs : List Chain) (x : Chain) (rules : List Rule)
    → with_rules (xs ++ x ∷ []) (length xs) rules ≡ xs ++ record x { rules = x.rules ++ rules } ∷ []
with_rules-last xs x [] = ap (λ (rs : List Rule). xs ++ record x { rules = rs } ∷ []) (sym (append-nil x.rules))
with_rules-last xs x (r ∷ rs) =
    ap (λ (ys : List Chain). with_rules ys (length xs) rs) (with_rule-last xs x r)
    ∙ with_rules-last xs (record x { rules = x.rules ++ r ∷ [] }) rs
    ∙ ap (λ (all : List Rule). xs ++ record x { rules = all } ∷ []) (append_assoc x.rules (r ∷ []) rs)

-- The built-in chains, of which FORWARD drops, have no rules yet.
pub no_rules_yet : (start : List Chain) → start ≡ with_policy built_in_chains 1 Dropping → (length start ≡ 3) × (rule_count start ≡ 0)
unfolding with_policy
no_rules_yet start started = (ap length started, ap rule_count started)

-- The built-in chains, with the rules of FORWARD.
pub forward_filled : (hosts : List Host) (start : List Chain) (rules : List Rule)
    → start ≡ with_policy built_in_chains 1 Dropping → rules ≡ forward_rules hosts
    → with_rules start 1 rules ≡ entry_chains hosts
unfolding with_policy
forward_filled hosts start rules started all =
    rw (started, all) (with_rules-changed (with_policy built_in_chains 1 Dropping) 1 (forward_rules hosts))

none_is : {A : Type 0} (o : Option A) → o ≡ None → IsNone o
none_is o is = rw is refl

-- The name of a host's chain is unused before the chain is added.
pub unused : (policy : FlowPolicy) (i : ℕ) (chains : List Chain)
    → chains ≡ chains_up_to policy i → i < 2 ^ 16 → IsNone (number_of chains (host_chain_name i))
unused policy i chains before fits =
    subst (λ (x : List Chain). IsNone (number_of x (host_chain_name i))) (sym before) (none_is _ (name_unused policy i fits))
