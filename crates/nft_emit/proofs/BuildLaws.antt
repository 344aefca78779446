-- Chains that are added one after the other.
use Rattle.std.proofs.Common.{◌≡◌, inl, inr, ℕ, ◌+◌, ◌<◌, ◌≤◌, ◌^◌, zero, suc, List, [], ◌∷◌, ◌++◌, Some, map, length, refl, sym, subst, ◌∙◌, arith}
use Rattle.std.specs.Prelude.{decimal, slice_get}
use Rattle.std.specs.Option.{option_map_or}
use Rattle.std.proofs.lemmas.Option.{slice_get_within}
use Rattle.host_net.specs.Host.{Host}
use Rattle.host_net.specs.inner.Hosts.{IsHosts}
use Rattle.nft_rules.specs.declared.table.Chain.{Chain}
use Rattle.nft_rules.specs.declared.table.MatchRule.{MatchRule}
use Rattle.nft_rules.specs.declared.table.Rule.{Rule}
use Rattle.nft_rules.specs.declared.table.Rule.TheVariants.{Match}
use Rattle.nft_rules.specs.Loadable.{AreDistinct, AreNamed, AreRules, IsChainName, LeadsBelow}
use Rattle.nft_emit.specs.LayoutNames.{HaveLayoutNames, IsLayoutName}
use Rattle.nft_emit.specs.inner.Building.{AreAccepting, AreBuilt, Extends, HasName, HasRules, sender_name, services_name}
use Rattle.nft_emit.proofs.NameLaws.{kinds_differ, sender_named, senders_differ, services_differ, services_named}

-- 1. Lists that grow at the end.

pub extends_same : (xs : List Chain) → Extends xs xs
extends_same xs = λ c x at. at

pub extends_more : (xs ys zs : List Chain) → Extends xs ys → Extends ys zs → Extends xs zs
extends_more xs ys zs first second = λ c x at. second c x (first c x at)

pub extends_push : (xs ys : List Chain) → Extends xs (xs ++ ys)
extends_push [] ys c x at = cc
extends_push (z ∷ xs) ys zero x at = at
extends_push (z ∷ xs) ys (suc c) x at = extends_push xs ys c x at

pub at_end : {A : Type 0} (xs : List A) (x : A) → slice_get (xs ++ x ∷ []) (length xs) ≡ Some x
at_end [] x = refl
at_end (y ∷ xs) x = at_end xs x

pub pushed_at : {A : Type 0} (P : ℕ → A → Type 0) (xs : List A) (x : A) → ((j : ℕ) (y : A) → slice_get xs j ≡ Some y → P j y) → P (length xs) x
    → (j : ℕ) (y : A) → slice_get (xs ++ x ∷ []) j ≡ Some y → P j y
pushed_at P [] x each last zero y at = let same : x ≡ y = cc in subst (P 0) same last
pushed_at P [] x each last (suc j) y at = cc
pushed_at P (z ∷ xs) x each last zero y at = each 0 y at
pushed_at P (z ∷ xs) x each last (suc j) y at = pushed_at (λ k. P (suc k)) xs x (λ k. each (suc k)) last j y at

pub has_rules_more : (old new : List Chain) (c : ℕ) (rules : List Rule) → Extends old new → HasRules old c rules → HasRules new c rules
has_rules_more old new c rules more has = record { chain = has.chain; there = more c has.chain has.there; rules_are = has.rules_are }

pub has_rules_pushed : (xs : List Chain) (x : Chain) (rules : List Rule) → x.rules.items ≡ rules → HasRules (xs ++ x ∷ []) (length xs) rules
has_rules_pushed xs x rules is = record { chain = x; there = at_end xs x; rules_are = is }

-- 2. Another chain.

-- The name is new.
abbrev pub IsNew : List Chain → List ℕ → Type 0
IsNew xs name = (c : ℕ) (y : Chain) → slice_get xs c ≡ Some y → y.name.items ≡ name → ⊥

pub distinct_push : (xs : List Chain) (x : Chain) → AreDistinct xs → IsNew xs x.name.items → AreDistinct (xs ++ x ∷ [])
distinct_push xs x distinct new = λ c d y z at there same.
    pushed_at (λ i u. (j : ℕ) (w : Chain) → slice_get (xs ++ x ∷ []) j ≡ Some w → u.name.items ≡ w.name.items → i ≡ j) xs x
    (λ i u here. pushed_at (λ j w. u.name.items ≡ w.name.items → i ≡ j) xs x (λ j w later. distinct i j u w here later) (λ equal. absurd (new i u here equal)))
    (pushed_at (λ j w. x.name.items ≡ w.name.items → length xs ≡ j) xs x (λ j w later equal. absurd (new j w later (sym equal))) (λ equal. refl))
    c y at d z there same

has_name_more : (hosts : List Host) (from to c : ℕ) (name : List ℕ) → from ≤ to → HasName hosts from c name → HasName hosts to c name
has_name_more hosts from to c name low (inl is) = inl is
has_name_more hosts from to c name low (inr found) = inr (found.0, omega (arith, found.1, low), found.2)

built_push : (hosts : List Host) (from to : ℕ) (xs : List Chain) (x : Chain) → from ≤ to → AreBuilt hosts from xs → IsNew xs x.name.items
    → AreRules (length xs) x.rules.items → HasName hosts to (length xs) x.name.items → AreBuilt hosts to (xs ++ x ∷ [])
built_push hosts from to xs x low built new rules named = record {
  back = pushed_at (λ c y. AreRules c y.rules.items) xs x built.back rules;
  named = pushed_at (λ c y. HasName hosts to c y.name.items) xs x (λ c y at. has_name_more hosts from to c y.name.items low (built.named c y at)) named;
  distinct = distinct_push xs x built.distinct new;
}

-- The name of a chain for services is new, since its index is.
services_new : (hosts : List Host) (from n c : ℕ) (name : List ℕ) → c < n → n < 2 ^ 32 → HasName hosts from c name → name ≡ services_name n → ⊥
services_new hosts from n c name below low (inl is) same =
    let one = services_differ c n (omega (arith, below, low)) low (sym is ∙ same) in omega (arith, one, below)
services_new hosts from n c name below low (inr found) same = kinds_differ hosts found.0 n (sym found.2 ∙ same)

accepting_loads : (n : ℕ) (rs : List MatchRule) → AreAccepting rs → AreRules n (map Match rs)
accepting_loads n [] are = tt
accepting_loads n (r ∷ rs) are = ((are.1, subst (LeadsBelow n) (sym are.0) tt), accepting_loads n rs are.2)

pub class_built : (xs : List Chain) (x : Chain) (rs : List MatchRule) → length xs < 2 ^ 32 → AreAccepting rs → x.rules.items ≡ map Match rs
    → x.name.items ≡ services_name (length xs) → (hosts : List Host) (from : ℕ) → AreBuilt hosts from xs → AreBuilt hosts from (xs ++ x ∷ [])
class_built xs x rs low are is named hosts from built =
    built_push hosts from from xs x (omega arith) built
    (λ c y at same. services_new hosts from (length xs) c y.name.items (slice_get_within xs c y at) low (built.named c y at) (same ∙ named))
    (subst (AreRules (length xs)) (sym is) (accepting_loads (length xs) rs are))
    (inl named)

-- The name of the chain of a sender is new, since its host is.
sender_new : (hosts : List Host) (from c : ℕ) (name : List ℕ) → IsHosts hosts → from < length hosts → HasName hosts from c name → name ≡ sender_name hosts from → ⊥
sender_new hosts from c name are low (inl is) same = kinds_differ hosts from c (sym same ∙ is)
sender_new hosts from c name are low (inr found) same =
    let one = senders_differ hosts found.0 from are (omega (arith, found.1, low)) low (sym found.2 ∙ same) in omega (arith, one, found.1)

pub sender_built : (hosts : List Host) (from : ℕ) (xs : List Chain) (x : Chain) → IsHosts hosts → from < length hosts → AreBuilt hosts from xs
    → AreRules (length xs) x.rules.items → x.name.items ≡ sender_name hosts from → AreBuilt hosts (from + 1) (xs ++ x ∷ [])
sender_built hosts from xs x are low built rules named =
    built_push hosts from (from + 1) xs x (omega arith) built
    (λ c y at same. sender_new hosts from c y.name.items are low (built.named c y at) (same ∙ named))
    rules (inr (from, omega arith, named))

-- 3. No chains, and all names.

pub none_built : (hosts : List Host) → AreBuilt hosts 0 []
none_built hosts = record { back = λ c x at. cc; named = λ c x at. cc; distinct = λ c d x y at there same. cc }

name_valid : (hosts : List Host) (c : ℕ) (name : List ℕ) → IsHosts hosts → c < 2 ^ 32 → HasName hosts (length hosts) c name → IsChainName name
name_valid hosts c name are low (inl is) = subst IsChainName (sym is) (services_named c low)
name_valid hosts c name are low (inr found) = subst IsChainName (sym found.2) (sender_named hosts found.0 are found.1)

pub built_named : (hosts : List Host) (xs : List Chain) → IsHosts hosts → length xs < 2 ^ 32 → AreBuilt hosts (length hosts) xs → AreNamed xs
built_named hosts xs are few built c x at =
    let below = slice_get_within xs c x at in
    name_valid hosts c x.name.items are (omega (arith, below, few)) (built.named c x at)

layout_name : (hosts : List Host) (from c : ℕ) (name : List ℕ) → HasName hosts from c name → IsLayoutName name
layout_name hosts from c name (inl is) = inl (decimal c, is)
layout_name hosts from c name (inr found) = inr (option_map_or (λ h. h.name) (slice_get hosts found.0) [], found.2)

pub built_names : (hosts : List Host) (from : ℕ) (xs : List Chain) → AreBuilt hosts from xs → HaveLayoutNames xs
built_names hosts from xs built c x at = layout_name hosts from c x.name.items (built.named c x at)

-- 4. Equal rules.

pub same_rules : (rules : List Rule) (wanted : List MatchRule) → length rules ≡ length wanted
    → ((j : ℕ) (r : MatchRule) → slice_get wanted j ≡ Some r → slice_get rules j ≡ Some (Match r)) → rules ≡ map Match wanted
same_rules [] [] long each = refl
same_rules [] (w ∷ wanted) long each = absurd (omega (arith, long))
same_rules (r ∷ rules) [] long each = absurd (omega (arith, long))
same_rules (r ∷ rules) (w ∷ wanted) long each =
    let here : Some r ≡ Some (Match w) = each 0 w refl in
    let same : r ≡ Match w = cc in
    (λ k. same k ∷ same_rules rules wanted (omega (arith, long)) (λ j x at. each (suc j) x at) k)
