-- One step of a loop over hosts: the remaining rules before it, and after it.
use Rattle.std.proofs.Common.{◌≡◌, ℕ, ◌+◌, zero, suc, List, [], ◌∷◌, ◌++◌, Some, drop, length, refl, sym, ap, ◌∙◌, append_assoc, arith}
use Rattle.std.specs.Prelude.{slice_get, option_map}
use Rattle.std.specs.List.{flat_map}
use Rattle.std.proofs.lemmas.List.{drop_all}
use Rattle.host_net.specs.declared.prefix.Prefix.{Prefix}
use Rattle.host_net.specs.Host.{Host}
use Rattle.ipt_rules.specs.declared.rule.Rule.{Rule}
use Rattle.emit_core.specs.Layout.{for_each_prefix}

pub drop_here : (hosts : List Host) (i : ℕ) (qs : List Prefix) → option_map (λ h. h.prefixes) (slice_get hosts i) ≡ Some qs
    → (h : Host) × (drop i hosts ≡ h ∷ drop (i + 1) hosts) × (qs ≡ h.prefixes)
drop_here [] i qs here = cc
drop_here (h ∷ hs) zero qs here = (h, refl, cc)
drop_here (h ∷ hs) (suc i) qs here =
    let step : suc i + 1 ≡ suc (i + 1) = omega arith in
    let found = drop_here hs i qs here in
    (found.0, found.1 ∙ sym (ap (λ (n : ℕ). found.0 ∷ drop n (h ∷ hs)) step), found.2)

-- The remaining rules for host i and those after it begin with its prefixes.
pub for_each_more : (written : ℕ → Prefix → List Rule) (hosts : List Host) (i : ℕ) (qs : List Prefix)
    → option_map (λ h. h.prefixes) (slice_get hosts i) ≡ Some qs
    → for_each_prefix written i (drop i hosts) ≡ flat_map (written i) qs ++ for_each_prefix written (i + 1) (drop (i + 1) hosts)
for_each_more written hosts i qs here =
    let found = drop_here hosts i qs here in
    ap (for_each_prefix written i) found.1
    ∙ ap (λ (x : List Prefix). flat_map (written i) x ++ for_each_prefix written (i + 1) (drop (i + 1) hosts)) (sym found.2)

-- After the last host no entry remains.
pub for_each_all : (written : ℕ → Prefix → List Rule) (hosts : List Host) (i : ℕ) → i ≡ length hosts
    → for_each_prefix written i (drop i hosts) ≡ []
for_each_all written hosts i is = ap (for_each_prefix written i) (drop_all i hosts (omega arith))

-- Writing the rules for host i: the remaining rules before are these rules, followed by the remaining rules now.
pub grow_each : (written : ℕ → Prefix → List Rule) (hosts : List Host) (i : ℕ) (qs : List Prefix) (old new whole : List Rule)
    → option_map (λ h. h.prefixes) (slice_get hosts i) ≡ Some qs
    → old ++ for_each_prefix written i (drop i hosts) ≡ whole
    → new ≡ old ++ flat_map (written i) qs
    → new ++ for_each_prefix written (i + 1) (drop (i + 1) hosts) ≡ whole
grow_each written hosts i qs old new whole here before step =
    ap (λ (x : List Rule). x ++ for_each_prefix written (i + 1) (drop (i + 1) hosts)) step
    ∙ append_assoc old (flat_map (written i) qs) (for_each_prefix written (i + 1) (drop (i + 1) hosts))
    ∙ ap (λ (x : List Rule). old ++ x) (sym (for_each_more written hosts i qs here))
    ∙ before
