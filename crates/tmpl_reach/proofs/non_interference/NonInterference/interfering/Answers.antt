use Rattle.std.proofs.Common.{◌≡◌, ℕ, nat_cmp, nat_eq, ◌||◌, ◌+◌, ◌<◌, ◌↔◌, inl, inr, ◌∙◌, sym, ap, arith, subst}
use Rattle.std.specs.Prelude.{IsTrue}
use Rattle.std.proofs.lemmas.Bool.{both_ways, cases_eq, eq-eqb, eqb-true, false≢true, or_cases, or_left, or_right}
use Rattle.std.specs.FinSet as set
use Rattle.flow_set.specs.HostSet.{HostNumbers}
use Rattle.flow_set.specs.laws.HostSetLaws.{contains-insert}
use Rattle.tmpl_reach.specs.NonInterference.{IsInterfering}
use Rattle.tmpl_reach.proofs.non_interference.NonInterference.interfering.Goals as goal
use Rattle.tmpl_reach.proofs.non_interference.NonInterference.interfering.Goals.{then-interferes, else-interferes}

-- The next host is inserted.
one_more : (hosts new : HostNumbers) (Marked : ℕ → Type 0) (host : ℕ) → new ≡ set.insert hosts host → Marked host
    → ((j : ℕ) → IsTrue (set.contains hosts j) ↔ ((j < host) × Marked j)) → (j : ℕ)
    → IsTrue (set.contains new j) ↔ ((j < host + 1) × Marked j)
one_more hosts new Marked host is marked sofar j =
    let shown : set.contains new j ≡ (nat_eq j host || set.contains hosts j) = ap (λ (s : HostNumbers). set.contains s j) is ∙ contains-insert hosts host j in (
      λ there. elim (or_cases (nat_eq j host) (set.contains hosts j) (sym shown ∙ there)) [
        | inl same ↦ let last : j ≡ host = eqb-true j host same in (omega (arith, last), subst Marked (sym last) marked)
        | inr earlier ↦ let (below, other) = (sofar j).0 earlier in (omega (arith, below), other)
      ],
      λ (below, other). shown ∙ elim (cases_eq j host) [
        | inl last ↦ or_left _ _ (eq-eqb j host last)
        | inr earlier ↦ or_right _ _ ((sofar j).1 (omega (arith, below, earlier), other))
      ],
    )

-- Or it is skipped.
none_more : (hosts new : HostNumbers) (Marked : ℕ → Type 0) (host : ℕ) → new ≡ hosts → (Marked host → ⊥)
    → ((j : ℕ) → IsTrue (set.contains hosts j) ↔ ((j < host) × Marked j)) → (j : ℕ)
    → IsTrue (set.contains new j) ↔ ((j < host + 1) × Marked j)
none_more hosts new Marked host is unmarked sofar j =
    let shown : set.contains new j ≡ set.contains hosts j = ap (λ (s : HostNumbers). set.contains s j) is in (
      λ there. let (below, other) = (sofar j).0 (sym shown ∙ there) in (omega (arith, below), other),
      λ (below, other). elim (cases_eq j host) [
        | inl last ↦ absurd (unmarked (subst Marked last other))
        | inr earlier ↦ shown ∙ (sofar j).1 (omega (arith, below, earlier), other)
      ],
    )

pub loop-host-init : goal.loop-host-init
loop-host-init c j = (
  λ there. absurd (false≢true (sym (ap (λ (s : HostNumbers). set.contains s j) c.empty-hosts.ensures ∙ set.contains-empty nat_cmp j) ∙ there)),
  λ (below, other). absurd (omega (arith, below)),
)

pub loop-host-preserved : goal.loop-host-preserved
loop-host-preserved c =
    let host : ℕ = c.loop-host.host in
    elim c.if-interferes.branch [
      | then-interferes w ↦ one_more c.loop-host.hosts c.if-interferes.hosts (IsInterfering c.args.self.now) host (w.hosts-is ∙ w.insert.ensures) (c.interferes.ensures.0 w.if-interferes.true) c.loop-host.invariant
      | else-interferes w ↦ none_more c.loop-host.hosts c.if-interferes.hosts (IsInterfering c.args.self.now) host w.hosts-is (λ marked. both_ways _ w.if-interferes.false (c.interferes.ensures.1 marked)) c.loop-host.invariant
    ]
