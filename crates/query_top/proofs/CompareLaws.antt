-- The outcomes of `compare`: differences or agreement, never both, and one text of each.
use Rattle.std.proofs.Common.{◌≡◌, ◌↔◌, inl, inr, ℕ, List, [], ◌∷◌, true, refl, ap, sym, subst, ◌∙◌}
use Rattle.audit_core.proofs.ExpectedLaws.{no_difference_where_expected}
use Rattle.audit_core.proofs.SameLaws.{alike_where_none, somewhere}
use Rattle.audit_core.proofs.PairLaws.{first_is, one_list_of_differences}
use Rattle.audit_core.specs.Findings.{DifferSomewhere}
use Rattle.audit_core.specs.Pairs.{AreDifferences, Case, IsComplete, IsDifference, all_cases}
use Rattle.header_space.specs.Owners.{owners_of}
use Rattle.rules_space.specs.Rules.{AnyRules, filter_of}
use Rattle.audit_core.specs.Sides.{AreEquivalent}
use Rattle.rules_space.specs.Verdicts.{GivesOne}
use Rattle.audit_core.specs.declared.difference.Difference.{Difference}
use Rattle.net_core.proofs.PolicyLaws.{IsSubset-stateful}
use Rattle.net_core.specs.Network.{Network}
use Rattle.net_core.specs.Policies.{IsPolicyOf, Policy}
use Rattle.compare_json.proofs.CompareLaws.{equal_text}
use Rattle.compare_json.specs.CompareJson.{compare_json}
use Rattle.pkt_core.specs.Firewall.{Filter}
use Rattle.run_core.specs.Filters.{AreEquivalentFilters}
use Rattle.query_top.specs.Compare.{ReportsDifferences, compare_outcomes, equal_json}
use Rattle.query_top.specs.inner.Replies.{differences_reply}
use Rattle.run_core.proofs.OfPolicyLaws.{forwards_for, sides_for, sides_moved}
use Rattle.run_core.proofs.OutcomesLaws.{IsSettled}
use Rattle.run_core.specs.OfPolicy.{OfSides}
use Rattle.run_core.specs.Outcomes.{Answers}
use Rattle.run_core.specs.Reply.{Reply}
use Rattle.run_core.specs.declared.status.Status.TheVariants.{Done, Violated}
use Rattle.run_core.specs.declared.status.Stream.TheVariants.{Output}
use Rattle.run_core.specs.inner.Views.{reply_on}

module _ (d : Network) (rules : AnyRules) where
  -- Differences are reported in one text.
  text_is_one : (a b : List ℕ) → OfSides d rules (λ sides. ReportsDifferences sides a) → OfSides d rules (λ sides. ReportsDifferences sides b) → a ≡ b
  text_is_one a b p q =
      let first = sides_moved d rules (λ sides. ReportsDifferences sides a) (λ sides. ReportsDifferences sides b) p q in
      let second = q.so in
      let sides = sides_for d rules q.policy in
      first.written
      ∙ ap (λ ds. compare_json sides.policy.site.hosts ds) (one_list_of_differences sides first.differences second.differences first.are second.are)
      ∙ sym second.written

  differ_or_agree : OfSides d rules DifferSomewhere → OfSides d rules AreEquivalent → ⊥
  differ_or_agree differ agree =
      no_difference_where_expected (sides_for d rules agree.policy) agree.so (sides_moved d rules DifferSomewhere AreEquivalent differ agree)

  pub settled_comparison : (filter : Filter) → AreEquivalentFilters (filter_of rules) filter → IsSettled (compare_outcomes d filter rules)
  settled_comparison filter alike = record {
    owed = (
      record { status = refl; one = text_is_one; guarantees = λ now text is. (is, alike) },
      (record { status = refl; one = λ a b p q. p ∙ sym q; guarantees = λ now text is. (forwards_for d rules filter alike now, is) }, tt),
    );
    apart = ((differ_or_agree, tt), (tt, tt));
  }

-- ---- what the code answers

module _ (d : Network) (rules : AnyRules) (policy : Policy) (is_policy : IsPolicyOf d policy) (gives : GivesOne (filter_of rules)) where
  ends_equal : (reply : Reply) → (DifferSomewhere (sides_for d rules policy) → ⊥) → reply ≡ reply_on Done Output equal_json
      → Answers true (compare_outcomes d (filter_of rules) rules) reply
  ends_equal reply none is =
      subst (λ (r : Reply). Answers true (compare_outcomes d (filter_of rules) rules) r) (sym is) (
        refl,
        inr (inl (
          refl,
          record {
            policy = policy;
            is_policy = is_policy;
            so = alike_where_none (sides_for d rules policy) gives (IsSubset-stateful d policy.permitted.flows policy.stateful.flows is_policy.stateful) none;
          },
          refl,
        )),
      )

  ends_different : (reply : Reply) (ds : List Difference) → AreDifferences (sides_for d rules policy) ds → IsComplete (sides_for d rules policy) ds
      → (ds ≡ [] → ⊥) → DifferSomewhere (sides_for d rules policy) → reply ≡ reply_on Violated Output (compare_json d.hosts ds)
      → Answers true (compare_outcomes d (filter_of rules) rules) reply
  ends_different reply ds are complete some differ is =
      subst (λ (r : Reply). Answers true (compare_outcomes d (filter_of rules) rules) r) (sym is) (
        refl,
        inl (
          refl,
          record { policy = policy; is_policy = is_policy; so = differ },
          record { policy = policy; is_policy = is_policy; so = record { differences = ds; are = are; complete = complete; some = some; written = refl } },
        ),
      )

  some : (x : Difference) (ds : List Difference) → x ∷ ds ≡ [] → ⊥
  some x ds is = cc

  -- The first difference is at a list of packets.
  differ_first : (x : Difference) (ds : List Difference) → AreDifferences (sides_for d rules policy) (x ∷ ds) → DifferSomewhere (sides_for d rules policy)
  differ_first x ds are =
      let sides = sides_for d rules policy in
      at (first_is sides (all_cases (owners_of sides.policy.site.hosts) (owners_of sides.policy.site.hosts)) x ds are)
    where
      at : (c : Case) × IsDifference (sides_for d rules policy) c x → DifferSomewhere (sides_for d rules policy)
      at first =
          somewhere (sides_for d rules policy) gives (IsSubset-stateful d policy.permitted.flows policy.stateful.flows is_policy.stateful)
          first.1.packet first.1.of_pair.packet (first.0.kind, first.0.forwards, first.1.differs)

  pub ends_compared : (reply : Reply) (ds : List Difference) → AreDifferences (sides_for d rules policy) ds → IsComplete (sides_for d rules policy) ds
      → ((ds ≡ []) ↔ (DifferSomewhere (sides_for d rules policy) → ⊥)) → reply ≡ differences_reply d.hosts ds
      → Answers true (compare_outcomes d (filter_of rules) rules) reply
  ends_compared reply [] are complete exact is = ends_equal reply (exact.0 refl) (is ∙ ap (reply_on Done Output) (equal_text d.hosts))
  ends_compared reply (x ∷ ds) are complete exact is = ends_different reply (x ∷ ds) are complete (some x ds) (differ_first x ds are) is
