-- Laws of offences, invariant by invariant.
use Rattle.std.proofs.Common.{◌≡◌, ℕ, ◌+◌, List, [], ◌∷◌, ◌++◌, map, Option, None, Some, refl, sym, ◌∙◌, ap, subst, arith}
use Rattle.std.specs.Prelude.{All, IfSome}
use Rattle.std.specs.List.{range_with_len}
use Rattle.std.specs.Option.{ForSome}
use Rattle.std.proofs.lemmas.List.{map_push}
use Rattle.std.proofs.lemmas.List.Elements.{All-push}
use Rattle.flow_set.specs.Conditions.{IsMinimalOffending}
use Rattle.flow_set.specs.FlowSet.{SetOfFlows}
use Rattle.flow_set.specs.declared.flow.Flow.{Flow}
use Rattle.flow_set.specs.inner.FlowSetView.{IsFlowSet}
use Rattle.flow_set.proofs.SubsetLaws.{IsFlowSet-subset}
use Rattle.net_core.specs.Network.{Network}
use Rattle.why_json.specs.Offences.{IsViolationOf}
use Rattle.why_json.specs.declared.offence.Offence.{Offence}
use Rattle.why_json.specs.inner.Fitting.{FitsOffence}
use Rattle.json_core.proofs.ArrayLaws.{range_next}

-- The offences of the first invariants, so many of them.
pub record AreFound (d : Network) (count : ℕ) (offences : List Offence) : Type 0 where
  pub numbers : map (λ offence. offence.number) offences ≡ range_with_len 0 count
  pub each : All (IsViolationOf d) offences
  pub fit : All (FitsOffence d) offences

pub found_none : (d : Network) → AreFound d 0 []
found_none d = record { numbers = refl; each = λ k x below. absurd (omega (arith, below)); fit = λ k x below. absurd (omega (arith, below)) }

pub found_next : (d : Network) (count : ℕ) (offences : List Offence) (x : Offence) → AreFound d count offences → x.number ≡ count → IsViolationOf d x → FitsOffence d x
    → AreFound d (count + 1) (offences ++ x ∷ [])
found_next d count offences x found number is fits = record {
  numbers =
      map_push (λ (y : Offence). y.number) offences x
      ∙ ap (λ (ns : List ℕ). ns ++ x.number ∷ []) found.numbers
      ∙ ap (λ (n : ℕ). range_with_len 0 count ++ n ∷ []) number
      ∙ sym (range_next count);
  each = All-push (IsViolationOf d) offences x found.each is;
  fit = All-push (FitsOffence d) offences x found.fit fits;
}

-- A minimal offending set of the requested flows is a set of flows between the hosts.
pub offending_fit : (n : ℕ) (Holds : List Flow → Type 0) (asked : List Flow) (o : Option SetOfFlows) → IsFlowSet n asked
    → IfSome o (λ f. IsMinimalOffending Holds asked f.flows) → ForSome o (λ f. IsFlowSet n f.flows)
offending_fit n Holds asked None set minimal = λ x is. cc is
offending_fit n Holds asked (Some f) set minimal = λ x is.
    let same : f ≡ x = cc is in
    subst (λ (s : SetOfFlows). IsFlowSet n s.flows) same (IsFlowSet-subset n f.flows asked set minimal.within)
