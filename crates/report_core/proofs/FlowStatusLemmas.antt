-- Concatenation of texts that report the status of flows.
use Rattle.std.proofs.Common.{◌≡◌, ℕ, zero, suc, ◌+◌, length, List, [], ◌∷◌, ◌++◌, inl, inr, refl, sym, ◌∙◌, ap, subst, arith, append_assoc, append-nil, add-one}
use Rattle.std.specs.List.{AllZip, flat_map, range_with_len}
use Rattle.std.specs.Prelude.{IsTrue}
use Rattle.std.proofs.lemmas.Bool.{both_ways}
use Rattle.std.proofs.lemmas.Bool.Decides.{nat_tests}
use Rattle.std.proofs.lemmas.Option.{slice_get_within}
use Rattle.net_core.specs.Network.{Network}
use Rattle.flow_set.specs.EveryFlow.{every_flow, flow_or_none}
use Rattle.flow_set.specs.FlowSet.{has, with_flow}
use Rattle.flow_set.specs.declared.flow.Flow.{Flow}
use Rattle.net_core.specs.Policies.{IsPolicyOf, Policy, holds_on}
use Rattle.net_core.proofs.PolicyLaws.{IsSubset-stateful}
use Rattle.permit_core.specs.Policy.{IsFirstFailing}
use Rattle.report_core.specs.inner.Growing.{Grows}
use Rattle.report_core.specs.PolicyReport.{IsPolicyReport, IsFlowStatus, ruling_line, policy_text, FlowStatus, Answered, Allowed, NotAsked, Denied}
use Rattle.report_core.specs.inner.FlowStatusView.{IsWithin}
use Rattle.report_core.specs.inner.Rulings.{IsFound, ReportsStatuses}

-- The number of a denying invariant is valid.
pub is_within : (d : Network) (policy : Policy) (f : Flow) (r : FlowStatus) → IsFound d policy f r → IsWithin (length d.invariants) r
is_within d policy f Answered is = tt
is_within d policy f Allowed is = tt
is_within d policy f NotAsked is = tt
is_within d policy f (Denied k) is = slice_get_within d.invariants k is.2.inv is.2.place

-- A flow whose answers may pass is permitted, and a permitted flow is requested.
record Nests (d : Network) (policy : Policy) : Type 0 where
  permitted : (f : Flow) → IsTrue (has policy.stateful.flows f) → IsTrue (has policy.permitted.flows f)
  asked : (f : Flow) → IsTrue (has policy.permitted.flows f) → IsTrue (has d.asked.flows f)

nests : (d : Network) (policy : Policy) → IsPolicyOf d policy → Nests d policy
nests d policy is_policy = record {
  permitted = (IsSubset-stateful d policy.permitted.flows policy.stateful.flows is_policy.stateful).within;
  asked = is_policy.permitted.within.within;
}

ruling_by : (d : Network) (policy : Policy) (f : Flow) (r : FlowStatus) → Nests d policy → IsFound d policy f r → IsFlowStatus d policy f r
ruling_by d policy f Answered n is = record {
  allowed = (λ _. n.permitted f is, λ _. inl refl);
  answered = (λ _. is, λ _. refl);
  not_asked = (λ e. cc e, λ unasked. absurd (both_ways _ unasked (n.asked f (n.permitted f is))));
  denied = λ number e. cc e;
}
ruling_by d policy f Allowed n is = record {
  allowed = (λ _. is.0, λ _. inr refl);
  answered = (λ e. cc e, λ stateful. absurd (both_ways _ is.1 stateful));
  not_asked = (λ e. cc e, λ unasked. absurd (both_ways _ unasked (n.asked f is.0)));
  denied = λ number e. cc e;
}
ruling_by d policy f NotAsked n is = record {
  allowed = (λ told. elim told [ inl e ↦ cc e | inr e ↦ cc e ], λ permitted. absurd (both_ways _ is (n.asked f permitted)));
  answered = (λ e. cc e, λ stateful. absurd (both_ways _ is (n.asked f (n.permitted f stateful))));
  not_asked = (λ _. is, λ _. refl);
  denied = λ number e. cc e;
}
ruling_by d policy f (Denied k) n is = record {
  allowed = (λ told. elim told [ inl e ↦ cc e | inr e ↦ cc e ], λ permitted. absurd (both_ways _ is.1 permitted));
  answered = (λ e. cc e, λ stateful. absurd (both_ways _ is.1 (n.permitted f stateful)));
  not_asked = (λ e. cc e, λ unasked. absurd (both_ways _ unasked is.0));
  denied = λ number e.
      let same : k ≡ number = cc e in
      subst (IsFirstFailing holds_on d.invariants (with_flow policy.permitted.flows f)) same is.2;
}

-- The facts about a flow determine its status.
pub ruling_found : (d : Network) (policy : Policy) (f : Flow) (r : FlowStatus) → IsPolicyOf d policy → IsFound d policy f r → IsFlowStatus d policy f r
ruling_found d policy f r is_policy = ruling_by d policy f r (nests d policy is_policy)

rulings-append : (d : Network) (policy : Policy) (fs gs : List Flow) (rs ss : List FlowStatus) → AllZip (IsFlowStatus d policy) fs rs → AllZip (IsFlowStatus d policy) gs ss → AllZip (IsFlowStatus d policy) (fs ++ gs) (rs ++ ss)
rulings-append d policy [] gs [] ss a b = b
rulings-append d policy [] gs (r ∷ rs) ss a b = absurd a
rulings-append d policy (f ∷ fs) gs [] ss a b = absurd a
rulings-append d policy (f ∷ fs) gs (r ∷ rs) ss a b = (a.0, rulings-append d policy fs gs rs ss a.1 b)

policy_text-append : (d : Network) (policy : Policy) (fs gs : List Flow) (rs ss : List FlowStatus) → AllZip (IsFlowStatus d policy) fs rs → policy_text d (fs ++ gs) (rs ++ ss) ≡ policy_text d fs rs ++ policy_text d gs ss
policy_text-append d policy [] gs [] ss a = refl
policy_text-append d policy [] gs (r ∷ rs) ss a = absurd a
policy_text-append d policy (f ∷ fs) gs [] ss a = absurd a
policy_text-append d policy (f ∷ fs) gs (r ∷ rs) ss a =
    ap (λ text. ruling_line d f r ++ text) (policy_text-append d policy fs gs rs ss a.1)
    ∙ sym (append_assoc (ruling_line d f r) (policy_text d fs rs) (policy_text d gs ss))

told-append : (d : Network) (policy : Policy) (fs gs : List Flow) (a b : List ℕ) → ReportsStatuses d policy fs a → ReportsStatuses d policy gs b → ReportsStatuses d policy (fs ++ gs) (a ++ b)
told-append d policy fs gs a b p q = record {
  rulings = p.rulings ++ q.rulings;
  found = rulings-append d policy fs gs p.rulings q.rulings p.found q.found;
  written = ap (λ text. text ++ b) p.written ∙ ap (λ text. policy_text d fs p.rulings ++ text) q.written ∙ sym (policy_text-append d policy fs gs p.rulings q.rulings p.found);
}

pub grows_by_one : (d : Network) (policy : Policy) (f : Flow) (r : FlowStatus) (old new : List ℕ) → IsFlowStatus d policy f r → new ≡ old ++ ruling_line d f r → Grows (ReportsStatuses d policy (f ∷ [])) old new
grows_by_one d policy f r old new is_ruling written = record {
  piece = ruling_line d f r;
  is_piece = record { rulings = r ∷ []; found = (is_ruling, tt); written = sym (append-nil (ruling_line d f r)) };
  after = written;
}

pub one_flow : (from to : ℕ) → (from ≡ to → ⊥) → flow_or_none from to ≡ record { from = from; to = to } ∷ []
one_flow from to differ = grind (arith, nat_tests)

-- Some flows, and then some more.
pub grows_on : (d : Network) (policy : Policy) (fs gs : List Flow) (old mid new : List ℕ) → Grows (ReportsStatuses d policy fs) old mid → Grows (ReportsStatuses d policy gs) mid new → Grows (ReportsStatuses d policy (fs ++ gs)) old new
grows_on d policy fs gs old mid new p q = record {
  piece = p.piece ++ q.piece;
  is_piece = told-append d policy fs gs p.piece q.piece p.is_piece q.is_piece;
  after = q.after ∙ ap (λ text. text ++ q.piece) p.after ∙ append_assoc old p.piece q.piece;
}

flat_map_last : (f : ℕ → List Flow) (a n : ℕ) → flat_map f (range_with_len a (suc n)) ≡ flat_map f (range_with_len a n) ++ f (a + n)
flat_map_last f a zero = append-nil (f a) ∙ ap f (omega arith)
flat_map_last f a (suc n) =
    let rest : List Flow = flat_map f (range_with_len (a + 1) n) in
    ap (λ xs. f a ++ xs) (flat_map_last f (a + 1) n)
    ∙ sym (append_assoc (f a) rest (f (a + 1 + n)))
    ∙ ap (λ k. (f a ++ rest) ++ f k) (omega arith)

-- The flows of one more number.
pub flat_map_next : (f : ℕ → List Flow) (n : ℕ) → flat_map f (range_with_len 0 (n + 1)) ≡ flat_map f (range_with_len 0 n) ++ f n
flat_map_next f n = rw (add-one n) (flat_map_last f 0 n ∙ ap (λ k. flat_map f (range_with_len 0 n) ++ f k) (omega arith))

pub grows_next : (d : Network) (policy : Policy) (f : ℕ → List Flow) (n : ℕ) (old mid new : List ℕ) → Grows (ReportsStatuses d policy (flat_map f (range_with_len 0 n))) old mid → Grows (ReportsStatuses d policy (f n)) mid new → Grows (ReportsStatuses d policy (flat_map f (range_with_len 0 (n + 1)))) old new
grows_next d policy f n old mid new p q =
    subst (λ (flows : List Flow). Grows (ReportsStatuses d policy flows) old new) (sym (flat_map_next f n)) (grows_on d policy (flat_map f (range_with_len 0 n)) (f n) old mid new p q)

-- A text that reports every flow is the report.
pub is_report : (d : Network) (policy : Policy) (old text : List ℕ) → IsPolicyOf d policy → old ≡ [] → Grows (ReportsStatuses d policy (every_flow (length d.hosts))) old text → IsPolicyReport d text
is_report d policy old text is_policy empty grown = record {
  policy = policy;
  is_policy = is_policy;
  rulings = grown.is_piece.rulings;
  found = grown.is_piece.found;
  written = grown.after ∙ ap (λ bs. bs ++ grown.piece) empty ∙ grown.is_piece.written;
}
