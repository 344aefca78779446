-- The findings for the invariants so far, counted.
use Rattle.std.proofs.Common.{◌≡◌, ℕ, List, [], ◌∷◌, ◌++◌, Option, map, sym, ap, subst, ◌∙◌, append_assoc, append-nil}
use Rattle.flow_set.specs.declared.flow.Flow.{Flow}
use Rattle.inv_any.specs.declared.any_inv.AnyInv.{AnyInv}
use Rattle.net_core.specs.Network.{Network}
use Rattle.net_core.specs.Policies.{holds_on}
use Rattle.report_core.specs.CheckReport.{AreViolations, IsViolation}
use Rattle.sample_core.specs.Sample.{offence_size}
use Rattle.sample_core.specs.inner.SampleCounts.{AreOffending}

-- The counts followed by those of the findings for the remaining invariants are those of all.
abbrev pub GoesOn : Network → List ℕ → List AnyInv → Type 0
GoesOn d counts left =
    (rest : List (Option (List Flow))) → AreViolations left d.asked.flows rest → AreOffending d (counts ++ map offence_size rest)

pub goes_next : (d : Network) (counts new : List ℕ) (left : List AnyInv) (inv : AnyInv) (later : List AnyInv) (o : Option (List Flow))
    → left ≡ inv ∷ later
    → GoesOn d counts left → IsViolation (holds_on inv) d.asked.flows o → new ≡ counts ++ offence_size o ∷ [] → GoesOn d new later
goes_next d counts new left inv later o here so_far offence pushed rest found =
    subst (AreOffending d)
    (sym (append_assoc counts (offence_size o ∷ []) (map offence_size rest))
    ∙ ap (λ (xs : List ℕ). xs ++ map offence_size rest) (sym pushed))
    (subst (GoesOn d counts) here so_far (o ∷ rest) (offence, found))

pub goes_end : (d : Network) (counts : List ℕ) (left : List AnyInv) → left ≡ [] → GoesOn d counts left → AreOffending d counts
goes_end d counts left done so_far = subst (AreOffending d) (append-nil counts) (subst (GoesOn d counts) done so_far [] tt)
