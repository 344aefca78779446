-- The line that reports the fault of a text is unique if the fault is.
use Rattle.std.proofs.Common.{◌≡◌, ℕ, List, sym, ◌∙◌}
use Rattle.run_core.specs.TextFault.{ReportsFault, fault_line}

pub same_line : {Why : Type 0} (text : List ℕ) (reason_of : Why → List ℕ) (HasFault : List ℕ → ℕ → Why → Type 0) (bytes : List ℕ)
    → ((n m : ℕ) (w v : Why) → HasFault bytes n w → HasFault bytes m v → (n ≡ m) × (w ≡ v))
    → (a b : List ℕ) → ReportsFault text reason_of HasFault bytes a → ReportsFault text reason_of HasFault bytes b → a ≡ b
same_line text reason_of HasFault bytes once a b p q =
    let same = once p.number q.number p.why q.why p.fault q.fault in
    p.told ∙ (λ i. fault_line text (same.0 i) (reason_of (same.1 i))) ∙ sym q.told
