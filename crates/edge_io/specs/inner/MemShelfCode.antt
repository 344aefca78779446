-- The stored form of a shelf in memory, by which proofs distinguish two such values.
use Rattle.std.specs.Prelude.{ℕ, Bool, List, refl}
use Rattle.std.specs.Coded.{Coded, code_by, coded×, coded_ℕ, coded_bool, coded_list}
use Rattle.std.specs.FinMap.{code}
use Rattle.edge_io.specs.inner.FaultPlan.{Plan}
use Rattle.edge_io.specs.inner.MemShelf.{Shelved}
use Rattle.edge_io.specs.Observable.{Files}

abbrev pub plan_code : Coded Plan
plan_code =
    code_by (List ℕ × (ℕ × ℕ)) (coded× (coded_list coded_ℕ) (coded× coded_ℕ coded_ℕ))
    (λ p. (p.fails, (p.calls, p.faults)))
    (λ t. record { fails = t.0; calls = t.1.0; faults = t.1.1 })
    (λ _. refl)

abbrev pub shelved_code : Coded Shelved
shelved_code =
    code_by (Files × (Bool × (List ℕ × (ℕ × (ℕ × Plan)))))
    (coded× (code (coded_list coded_ℕ) (coded_list coded_ℕ)) (coded× coded_bool (coded× (coded_list coded_ℕ) (coded× coded_ℕ (coded× coded_ℕ plan_code)))))
    (λ s. (s.files, (s.begun, (s.left, (s.taken, (s.begins, s.plan))))))
    (λ t. record { files = t.0; begun = t.1.0; left = t.1.1.0; taken = t.1.1.1.0; begins = t.1.1.1.1.0; plan = t.1.1.1.1.1 })
    (λ _. refl)
