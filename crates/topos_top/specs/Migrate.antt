-- `migrate FILE`: the description in version 2.
use Rattle.std.specs.Prelude.{◌≡◌, ℕ, List}
use Rattle.run_core.specs.Outcomes.{Outcomes, writes}

-- The text that was migrated from the description.
abbrev pub migrate_outcomes : (migrated : List ℕ) → Outcomes
migrate_outcomes migrated = writes (λ text. text ≡ migrated) (λ text. text ≡ migrated)
