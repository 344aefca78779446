-- Rules that depend only on the attributes of the two hosts. A list has the attribute of each host, in order of the hosts.
use Rattle.std.specs.Prelude.{ℕ, List, slice_index_or}

-- A flow passes if the attributes of its sender and its receiver are in the relation.
abbrev pub PassesBetween : {A : Type 0} → A → (A → A → Type 0) → List A → ℕ → ℕ → Type 0
PassesBetween default Passes attributes sender receiver =
    Passes (slice_index_or attributes sender default) (slice_index_or attributes receiver default)
