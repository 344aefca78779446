-- The raw description of the table of the sample.
use Rattle.std.specs.Prelude.{ℕ, pos, true, false, List, [], ◌∷◌, map, codes}
use Rattle.desc_form.specs.RawDescription.{RawDescription, RawAssign, RawHost, RawInvariant}
use Rattle.sample_core.specs.SampleTable.{care_table, hosts_in_care, level_table, sample_hosts, sample_name, sample_prefix}
use Rattle.toml.specs.Data.{Members}

abbrev pub sample_host : ℕ → RawHost
sample_host k = record { name = sample_name k; at = sample_prefix k ∷ []; rest = false }

abbrev pub sample_assign : (ℕ → Members) → ℕ → RawAssign
sample_assign made k = record { host = sample_name k; table = made k }

abbrev pub sample_invariant : List ℕ → (ℕ → Members) → List ℕ → RawInvariant
sample_invariant template made hosts = record { template = template; assigns = map (sample_assign made) hosts }

abbrev pub sample_invariants : ℕ → List RawInvariant
sample_invariants n =
    sample_invariant (codes "blp") level_table (sample_hosts n) ∷ sample_invariant (codes "partners") care_table (hosts_in_care n) ∷ []

abbrev pub sample_raw : ℕ → RawDescription
sample_raw n = record {
  version = pos 1;
  answers = true;
  hosts = map sample_host (sample_hosts n);
  invariants = sample_invariants n;
  given = false;
  flows = [];
  templates = [];
}
