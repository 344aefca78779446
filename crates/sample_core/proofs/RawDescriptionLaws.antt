-- The table of the sample has the form of a description, with this raw description.
use Rattle.std.proofs.Common.{◌≡◌, ℕ, pos, true, false, List, [], ◌∷◌, map, filter_map, codes, refl}
use Rattle.std.specs.List.{AllZip}
use Rattle.std.proofs.lemmas.List.Elements.{All-nil}
use Rattle.table_core.specs.Listing.{each}
use Rattle.desc_form.specs.RawDescription.{raw_assign, raw_host, raw_invariant, written}
use Rattle.desc_form.specs.RawFlow.{RawFlow}
use Rattle.desc_form.specs.inner.RawForm.{IsAssign, IsHost, IsInvariant, IsTable, IsRawOf}
use Rattle.desc_form.specs.Places.{listed}
use Rattle.sample_core.specs.SampleTable.{care_table, host_table, hosts_in_care, level_table, sample_hosts, sample_table, invariant_table}
use Rattle.sample_core.specs.inner.SampleRaw.{sample_assign, sample_host, sample_invariant, sample_raw}
use Rattle.table_core.specs.Tables.{boolean_at, elements, elements_of, has_key, has_only, integer_at, list_at, text_at}
use Rattle.toml.specs.Data.{table, Members, as_table}
use Rattle.toml.specs.View.{items_of}

zips : {A : Type 0} (Is : Members → A → Type 0) (made : ℕ → Members) (said : ℕ → A) → ((k : ℕ) → Is (made k) (said k)) → (hosts : List ℕ)
    → AllZip (IsTable Is) (elements (items_of (map (λ k. table (made k)) hosts))) (map said hosts)
zips Is made said each [] = tt
zips Is made said each (k ∷ hosts) = ((made k, refl, each k), zips Is made said each hosts)

host_formed : (k : ℕ) → IsHost (host_table k) (sample_host k)
unfolding has_only
host_formed k = record { only = refl; name = refl; at = (_, refl, (refl, tt)); rest = refl }

level_formed : (k : ℕ) → IsAssign (level_table k) (sample_assign level_table k)
level_formed k = record { host = refl; table = refl }

care_formed : (k : ℕ) → IsAssign (care_table k) (sample_assign care_table k)
care_formed k = record { host = refl; table = refl }

invariant_formed : (template : List ℕ) (made : ℕ → Members) (hosts : List ℕ) → ((k : ℕ) → IsAssign (made k) (sample_assign made k))
    → IsInvariant (invariant_table template made hosts) (sample_invariant template made hosts)
unfolding has_only
invariant_formed template made hosts each = record {
  only = refl;
  template = refl;
  assigns = (_, refl, zips IsAssign made (sample_assign made) each hosts);
}

pub sample_formed : (n : ℕ) → IsRawOf (sample_table n) (sample_raw n)
unfolding sample_table has_only
sample_formed n = record {
  only = refl;
  version = refl;
  answers = refl;
  hosts = (_, refl, zips IsHost host_table sample_host host_formed (sample_hosts n));
  invariants = (
    _,
    refl,
    (
      (_, refl, invariant_formed (codes "blp") level_table (sample_hosts n) level_formed),
      ((_, refl, invariant_formed (codes "partners") care_table (hosts_in_care n) care_formed), tt),
    ),
  );
  given = refl;
  flows = refl;
  whole = λ other. All-nil (λ (f : RawFlow). f.services ≡ []);
  templates = refl;
}

-- ---- the raw description

read_back : {A : Type 0} (made : ℕ → Members) (reads : Members → A) (said : ℕ → A) → ((k : ℕ) → reads (made k) ≡ said k) → (hosts : List ℕ)
    → map reads (filter_map as_table (elements (items_of (map (λ k. table (made k)) hosts)))) ≡ map said hosts
read_back made reads said each [] = refl
read_back made reads said each (k ∷ hosts) = λ i. each k i ∷ read_back made reads said each hosts i

host_read : (k : ℕ) → raw_host (host_table k) ≡ sample_host k
unfolding raw_host listed text_at boolean_at list_at elements_of
host_read k = refl

level_read : (k : ℕ) → raw_assign (level_table k) ≡ sample_assign level_table k
unfolding raw_assign text_at
level_read k = refl

care_read : (k : ℕ) → raw_assign (care_table k) ≡ sample_assign care_table k
unfolding raw_assign text_at
care_read k = refl

invariant_read : (template : List ℕ) (made : ℕ → Members) (hosts : List ℕ) → ((k : ℕ) → raw_assign (made k) ≡ sample_assign made k)
    → raw_invariant (invariant_table template made hosts) ≡ sample_invariant template made hosts
unfolding raw_invariant listed text_at list_at elements_of
invariant_read template made hosts each =
    λ i. record { template = template; assigns = read_back made raw_assign (sample_assign made) each hosts i }

pub written_is : (n : ℕ) → written (sample_table n) ≡ sample_raw n
unfolding sample_table written listed text_at integer_at list_at elements_of has_key
written_is n = λ i. record {
  version = pos 1;
  answers = true;
  hosts = read_back host_table raw_host sample_host host_read (sample_hosts n) i;
  invariants =
      invariant_read (codes "blp") level_table (sample_hosts n) level_read i
      ∷ invariant_read (codes "partners") care_table (hosts_in_care n) care_read i
      ∷ [];
  given = false;
  flows = [];
  templates = [];
}
