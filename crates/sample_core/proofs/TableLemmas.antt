-- Growing arrays, element by element.
use Rattle.std.proofs.Common.{◌≡◌, ℕ, ◌+◌, Bool, true, false, cond, List, [], ◌∷◌, ◌++◌, map, filter, sym, ap, ◌∙◌, arith, append-nil, map-id, if◌then◌else◌}
use Rattle.std.proofs.lemmas.List.{map_push}
use Rattle.std.proofs.lemmas.List.FromFn.{map-range_with_len_more}
use Rattle.std.proofs.lemmas.List.Elements.{filter-append}
use Rattle.sample_core.specs.inner.TableParts.{is_in_care, table_value}
use Rattle.sample_core.specs.SampleTable.{hosts_in_care, sample_hosts}
use Rattle.toml.specs.Data.{Data, Members, table}
use Rattle.toml.specs.View.{view}
use Rattle.toml.specs.declared.value.Value.{Value}

pub made_more : (made : ℕ → Members) (vs : List Value) (v : Value) (k : ℕ) → map view vs ≡ map (table_value made) (sample_hosts k)
    → view v ≡ table (made k)
    → map view (vs ++ v ∷ []) ≡ map (table_value made) (sample_hosts (k + 1))
made_more made vs v k so_far is =
    map_push view vs v ∙ (λ i. so_far i ++ is i ∷ []) ∙ sym (map-range_with_len_more (table_value made) 0 k k (omega arith))

hosts_more : (k : ℕ) → sample_hosts (k + 1) ≡ sample_hosts k ++ k ∷ []
hosts_more k =
    sym (map-id (sample_hosts (k + 1))) ∙ map-range_with_len_more (λ x. x) 0 k k (omega arith)
    ∙ ap (λ hosts. hosts ++ k ∷ []) (map-id (sample_hosts k))

one_kept : (made : ℕ → Members) (k : ℕ) (keep : Bool) (hosts : List ℕ) → map (table_value made) (hosts ++ cond keep (k ∷ []) [])
    ≡ map (table_value made) hosts ++ (if keep then table (made k) ∷ [] else [])
one_kept made k true hosts = map_push (table_value made) hosts k
one_kept made k false hosts = ap (map (table_value made)) (append-nil hosts) ∙ sym (append-nil (map (table_value made) hosts))

pub care_more : (made : ℕ → Members) (old new : List Data) (k : ℕ) → old ≡ map (table_value made) (hosts_in_care k)
    → new ≡ old ++ (if is_in_care k then table (made k) ∷ [] else []) → new ≡ map (table_value made) (hosts_in_care (k + 1))
care_more made old new k so_far pushed =
    pushed ∙ ap (λ ds. ds ++ (if is_in_care k then table (made k) ∷ [] else [])) so_far
    ∙ sym (one_kept made k (is_in_care k) (hosts_in_care k))
    ∙ ap (map (table_value made)) (sym (ap (filter is_in_care) (hosts_more k) ∙ filter-append is_in_care (sample_hosts k) (k ∷ [])))
