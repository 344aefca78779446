-- Name resolution one by one: the resolved names so far, and the remaining ones.
use Rattle.std.proofs.Common.{◌≡◌, ℕ, ◌+◌, ◌<◌, List, [], ◌∷◌, ◌++◌, map, drop, get_or, length, Option, Some, option_map, ap, ◌∙◌}
use Rattle.std.proofs.lemmas.List.{map-append}
use Rattle.attr_core.specs.inner.AssignView.{given_of}
use Rattle.attr_core.specs.Assigns.{Given}
use Rattle.attr_core.specs.declared.assign.Assign as read
use Rattle.desc_core.proofs.ListingLaws.{next}
use Rattle.desc_core.specs.inner.KnownView.{known_view}
use Rattle.desc_core.specs.RawNetwork.{Known, given_by, known_of}
use Rattle.desc_core.specs.declared.known.KnownInvariant.{KnownInvariant}
use Rattle.desc_form.specs.RawTemplate.{RawTemplate}
use Rattle.desc_form.specs.inner.RawView.{assign_view, invariant_view}
use Rattle.desc_form.specs.declared.raw.RawAssign.{RawAssign}
use Rattle.desc_form.specs.declared.raw.RawInvariant.{RawInvariant}
use Rattle.host_net.specs.Host.{Host}
use Rattle.table_core.specs.Listing.{each}
use Rattle.table_core.proofs.ListingLaws.{each_more}

one_more : {W V K : Type 0} (view : W → V) (find : V → Option K) (given : List K) (k : K) (w : W) (ws : List W) (i : ℕ) (whole : Option (List K))
    → i < length ws → w ≡ get_or ws i w → find (view w) ≡ Some k
    → option_map (λ rest. given ++ rest) (each find (map view (drop i ws))) ≡ whole
    → option_map (λ rest. (given ++ k ∷ []) ++ rest) (each find (map view (drop (i + 1) ws))) ≡ whole
one_more view find given k w ws i whole within here says so_far =
    each_more find given k (view w) (map view (drop (i + 1) ws)) whole says (rw (next ws i w w within here) at so_far)

-- The host and table of an assign, after those before it.
pub assigns_more : (hosts : List Host) (given items : List read.Assign) (a : read.Assign) (w : RawAssign) (ws : List RawAssign) (i : ℕ) (whole : Option (List Given))
    → items ≡ given ++ a ∷ [] → i < length ws → w ≡ get_or ws i w → given_by hosts (assign_view w) ≡ Some (given_of a)
    → option_map (λ rest. map given_of given ++ rest) (each (given_by hosts) (map assign_view (drop i ws))) ≡ whole
    → option_map (λ rest. map given_of items ++ rest) (each (given_by hosts) (map assign_view (drop (i + 1) ws))) ≡ whole
assigns_more hosts given items a w ws i whole more within here says so_far =
    let more_given : map given_of items ≡ map given_of given ++ given_of a ∷ [] = ap (map given_of) more ∙ map-append given_of given (a ∷ []) in
    rw more_given (one_more assign_view (given_by hosts) (map given_of given) (given_of a) w ws i whole within here says so_far)

-- An invariant.
pub invariants_more : (ts : List RawTemplate) (hosts : List Host) (known items : List KnownInvariant) (k : KnownInvariant) (w : RawInvariant) (ws : List RawInvariant) (i : ℕ) (whole : Option (List Known))
    → items ≡ known ++ k ∷ [] → i < length ws → w ≡ get_or ws i w → known_of ts hosts (invariant_view w) ≡ Some (known_view k)
    → option_map (λ rest. map known_view known ++ rest) (each (known_of ts hosts) (map invariant_view (drop i ws))) ≡ whole
    → option_map (λ rest. map known_view items ++ rest) (each (known_of ts hosts) (map invariant_view (drop (i + 1) ws))) ≡ whole
invariants_more ts hosts known items k w ws i whole more within here says so_far =
    let more_known : map known_view items ≡ map known_view known ++ known_view k ∷ [] = ap (map known_view) more ∙ map-append known_view known (k ∷ []) in
    rw more_known (one_more invariant_view (known_of ts hosts) (map known_view known) (known_view k) w ws i whole within here says so_far)
