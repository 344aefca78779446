-- The search for an overlap, extended by one more prefix.
use Rattle.std.proofs.Common.{◌≡◌, ℕ, suc, ◌+◌, ◌<◌, ◌≤◌, Bool, true, false, cond, List, [], ◌∷◌, ◌++◌, map, length, get_or, take, drop, drop-cons, add-one, position, Some, None, refl, sym, ap, ◌∙◌, arith}
use Rattle.std.specs.List.{position_from}
use Rattle.std.specs.Option.{option_map, option_or}
use Rattle.std.proofs.lemmas.Iterator.Adapters.{position_from-zero}
use Rattle.std.proofs.lemmas.List.{length-map, length-take-le, take_more}
use Rattle.std.proofs.Math.ListN.{drop_of_length-le}
use Rattle.host_net.proofs.HostsLemmas.{position_from-map}
use Rattle.host_net.specs.inner.Hosts.{meets_any}
use Rattle.host_net.specs.inner.Refusal.{meeting, overlap_from}
use Rattle.host_net.specs.declared.addresses.Addresses.{Addresses}
use Rattle.host_net.specs.declared.prefix.Prefix.{Prefix}
use Rattle.host_net.specs.declared.refusal.HostRefusal.TheVariants.{Overlap}

-- A search over a list with one more element at its end.
pub position_from-push : {A : Type 0} (t : A → Bool) (i : ℕ) (xs : List A) (y : A) → position_from t i (xs ++ y ∷ []) ≡ option_or (position_from t i xs) (cond (t y) (Some (i + length xs)) None)
position_from-push t i [] y = ap (λ n. cond (t y) (Some n) None) (omega arith)
position_from-push t i (x ∷ xs) y =
    let behind : position_from t (i + 1) (xs ++ y ∷ []) ≡ option_or (position_from t (i + 1) xs) (cond (t y) (Some (i + suc (length xs))) None) =
    position_from-push t (i + 1) xs y
    ∙ ap (λ n. option_or (position_from t (i + 1) xs) (cond (t y) (Some n) None)) (omega arith) in
    elim (t x) as (λ b. cond b (Some i) (position_from t (i + 1) (xs ++ y ∷ [])) ≡ option_or (cond b (Some i) (position_from t (i + 1) xs)) (cond (t y) (Some (i + suc (length xs))) None)) [
      | true ↦ refl
      | false ↦ behind
    ]

-- The earliest host with a prefix that overlaps the given one: among the others, or else the one after them.
pub meeting_is : (hosts : List Addresses) (own : List Prefix) (p : Prefix) → meeting (map (λ h. h.prefixes.items) hosts) own p ≡ option_or (position (λ h. meets_any h.prefixes.items p) hosts) (cond (meets_any own p) (Some (length hosts)) None)
meeting_is hosts own p =
    let lists : List (List Prefix) = map (λ (h : Addresses). h.prefixes.items) hosts in
    let place : position_from (λ ps. meets_any ps p) 0 lists ≡ position (λ h. meets_any h.prefixes.items p) hosts =
    position_from-map (λ (h : Addresses). h.prefixes.items) (λ ps. meets_any ps p) 0 hosts
    ∙ sym (position_from-zero (λ (h : Addresses). meets_any h.prefixes.items p) hosts) in
    let many : 0 + length lists ≡ length hosts = omega (arith, length-map hosts (λ (h : Addresses). h.prefixes.items)) in
    position_from-push (λ ps. meets_any ps p) 0 lists own
    ∙ (λ i. option_or (place i) (cond (meets_any own p) (Some (many i)) None))

-- The same, for each of its three results.
pub meeting_other : (hosts : List Addresses) (own : List Prefix) (p : Prefix) (host : ℕ) → position (λ h. meets_any h.prefixes.items p) hosts ≡ Some host → Some host ≡ meeting (map (λ h. h.prefixes.items) hosts) own p
meeting_other hosts own p host found =
    sym (meeting_is hosts own p ∙ ap (λ o. option_or o (cond (meets_any own p) (Some (length hosts)) None)) found)

pub meeting_own : (hosts : List Addresses) (own : List Prefix) (p : Prefix) (t : Bool) → position (λ h. meets_any h.prefixes.items p) hosts ≡ None → meets_any own p ≡ t → cond t (Some (length hosts)) None ≡ meeting (map (λ h. h.prefixes.items) hosts) own p
meeting_own hosts own p t none own_is =
    sym (meeting_is hosts own p
    ∙ (λ i. option_or (none i) (cond (own_is i) (Some (length hosts)) None)))

-- The rest of the prefixes begins with the one at the index.
drop_is : (at : List Prefix) (i : ℕ) (x : Prefix) → i < length at → x ≡ get_or at i x → drop i at ≡ x ∷ drop (suc i) at
drop_is at i x within e = drop-cons at i x within ∙ ap (λ y. y ∷ drop (suc i) at) (sym e)

-- The step of the search.
pub overlap_met : (owned : List (List Prefix)) (at : List Prefix) (i other : ℕ) (x : Prefix) → i < length at → x ≡ get_or at i x → meeting owned (take i at) x ≡ Some other → overlap_from owned (take i at) (drop i at) ≡ Some (Overlap i other)
overlap_met owned at i other x within e met =
    ap (overlap_from owned (take i at)) (drop_is at i x within e)
    ∙ ap (λ o. option_or (option_map (Overlap (length (take i at))) o) (overlap_from owned (take i at ++ x ∷ []) (drop (suc i) at))) met
    ∙ ap (λ n. Some (Overlap n other)) (length-take-le i at (omega arith))

pub overlap_passed : (owned : List (List Prefix)) (at : List Prefix) (i : ℕ) (x : Prefix) → i < length at → x ≡ get_or at i x → meeting owned (take i at) x ≡ None → overlap_from owned (take (i + 1) at) (drop (i + 1) at) ≡ overlap_from owned (take i at) (drop i at)
overlap_passed owned at i x within e passed =
    let front : take (i + 1) at ≡ take i at ++ x ∷ [] = take_more at i x within ∙ ap (λ y. take i at ++ y ∷ []) (sym e) in
    sym (ap (overlap_from owned (take i at)) (drop_is at i x within e)
    ∙ ap (λ o. option_or (option_map (Overlap (length (take i at))) o) (overlap_from owned (take i at ++ x ∷ []) (drop (suc i) at))) passed
    ∙ (λ j. overlap_from owned (sym front j) (drop (sym (add-one i) j) at)))

pub overlap_end : (owned : List (List Prefix)) (at : List Prefix) (i : ℕ) → length at ≤ i → overlap_from owned (take i at) (drop i at) ≡ None
overlap_end owned at i end = rw (drop_of_length-le at end) refl
