-- Each host of a valid network is accepted after the hosts before it.
use Rattle.std.proofs.Common.{◌≡◌, ℕ, suc, ◌+◌, ◌≤◌, ◌<◌, Bool, true, false, not, ◌&&◌, ◌||◌, nat_lt, nat_le, List, [], ◌∷◌, ◌++◌, length, None, refl, sym, ap, ◌∙◌, arith, append-nil, append_assoc, length-append}
use Rattle.std.proofs.lemmas.Bool.{and_parts, not-true}
use Rattle.std.proofs.lemmas.Bool.Decides.{nat_tests}
use Rattle.std.proofs.lemmas.Grind.{flat_map-append}
use Rattle.std.proofs.lemmas.List.Folds.{list_all-append}
use Rattle.std.proofs.lemmas.List.Sums.{sum_by-append}
use Rattle.std.specs.List.{list_all, list_any, flat_map, position_from}
use Rattle.std.specs.Option.{option_map}
use Rattle.std.specs.Str.{bytes_eq}
use Rattle.text_core.specs.Name.{is_name}
use Rattle.text_core.specs.FirstMatch.{first_of, some_if}
use Rattle.text_core.specs.inner.Pairs.{no_pair}
use Rattle.host_net.specs.Host.{Host, host_named, has_no_address}
use Rattle.host_net.specs.Hosts.{all_prefixes}
use Rattle.host_net.specs.inner.Hosts.{prefix_count, prefix_lists, IsHosts, is_network}
use Rattle.host_net.specs.Limits.{host_limit, prefix_limit}
use Rattle.text_core.proofs.ConflictLaws.{all_here, alone_behind, no_pair-front}
use Rattle.host_net.specs.Prefix.{meets}
use Rattle.host_net.specs.inner.Refusal.{is_full, overlap, overlap_from, refusal_of, two_rests}
use Rattle.host_net.specs.declared.prefix.Prefix.{Prefix}
use Rattle.host_net.specs.declared.refusal.HostRefusal.TheVariants.{TooMany, BadName, Duplicate, NoAddress, TwoRests}

-- A search finds nothing if no element passes.
none_placed : {A : Type 0} (p : A → Bool) (k : ℕ) (xs : List A) → list_all (λ x. not (p x)) xs ≡ true → position_from p k xs ≡ None
none_placed p k [] h = refl
none_placed p k (x ∷ xs) h =
    let (here, behind) = and_parts (not (p x)) _ h in
    rw (not-true (p x) here) (none_placed p (k + 1) xs behind)

-- The search for a prefix that overlaps p, in the lists of the others and in its own list.
none_in : (t : Prefix → Bool) (ps : List Prefix) → list_all (λ q. not (t q)) ps ≡ true → list_any t ps ≡ false
none_in t [] h = refl
none_in t (p ∷ ps) h =
    let (here, behind) = and_parts (not (t p)) _ h in
    rw (not-true (t p) here, none_in t ps behind)

none_in_lists : (t : Prefix → Bool) (k : ℕ) (owned : List (List Prefix)) (own : List Prefix) → list_all (λ q. not (t q)) (flat_map (λ ps. ps) owned ++ own) ≡ true
    → position_from (λ ps. list_any t ps) k (owned ++ own ∷ []) ≡ None
none_in_lists t k [] own h = rw (none_in t own h)
none_in_lists t k (ps ∷ owned) own h =
    let whole : list_all (λ q. not (t q)) (ps ++ (flat_map (λ qs. qs) owned ++ own)) ≡ true = ap (list_all (λ q. not (t q))) (sym (append_assoc ps (flat_map (λ (qs : List Prefix). qs) owned) own)) ∙ h in
    let (here, behind) = and_parts (list_all (λ q. not (t q)) ps) _ (sym (list_all-append (λ q. not (t q)) ps (flat_map (λ qs. qs) owned ++ own)) ∙ whole) in
    rw (none_in t ps here) (none_in_lists t (k + 1) owned own behind)

no_overlap : (owned : List (List Prefix)) (own at : List Prefix) → no_pair meets ((flat_map (λ ps. ps) owned ++ own) ++ at) ≡ true → overlap_from owned own at ≡ None
no_overlap owned own [] h = refl
no_overlap owned own (p ∷ ps) h =
    let others = flat_map (λ (qs : List Prefix). qs) owned in
    let alone = none_in_lists (meets p) 0 owned own (alone_behind meets (others ++ own) p ps h) in
    let regrouped : (others ++ own) ++ p ∷ ps ≡ (others ++ (own ++ p ∷ [])) ++ ps =
    sym (append_assoc (others ++ own) (p ∷ []) ps) ∙ ap (λ qs. qs ++ ps) (append_assoc others own (p ∷ [])) in
    rw alone (no_overlap owned (own ++ p ∷ []) ps (ap (no_pair meets) (sym regrouped) ∙ h))

-- The prefixes of all, host by host.
pub joined_lists : (hs : List Host) → flat_map (λ ps. ps) (prefix_lists hs) ≡ all_prefixes hs
joined_lists [] = refl
joined_lists (h ∷ hs) = ap (λ qs. h.prefixes ++ qs) (joined_lists hs)

-- The prefixes of a host between others.
prefixes_around : (before : List Host) (h : Host) (after : List Host) → all_prefixes (before ++ h ∷ after) ≡ all_prefixes before ++ (h.prefixes ++ all_prefixes after)
prefixes_around before h after = flat_map-append (λ (g : Host). g.prefixes) before (h ∷ after)

apart : (before : List Host) (h : Host) (after : List Host) → no_pair meets (all_prefixes (before ++ h ∷ after)) ≡ true → overlap before h.prefixes ≡ None
apart before h after known =
    let all = all_prefixes before in
    let whole : no_pair meets ((all ++ h.prefixes) ++ all_prefixes after) ≡ true =
    ap (no_pair meets) (append_assoc all h.prefixes (all_prefixes after) ∙ sym (prefixes_around before h after)) ∙ known in
    let front = no_pair-front meets (all ++ h.prefixes) (all_prefixes after) whole in
    let listed : (flat_map (λ ps. ps) (prefix_lists before) ++ []) ++ h.prefixes ≡ all ++ h.prefixes =
    ap (λ qs. qs ++ h.prefixes) (append-nil (flat_map (λ (ps : List Prefix). ps) (prefix_lists before)) ∙ joined_lists before) in
    no_overlap (prefix_lists before) [] h.prefixes (ap (no_pair meets) listed ∙ front)

-- The networks of a host between others.
pub networks_of : (before : List Host) (h : Host) (after : List Host) → IsHosts (before ++ h ∷ after) → list_all is_network h.prefixes ≡ true
networks_of before h after known =
    let whole = list_all-append is_network (all_prefixes before) (h.prefixes ++ all_prefixes after) in
    let (_, behind) = and_parts (list_all is_network (all_prefixes before)) _ (sym whole ∙ ap (list_all is_network) (sym (prefixes_around before h after)) ∙ known.networks) in
    let (here, _) = and_parts (list_all is_network h.prefixes) _ (sym (list_all-append is_network h.prefixes (all_prefixes after)) ∙ behind) in here

-- Cause by cause.
room_by : (a b c d : ℕ) → b < a → d ≤ c → (nat_le a b || nat_lt c d) ≡ false
room_by a b c d fewer within = grind (arith, nat_tests)

room : (before : List Host) (h : Host) (after : List Host) → IsHosts (before ++ h ∷ after) → is_full before (length h.prefixes) ≡ false
room before h after known =
    let hosts : length (before ++ h ∷ after) ≡ length before + suc (length after) = length-append before (h ∷ after) in
    let prefixes : prefix_count (before ++ h ∷ after) ≡ prefix_count before + prefix_count (h ∷ after) = sum_by-append (λ (g : Host). length g.prefixes) before (h ∷ after) in
    let own : prefix_count (h ∷ after) ≡ 0 + length h.prefixes + prefix_count after = sum_by-append (λ (g : Host). length g.prefixes) (h ∷ []) after in
    room_by host_limit (length before) prefix_limit (prefix_count before + length h.prefixes) (omega (arith, hosts, known.few)) (omega (arith, prefixes, own, known.few_prefixes))

rest_alone : (before : List Host) (rest : Bool) → list_all (λ g. not (rest && g.rest)) before ≡ true → two_rests before rest ≡ None
rest_alone before true h = ap (option_map TwoRests) (none_placed (λ (g : Host). g.rest) 0 before h)
rest_alone before false h = refl

-- A host of a valid network has no cause to be refused after those before it.
pub accepted : (before : List Host) (h : Host) (after : List Host) → IsHosts (before ++ h ∷ after) → refusal_of before h.name h.prefixes h.rest ≡ None
unfolding refusal_of
accepted before h after known =
    let no_room = room before h after known in
    let named : is_name h.name ≡ true = all_here (λ (g : Host). is_name g.name) before h after known.named in
    let addressed : has_no_address h.prefixes h.rest ≡ false = not-true (has_no_address h.prefixes h.rest) (all_here (λ (g : Host). not (has_no_address g.prefixes g.rest)) before h after known.addressed) in
    let fresh : host_named before h.name ≡ None = none_placed (λ (g : Host). bytes_eq h.name g.name) 0 before (alone_behind (λ (x y : Host). bytes_eq x.name y.name) before h after known.distinct) in
    let one_rest = rest_alone before h.rest (alone_behind (λ (x y : Host). x.rest && y.rest) before h after known.one_rest) in
    let disjoint = apart before h after known.apart in
    λ i. first_of (some_if (no_room i) TooMany ∷ some_if (not (named i)) BadName ∷ option_map Duplicate (fresh i) ∷ some_if (addressed i) NoAddress ∷ one_rest i ∷ disjoint i ∷ [])
