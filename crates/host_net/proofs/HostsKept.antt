-- Valid hosts stay valid after a host without a cause for refusal is added.
use Rattle.std.proofs.Common.{◌≡◌, ℕ, ◌+◌, ◌<◌, ◌≤◌, Bool, true, false, cond, not, ◌&&◌, ◌||◌, List, [], ◌∷◌, ◌++◌, map, length, Option, Some, None, refl, sym, ap, ◌∙◌, arith, length-append, append_assoc, nat_le, nat_lt}
use Rattle.std.proofs.lemmas.List.{append-nil}
use Rattle.std.specs.List.{position_from, list_all, list_any, flat_map}
use Rattle.std.specs.Option.{option_map, option_or}
use Rattle.std.specs.Map.{values_of}
use Rattle.std.specs.Str.{bytes_eq}
use Rattle.std.proofs.lemmas.Bool.{and_from, not-false}
use Rattle.std.proofs.lemmas.Bool.Decides.{nat_tests}
use Rattle.std.proofs.lemmas.Grind.{flat_map-append}
use Rattle.std.proofs.lemmas.List.Folds.{list_all-append}
use Rattle.std.proofs.lemmas.List.Sums.{sum_by-append}
use Rattle.indexmap.specs.IndexMap.{insert_entry}
use Rattle.host_net.proofs.HostsLemmas.{all_parts}
use Rattle.host_net.proofs.AcceptedLaws.{joined_lists}
use Rattle.text_core.specs.FirstMatch.{first_of, some_if}
use Rattle.text_core.specs.inner.Pairs.{no_pair}
use Rattle.text_core.proofs.FirstsLaws.{holds_not, neither, none_mapped}
use Rattle.host_net.specs.inner.HostsView.{host_view, hosts_view}
use Rattle.host_net.specs.declared.addresses.Addresses.{Addresses}
use Rattle.host_net.specs.Host.{Host, host_named, rest_of, has_no_address}
use Rattle.host_net.specs.Hosts.{all_prefixes}
use Rattle.host_net.specs.inner.Hosts.{prefix_lists, prefix_count, IsHosts, is_network}
use Rattle.host_net.specs.Limits.{host_limit, prefix_limit}
use Rattle.text_core.specs.Name.{is_name}
use Rattle.text_core.proofs.ConflictLaws.{list_all-push, no_pair-push}
use Rattle.host_net.specs.Prefix.{meets}
use Rattle.host_net.specs.inner.Refusal.{bad_name, duplicate, is_full, no_address, meeting, overlap_from, overlap, two_rests, refusal_of}
use Rattle.host_net.specs.declared.prefix.Prefix.{Prefix}
use Rattle.host_net.specs.declared.refusal.HostRefusal.{HostRefusal}
use Rattle.host_net.specs.declared.refusal.HostRefusal.TheVariants.{TooMany, BadName, Duplicate, NoAddress, TwoRests, Overlap}

-- What holds if there is no cause for refusal.
pub record IsWelcome (hs : List Host) (name : List ℕ) (at : List Prefix) (rest : Bool) : Type 0 where
  pub room : is_full hs (length at) ≡ false
  pub named : is_name name ≡ true
  pub fresh : host_named hs name ≡ None
  pub addressed : has_no_address at rest ≡ false
  pub one_rest : two_rests hs rest ≡ None
  pub apart : overlap hs at ≡ None

pub welcome : (hs : List Host) (name : List ℕ) (at : List Prefix) (rest : Bool) → refusal_of hs name at rest ≡ None → IsWelcome hs name at rest
unfolding refusal_of
welcome hs name at rest none =
    let one = neither (some_if (is_full hs (length at)) TooMany) _ none in
    let two = neither (some_if (not (is_name name)) BadName) _ one.1 in
    let three = neither (option_map Duplicate (host_named hs name)) _ two.1 in
    let four = neither (some_if (has_no_address at rest) NoAddress) _ three.1 in
    let five = neither (two_rests hs rest) _ four.1 in
    let six = neither (overlap hs at) _ five.1 in
    record {
      room = holds_not (is_full hs (length at)) TooMany one.0;
      named = not-false (is_name name) (holds_not (not (is_name name)) BadName two.0);
      fresh = none_mapped Duplicate (host_named hs name) three.0;
      addressed = holds_not (has_no_address at rest) NoAddress four.0;
      one_rest = five.0;
      apart = six.0;
    }

-- Nothing is found: no element passes.
no_place_by : {A : Type 0} (t : A → Bool) (i : ℕ) (x : A) (xs : List A) (b : Bool) → cond b (Some i) (position_from t (i + 1) xs) ≡ None → (position_from t (i + 1) xs ≡ None → list_all (λ y. not (t y)) xs ≡ true) → (not b && list_all (λ y. not (t y)) xs) ≡ true
no_place_by t i x xs true h rest = cc
no_place_by t i x xs false h rest = rest h

pub no_place : {A : Type 0} (t : A → Bool) (i : ℕ) (xs : List A) → position_from t i xs ≡ None → list_all (λ x. not (t x)) xs ≡ true
no_place t i [] h = refl
no_place t i (x ∷ xs) h = no_place_by t i x xs (t x) h (no_place t (i + 1) xs)

all_true : (hs : List Host) → list_all (λ h. true) hs ≡ true
all_true [] = refl
all_true (h ∷ hs) = all_true hs

-- The later rest host.
no_rest_pair : (hs : List Host) (rest : Bool) → two_rests hs rest ≡ None → list_all (λ h. not (rest && h.rest)) hs ≡ true
no_rest_pair hs true h = no_place (λ (g : Host). g.rest) 0 hs (none_mapped TwoRests (rest_of hs) h)
no_rest_pair hs false h = all_true hs

-- If no list has a prefix that overlaps p, no prefix of all lists does.
none_of_list_by : (t : Prefix → Bool) (xs : List Prefix) (b : Bool) → not (b || list_any t xs) ≡ true → (not (list_any t xs) ≡ true → list_all (λ x. not (t x)) xs ≡ true) → (not b && list_all (λ x. not (t x)) xs) ≡ true
none_of_list_by t xs true h rest = cc
none_of_list_by t xs false h rest = rest h

none_of_list : (t : Prefix → Bool) (xs : List Prefix) → not (list_any t xs) ≡ true → list_all (λ x. not (t x)) xs ≡ true
none_of_list t [] h = refl
none_of_list t (x ∷ xs) h = none_of_list_by t xs (t x) h (none_of_list t xs)

none_of_lists : (t : Prefix → Bool) (owned : List (List Prefix)) → list_all (λ ps. not (list_any t ps)) owned ≡ true → list_all (λ x. not (t x)) (flat_map (λ ps. ps) owned) ≡ true
none_of_lists t [] h = refl
none_of_lists t (ps ∷ owned) h =
    let parts = all_parts (λ qs. not (list_any t qs)) ps owned h in
    list_all-append (λ x. not (t x)) ps (flat_map (λ qs. qs) owned)
    ∙ and_from (list_all (λ x. not (t x)) ps) (list_all (λ x. not (t x)) (flat_map (λ qs. qs) owned)) (none_of_list t ps parts.0) (none_of_lists t owned parts.1)

-- No earlier prefix overlaps p: neither one of the others nor an earlier one of the same host.
none_meets : (owned : List (List Prefix)) (own : List Prefix) (p : Prefix) → meeting owned own p ≡ None → list_all (λ q. not (meets p q)) (flat_map (λ ps. ps) owned ++ own) ≡ true
none_meets owned own p none =
    let lists : list_all (λ ps. not (list_any (meets p) ps)) (owned ++ own ∷ []) ≡ true = no_place (λ (ps : List Prefix). list_any (meets p) ps) 0 (owned ++ own ∷ []) none in
    let joined : flat_map (λ ps. ps) (owned ++ own ∷ []) ≡ flat_map (λ ps. ps) owned ++ own =
    flat_map-append (λ (ps : List Prefix). ps) owned (own ∷ []) ∙ ap (λ qs. flat_map (λ (ps : List Prefix). ps) owned ++ qs) (append-nil own) in
    ap (list_all (λ q. not (meets p q))) (sym joined) ∙ none_of_lists (meets p) (owned ++ own ∷ []) lists

apart_from : (owned : List (List Prefix)) (own at : List Prefix) → overlap_from owned own at ≡ None → no_pair meets (flat_map (λ ps. ps) owned ++ own) ≡ true → no_pair meets (flat_map (λ ps. ps) owned ++ (own ++ at)) ≡ true
apart_from owned own [] none h = ap (λ qs. no_pair meets (flat_map (λ (ps : List Prefix). ps) owned ++ qs)) (append-nil own) ∙ h
apart_from owned own (p ∷ ps) none h =
    let parts = neither (option_map (λ other. Overlap (length own) other) (meeting owned own p)) (overlap_from owned (own ++ p ∷ []) ps) none in
    let alone = none_meets owned own p (none_mapped (λ other. Overlap (length own) other) (meeting owned own p) parts.0) in
    let grown : no_pair meets (flat_map (λ qs. qs) owned ++ (own ++ p ∷ [])) ≡ true =
    ap (no_pair meets) (sym (append_assoc (flat_map (λ (qs : List Prefix). qs) owned) own (p ∷ [])))
    ∙ no_pair-push meets (flat_map (λ qs. qs) owned ++ own) p h alone in
    ap (λ qs. no_pair meets (flat_map (λ (ps : List Prefix). ps) owned ++ qs)) (sym (append_assoc own (p ∷ []) ps))
    ∙ apart_from owned (own ++ p ∷ []) ps parts.1 grown

all_prefixes-push : (hs : List Host) (h : Host) → all_prefixes (hs ++ h ∷ []) ≡ all_prefixes hs ++ h.prefixes
all_prefixes-push hs h =
    flat_map-append (λ (g : Host). g.prefixes) hs (h ∷ []) ∙ ap (λ qs. all_prefixes hs ++ qs) (append-nil h.prefixes)

pub still_apart : (hs : List Host) (at : List Prefix) → overlap hs at ≡ None → no_pair meets (all_prefixes hs) ≡ true → no_pair meets (all_prefixes hs ++ at) ≡ true
still_apart hs at none h =
    let before : flat_map (λ ps. ps) (prefix_lists hs) ++ [] ≡ all_prefixes hs = append-nil (flat_map (λ (ps : List Prefix). ps) (prefix_lists hs)) ∙ joined_lists hs in
    ap (λ qs. no_pair meets (qs ++ at)) (sym (joined_lists hs))
    ∙ apart_from (prefix_lists hs) [] at none (ap (no_pair meets) before ∙ h)

room_parts : (a b c d : ℕ) → (nat_le a b || nat_lt c d) ≡ false → (b < a) × (d ≤ c)
room_parts a b c d h = grind (arith, nat_tests)

-- A host without a cause for refusal may follow the others.
pub kept : (hs : List Host) (name : List ℕ) (at : List Prefix) (rest : Bool) → IsHosts hs → refusal_of hs name at rest ≡ None → list_all is_network at ≡ true → IsHosts (hs ++ record { name = name; prefixes = at; rest = rest } ∷ [])
kept hs name at rest known none networks =
    let ok = welcome hs name at rest none in
    let new : Host = record { name = name; prefixes = at; rest = rest } in
    let room = room_parts host_limit (length hs) prefix_limit (prefix_count hs + length at) ok.room in
    let joined = all_prefixes-push hs new in
    record {
      few = omega (arith, length-append hs (new ∷ []), room.0);
      few_prefixes = omega (arith, sum_by-append (λ (h : Host). length h.prefixes) hs (new ∷ []), room.1);
      named = list_all-push (λ (h : Host). is_name h.name) hs new known.named ok.named;
      distinct = no_pair-push (λ (h g : Host). bytes_eq h.name g.name) hs new known.distinct (no_place (λ (h : Host). bytes_eq name h.name) 0 hs ok.fresh);
      addressed = list_all-push (λ (h : Host). not (has_no_address h.prefixes h.rest)) hs new known.addressed (ap not ok.addressed);
      one_rest = no_pair-push (λ (h g : Host). h.rest && g.rest) hs new known.one_rest (no_rest_pair hs rest ok.one_rest);
      networks = ap (list_all is_network) joined ∙ list_all-append is_network (all_prefixes hs) at ∙ and_from (list_all is_network (all_prefixes hs)) (list_all is_network at) known.networks networks;
      apart = ap (no_pair meets) joined ∙ still_apart hs at ok.apart known.apart;
    }

-- A new name is inserted after the others.
entry_pushed_by : (e : List ℕ × Addresses) (es : List (List ℕ × Addresses)) (name : List ℕ) (v : Addresses) (i : ℕ) (b : Bool) → cond b (Some i) (position_from (λ h. bytes_eq name h.name) (i + 1) (hosts_view es)) ≡ None → (position_from (λ h. bytes_eq name h.name) (i + 1) (hosts_view es) ≡ None → hosts_view (insert_entry bytes_eq es name v) ≡ hosts_view es ++ host_view (name, v) ∷ []) → hosts_view (cond b ((e.0, v) ∷ es) (e ∷ insert_entry bytes_eq es name v)) ≡ host_view e ∷ (hosts_view es ++ host_view (name, v) ∷ [])
entry_pushed_by e es name v i true h rest = cc
entry_pushed_by e es name v i false h rest = ap (λ hs. host_view e ∷ hs) (rest h)

entry_pushed : (es : List (List ℕ × Addresses)) (name : List ℕ) (v : Addresses) (i : ℕ) → position_from (λ h. bytes_eq name h.name) i (hosts_view es) ≡ None → hosts_view (insert_entry bytes_eq es name v) ≡ hosts_view es ++ host_view (name, v) ∷ []
entry_pushed [] name v i h = refl
entry_pushed (e ∷ es) name v i h = entry_pushed_by e es name v i (bytes_eq name e.0) h (entry_pushed es name v (i + 1))

-- The hosts after the insertion of a host without a cause for refusal.
pub pushed : (hs : List Host) (es fs : List (List ℕ × Addresses)) (name : List ℕ) (v : Addresses) (at : List Prefix) (rest : Bool) → hosts_view es ≡ hs → refusal_of hs name at rest ≡ None → fs ≡ insert_entry bytes_eq es name v → v.prefixes.items ≡ at → v.rest ≡ rest → hosts_view fs ≡ hs ++ record { name = name; prefixes = at; rest = rest } ∷ []
pushed hs es fs name v at rest seen none inserted items mark =
    let fresh : host_named (hosts_view es) name ≡ None = ap (λ gs. host_named gs name) seen ∙ (welcome hs name at rest none).fresh in
    ap hosts_view inserted
    ∙ entry_pushed es name v 0 fresh
    ∙ (λ i. seen i ++ record { name = name; prefixes = items i; rest = mark i } ∷ [])

pub still_hosts : (hs : List Host) (es fs : List (List ℕ × Addresses)) (name : List ℕ) (at : List Prefix) (rest : Bool) → hosts_view es ≡ hs → IsHosts (hosts_view es) → refusal_of hs name at rest ≡ None → list_all is_network at ≡ true → hosts_view fs ≡ hs ++ record { name = name; prefixes = at; rest = rest } ∷ [] → IsHosts (hosts_view fs)
still_hosts hs es fs name at rest seen known none networks grown =
    rw grown (kept hs name at rest (rw seen at known) none networks)

-- The first of five causes, tested in order.
causes_joined : (a b c d e : Option HostRefusal) → option_or (option_or (option_or (option_or a b) c) d) e ≡ first_of (a ∷ b ∷ c ∷ d ∷ e ∷ [])
causes_joined (Some x) b c d e = refl
causes_joined None (Some x) c d e = refl
causes_joined None None (Some x) d e = refl
causes_joined None None None (Some x) e = refl
causes_joined None None None None (Some x) = refl
causes_joined None None None None None = refl

pub causes_behind_room : (hs : List Host) (name : List ℕ) (at : List Prefix) (rest : Bool) → is_full hs (length at) ≡ false → option_or (option_or (option_or (option_or (bad_name name) (duplicate hs name)) (no_address at rest)) (two_rests hs rest)) (overlap hs at) ≡ refusal_of hs name at rest
unfolding refusal_of
causes_behind_room hs name at rest room =
    causes_joined (bad_name name) (duplicate hs name) (no_address at rest) (two_rests hs rest) (overlap hs at)
    ∙ ap (λ b. option_or (some_if b TooMany) (first_of (bad_name name ∷ duplicate hs name ∷ no_address at rest ∷ two_rests hs rest ∷ overlap hs at ∷ []))) (sym room)

-- The values' prefixes are the hosts'.
pub values_lists : (es : List (List ℕ × Addresses)) → map (λ h. h.prefixes.items) (values_of es) ≡ prefix_lists (hosts_view es)
values_lists [] = refl
values_lists (e ∷ es) = ap (λ ps. e.1.prefixes.items ∷ ps) (values_lists es)
