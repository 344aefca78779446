-- Lemmas on entries: the prefixes of all hosts are those of the entries, and conditions on entries are conditions on
-- prefixes.
use Rattle.std.proofs.Common.{◌≡◌, ℕ, suc, ◌+◌, ◌≤◌, Bool, true, false, not, nat_lt, List, [], ◌∷◌, ◌++◌, map, length, Option, Some, None, refl, sym, ap, ◌∙◌, arith}
use Rattle.std.proofs.lemmas.Bool.{and_parts}
use Rattle.std.proofs.lemmas.Bool.Decides.{nat_tests}
use Rattle.std.proofs.lemmas.List.{length-map, map-append}
use Rattle.std.proofs.lemmas.List.Concat.{length-flat_map}
use Rattle.std.proofs.lemmas.List.Elements.{filter_map-append}
use Rattle.std.proofs.lemmas.List.Folds.{list_all-map}
use Rattle.std.specs.List.{cons_option, list_all, filter_map, flat_map}
use Rattle.std.specs.Option.{option_map_or}
use Rattle.text_core.specs.FirstMatch.{numbered_from}
use Rattle.text_core.specs.inner.Pairs.{no_pair}
use Rattle.desc_form.specs.RawDescription.{RawDescription, RawHost}
use Rattle.text_core.proofs.ConflictLaws.{no_pair-map}
use Rattle.desc_form.specs.HostConditions.{Entry, all_entries, entries_of, entries_meet}
use Rattle.desc_form.specs.inner.EntryView.{entries_at, entry_at, has_host_bits, is_prefix}
use Rattle.desc_form.specs.inner.HostFacts.{texts}
use Rattle.desc_form.specs.RawHosts.{network_host, network_hosts}
use Rattle.host_net.specs.Host.{Host}
use Rattle.host_net.specs.Hosts.{all_prefixes}
use Rattle.host_net.specs.inner.Hosts.{prefix_count}
use Rattle.host_net.specs.inner.Hosts.{is_network}
use Rattle.host_net.specs.Prefix.{is_exact, meets, prefix_of}
use Rattle.host_net.proofs.PrefixTextLaws.{prefix_of-fits}
use Rattle.host_net.specs.declared.prefix.Prefix.{Prefix}

said_of_host : (host k : ℕ) (ts : List (List ℕ))
    → map (λ (e : Entry). e.prefix) (map (entry_at host) (numbered_from k ts)) ≡ map prefix_of ts
said_of_host host k [] = refl
said_of_host host k (t ∷ ts) = ap (λ us. prefix_of t ∷ us) (said_of_host host (k + 1) ts)

said_from : (k : ℕ) (hs : List RawHost)
    → map (λ (e : Entry). e.prefix) (flat_map entries_of (numbered_from k hs)) ≡ map prefix_of (texts hs)
said_from k [] = refl
said_from k (h ∷ hs) =
    map-append (λ (e : Entry). e.prefix) (entries_at k h.at) (flat_map entries_of (numbered_from (k + 1) hs))
    ∙ (λ i. said_of_host k 1 h.at i ++ said_from (k + 1) hs i)
    ∙ sym (map-append prefix_of h.at (texts hs))

-- An entry has the prefix that its text denotes.
pub said_by_entries : (w : RawDescription) → map (λ (e : Entry). e.prefix) (all_entries w) ≡ map prefix_of (texts w.hosts)
unfolding all_entries
said_by_entries w = said_from 1 w.hosts

-- A test of all entries that depends only on their prefixes.
pub all_texts : (p : Option Prefix → Bool) (w : RawDescription)
    → list_all (λ (e : Entry). p e.prefix) (all_entries w) ≡ list_all (λ t. p (prefix_of t)) (texts w.hosts)
all_texts p w =
    sym (list_all-map p (λ (e : Entry). e.prefix) (all_entries w))
    ∙ ap (list_all p) (said_by_entries w)
    ∙ list_all-map p prefix_of (texts w.hosts)

pub no_pair_texts : (r : Option Prefix → Option Prefix → Bool) (w : RawDescription)
    → no_pair (λ (e f : Entry). r e.prefix f.prefix) (all_entries w) ≡ no_pair (λ t u. r (prefix_of t) (prefix_of u)) (texts w.hosts)
no_pair_texts r w =
    sym (no_pair-map r (λ (e : Entry). e.prefix) (all_entries w))
    ∙ ap (no_pair r) (said_by_entries w)
    ∙ no_pair-map r prefix_of (texts w.hosts)

pub length_texts : (w : RawDescription) → length (texts w.hosts) ≡ length (all_entries w)
length_texts w =
    sym (length-map (texts w.hosts) prefix_of)
    ∙ sym (ap length (said_by_entries w))
    ∙ length-map (all_entries w) (λ (e : Entry). e.prefix)

-- The prefixes of all hosts are those of their entries.
prefixes_from : (hs : List RawHost) → all_prefixes (map network_host hs) ≡ filter_map prefix_of (texts hs)
prefixes_from [] = refl
prefixes_from (h ∷ hs) =
    ap (λ ps. filter_map prefix_of h.at ++ ps) (prefixes_from hs) ∙ sym (filter_map-append prefix_of h.at (texts hs))

pub prefixes_of_texts : (w : RawDescription) → all_prefixes (network_hosts w) ≡ filter_map prefix_of (texts w.hosts)
unfolding network_hosts
prefixes_of_texts w = prefixes_from w.hosts

shorter_by : {A : Type 0} (o : Option A) (xs : List A) (n : ℕ) → length xs ≤ n → length (cons_option o xs) ≤ suc n
shorter_by None xs n h = omega arith
shorter_by (Some x) xs n h = omega arith

-- A filtered and mapped list is no longer than the original.
pub no_longer : {A B : Type 0} (f : A → Option B) (xs : List A) → length (filter_map f xs) ≤ length xs
no_longer f [] = omega arith
no_longer f (x ∷ xs) = shorter_by (f x) (filter_map f xs) (length xs) (no_longer f xs)

pub prefix_count_entries : (w : RawDescription) → prefix_count (network_hosts w) ≤ length (all_entries w)
prefix_count_entries w =
    let few = no_longer prefix_of (texts w.hosts) in
    let all : length (filter_map prefix_of (texts w.hosts)) ≡ prefix_count (network_hosts w) =
    sym (ap length (prefixes_of_texts w)) ∙ length-flat_map (λ (h : Host). h.prefixes) (network_hosts w) in
    omega (arith, few, all, length_texts w)

-- The prefix of an entry is a network, if it has at least one bit and no bits after its length.
network_said : (t : List ℕ) (o : Option Prefix) (ps : List Prefix) → prefix_of t ≡ o
    → option_map_or (λ p. nat_lt 0 p.len) o false ≡ true → not (option_map_or (λ p. not (is_exact p)) o false) ≡ true
    → list_all is_network ps ≡ true → list_all is_network (cons_option o ps) ≡ true
network_said t None ps said prefix exact all = cc
network_said t (Some p) ps said prefix exact all = grind (arith, nat_tests, prefix_of-fits t p said)

pub networks : (ts : List (List ℕ)) → list_all (λ t. is_prefix (prefix_of t)) ts ≡ true
    → list_all (λ t. not (has_host_bits (prefix_of t))) ts ≡ true
    → list_all is_network (filter_map prefix_of ts) ≡ true
networks [] prefixes exact = refl
networks (t ∷ ts) prefixes exact =
    let (prefix, prefixes_behind) = and_parts (is_prefix (prefix_of t)) _ prefixes in
    let (exact_here, exact_behind) = and_parts (not (has_host_bits (prefix_of t))) _ exact in
    network_said t (prefix_of t) (filter_map prefix_of ts) refl prefix exact_here (networks ts prefixes_behind exact_behind)

-- Entries that do not overlap have prefixes that do not overlap.
later_said : (p : Prefix) (o : Option Prefix) (qs : List Prefix) → not (entries_meet o (Some p)) ≡ true
    → list_all (λ q. not (meets q p)) qs ≡ true → list_all (λ q. not (meets q p)) (cons_option o qs) ≡ true
later_said p None qs here behind = behind
later_said p (Some q) qs here behind = rw (here, behind)

later_apart : (p : Prefix) (ts : List (List ℕ)) → list_all (λ t. not (entries_meet (prefix_of t) (Some p))) ts ≡ true
    → list_all (λ q. not (meets q p)) (filter_map prefix_of ts) ≡ true
later_apart p [] h = refl
later_apart p (t ∷ ts) h =
    let (here, behind) = and_parts (not (entries_meet (prefix_of t) (Some p))) _ h in
    later_said p (prefix_of t) (filter_map prefix_of ts) here (later_apart p ts behind)

apart_said : (o : Option Prefix) (ts : List (List ℕ)) → list_all (λ t. not (entries_meet (prefix_of t) o)) ts ≡ true
    → no_pair meets (filter_map prefix_of ts) ≡ true → no_pair meets (cons_option o (filter_map prefix_of ts)) ≡ true
apart_said None ts here behind = behind
apart_said (Some p) ts here behind = rw (later_apart p ts here, behind)

pub prefixes_apart : (ts : List (List ℕ)) → no_pair (λ t u. entries_meet (prefix_of t) (prefix_of u)) ts ≡ true
    → no_pair meets (filter_map prefix_of ts) ≡ true
prefixes_apart [] h = refl
prefixes_apart (t ∷ ts) h =
    let (here, behind) = and_parts (list_all (λ s. not (entries_meet (prefix_of s) (prefix_of t))) ts) _ h in
    apart_said (prefix_of t) ts here (prefixes_apart ts behind)
