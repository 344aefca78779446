-- The hosts of a description that none of conditions 6 to 14 refuses are valid, and its sizes are within the limits.
use Rattle.std.proofs.Common.{◌≡◌, ℕ, IsTrue, Bool, true, false, not, ◌&&◌, nat_lt, List, [], ◌∷◌, map, length, Option, Some, None, refl, sym, ap, ◌∙◌, arith}
use Rattle.std.proofs.lemmas.Bool.{and_parts}
use Rattle.std.proofs.lemmas.List.{length-map}
use Rattle.std.proofs.lemmas.List.Folds.{list_all-append, list_all-map}
use Rattle.std.specs.List.{cons_option, list_all, filter_map}
use Rattle.std.specs.Option.{option_map_or}
use Rattle.std.specs.Str.{bytes_eq}
use Rattle.text_core.specs.FirstMatch.{first_of}
use Rattle.text_core.specs.inner.Pairs.{no_pair}
use Rattle.desc_form.specs.RawDescription.{RawDescription, RawHost}
use Rattle.text_core.proofs.ConflictLaws.{no_pair-map}
use Rattle.desc_form.proofs.EntriesLaws.{length_texts, prefixes_of_texts, prefix_count_entries, networks, prefixes_apart}
use Rattle.desc_form.specs.HostConditions.{host_conditions}
use Rattle.desc_form.specs.inner.EntryView.{is_prefix}
use Rattle.desc_form.specs.Mentions.{NameUse, all_names}
use Rattle.desc_form.proofs.FactsLaws.{all_say_exact, all_say_prefixes, has_hosts, have_addresses, all_legal, names_differ, rests_apart, texts_apart}
use Rattle.desc_form.specs.inner.HostFacts.{HasHosts, texts}
use Rattle.desc_form.proofs.NoneLaws.{all_tested}
use Rattle.desc_form.proofs.RowLaws.{in_turn}
use Rattle.desc_form.specs.RawHosts.{network_host, network_hosts}
use Rattle.text_core.specs.Name.{is_name}
use Rattle.host_net.specs.Host.{Host, has_no_address}
use Rattle.host_net.specs.inner.Hosts.{IsHosts, is_network}
use Rattle.host_net.specs.Prefix.{meets, prefix_of}
use Rattle.host_net.specs.declared.prefix.Prefix.{Prefix}

-- 8: the names of hosts, in assigns and in flows are legal.
pub legal_names : (w : RawDescription) → first_of (host_conditions w) ≡ None → IsTrue (list_all (λ (m : NameUse). is_name m.name) (all_names w))
unfolding host_conditions
legal_names w h =
    let (_, (_, (names, _))) = (in_turn (host_conditions w)).0 h in
    (all_legal (all_names w)).0 names

-- A host has prefixes if it has entries.
addressed_said : (o : Option Prefix) (ps : List Prefix) (rest : Bool) → option_map_or (λ p. nat_lt 0 p.len) o false ≡ true
    → not rest ≡ true → not (has_no_address (cons_option o ps) rest) ≡ true
addressed_said None ps rest prefix address = cc
addressed_said (Some p) ps rest prefix address = address

addressed_host : (ts : List (List ℕ)) (rest : Bool) → list_all (λ t. is_prefix (prefix_of t)) ts ≡ true
    → not (has_no_address ts rest) ≡ true
    → not (has_no_address (filter_map prefix_of ts) rest) ≡ true
addressed_host [] rest prefixes address = address
addressed_host (t ∷ ts) rest prefixes address =
    let (prefix, _) = and_parts (is_prefix (prefix_of t)) _ prefixes in
    addressed_said (prefix_of t) (filter_map prefix_of ts) rest prefix address

addressed_hosts : (hs : List RawHost) → list_all (λ t. is_prefix (prefix_of t)) (texts hs) ≡ true
    → list_all (λ (h : RawHost). not (has_no_address h.at h.rest)) hs ≡ true
    → list_all (λ (h : Host). not (has_no_address h.prefixes h.rest)) (map network_host hs) ≡ true
addressed_hosts [] prefixes addresses = refl
addressed_hosts (h ∷ hs) prefixes addresses =
    let (here, behind) = and_parts (list_all (λ t. is_prefix (prefix_of t)) h.at) _ (sym (list_all-append (λ t. is_prefix (prefix_of t)) h.at (texts hs)) ∙ prefixes) in
    let (address, addresses_behind) = and_parts (not (has_no_address h.at h.rest)) _ addresses in
    rw (addressed_host h.at h.rest here address, addressed_hosts hs behind addresses_behind)

pub length-network_hosts : (w : RawDescription) → length (network_hosts w) ≡ length w.hosts
unfolding network_hosts
length-network_hosts w = length-map w.hosts network_host

all_hosts : (p : Host → Bool) (w : RawDescription) → list_all (λ h. p (network_host h)) w.hosts ≡ true → list_all p (network_hosts w) ≡ true
unfolding network_hosts
all_hosts p w h = list_all-map p network_host w.hosts ∙ h

no_pair_hosts : (r : Host → Host → Bool) (w : RawDescription) → no_pair (λ h g. r (network_host h) (network_host g)) w.hosts ≡ true
    → no_pair r (network_hosts w) ≡ true
unfolding network_hosts
no_pair_hosts r w h = no_pair-map r network_host w.hosts ∙ h

-- The hosts of a description that no condition on hosts refuses.
hosts_by : (w : RawDescription) → HasHosts w → IsHosts (network_hosts w)
unfolding network_hosts
hosts_by w has =
    let prefixes = (all_say_prefixes (texts w.hosts)).1 has.prefixes in
    record {
      few = omega (arith, length-network_hosts w, has.few_hosts);
      few_prefixes = omega (arith, prefix_count_entries w, length_texts w, has.few_prefixes);
      named = all_hosts (λ h. is_name h.name) w ((all_tested (λ (h : RawHost). is_name h.name) w.hosts).1 has.host_names);
      distinct = no_pair_hosts (λ h g. bytes_eq h.name g.name) w ((names_differ w.hosts).1 has.distinct);
      addressed = addressed_hosts w.hosts prefixes ((have_addresses w.hosts).1 has.addressed);
      one_rest = no_pair_hosts (λ h g. h.rest && g.rest) w ((rests_apart w.hosts).1 has.one_rest);
      networks = ap (list_all is_network) (prefixes_of_texts w) ∙ networks (texts w.hosts) prefixes ((all_say_exact (texts w.hosts)).1 has.exact);
      apart = ap (no_pair meets) (prefixes_of_texts w) ∙ prefixes_apart (texts w.hosts) ((texts_apart (texts w.hosts)).1 has.apart);
    }

pub IsHosts-network_hosts : (w : RawDescription) → first_of (host_conditions w) ≡ None → IsHosts (network_hosts w)
IsHosts-network_hosts w h = hosts_by w ((has_hosts w).0 h)
