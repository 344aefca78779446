-- Conditions 6 to 14 do not refuse a description if and only if the facts of HostFacts hold for it.
use Rattle.std.proofs.Common.{◌≡◌, ◌≢◌, ◌↔◌, ◌⊎◌, inl, inr, ℕ, ℤ, pos, zero, suc, ◌≤◌, ◌<◌, ◌+◌, ◌^◌, IsTrue, Bool, true, false, not, ◌&&◌, ◌||◌, nat_lt, List, [], ◌∷◌, length, slice_get, Option, Some, None, option_map, refl, sym, ap, subst, arith}
use Rattle.std.proofs.lemmas.Bool.{false≢true}
use Rattle.std.proofs.lemmas.Bool.Decides.{Decides-int_eq, nat_tests}
use Rattle.std.specs.Bool.{Decides}
use Rattle.std.specs.List.{All, AllPairs, list_all}
use Rattle.std.specs.Ordering.{int_eq}
use Rattle.std.specs.Str.{bytes_eq}
use Rattle.desc_form.specs.Refusals.{refused, refused_item}
use Rattle.desc_form.specs.RawDescription.{RawDescription, RawAssign, RawHost, RawInvariant}
use Rattle.desc_form.specs.RawFlow.{RawFlow}
use Rattle.desc_form.specs.declared.refusal.Place.{Place}
use Rattle.desc_form.specs.declared.refusal.Place.TheVariants as place
use Rattle.desc_form.specs.declared.refusal.Refusal.{Refusal}
use Rattle.desc_form.specs.declared.refusal.Why.TheVariants.{BadVersion, TooMany, BadName, BadPrefix, HostBits, NoAddress}
use Rattle.desc_form.proofs.EntriesLaws.{all_texts, length_texts, no_pair_texts}
use Rattle.desc_form.specs.HostConditions.{Entry, all_entries, bad_name, bad_prefix, bad_version, beyond, duplicate_host, entries_meet, host_bits, host_conditions, no_address, overlap, template_limit, too_many, two_rests}
use Rattle.desc_form.specs.inner.EntryView.{has_host_bits, is_prefix, too_many_prefixes}
use Rattle.desc_form.specs.inner.HostFacts.{AreApart, HasAddress, HasHosts, SaysExact, SaysPrefix, texts}
use Rattle.desc_form.specs.Mentions.{NameUse, all_names}
use Rattle.desc_form.proofs.NamesLaws.{all_assigns, all_ends, names_tested}
use Rattle.desc_form.proofs.NoneLaws.{all_tested, none_where}
use Rattle.desc_form.proofs.RowLaws.{and_words, as_it_is, differ_words, each_row, each_says, few_words, in_turn, never_words, none_says, not_words, numbered_pairs_row, numbered_row, pairs_row, pairs_say, passed_row, same_test, then_words}
use Rattle.host_net.specs.Limits.{host_limit, prefix_limit}
use Rattle.host_net.specs.Host.{has_no_address}
use Rattle.host_net.specs.Limits.{invariant_limit}
use Rattle.host_net.specs.inner.PrefixView.{ShareAddress}
use Rattle.host_net.specs.Prefix.{is_exact, meets, prefix_of}
use Rattle.host_net.proofs.PrefixLaws.{meets_ShareAddress}
use Rattle.host_net.proofs.PrefixTextLaws.{prefix_of-fits}
use Rattle.host_net.specs.declared.prefix.Prefix.{Prefix}
use Rattle.text_core.specs.FirstMatch.{first_of}
use Rattle.text_core.specs.inner.Pairs.{no_pair}
use Rattle.text_core.proofs.FirstsLaws.{none_mapped, some_same}
use Rattle.text_core.specs.Name.{is_name}

either_passes : (a b : Bool) {P Q : Type 0} → Decides a P → Decides b Q → ((a || b) ≡ true) ↔ (P ⊎ Q)
either_passes true b first second = (λ h. inl (first.0 refl), λ either. refl)
either_passes false b first second = (
  λ h. inr (second.0 h),
  λ either. elim either [ inl p ↦ absurd (false≢true (first.1 p)) | inr q ↦ second.1 q ],
)

-- Condition 6.

pub version_is : (v : ℤ) → (bad_version v ≡ None) ↔ ((v ≡ pos 1) ⊎ (v ≡ pos 2))
unfolding bad_version
version_is v =
    then_words (none_where (not (int_eq v (pos 1) || int_eq v (pos 2))) (refused BadVersion place.Document))
    (then_words (not_words (int_eq v (pos 1) || int_eq v (pos 2))) (either_passes (int_eq v (pos 1)) (int_eq v (pos 2)) (Decides-int_eq v (pos 1)) (Decides-int_eq v (pos 2))))

-- Condition 7.
none_beyond_limit : {A : Type 0} (limit : ℕ) (at_place : ℕ → Place) (xs : List A)
    → (beyond limit at_place xs ≡ None) ↔ (length xs ≤ limit)
none_beyond_limit limit at_place xs =
    then_words (none_where (nat_lt limit (length xs)) (refused TooMany (at_place (limit + 1)))) (few_words limit (length xs))

none_beyond : {A : Type 0} (xs : List A) (limit : ℕ) → slice_get xs limit ≡ None → length xs ≤ limit
none_beyond [] limit h = omega arith
none_beyond (x ∷ xs) zero h = cc
none_beyond (x ∷ xs) (suc limit) h =
    let behind = none_beyond xs limit h in
    omega arith

nothing_below : (n : ℕ) → suc n ≤ 0 → ⊥
nothing_below n h = omega (arith, h)

nothing_at : {A : Type 0} (xs : List A) (limit : ℕ) → length xs ≤ limit → slice_get xs limit ≡ None
nothing_at [] limit few = refl
nothing_at (x ∷ xs) zero few = absurd (nothing_below (length xs) few)
nothing_at (x ∷ xs) (suc limit) few = nothing_at xs limit (omega (arith, few))

few_entries : (es : List Entry) → (too_many_prefixes es ≡ None) ↔ (length es ≤ prefix_limit)
few_entries es =
    let tell : Entry → Refusal = λ e. refused_item TooMany (place.Host e.host) e.item in (
      λ h. none_beyond es prefix_limit (none_mapped tell (slice_get es prefix_limit) h),
      λ few. ap (option_map tell) (nothing_at es prefix_limit few),
    )

sizes_are : (w : RawDescription)
    → (too_many w.hosts (all_entries w) w.invariants w.templates ≡ None)
    ↔ ((length w.hosts ≤ host_limit) × (length (texts w.hosts) ≤ prefix_limit) × (length w.invariants ≤ invariant_limit) × (length w.templates ≤ template_limit))
unfolding too_many
sizes_are w =
    let hosts = none_beyond_limit host_limit place.Host w.hosts in
    let entries = few_entries (all_entries w) in
    let invariants = none_beyond_limit invariant_limit place.Invariant w.invariants in
    let templates = none_beyond_limit template_limit place.Template w.templates in
    let turn = in_turn (beyond host_limit place.Host w.hosts ∷ too_many_prefixes (all_entries w) ∷ beyond invariant_limit place.Invariant w.invariants ∷ beyond template_limit place.Template w.templates ∷ []) in
    let count = length_texts w in (
      λ h. let (first, (second, (third, (fourth, _)))) = turn.0 h in
          (hosts.0 first, subst (λ n. n ≤ prefix_limit) (sym count) (entries.0 second), invariants.0 third, templates.0 fourth),
      λ (few_hosts, few_prefixes, few_invariants, few_templates).
          turn.1 (hosts.1 few_hosts, (entries.1 (subst (λ n. n ≤ prefix_limit) count few_prefixes), (invariants.1 few_invariants, (templates.1 few_templates, tt)))),
    )

-- Condition 8.
pub all_legal : (names : List NameUse) → (bad_name names ≡ None) ↔ (list_all (λ (m : NameUse). is_name m.name) names ≡ true)
unfolding bad_name
all_legal names = passed_row (λ (m : NameUse). is_name m.name) (λ (m : NameUse). refused_item BadName m.place m.item) names

assigns_named : (is : List RawInvariant)
    → (all_assigns is_name is ≡ true) ↔ All (λ (i : RawInvariant). All (λ (a : RawAssign). IsTrue (is_name a.host)) i.assigns) is
assigns_named is =
    each_says (λ (i : RawInvariant). list_all (λ (a : RawAssign). is_name a.host) i.assigns)
    (λ (i : RawInvariant). All (λ (a : RawAssign). IsTrue (is_name a.host)) i.assigns)
    (λ i. all_tested (λ (a : RawAssign). is_name a.host) i.assigns) is

ends_named : (fs : List RawFlow)
    → (all_ends is_name fs ≡ true) ↔ All (λ (f : RawFlow). IsTrue (is_name f.from) × IsTrue (is_name f.to)) fs
ends_named fs =
    each_says (λ (f : RawFlow). is_name f.from && is_name f.to)
    (λ (f : RawFlow). IsTrue (is_name f.from) × IsTrue (is_name f.to))
    (λ f. and_words (is_name f.from) (is_name f.to) as_it_is as_it_is) fs

names_are : (w : RawDescription)
    → (bad_name (all_names w) ≡ None)
    ↔ (All (λ (h : RawHost). IsTrue (is_name h.name)) w.hosts
    × (All (λ (i : RawInvariant). All (λ (a : RawAssign). IsTrue (is_name a.host)) i.assigns) w.invariants
    × All (λ (f : RawFlow). IsTrue (is_name f.from) × IsTrue (is_name f.to)) w.flows))
names_are w =
    then_words (all_legal (all_names w))
    (then_words (same_test (names_tested is_name w))
    (and_words {P = All (λ (h : RawHost). IsTrue (is_name h.name)) w.hosts} (list_all (λ (h : RawHost). is_name h.name) w.hosts) _ (all_tested (λ (h : RawHost). is_name h.name) w.hosts)
    (and_words (all_assigns is_name w.invariants) (all_ends is_name w.flows) (assigns_named w.invariants) (ends_named w.flows))))

-- Condition 9.
abbrev pub same_name : RawHost → RawHost → Bool
same_name h g = bytes_eq h.name g.name

pub names_differ : (hs : List RawHost) → (no_pair same_name hs ≡ true) ↔ AllPairs (λ (h g : RawHost). h.name ≢ g.name) hs
names_differ hs = pairs_say same_name (λ (h g : RawHost). h.name ≢ g.name) (λ h g. differ_words h.name g.name) hs

hosts_differ : (hs : List RawHost) → (duplicate_host hs ≡ None) ↔ AllPairs (λ (h g : RawHost). h.name ≢ g.name) hs
unfolding duplicate_host
hosts_differ hs = then_words (numbered_pairs_row same_name _ hs) (names_differ hs)

-- Condition 10.
some_long : (n : ℕ) → nat_lt 0 n ≡ true → 0 < n
some_long n h = grind (arith, nat_tests)

long_some : (n : ℕ) → 0 < n → nat_lt 0 n ≡ true
long_some n h = grind (arith, nat_tests)

says_prefix : (o : Option Prefix) → (is_prefix o ≡ true) ↔ ((p : Prefix) × (o ≡ Some p) × (0 < p.len))
says_prefix None = (λ h. cc, λ (p, none, long). cc)
says_prefix (Some p) = (
  λ h. (p, refl, some_long p.len h),
  λ (q, same, long). let one : q ≡ p = sym (some_same p q same) in long_some p.len (subst (λ (x : Prefix). 0 < x.len) one long),
)

pub all_say_prefixes : (ts : List (List ℕ)) → (list_all (λ t. is_prefix (prefix_of t)) ts ≡ true) ↔ All SaysPrefix ts
all_say_prefixes ts = each_says (λ t. is_prefix (prefix_of t)) SaysPrefix (λ t. says_prefix (prefix_of t)) ts

all_prefixes : (w : RawDescription) → (bad_prefix (all_entries w) ≡ None) ↔ All SaysPrefix (texts w.hosts)
unfolding bad_prefix
all_prefixes w =
    then_words (passed_row (λ (e : Entry). is_prefix e.prefix) (λ (e : Entry). refused_item BadPrefix (place.Host e.host) e.item) (all_entries w))
    (then_words (same_test (all_texts is_prefix w)) (all_say_prefixes (texts w.hosts)))

-- Condition 11.
says_exact : (o : Option Prefix) → (has_host_bits o ≡ false) ↔ ((p : Prefix) → o ≡ Some p → IsTrue (is_exact p))
says_exact None = (λ h p none. cc, λ all. refl)
says_exact (Some p) =
    let passed = not_words (is_exact p) in (
      λ h q same. subst (λ (x : Prefix). IsTrue (is_exact x)) (some_same p q same) (passed.0 h),
      λ all. passed.1 (all p refl),
    )

pub all_say_exact : (ts : List (List ℕ)) → (list_all (λ t. not (has_host_bits (prefix_of t))) ts ≡ true) ↔ All SaysExact ts
all_say_exact ts = none_says (λ t. has_host_bits (prefix_of t)) SaysExact (λ t. says_exact (prefix_of t)) ts

all_exact : (w : RawDescription) → (host_bits (all_entries w) ≡ None) ↔ All SaysExact (texts w.hosts)
unfolding host_bits
all_exact w =
    then_words (each_row (λ (e : Entry). has_host_bits e.prefix) (λ (e : Entry). refused_item HostBits (place.Host e.host) e.item) (all_entries w))
    (then_words (same_test (all_texts (λ o. not (has_host_bits o)) w)) (all_say_exact (texts w.hosts)))

-- Condition 12.
addressed : (ts : List (List ℕ)) (rest : Bool) → (has_no_address ts rest ≡ false) ↔ ((rest ≡ true) ↔ (ts ≡ []))
addressed [] true = (λ h. (λ marked. refl, λ none. refl), λ iff. refl)
addressed [] false = (λ h. cc, λ iff. absurd (false≢true (iff.1 refl)))
addressed (t ∷ ts) true = (λ h. cc, λ iff. let none = iff.0 refl in cc)
addressed (t ∷ ts) false = (λ h. (λ marked. cc, λ none. cc), λ iff. refl)

pub have_addresses : (hs : List RawHost)
    → (list_all (λ (h : RawHost). not (has_no_address h.at h.rest)) hs ≡ true) ↔ All HasAddress hs
have_addresses hs = none_says (λ (h : RawHost). has_no_address h.at h.rest) HasAddress (λ h. addressed h.at h.rest) hs

all_addressed : (hs : List RawHost) → (no_address hs ≡ None) ↔ All HasAddress hs
unfolding no_address
all_addressed hs =
    then_words (numbered_row (λ (h : RawHost). has_no_address h.at h.rest) (λ h. refused NoAddress (place.Host h.number)) hs)
    (have_addresses hs)

-- Condition 13.
not_both : (a b : Bool) → ((b && a) ≡ false) ↔ (a ≡ true → b ≡ true → ⊥)
not_both true true = (λ h. cc, λ never. absurd (never refl refl))
not_both true false = (λ h first second. false≢true second, λ never. refl)
not_both false true = (λ h first second. false≢true first, λ never. refl)
not_both false false = (λ h first second. false≢true first, λ never. refl)

abbrev pub both_rest : RawHost → RawHost → Bool
both_rest h g = h.rest && g.rest

abbrev pub AreNotBothRest : RawHost → RawHost → Type 0
AreNotBothRest h g = h.rest ≡ true → g.rest ≡ true → ⊥

pub rests_apart : (hs : List RawHost) → (no_pair both_rest hs ≡ true) ↔ AllPairs AreNotBothRest hs
rests_apart hs = pairs_say both_rest AreNotBothRest (λ h g. not_both h.rest g.rest) hs

one_rest : (hs : List RawHost) → (two_rests hs ≡ None) ↔ AllPairs AreNotBothRest hs
unfolding two_rests
one_rest hs = then_words (numbered_pairs_row both_rest _ hs) (rests_apart hs)

-- Condition 14.
swapped : (p q : Prefix) → ShareAddress p q → ShareAddress q p
swapped p q (a, within, first, second) = (a, within, second, first)

meeting : (p q : Prefix) → p.addr < 2 ^ 32 → q.addr < 2 ^ 32 → (meets q p ≡ false) ↔ (ShareAddress p q → ⊥)
meeting p q fits others =
    let share = meets_ShareAddress q p others fits in
    never_words (meets q p) (ShareAddress p q) (λ met. swapped q p (share.0 met)) (λ shared. share.1 (swapped p q shared))

said_apart : (s t : List ℕ) (o u : Option Prefix) → prefix_of s ≡ o → prefix_of t ≡ u
    → (entries_meet u o ≡ false) ↔ ((p q : Prefix) → o ≡ Some p → u ≡ Some q → ShareAddress p q → ⊥)
said_apart s t o None read other = (λ h p q is none. cc, λ never. refl)
said_apart s t None (Some q) read other = (λ h p x none is. cc, λ never. refl)
said_apart s t (Some p) (Some q) read other =
    let apart = meeting p q (prefix_of-fits s p read) (prefix_of-fits t q other) in (
      λ h x y is_x is_y shared. apart.0 h
          (subst (λ (z : Prefix). ShareAddress z q) (sym (some_same p x is_x))
          (subst (λ (z : Prefix). ShareAddress x z) (sym (some_same q y is_y)) shared)),
      λ never. apart.1 (never p q refl refl),
    )

abbrev pub texts_meet : List ℕ → List ℕ → Bool
texts_meet t u = entries_meet (prefix_of t) (prefix_of u)

pub texts_apart : (ts : List (List ℕ)) → (no_pair texts_meet ts ≡ true) ↔ AllPairs AreApart ts
texts_apart ts = pairs_say texts_meet AreApart (λ s t. said_apart s t (prefix_of s) (prefix_of t) refl refl) ts

all_apart : (w : RawDescription) → (overlap (all_entries w) ≡ None) ↔ AllPairs AreApart (texts w.hosts)
unfolding overlap
all_apart w =
    then_words (pairs_row (λ (e f : Entry). entries_meet e.prefix f.prefix) _ (all_entries w))
    (then_words (same_test (no_pair_texts entries_meet w)) (texts_apart (texts w.hosts)))

-- Conditions 6 to 14 do not refuse a description if and only if these facts hold for it.
pub has_hosts : (w : RawDescription) → (first_of (host_conditions w) ≡ None) ↔ HasHosts w
unfolding host_conditions
has_hosts w = (
  λ none.
      let (version, (sizes, (names, (distinct, (prefixes, (exact, (addressed, (rests, (apart, _))))))))) = (in_turn (host_conditions w)).0 none in
      let (few_hosts, few_prefixes, few_invariants, few_templates) = (sizes_are w).0 sizes in
      let (host_names, (assign_names, flow_names)) = (names_are w).0 names in
      record {
        version = (version_is w.version).0 version;
        few_hosts = few_hosts;
        few_prefixes = few_prefixes;
        few_invariants = few_invariants;
        few_templates = few_templates;
        host_names = host_names;
        assign_names = assign_names;
        flow_names = flow_names;
        distinct = (hosts_differ w.hosts).0 distinct;
        prefixes = (all_prefixes w).0 prefixes;
        exact = (all_exact w).0 exact;
        addressed = (all_addressed w.hosts).0 addressed;
        one_rest = (one_rest w.hosts).0 rests;
        apart = (all_apart w).0 apart;
      },
  λ is.
      (in_turn (host_conditions w)).1 (
        (version_is w.version).1 is.version,
        (
          (sizes_are w).1 (is.few_hosts, is.few_prefixes, is.few_invariants, is.few_templates),
          (
            (names_are w).1 (is.host_names, (is.assign_names, is.flow_names)),
            (
              (hosts_differ w.hosts).1 is.distinct,
              (
                (all_prefixes w).1 is.prefixes,
                (
                  (all_exact w).1 is.exact,
                  (
                    (all_addressed w.hosts).1 is.addressed,
                    (
                      (one_rest w.hosts).1 is.one_rest,
                      ((all_apart w).1 is.apart, tt),
                    ),
                  ),
                ),
              ),
            ),
          ),
        ),
      ),
)
