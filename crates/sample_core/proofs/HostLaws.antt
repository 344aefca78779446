-- The hosts of the sample have legal names and disjoint addresses.
use Rattle.std.proofs.Common.{◌≡◌, ◌≢◌, IsTrue, ℕ, ◌+◌, ◌*◌, ◌^◌, ◌≤◌, ◌<◌, true, List, [], ◌∷◌, ◌++◌, length, map, codes, decimal, Some, All, AllPairs, inl, refl, sym, ap, subst, ◌∙◌, arith}
use Rattle.std.proofs.lemmas.List.Elements.{All-nil, All-from_recursion}
use Rattle.std.specs.List.{list_all}
use Rattle.desc_form.specs.RawDescription.{RawInvariant}
use Rattle.desc_form.specs.RawFlow.{RawFlow}
use Rattle.desc_form.specs.inner.HostFacts.{AreApart, HasAddress, HasHosts, SaysExact, SaysPrefix, texts}
use Rattle.host_net.specs.Limits.{host_limit}
use Rattle.host_net.specs.Prefix.{address_text, covers, is_exact, octet, prefix_of, prefix_text, prefix_with}
use Rattle.host_net.proofs.PrefixTextLaws.{prefix_of-read}
use Rattle.host_net.specs.inner.PrefixView.{ShareAddress}
use Rattle.host_net.specs.declared.prefix.Prefix.{Prefix}
use Rattle.text_core.proofs.DecimalLaws.{decimal_digits}
use Rattle.text_core.proofs.FirstsLaws.{some_same}
use Rattle.text_core.specs.Name.{is_name, is_name_byte}
use Rattle.std.proofs.lemmas.Fmt.{decimal_injective, length-decimal-le}
use Rattle.std.proofs.lemmas.Bool.{and_parts}
use Rattle.std.proofs.lemmas.Bool.Decides.{nat_tests}
use Rattle.std.specs.Char.{is_ascii_digit}
use Rattle.std.specs.Fmt.{digits}
use Rattle.std.specs.Str.{all_ascii_digits}
use Rattle.sample_core.specs.SampleTable.{care_table, hosts_in_care, level_table, sample_hosts, sample_name, sample_prefix}
use Rattle.sample_core.specs.inner.SampleRaw.{sample_assign, sample_host, sample_raw}
use Rattle.toml.specs.Data.{Members}
use Rattle.sample_core.proofs.NumberLaws.{IsBelow, range_ascends, hosts_below, care_below, each_made, pairs_made, length_made}

-- ---- names

digit_named : (b : ℕ) → is_ascii_digit b ≡ true → is_name_byte b ≡ true
digit_named b digit = rw digit refl

digits_named : (bs : List ℕ) → all_ascii_digits bs ≡ true → list_all is_name_byte bs ≡ true
digits_named [] digits = refl
digits_named (b ∷ bs) digits =
    let (here, behind) = and_parts (is_ascii_digit b) _ digits in
    rw (digit_named b here) (digits_named bs behind)

short_name : (bs : List ℕ) → length bs ≤ 3 → list_all is_name_byte bs ≡ true → is_name (codes "h" ++ bs) ≡ true
short_name [] short named = refl
short_name (b ∷ []) short named = rw named refl
short_name (b ∷ c ∷ []) short named = rw named refl
short_name (b ∷ c ∷ d ∷ []) short named = rw named refl
short_name (b ∷ c ∷ d ∷ e ∷ bs) short named = absurd (omega (arith, short))

pub name_legal : (k : ℕ) → k < host_limit → IsTrue (is_name (sample_name k))
unfolding sample_name
name_legal k small =
    short_name (decimal k) (length-decimal-le 3 k (omega arith) (omega (arith, small)) (omega (arith, small)))
    (digits_named (decimal k) (decimal_digits k (omega (arith, small))))

behind_h : (b c : List ℕ) → codes "h" ++ b ≡ codes "h" ++ c → b ≡ c
behind_h b c same = cc

pub names_differ : (i j : ℕ) → i < host_limit → j < host_limit → i < j → sample_name i ≢ sample_name j
unfolding sample_name
names_differ i j small other lower same =
    let one = decimal_injective i j (omega (arith, small)) (omega (arith, other)) (behind_h (decimal i) (decimal j) same) in
    omega (arith, one, lower)

-- ---- prefixes

abbrev own_prefix : ℕ → Prefix
own_prefix k = prefix_with (10 * 2 ^ 24 + k) 32

own_octets : (k : ℕ) → k < host_limit
    → (octet (own_prefix k).addr 24 ≡ 10) × (octet (own_prefix k).addr 16 ≡ 0) × (octet (own_prefix k).addr 8 ≡ 0)
    × (octet (own_prefix k).addr 0 ≡ k)
unfolding octet
own_octets k small = (omega (arith, small), omega (arith, small), omega (arith, small), omega (arith, small))

ten_text : decimal 10 ≡ codes "10"
unfolding digits
ten_text = refl

zero_text : decimal 0 ≡ codes "0"
unfolding digits
zero_text = refl

own_address : (k : ℕ) → k < host_limit → address_text (own_prefix k).addr ≡ codes "10.0.0." ++ decimal k
unfolding address_text
own_address k small =
    let (first, second, third, fourth) = own_octets k small in
    rw (first, second, third, fourth, ten_text, zero_text) refl

prefix_written : (k : ℕ) → k < host_limit → sample_prefix k ≡ prefix_text (own_prefix k)
unfolding sample_prefix prefix_text digits
prefix_written k small = sym (ap (λ text. text ++ codes "/32") (own_address k small))

prefix_read : (k : ℕ) → k < host_limit → prefix_of (sample_prefix k) ≡ Some (own_prefix k)
prefix_read k small = prefix_of-read (sample_prefix k) (own_prefix k) (omega (arith, small)) (inl (prefix_written k small))

says_prefix : (k : ℕ) → k < host_limit → SaysPrefix (sample_prefix k)
says_prefix k small = (own_prefix k, prefix_read k small, omega arith)

own_exact : (k : ℕ) → IsTrue (is_exact (own_prefix k))
unfolding is_exact
own_exact k = grind (arith, nat_tests)

said_own : (k : ℕ) (p : Prefix) → k < host_limit → prefix_of (sample_prefix k) ≡ Some p → p ≡ own_prefix k
said_own k p small said = some_same p (own_prefix k) (sym said ∙ prefix_read k small)

says_exact : (k : ℕ) → k < host_limit → SaysExact (sample_prefix k)
says_exact k small p said = subst (λ (q : Prefix). IsTrue (is_exact q)) (sym (said_own k p small said)) (own_exact k)

own_apart : (i j : ℕ) → i < j → ShareAddress (own_prefix i) (own_prefix j) → ⊥
unfolding covers
own_apart i j lower (a, within, first, second) = grind (arith, nat_tests)

apart : (i j : ℕ) → i < host_limit → j < host_limit → i < j → AreApart (sample_prefix i) (sample_prefix j)
apart i j small other lower p q said_p said_q share =
    own_apart i j lower
    (subst (λ (x : Prefix). ShareAddress x (own_prefix j)) (said_own i p small said_p)
    (subst (λ (x : Prefix). ShareAddress p x) (said_own j q other said_q) share))

texts_made : (hosts : List ℕ) → texts (map sample_host hosts) ≡ map sample_prefix hosts
texts_made [] = refl
texts_made (k ∷ hosts) = ap (λ ts. sample_prefix k ∷ ts) (texts_made hosts)

-- ---- both

pub sample_has_hosts : (n : ℕ) → n ≤ host_limit → HasHosts (sample_raw n)
sample_has_hosts n few =
    let below : (k : ℕ) → k < n → k < host_limit = λ k small. omega (arith, small, few) in
    let entries = texts_made (sample_hosts n) in
    let counted : length (texts (map sample_host (sample_hosts n))) ≡ n = ap (λ ts. length ts) entries ∙ length_made sample_prefix 0 n in
    let every = hosts_below n in
    let ascending = range_ascends 0 n in
    record {
      version = inl refl;
      few_hosts = omega (arith, length_made sample_host 0 n, few);
      few_prefixes = omega (arith, counted, few);
      few_invariants = omega arith;
      few_templates = omega arith;
      host_names = each_made (λ h. IsTrue (is_name h.name)) sample_host n (λ k small. name_legal k (below k small)) (sample_hosts n) every;
      assign_names = both_named n below;
      flow_names = All-nil (λ (f : RawFlow). IsTrue (is_name f.from) × IsTrue (is_name f.to));
      distinct = pairs_made (λ h g. h.name ≢ g.name) sample_host n
          (λ i j small other lower. names_differ i j (below i small) (below j other) lower) (sample_hosts n) every ascending;
      prefixes = subst (All SaysPrefix) (sym entries)
          (each_made SaysPrefix sample_prefix n (λ k small. says_prefix k (below k small)) (sample_hosts n) every);
      exact = subst (All SaysExact) (sym entries)
          (each_made SaysExact sample_prefix n (λ k small. says_exact k (below k small)) (sample_hosts n) every);
      addressed = each_made HasAddress sample_host n (λ k small. (λ marked. cc, λ none. cc)) (sample_hosts n) every;
      one_rest = pairs_made (λ h g. h.rest ≡ true → g.rest ≡ true → ⊥) sample_host n (λ i j small other lower marked. cc)
          (sample_hosts n) every ascending;
      apart = subst (AllPairs AreApart) (sym entries)
          (pairs_made AreApart sample_prefix n (λ i j small other lower. apart i j (below i small) (below j other) lower)
          (sample_hosts n) every ascending);
    }
  where
    named_in : (made : ℕ → Members) (n : ℕ) → ((k : ℕ) → k < n → k < host_limit) → (hosts : List ℕ) → All (IsBelow n) hosts
        → All (λ a. IsTrue (is_name a.host)) (map (sample_assign made) hosts)
    named_in made n below hosts within =
        each_made (λ a. IsTrue (is_name a.host)) (sample_assign made) n (λ k small. name_legal k (below k small)) hosts within

    both_named : (n : ℕ) → ((k : ℕ) → k < n → k < host_limit)
        → All (λ i. All (λ a. IsTrue (is_name a.host)) i.assigns) (sample_raw n).invariants
    both_named n below =
        All-from_recursion (λ (i : RawInvariant). All (λ a. IsTrue (is_name a.host)) i.assigns) (sample_raw n).invariants
        (named_in level_table n below (sample_hosts n) (hosts_below n), (named_in care_table n below (hosts_in_care n) (care_below n), tt))
