-- An accepted description is accepted in version 2 too, and describes the same network.
use Rattle.std.proofs.Common.{◌≡◌, ◌≤◌, ℕ, pos, true, false, Bool, ◌||◌, List, [], ◌∷◌, length, codes, Option, Some, None, Ok, Result, Ordering, Less, Equal, Greater, nat_cmp, is_eq, refl, ap, ◌∙◌, sym, subst, arith}
use Rattle.std.proofs.lemmas.Bool.{and_from, and_parts}
use Rattle.std.proofs.lemmas.Bool.Decides.{nat_tests}
use Rattle.std.proofs.lemmas.Cmp.{nat_list_cmp_total}
use Rattle.std.specs.Cmp.{alike_right, tied_itself}
use Rattle.std.specs.Cmp.Lexicographic.{slice_cmp}
use Rattle.std.specs.List.{list_any}
use Rattle.std.specs.Ordering.{int_eq, match_ordering}
use Rattle.std.specs.Prelude.{IsSomeAnd, MatchOption, is_some, nat_lt, if◌then◌else◌}
use Rattle.std.specs.Str.{bytes_eq}
use Rattle.toml.specs.Data.{Data, string, integer, float, boolean, datetime, array, table, Items, no_items, item, Members, no_members, member, depth, members_depth, get_member, has_valid_dates, items_have_valid_dates, members_have_valid_dates}
use Rattle.desc_core.specs.Conditions.{byte_limit, table_conditions}
use Rattle.desc_core.specs.Description.{described, described_by, described_by_table}
use Rattle.desc_core.proofs.DescriptionLaws.{accepted, by_groups}
use Rattle.desc_core.specs.Document.{document}
use Rattle.desc_core.specs.Migrated.{migrated, with_member}
use Rattle.desc_core.proofs.TableFactsLaws.{no_refusal}
use Rattle.desc_core.specs.UseConditions.{bad_attribute, undeclared_host, use_conditions}
use Rattle.desc_core.specs.RawNetwork.{asked_of, invariants_of, network_of, services_in}
use Rattle.desc_form.specs.RawDescription.{RawDescription, written}
use Rattle.desc_form.specs.inner.RawForm.{IsAnswers, IsArray, IsFlow, IsHost, IsInteger, IsInvariant, IsTable, IsTemplate, IsRawOf, template_names}
use Rattle.desc_form.proofs.RawDescriptionLaws.{formed_where_written, written_stands}
use Rattle.desc_form.proofs.RawUniqueLaws.{written_is}
use Rattle.desc_form.specs.declared.refusal.Refusal.{Refusal}
use Rattle.desc_form.specs.HostConditions.{all_entries, bad_version, host_conditions}
use Rattle.desc_form.specs.Mentions.{all_names, used_names}
use Rattle.desc_form.specs.RawHosts.{network_hosts}
use Rattle.net_core.specs.Network.{Network}
use Rattle.table_core.specs.Shallow.{IsShallow, is_plain, items_are_plain, members_are_plain}
use Rattle.table_core.specs.Tables.{all_keys, has_only}
use Rattle.text_core.specs.FirstMatch.{first_of}
use Rattle.text_core.proofs.FirstsLaws.{neither}

-- ---- one more member

get_by : (o : Ordering) (k l : List ℕ) (d e : Data) (ms : Members) → slice_cmp nat_cmp k l ≡ o → get_member k (with_member k d ms) ≡ Some d
    → get_member k (match_ordering o (member k d (member l e ms)) (member l d ms) (member l e (with_member k d ms))) ≡ Some d
get_by Less k l d e ms order behind = rw (tied_itself nat_list_cmp_total k) refl
get_by Equal k l d e ms order behind = rw order refl
get_by Greater k l d e ms order behind = rw order behind

pub get_with : (k : List ℕ) (d : Data) (ms : Members) → get_member k (with_member k d ms) ≡ Some d
get_with k d no_members = rw (tied_itself nat_list_cmp_total k) refl
get_with k d (member l e ms) = get_by (slice_cmp nat_cmp k l) k l d e ms refl (get_with k d ms)

passed_over : {A : Type 0} (o : Ordering) (x y : A) → is_eq o ≡ false → match_ordering o x y x ≡ x
passed_over Less x y other = refl
passed_over Equal x y other = cc
passed_over Greater x y other = refl

other_by : (o : Ordering) (k l other : List ℕ) (d e : Data) (ms : Members) → slice_cmp nat_cmp k l ≡ o → is_eq (slice_cmp nat_cmp other k) ≡ false
    → get_member other (with_member k d ms) ≡ get_member other ms
    → get_member other (match_ordering o (member k d (member l e ms)) (member l d ms) (member l e (with_member k d ms))) ≡ get_member other (member l e ms)
other_by Less k l other d e ms order differs behind = passed_over (slice_cmp nat_cmp other k) (get_member other (member l e ms)) (Some d) differs
other_by Equal k l other d e ms order differs behind =
    let same : is_eq (slice_cmp nat_cmp other l) ≡ false = ap is_eq (sym (alike_right nat_list_cmp_total k l other order)) ∙ differs in
    passed_over (slice_cmp nat_cmp other l) (get_member other ms) (Some d) same
    ∙ sym (passed_over (slice_cmp nat_cmp other l) (get_member other ms) (Some e) same)
other_by Greater k l other d e ms order differs behind =
    ap (λ (rest : Option Data). match_ordering (slice_cmp nat_cmp other l) rest (Some e) rest) behind

-- The value at another key.
pub get_other : (k other : List ℕ) (d : Data) (ms : Members) → is_eq (slice_cmp nat_cmp other k) ≡ false
    → get_member other (with_member k d ms) ≡ get_member other ms
get_other k other d no_members differs = passed_over (slice_cmp nat_cmp other k) None (Some d) differs
get_other k other d (member l e ms) differs = other_by (slice_cmp nat_cmp k l) k l other d e ms refl differs (get_other k other d ms differs)

keys_by : (test : List ℕ → Bool) (o : Ordering) (k l : List ℕ) (d e : Data) (ms : Members) → test k ≡ true → all_keys test (member l e ms) ≡ true
    → all_keys test (with_member k d ms) ≡ true
    → all_keys test (match_ordering o (member k d (member l e ms)) (member l d ms) (member l e (with_member k d ms))) ≡ true
keys_by test Less k l d e ms here all behind = and_from (test k) (all_keys test (member l e ms)) here all
keys_by test Equal k l d e ms here all behind = all
keys_by test Greater k l d e ms here all behind =
    let (first, _) = and_parts (test l) (all_keys test ms) all in
    and_from (test l) (all_keys test (with_member k d ms)) first behind

-- Its keys.
pub keys_with : (test : List ℕ → Bool) (k : List ℕ) (d : Data) (ms : Members) → test k ≡ true → all_keys test ms ≡ true
    → all_keys test (with_member k d ms) ≡ true
keys_with test k d no_members here all = and_from (test k) true here refl
keys_with test k d (member l e ms) here all =
    let (_, behind) = and_parts (test l) (all_keys test ms) all in
    keys_by test (slice_cmp nat_cmp k l) k l d e ms here all (keys_with test k d ms here behind)

-- ---- the requirements of `toml` on a table that it prints

abbrev pub ArePrintable : ℕ → Members → Type 0
ArePrintable n ms = (members_depth ms ≤ n) × (members_are_plain ms ≡ true)

printable : (n : ℕ) (k : List ℕ) (d : Data) (ms : Members) → depth d ≤ n → is_plain d ≡ true → ArePrintable n ms → ArePrintable n (member k d ms)
printable n k d ms deep plain (deeper, all) = (grind (arith, nat_tests), and_from (is_plain d) (members_are_plain ms) plain all)

printable_parts : (n : ℕ) (k : List ℕ) (d : Data) (ms : Members) → ArePrintable n (member k d ms) → (depth d ≤ n) × (is_plain d ≡ true) × ArePrintable n ms
printable_parts n k d ms (deep, all) =
    let (here, behind) = and_parts (is_plain d) (members_are_plain ms) all in
    let first : depth d ≤ n = grind (arith, nat_tests) in
    let rest : members_depth ms ≤ n = grind (arith, nat_tests) in
    (first, here, (rest, behind))

printable_by : (o : Ordering) (n : ℕ) (k l : List ℕ) (d e : Data) (ms : Members) → depth d ≤ n → is_plain d ≡ true → ArePrintable n (member l e ms)
    → ArePrintable n (with_member k d ms) → ArePrintable n (match_ordering o (member k d (member l e ms)) (member l d ms) (member l e (with_member k d ms)))
printable_by Less n k l d e ms deep plain all later = printable n k d (member l e ms) deep plain all
printable_by Equal n k l d e ms deep plain all later =
    let (_, _, (rest, behind)) = printable_parts n l e ms all in printable n l d ms deep plain (rest, behind)
printable_by Greater n k l d e ms deep plain all later =
    let (first, here, _) = printable_parts n l e ms all in printable n l e (with_member k d ms) first here later

printable_with : (n : ℕ) (k : List ℕ) (d : Data) (ms : Members) → depth d ≤ n → is_plain d ≡ true → ArePrintable n ms → ArePrintable n (with_member k d ms)
printable_with n k d no_members deep plain all = printable n k d no_members deep plain all
printable_with n k d (member l e ms) deep plain all =
    let (_, _, (rest, behind)) = printable_parts n l e ms all in
    printable_by (slice_cmp nat_cmp k l) n k l d e ms deep plain all (printable_with n k d ms deep plain (rest, behind))

mutual
  plain_dates : (d : Data) → is_plain d ≡ true → has_valid_dates d ≡ true
  plain_dates (string s) plain = refl
  plain_dates (integer z) plain = refl
  plain_dates (float x) plain = cc
  plain_dates (boolean b) plain = refl
  plain_dates (datetime dt) plain = cc
  plain_dates (array ds) plain = items_dates ds plain
  plain_dates (table ms) plain = members_dates ms plain

  items_dates : (ds : Items) → items_are_plain ds ≡ true → items_have_valid_dates ds ≡ true
  items_dates no_items plain = refl
  items_dates (item d ds) plain =
      let (here, behind) = and_parts (is_plain d) (items_are_plain ds) plain in
      and_from (has_valid_dates d) (items_have_valid_dates ds) (plain_dates d here) (items_dates ds behind)

  members_dates : (ms : Members) → members_are_plain ms ≡ true → members_have_valid_dates ms ≡ true
  members_dates no_members plain = refl
  members_dates (member k d ms) plain =
      let (here, behind) = and_parts (is_plain d) (members_are_plain ms) plain in
      and_from (has_valid_dates d) (members_have_valid_dates ms) (plain_dates d here) (members_dates ms behind)

-- The table in version 2 nests no deeper, and it contains no dates.
pub migrated_printable : (ms : Members) → IsShallow 6 (table ms) → ArePrintable 5 (migrated ms)
migrated_printable ms (deep, plain) =
    let few : members_depth ms ≤ 5 = omega (arith, deep) in
    printable_with 5 (codes "topos") (integer (pos 2)) ms (omega arith) refl (few, plain)

pub migrated_prints : (ms : Members) → IsShallow 6 (table ms) → (members_depth (migrated ms) ≤ 5) × (members_have_valid_dates (migrated ms) ≡ true)
migrated_prints ms shallow =
    let (small, plain) = migrated_printable ms shallow in
    (small, members_dates (migrated ms) plain)

-- ---- its raw description

-- The same in version 2.
abbrev in_version_2 : RawDescription → RawDescription
in_version_2 w = record {
  version = pos 2;
  answers = w.answers;
  hosts = w.hosts;
  invariants = w.invariants;
  given = w.given;
  flows = w.flows;
  templates = w.templates;
}

at_other : (key : List ℕ) (ms : Members) (P : Option Data → Type 0) → is_eq (slice_cmp nat_cmp key (codes "topos")) ≡ false → P (get_member key ms)
    → P (get_member key (migrated ms))
at_other key ms P differs stands = subst P (sym (get_other (codes "topos") key (integer (pos 2)) ms differs)) stands

-- The keys of every version are keys of version 2.
weaker_keys : (p q : List ℕ → Bool) (ms : Members) → ((k : List ℕ) → p k ≡ true → q k ≡ true) → all_keys p ms ≡ true → all_keys q ms ≡ true
weaker_keys p q no_members step all = refl
weaker_keys p q (member k d ms) step all =
    let (here, behind) = and_parts (p k) (all_keys p ms) all in
    and_from (q k) (all_keys q ms) (step k here) (weaker_keys p q ms step behind)

-- The names of each version, and one more.
abbrev names_with : Bool → List (List ℕ)
names_with second = codes "topos" ∷ codes "answers" ∷ codes "host" ∷ codes "invariant" ∷ codes "flow" ∷ template_names second

one_of_more : (b : Bool) (k : List ℕ) → list_any (bytes_eq k) (names_with b) ≡ true → list_any (bytes_eq k) (names_with true) ≡ true
one_of_more true k one = one
one_of_more false k one = more (bytes_eq k (codes "topos")) (bytes_eq k (codes "answers")) (bytes_eq k (codes "host")) (bytes_eq k (codes "invariant")) (bytes_eq k (codes "flow")) _ one
  where
    more : (a b c d e f : Bool) → (a || (b || (c || (d || (e || false))))) ≡ true → (a || (b || (c || (d || (e || f))))) ≡ true
    more true b c d e f one = refl
    more false true c d e f one = refl
    more false false true d e f one = refl
    more false false false true e f one = refl
    more false false false false true f one = refl
    more false false false false false f one = cc

migrated_written : (ms : Members) (w : RawDescription) → IsRawOf ms w → IsRawOf (migrated ms) (in_version_2 w)
unfolding has_only
migrated_written ms w is =
    let two = get_with (codes "topos") (integer (pos 2)) ms in
    record {
      only = keys_with (λ k. list_any (bytes_eq k) (names_with true)) (codes "topos") (integer (pos 2)) ms refl
          (weaker_keys (λ k. list_any (bytes_eq k) (names_with (int_eq w.version (pos 2)))) (λ k. list_any (bytes_eq k) (names_with true)) ms (one_of_more (int_eq w.version (pos 2))) is.only);
      version = subst (λ (o : Option Data). IsSomeAnd o (λ d. IsInteger d (pos 2))) (sym two) refl;
      answers = at_other (codes "answers") ms (λ o. MatchOption o (w.answers ≡ true) (λ d. IsAnswers d w.answers)) refl is.answers;
      hosts = at_other (codes "host") ms (λ o. IsSomeAnd o (λ d. IsArray (IsTable IsHost) d w.hosts)) refl is.hosts;
      invariants = at_other (codes "invariant") ms (λ o. MatchOption o (w.invariants ≡ []) (λ d. IsArray (IsTable IsInvariant) d w.invariants)) refl is.invariants;
      given = at_other (codes "flow") ms (λ o. w.given ≡ is_some o) refl is.given;
      flows = at_other (codes "flow") ms (λ o. MatchOption o (w.flows ≡ []) (λ d. IsArray IsFlow d w.flows)) refl is.flows;
      whole = λ other. absurd (other refl);
      templates = at_other (codes "template") ms (λ o. MatchOption o (w.templates ≡ []) (λ d. IsArray (IsTable IsTemplate) d w.templates)) refl is.templates;
    }

-- ---- its refusals and its network

hosts_pass : (w : RawDescription) → first_of (host_conditions w) ≡ None → first_of (host_conditions (in_version_2 w)) ≡ None
unfolding host_conditions bad_version all_entries all_names used_names
hosts_pass w none = (neither (bad_version w.version) _ none).1

uses_same : (w : RawDescription) → use_conditions (in_version_2 w) ≡ use_conditions w
unfolding use_conditions undeclared_host bad_attribute network_hosts used_names
uses_same w = refl

network_same : (w : RawDescription) → network_of (in_version_2 w) ≡ network_of w
unfolding network_of network_hosts asked_of invariants_of services_in
network_same w = refl

described_by_written : (ms : Members) (w : RawDescription) → w ≡ written ms → first_of (host_conditions w) ≡ None → first_of (use_conditions w) ≡ None
    → IsRawOf ms w → described_by_table ms ≡ Ok (network_of w)
unfolding described_by_table
described_by_written ms w same hosts uses is =
    let no_hosts = subst (λ (v : RawDescription). first_of (host_conditions v) ≡ None) same hosts in
    let no_uses = subst (λ (v : RawDescription). first_of (use_conditions v) ≡ None) same uses in
    no_refusal (first_of (table_conditions ms)) _ _ _ (network_of (written ms)) (by_groups ms) (formed_where_written ms w is) no_hosts no_uses
    ∙ ap (λ (v : RawDescription). Ok (network_of v)) (sym same)

-- The table in version 2 describes the same network.
pub migrated_describes : (ms : Members) (d : Network) → described_by_table ms ≡ Ok d → described_by_table (migrated ms) ≡ Ok d
migrated_describes ms d said =
    let none = accepted ms d said in
    let w = written ms in
    let is = migrated_written ms w (written_stands ms none.form) in
    let same = written_is (migrated ms) (in_version_2 w) is in
    described_by_written (migrated ms) (in_version_2 w) same (hosts_pass w none.hosts) (ap first_of (uses_same w) ∙ none.uses) is
    ∙ ap Ok (network_same w ∙ none.network)

by_length : (long : Bool) (told given : Result Network Refusal) (n : ℕ) → nat_lt byte_limit n ≡ long → n ≤ byte_limit
    → (if long then told else given) ≡ given
by_length true told given n is short = absurd (too_long n is short)
  where
    too_long : (n : ℕ) → nat_lt byte_limit n ≡ true → n ≤ byte_limit → ⊥
    too_long n long short = grind (arith, nat_tests)
by_length false told given n is short = refl

-- So does a text that is its document, if it is short enough.
pub text_describes : (text : List ℕ) (ms : Members) (d : Network) → document text ≡ Some (migrated ms) → described_by_table ms ≡ Ok d
    → length text ≤ byte_limit → described text ≡ Ok d
unfolding described
text_describes text ms d read said short =
    by_length (nat_lt byte_limit (length text)) _ (described_by (document text)) (length text) refl short
    ∙ ap described_by read ∙ migrated_describes ms d said
