-- The assigns of the sample are for its hosts, and each specifies an attribute.
use Rattle.std.proofs.Common.{◌≡◌, ◌≢◌, IsTrue, ℕ, zero, suc, ◌+◌, ◌%◌, ◌≤◌, ◌<◌, ◌==◌, nat_le, Bool, true, false, ◌||◌, List, [], ◌∷◌, ◌++◌, length, map, codes, bytes_eq, Option, Some, None, option_and_then, option_map, is_some, All, AllPairs, refl, sym, ap, subst, ◌∙◌, arith}
use Rattle.std.proofs.lemmas.List.Elements.{All-nil, All-from_recursion, All-head, All-tail}
use Rattle.std.proofs.lemmas.List.Kept.{AllPairs-filter}
use Rattle.std.specs.List.{list_any, range_with_len}
use Rattle.attr_core.specs.Assigns.{Given}
use Rattle.attr_core.specs.Blp.{blp_form}
use Rattle.attr_core.specs.Forms.{bad_from, says}
use Rattle.attr_core.specs.Partners.{partners_attribute, partners_form}
use Rattle.attr_core.specs.Shapes.{host_key, of_shape}
use Rattle.attr_core.specs.Templates.{template_named}
use Rattle.desc_core.specs.Choices.{Choice, OneOfTen, bad_of, chosen}
use Rattle.desc_core.specs.inner.TemplateFacts.{HasPartner, IsTemplate}
use Rattle.attr_core.specs.declared.template.Template.{Template}
use Rattle.attr_core.specs.declared.template.Template.TheVariants.{Blp, Partners}
use Rattle.desc_core.specs.UseConditions.{is_declared}
use Rattle.desc_core.specs.inner.UseFacts.{AreServiceTexts, HasUses, SaysAttributes}
use Rattle.desc_core.specs.RawNetwork.{Known, given_by, known_of}
use Rattle.desc_form.specs.RawHosts.{network_hosts}
use Rattle.host_net.specs.Host.{Host, host_named}
use Rattle.table_core.specs.Keys.{all_suit, has_only_keys, lacks_key}
use Rattle.table_core.specs.Listing.{each}
use Rattle.text_core.proofs.StepsLaws.{bind_some}
use Rattle.std.proofs.lemmas.Slice.Eq.{bytes_eq-Decides}
use Rattle.desc_form.specs.RawDescription.{RawAssign, RawInvariant}
use Rattle.host_net.specs.Limits.{host_limit}
use Rattle.text_core.proofs.FirstsLaws.{some_same}
use Rattle.std.proofs.lemmas.Bool.Decides.{nat_tests}
use Rattle.sample_core.specs.SampleTable.{care_table, hosts_in_care, level_table, sample_hosts, sample_name}
use Rattle.sample_core.specs.inner.TableParts.{is_in_care}
use Rattle.sample_core.specs.inner.SampleRaw.{sample_assign, sample_host, sample_invariant, sample_raw}
use Rattle.table_core.specs.Tables.{boolean_at, has_key, has_only, integer_at, list_at, number_at, text_at}
use Rattle.toml.specs.Data.{Members}
use Rattle.sample_core.proofs.NumberLaws.{IsBelow, Ascends, range_ascends, hosts_below, care_below, each_made, pairs_made, every_made}
use Rattle.sample_core.proofs.HostLaws.{names_differ}

either : (a b : Bool) → b ≡ true → (a || b) ≡ true
either true b h = refl
either false b h = h

same_number : (i j : ℕ) → (i == j) ≡ true → i ≡ j
same_number i j h = grind (arith, nat_tests)

other_number : (i j : ℕ) → (i == j) ≡ false → i ≢ j
other_number i j h same = grind (arith, nat_tests)

named_by : (start k : ℕ) (same : Bool) (rest : Bool) → (start == k) ≡ same → ((start ≢ k) → rest ≡ true)
    → (bytes_eq (sample_name k) (sample_name start) || rest) ≡ true
named_by start k true rest is behind =
    let here : bytes_eq (sample_name k) (sample_name start) ≡ true =
    (bytes_eq-Decides (sample_name k) (sample_name start)).1 (ap sample_name (sym (same_number start k is))) in
    rw here refl
named_by start k false rest is behind = either (bytes_eq (sample_name k) (sample_name start)) rest (behind (other_number start k is))

name_there : (start count k : ℕ) → start ≤ k → k < start + count
    → list_any (λ h. bytes_eq (sample_name k) h.name) (map sample_host (range_with_len start count)) ≡ true
name_there start zero k lower upper = absurd (omega (arith, lower, upper))
name_there start (suc count) k lower upper =
    named_by start k (start == k) _ refl (λ other. name_there (start + 1) count k (omega (arith, lower, other)) (omega (arith, upper)))

declared : (n k : ℕ) → k < n → IsTrue (is_declared (sample_raw n) (sample_name k))
declared n k small = name_there 0 n k (omega arith) (omega (arith, small))

-- The resolved form of an invariant whose assigns all specify an attribute.
given_parts : (t : Members) (o : Option ℕ) (rest : Option (List Given)) (gs : List Given)
    → option_and_then (λ x. option_map (λ xs. x ∷ xs) rest) (option_map (λ host. record { host = host; table = t }) o) ≡ Some gs
    → (host : ℕ) × (more : List Given) × (rest ≡ Some more) × (gs ≡ record { host = host; table = t } ∷ more)
given_parts t None rest gs is = cc
given_parts t (Some host) None gs is = cc
given_parts t (Some host) (Some more) gs is = (host, more, refl, sym (some_same _ gs is))

none_bad : {A : Type 0} (said : List Given → Given → Option A) (Fine : Members → Type 0)
    → ((earlier : List Given) (host : ℕ) (t : Members) → Fine t → is_some (said earlier (record { host = host; table = t })) ≡ true)
    → (hosts : List Host) (assigns : List RawAssign) → All (λ a. Fine a.table) assigns
    → (gs earlier : List Given) → each (given_by hosts) assigns ≡ Some gs → bad_from said earlier gs ≡ None
none_bad said Fine fine hosts [] all gs earlier is = subst (λ g. bad_from said earlier g ≡ None) (some_same [] gs is) refl
none_bad said Fine fine hosts (a ∷ assigns) all gs earlier is =
    let (host, more, rest, same) = given_parts a.table (host_named hosts a.host) (each (given_by hosts) assigns) gs is in
    let here = fine earlier host a.table (All-head (λ b. Fine b.table) a assigns all) in
    let now = earlier ++ record { host = host; table = a.table } ∷ [] in
    let behind = none_bad said Fine fine hosts assigns (All-tail (λ b. Fine b.table) a assigns all) more now rest in
    subst (λ g. bad_from said earlier g ≡ None) (sym same) (rw here behind)

known_parts : (hosts : List Host) (i : RawInvariant) (t : Template) (k : Known) → template_named i.template ≡ Some t
    → known_of [] hosts i ≡ Some k
    → (gs : List Given) × (each (given_by hosts) i.assigns ≡ Some gs) × (k ≡ record { template = OneOfTen t; assigns = gs })
unfolding known_of
known_parts hosts i t k named said =
    let (u, is_u, rest) = bind_some (chosen [] i.template) _ k said in
    let (gs, is_gs, made) = bind_some (each (given_by hosts) i.assigns) _ k rest in
    let ten : chosen [] i.template ≡ Some (OneOfTen t) = rw named refl in
    let same : u ≡ OneOfTen t = some_same u (OneOfTen t) (sym is_u ∙ ten) in
    (gs, is_gs, sym (some_same _ k made) ∙ ap (λ (x : Choice). record { template = x; assigns = gs }) same)

-- Levels.
abbrev IsLevel : Members → Type 0
IsLevel t = (k : ℕ) × (t ≡ level_table k)

level_small : (k : ℕ) → nat_le (k % 4) 65535 ≡ true
level_small k = grind (arith, nat_tests)

level_shaped : (k : ℕ) → of_shape (level_table k) (host_key ∷ blp_form.keys) ≡ true
unfolding of_shape has_only_keys lacks_key all_suit has_only has_key text_at integer_at number_at boolean_at
level_shaped k = rw (level_small k) refl

level_said : (hosts : List Host) (earlier : List Given) (host : ℕ) (t : Members) → IsLevel t
    → is_some (says blp_form hosts earlier (record { host = host; table = t })) ≡ true
level_said hosts earlier host t (k, is) =
    let shaped : of_shape t (host_key ∷ blp_form.keys) ≡ true = ap (λ u. of_shape u (host_key ∷ blp_form.keys)) is ∙ level_shaped k in
    rw shaped refl

named_blp : template_named (codes "blp") ≡ Some Blp
unfolding template_named
named_blp = refl

levels_good : (hosts : List Host) (ks : List ℕ) → SaysAttributes [] hosts (sample_invariant (codes "blp") level_table ks)
unfolding bad_of
levels_good hosts ks k said =
    let (gs, is, same) = known_parts hosts (sample_invariant (codes "blp") level_table ks) Blp k named_blp said in
    let levels : All (λ a. IsLevel a.table) (map (sample_assign level_table) ks) =
    every_made (λ a. IsLevel a.table) (sample_assign level_table) ks (λ j. (j, refl)) in
    subst (λ (x : Known). bad_of hosts x.template x.assigns ≡ None) (sym same)
    (none_bad (says blp_form hosts) IsLevel (level_said hosts) hosts (map (sample_assign level_table) ks) levels gs [] is)

-- Care.
abbrev IsCare : Members → Type 0
IsCare t = (k : ℕ) × (t ≡ care_table k)

care_shaped : (k : ℕ) → of_shape (care_table k) (host_key ∷ partners_form.keys) ≡ true
unfolding of_shape has_only_keys lacks_key all_suit has_only has_key text_at list_at
care_shaped k = refl

care_attribute : (hosts : List Host) (host k : ℕ) → is_some (partners_attribute hosts host (care_table k)) ≡ true
unfolding partners_attribute text_at list_at
care_attribute hosts host k = refl

care_said : (hosts : List Host) (earlier : List Given) (host : ℕ) (t : Members) → IsCare t
    → is_some (says partners_form hosts earlier (record { host = host; table = t })) ≡ true
care_said hosts earlier host t (k, is) =
    let shaped : of_shape t (host_key ∷ partners_form.keys) ≡ true = ap (λ u. of_shape u (host_key ∷ partners_form.keys)) is ∙ care_shaped k in
    rw shaped (ap (λ u. is_some (partners_attribute hosts host u)) is ∙ care_attribute hosts host k)

named_partners : template_named (codes "partners") ≡ Some Partners
unfolding template_named
named_partners = refl

care_good : (hosts : List Host) (ks : List ℕ) → SaysAttributes [] hosts (sample_invariant (codes "partners") care_table ks)
unfolding bad_of
care_good hosts ks k said =
    let (gs, is, same) = known_parts hosts (sample_invariant (codes "partners") care_table ks) Partners k named_partners said in
    let cares : All (λ a. IsCare a.table) (map (sample_assign care_table) ks) =
    every_made (λ a. IsCare a.table) (sample_assign care_table) ks (λ j. (j, refl)) in
    subst (λ (x : Known). bad_of hosts x.template x.assigns ≡ None) (sym same)
    (none_bad (says partners_form hosts) IsCare (care_said hosts) hosts (map (sample_assign care_table) ks) cares gs [] is)

-- For both invariants.
of_both : (P : RawInvariant → Type 0) (n : ℕ) → P (sample_invariant (codes "blp") level_table (sample_hosts n))
    → P (sample_invariant (codes "partners") care_table (hosts_in_care n)) → All P (sample_raw n).invariants
of_both P n first second = All-from_recursion P (sample_raw n).invariants (first, (second, tt))

assigned_once : (made : ℕ → Members) (n : ℕ) → n ≤ host_limit → (ks : List ℕ) → All (IsBelow n) ks → AllPairs Ascends ks
    → AllPairs (λ a b. a.host ≢ b.host) (map (sample_assign made) ks)
assigned_once made n few ks below ascends =
    pairs_made (λ a b. a.host ≢ b.host) (sample_assign made) n
    (λ i j small other lower. names_differ i j (omega (arith, small, few)) (omega (arith, other, few)) lower) ks below ascends

-- The name of one of the ten is chosen, and no template is declared.
ten_chosen : (name : List ℕ) (t : Template) → template_named name ≡ Some t → is_some (chosen [] name) ≡ true
ten_chosen name t named = rw named refl

pub sample_has_uses : (n : ℕ) → n ≤ host_limit → HasUses (sample_raw n)
sample_has_uses n few =
    let Known_in : RawAssign → Type 0 = λ a. IsTrue (is_declared (sample_raw n) a.host) in
    record {
      templates = of_both (λ i. IsTrue (is_some (chosen [] i.template))) n (ten_chosen (codes "blp") Blp named_blp) (ten_chosen (codes "partners") Partners named_partners);
      assigned = of_both (λ i. All (λ a. IsTrue (is_declared (sample_raw n) a.host)) i.assigns) n
          (each_made Known_in (sample_assign level_table) n (declared n) (sample_hosts n) (hosts_below n))
          (each_made Known_in (sample_assign care_table) n (declared n) (hosts_in_care n) (care_below n));
      joined = All-nil (λ f. IsTrue (is_declared (sample_raw n) f.from) × IsTrue (is_declared (sample_raw n) f.to));
      once = of_both (λ i. AllPairs (λ a b. a.host ≢ b.host) i.assigns) n
          (assigned_once level_table n few (sample_hosts n) (hosts_below n) (range_ascends 0 n))
          (assigned_once care_table n few (hosts_in_care n) (care_below n)
          (AllPairs-filter Ascends is_in_care (sample_hosts n) (range_ascends 0 n)));
      attributes = of_both (SaysAttributes [] (network_hosts (sample_raw n))) n
          (levels_good (network_hosts (sample_raw n)) (sample_hosts n))
          (care_good (network_hosts (sample_raw n)) (hosts_in_care n));
      apart = All-nil (λ f. f.from ≢ f.to);
      different = λ i j d lower within. absurd (omega (arith, within));
      services = All-nil (λ f. AreServiceTexts f.services);
      declared = All-nil IsTemplate;
      distinct = λ i j d lower within. absurd (omega (arith, within));
      lawful = All-nil (λ t. All (HasPartner t) t.deny);
    }
