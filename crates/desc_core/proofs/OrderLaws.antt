-- The conditions are in the order of their numbers, so the reported refusal has the least number of those that apply.
use Rattle.std.proofs.Common.{◌≡◌, ◌<◌, arith, ℕ, length, slice_get, zero, suc, ◌+◌, Bool, true, false, List, [], ◌∷◌, ◌++◌, Option, Some, None, option_map, option_and_then, Ok, Err, refl, ap, ◌∙◌, sym, subst}
use Rattle.std.specs.Option.{option_map_or, option_or}
use Rattle.std.specs.List.{list_all}
use Rattle.std.specs.Prelude.{is_none, nat_lt}
use Rattle.toml.specs.Data.{Members}
use Rattle.desc_form.specs.declared.refusal.Place.{Place}
use Rattle.desc_form.specs.declared.refusal.Place.TheVariants.{Assign, Invariant, Template}
use Rattle.desc_form.specs.declared.refusal.Place.TheVariants as place
use Rattle.desc_form.specs.declared.refusal.Refusal.{Refusal}
use Rattle.desc_form.specs.declared.refusal.Why.TheVariants.{BadAttribute, TooMany}
use Rattle.text_core.specs.FirstMatch.{some_if, first_of, first_found, Numbered, numbered}
use Rattle.desc_form.specs.HostConditions.{Entry, host_conditions, bad_version, too_many, bad_name, duplicate_host, bad_prefix, host_bits, no_address, two_rests, overlap, beyond, all_entries, template_limit}
use Rattle.desc_form.specs.inner.EntryView.{too_many_prefixes}
use Rattle.host_net.specs.Limits.{invariant_limit, host_limit, prefix_limit}
use Rattle.desc_core.specs.Description.{described, described_by_table}
use Rattle.desc_core.proofs.DescriptionLaws.{none_of_table, none_told, told, told_of_table}
use Rattle.desc_core.specs.Document.{document}
use Rattle.net_core.specs.Network.{Network}
use Rattle.desc_core.specs.RawNetwork.{Known, known_of}
use Rattle.desc_core.specs.inner.AllConditions.{conditions, not_toml, too_long}
use Rattle.desc_core.specs.Conditions.{table_conditions}
use Rattle.desc_core.specs.inner.Order.{IsLeast, NoneHolds}
use Rattle.desc_form.specs.RawHosts.{network_hosts}
use Rattle.desc_form.specs.Places.{first_place}
use Rattle.desc_form.specs.Refusals.{number, refused, refused_item}
use Rattle.desc_core.specs.UseConditions.{use_conditions, undeclared_host, duplicate_assign_of, bad_attribute, bad_attribute_of, bad_at, bad_service_of}
use Rattle.desc_form.specs.FormConditions.{form_conditions}
use Rattle.desc_form.specs.RawDescription.{RawDescription, RawHost, RawInvariant, written}
use Rattle.desc_core.specs.Choices.{bad_of}
use Rattle.desc_core.specs.TemplateConditions.{unlawful_at}
use Rattle.desc_form.specs.RawTemplate.{RawTemplate}
use Rattle.host_net.specs.Host.{Host}

-- The refusal of the condition has this number.
abbrev pub Tells : ℕ → Option Refusal → Type 0
Tells n o = (r : Refusal) → o ≡ Some r → number r.why ≡ n

-- The conditions are numbered from n on.
abbrev pub InOrder : ℕ → List (Option Refusal) → Type 0
InOrder n [] = Unit {0}
InOrder n (o ∷ os) = Tells n o × InOrder (n + 1) os

tells_some : (n : ℕ) (s : Refusal) → number s.why ≡ n → Tells n (Some s)
tells_some n s told r is =
    let same : s ≡ r = cc in
    ap (λ (q : Refusal). number q.why) (sym same) ∙ told

tells_none : (n : ℕ) → Tells n None
tells_none n r is = cc

tells_map : {A : Type 0} (n : ℕ) (f : A → Refusal) → ((x : A) → number (f x).why ≡ n) → (o : Option A) → Tells n (option_map f o)
tells_map n f told None = tells_none n
tells_map n f told (Some x) = tells_some n (f x) (told x)

tells_where : (n : ℕ) (s : Refusal) → number s.why ≡ n → (b : Bool) → Tells n (some_if b s)
tells_where n s told true = tells_some n s told
tells_where n s told false = tells_none n

tells_or : (n : ℕ) (o p : Option Refusal) → Tells n o → Tells n p → Tells n (option_or o p)
tells_or n None p first second = second
tells_or n (Some s) p first second = first

tells_found : {A : Type 0} (n : ℕ) (f : A → Option Refusal) → ((x : A) → Tells n (f x)) → (xs : List A) → Tells n (first_found f xs)
tells_found n f each [] = tells_none n
tells_found n f each (x ∷ xs) = tells_or n (f x) (first_found f xs) (each x) (tells_found n f each xs)

tells_beyond : {A : Type 0} (limit : ℕ) (place : ℕ → Place) (xs : List A) → Tells 7 (beyond limit place xs)
tells_beyond limit place xs = tells_where 7 (refused TooMany (place (limit + 1))) refl (nat_lt limit (length xs))

tells_prefixes : (es : List Entry) → Tells 7 (too_many_prefixes es)
tells_prefixes es = tells_map 7 (λ e. refused_item TooMany (place.Host e.host) e.item) (λ e. refl) (slice_get es prefix_limit)

tells_too_many : (hs : List RawHost) (es : List Entry) (is : List RawInvariant) (ts : List RawTemplate) → Tells 7 (too_many hs es is ts)
unfolding too_many
tells_too_many hs es is ts =
    let invariants = beyond invariant_limit Invariant is in
    let templates = beyond template_limit Template ts in
    tells_or 7 (beyond host_limit place.Host hs) (option_or (too_many_prefixes es) (option_or invariants (option_or templates None))) (tells_beyond host_limit place.Host hs)
    (tells_or 7 (too_many_prefixes es) (option_or invariants (option_or templates None)) (tells_prefixes es)
    (tells_or 7 invariants (option_or templates None) (tells_beyond invariant_limit Invariant is)
    (tells_or 7 templates None (tells_beyond template_limit Template ts) (tells_none 7))))

tells_attribute : (hosts : List Host) (i : Numbered RawInvariant) (o : Option Known) → Tells 18 (option_and_then (bad_at hosts i.number) o)
tells_attribute hosts i None = tells_none 18
tells_attribute hosts i (Some k) = tells_map 18 (λ assign. refused BadAttribute (Assign i.number (assign + 1))) (λ assign. refl) (bad_of hosts k.template k.assigns)

tells_bad_attribute : (w : RawDescription) → Tells 18 (bad_attribute w)
unfolding bad_attribute
tells_bad_attribute w = tells_found 18 (bad_attribute_of w.templates (network_hosts w)) (λ i. tells_attribute (network_hosts w) i (known_of w.templates (network_hosts w) i.what)) (numbered w.invariants)

-- The conditions are numbered from 1 on.
form_in_order : (table : Members) → InOrder 3 (form_conditions table)
unfolding form_conditions first_place
form_in_order table = (tells_map 3 _ (λ p. refl) _, (tells_map 4 _ (λ p. refl) _, (tells_map 5 _ (λ p. refl) _, tt)))

hosts_in_order : (w : RawDescription) → InOrder 6 (host_conditions w)
unfolding host_conditions bad_version bad_name duplicate_host bad_prefix host_bits no_address two_rests overlap
hosts_in_order w = (
  tells_where 6 _ refl _,
  (
    tells_too_many w.hosts (all_entries w) w.invariants w.templates,
    (
      tells_map 8 _ (λ m. refl) _,
      (
        tells_map 9 _ (λ p. refl) _,
        (
          tells_map 10 _ (λ e. refl) _,
          (
            tells_map 11 _ (λ e. refl) _,
            (
              tells_map 12 _ (λ h. refl) _,
              (
                tells_map 13 _ (λ p. refl) _,
                (tells_map 14 _ (λ p. refl) _, tt),
              ),
            ),
          ),
        ),
      ),
    ),
  ),
)

uses_in_order : (w : RawDescription) → InOrder 15 (use_conditions w)
unfolding use_conditions undeclared_host
uses_in_order w = (
  tells_map 15 _ (λ i. refl) _,
  (
    tells_map 16 _ (λ m. refl) _,
    (
      tells_found 17 duplicate_assign_of (λ i. tells_map 17 _ (λ p. refl) _) (numbered w.invariants),
      (
        tells_bad_attribute w,
        (
          tells_map 19 _ (λ f. refl) _,
          (
            tells_map 20 _ (λ p. refl) _,
            (
              tells_found 21 bad_service_of (λ f. tells_map 21 _ (λ s. refl) _) (numbered w.flows),
              (
                tells_map 22 _ (λ f. refl) _,
                (tells_map 23 _ (λ k. refl) _, (tells_found 24 unlawful_at (λ t. tells_map 24 _ (λ p. refl) _) (numbered w.templates), tt)),
              ),
            ),
          ),
        ),
      ),
    ),
  ),
)

in_order-append : (n : ℕ) (xs ys : List (Option Refusal)) → InOrder n xs → InOrder (n + length xs) ys → InOrder n (xs ++ ys)
in_order-append n [] ys first second = let same : n + 0 ≡ n = omega arith in subst (λ (k : ℕ). InOrder k ys) same second
in_order-append n (x ∷ xs) ys first second =
    let same : n + suc (length xs) ≡ n + 1 + length xs = omega arith in
    (first.0, in_order-append (n + 1) xs ys first.1 (subst (λ (k : ℕ). InOrder k ys) same second))

content_in_order : (w : RawDescription) → InOrder 6 (host_conditions w ++ use_conditions w)
unfolding host_conditions
content_in_order w = in_order-append 6 (host_conditions w) (use_conditions w) (hosts_in_order w) (uses_in_order w)

table_in_order : (table : Members) → InOrder 3 (table_conditions table)
unfolding table_conditions form_conditions
table_in_order table = in_order-append 3 (form_conditions table) (host_conditions (written table) ++ use_conditions (written table)) (form_in_order table) (content_in_order (written table))

document_in_order : (read : Option Members) → InOrder 3 (option_map_or table_conditions read [])
document_in_order None = tt
document_in_order (Some table) = table_in_order table

pub in_order : (bytes : List ℕ) → InOrder 1 (conditions bytes)
unfolding conditions too_long not_toml
in_order bytes = (tells_where 1 _ refl _, (tells_where 2 _ refl _, document_in_order (document bytes)))

none_before : (os : List (Option Refusal)) (k : ℕ) → ((j : ℕ) → j < k → slice_get os j ≡ Some None) → (j : ℕ) → j < suc k → slice_get (None ∷ os) j ≡ Some None
none_before os k rest zero below = refl
none_before os k rest (suc j) below = rest j (omega (arith, below))

-- The first reported refusal has the least number.
least : (n : ℕ) (os : List (Option Refusal)) (r : Refusal) → InOrder n os → first_of os ≡ Some r → IsLeast n os r
least n [] r order found = cc
least n (Some s ∷ os) r order found = record {
  before = zero;
  numbered = order.0 r found ∙ omega arith;
  refuses = ap Some found;
  first = λ j below. absurd (omega (arith, below));
}
least n (None ∷ os) r order found =
    let rest = least (n + 1) os r order.1 found in
    let next : n + 1 + rest.before ≡ n + suc rest.before = omega arith in
    record {
      before = suc rest.before;
      numbered = rest.numbered ∙ next;
      refuses = rest.refuses;
      first = none_before os rest.before rest.first;
    }

-- The reported refusal of bytes has the least number of the conditions that apply.
pub IsLeast-described : (bytes : List ℕ) (r : Refusal) → described bytes ≡ Err r → IsLeast 1 (conditions bytes) r
IsLeast-described bytes r said = least 1 (conditions bytes) r (in_order bytes) (told bytes r said)

pub IsLeast-table : (table : Members) (r : Refusal) → described_by_table table ≡ Err r → IsLeast 3 (table_conditions table) r
IsLeast-table table r said = least 3 (table_conditions table) r (table_in_order table) (told_of_table table r said)

-- A condition that is not reported does not apply.
none_first : (os : List (Option Refusal)) → first_of os ≡ None → list_all is_none os ≡ true
none_first [] none = refl
none_first (None ∷ os) none = none_first os none
none_first (Some s ∷ os) none = cc

-- No condition applies to bytes that describe a network.
pub NoneHolds-described : (bytes : List ℕ) (d : Network) → described bytes ≡ Ok d → NoneHolds (conditions bytes)
NoneHolds-described bytes d said = none_first (conditions bytes) (none_told bytes d said)

pub NoneHolds-table : (table : Members) (d : Network) → described_by_table table ≡ Ok d → NoneHolds (table_conditions table)
NoneHolds-table table d said = none_first (table_conditions table) (none_of_table table d said)
