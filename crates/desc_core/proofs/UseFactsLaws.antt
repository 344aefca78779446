-- No condition from 15 on refuses a description if and only if the facts of UseFacts hold for it.
use Rattle.std.proofs.Common.{◌≡◌, ℕ, ◌≤◌, ◌+◌, Bool, true, false, not, ◌&&◌, List, length, Option, Some, None, option_map, option_and_then, is_none, is_some, refl, sym, ap, ◌∙◌}
use Rattle.std.proofs.lemmas.List.Elements.{All-from_recursion, recursion_from_All}
use Rattle.std.proofs.lemmas.Slice.Eq.{bytes_eq-Decides}
use Rattle.desc_form.proofs.NamesLaws.{used_tested}
use Rattle.desc_form.proofs.NoneLaws.{all_tested}
use Rattle.desc_form.proofs.RowLaws.{all_twice, and_words, as_it_is, differ_words, each_says, few_words, found_row, in_turn, never_words, none_says, nth, numbered_pairs_row, numbered_row, pairs_say, passed_row, same_test, tested_row, then_words, unequal_words}
use Rattle.std.specs.List.{All, AllByRecursion, AllPairs, list_all}
use Rattle.std.specs.Prelude.{◌↔◌, ◌≢◌, IsTrue}
use Rattle.std.specs.Str.{bytes_eq}
use Rattle.desc_core.specs.Choices.{bad_of, chosen}
use Rattle.desc_core.specs.TemplateConditions.{bad_template, has_partner, not_lawful, unlawful_at}
use Rattle.desc_core.proofs.TemplateFactsLaws.{partners_are, templates_are}
use Rattle.desc_form.specs.RawTemplate.{RawTemplate}
use Rattle.desc_core.specs.inner.TemplateFacts.{HasPartner}
use Rattle.desc_core.specs.inner.UseFacts.{HasUses, SaysAttributes}
use Rattle.desc_core.specs.UseConditions.{bad_at, bad_attribute, bad_attribute_of, bad_service, bad_service_of, duplicate_assign, duplicate_assign_of, duplicate_flow, has_many_services, is_declared, many_services, same_names, self_flow, undeclared_host, unknown_template, use_conditions}
use Rattle.desc_core.specs.RawNetwork.{Known, known_of}
use Rattle.desc_form.specs.Refusals.{refused}
use Rattle.desc_form.specs.RawDescription.{RawDescription, RawAssign, RawInvariant}
use Rattle.desc_form.specs.RawFlow.{RawFlow}
use Rattle.desc_form.specs.declared.refusal.Place.TheVariants.{Assign}
use Rattle.desc_form.specs.declared.refusal.Why.TheVariants.{BadAttribute}
use Rattle.desc_form.specs.Mentions.{NameUse, used_names}
use Rattle.desc_form.specs.RawHosts.{network_hosts}
use Rattle.host_net.specs.Host.{Host}
use Rattle.host_net.specs.Services.{service_limit}
use Rattle.host_net.specs.ServiceText.{service_of}
use Rattle.text_core.specs.FirstMatch.{first_of}
use Rattle.text_core.specs.inner.Pairs.{no_pair}
use Rattle.text_core.proofs.FirstsLaws.{none_mapped}

-- ---- 15

not_none : {A : Type 0} (o : Option A) → not (is_none o) ≡ is_some o
not_none None = refl
not_none (Some x) = refl

templates_same : (w : RawDescription) (is : List RawInvariant)
    → list_all (λ (i : RawInvariant). not (is_none (chosen w.templates i.template))) is ≡ list_all (λ (i : RawInvariant). is_some (chosen w.templates i.template)) is
templates_same w is = λ k. list_all (λ (i : RawInvariant). not_none (chosen w.templates i.template) k) is

pub templates_known : (w : RawDescription)
    → (unknown_template w.templates w.invariants ≡ None) ↔ (list_all (λ (i : RawInvariant). is_some (chosen w.templates i.template)) w.invariants ≡ true)
templates_known w =
    then_words (numbered_row (λ (i : RawInvariant). is_none (chosen w.templates i.template)) _ w.invariants) (same_test (templates_same w w.invariants))

-- ---- 16

abbrev pub assigns_test : RawDescription → RawInvariant → Bool
assigns_test w i = list_all (λ a. is_declared w a.host) i.assigns

abbrev pub ends_test : RawDescription → RawFlow → Bool
ends_test w f = is_declared w f.from && is_declared w f.to

pub hosts_declared : (w : RawDescription)
    → (undeclared_host w ≡ None) ↔ ((list_all (assigns_test w) w.invariants ≡ true) × (list_all (ends_test w) w.flows ≡ true))
unfolding undeclared_host
hosts_declared w =
    then_words (passed_row (λ (m : NameUse). is_declared w m.name) _ (used_names w))
    (then_words (same_test (used_tested (is_declared w) w))
    (and_words (list_all (assigns_test w) w.invariants) (list_all (ends_test w) w.flows) as_it_is as_it_is))

-- ---- 17

abbrev pub same_host : RawAssign → RawAssign → Bool
same_host a b = bytes_eq a.host b.host

pub assigns_once : (w : RawDescription)
    → (duplicate_assign w.invariants ≡ None) ↔ (list_all (λ (i : RawInvariant). no_pair same_host i.assigns) w.invariants ≡ true)
assigns_once w =
    tested_row duplicate_assign_of (λ (i : RawInvariant). no_pair same_host i.assigns) (λ k i. numbered_pairs_row same_host _ i.assigns) w.invariants

-- ---- 18

good_one : (ts : List RawTemplate) (hosts : List Host) (k : ℕ) (i : RawInvariant) → bad_attribute_of ts hosts (nth k i) ≡ None
    → SaysAttributes ts hosts i
good_one ts hosts k i none known is =
    none_mapped (λ assign. refused BadAttribute (Assign k (assign + 1))) (bad_of hosts known.template known.assigns) (ap (option_and_then (bad_at hosts k)) (sym is) ∙ none)

none_by : (hosts : List Host) (k : ℕ) (o : Option Known)
    → ((known : Known) → o ≡ Some known → bad_of hosts known.template known.assigns ≡ None) → option_and_then (bad_at hosts k) o ≡ None
none_by hosts k None good = refl
none_by hosts k (Some known) good = ap (option_map (λ assign. refused BadAttribute (Assign k (assign + 1)))) (good known refl)

pub attributes_said : (w : RawDescription) → (bad_attribute w ≡ None) ↔ AllByRecursion (SaysAttributes w.templates (network_hosts w)) w.invariants
unfolding bad_attribute
attributes_said w =
    let hosts = network_hosts w in
    found_row (bad_attribute_of w.templates hosts) (SaysAttributes w.templates hosts)
    (λ k i. (good_one w.templates hosts k i, none_by hosts k (known_of w.templates hosts i))) 1 w.invariants

-- ---- 19 and 20

pub ends_differ : (w : RawDescription) → (self_flow w.flows ≡ None) ↔ (list_all (λ (f : RawFlow). not (bytes_eq f.from f.to)) w.flows ≡ true)
ends_differ w = numbered_row (λ (f : RawFlow). bytes_eq f.from f.to) _ w.flows

pub flows_differ : (w : RawDescription) → (duplicate_flow w.flows ≡ None) ↔ (no_pair same_names w.flows ≡ true)
flows_differ w = numbered_pairs_row same_names _ w.flows

-- ---- 21 and 22

abbrev pub services_test : RawFlow → Bool
services_test f = list_all (λ text. is_some (service_of text)) f.services

said_same : (texts : List (List ℕ)) → list_all (λ text. not (is_none (service_of text))) texts ≡ list_all (λ text. is_some (service_of text)) texts
said_same texts = λ k. list_all (λ text. not_none (service_of text) k) texts

service_one : (k : ℕ) (f : RawFlow) → (bad_service_of (nth k f) ≡ None) ↔ (services_test f ≡ true)
service_one k f = then_words (numbered_row (λ text. is_none (service_of text)) _ f.services) (same_test (said_same f.services))

pub services_are_said : (w : RawDescription) → (bad_service w.flows ≡ None) ↔ (list_all services_test w.flows ≡ true)
services_are_said w = tested_row bad_service_of services_test service_one w.flows

pub services_are_few : (w : RawDescription) → (many_services w.flows ≡ None) ↔ (list_all (λ f. not (has_many_services f)) w.flows ≡ true)
services_are_few w = numbered_row has_many_services _ w.flows

-- ---- 24

partners_one : (k : ℕ) (t : RawTemplate) → (unlawful_at (nth k t) ≡ None) ↔ (list_all (has_partner t) t.deny ≡ true)
partners_one k t = then_words (numbered_row (λ p. not (has_partner t p)) _ t.deny) (same_test (all_twice (has_partner t) t.deny))

pub partners_there : (ts : List RawTemplate) → (not_lawful ts ≡ None) ↔ (list_all (λ t. list_all (has_partner t) t.deny) ts ≡ true)
partners_there ts = tested_row unlawful_at (λ t. list_all (has_partner t) t.deny) partners_one ts

-- ---- all of them

-- The facts as tests.
pub record PassesUses (w : RawDescription) : Type 0 where
  pub templates : list_all (λ (i : RawInvariant). is_some (chosen w.templates i.template)) w.invariants ≡ true
  pub assigned : list_all (assigns_test w) w.invariants ≡ true
  pub joined : list_all (ends_test w) w.flows ≡ true
  pub once : list_all (λ (i : RawInvariant). no_pair same_host i.assigns) w.invariants ≡ true
  pub attributes : AllByRecursion (SaysAttributes w.templates (network_hosts w)) w.invariants
  pub apart : list_all (λ (f : RawFlow). not (bytes_eq f.from f.to)) w.flows ≡ true
  pub different : no_pair same_names w.flows ≡ true
  pub services : list_all services_test w.flows ≡ true
  pub few : list_all (λ f. not (has_many_services f)) w.flows ≡ true
  pub declared : bad_template w.templates ≡ None
  pub lawful : not_lawful w.templates ≡ None

pub PassesUses-uses : (w : RawDescription) → first_of (use_conditions w) ≡ None → PassesUses w
unfolding use_conditions
PassesUses-uses w none =
    let (templates, (hosts, (assigns, (attributes, (ends, (flows, (services, (few, (declared, (lawful, _)))))))))) = (in_turn (use_conditions w)).0 none in
    let (assigned, joined) = (hosts_declared w).0 hosts in
    record {
      templates = (templates_known w).0 templates;
      assigned = assigned;
      joined = joined;
      once = (assigns_once w).0 assigns;
      attributes = (attributes_said w).0 attributes;
      apart = (ends_differ w).0 ends;
      different = (flows_differ w).0 flows;
      services = (services_are_said w).0 services;
      few = (services_are_few w).0 few;
      declared = declared;
      lawful = lawful;
    }

uses-PassesUses : (w : RawDescription) → PassesUses w → first_of (use_conditions w) ≡ None
unfolding use_conditions
uses-PassesUses w sound =
    (in_turn (use_conditions w)).1 (
      (templates_known w).1 sound.templates,
      (
        (hosts_declared w).1 (sound.assigned, sound.joined),
        (
          (assigns_once w).1 sound.once,
          (
            (attributes_said w).1 sound.attributes,
            (
              (ends_differ w).1 sound.apart,
              (
                (flows_differ w).1 sound.different,
                (
                  (services_are_said w).1 sound.services,
                  (
                    (services_are_few w).1 sound.few,
                    (
                      sound.declared,
                      (sound.lawful, tt),
                    ),
                  ),
                ),
              ),
            ),
          ),
        ),
      ),
    )

-- ---- as facts

assigns_say : (w : RawDescription)
    → (list_all (assigns_test w) w.invariants ≡ true) ↔ All (λ (i : RawInvariant). All (λ (a : RawAssign). IsTrue (is_declared w a.host)) i.assigns) w.invariants
assigns_say w =
    each_says (assigns_test w) (λ (i : RawInvariant). All (λ (a : RawAssign). IsTrue (is_declared w a.host)) i.assigns)
    (λ i. all_tested (λ (a : RawAssign). is_declared w a.host) i.assigns) w.invariants

ends_say : (w : RawDescription)
    → (list_all (ends_test w) w.flows ≡ true) ↔ All (λ (f : RawFlow). IsTrue (is_declared w f.from) × IsTrue (is_declared w f.to)) w.flows
ends_say w =
    each_says (ends_test w) (λ (f : RawFlow). IsTrue (is_declared w f.from) × IsTrue (is_declared w f.to))
    (λ f. and_words (is_declared w f.from) (is_declared w f.to) as_it_is as_it_is) w.flows

once_says : (is : List RawInvariant)
    → (list_all (λ (i : RawInvariant). no_pair same_host i.assigns) is ≡ true) ↔ All (λ (i : RawInvariant). AllPairs (λ (a b : RawAssign). a.host ≢ b.host) i.assigns) is
once_says is =
    each_says (λ (i : RawInvariant). no_pair same_host i.assigns) (λ (i : RawInvariant). AllPairs (λ (a b : RawAssign). a.host ≢ b.host) i.assigns)
    (λ i. pairs_say same_host (λ (a b : RawAssign). a.host ≢ b.host) (λ a b. differ_words a.host b.host) i.assigns) is

apart_says : (fs : List RawFlow)
    → (list_all (λ (f : RawFlow). not (bytes_eq f.from f.to)) fs ≡ true) ↔ All (λ (f : RawFlow). f.from ≢ f.to) fs
apart_says fs = none_says (λ (f : RawFlow). bytes_eq f.from f.to) (λ (f : RawFlow). f.from ≢ f.to) (λ f. unequal_words f.from f.to) fs

abbrev AreTwice : RawFlow → RawFlow → Type 0
AreTwice f g = f.from ≡ g.from → f.to ≡ g.to → ⊥

flows_apart : (f g : RawFlow) → (same_names g f ≡ false) ↔ AreTwice f g
flows_apart f g =
    let from = bytes_eq-Decides g.from f.from in
    let to = bytes_eq-Decides g.to f.to in
    let both = never_words (same_names g f) ((g.from ≡ f.from) × (g.to ≡ f.to)) (and_words (bytes_eq g.from f.from) (bytes_eq g.to f.to) from to).0 (and_words (bytes_eq g.from f.from) (bytes_eq g.to f.to) from to).1 in (
      λ test same_from same_to. both.0 test (sym same_from, sym same_to),
      λ apart. both.1 (λ (same_from, same_to). apart (sym same_from) (sym same_to)),
    )

different_says : (fs : List RawFlow) → (no_pair same_names fs ≡ true) ↔ AllPairs AreTwice fs
different_says fs = pairs_say same_names AreTwice flows_apart fs

abbrev DenotesServices : RawFlow → Type 0
DenotesServices f = All (λ text. IsTrue (is_some (service_of text))) f.services

services_say : (fs : List RawFlow) → (list_all services_test fs ≡ true) ↔ All DenotesServices fs
services_say fs = each_says services_test DenotesServices (λ f. all_tested (λ text. is_some (service_of text)) f.services) fs

few_says : (fs : List RawFlow) → (list_all (λ f. not (has_many_services f)) fs ≡ true) ↔ All (λ (f : RawFlow). length f.services ≤ service_limit) fs
few_says fs =
    none_says has_many_services (λ (f : RawFlow). length f.services ≤ service_limit) (λ f. few_words service_limit (length f.services)) fs

lawful_says : (ts : List RawTemplate) → (not_lawful ts ≡ None) ↔ All (λ (t : RawTemplate). All (HasPartner t) t.deny) ts
lawful_says ts = then_words (partners_there ts) (partners_are ts)

pub HasUses-tests : (w : RawDescription) → PassesUses w → HasUses w
HasUses-tests w tests = record {
  templates = (all_tested (λ (i : RawInvariant). is_some (chosen w.templates i.template)) w.invariants).0 tests.templates;
  assigned = (assigns_say w).0 tests.assigned;
  joined = (ends_say w).0 tests.joined;
  once = (once_says w.invariants).0 tests.once;
  attributes = All-from_recursion (SaysAttributes w.templates (network_hosts w)) w.invariants tests.attributes;
  apart = (apart_says w.flows).0 tests.apart;
  different = (different_says w.flows).0 tests.different;
  services = λ k d within. record { denoted = (services_say w.flows).0 tests.services k d within; few = (few_says w.flows).0 tests.few k d within };
  declared = ((templates_are w.templates).0 tests.declared).0;
  distinct = ((templates_are w.templates).0 tests.declared).1;
  lawful = (lawful_says w.templates).0 tests.lawful;
}

tests-HasUses : (w : RawDescription) → HasUses w → PassesUses w
tests-HasUses w uses = record {
  templates = (all_tested (λ (i : RawInvariant). is_some (chosen w.templates i.template)) w.invariants).1 uses.templates;
  assigned = (assigns_say w).1 uses.assigned;
  joined = (ends_say w).1 uses.joined;
  once = (once_says w.invariants).1 uses.once;
  attributes = recursion_from_All (SaysAttributes w.templates (network_hosts w)) w.invariants uses.attributes;
  apart = (apart_says w.flows).1 uses.apart;
  different = (different_says w.flows).1 uses.different;
  services = (services_say w.flows).1 (λ k d within. (uses.services k d within).denoted);
  few = (few_says w.flows).1 (λ k d within. (uses.services k d within).few);
  declared = (templates_are w.templates).1 (uses.declared, uses.distinct);
  lawful = (lawful_says w.templates).1 uses.lawful;
}

-- No condition from 15 on applies if and only if the facts hold.
pub has_uses : (w : RawDescription) → (first_of (use_conditions w) ≡ None) ↔ HasUses w
has_uses w = (λ none. HasUses-tests w (PassesUses-uses w none), λ uses. uses-PassesUses w (tests-HasUses w uses))
