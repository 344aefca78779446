-- The restricted flows of a description: their services are valid and within the limit.
use Rattle.std.proofs.Common.{◌≡◌, ℕ, ◌≤◌, Bool, true, not, ◌&&◌, List, [], ◌∷◌, length, Option, Some, None, option_and_then, refl, arith}
use Rattle.std.proofs.lemmas.Bool.{and_from, and_parts}
use Rattle.std.proofs.lemmas.Bool.Decides.{nat_tests}
use Rattle.std.specs.List.{cons_option, filter_map, list_all}
use Rattle.std.specs.Prelude.{IsTrue, nat_lt}
use Rattle.desc_core.specs.Flows.{flow_of_names}
use Rattle.desc_core.specs.UseConditions.{has_many_services}
use Rattle.desc_core.proofs.UseFactsLaws.{PassesUses}
use Rattle.desc_core.specs.RawNetwork.{narrowed_of, narrowed_to, services_in, declared_services}
use Rattle.desc_form.specs.RawDescription.{RawDescription}
use Rattle.desc_form.specs.RawFlow.{RawFlow}
use Rattle.desc_form.proofs.EntriesLaws.{no_longer}
use Rattle.desc_form.specs.RawHosts.{network_hosts}
use Rattle.flow_set.specs.declared.flow.Flow.{Flow}
use Rattle.host_net.specs.Host.{Host}
use Rattle.host_net.specs.inner.Service.{is_service}
use Rattle.host_net.specs.ServiceText.{service_of}
use Rattle.host_net.proofs.ServiceTextLaws.{service_of-spelled}
use Rattle.host_net.specs.Services.{RestrictedFlow, is_between, services_of, service_limit}
use Rattle.host_net.specs.inner.Services.{AreServices}
use Rattle.host_net.specs.declared.service.Service.{Service}
use Rattle.text_core.proofs.StepsLaws.{split_bool}

abbrev few : List Service → Bool
few ss = not (nat_lt service_limit (length ss))

abbrev fits : RestrictedFlow → Bool
fits n = few n.services && list_all is_service n.services

-- The values that strings denote are services, at most as many as there are strings.
said_by : (text : List ℕ) (o : Option Service) (ss : List Service) → service_of text ≡ o → list_all is_service ss ≡ true → list_all is_service (cons_option o ss) ≡ true
said_by text None ss read rest = rest
said_by text (Some s) ss read rest = and_from (is_service s) (list_all is_service ss) (service_of-spelled text s read).service rest

all_services : (texts : List (List ℕ)) → list_all is_service (filter_map service_of texts) ≡ true
all_services [] = refl
all_services (text ∷ texts) = said_by text (service_of text) (filter_map service_of texts) refl (all_services texts)

few_from : (n m : ℕ) → n ≤ m → not (nat_lt service_limit m) ≡ true → not (nat_lt service_limit n) ≡ true
few_from n m less is = grind (arith, nat_tests)

-- A restricted flow has the services of its strings.
one_fits : (o : Option Flow) (ss : List Service) (ns : List RestrictedFlow) → few ss ≡ true → list_all is_service ss ≡ true → list_all fits ns ≡ true
    → list_all fits (cons_option (option_and_then (λ flow. narrowed_to flow ss) o) ns) ≡ true
one_fits None ss ns short valid rest = rest
one_fits (Some flow) [] ns short valid rest = rest
one_fits (Some flow) (s ∷ ss) ns short valid rest =
    and_from (few (s ∷ ss) && list_all is_service (s ∷ ss)) (list_all fits ns) (and_from (few (s ∷ ss)) (list_all is_service (s ∷ ss)) short valid) rest

all_fit : (hosts : List Host) (ws : List RawFlow) → list_all (λ f. not (has_many_services f)) ws ≡ true → list_all fits (filter_map (narrowed_of hosts) ws) ≡ true
all_fit hosts [] short = refl
all_fit hosts (w ∷ ws) short =
    let (here, behind) = and_parts (not (has_many_services w)) _ short in
    one_fits (flow_of_names hosts w) (declared_services w) (filter_map (narrowed_of hosts) ws)
    (few_from (length (declared_services w)) (length w.services) (no_longer service_of w.services) here) (all_services w.services) (all_fit hosts ws behind)

-- The same for every flow.
abbrev IsFewValid : List Service → Type 0
IsFewValid ss = (length ss ≤ service_limit) × IsTrue (list_all is_service ss)

at_most : (n : ℕ) → not (nat_lt service_limit n) ≡ true → n ≤ service_limit
at_most n is = grind (arith, nat_tests)

of_each : (ns : List RestrictedFlow) → list_all fits ns ≡ true → (from to : ℕ) → IsFewValid (services_of ns from to)
of_each [] fit from to = (omega arith, refl)
of_each (n ∷ ns) fit from to =
    let (here, behind) = and_parts (fits n) _ fit in
    let (short, valid) = and_parts (few n.services) _ here in
    split_bool (is_between from to n) (λ same. rw same (at_most (length n.services) short, valid)) (λ other. rw other (of_each ns behind from to))

pub AreServices-services_in : (w : RawDescription) → PassesUses w → AreServices (services_in w)
unfolding services_in
AreServices-services_in w sound =
    let fit = all_fit (network_hosts w) w.flows sound.few in
    record {
      few = λ from to. (of_each (services_in w) fit from to).0;
      valid = λ from to. (of_each (services_in w) fit from to).1;
    }
