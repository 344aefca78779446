-- The flows of a description that passes the conditions from 15 on: each is between two of its hosts, and none is listed twice.
use Rattle.std.proofs.Common.{◌≡◌, ◌==◌, true, not, List, [], ◌∷◌, length, Option, Some, None, is_some, refl, sym, ◌∙◌}
use Rattle.std.proofs.lemmas.Bool.{and_parts}
use Rattle.std.specs.List.{AllZip, list_all}
use Rattle.std.specs.Prelude.{if◌then◌else◌}
use Rattle.desc_core.proofs.KnownLaws.{all_apart, asked_is, each_is, each_zip, ends_tests, flow_is, self_is, twice_is}
use Rattle.desc_core.proofs.ServicesLemmas.{all_different}
use Rattle.desc_core.proofs.UseFactsLaws.{PassesUses, ends_differ, flows_differ}
use Rattle.desc_core.specs.Flows.{flow_of_names}
use Rattle.desc_core.specs.RawNetwork.{asked_of}
use Rattle.desc_core.specs.inner.Parts.{ends_of, self_found, twice_found}
use Rattle.desc_form.specs.RawDescription.{RawDescription}
use Rattle.desc_form.specs.RawFlow.{RawFlow}
use Rattle.desc_form.specs.RawHosts.{network_hosts}
use Rattle.flow_set.proofs.ListedLaws.{absent_from}
use Rattle.flow_set.specs.EveryFlow.{every_flow}
use Rattle.flow_set.specs.Flow.{same_flow}
use Rattle.flow_set.specs.FlowSet.{set_of}
use Rattle.flow_set.specs.declared.flow.Flow.{Flow}
use Rattle.flow_set.specs.inner.Different.{AreDifferent}
use Rattle.host_net.specs.Host.{Host}
use Rattle.table_core.specs.Listing.{each}
use Rattle.text_core.specs.inner.Pairs.{no_pair}

-- The flows between the hosts.
pub record AreListed (w : RawDescription) : Type 0 where
  pub flows : List Flow
  pub named : AllZip (λ f e. flow_of_names (network_hosts w) f ≡ Some e) w.flows flows
  pub asked : asked_of w ≡ (if w.given then set_of flows else every_flow (length w.hosts))
  pub different : AreDifferent flows

named_zip : (hosts : List Host) (ws : List RawFlow) (es : List Flow) → AllZip (λ w e. ends_of hosts w ≡ Some e) ws es → list_all (λ (e : Flow). not (e.from == e.to)) es ≡ true
    → AllZip (λ w e. flow_of_names hosts w ≡ Some e) ws es
named_zip hosts [] [] zipped apart = tt
named_zip hosts [] (e ∷ es) zipped apart = absurd zipped
named_zip hosts (w ∷ ws) [] zipped apart = absurd zipped
named_zip hosts (w ∷ ws) (e ∷ es) zipped apart =
    let (here, behind) = and_parts (not (e.from == e.to)) _ apart in
    (flow_is hosts w e zipped.0 here, named_zip hosts ws es zipped.1 behind)

are_different : (es : List Flow) → no_pair same_flow es ≡ true → AreDifferent es
are_different [] once = tt
are_different (e ∷ es) once =
    let (first, rest) = and_parts (list_all (λ f. not (same_flow f e)) es) _ once in
    (absent_from e es first, are_different es rest)

listed_by : (w : RawDescription) (o : Option (List Flow)) → PassesUses w → each (ends_of (network_hosts w)) w.flows ≡ o → is_some o ≡ true → AreListed w
listed_by w None sound found there = cc
listed_by w (Some es) sound found there =
    let apart : self_found es ≡ None = sym (self_is w es found) ∙ (ends_differ w).1 sound.apart in
    let once : twice_found es ≡ None = sym (twice_is w es found) ∙ (flows_differ w).1 sound.different in
    record {
      flows = es;
      named = named_zip (network_hosts w) w.flows es (each_zip (ends_of (network_hosts w)) w.flows es found) (all_apart es apart);
      asked = asked_is w es found apart;
      different = are_different es (all_different es once);
    }

pub are_listed : (w : RawDescription) → PassesUses w → AreListed w
are_listed w sound =
    listed_by w (each (ends_of (network_hosts w)) w.flows) sound refl (each_is (ends_of (network_hosts w)) w.flows ∙ ends_tests w ∙ sound.joined)
