-- Test vectors: descriptions with one change or several errors, and their refusals; descriptions with services; the networks of those that
-- are accepted. No contract names these lemmas: they show that the definitions have the intended meaning.
use Rattle.std.proofs.Common.{arith}
use Rattle.std.proofs.lemmas.List.{length-replicate}
use Rattle.desc_core.specs.Conditions.{byte_limit, table_conditions}
use Rattle.std.specs.Prelude.{ℕ, ◌<◌, length, replicate, ◌≡◌, refl, pos, true, false, List, [], ◌∷◌, ◌++◌, map, codes, Result, Ok, Err}
use Rattle.toml.specs.Data.{string, integer, table, Members, no_members, member}
use Rattle.attr_core.specs.Blp.{blp_attribute}
use Rattle.attr_core.specs.Shapes.{of_shape}
use Rattle.attr_core.specs.Templates.{template_named}
use Rattle.desc_core.specs.Choices.{bad_of, made_by}
use Rattle.desc_core.proofs.Examples.{list, host_at, rest_host, flow, level, invariant, host_a, host_b, a_to_b, described_as, of_hosts, of_flows, of_invariants, texts, a_to_b_by, of_narrowed_flows, host_with}
use Rattle.desc_form.specs.declared.refusal.Refusal.{Refusal}
use Rattle.flow_set.specs.FlowSet.{set_of}
use Rattle.net_core.specs.Network.{Network}
use Rattle.desc_form.specs.RawFlow.{raw_flow}
use Rattle.desc_form.specs.HostConditions.{bad_version, too_many, bad_name, duplicate_host, bad_prefix, host_bits, no_address, two_rests, overlap, all_entries, host_conditions}
use Rattle.desc_form.specs.Mentions.{used_names, all_names}
use Rattle.desc_core.specs.RawNetwork.{network_of, asked_of, services_in, invariants_of, known_of}
use Rattle.flow_set.specs.EveryFlow.{every_flow}
use Rattle.desc_form.specs.Places.{has_wrong_type, first_place, locations, listed, assigns_of}
use Rattle.desc_core.specs.UseConditions.{use_conditions, undeclared_host, bad_attribute}
use Rattle.desc_core.proofs.DescriptionLaws.{described-too_long}
use Rattle.desc_core.specs.Description.{described, described_by_table}
use Rattle.desc_form.specs.Refusals.{refused, refused_by, refused_item}
use Rattle.desc_form.specs.inner.Refused.{refused_item_by, refused_name}
use Rattle.desc_form.specs.declared.refusal.Place.TheVariants.{Assign, Document, FlowAt, Host, Invariant}
use Rattle.desc_form.specs.declared.refusal.Why.TheVariants.{TooLong, BadAttribute, BadPrefix, BadVersion, DuplicateFlow, DuplicateHost, HostBits, Overlap, SelfFlow, TwoRests, UndeclaredHost, UnknownKey, BadService, ManyServices, WrongType, BadName, DuplicateAssign, MissingKey, NoAddress, TooMany, UnknownTemplate}
use Rattle.desc_form.specs.FormConditions.{form_conditions}
use Rattle.desc_form.specs.RawDescription.{written, raw_host, raw_invariant, raw_assign}
use Rattle.desc_form.specs.RawHosts.{network_hosts}
use Rattle.host_net.specs.Prefix.{prefix_of, prefix_with, is_exact, meets, prefix_text, address_text, octet}
use Rattle.table_core.specs.Keys.{all_suit, has_only_keys, lacks_key}
use Rattle.table_core.specs.Tables.{has_only, has_key, text_at, integer_at, boolean_at, number_at, elements_of, list_at}
use Rattle.std.specs.Fmt.{digits}
use Rattle.text_core.specs.inner.Decimal.{number}
use Rattle.host_net.specs.ServiceText.{service_of}

-- A description, and its network or its refusal.
pub record Row : Type 0 where
  pub document : Members
  pub result : Result Network Refusal

abbrev pub row : Members → Refusal → Row
row document refusal = record { document = document; result = Err refusal }

-- The flow, the invariant, the host, the number of hosts, the version or a key is changed.
abbrev changed_rows : List Row
changed_rows =
    row (of_flows (flow (codes "a") (codes "c") ∷ [])) (refused_name UndeclaredHost (FlowAt 1) 2 (codes "c"))
    ∷ row (of_flows (flow (codes "a") (codes "a") ∷ [])) (refused SelfFlow (FlowAt 1))
    ∷ row (of_flows (flow (codes "a") (codes "b") ∷ flow (codes "a") (codes "b") ∷ [])) (refused_by DuplicateFlow (FlowAt 2) 1)
    ∷ row (of_invariants (invariant (codes "blp") (level (codes "a") (string (codes "high")) ∷ []) ∷ [])) (refused BadAttribute (Assign 1 1))
    ∷ row (of_hosts (host_at (codes "a") (codes "10.0.0.1/24") ∷ host_b ∷ [])) (refused_item HostBits (Host 1) 1)
    ∷ row (of_hosts (host_at (codes "a") (codes "10.0.0.0/24") ∷ host_b ∷ [])) (refused_item_by Overlap (Host 2) 1 1)
    ∷ row (of_hosts (host_at (codes "a") (codes "0.0.0.0/0") ∷ host_b ∷ [])) (refused_item BadPrefix (Host 1) 1)
    ∷ row (of_hosts (rest_host (codes "a") ∷ rest_host (codes "b") ∷ [])) (refused_by TwoRests (Host 2) 1)
    ∷ row (of_hosts (host_a ∷ host_at (codes "a") (codes "10.0.0.2/32") ∷ [])) (refused_by DuplicateHost (Host 2) 1)
    ∷ row (described_as (integer (pos 3)) a_to_b (list (host_a ∷ host_b ∷ []))) (refused BadVersion Document)
    ∷ row (of_hosts (host_a ∷ table (member (codes "colour") (integer (pos 1)) (member (codes "name") (string (codes "b")) no_members)) ∷ [])) (refused UnknownKey (Host 2))
    ∷ []

-- ---- descriptions with more than one error, or at the boundary of a rule

-- Types and places, then limits, names, hosts, invariants.
abbrev settled_rows : List Row
settled_rows =
    row (described_as (string (codes "1")) a_to_b (list (host_a ∷ host_b ∷ []))) (refused WrongType Document)
    ∷ row (described_as (integer (pos 1)) a_to_b (integer (pos 3))) (refused WrongType Document)
    ∷ row (of_hosts (table no_members ∷ integer (pos 3) ∷ [])) (refused MissingKey (Host 1))
    ∷ row (of_hosts (host_a ∷ host_with (codes "b") (list (string (codes "10.0.0.2") ∷ integer (pos 3) ∷ [])) ∷ [])) (refused WrongType (Host 2))
    ∷ row (of_flows (texts (codes "a" ∷ []) ∷ [])) (refused WrongType (FlowAt 1))
    ∷ row (of_invariants (invariant (codes "blp") (integer (pos 1) ∷ []) ∷ integer (pos 1) ∷ [])) (refused WrongType (Assign 1 1))
    ∷ row (of_invariants (table (member (codes "assign") (integer (pos 1)) (member (codes "template") (string (codes "blp")) no_members)) ∷ [])) (refused WrongType (Invariant 1))
    ∷ row (of_hosts (host_at (codes "a") (codes "10.0.0.1/24") ∷ host_at (codes "b") (codes "10.0.0.2/33") ∷ [])) (refused_item BadPrefix (Host 2) 1)
    ∷ row (of_invariants (replicate 17 (invariant (codes "blp") ([])))) (refused TooMany (Invariant 17))
    ∷ row (of_flows (flow (codes "a") (codes "b") ∷ flow (codes "a") (codes "") ∷ [])) (refused_item BadName (FlowAt 2) 2)
    ∷ row (of_invariants (invariant (codes "blp") (level (codes "a b") (integer (pos 1)) ∷ []) ∷ [])) (refused BadName (Assign 1 1))
    ∷ row (of_hosts (host_a ∷ host_with (codes "b") (list []) ∷ [])) (refused NoAddress (Host 2))
    ∷ row (of_hosts (rest_host (codes "a") ∷ rest_host (codes "b") ∷ rest_host (codes "c") ∷ [])) (refused_by TwoRests (Host 2) 1)
    ∷ row (of_hosts (host_with (codes "a") (texts (codes "10.0.0.0/24" ∷ codes "10.0.0.1" ∷ [])) ∷ host_b ∷ [])) (refused_item_by Overlap (Host 1) 2 1)
    ∷ row (of_invariants (invariant (codes "blp") ([]) ∷ invariant (codes "levels") ([]) ∷ [])) (refused UnknownTemplate (Invariant 2))
    ∷ row (of_invariants (invariant (codes "blp") (level (codes "a") (integer (pos 1)) ∷ level (codes "c") (integer (pos 1)) ∷ []) ∷ [])) (refused_name UndeclaredHost (Assign 1 2) 0 (codes "c"))
    ∷ row (of_invariants (invariant (codes "blp") (level (codes "a") (integer (pos 1)) ∷ level (codes "b") (integer (pos 1)) ∷ level (codes "a") (integer (pos 1)) ∷ []) ∷ [])) (refused_by DuplicateAssign (Assign 1 3) 1)
    ∷ []

-- ---- services

-- A number with a leading zero; too many services, both without and after a string that denotes none; a repeated flow takes precedence over
-- both.
abbrev service_rows : List Row
service_rows =
    row (of_narrowed_flows (a_to_b_by (codes "tcp/080" ∷ []) ∷ [])) (refused_item BadService (FlowAt 1) 3)
    ∷ row (of_narrowed_flows (a_to_b_by (replicate 17 (codes "icmp")) ∷ [])) (refused ManyServices (FlowAt 1))
    ∷ row (of_narrowed_flows (a_to_b_by (replicate 17 (codes "icmp")) ∷ flow (codes "b") (codes "a") ∷ [])) (refused ManyServices (FlowAt 1))
    ∷ row (of_narrowed_flows (flow (codes "b") (codes "a") ∷ a_to_b_by (codes "udp" ∷ codes "tcp/1-0" ∷ []) ∷ [])) (refused_item BadService (FlowAt 2) 4)
    ∷ row (of_narrowed_flows (a_to_b_by (replicate 17 (codes "web")) ∷ [])) (refused_item BadService (FlowAt 1) 3)
    ∷ row (of_narrowed_flows (a_to_b_by (codes "tcp/080" ∷ []) ∷ flow (codes "a") (codes "b") ∷ [])) (refused_by DuplicateFlow (FlowAt 2) 1)
    ∷ row (of_narrowed_flows (a_to_b_by (codes "tcp/80" ∷ []) ∷ a_to_b_by (codes "tcp/22" ∷ []) ∷ [])) (refused_by DuplicateFlow (FlowAt 2) 1)
    ∷ row (of_narrowed_flows (texts (codes "a" ∷ []) ∷ [])) (refused WrongType (FlowAt 1))
    ∷ row (of_flows (a_to_b_by (codes "tcp/80" ∷ []) ∷ [])) (refused WrongType (FlowAt 1))
    ∷ row (described_as (integer (pos 3)) a_to_b (list (host_a ∷ host_b ∷ []))) (refused BadVersion Document)
    ∷ row (described_as (integer (pos 3)) (a_to_b_by (codes "tcp/80" ∷ []) ∷ []) (list (host_a ∷ host_b ∷ []))) (refused WrongType (FlowAt 1))
    ∷ []

-- ---- descriptions that are accepted

-- Without a change.
abbrev plain_network : Network
plain_network = record {
  hosts =
      record { name = codes "a"; prefixes = prefix_with 167772161 32 ∷ []; rest = false }
      ∷ record { name = codes "b"; prefixes = prefix_with 167772162 32 ∷ []; rest = false }
      ∷ [];
  asked = record { size = 2; flows = record { from = 0; to = 1 } ∷ [] };
  services = [];
  given = true;
  answers = false;
  invariants = [];
}

-- One flow is restricted, the other is unrestricted.
abbrev restricted_network : Network
restricted_network = record {
  hosts =
      record { name = codes "a"; prefixes = prefix_with 167772161 32 ∷ []; rest = false }
      ∷ record { name = codes "b"; prefixes = prefix_with 167772162 32 ∷ []; rest = false }
      ∷ [];
  asked = record { size = 2; flows = record { from = 0; to = 1 } ∷ record { from = 1; to = 0 } ∷ [] };
  services = record {
    from = 0;
    to = 1;
    services = record { proto = 6; low = 80; high = 80 } ∷ record { proto = 17; low = 53; high = 60 } ∷ record { proto = 1; low = 0; high = 65535 } ∷ [];
  } ∷ [];
  given = true;
  answers = false;
  invariants = [];
}

abbrev accepted_rows : List Row
accepted_rows =
    record { document = of_flows a_to_b; result = Ok plain_network }
    ∷ record { document = of_narrowed_flows (flow (codes "b") (codes "a") ∷ a_to_b_by (codes "tcp/80" ∷ codes "udp/53-60" ∷ codes "icmp" ∷ []) ∷ []); result = Ok restricted_network }
    ∷ []

abbrev rows : List Row
rows = changed_rows ++ (settled_rows ++ (service_rows ++ accepted_rows))

pub worked : map (λ r. described_by_table r.document) rows ≡ map (λ r. r.result) rows
unfolding has_only_keys lacks_key all_suit of_shape has_wrong_type first_place locations listed assigns_of has_only has_key text_at integer_at boolean_at number_at elements_of list_at raw_flow written raw_host raw_invariant raw_assign bad_version too_many bad_name duplicate_host bad_prefix host_bits no_address two_rests overlap all_entries used_names all_names undeclared_host bad_attribute network_of network_hosts asked_of services_in invariants_of known_of every_flow described_by_table table_conditions form_conditions host_conditions use_conditions prefix_of octet address_text prefix_text number is_exact meets template_named bad_of made_by blp_attribute digits set_of service_of
worked = refl

-- A file of one byte more than the limit is too long, regardless of its content.
pub too_long : (byte : ℕ) → described (replicate 1048577 byte) ≡ Err (refused TooLong Document)
too_long byte = described-too_long (replicate 1048577 byte) (longer 1048577 byte (omega arith))
  where
    longer : (n byte : ℕ) → byte_limit < n → byte_limit < length (replicate n byte)
    longer n byte h = omega (arith, length-replicate n byte, h)
