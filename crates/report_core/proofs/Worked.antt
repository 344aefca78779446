-- Test vectors: the texts of given refusals, findings and statuses.
use Rattle.std.specs.Fmt.{digits}
use Rattle.std.specs.Prelude.{◌≡◌, ℕ, true, false, List, [], ◌∷◌, ◌++◌, length, None, Some, map, codes, refl}
use Rattle.net_core.specs.Network.{Network}
use Rattle.flow_set.specs.EveryFlow.{every_flow}
use Rattle.desc_form.specs.Refusals.{refused, refused_item, refused_by}
use Rattle.desc_form.specs.inner.Refused.{refused_item_by, refused_name}
use Rattle.desc_form.specs.declared.refusal.Place.TheVariants.{Document, Host, Invariant, Assign, FlowAt, Template}
use Rattle.desc_form.specs.declared.refusal.Refusal.{Refusal}
use Rattle.desc_form.specs.declared.refusal.Why.TheVariants.{NotToml, UnknownKey, TooMany, DuplicateHost, HostBits, Overlap, UndeclaredHost, BadAttribute, DuplicateFlow, NotLawful}
use Rattle.flow_set.specs.declared.flow.Flow.{Flow}
use Rattle.host_net.specs.Host as hosts
use Rattle.inv_any.specs.declared.any_inv.AnyInv.{AnyInv}
use Rattle.inv_any.specs.declared.any_inv.AnyInv.TheVariants.{Blp, Sink}
use Rattle.report_core.specs.CheckReport.{check_text, offending_line}
use Rattle.report_core.specs.Names.{flow_text, invariant_text}
use Rattle.report_core.specs.PolicyReport.{policy_text, ruling_line, Answered, Allowed, NotAsked, Denied}
use Rattle.report_core.specs.RefusalLine.{refusal_text, cause_text, place_text}

-- ---- lines of refusals

-- A refusal, and its line after the program's name.
record Row : Type 0 where
  refusal : Refusal
  line : List ℕ

abbrev row : Refusal → List ℕ → Row
row refusal line = record { refusal = refusal; line = line }

-- Each kind of place, and each of the details: an item, an earlier element, both, and a name.
abbrev refusals : List Row
refusals =
    row (refused NotToml Document) (codes "2 NotToml at document\n")
    ∷ row (refused UnknownKey (Host 2)) (codes "3 UnknownKey at host 2\n")
    ∷ row (refused_by DuplicateHost (Host 2) 1) (codes "9 DuplicateHost at host 2, other 1\n")
    ∷ row (refused_item HostBits (Host 1) 1) (codes "11 HostBits at host 1 item 1\n")
    ∷ row (refused_item_by Overlap (Host 2) 1 1) (codes "14 Overlap at host 2 item 1, other 1\n")
    ∷ row (refused TooMany (Invariant 17)) (codes "7 TooMany at invariant 17\n")
    ∷ row (refused BadAttribute (Assign 1 1)) (codes "18 BadAttribute at invariant 1 assign 1\n")
    ∷ row (refused_by DuplicateFlow (FlowAt 2) 1) (codes "20 DuplicateFlow at flow 2, other 1\n")
    ∷ row (refused_name UndeclaredHost (FlowAt 1) 2 (codes "c")) (codes "16 UndeclaredHost at flow 1 item 2: c\n")
    ∷ row (refused_item NotLawful (Template 1) 1) (codes "24 NotLawful at template 1 item 1\n")
    ∷ []

refusals_are_told : map (λ r. refusal_text r.refusal) refusals ≡ map (λ r. codes "topos: description: " ++ r.line) refusals
unfolding digits refusal_text cause_text place_text
refusals_are_told = refl

-- ---- reports

abbrev host : List ℕ → hosts.Host
host name = record { name = name; prefixes = []; rest = false }

abbrev named : List (List ℕ) → List hosts.Host
named names = map host names

abbrev flow : ℕ → ℕ → Flow
flow from to = record { from = from; to = to }

-- Two invariants, each of which one flow violates.
offences_are_told : check_text (named (codes "a" ∷ codes "b" ∷ codes "c" ∷ [])) (Blp [] ∷ Sink [] ∷ []) (Some (flow 1 2 ∷ []) ∷ Some (flow 0 1 ∷ []) ∷ []) ≡ codes "invariant 1 blp fails\n  b -> c\ninvariant 2 sink fails\n  a -> b\n"
unfolding digits invariant_text flow_text offending_line
offences_are_told = refl

-- An invariant that two flows violate, after one that holds.
some_offences_are_told : check_text (named (codes "a" ∷ codes "b" ∷ codes "c" ∷ codes "u" ∷ [])) (Sink [] ∷ Blp [] ∷ []) (None ∷ Some (flow 1 3 ∷ flow 3 2 ∷ []) ∷ []) ≡ codes "invariant 1 sink ok\ninvariant 2 blp fails\n  b -> u\n  u -> c\n"
unfolding digits invariant_text flow_text offending_line
some_offences_are_told = refl

-- Hosts with invariants.
abbrev network : List (List ℕ) → List AnyInv → Network
network names invariants = record {
  hosts = named names;
  asked = record { size = length names; flows = [] };
  services = [];
  given = false;
  answers = true;
  invariants = invariants;
}

-- Every status except one.
rulings_are_told : policy_text (network (codes "db" ∷ codes "web" ∷ codes "log" ∷ []) (Blp [] ∷ [])) (every_flow 3) (Answered ∷ Denied 0 ∷ Answered ∷ Denied 0 ∷ Allowed ∷ Allowed ∷ []) ≡ codes "db -> web allowed with answers\ndb -> log denied by 1 blp\nweb -> db allowed with answers\nweb -> log denied by 1 blp\nlog -> db allowed\nlog -> web allowed\n"
unfolding digits every_flow ruling_line flow_text invariant_text
rulings_are_told = refl

-- The statuses for two hosts with two invariants, the second of which denies.
other_rulings_are_told : policy_text (network (codes "web" ∷ codes "db" ∷ []) (Blp [] ∷ Sink [] ∷ [])) (every_flow 2) (Denied 1 ∷ NotAsked ∷ []) ≡ codes "web -> db denied by 2 sink\ndb -> web not asked for\n"
unfolding digits every_flow ruling_line flow_text invariant_text
other_rulings_are_told = refl
