-- Intermediate results of the private functions that build a network: the table of the bytes, and the refusals in terms of the hosts that were
-- found. The contracts of these functions cite them; lemmas relate them to `described`, so nothing here is trusted.
use Rattle.std.specs.Prelude.{ℕ, ◌==◌, List, [], ◌∷◌, ◌++◌, length, nat_lt, Option, Some, Err, Result, if◌then◌else◌}
use Rattle.std.specs.List.{cons_option}
use Rattle.std.specs.Option.{ok_or, option_or}
use Rattle.toml.specs.Data.{Members}
use Rattle.desc_core.specs.Conditions.{byte_limit}
use Rattle.desc_core.specs.Description.{ok_unless_refused}
use Rattle.desc_core.specs.Document.{document}
use Rattle.net_core.specs.Network.{Network}
use Rattle.desc_core.specs.RawNetwork.{Known, narrowed_to, network_of, declared_services}
use Rattle.desc_core.specs.UseConditions.{bad_at, duplicate_assign, has_many_services, use_conditions}
use Rattle.desc_form.specs.Refusals.{barred_at, first_at, refused}
use Rattle.desc_form.specs.RawFlow.{RawFlow}
use Rattle.desc_form.specs.declared.refusal.Place.TheVariants.{Document, FlowAt}
use Rattle.desc_form.specs.declared.refusal.Why.TheVariants.{DuplicateFlow, NotToml, SelfFlow, TooLong}
use Rattle.text_core.specs.FirstMatch.{first_found, numbered}
use Rattle.text_core.specs.Steps.{◌>>=◌}
use Rattle.desc_form.specs.RawDescription.{RawDescription}
use Rattle.desc_form.specs.HostConditions.{host_conditions}
use Rattle.desc_form.specs.declared.refusal.Refusal.{Refusal}
use Rattle.flow_set.specs.Flow.{same_flow}
use Rattle.flow_set.specs.declared.flow.Flow.{Flow}
use Rattle.host_net.specs.Host.{Host, host_named}
use Rattle.host_net.specs.Services.{RestrictedFlow}
use Rattle.host_net.specs.inner.Services.{with_service}
use Rattle.host_net.specs.declared.service.Service.{Service}
use Rattle.text_core.specs.FirstMatch.{first_of}

-- The table of the bytes, or refusal 1 or 2.
unfoldable pub table_of : List ℕ → Result Members Refusal
table_of bytes =
    if nat_lt byte_limit (length bytes) then Err (refused TooLong Document) else ok_or (document bytes) (refused NotToml Document)

-- The network, or the first refusal from 6 on.
unfoldable pub network_or : RawDescription → Result Network Refusal
network_or w = ok_unless_refused (first_of (host_conditions w ++ use_conditions w)) (network_of w)

-- The network, or the first refusal from 15 on.
abbrev pub network_by_uses : RawDescription → Result Network Refusal
network_by_uses w = ok_unless_refused (first_of (use_conditions w)) (network_of w)

-- The hosts of the names of a flow; they may be equal.
abbrev pub ends_of : List Host → RawFlow → Option Flow
ends_of hosts f = do
  from ← host_named hosts f.from
  to ← host_named hosts f.to
  Some (record { from = from; to = to })

-- Condition 18, for invariants with resolved names.
abbrev pub bad_known : List Host → List Known → Option Refusal
bad_known hosts ks = first_found (λ k. bad_at hosts k.number k.what) (numbered ks)

-- Condition 19, for flows with resolved hosts.
abbrev pub self_found : List Flow → Option Refusal
self_found fs = first_at SelfFlow FlowAt (λ f. f.from == f.to) fs

-- Conditions 17, 18 and 19, for invariants and flows with resolved names.
abbrev pub before_last : RawDescription → List Host → List Known → List Flow → Option Refusal
before_last w hosts ks es = option_or (duplicate_assign w.invariants) (option_or (bad_known hosts ks) (self_found es))

-- Condition 20, for flows with resolved hosts.
abbrev pub twice_found : List Flow → Option Refusal
twice_found fs = barred_at DuplicateFlow FlowAt same_flow fs

-- The restricted flows, from flows with resolved hosts and the raw flows.
abbrev pub narrowed_among : List Flow → List RawFlow → List RestrictedFlow
narrowed_among [] ws = []
narrowed_among (e ∷ es) [] = []
narrowed_among (e ∷ es) (w ∷ ws) = cons_option (narrowed_to e (declared_services w)) (narrowed_among es ws)

-- A flow without its services, if it has more than the limit.
abbrev pub within_limit : RawFlow → RawFlow
within_limit f = record f { services = if has_many_services f then [] else f.services }

-- The services of a flow, added one by one.
abbrev pub with_services : List RestrictedFlow → Flow → List Service → List RestrictedFlow
with_services ns flow [] = ns
with_services ns flow (s ∷ ss) = with_services (with_service ns flow.from flow.to s) flow ss
