-- The table of a policy enforces it.
use Rattle.std.proofs.Common.{◌≡◌, ℕ, ◌+◌, ◌<◌, ◌≤◌, suc, Bool, true, false, cond, List, [], ◌∷◌, Option, Some, None, length, refl, sym, subst, ◌∙◌, arith}
use Rattle.std.specs.List.{position_from}
use Rattle.std.specs.Option.{option_or, option_map_or}
use Rattle.host_net.specs.declared.packet.Packet.{Packet}
use Rattle.host_net.specs.declared.packet.CtState.{CtState}
use Rattle.host_net.specs.Host.{Host, owner_of, prefix_owner_of, covers_any, rest_of}
use Rattle.host_net.specs.inner.Hosts.{IsHosts}
use Rattle.host_net.specs.Packet.{IsPacket}
use Rattle.pkt_core.specs.Filter.{Enforces, ForwardsAsExpected}
use Rattle.pkt_core.specs.Firewall.{is_established}
use Rattle.pkt_core.specs.FlowPolicy.{FlowPolicy}
use Rattle.pkt_core.specs.inner.FlowPolicy.{IsFlowPolicy}
use Rattle.pkt_core.proofs.FilterLaws.{enforced_expected}
use Rattle.emit_core.proofs.ForwardingLaws.{owners_send}
use Rattle.emit_core.proofs.HostChainLaws.{may_link_owner}
use Rattle.emit_core.proofs.OwnerLaws.{rest_below}
use Rattle.emit_core.specs.declared.direction.Direction.TheVariants.{Outbound}
use Rattle.nft_rules.specs.declared.table.Chain.{Chain}
use Rattle.nft_rules.specs.declared.table.End.TheVariants.{Source}
use Rattle.nft_rules.specs.declared.table.Table.{Table}
use Rattle.nft_rules.specs.declared.table.Verdict.{Verdict}
use Rattle.nft_rules.specs.Loadable.{IsLoadable}
use Rattle.nft_rules.specs.Semantics.{PassesTable}
use Rattle.nft_rules.specs.Semantics.Decides.{by_policy}
use Rattle.nft_emit.specs.declared.cuts.Cut.{Cut}
use Rattle.nft_emit.specs.inner.Building.{AreBuilt}
use Rattle.nft_emit.specs.inner.Cuts.{AreCuts}
use Rattle.nft_emit.specs.inner.Falls.{Falls, verdict_at, verdict_of}
use Rattle.nft_emit.specs.inner.Sending.{AreHeads}
use Rattle.nft_emit.proofs.BuildLaws.{built_named}
use Rattle.nft_rules.proofs.EvalLaws.{Ends, none_decides}
use Rattle.nft_emit.proofs.FallLaws.{falls_given, falls_load, falls_only}
use Rattle.nft_emit.proofs.SendLaws.{heads_below, sends_given, sends_only, verdict_there}

-- 1. An owner is one of the hosts.

place_below : (test : Host → Bool) (k : ℕ) (hs : List Host) (i : ℕ) → position_from test k hs ≡ Some i → i < k + length hs
place_below test k [] i found = cc
place_below test k (h ∷ hs) i found = by_test (test h) (place_below test (k + 1) hs i) found
  where
    by_test : (b : Bool) → (position_from test (k + 1) hs ≡ Some i → i < k + 1 + length hs)
        → cond b (Some k) (position_from test (k + 1) hs) ≡ Some i → i < k + suc (length hs)
    by_test true later found = let same : k ≡ i = cc in omega arith
    by_test false later found = let below = later found in omega arith

either_below : (n : ℕ) (own rest : Option ℕ) (i : ℕ) → ((j : ℕ) → own ≡ Some j → j < 0 + n) → ((j : ℕ) → rest ≡ Some j → j < n)
    → option_or own rest ≡ Some i → i < n
either_below n None rest i by_own by_rest found = by_rest i found
either_below n (Some j) rest i by_own by_rest found = let low = by_own i found in omega (arith, low)

pub owner_below : (hosts : List Host) (a i : ℕ) → owner_of hosts a ≡ Some i → i < length hosts
unfolding owner_of
owner_below hosts a i found =
    either_below (length hosts) (prefix_owner_of hosts a) (rest_of hosts) i (place_below (λ h. covers_any h.prefixes a) 0 hosts) (rest_below hosts) found

-- 2. The base chain.

-- What host `from` may send to host `to`, or to no host.
abbrev sends_from : FlowPolicy → Packet → CtState → Option ℕ → Bool
sends_from policy packet state from =
    option_map_or (λ i. may_link_owner Outbound policy packet (is_established state) i (owner_of policy.site.hosts packet.dst)) from false

from_only : (chains : List Chain) (policy : FlowPolicy) (cuts : List Cut) (heads : List (Option Verdict)) (packet : Packet) (state : CtState) (from : Option ℕ) (passes : Bool)
    → IsPacket packet → AreCuts policy.site.hosts cuts → AreHeads chains policy cuts heads → ((i : ℕ) → from ≡ Some i → i < length heads)
    → Ends chains state packet (verdict_of heads from) passes → passes ≡ sends_from policy packet state from
from_only chains policy cuts heads packet state None passes is are heads_are below ends = none_decides chains state packet passes ends
from_only chains policy cuts heads packet state (Some i) passes is are heads_are below ends =
    let found = heads_are i (verdict_at heads i) (verdict_there heads i (below i refl)) in
    sends_only chains policy cuts packet state i found.0 passes is are (owner_below policy.site.hosts) found.2
    (subst (λ (v : Option Verdict). Ends chains state packet v passes) found.1 ends)

from_given : (chains : List Chain) (policy : FlowPolicy) (cuts : List Cut) (heads : List (Option Verdict)) (packet : Packet) (state : CtState) (from : Option ℕ)
    → IsPacket packet → AreCuts policy.site.hosts cuts → AreHeads chains policy cuts heads → ((i : ℕ) → from ≡ Some i → i < length heads)
    → Ends chains state packet (verdict_of heads from) (sends_from policy packet state from)
from_given chains policy cuts heads packet state None is are heads_are below = by_policy
from_given chains policy cuts heads packet state (Some i) is are heads_are below =
    let found = heads_are i (verdict_at heads i) (verdict_there heads i (below i refl)) in
    subst (λ (v : Option Verdict). Ends chains state packet v (sends_from policy packet state (Some i))) (sym found.1)
    (sends_given chains policy cuts packet state i found.0 is are (owner_below policy.site.hosts) found.2)

-- 3. The table.

-- The base chain continues in the chain of the sender, and each chain of a sender is right.
pub record IsLaidOut (policy : FlowPolicy) (cuts : List Cut) (heads : List (Option Verdict)) (table : Table) : Type 0 where
  pub cuts_are : AreCuts policy.site.hosts cuts
  pub heads_are : AreHeads table.chains.items policy cuts heads
  pub whole : length heads ≡ length policy.site.hosts
  pub falls : Falls Source cuts heads (rest_of policy.site.hosts) table.forward.items

pub laid_out : (policy : FlowPolicy) (hosts : List Host) (cuts of_heads of_forward : List Cut) (heads verdicts : List (Option Verdict)) (rest : Option ℕ) (table : Table)
    → hosts ≡ policy.site.hosts → of_heads ≡ cuts → of_forward ≡ cuts → verdicts ≡ heads → rest ≡ rest_of policy.site.hosts
    → AreCuts hosts cuts → AreHeads table.chains.items policy of_heads heads → length heads ≡ length policy.site.hosts
    → Falls Source of_forward verdicts rest table.forward.items → IsLaidOut policy cuts heads table
laid_out policy hosts cuts of_heads of_forward heads verdicts rest table hosts_are heads_by forward_by same rest_is cuts_are heads_are whole falls = record {
  cuts_are = subst (λ (hs : List Host). AreCuts hs cuts) hosts_are cuts_are;
  heads_are = subst (λ (xs : List Cut). AreHeads table.chains.items policy xs heads) heads_by heads_are;
  whole = whole;
  falls = subst (λ (r : Option ℕ). Falls Source cuts heads r table.forward.items) rest_is
      (subst (λ (vs : List (Option Verdict)). Falls Source cuts vs rest table.forward.items) same
      (subst (λ (xs : List Cut). Falls Source xs verdicts rest table.forward.items) forward_by falls));
}

head_below : (policy : FlowPolicy) (heads : List (Option Verdict)) → length heads ≡ length policy.site.hosts
    → (a i : ℕ) → owner_of policy.site.hosts a ≡ Some i → i < length heads
head_below policy heads whole a i of = subst (λ (n : ℕ). i < n) (sym whole) (owner_below policy.site.hosts a i of)

pub table_enforces : (policy : FlowPolicy) (cuts : List Cut) (heads : List (Option Verdict)) (table : Table) → IsLaidOut policy cuts heads table
    → Enforces (PassesTable table) policy
table_enforces policy cuts heads table laid = record {
  given = λ packet state is.
      subst (PassesTable table state packet)
      (owners_send policy packet (is_established state) (owner_of policy.site.hosts packet.src) (owner_of policy.site.hosts packet.dst))
      (falls_given table.chains.items state packet Source policy.site.hosts cuts heads table.forward.items _ laid.cuts_are is.0 laid.falls
      (from_given table.chains.items policy cuts heads packet state (owner_of policy.site.hosts packet.src) is laid.cuts_are laid.heads_are
      (λ i of. head_below policy heads laid.whole packet.src i of)));
  only = λ packet state passes is has.
      from_only table.chains.items policy cuts heads packet state (owner_of policy.site.hosts packet.src) passes is laid.cuts_are laid.heads_are
      (λ i of. head_below policy heads laid.whole packet.src i of)
      (falls_only table.chains.items state packet Source policy.site.hosts cuts heads table.forward.items passes laid.cuts_are is.0 laid.falls has)
      ∙ owners_send policy packet (is_established state) (owner_of policy.site.hosts packet.src) (owner_of policy.site.hosts packet.dst);
}

pub table_expected : (policy : FlowPolicy) (cuts : List Cut) (heads : List (Option Verdict)) (table : Table) → IsFlowPolicy policy → IsLaidOut policy cuts heads table
    → ForwardsAsExpected (PassesTable table) policy
table_expected policy cuts heads table known laid =
    enforced_expected (PassesTable table) policy known.within (table_enforces policy cuts heads table laid)

pub table_loads : (policy : FlowPolicy) (cuts : List Cut) (heads : List (Option Verdict)) (table : Table) → IsHosts policy.site.hosts
    → length table.chains.items ≤ 65792 → AreBuilt policy.site.hosts (length policy.site.hosts) table.chains.items → IsLaidOut policy cuts heads table
    → IsLoadable table
table_loads policy cuts heads table hosts few built laid = record {
  few = omega (arith, few);
  forward = falls_load (length table.chains.items) Source policy.site.hosts cuts heads (rest_of policy.site.hosts) table.forward.items laid.cuts_are
      (heads_below table.chains.items policy cuts heads laid.heads_are) laid.falls;
  back = built.back;
  named = built_named policy.site.hosts table.chains.items hosts (omega (arith, few)) built;
  distinct = built.distinct;
}
