-- The chain of a sender, and the chains of all senders.
use Rattle.std.specs.Prelude.{◌≡◌, ℕ, List, Option, Some, length, slice_get}
use Rattle.host_net.specs.Host.{rest_of}
use Rattle.pkt_core.specs.FlowPolicy.{FlowPolicy}
use Rattle.nft_rules.specs.declared.table.Chain.{Chain}
use Rattle.nft_rules.specs.declared.table.End.TheVariants.{Destination}
use Rattle.nft_rules.specs.declared.table.Verdict.{Verdict}
use Rattle.nft_rules.specs.declared.table.Verdict.TheVariants.{Goto}
use Rattle.nft_emit.specs.declared.cuts.Cut.{Cut}
use Rattle.nft_emit.specs.inner.Falls.{Falls}
use Rattle.nft_emit.specs.inner.Links.{Fits}

-- The verdict on each receiver is right for the packets of host i.
abbrev pub RowFits : List Chain → FlowPolicy → ℕ → List (Option Verdict) → Type 0
RowFits chains policy i row = (j : ℕ) (v : Option Verdict) → slice_get row j ≡ Some v → Fits chains policy i j v

-- Chain c is right for the packets of host i.
pub record Sends (chains : List Chain) (policy : FlowPolicy) (cuts : List Cut) (i c : ℕ) : Type 0 where
  pub chain : Chain
  pub there : slice_get chains c ≡ Some chain
  pub row : List (Option Verdict)
  pub whole : length row ≡ length policy.site.hosts
  pub fits : RowFits chains policy i row
  pub falls : Falls Destination cuts row (rest_of policy.site.hosts) chain.rules.items

-- The packets of each host continue in a chain that is right for them.
abbrev pub AreHeads : List Chain → FlowPolicy → List Cut → List (Option Verdict) → Type 0
AreHeads chains policy cuts heads =
    (i : ℕ) (v : Option Verdict) → slice_get heads i ≡ Some v → (c : ℕ) × (v ≡ Some (Goto c)) × Sends chains policy cuts i c
