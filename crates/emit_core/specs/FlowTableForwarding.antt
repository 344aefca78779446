-- The verdicts of the flow table of a policy on frames other than IPv4.
use Rattle.std.specs.Prelude.{◌≡◌, ◌↔◌, List}
use Rattle.host_net.specs.declared.packet.Verdict.{Verdict}
use Rattle.host_net.specs.declared.packet.Verdict.TheVariants.{Forward as Forwarded, Drop as Dropped}
use Rattle.ofp_rules.specs.declared.entry.Frame.TheVariants.{Arp, Other}
use Rattle.ofp_rules.specs.declared.entry.Entry.{Entry}
use Rattle.ofp_rules.specs.Semantics.{HasVerdict}

-- The table forwards ARP frames and drops all other frames that are not IPv4: each has this verdict and no other.
pub record ForwardsArpAlone (entries : List Entry) : Type 0 where
  pub arp : (v : Verdict) → HasVerdict entries Arp v ↔ (v ≡ Forwarded)
  pub other : (v : Verdict) → HasVerdict entries Other v ↔ (v ≡ Dropped)
