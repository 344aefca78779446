-- Verdicts of rules: rule sets and flow tables have one verdict on every packet in each state, and a slice has the verdicts of its rules.
use Rattle.std.proofs.Common.{◌≡◌, Bool, true, false, List, Option, Some, None, refl, sym, subst, ◌∙◌}
use Rattle.std.specs.Prelude.{IfSome}
use Rattle.host_net.specs.declared.packet.Packet.{Packet}
use Rattle.host_net.specs.declared.packet.CtState.{CtState}
use Rattle.host_net.specs.Packet.{IsPacket}
use Rattle.host_net.specs.declared.packet.Verdict.{Verdict}
use Rattle.host_net.specs.declared.packet.Verdict.TheVariants.{Forward as Forwarded, Drop as Dropped}
use Rattle.host_net.specs.Verdict.{verdict_if}
use Rattle.host_net.proofs.VerdictLaws.{verdict_if-injective}
use Rattle.header_space.specs.declared.packet_box.PacketBox.{PacketBox}
use Rattle.ipt_rules.specs.Chain.{Chain, policy_of}
use Rattle.ipt_rules.specs.Matching.{matches}
use Rattle.ipt_rules.specs.Semantics.{verdict_by}
use Rattle.ipt_rules.specs.Slices.{HaveSameChainVerdicts}
use Rattle.ipt_rules.proofs.MeaningLaws.{verdict_once}
use Rattle.ipt_rules.specs.inner.OneOutcome.{AreDeterministic}
use Rattle.ofp_rules.specs.declared.entry.Entry.{Entry}
use Rattle.ofp_rules.specs.declared.entry.Frame.TheVariants.{Ipv4}
use Rattle.ofp_rules.specs.inner.Build.{IsTable}
use Rattle.ofp_rules.specs.Semantics.{HasVerdict}
use Rattle.rules_space.specs.Rules.{Chains, Entries, AnyRules, filter_of}
use Rattle.rules_space.specs.Verdicts.{GivesOne, HaveSameVerdicts}

-- Every verdict is that the packet passes, or that it does not pass.
said_by : (v : Verdict) → (b : Bool) × (v ≡ verdict_if b)
said_by Forwarded = (true, refl)
said_by Dropped = (false, refl)

pub one_verdict : (rules : AnyRules) → GivesOne (filter_of rules) → (state : CtState) (p : Packet) → IsPacket p → (b c : Bool)
    → filter_of rules state p b → filter_of rules state p c → b ≡ c
one_verdict rules gives state p is b c first second = let one = gives state p is in one.2 b first ∙ sym (one.2 c second)

-- Chains that each have one outcome.
pub chains_give : (chains : List Chain) → AreDeterministic chains → GivesOne (filter_of (Chains chains))
chains_give chains each state p is =
    let one = each (matches p state) 1 0 in
    let said = said_by (verdict_by (policy_of chains 1) one.outcome) in
    let passes : filter_of (Chains chains) state p said.0 = record { outcome = one.outcome; gives = one.gives; verdict = sym said.1 } in
    (said.0, passes, (λ other h. verdict_if-injective other said.0 (verdict_once h passes)))

-- Entries of which no two contradict each other.
pub table_gives : (entries : List Entry) → IsTable entries → GivesOne (filter_of (Entries entries))
table_gives entries table state p is =
    let one = table.one_verdict (Ipv4 p) is in
    let said = said_by one.verdict in
    (said.0, subst (λ (v : Verdict). HasVerdict entries (Ipv4 p) v) said.1 one.has, (λ other h. verdict_if-injective other said.0 (one.only (verdict_if other) h ∙ said.1)))

-- Chains with the same verdicts on the packets of a box.
pub same_chains : (b : PacketBox) (xs ys : List Chain) → HaveSameChainVerdicts b xs ys → HaveSameVerdicts b (Chains xs) (Chains ys)
same_chains b xs ys same = λ p inside state passes. same p inside state (verdict_if passes)

pub same_slice : (b : PacketBox) (xs : List Chain) (slice : Option (List Chain)) → IfSome slice (HaveSameChainVerdicts b xs) → IfSome slice (λ ys. HaveSameVerdicts b (Chains xs) (Chains ys))
same_slice b xs None same = same
same_slice b xs (Some ys) same = same_chains b xs ys same
