use Rattle.std.proofs.Common.{◌≤◌, ◌<◌, ℕ, Bool, List, Option, Some, None, length, ap, sym, subst, arith}
use Rattle.std.specs.Prelude.{IfSome}
use Rattle.host_net.specs.declared.packet.Packet.{Packet}
use Rattle.host_net.specs.declared.packet.CtState.TheVariants.{New}
use Rattle.ipt_rules.specs.declared.rule.Rule.{Rule}
use Rattle.ipt_rules.specs.Matching.{matches}
use Rattle.ipt_rules.specs.inner.Next.{IsNext}
use Rattle.ipt_rules.proofs.NextLemmas.{chain_few}
use Rattle.ipt_rules.proofs.packets.OnePacketPackets.next_rule.Goals as goal

pub next_rule-requires-clause-few : goal.next_rule-requires-clause-few
next_rule-requires-clause-few c =
    let (chains, can, same, all) = c.requires in
    let few = chain_few chains c.args.chain in
    let long = ap length same in
    omega (arith, few, long, all)

pub returns-clause-next : goal.returns-clause-next
returns-clause-next c = λ p state is.
    subst (λ (q : Packet). IsNext (matches q state) c.args.rules.now c.args.from c.next_rule.result) (sym is) (c.next_rule.ensures.next state)

next_within : (fits : Rule → Bool) (rules : List Rule) (from : ℕ) (o : Option ℕ) → IsNext fits rules from o → IfSome o (λ at. (from ≤ at) × (at < length rules))
next_within fits rules from None next = tt
next_within fits rules from (Some at) next = (next.later, next.within)

pub returns-clause-within : goal.returns-clause-within
returns-clause-within c = next_within (matches c.args.self.now.packet.now New) c.args.rules.now c.args.from c.next_rule.result (c.next_rule.ensures.next New)
