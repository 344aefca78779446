use Rattle.std.proofs.Common.{◌∙◌, ◌+◌, ℕ, List, Option, ap, length, subst, sym}
use Rattle.host_net.specs.Host.{Host, rest_of}
use Rattle.nft_rules.specs.declared.table.Chain.{Chain}
use Rattle.nft_rules.specs.declared.table.End.TheVariants.{Destination}
use Rattle.nft_rules.specs.declared.table.Verdict.{Verdict}
use Rattle.nft_emit.specs.inner.Building.{AreBuilt, sender_name}
use Rattle.nft_emit.specs.inner.Falls.{Falls}
use Rattle.nft_emit.specs.inner.Sending.{Sends}
use Rattle.nft_emit.proofs.BuildLaws.{sender_built}
use Rattle.nft_emit.proofs.FallLaws.{falls_load}
use Rattle.nft_emit.proofs.SendLaws.{row_below, sender_sends}
use Rattle.nft_emit.proofs.sender.push_sender.Goals as goal

pub returns-clause-built : goal.returns-clause-built
returns-clause-built c =
    let policy = c.args.policy.now in
    let hosts = policy.site.hosts in
    let cuts = c.args.cuts.now in
    let old = c.row_of.new.chains.list.items in
    let row = c.in_ok-verdicts.verdicts.items in
    let new : Chain = record { name = c.in_ok-name.name; rules = c.in_ok-rules.rules } in
    let falls = subst (λ (r : Option ℕ). Falls Destination cuts row r new.rules.items) c.rest.ensures
    (subst (λ (vs : List (Option Verdict)). Falls Destination cuts vs c.rest.result new.rules.items) c.deref.ensures.value c.in_ok-rules.ensures) in
    subst (λ (xs : List Chain). AreBuilt hosts (c.args.from + 1) xs) (sym c.in_ok-push.ensures.items)
    (sender_built hosts c.args.from old new c.hosts.ensures.policy.site.hosts c.requires.from c.in_ok-verdicts.ensures.built
    (falls_load (length old) Destination hosts cuts row (rest_of hosts) new.rules.items c.requires.cuts
    (row_below old policy c.args.from row c.in_ok-verdicts.ensures.fits) falls)
    (c.in_ok-name.ensures ∙ ap (λ (hs : List Host). sender_name hs c.args.from) c.hosts.ensures.value))

pub returns-clause-sends : goal.returns-clause-sends
returns-clause-sends c =
    let policy = c.args.policy.now in
    let cuts = c.args.cuts.now in
    let old = c.row_of.new.chains.list.items in
    let row = c.in_ok-verdicts.verdicts.items in
    let new : Chain = record { name = c.in_ok-name.name; rules = c.in_ok-rules.rules } in
    let falls = subst (λ (r : Option ℕ). Falls Destination cuts row r new.rules.items) c.rest.ensures
    (subst (λ (vs : List (Option Verdict)). Falls Destination cuts vs c.rest.result new.rules.items) c.deref.ensures.value c.in_ok-rules.ensures) in
    subst (λ (n : ℕ). Sends c.push.new.self.items policy cuts c.args.from n) (sym (c.len-number.ensures ∙ c.row_of.new.chains.list.ok.0))
    (subst (λ (xs : List Chain). Sends xs policy cuts c.args.from (length old)) (sym c.in_ok-push.ensures.items)
    (sender_sends old policy cuts c.args.from row new c.in_ok-verdicts.ensures.whole c.in_ok-verdicts.ensures.fits falls))
