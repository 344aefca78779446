use Rattle.std.proofs.Common.{◌≡◌, ◌∙◌, false, Some, List, sym, ap, subst, inl, refl}
use Rattle.host_net.specs.Host.{Host, host_named}
use Rattle.host_emit.specs.LocalLayout.{is_specific}
use Rattle.run_core.specs.Outcomes.{Answers}
use Rattle.topos_top.specs.Local.{CannotEmitLocal, RestHost}
use Rattle.topos_top.specs.inner.Local.{local_dialect_of, machines_outcomes}
use Rattle.run_core.specs.Reply.{Reply}
use Rattle.topos_top.proofs.LocalLaws.{is_rest}
use Rattle.topos_top.proofs.local.machines.Goals as goal

pub returns-then-not-is_specific : goal.returns-then-not-is_specific
returns-then-not-is_specific c =
    let d = c.args.description.now in
    let number = c.in-Some.number in
    let hosts = c.hosts-hosts.ensures.value in
    let named : host_named d.hosts c.args.host.now ≡ Some number =
    ap (λ (hs : List Host). host_named hs c.args.host.now) (sym hosts) ∙ ap (host_named c.hosts-hosts.result.now) (sym c.as_bytes.ensures.value) ∙ sym c.in-Some.ensures in
    let other : is_specific d.hosts number ≡ false =
    ap (λ (hs : List Host). is_specific hs number) (sym hosts) ∙ sym c.is_specific.ensures ∙ c.if-not-is_specific.true in
    let barred : CannotEmitLocal d c.args.host.now c.in_ok-rest_host_line.field-0.items =
    RestHost number named (is_rest d.hosts number other) c.in_ok-rest_host_line.ensures in
    subst (λ (r : Reply). Answers false (machines_outcomes (local_dialect_of c.args.dialect) d c.args.host.now) r) (sym c.not_emittable-then-not-is_specific.ensures) (refl, inl (refl, (tt, c.in_ok-rest_host_line.field-0.items, barred), barred))
