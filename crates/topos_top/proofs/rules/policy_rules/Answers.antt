use Rattle.std.proofs.Common.{inl, inr, refl, sym, subst, false}
use Rattle.run_core.specs.Outcomes.{Answers}
use Rattle.topos_top.specs.Repair.{repair_outcomes}
use Rattle.run_core.specs.Reply.{Reply}
use Rattle.topos_top.proofs.RulesLaws.{ends_hindered}
use Rattle.topos_top.proofs.rules.policy_rules.Goals as goal

pub returns-in-Ok : goal.returns-in-Ok
returns-in-Ok c =
    let layout = rw (c.in-Ok.is, c.policy_between.ensures) at c.in_ok-layout.ensures in
    let policy = c.in_ok-policy.policy in
    let is_policy = c.in_ok-policy.ensures.policy in
    subst (λ (r : Reply). Answers false (repair_outcomes c.args.dialect c.args.description.now) r) (sym c.done.ensures) (
      refl,
      inr (inl (
        refl,
        (tt, record { policy = policy; is_policy = is_policy; so = layout.0 }),
        record { policy = policy; is_policy = is_policy; so = layout.1 },
      )),
    )

pub returns : goal.returns
returns c =
    let layout = rw (c.in-Err.is, c.policy_between.ensures) at c.in_ok-layout.ensures in
    ends_hindered c.args.dialect c.args.description.now _ _ c.not_emittable.ensures
    (record { policy = c.in_ok-policy.policy; is_policy = c.in_ok-policy.ensures.policy; so = layout })
