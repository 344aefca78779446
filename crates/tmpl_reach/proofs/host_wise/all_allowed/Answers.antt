use Rattle.std.proofs.Common.{ℕ, [], inl, inr, refl, subst, arith}
use Rattle.std.proofs.lemmas.Bool.{both_ways, cases_lt, false≢true}
use Rattle.reach_core.specs.laws.ReachLaws.{Reaches-below}
use Rattle.tmpl_reach.proofs.host_wise.all_allowed.Goals as goal

pub returns-then-not-allows : goal.returns-then-not-allows
returns-then-not-allows g c = (
  λ no. absurd (false≢true no),
  λ holds. absurd (both_ways _ c.if-not-allows.true ((c.allows.ensures c.args.closure.now.flows c.reached_from.ensures).1 (holds c.loop-host.host))),
)

pub loop-host-preserved : goal.loop-host-preserved
loop-host-preserved g c i below =
    let host : ℕ = c.loop-host.host in
    elim (cases_lt i host) [
      | inl before ↦ c.loop-host.invariant i before
      | inr late ↦
          subst (g.R.HostWise.allows_on c.args.rule.now c.args.closure.now.flows) (omega (arith, below, late))
          ((c.allows.ensures c.args.closure.now.flows c.reached_from.ensures).0 c.if-not-allows.false)
    ]

-- A number that is no host's reaches nothing.
pub returns : goal.returns
returns g c =
    let e = c.args.closure.now in (
      λ yes host. elim (cases_lt host e.size) [
        | inl below ↦ c.loop-host.invariant host (omega (arith, below, c.loop-host-test.false, c.size-host-end.ensures.size))
        | inr beyond ↦
            g.met.R.HostWise.allows_fewer c.args.rule.now e.flows [] host
            (λ j walk. absurd (omega (arith, beyond, (Reaches-below e.size e.flows c.size-host-end.ensures.set host j walk).0)))
            (g.met.R.HostWise.allows_none c.args.rule.now host)
      ],
      λ holds. refl,
    )
