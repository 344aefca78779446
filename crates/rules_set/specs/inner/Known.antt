-- The known effects of chains. Not visible to callers.
use Rattle.std.specs.Prelude.{◌≡◌, ℕ, List, Option, Some, None, IsSome, slice_get}
use Rattle.std.specs.Option.{unwrap_or}
use Rattle.host_net.specs.declared.packet.CtState.{CtState}
use Rattle.header_space.specs.declared.packet_box.PacketBox.{PacketBox}
use Rattle.ipt_rules.specs.declared.rule.Rule.{Rule}
use Rattle.ipt_rules.specs.declared.rule.Target.{Target}
use Rattle.ipt_rules.specs.declared.rule.Target.TheVariants.{Jump}
use Rattle.ipt_rules.specs.Chain.{Chain, rules_of}
use Rattle.ipt_rules.specs.inner.Walking.{IsShallow}
use Rattle.packet_set.specs.declared.node.Node.{Node}
use Rattle.rules_set.specs.declared.effect.Effect.{Effect}
use Rattle.rules_set.specs.inner.Effects.{IsEffect}

-- The effect of chain c, if it is known.
abbrev pub effect_at : List (Option Effect) → ℕ → Option Effect
effect_at known c = unwrap_or (slice_get known c) None

-- Each known effect is the effect of its chain.
abbrev pub AreKnown : List Node → List Chain → CtState → PacketBox → List (Option Effect) → Type 0
AreKnown nodes chains state b known = (c : ℕ) (e : Effect) → effect_at known c ≡ Some e → IsEffect nodes chains state b (rules_of chains c) e

-- The effect of each chain that was known is still known.
abbrev pub KnowsMore : (old new : List (Option Effect)) → Type 0
KnowsMore old new = (c : ℕ) → IsSome (effect_at old c) → IsSome (effect_at new c)

-- If the target is a jump, the effect of the chain is known.
abbrev pub IsKnownTarget : List (Option Effect) → Target → Type 0
IsKnownTarget known (Jump c) = IsSome (effect_at known c)
IsKnownTarget known _ = Unit {0}

-- If the rule jumps, the effect of the chain is known.
abbrev pub LeadsToKnown : List (Option Effect) → Rule → Type 0
LeadsToKnown known r = IsKnownTarget known r.target

-- If the target is a jump, the chain exists, and its jumps are nested less than `depth` deep.
abbrev pub IsShallowTarget : List Chain → ℕ → Target → Type 0
IsShallowTarget chains depth (Jump c) = IsShallow chains depth c
IsShallowTarget chains depth _ = Unit {0}

-- If the rule jumps, the chain exists, and its jumps are nested less than `depth` deep.
abbrev pub JumpsShallow : List Chain → ℕ → Rule → Type 0
JumpsShallow chains depth r = IsShallowTarget chains depth r.target
