-- The default of the sink template is secure, and no other attribute is.
use Rattle.std.specs.Prelude.{refl}
use Rattle.std.proofs.lemmas.Bool.{false≢true}
use Rattle.inv_law.specs.inner.Resets.{IsSecureDefault}
use Rattle.inv_law.specs.Template.{AnyAttribute}
use Rattle.inv_law.specs.inner.Template.{MayHaveDefault, OnlyDefaultIsSecure}
use Rattle.inv_law.specs.laws.DefaultLaws.{receiver_lets_off}
use Rattle.inv_law.specs.laws.TemplateLaws.{IsLawfulTemplate, lawful_edge}
use Rattle.inv_law.specs.declared.strategy.Strategy.TheVariants.{Information}
use Rattle.tmpl_zones.specs.Kinds.{TablePasses}
use Rattle.tmpl_zones.specs.Sink.{sinks, sink_passes}
use Rattle.tmpl_zones.specs.declared.sink.SinkKind.TheVariants.{Sink, Pool, Unassigned}

-- Only unassigned senders reach an unassigned receiver, and they reach all.
pub sink_secure : IsSecureDefault Information Unassigned (TablePasses sink_passes)
sink_secure Sink receiver passes = passes
sink_secure Pool receiver passes = absurd (false≢true passes)
sink_secure Unassigned receiver passes = refl

pub sinks_lawful : IsLawfulTemplate sinks
sinks_lawful = lawful_edge sinks.name sinks.strategy AnyAttribute Unassigned (TablePasses sink_passes) sink_secure

pub sinks_default : MayHaveDefault sinks
sinks_default n host within = tt

-- A pool sends to sinks and pools.
pub sinks_only : OnlyDefaultIsSecure sinks
sinks_only n host Unassigned two is_host may other = absurd (other refl)
sinks_only n host x two is_host may other =
    receiver_lets_off sinks.name sinks.MayHave Unassigned (λ i. TablePasses sink_passes) x Pool
    (λ n k. tt) (λ n k. tt) (λ i passes. false≢true passes) (λ i. refl) n host two is_host
