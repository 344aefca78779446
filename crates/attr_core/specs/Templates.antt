-- The ten templates, and their names in descriptions: docs/FORMATS.md.
use Rattle.std.specs.Prelude.{ℕ, List, [], ◌∷◌, Option, find}
use Rattle.std.specs.Str.{bytes_eq}
use Rattle.attr_core.specs.Blp.{blp_form}
use Rattle.attr_core.specs.Tainting.{tainting_form}
use Rattle.attr_core.specs.Sink.{sink_form}
use Rattle.attr_core.specs.Gateway.{gateway_form}
use Rattle.attr_core.specs.Subnets.{subnets_form}
use Rattle.attr_core.specs.Partners.{partners_form}
use Rattle.attr_core.specs.Domains.{domains_form}
use Rattle.attr_core.specs.Dependability.{dependability_form}
use Rattle.attr_core.specs.NonInterference.{interference_form}
use Rattle.attr_core.specs.NoReach.{noreach_form}
use Rattle.attr_core.specs.Forms.{Form}
use Rattle.attr_core.specs.declared.template.Template.{Template}
use Rattle.attr_core.specs.declared.template.Template.TheVariants.{Blp, Tainting, Sink, Gateway, Subnets, Partners, Domains, Dependability, NonInterference, NoReach}

-- The attribute format of each template.
abbrev pub form : Template → Form
form Blp = blp_form
form Tainting = tainting_form
form Sink = sink_form
form Gateway = gateway_form
form Subnets = subnets_form
form Partners = partners_form
form Domains = domains_form
form Dependability = dependability_form
form NonInterference = interference_form
form NoReach = noreach_form

-- All ten templates.
abbrev pub templates : List Template
templates = Blp ∷ Tainting ∷ Sink ∷ Gateway ∷ Subnets ∷ Partners ∷ Domains ∷ Dependability ∷ NonInterference ∷ NoReach ∷ []

-- The template with a name.
unfoldable pub template_named : List ℕ → Option Template
template_named name = find (λ t. bytes_eq name (form t).template.name) templates
