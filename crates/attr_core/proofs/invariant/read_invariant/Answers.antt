use Rattle.std.proofs.Common.{◌≡◌, ◌<◌, Some, map, length, refl, subst}
use Rattle.std.proofs.lemmas.List.{length-map}
use Rattle.inv_any.specs.Templates.{meaning_of, template_name}
use Rattle.inv_any.specs.inner.Templates.{HostsMayHave}
use Rattle.attr_core.specs.inner.AssignView.{given_of}
use Rattle.attr_core.proofs.HostLabelsLaws.{hosts_have_labels}
use Rattle.attr_core.specs.inner.LabelBits.{HaveTheirLabels}
use Rattle.attr_core.specs.inner.ReadIn.{invariant_in}
use Rattle.attr_core.proofs.MayHaveLaws.{hosts_may_have}
use Rattle.attr_core.specs.Templates.{template_named}
use Rattle.attr_core.proofs.TemplatesLaws.{bad_given, blames, fault_of, invariant_named, invariant_sized, made_of, none_of}
use Rattle.attr_core.proofs.invariant.read_invariant.Goals as goal

pub returns-clause-good : goal.returns-clause-good
returns-clause-good c = none_of c.args.hosts.now c.args.template (map given_of c.args.assigns.now) c.by_template.result c.by_template.ensures

pub returns-clause-first : goal.returns-clause-first
returns-clause-first c = fault_of c.args.hosts.now c.args.template (map given_of c.args.assigns.now) c.by_template.result c.by_template.ensures

pub returns-clause-silent : goal.returns-clause-silent
returns-clause-silent c = blames c.args.hosts.now c.args.template (map given_of c.args.assigns.now) c.by_template.result c.by_template.ensures

pub returns-clause-within : goal.returns-clause-within
returns-clause-within c k is =
    let assigns = map given_of c.args.assigns.now in
    subst (λ n. k < n) (length-map c.args.assigns.now given_of)
    (bad_given c.args.hosts.now c.args.template assigns k (fault_of c.args.hosts.now c.args.template assigns c.by_template.result c.by_template.ensures k is))

pub returns-clause-invariant : goal.returns-clause-invariant
returns-clause-invariant c =
    made_of (λ inv. inv ≡ invariant_in c.args.hosts.now c.args.template (map given_of c.args.assigns.now))
    c.args.hosts.now c.args.template (map given_of c.args.assigns.now) c.by_template.result c.by_template.ensures (λ good. refl)

pub returns-clause-size : goal.returns-clause-size
returns-clause-size c =
    made_of (λ inv. (meaning_of inv).size ≡ length c.args.hosts.now)
    c.args.hosts.now c.args.template (map given_of c.args.assigns.now) c.by_template.result c.by_template.ensures
    (λ good. invariant_sized c.args.hosts.now c.args.template (map given_of c.args.assigns.now))

pub returns-clause-named : goal.returns-clause-named
returns-clause-named c =
    made_of (λ inv. template_named (template_name inv) ≡ Some c.args.template)
    c.args.hosts.now c.args.template (map given_of c.args.assigns.now) c.by_template.result c.by_template.ensures
    (λ good. invariant_named c.args.hosts.now c.args.template (map given_of c.args.assigns.now))

pub returns-clause-may_have : goal.returns-clause-may_have
returns-clause-may_have c =
    made_of HostsMayHave c.args.hosts.now c.args.template (map given_of c.args.assigns.now) c.by_template.result c.by_template.ensures
    (λ good. hosts_may_have c.args.hosts.now c.args.template (map given_of c.args.assigns.now))

pub returns-clause-labels : goal.returns-clause-labels
returns-clause-labels c =
    let assigns = map given_of c.args.assigns.now in
    made_of (HaveTheirLabels assigns) c.args.hosts.now c.args.template assigns c.by_template.result c.by_template.ensures
    (hosts_have_labels c.args.hosts.now c.args.template assigns)
