use Rattle.std.proofs.Common.{◌≡◌, ℕ, ◌≤◌, List, length, Option, Some, option_map, slice_set, sym, ap, subst, ◌∙◌}
use Rattle.tmpl_levels.specs.declared.tainting.Labels.{Labels}
use Rattle.attr_core.specs.Assigns.{Given}
use Rattle.attr_core.specs.Tainting.{labels_of}
use Rattle.attr_core.specs.inner.AssignView.{given_of}
use Rattle.attr_core.specs.inner.LabelWalk.{Labelled, labelled, tainting_reads}
use Rattle.attr_core.specs.inner.TaintedView.{Tainted}
use Rattle.attr_core.specs.laws.LabelWalkLaws.{labels_more, reads_is}
use Rattle.attr_core.proofs.tainting.TaintedHostsAttributeTable.take.Goals as goal

abbrev with_sets : List (List ℕ) → ℕ × ℕ → Labelled
with_sets labels sets = record { labels = labels; attribute = record { taints = sets.0; untaints = sets.1 } }

-- The code's result is the attribute of the assign after the earlier ones.
read_as : (labels now : List (List ℕ)) (earlier : List Given) (a : Given) (o : Option (ℕ × ℕ)) → labels ≡ labels_of earlier → length labels ≤ 64
    → labelled labels a.table ≡ option_map (with_sets now) o
    → tainting_reads earlier a ≡ option_map (λ (l : Labelled). l.attribute) (option_map (with_sets now) o)
read_as labels now earlier a o same few said =
    reads_is earlier a (subst (λ (ls : List (List ℕ)). length ls ≤ 64) same few)
    ∙ ap (option_map (λ (l : Labelled). l.attribute)) (ap (λ (ls : List (List ℕ)). labelled ls a.table) (sym same) ∙ said)

pub returns-in_default-clause-taken : goal.returns-in_default-clause-taken
returns-in_default-clause-taken c earlier keeps =
    let now = c.labelled.new.labels.items in
    let same = ap (λ (t : Tainted). t.labels) c.self.view_is ∙ keeps in
    ap (option_map (slice_set c.args.self.now.hosts c.args.assign.now.host))
    (read_as c.self.inside.labels.items now earlier (given_of c.args.assign.now) c.in_ok-taints.field-0 same c.self.invariant c.in_ok-taints.ensures.said
    ∙ ap (λ (o : Option (ℕ × ℕ)). option_map (λ (l : Labelled). l.attribute) (option_map (with_sets now) o)) c.in_default.is)

pub returns-clause-taken : goal.returns-clause-taken
returns-clause-taken c earlier keeps =
    let now = c.labelled.new.labels.items in
    let host : ℕ = c.args.assign.now.host in
    let same = ap (λ (t : Tainted). t.labels) c.self.view_is ∙ keeps in
    let is : c.in_ok-taints.field-0 ≡ Some (c.in-Some.taints, c.in-Some.untaints) = cc in
    let labels : Labels = record { taints = c.in-Some.taints; untaints = c.in-Some.untaints } in
    ap (option_map (slice_set c.args.self.now.hosts host))
    (read_as c.self.inside.labels.items now earlier (given_of c.args.assign.now) c.in_ok-taints.field-0 same c.self.invariant c.in_ok-taints.ensures.said
    ∙ ap (λ (o : Option (ℕ × ℕ)). option_map (λ (l : Labelled). l.attribute) (option_map (with_sets now) o)) is)
    ∙ ap Some (ap (λ (xs : List Labels). slice_set xs host labels) (sym (ap (λ (t : Tainted). t.hosts) c.self.view_is)) ∙ sym c.set.ensures)

pub returns-clause-keeps : goal.returns-clause-keeps
returns-clause-keeps c earlier keeps good =
    let now = c.labelled.new.labels.items in
    let a = given_of c.args.assign.now in
    let same = ap (λ (t : Tainted). t.labels) c.self.view_is ∙ keeps in
    let is : c.in_ok-taints.field-0 ≡ Some (c.in-Some.taints, c.in-Some.untaints) = cc in
    let few = subst (λ (ls : List (List ℕ)). length ls ≤ 64) same c.self.invariant in
    let said =
    ap (λ (ls : List (List ℕ)). labelled ls a.table) (sym same) ∙ c.in_ok-taints.ensures.said ∙ ap (option_map (with_sets now)) is in
    (labels_more earlier a (with_sets now (c.in-Some.taints, c.in-Some.untaints)) few said).0
