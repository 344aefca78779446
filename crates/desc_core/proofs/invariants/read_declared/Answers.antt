use Rattle.std.proofs.Common.{◌≡◌, Bor, List, ℕ, length, map, sym, ap, ◌∙◌}
use Rattle.std.proofs.lemmas.List.{length-replicate}
use Rattle.attr_core.specs.inner.AssignView.{given_of}
use Rattle.attr_core.specs.Forms.{invariant_by}
use Rattle.attr_core.specs.OwnTables.{table_form}
use Rattle.desc_core.specs.Choices.{declared_table}
use Rattle.desc_form.specs.inner.RawView.{template_view}
use Rattle.tmpl_table.specs.KindTable.{TableHosts}
use Rattle.desc_core.proofs.invariants.read_declared.Goals as goal

pub returns : goal.returns
returns c =
    let t = template_view c.args.template.now in
    let made = c.in_ok-rule.ensures in
    let sized : length c.args.hosts.now ≡ length c.in_ok-rule.rule.hosts =
    sym (ap (λ (rule : TableHosts). length rule.hosts) made ∙ length-replicate c.count.result (declared_table t).default ∙ c.count.ensures.value) in
    c.read_kinds.ensures c.args.hosts.now sized
    ∙ (λ i. invariant_by (table_form (record { words = map (λ (kind : Bor (List ℕ)). kind.now) (c.deref.ensures.value i); table = (made i).table })) c.args.hosts.now (map given_of c.args.assigns.now))
