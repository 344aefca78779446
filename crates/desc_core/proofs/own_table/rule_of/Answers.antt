use Rattle.std.proofs.Common.{◌≡◌, ℕ, Bor, List, length, true, sym, subst, ◌∙◌}
use Rattle.std.proofs.lemmas.List.{length-map}
use Rattle.desc_core.proofs.OwnTableLemmas.{table_is, table_with}
use Rattle.desc_core.specs.Choices.{declared_table}
use Rattle.desc_form.specs.inner.RawView.{template_view}
use Rattle.tmpl_table.specs.KindTable.{KindTable, is_lawful}
use Rattle.desc_core.proofs.own_table.rule_of.Goals as goal

pub of_lawful-requires-clause-lawful : goal.of_lawful-requires-clause-lawful
of_lawful-requires-clause-lawful c =
    let t = template_view c.args.template.now in
    let name : c.of-name.result ≡ t.name = c.of-name.ensures ∙ c.as_bytes.ensures.value in
    let count : c.len-kinds.result ≡ length t.kinds =
    c.len-kinds.ensures ∙ c.args.template.now.kinds.ok.0
    ∙ sym (length-map c.args.template.now.kinds.items (λ (kind : Bor (List ℕ)). kind.now)) in
    let same : table_with c.of-name.result c.declared_strategy-strategy.result c.len-kinds.result c.number_of_kind-default.result c.deref.result.now ≡ declared_table t =
    table_is t _ _ _ _ _ name c.declared_strategy-strategy.ensures count c.number_of_kind-default.ensures.value (c.deref.ensures.value ∙ c.in_ok-denied.ensures) in
    subst (λ (k : KindTable). is_lawful k ≡ true) (sym same) c.requires.lawful
