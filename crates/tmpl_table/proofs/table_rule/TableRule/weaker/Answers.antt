use Rattle.std.proofs.Common.{◌≡◌, List, ℕ, sym, ◌∙◌, ap}
use Rattle.std.specs.Prelude.{find}
use Rattle.tmpl_table.specs.KindTable.{KindTable, TableHosts, passes_with}
use Rattle.tmpl_table.specs.inner.KindTable.{first_weaker}
use Rattle.tmpl_table.specs.laws.KindTableLaws.{default_weakens_nothing}
use Rattle.tmpl_table.proofs.table_rule.TableRule.weaker.Goals as goal

pub returns-clause-default : goal.returns-clause-default
returns-clause-default c same =
    let rule = c.self.inside in
    let table : KindTable = record { name = rule.name; strategy = rule.strategy; kinds = rule.kinds; default = rule.default; denied = rule.denied.items } in
    let kind : c.args.kind ≡ rule.default = same ∙ sym (ap (λ (hosts : TableHosts). hosts.table.default) c.self.view_is) in
    c.first_pair.ensures
    ∙ ap (λ (pairs : List (ℕ × ℕ)). find (passes_with rule.strategy pairs c.args.kind) pairs) c.deref.ensures.value
    ∙ ap (first_weaker table) kind ∙ default_weakens_nothing table c.self.invariant.lawful
