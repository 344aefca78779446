use Rattle.std.proofs.Common.{arith, length-set, ℕ}
use Rattle.std.proofs.lemmas.List.Elements.{All-set}
use Rattle.std.specs.Prelude.{◌<◌}
use Rattle.tmpl_table.proofs.table_rule.TableRuleEdgeRule.with_default.Goals as goal

pub invariant_of-result : goal.invariant_of-result
invariant_of-result c =
    let rule = c.self.inside in
    record {
      few = omega (arith, length-set {A = ℕ}, c.in_ok-hosts.ensures.len);
      kinds = rw (c.in_ok-hosts.ensures.items, c.deref.ensures.value) (All-set (λ kind. kind < rule.kinds) rule.hosts.items c.args.host rule.default c.self.invariant.default c.self.invariant.kinds);
      default = c.self.invariant.default;
      lawful = rw (c.in_ok-from_slice.ensures.items, c.deref-2.ensures.value) c.self.invariant.lawful;
    }
