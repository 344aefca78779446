use Rattle.std.proofs.Common.{arith}
use Rattle.std.proofs.lemmas.List.{length-replicate}
use Rattle.std.proofs.lemmas.List.Elements.{All-replicate}
use Rattle.std.specs.Prelude.{◌<◌}
use Rattle.tmpl_table.proofs.table_rule.TableRule.of_lawful.Goals as goal

pub invariant_of-result : goal.invariant_of-result
invariant_of-result c = record {
  few = rw c.in_ok-hosts.ensures (omega (arith, length-replicate c.args.n c.args.default));
  kinds = rw c.in_ok-hosts.ensures (All-replicate (λ kind. kind < c.args.kinds) c.args.n c.args.default c.requires.default);
  default = c.requires.default;
  lawful = rw c.in_ok-from_slice.ensures.items c.requires.lawful;
}
