-- Templates in which each assign is independent: its attribute does not depend on the earlier assigns.
use Rattle.std.specs.Prelude.{ℕ, List, Option}
use Rattle.host_net.specs.Host.{Host}
use Rattle.inv_any.specs.declared.any_inv.AnyInv.{AnyInv}
use Rattle.inv_law.specs.Template.{Template}
use Rattle.toml.specs.Data.{Members}
use Rattle.attr_core.specs.Forms.{Form}
use Rattle.table_core.specs.Keys.{Key}

-- The format of such a template: the attribute that a table with these keys specifies for a host among these hosts, if
-- it specifies one.
abbrev pub alone : (t : Template) → List Key → (List Host → ℕ → Members → Option t.Attribute) → (List t.Attribute → AnyInv) → Form
alone t keys attribute make = record {
  template = t;
  keys = keys;
  reads = λ hosts earlier a. attribute hosts a.host a.table;
  make = make;
}
