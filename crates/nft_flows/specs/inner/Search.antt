-- The order of rules of chains as a test. Internal: callers use `Dead`.
use Rattle.std.specs.Prelude.{◌==◌, ◌&&◌, ◌||◌, Bool, nat_lt}
use Rattle.ipt_rules.specs.declared.marks.Place.{Place}

abbrev pub comes_before : Place → Place → Bool
comes_before p q = nat_lt p.chain q.chain || ((p.chain == q.chain) && nat_lt p.rule q.rule)
