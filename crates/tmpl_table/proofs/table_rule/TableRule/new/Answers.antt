use Rattle.std.proofs.Common.{sym, ◌∙◌}
use Rattle.tmpl_table.specs.KindTable.{KindTable}
use Rattle.tmpl_table.specs.laws.KindTableLaws.{accepted, refused}
use Rattle.tmpl_table.proofs.table_rule.TableRule.new.Goals as goal

pub returns-in-Some-clause-refused : goal.returns-in-Some-clause-refused
returns-in-Some-clause-refused c =
    let table : KindTable = record { name = c.args.name; strategy = c.args.strategy; kinds = c.args.kinds; default = c.args.default; denied = c.args.denied.now } in
    let found = sym c.first_place.ensures ∙ c.in-Some.is in
    (found, refused table c.in-Some.place c.requires.pairs found)

pub of_lawful-requires-clause-lawful : goal.of_lawful-requires-clause-lawful
of_lawful-requires-clause-lawful c =
    let table : KindTable = record { name = c.args.name; strategy = c.args.strategy; kinds = c.args.kinds; default = c.args.default; denied = c.args.denied.now } in
    (accepted table (sym c.first_place.ensures ∙ c.in_default.is)).0

pub returns-clause-accepted : goal.returns-clause-accepted
returns-clause-accepted c =
    let table : KindTable = record { name = c.args.name; strategy = c.args.strategy; kinds = c.args.kinds; default = c.args.default; denied = c.args.denied.now } in
    rw c.in_ok-rule.ensures (accepted table (sym c.first_place.ensures ∙ c.in_default.is))
