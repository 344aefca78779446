use Rattle.inv_any.specs.laws.TemplateLaws.{may_have_default}
use Rattle.tmpl_table.specs.laws.KindTableLaws.{declared_default}
use Rattle.inv_any.proofs.defaults.hosts_may_have_the_default.Goals as goal

pub returns : goal.returns
returns c = record { ten = may_have_default; table = declared_default }
