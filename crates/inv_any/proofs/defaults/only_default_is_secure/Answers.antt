use Rattle.inv_any.specs.laws.TemplateLaws.{only_default}
use Rattle.inv_any.proofs.defaults.only_default_is_secure.Goals as goal

pub returns : goal.returns
returns c = only_default
