use Rattle.std.proofs.Common.{List, ℕ, map, is_some, sym, ap, ◌∙◌}
use Rattle.attr_core.specs.inner.AssignView.{given_of}
use Rattle.attr_core.specs.Assigns.{Given}
use Rattle.attr_core.specs.inner.Bad.{first_failing}
use Rattle.attr_core.proofs.OwnTablesLaws.{bad_kinds}
use Rattle.attr_core.specs.inner.OwnTablesWalk.{kind_of_assign}
use Rattle.attr_core.proofs.own_table.bad_kind.Goals as goal

pub returns : goal.returns
returns c d hosts same =
    c.first_without_attribute.ensures
    ∙ ap (λ (words : List (List ℕ)). first_failing (λ (a : Given). is_some (kind_of_assign words a.table)) 0 (map given_of c.args.assigns.now)) (sym same)
    ∙ sym (bad_kinds d hosts (map given_of c.args.assigns.now))
