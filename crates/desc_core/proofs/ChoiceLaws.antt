-- Facts about the template of an invariant, by the attribute format of the template.
use Rattle.std.proofs.Common.{◌≡◌, ℕ, ◌<◌, List, [], length, Some, refl, ap, ◌∙◌, sym, arith}
use Rattle.std.proofs.lemmas.List.FromFn.{length-map-range_with_len}
use Rattle.std.specs.Prelude.{unwrap_or}
use Rattle.attr_core.specs.Assigns.{Given}
use Rattle.attr_core.specs.OwnTables.{table_form}
use Rattle.attr_core.specs.Forms.{attributes_in, bad_assign, last_assigned, says}
use Rattle.attr_core.proofs.TemplatesLaws.{invariant_is, invariant_sized}
use Rattle.desc_core.specs.Choices.{Choice, OneOfTen, OwnTable, bad_of, choice_form, declared_by, made_by, declared_table}
use Rattle.attr_core.specs.laws.FormLaws.{bad_within}
use Rattle.host_net.specs.Host.{Host}
use Rattle.inv_any.specs.Templates.{meaning_of}

pub bad_by_form : (hosts : List Host) (c : Choice) (assigns : List Given) → bad_of hosts c assigns ≡ bad_assign (choice_form c) hosts assigns
unfolding bad_of
bad_by_form hosts c assigns = refl

pub made_by_form : (hosts : List Host) (c : Choice) (assigns : List Given)
    → made_by hosts c assigns ≡ (choice_form c).make (attributes_in (choice_form c) hosts assigns)
unfolding made_by
made_by_form hosts c assigns = refl

-- An invariant that is made has an attribute for each host.
pub made_sized : (hosts : List Host) (c : Choice) (assigns : List Given) → (meaning_of (made_by hosts c assigns)).size ≡ length hosts
unfolding made_by
made_sized hosts (OneOfTen t) assigns = ap (λ inv. (meaning_of inv).size) (sym (invariant_is hosts t assigns)) ∙ invariant_sized hosts t assigns
made_sized hosts (OwnTable t) assigns =
    length-map-range_with_len (λ host. unwrap_or (last_assigned (says (table_form (declared_by t)) hosts) [] host assigns) (declared_table t).default) 0 (length hosts)

-- A bad assign is one of the given assigns.
pub bad_of_within : (hosts : List Host) (c : Choice) (assigns : List Given) (k : ℕ) → bad_of hosts c assigns ≡ Some k → k < length assigns
bad_of_within hosts c assigns k is =
    omega (arith, bad_within (says (choice_form c) hosts) [] assigns k (sym (bad_by_form hosts c assigns) ∙ is))
