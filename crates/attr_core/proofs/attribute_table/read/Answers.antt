use Rattle.std.proofs.Common.{◌≡◌, ℕ, List, Option, Some, map, refl, sym, ◌∙◌, ap, Ok, Err}
use Rattle.host_net.specs.Host.{Host}
use Rattle.inv_any.specs.declared.any_inv.AnyInv.{AnyInv}
use Rattle.attr_core.specs.Assigns.{Given}
use Rattle.attr_core.specs.Forms.{Form, attributes_in, bad_assign, invariant_by}
use Rattle.attr_core.specs.inner.AssignView.{Reads, given_of}
use Rattle.attr_core.specs.inner.ReadIn.{read_by}
use Rattle.attr_core.specs.inner.Walks.{ended}
use Rattle.attr_core.specs.declared.fault.AttrFault.{AttrFault}
use Rattle.attr_core.specs.declared.fault.AttrFault.TheVariants.{BadAttribute, Memory}
use Rattle.attr_core.proofs.attribute_table.read.Goals as goal

blamed_by : (form : Form) (hosts : List Host) (assigns : List Given) (fault : AttrFault)
    → ((k : ℕ) → fault ≡ BadAttribute k → bad_assign form hosts assigns ≡ Some k) → Reads {A = AnyInv} (Err fault) (read_by form hosts assigns)
unfolding read_by
blamed_by form hosts assigns (BadAttribute k) first = ap (λ (bad : Option ℕ). ended bad (invariant_by form hosts assigns)) (first k refl)
blamed_by form hosts assigns Memory first = tt

pub returns-in-Ok : goal.returns-in-Ok
unfolding read_by
returns-in-Ok g c =
    let form = g.T.AttributeTable.form in
    let all = attributes_in form c.args.hosts.now (map given_of c.args.assigns.now) in
    ap (λ (bad : Option ℕ). ended bad (form.make all)) c.in-Ok.ensures.good
    ∙ ap (λ (xs : List form.template.Attribute). Ok (form.make xs)) (sym c.in-Ok.ensures.attributes) ∙ ap Ok (sym c.make.ensures)

pub returns-in-Err : goal.returns-in-Err
returns-in-Err g c =
    blamed_by g.T.AttributeTable.form c.args.hosts.now (map given_of c.args.assigns.now) c.in-Err.fault (λ k is. c.in-Err.ensures.first k (ap Err is))
