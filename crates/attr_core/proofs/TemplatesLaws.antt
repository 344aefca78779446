-- The record of a template and the cases of AnyInv agree: each lemma is one term, which is checked for each template.
use Rattle.std.proofs.Common.{◌≡◌, ℕ, ◌<◌, List, [], length, Option, Some, None, Result, Ok, Err, refl, sym, ap, ◌∙◌, subst, arith}
use Rattle.std.proofs.lemmas.List.FromFn.{length-map-range_with_len}
use Rattle.std.specs.Prelude.{IfOk, unwrap_or}
use Rattle.host_net.specs.Host.{Host}
use Rattle.inv_any.specs.declared.any_inv.AnyInv.{AnyInv}
use Rattle.attr_core.specs.inner.AssignView.{Reads}
use Rattle.attr_core.specs.Assigns.{Given}
use Rattle.attr_core.specs.laws.FormLaws.{bad_within}
use Rattle.attr_core.proofs.FirstBadLaws.{first_told}
use Rattle.attr_core.specs.Forms.{Form, attributes_in, bad_assign, last_assigned, says}
use Rattle.attr_core.specs.inner.FirstBad.{BlamesFirstBad, SaysNothing, IsFirstBadOrNone}
use Rattle.attr_core.specs.inner.Walks.{ended}
use Rattle.attr_core.specs.declared.fault.AttrFault.{AttrFault}
use Rattle.attr_core.specs.declared.fault.AttrFault.TheVariants.{BadAttribute, Memory}
use Rattle.inv_law.specs.Template.{meaning}
use Rattle.inv_any.specs.Templates.{meaning_of, template_name}
use Rattle.attr_core.specs.Templates.{form, template_named}
use Rattle.attr_core.specs.inner.ReadIn.{bad_in, invariant_in, read_by, read_in}
use Rattle.attr_core.specs.declared.template.Template.{Template}
use Rattle.attr_core.specs.declared.template.Template.TheVariants.{Blp}

-- A description finds the template by its name.
pub is_named : (t : Template) → template_named (form t).template.name ≡ Some t
unfolding template_named
is_named Blp = refl
is_named t = refl

-- An invariant that is made by the template is of the template.
pub made_named : (t : Template) (xs : List (form t).template.Attribute) → template_name ((form t).make xs) ≡ (form t).template.name
made_named Blp xs = refl
made_named t xs = refl

pub made_means : (t : Template) (xs : List (form t).template.Attribute) → meaning_of ((form t).make xs) ≡ meaning (form t).template xs
made_means Blp xs = refl
made_means t xs = refl

pub read_is : (hosts : List Host) (t : Template) (assigns : List Given)
    → read_in hosts t assigns ≡ ended (bad_in hosts t assigns) (invariant_in hosts t assigns)
unfolding read_in read_by bad_in invariant_in
read_is hosts t assigns = refl

-- The same by the record.
pub bad_is : (hosts : List Host) (t : Template) (assigns : List Given) → bad_in hosts t assigns ≡ bad_assign (form t) hosts assigns
unfolding bad_in
bad_is hosts t assigns = refl

pub invariant_is : (hosts : List Host) (t : Template) (assigns : List Given)
    → invariant_in hosts t assigns ≡ (form t).make (attributes_in (form t) hosts assigns)
unfolding invariant_in
invariant_is hosts t assigns = refl

-- The meaning of the invariant: that of the template with the assigned attributes.
pub invariant_means : (hosts : List Host) (t : Template) (assigns : List Given)
    → meaning_of (invariant_in hosts t assigns) ≡ meaning (form t).template (attributes_in (form t) hosts assigns)
invariant_means hosts t assigns = ap meaning_of (invariant_is hosts t assigns) ∙ made_means t (attributes_in (form t) hosts assigns)

pub invariant_named : (hosts : List Host) (t : Template) (assigns : List Given)
    → template_named (template_name (invariant_in hosts t assigns)) ≡ Some t
invariant_named hosts t assigns = ap (λ inv. template_named (template_name inv)) (invariant_is hosts t assigns) ∙ ap template_named (made_named t (attributes_in (form t) hosts assigns)) ∙ is_named t

pub invariant_sized : (hosts : List Host) (t : Template) (assigns : List Given)
    → (meaning_of (invariant_in hosts t assigns)).size ≡ length hosts
invariant_sized hosts t assigns =
    ap (λ m. m.size) (invariant_means hosts t assigns)
    ∙ length-map-range_with_len (λ host. unwrap_or (last_assigned (says (form t) hosts) [] host assigns) ((form t).template.default (length hosts) host)) 0 (length hosts)

-- The first bad assign is one of the given assigns.
pub bad_given : (hosts : List Host) (t : Template) (assigns : List Given) (k : ℕ) → bad_in hosts t assigns ≡ Some k → k < length assigns
bad_given hosts t assigns k is = omega (arith, bad_within (says (form t) hosts) [] assigns k (sym (bad_is hosts t assigns) ∙ is))

-- The result is the invariant, and no assign is bad.
no_fault : (bad : Option ℕ) (made inv : AnyInv) → ended bad made ≡ Ok inv → (bad ≡ None) × (inv ≡ made)
no_fault None made inv is = (refl, cc)
no_fault (Some k) made inv is = cc

its_fault : (bad : Option ℕ) (made : AnyInv) (k : ℕ) → ended bad made ≡ Err k → bad ≡ Some k
its_fault None made k is = cc
its_fault (Some j) made k is = cc

pub none_of : (hosts : List Host) (t : Template) (assigns : List Given) (r : Result AnyInv AttrFault) → Reads r (read_in hosts t assigns)
    → IfOk r (λ inv. bad_in hosts t assigns ≡ None)
none_of hosts t assigns (Ok inv) is = (no_fault (bad_in hosts t assigns) (invariant_in hosts t assigns) inv (sym (read_is hosts t assigns) ∙ is)).0
none_of hosts t assigns (Err fault) is = tt

pub made_of : (P : AnyInv → Type 0) (hosts : List Host) (t : Template) (assigns : List Given) (r : Result AnyInv AttrFault)
    → Reads r (read_in hosts t assigns) → (bad_in hosts t assigns ≡ None → P (invariant_in hosts t assigns)) → IfOk r P
made_of P hosts t assigns (Ok inv) is holds =
    let (none, made) = no_fault (bad_in hosts t assigns) (invariant_in hosts t assigns) inv (sym (read_is hosts t assigns) ∙ is) in
    subst P (sym made) (holds none)
made_of P hosts t assigns (Err fault) is holds = tt

-- The reported assign is the first bad one.
pub fault_of : (hosts : List Host) (t : Template) (assigns : List Given) (r : Result AnyInv AttrFault) → Reads r (read_in hosts t assigns)
    → (k : ℕ) → r ≡ Err (BadAttribute k) → bad_in hosts t assigns ≡ Some k
fault_of hosts t assigns (Ok inv) is k blamed = cc
fault_of hosts t assigns (Err (BadAttribute j)) is k blamed =
    let same : j ≡ k = cc in
    its_fault (bad_in hosts t assigns) (invariant_in hosts t assigns) j (sym (read_is hosts t assigns) ∙ is) ∙ ap Some same
fault_of hosts t assigns (Err Memory) is k blamed = cc

silent_told : (f : Form) (hosts : List Host) (assigns : List Given)
    → IsFirstBadOrNone (SaysNothing f hosts) assigns (bad_assign f hosts assigns)
silent_told f hosts assigns = first_told (says f hosts) (SaysNothing f hosts) (λ earlier a none. (λ is. is, λ is. is)) assigns

pub blames : (hosts : List Host) (t : Template) (assigns : List Given) (r : Result AnyInv AttrFault) → Reads r (read_in hosts t assigns)
    → BlamesFirstBad (SaysNothing (form t) hosts) assigns r
blames hosts t assigns (Ok inv) is =
    subst (IsFirstBadOrNone (SaysNothing (form t) hosts) assigns)
    (sym (bad_is hosts t assigns) ∙ none_of hosts t assigns (Ok inv) is) (silent_told (form t) hosts assigns)
blames hosts t assigns (Err (BadAttribute k)) is =
    subst (IsFirstBadOrNone (SaysNothing (form t) hosts) assigns)
    (sym (bad_is hosts t assigns) ∙ fault_of hosts t assigns (Err (BadAttribute k)) is k refl) (silent_told (form t) hosts assigns)
blames hosts t assigns (Err Memory) is = tt
