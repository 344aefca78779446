-- Faults of packets: criteria for a fault, and for the absence of faults.
use Rattle.std.proofs.Common.{◌≡◌, ◌≢◌, ◌↔◌, Bool, true, false, ◌&&◌, ◌||◌, IsTrue, Option, Some, None, refl, sym, subst, ◌∙◌, true≢false}
use Rattle.std.proofs.Math.Bool.{beq}
use Rattle.std.specs.Prelude.{not, is_some}
use Rattle.host_net.specs.declared.packet.Packet.{Packet}
use Rattle.host_net.specs.declared.packet.CtState.TheVariants.{New}
use Rattle.host_net.specs.Packet.{IsPacket, swap_of}
use Rattle.header_space.specs.Boxes.{every_packet}
use Rattle.header_space.specs.Searching.{IsLeastWhere}
use Rattle.pkt_core.specs.FlowPolicy.{permits}
use Rattle.audit_core.specs.declared.kind.Kind.{Kind}
use Rattle.audit_core.specs.declared.kind.Kind.TheVariants.{Alone, AfterSwap, AfterBoth}
use Rattle.pkt_core.specs.Firewall.{may_pass}
use Rattle.rules_space.specs.Rules.{filter_of}
use Rattle.audit_core.specs.Sides.{Sides}
use Rattle.rules_space.specs.Verdicts.{GivesOne}
use Rattle.audit_core.specs.inner.Faults.{AreRight, HasFault, IsFault, Right, Wrong, expected_at, is_asked, state_in}
use Rattle.rules_space.proofs.EveryPacketLaws.{in_every}
use Rattle.rules_space.proofs.RulesLaws.{one_verdict}

-- ---- Right and wrong

pub same_where_not : (a b : Bool) → (a ≢ b → ⊥) → a ≡ b
same_where_not true true h = refl
same_where_not false false h = refl
same_where_not true false h = absurd (h (λ e. true≢false e))
same_where_not false true h = absurd (h (λ e. true≢false (sym e)))

-- The decision of the policy in the state New.
pub says_new : (permitted stateful : Packet → Bool) (p : Packet) → may_pass permitted stateful New p ≡ permitted p
says_new permitted stateful p = plain (permitted p) (stateful (swap_of p))
  where
    plain : (a b : Bool) → (a || (b && false)) ≡ a
    plain true b = refl
    plain false true = refl
    plain false false = refl

pub right_where : (sides : Sides) (kind : Kind) (p : Packet) → (IsFault sides kind p → ⊥) → Right sides kind p
right_where sides kind p none asked passes said =
    same_where_not passes (expected_at sides kind p)
    (λ wrong. none (passes, record { asked = asked; said = said; wrong = wrong }))

pub right_where_none : (sides : Sides) (found : Option Packet) → IsLeastWhere (HasFault sides None) every_packet found → is_some found ≡ false
    → (kind : Kind) → AreRight sides kind
right_where_none sides None none is = λ kind p packet. right_where sides kind p (λ fault. none p (in_every p packet) (kind, fault))
right_where_none sides (Some q) found is = absurd (true≢false is)

pub fault_said : (sides : Sides) (kind : Kind) (p : Packet) (f : Bool) → GivesOne (filter_of sides.rules) → IsPacket p
    → filter_of sides.rules (state_in kind) p f → IsFault sides kind p → Wrong sides kind p f
fault_said sides kind p f gives is said fault =
    subst (λ (b : Bool). Wrong sides kind p b) (one_verdict sides.rules gives (state_in kind) p is fault.0 f fault.1.said said) fault.1

-- ---- The result for a box

pub fault_by : (sides : Sides) (kind : Kind) (p : Packet) (passes expected answer : Bool) → GivesOne (filter_of sides.rules) → IsPacket p
    → IsTrue (is_asked (permits sides.policy) kind p) → filter_of sides.rules (state_in kind) p passes → expected_at sides kind p ≡ expected
    → (IsTrue answer → passes ≢ expected) × (passes ≢ expected → IsTrue answer) → IsTrue answer ↔ IsFault sides kind p
fault_by sides kind p passes expected answer gives packet asked said is by = (
  (λ yes'. (passes, record { asked = asked; said = said; wrong = λ e. by.0 yes' (e ∙ is) })),
  (λ fault. by.1 (λ e. fault.1.wrong (one_verdict sides.rules gives (state_in kind) p packet fault.0 passes fault.1.said said ∙ e ∙ sym is))),
)

-- If a property does not hold for the first two kinds, it holds for some kind iff it holds for the third.
pub any_kind : (P : Kind → Type 0) (alone swapped both : Bool) → IsTrue alone ↔ P Alone → alone ≡ false → IsTrue swapped ↔ P AfterSwap
    → swapped ≡ false → IsTrue both ↔ P AfterBoth → IsTrue both ↔ ((kind : Kind) × P kind)
any_kind P alone swapped both first not_alone second not_swapped third = ((λ yes'. (AfterBoth, third.0 yes')), (λ any. by_kind any.0 any.1))
  where
    by_kind : (kind : Kind) → P kind → IsTrue both
    by_kind Alone holds = absurd (true≢false (sym (first.1 holds) ∙ not_alone))
    by_kind AfterSwap holds = absurd (true≢false (sym (second.1 holds) ∙ not_swapped))
    by_kind AfterBoth holds = third.1 holds

-- The same faults of each kind.
pub same_faults : (sides part : Sides) (p : Packet) → ((kind : Kind) → IsFault part kind p ↔ IsFault sides kind p)
    → (kind : Option Kind) → HasFault part kind p ↔ HasFault sides kind p
same_faults sides part p same None = ((λ any. (any.0, (same any.0).0 any.1)), (λ any. (any.0, (same any.0).1 any.1)))
same_faults sides part p same (Some kind) = same kind

pub differs : (a b : Bool) → (IsTrue (not (beq a b)) → a ≢ b) × (a ≢ b → IsTrue (not (beq a b)))
differs true true = ((λ h. absurd (true≢false (sym h))), (λ h. absurd (h refl)))
differs false false = ((λ h. absurd (true≢false (sym h))), (λ h. absurd (h refl)))
differs true false = ((λ h e. true≢false e), (λ h. refl))
differs false true = ((λ h e. true≢false (sym e)), (λ h. refl))
