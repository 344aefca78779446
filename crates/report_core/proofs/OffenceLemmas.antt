-- The report on the invariants so far.
use Rattle.std.proofs.Common.{◌≡◌, ℕ, suc, ◌+◌, ◌<◌, ◌≤◌, Bool, not, ◌&&◌, List, [], ◌∷◌, ◌++◌, Option, length, take, drop, get_or, sym, ◌∙◌, ap, subst, append_assoc, append-nil, add-one, drop-cons}
use Rattle.std.specs.List.{flat_map, zip}
use Rattle.std.specs.Prelude.{◌↔◌, IsTrue, IsNone, is_some}
use Rattle.std.proofs.lemmas.Bool.{and_parts, and_from, not-false}
use Rattle.std.proofs.lemmas.List.{take_all}
use Rattle.std.proofs.lemmas.List.Elements.{All-more}
use Rattle.text_core.specs.FirstMatch.{Numbered, numbered_from}
use Rattle.host_net.specs.Host.{Host}
use Rattle.net_core.specs.Network.{Network}
use Rattle.flow_set.specs.FlowSet.{SetOfFlows}
use Rattle.flow_set.specs.declared.flow.Flow.{Flow}
use Rattle.inv_any.specs.declared.any_inv.AnyInv.{AnyInv}
use Rattle.permit_core.specs.Policy.{AllHold}
use Rattle.net_core.specs.Policies.{holds_on}
use Rattle.report_core.specs.CheckReport.{IsViolation, AreViolations, violation_text, IsCheckReport}

-- The report on invariants, the first of which has this number.
abbrev pub text_from : List Host → ℕ → List AnyInv → List (Option (List Flow)) → List ℕ
text_from hosts number invs offences =
    flat_map (λ (told : Numbered AnyInv × Option (List Flow)). violation_text hosts told.0.number told.0.what told.1) (zip (numbered_from number invs) offences)

-- The text followed by the report on the remaining invariants, from a number on, is the report.
abbrev pub GoesOn : Network → List ℕ → ℕ → List AnyInv → Type 0
GoesOn d text number left = (rest : List (Option (List Flow))) → AreViolations left d.asked.flows rest → IsCheckReport d (text ++ text_from d.hosts number left rest)

pub goes_next : (d : Network) (text new : List ℕ) (invs : List AnyInv) (i : ℕ) (inv : AnyInv) (o : Option (List Flow)) → i < length invs → inv ≡ get_or invs i inv → GoesOn d text (i + 1) (drop i invs) → IsViolation (holds_on inv) d.asked.flows o → new ≡ text ++ violation_text d.hosts (i + 1) inv o → GoesOn d new (i + 1 + 1) (drop (i + 1) invs)
goes_next d text new invs i inv o within is so_far offence written rest found =
    let later : List ℕ = text_from d.hosts (i + 1 + 1) (drop (i + 1) invs) rest in
    let line : List ℕ = violation_text d.hosts (i + 1) inv o in
    let left : drop i invs ≡ inv ∷ drop (i + 1) invs = rw (add-one i) (drop-cons invs i inv within ∙ ap (λ x. x ∷ drop (suc i) invs) (sym is)) in
    let on : GoesOn d text (i + 1) (inv ∷ drop (i + 1) invs) = subst (GoesOn d text (i + 1)) left so_far in
    let whole : IsCheckReport d (text ++ (line ++ later)) = on (o ∷ rest) (offence, found) in
    subst (IsCheckReport d) (sym (append_assoc text line later) ∙ ap (λ bs. bs ++ later) (sym written)) whole

pub goes_end : (d : Network) (text : List ℕ) (number : ℕ) (left : List AnyInv) → left ≡ [] → GoesOn d text number left → IsCheckReport d text
goes_end d text number left done so_far =
    let on : GoesOn d text number [] = subst (GoesOn d text number) done so_far in
    subst (IsCheckReport d) (append-nil text) (on [] tt)

-- ---- whether every invariant holds

-- One more invariant holds if it has no finding.
pub held_next : (invs : List AnyInv) (i : ℕ) (inv : AnyInv) (asked read : SetOfFlows) (held none : Bool) (found : Option SetOfFlows) → i < length invs → inv ≡ get_or invs i inv → read ≡ asked → is_some found ≡ not none → (IsNone found ↔ holds_on inv read.flows) → (IsTrue held → AllHold holds_on (take i invs) asked.flows) → IsTrue (held && none) → AllHold holds_on (take (i + 1) invs) asked.flows
held_next invs i inv asked read held none found within is same told holds so_far both =
    let parts = and_parts held none both in
    let here : holds_on inv read.flows = holds.0 (told ∙ ap not parts.1) in
    All-more (λ x. holds_on x asked.flows) invs i inv within (so_far parts.0)
    (subst (λ (x : AnyInv). holds_on x asked.flows) is (subst (λ (s : SetOfFlows). holds_on inv s.flows) same here))

-- If all hold, none has a finding.
pub all_next : (invs : List AnyInv) (i : ℕ) (inv : AnyInv) (asked read : SetOfFlows) (held none : Bool) (found : Option SetOfFlows) → i < length invs → inv ≡ get_or invs i inv → read ≡ asked → is_some found ≡ not none → (IsNone found ↔ holds_on inv read.flows) → IsTrue held → AllHold holds_on invs asked.flows → IsTrue (held && none)
all_next invs i inv asked read held none found within is same told holds so_far all =
    let here : holds_on inv asked.flows = subst (λ (x : AnyInv). holds_on x asked.flows) (sym is) (all i inv within) in
    let absent : IsNone found = holds.1 (subst (λ (s : SetOfFlows). holds_on inv s.flows) (sym same) here) in
    and_from held none so_far (not-false none (sym told ∙ absent))

pub all_at_end : (invs : List AnyInv) (i : ℕ) (flows : List Flow) → length invs ≤ i → AllHold holds_on (take i invs) flows → AllHold holds_on invs flows
all_at_end invs i flows past all = subst (λ (xs : List AnyInv). AllHold holds_on xs flows) (take_all i invs past) all
