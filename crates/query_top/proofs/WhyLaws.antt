-- The outcomes of `why`: the line that there is no flow, or the answer for the flow, never both, and one text.
use Rattle.std.proofs.Common.{◌≡◌, inl, inr, ℕ, List, Some, true, length, refl, ap, sym, subst, ◌∙◌}
use Rattle.flow_set.specs.Flow.{IsFlow}
use Rattle.flow_set.specs.declared.flow.Flow.{Flow}
use Rattle.host_net.specs.Host.{Host, host_named}
use Rattle.host_net.proofs.NamedLaws.{host_named_within}
use Rattle.net_core.proofs.PolicyLaws.{policy_is_one}
use Rattle.net_core.specs.Network.{Network}
use Rattle.net_core.specs.Policies.{Policy}
use Rattle.why_json.proofs.OneAnswerLaws.{why_is_one}
use Rattle.why_json.specs.Explanations.{IsExplanation}
use Rattle.query_top.specs.Why.{IsFlowNamed, IsNoFlow, IsWhy, IsWhyOf, NoReceiver, NoSender, SameHost, no_flow_line, why_outcomes}
use Rattle.run_core.specs.Outcomes.{Answers}
use Rattle.run_core.specs.Reply.{Reply, error}
use Rattle.run_core.specs.inner.Views.{reply_on}
use Rattle.run_core.specs.declared.status.Status.TheVariants.{Done, NotEmittable}
use Rattle.run_core.specs.declared.status.Stream.TheVariants.{Output}

-- There is no flow, or the names are of a flow.
pub no_flow_named : (hosts : List Host) (from to line : List ℕ) (f : Flow) → IsNoFlow hosts from to line → IsFlowNamed hosts from to f → ⊥
no_flow_named hosts from to line f (NoSender none is) named = let there = named.sender in cc (none, there)
no_flow_named hosts from to line f (NoReceiver h sender none is) named = let there = named.receiver in cc (none, there)
no_flow_named hosts from to line f (SameHost h sender receiver is) named =
    let a = named.sender in
    let b = named.receiver in
    let from_is : f.from ≡ h = cc (a, sender) in
    let to_is : f.to ≡ h = cc (b, receiver) in
    named.differ (from_is ∙ sym to_is)

-- A flow that is named is a flow between the hosts.
pub named_is_flow : (hosts : List Host) (from to : List ℕ) (f : Flow) → IsFlowNamed hosts from to f → IsFlow (length hosts) f
named_is_flow hosts from to f named = (host_named_within hosts from f.from named.sender, host_named_within hosts to f.to named.receiver, named.differ)

-- Two names of one number are of one host.
pub same_host : (hosts : List Host) (from to line : List ℕ) (h k : ℕ) → host_named hosts from ≡ Some h → host_named hosts to ≡ Some k → h ≡ k → line ≡ no_flow_line from
    → IsNoFlow hosts from to line
same_host hosts from to line h k sender receiver same is = SameHost h sender (receiver ∙ ap Some (sym same)) is

-- The line that there is no flow is the text of an outcome.
pub answers_no_flow : (d : Network) (from to line : List ℕ) (given : Reply) → IsNoFlow d.hosts from to line → given ≡ error NotEmittable line
    → Answers true (why_outcomes d from to) given
answers_no_flow d from to line given none is = subst (λ (r : Reply). Answers true (why_outcomes d from to) r) (sym is) (refl, inl (refl, (tt, line, none), none))

-- The answer for the flow is the text of an outcome.
pub answers_flow : (d : Network) (from to text : List ℕ) (f : Flow) (given : Reply) → IsFlowNamed d.hosts from to f → IsWhyOf d f text
    → given ≡ reply_on Done Output text → Answers true (why_outcomes d from to) given
answers_flow d from to text f given named answer is =
    subst (λ (r : Reply). Answers true (why_outcomes d from to) r) (sym is)
    (refl, inr (inl (refl, (f, named), record { flow = f; named = named; answer = answer })))

-- ---- one text

-- The names have one line that there is no flow.
pub no_flow_is_one : (hosts : List Host) (from to a b : List ℕ) → IsNoFlow hosts from to a → IsNoFlow hosts from to b → a ≡ b
no_flow_is_one hosts from to a b (NoSender none is) (NoSender also same) = is ∙ sym same
no_flow_is_one hosts from to a b (NoSender none is) (NoReceiver h sender also same) = cc (none, sender)
no_flow_is_one hosts from to a b (NoSender none is) (SameHost h sender receiver same) = cc (none, sender)
no_flow_is_one hosts from to a b (NoReceiver h sender none is) (NoSender also same) = cc (also, sender)
no_flow_is_one hosts from to a b (NoReceiver h sender none is) (NoReceiver k other also same) = is ∙ sym same
no_flow_is_one hosts from to a b (NoReceiver h sender none is) (SameHost k other receiver same) = cc (none, receiver)
no_flow_is_one hosts from to a b (SameHost h sender receiver is) (NoSender also same) = cc (also, sender)
no_flow_is_one hosts from to a b (SameHost h sender receiver is) (NoReceiver k other also same) = cc (also, receiver)
no_flow_is_one hosts from to a b (SameHost h sender receiver is) (SameHost k other also same) = is ∙ sym same

some_number : (a b : ℕ) → Some a ≡ Some b → a ≡ b
some_number a b is = cc is

-- Two names have one flow.
one_flow : (hosts : List Host) (from to : List ℕ) (f g : Flow) → IsFlowNamed hosts from to f → IsFlowNamed hosts from to g → f ≡ g
one_flow hosts from to f g p q =
    let sender = some_number f.from g.from (sym p.sender ∙ q.sender) in
    let receiver = some_number f.to g.to (sym p.receiver ∙ q.receiver) in
    λ i. record { from = sender i; to = receiver i }

-- The flow between two names has one answer.
pub why_text_is_one : (d : Network) (from to a b : List ℕ) → IsWhy d from to a → IsWhy d from to b → a ≡ b
why_text_is_one d from to a b p q =
    let flows = one_flow d.hosts from to p.flow q.flow p.named q.named in
    let policies = policy_is_one d p.answer.policy q.answer.policy p.answer.is_policy q.answer.is_policy in
    let x = p.answer.explanation in
    let explained : IsExplanation d q.answer.policy q.flow x =
    subst (λ (f : Flow). IsExplanation d q.answer.policy f x) flows (subst (λ (policy : Policy). IsExplanation d policy p.flow x) policies p.answer.explained) in
    p.answer.written ∙ why_is_one d q.answer.policy q.flow x q.answer.explanation explained q.answer.explained ∙ sym q.answer.written
