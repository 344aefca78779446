use Rattle.std.proofs.Common.{◌≡◌, ◌+◌, length, List, ◌∷◌, sym, ◌∙◌, ap, arith}
use Rattle.std.specs.Prelude.{Some}
use Rattle.std.specs.Iterator.{MakesProgress, item_count}
use Rattle.flow_set.specs.declared.flow.Flow.{Flow}
use Rattle.flow_set.specs.Flow.{IsFlow}
use Rattle.flow_set.specs.laws.WalkLaws.{first_from_member}
use Rattle.flow_set.specs.inner.BitRows.{flows_from}
use Rattle.flow_set.proofs.Onward.{flows_from-end, flows_from-next}
use Rattle.flow_set.proofs.iter.IterIterator.next.Goals as goal

pub returns-in-None-clause-steps : goal.returns-in-None-clause-steps
returns-in-None-clause-steps c =
    let none =
    sym c.self.view_is
    ∙ flows_from-end c.self.inside.set.now.flows (record { from = c.self.inside.from; to = c.self.inside.to }) (sym c.in-None.ensures.flow) in
    (none, none)

pub overflow_add-self : goal.overflow_add-self
overflow_add-self c =
    let set = c.in-Some.ensures.set in
    let is_flow : IsFlow c.self.inside.set.now.size c.in-Some.f =
    set.flows c.in-Some.f
    (first_from_member c.self.inside.set.now.flows (record { from = c.self.inside.from; to = c.self.inside.to }) c.in-Some.f (sym c.in-Some.ensures.flow)) in
    omega (arith, is_flow.1, set.small)

moves : (old new : List Flow) (f : Flow) → old ≡ f ∷ new
    → MakesProgress (λ _. Unit {0}) (item_count (λ (left : List Flow). left)) old (Some f) new
moves old new f same = record {
  on = λ fin. (tt, fin, omega (arith, ap (λ (fs : List Flow). length fs) same));
  keeps = tt;
  rests = λ fin. tt;
}

pub returns-in-Some-clause-steps : goal.returns-in-Some-clause-steps
returns-in-Some-clause-steps c =
    sym c.self.view_is
    ∙ flows_from-next c.self.inside.set.now.flows
    (record { from = c.self.inside.from; to = c.self.inside.to }) c.in-Some.f c.in-Some.ensures.set.ordered
    (sym c.in-Some.ensures.flow)

pub returns-in-Some-clause-goes : goal.returns-in-Some-clause-goes
returns-in-Some-clause-goes c =
    let steps =
    sym c.self.view_is
    ∙ flows_from-next c.self.inside.set.now.flows
    (record { from = c.self.inside.from; to = c.self.inside.to }) c.in-Some.f c.in-Some.ensures.set.ordered
    (sym c.in-Some.ensures.flow) in
    moves c.args.self.now
    (flows_from c.self.inside.set.now.flows (record { from = c.in-Some.f.from; to = c.in-Some.f.to + 1 })) c.in-Some.f steps
