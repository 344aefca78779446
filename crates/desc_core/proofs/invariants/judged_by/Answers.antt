use Rattle.std.proofs.Common.{◌≡◌, Bor, List, Some, ℕ, map, refl, sym, ap, ◌∙◌}
use Rattle.attr_core.specs.inner.AssignView.{given_of}
use Rattle.attr_core.specs.Forms.{bad_assign}
use Rattle.attr_core.specs.OwnTables.{table_form}
use Rattle.attr_core.specs.declared.assign.Assign.{Assign}
use Rattle.desc_core.specs.Choices.{bad_of, declared_by, made_by}
use Rattle.desc_core.specs.inner.ChoiceView.{choice_view}
use Rattle.desc_form.specs.inner.RawView.{template_view}
use Rattle.desc_core.proofs.invariants.judged_by.Goals.{After-bad_kind}
use Rattle.desc_core.proofs.invariants.judged_by.Goals as goal

-- The search for a word that is no kind is the judgement of the assigns.
searched : (c : After-bad_kind)
    → c.bad_kind.result ≡ bad_of c.args.hosts.now (choice_view c.args.invariant.now.template) (map given_of c.args.invariant.now.assigns.items)
unfolding bad_of
searched c =
    let t = template_view c.in-OwnTable.template.now in
    rw c.in-OwnTable.is
    (c.bad_kind.ensures (declared_by t) c.args.hosts.now (ap (map (λ (kind : Bor (List ℕ)). kind.now)) (sym c.deref-in-OwnTable.ensures.value))
    ∙ ap (λ (assigns : List Assign). bad_assign (table_form (declared_by t)) c.args.hosts.now (map given_of assigns)) c.deref-in-OwnTable-2.ensures.value)

pub returns-in-Some-clause-bad : goal.returns-in-Some-clause-bad
returns-in-Some-clause-bad c = λ k same.
    let number : c.in-Some.assign ≡ k = cc in
    sym (searched (goal.at.returns-in-Some-clause-bad c).After-bad_kind) ∙ c.in-Some.is ∙ ap Some number

pub returns-in-None-clause-judged : goal.returns-in-None-clause-judged
unfolding made_by
returns-in-None-clause-judged c = record {
  good = sym (searched (goal.at.returns-in-None-clause-judged c).After-bad_kind) ∙ c.in-None.is;
  built = rw (c.in-OwnTable.is, c.deref-in-None.ensures.value) refl;
  buildable = λ can. (rw c.in-OwnTable.is at can, rw c.deref-in-None.ensures.value c.requires);
}
