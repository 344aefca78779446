use Rattle.std.proofs.Common.{◌∙◌, List, Bool, true, refl, ap}
use Rattle.std.specs.Vec.{with_item}
use Rattle.ipt_rules.specs.inner.Marking.{with_mark}
use Rattle.ipt_rules.proofs.MarkLemmas.{set_row}
use Rattle.decide_core.proofs.rule_marks.RuleMarks.mark.Goals as goal

pub returns : goal.returns
returns c =
    let row = c.index_mut-row.result.now in
    set_row c.self.inside.rows.items (λ row. row.items) c.args.place row (with_item row c.args.place.rule true)
    (rw c.self.view_is c.requires) c.index_mut-row.ensures.value refl
    ∙ ap (λ (m : List (List Bool)). with_mark m c.args.place) c.self.view_is
