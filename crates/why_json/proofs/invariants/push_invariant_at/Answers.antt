use Rattle.std.proofs.Common.{[], refl, sym, subst, ◌∙◌}
use Rattle.std.proofs.lemmas.Result.{on_ok_weaker}
use Rattle.std.specs.Prelude.{length, ◌<◌}
use Rattle.why_json.specs.WhyJson.{invariant_json}
use Rattle.json_core.proofs.ArrayLaws.{value_at}
use Rattle.why_json.proofs.invariants.push_invariant_at.Goals as goal

pub returns : goal.returns
returns c =
    let number = c.args.number in
    let invs = c.invariants-invariants.result.now in
    let below = subst (λ xs. number < length xs) (sym c.invariants-invariants.ensures.value) c.requires in
    let value = value_at (invariant_json number) c.args.description.now.invariants invs number c.index-invariants-number.result [] c.invariants-invariants.ensures.value below c.index-invariants-number.is in
    on_ok_weaker c.push_invariant.result (λ last. last ∙ rw value refl) c.push_invariant.ensures
