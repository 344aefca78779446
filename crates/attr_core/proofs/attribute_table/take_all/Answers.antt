use Rattle.std.proofs.Common.{◌≡◌, ◌<◌, ℕ, Bool, List, length, get_or, map, take, Some, None, option_map, ap, sym, subst, ◌∙◌, arith}
use Rattle.std.proofs.lemmas.List.{get_or-map, length-map}
use Rattle.std.proofs.lemmas.List.FromFn.{length-map-range_with_len}
use Rattle.std.specs.Prelude.{if◌then◌else◌, slice_set}
use Rattle.attr_core.proofs.AssignWalk.{length_on, up_to, walked_all, walked_none, walked_on, walked_to}
use Rattle.attr_core.specs.Assigns.{Given}
use Rattle.attr_core.specs.Forms.{says}
use Rattle.attr_core.specs.inner.AssignView.{given_of}
use Rattle.attr_core.specs.inner.Walks.{defaults}
use Rattle.attr_core.specs.laws.FormLaws.{set_all_assigned}
use Rattle.attr_core.specs.declared.assign.Assign.{Assign}
use Rattle.attr_core.proofs.attribute_table.take_all.Goals as goal

-- An assign of the code at its index among the given ones.
at_place : (assigns : List Assign) (place : ℕ) (a : Assign) → place < length assigns → a ≡ get_or assigns place a
    → given_of a ≡ get_or (map given_of assigns) place (given_of a)
at_place assigns place a within is = ap given_of is ∙ sym (get_or-map given_of assigns place a (given_of a) within)

in_all : (assigns : List Assign) (place : ℕ) → place < length assigns → place < length (map given_of assigns)
in_all assigns place within = omega (arith, length-map assigns given_of)

pub loop-place-init : goal.loop-place-init
loop-place-init g c =
    let form = g.T.AttributeTable.form in
    let hosts = c.args.hosts.now in
    record {
      sized = ap length c.in_ok-taken.ensures.attributes ∙ length-map-range_with_len (form.template.default (length hosts)) 0 (length hosts);
      keeps = c.in_ok-taken.ensures.keeps;
      walked = walked_none (says form hosts) (defaults form (length hosts)) (map given_of c.args.assigns.now) (g.T.AttributeTable.attributes c.in_ok-taken.taken) c.in_ok-taken.ensures.attributes;
    }

pub returns-then-not-branch-clause-first : goal.returns-then-not-branch-clause-first
returns-then-not-branch-clause-first g c k is =
    let form = g.T.AttributeTable.form in
    let hosts = c.args.hosts.now in
    let assigns = c.args.assigns.now in
    let place : ℕ = c.loop-place.place in
    let item = c.index-assigns-place.result in
    let same : c.loop-place.place ≡ k = cc in
    walked_to (says form hosts) (defaults form (length hosts)) (map given_of assigns) place (g.T.AttributeTable.attributes c.loop-place.taken) (given_of item)
    c.loop-place.invariant.walked (in_all assigns place c.loop-place-test.true) (at_place assigns place item c.loop-place-test.true c.index-assigns-place.is)
    (◌∙◌ {a = option_map (slice_set (g.T.AttributeTable.attributes c.loop-place.taken) item.host) (says form hosts (take place (map given_of assigns)) (given_of item))}
    (c.in_ok-take_one.ensures.taken (take place (map given_of assigns)) c.loop-place.invariant.keeps)
    (ap (λ (good : Bool). if good then Some (g.T.AttributeTable.attributes c.take_one.new.taken) else None) c.if-not-branch.true))
    ∙ ap Some same

pub loop-place-preserved : goal.loop-place-preserved
loop-place-preserved g c =
    let form = g.T.AttributeTable.form in
    let hosts = c.args.hosts.now in
    let assigns = c.args.assigns.now in
    let all = map given_of assigns in
    let place : ℕ = c.loop-place.place in
    let item = c.index-assigns-place.result in
    let before = g.T.AttributeTable.attributes c.loop-place.taken in
    let after = g.T.AttributeTable.attributes c.take_one.new.taken in
    let within = in_all assigns place c.loop-place-test.true in
    let here = at_place assigns place item c.loop-place-test.true c.index-assigns-place.is in
    let said =
    ◌∙◌ {a = option_map (slice_set before item.host) (says form hosts (take place all) (given_of item))} (c.in_ok-take_one.ensures.taken (take place all) c.loop-place.invariant.keeps)
    (ap (λ (good : Bool). if good then Some after else None) c.if-not-branch.false) in
    record {
      sized = length_on (says form hosts (take place all) (given_of item)) before after item.host said ∙ c.loop-place.invariant.sized;
      keeps = subst (λ (earlier : List Given). g.T.AttributeTable.keeps earlier c.take_one.new.taken) (sym (up_to all place (given_of item) within here))
          (c.in_ok-take_one.ensures.keeps (take place all) c.loop-place.invariant.keeps c.if-not-branch.false);
      walked = walked_on (says form hosts) (defaults form (length hosts)) all place before after (given_of item) c.loop-place.invariant.walked within here said;
    }

pub returns-clause-attributes : goal.returns-clause-attributes
returns-clause-attributes g c =
    let form = g.T.AttributeTable.form in
    let hosts = c.args.hosts.now in
    let all = map given_of c.args.assigns.now in
    (walked_all (says form hosts) (defaults form (length hosts)) all c.loop-place.place (g.T.AttributeTable.attributes c.loop-place.taken) c.loop-place.invariant.walked
    (omega (arith, c.loop-place-test.false, length-map c.args.assigns.now given_of))).1
    ∙ set_all_assigned (says form hosts) (form.template.default (length hosts)) (length hosts) all
