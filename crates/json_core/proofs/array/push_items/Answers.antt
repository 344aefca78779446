use Rattle.std.proofs.Common.{◌++◌, take, sym, ◌∙◌, ap}
use Rattle.json_core.specs.Json.{comma, separated}
use Rattle.json_core.proofs.ArrayLaws.{nothing_before, put_next, put_none, take_read}
use Rattle.json_core.proofs.array.push_items.Goals as goal

pub loop-place-init : goal.loop-place-init
loop-place-init g c = put_none (g.W.ItemWriter.item_json c.args.writer.now) c.args.text.now.items

pub loop-place-preserved : goal.loop-place-preserved
loop-place-preserved g c =
    let item_json = g.W.ItemWriter.item_json c.args.writer.now in
    let items = c.args.items.now in
    let place = c.loop-place.place in
    let item = c.index-items-place.result in
    put_next item_json (take place items) item c.args.text.now.items c.loop-place.text.items c.push_comma.new.text.items c.push.new.text.items
    c.loop-place.invariant
    (c.in_ok-push_comma.ensures ∙ ap (λ b. c.loop-place.text.items ++ comma b) (nothing_before items place c.loop-place-test.true))
    c.in_ok-push.ensures
    ∙ ap (λ xs. c.args.text.now.items ++ separated item_json xs) (sym (take_read items place item c.loop-place-test.true c.index-items-place.is))
