use Rattle.std.proofs.Common.{◌≡◌, ◌∙◌, ◌<◌, ◌≤◌, ℕ, List, Option, Some, None, length, get_or, set, sym, subst, arith}
use Rattle.std.specs.Prelude.{slice_get, Contains}
use Rattle.std.proofs.lemmas.Option.{slice_get-get_or}
use Rattle.ipt_rules.specs.inner.Ranks.{row_of, place_of, IsPartOrder, IsStuck}
use Rattle.ipt_rules.proofs.Gets.{get_contains}
use Rattle.ipt_rules.proofs.RankLemmas.{unplaced_at, looked_at, put_at}
use Rattle.ipt_rules.proofs.topological_order.TopologicalOrder.put.Goals as goal

pub returns-then-at-row-clause-part : goal.returns-then-at-row-clause-part
returns-then-at-row-clause-part c =
    looked_at c.args.table.now c.args.self.now.order.items c.args.self.now.places.items c.args.self.now.looked.items c.requires.part c.args.chain c.index-2.result.now c.passed-at.result c.row-row.result.now c.deref.result.now
    c.requires.there c.index-2.ensures c.row-row.ensures c.deref.ensures.value c.passed-at.ensures.within c.passed-at.ensures.passed

-- The first jump that was not passed goes to a chain without a position.
stuck_at : (table : List (List ℕ)) (places ps : List (Option ℕ)) (c at : ℕ) (row : List ℕ) → row ≡ row_of table c → ps ≡ places → at < length row → ((d : ℕ) → slice_get row at ≡ Some d → place_of ps d ≡ None) → IsStuck table places c
stuck_at table places ps c at row same_row same_places low stops =
    let d : ℕ = get_or row at 0 in
    let got : slice_get row at ≡ Some (get_or row at 0) = slice_get-get_or row at 0 low in
    record {
      other = get_or row at 0;
      jumps = subst (λ (r : List ℕ). Contains r (get_or row at 0)) same_row (get_contains row at (get_or row at 0) got);
      placeless = subst (λ (p : List (Option ℕ)). place_of p (get_or row at 0) ≡ None) same_places (stops (get_or row at 0) got);
    }

pub returns-then-at-row-clause-rest_is_cyclic : goal.returns-then-at-row-clause-rest_is_cyclic
returns-then-at-row-clause-rest_is_cyclic c = λ same none.
    stuck_at c.args.table.now c.args.self.now.places.items c.deref.result.now c.args.chain c.passed-at.result c.row-row.result.now c.row-row.ensures c.deref.ensures.value c.if-at-row.true c.passed-at.ensures.stops

pub returns-clause-part : goal.returns-clause-part
returns-clause-part c =
    let part = c.requires.part in
    let table = c.args.table.now in
    let order = c.args.self.now.order.items in
    let places = c.args.self.now.places.items in
    let looked = c.args.self.now.looked.items in
    let seen : IsPartOrder c.args.table.now c.args.self.now.order.items c.args.self.now.places.items (set c.args.self.now.looked.items c.args.chain c.passed-at.result) =
    looked_at table order places looked part c.args.chain c.index-2.result.now c.passed-at.result c.row-row.result.now c.deref.result.now
    c.requires.there c.index-2.ensures c.row-row.ensures c.deref.ensures.value c.passed-at.ensures.within c.passed-at.ensures.passed in
    let none : place_of c.args.self.now.places.items c.args.chain ≡ None =
    unplaced_at places c.args.chain c.index.result.now (omega (arith, part.all_places, c.requires.there)) c.index.ensures (sym c.if-is_some.ensures) in
    let high : length (row_of c.args.table.now c.args.chain) ≤ c.passed-at.result = subst (λ (r : List ℕ). length r ≤ c.passed-at.result) c.row-row.ensures c.if-at-row.false in
    let low : c.passed-at.result ≤ length (row_of c.args.table.now c.args.chain) = subst (λ (r : List ℕ). c.passed-at.result ≤ length r) c.row-row.ensures c.passed-at.ensures.within in
    put_at table order places looked c.args.chain c.passed-at.result c.len-place.result c.push.new.self.items
    seen c.requires.there none (omega (arith, high, low)) (c.len-place.ensures ∙ c.args.self.now.order.ok.0) c.in_ok-push.ensures.items
