use Rattle.std.proofs.Common.{◌≡◌, ◌∙◌, ◌<◌, ℕ, List, length, [], ◌∷◌, ◌++◌, ap, sym, subst, arith, true, false, replicate}
use Rattle.std.proofs.lemmas.List.{length-replicate}
use Rattle.std.proofs.lemmas.List.Elements.{Contains-push}
use Rattle.std.proofs.lemmas.Option.{slice_get_within}
use Rattle.ipt_rules.specs.inner.Ranks.{row_of, Visits, IsSet}
use Rattle.ipt_rules.proofs.SearchLemmas.{IsSearch, search_first, search_more, search_says, no_items}
use Rattle.ipt_rules.proofs.loops.is_on_cycle.Goals as goal

pub loop-next-init : goal.loop-next-init
loop-next-init c =
    let none : c.in_ok-seen.seen.items ≡ replicate c.len.result false = c.in_ok-seen.ensures.items_if_clones_equal (λ y h. h) in
    let visits : Visits (row_of c.args.table.now c.args.chain) c.in_ok-seen.seen.items c.new-left.result.items c.visit.new.seen.items c.visit.new.left.items =
    subst (λ (row : List ℕ). Visits row c.in_ok-seen.seen.items c.new-left.result.items c.visit.new.seen.items c.visit.new.left.items) c.row.ensures c.in_ok-visit.ensures in
    record {
      long = visits.long ∙ ap length none ∙ length-replicate c.len.result false ∙ c.len.ensures;
      search = search_first (row_of c.args.table.now) c.args.chain c.len.result c.in_ok-seen.seen.items c.new-left.result.items c.visit.new.seen.items c.visit.new.left.items none c.new-left.ensures.items visits;
    }

search_before : (c : goal.In-Some) → IsSearch (row_of c.args.table.now) c.args.chain c.loop-next.seen.items (c.pop.new.self.items ++ c.in-Some.next ∷ [])
search_before c =
    subst (λ (l : List ℕ). IsSearch (row_of c.args.table.now) c.args.chain c.loop-next.seen.items l) c.in-Some.ensures.items c.loop-next.invariant.search

pub row-requires-in-Some : goal.row-requires-in-Some
row-requires-in-Some c =
    let marked : IsSet c.loop-next.seen.items c.in-Some.next = (search_before c).queued c.in-Some.next (Contains-push c.pop.new.self.items c.in-Some.next) in
    let low : c.in-Some.next < length c.loop-next.seen.items = slice_get_within c.loop-next.seen.items c.in-Some.next true marked in
    omega (arith, low, c.loop-next.invariant.long)

pub loop-next-preserved : goal.loop-next-preserved
loop-next-preserved c =
    let visits : Visits (row_of c.args.table.now c.in-Some.next) c.loop-next.seen.items c.pop.new.self.items c.visit-in-Some.new.seen.items c.visit-in-Some.new.left.items =
    subst (λ (row : List ℕ). Visits row c.loop-next.seen.items c.pop.new.self.items c.visit-in-Some.new.seen.items c.visit-in-Some.new.left.items) c.row-in-Some.ensures c.in_ok-visit-2.ensures in
    let before : IsSearch (row_of c.args.table.now) c.args.chain c.loop-next.seen.items (c.pop.new.self.items ++ c.in-Some.next ∷ []) =
    subst (λ (l : List ℕ). IsSearch (row_of c.args.table.now) c.args.chain c.loop-next.seen.items l) c.in-Some.ensures.items c.loop-next.invariant.search in
    record {
      long = visits.long ∙ c.loop-next.invariant.long;
      search = search_more (row_of c.args.table.now) c.args.chain c.loop-next.seen.items c.pop.new.self.items c.in-Some.next c.visit-in-Some.new.seen.items c.visit-in-Some.new.left.items before visits;
    }

pub returns : goal.returns
returns c =
    let empty : c.loop-next.left.items ≡ [] = no_items c.loop-next.left.items (sym c.loop-next.left.ok.0 ∙ c.in_default.ensures.cases.0) in
    search_says (row_of c.args.table.now) c.args.chain c.loop-next.seen.items c.loop-next.left.items empty c.loop-next.invariant.search c.args.chain c.index.result.now
    (omega (arith, c.loop-next.invariant.long, c.requires.there)) c.index.ensures
