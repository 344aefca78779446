use Rattle.std.proofs.Common.{◌∙◌, ◌++◌, List, Some, map, sym, ap}
use Rattle.std.specs.Option.{option_map}
use Rattle.nft_rules.specs.declared.table.Element.{Element}
use Rattle.nft_read.specs.inner.LineSteps.{elements_of, pieces}
use Rattle.nft_read.proofs.PieceLaws.{last_bad, last_parsed, next_bad, next_parsed}
use Rattle.nft_read.proofs.verdict.read_elements.Goals as goal

pub returns-in-None : goal.returns-in-None
returns-in-None c =
    next_bad c.loop-piece.elements.items (map (λ n. n.items) c.args.names.now.keys) c.loop-piece.rest.now c.in-Some.piece.now c.in-Some.more.now
    (sym c.in-Some.ensures.value) (sym c.read_element.ensures ∙ c.in-None.is)
    ∙ c.loop-piece.invariant

pub loop-piece-preserved : goal.loop-piece-preserved
loop-piece-preserved c =
    let names = map (λ n. n.items) c.args.names.now.keys in
    ap (λ (es : List Element). option_map (λ xs. es ++ xs) (elements_of names (pieces c.in-Some.more.now))) c.in_ok-push-in-Some-read_element.ensures.items
    ∙ next_parsed c.loop-piece.elements.items c.in-Some-read_element.element names c.loop-piece.rest.now c.in-Some.piece.now c.in-Some.more.now
    (sym c.in-Some.ensures.value) (sym c.read_element.ensures ∙ c.in-Some-read_element.is)
    ∙ c.loop-piece.invariant

pub returns-in-None-read_element : goal.returns-in-None-read_element
returns-in-None-read_element c =
    last_bad c.loop-piece.elements.items (map (λ n. n.items) c.args.names.now.keys) c.loop-piece.rest.now
    (sym c.in_default.ensures.value) (sym c.read_element-2.ensures ∙ c.in-None-read_element.is)
    ∙ c.loop-piece.invariant

pub returns : goal.returns
returns c =
    ap (λ (es : List Element). Some es) c.in_ok-push-in-Some-read_element-2.ensures.items
    ∙ last_parsed c.loop-piece.elements.items c.in-Some-read_element-2.element (map (λ n. n.items) c.args.names.now.keys) c.loop-piece.rest.now
    (sym c.in_default.ensures.value) (sym c.read_element-2.ensures ∙ c.in-Some-read_element-2.is)
    ∙ c.loop-piece.invariant
