use Rattle.std.proofs.Common.{◌≡◌, ◌∙◌, ◌++◌, List, append_assoc, not, subst}
use Rattle.std.specs.List.{filter, flat_map}
use Rattle.nft_rules.specs.declared.table.Element.{Element}
use Rattle.nft_rules.specs.declared.table.VerdictMap.{VerdictMap}
use Rattle.nft_emit.specs.inner.Falls.{are_apart, element_of, is_apart, map_rules, verdict_of, verdict_rules}
use Rattle.nft_emit.proofs.maps.fall_rules.Goals as goal

pub returns : goal.returns
returns c =
    let singles = c.in_ok-singles.field-0.singles in
    let others = c.in_ok-singles.field-0.others in
    let first : VerdictMap = record { end = c.args.end; elements = singles } in
    let second : VerdictMap = record { end = c.args.end; elements = others } in
    let first_is = c.in_ok-push_map.ensures ∙ (λ k. c.new-rules.ensures.items k ++ map_rules first singles.items) in
    let second_is = c.in_ok-push_map-2.ensures ∙ (λ k. first_is k ++ map_rules second others.items) in
    record {
      all = c.in_ok-elements.elements.items;
      all_are = c.in_ok-elements.ensures ∙ (λ k. flat_map (element_of (c.verdict_of-after.ensures k) c.args.verdicts.now) c.args.cuts.now);
      singles = singles;
      singles_are = subst (λ (es : List Element). singles.items ≡ filter (is_apart (are_apart es)) es) c.deref.ensures.value c.in_ok-singles.ensures.singles;
      others = others;
      others_are = subst (λ (es : List Element). others.items ≡ filter (λ e. not (is_apart (are_apart es) e)) es) c.deref.ensures.value c.in_ok-singles.ensures.others;
      rules_are = c.in_ok-push_verdict.ensures ∙ (λ k. second_is k ++ verdict_rules (c.verdict_of-after.ensures k))
          ∙ append_assoc (map_rules first singles.items) (map_rules second others.items) (verdict_rules (verdict_of c.args.verdicts.now c.args.rest));
    }
