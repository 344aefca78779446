use Rattle.std.proofs.Common.{List, [], ◌∷◌, ◌++◌, ap, ◌∙◌}
use Rattle.header_space.specs.declared.address_range.AddressRange.{AddressRange}
use Rattle.nft_rules.specs.declared.table.Element.{Element}
use Rattle.nft_rules.specs.declared.table.Rule.{Rule}
use Rattle.nft_rules.specs.declared.table.Rule.TheVariants.{Map}
use Rattle.nft_local.proofs.entries.entry_rules.Goals as goal

pub returns : goal.returns
returns c =
    let elements = c.push.new.self in
    record {
      elements = elements;
      items =
          c.in_ok-push.ensures.items
          ∙ ap (λ (es : List Element). es ++ (record { range = c.loopback_range.result; verdict = c.args.verdict }) ∷ []) c.new-elements.ensures.items
          ∙ ap (λ (r : AddressRange). (record { range = r; verdict = c.args.verdict }) ∷ []) c.loopback_range.ensures;
      rules_are =
          c.in_ok-append.ensures.items
          ∙ ap (λ (rs : List Rule). rs ++ c.args.own.items)
          (c.in_ok-push-2.ensures.items ∙ ap (λ (rs : List Rule). rs ++ Map (record { end = c.args.end; elements = elements }) ∷ []) c.new-rules.ensures.items);
    }
