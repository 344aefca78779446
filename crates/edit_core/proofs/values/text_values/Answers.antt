use Rattle.std.proofs.Common.{ℕ, ◌++◌, ◌∷◌, [], List, ap, map, string_bytes, ◌∙◌}
use Rattle.std.proofs.lemmas.List.{map_push}
use Rattle.toml.specs.Data.{Data, string}
use Rattle.toml.specs.View.{view}
use Rattle.edit_core.proofs.CopyLemmas.{texts_all, texts_next}
use Rattle.edit_core.proofs.values.text_values.Goals as goal

pub loop-text-preserved : goal.loop-text-preserved
loop-text-preserved c =
    texts_next (map view c.loop-text.values.items) (map view c.push.new.self.items) c.args.texts.now
    c.loop-text.text-index c.text-item.result (map string (map string_bytes c.args.texts.now)) c.loop-text-test.true c.text-item.is c.loop-text.invariant
    (ap (map view) c.in_ok-push.ensures.items ∙ map_push view c.loop-text.values.items c.in_ok-text_value.field-0
    ∙ ap (λ (d : Data). map view c.loop-text.values.items ++ d ∷ []) (c.in_ok-text_value.ensures ∙ ap (λ (b : List ℕ). string b) c.as_str.ensures.value))

pub returns : goal.returns
returns c = texts_all (map view c.loop-text.values.items) c.args.texts.now c.loop-text.text-index (map string (map string_bytes c.args.texts.now)) c.loop-text-test.false c.loop-text.invariant
