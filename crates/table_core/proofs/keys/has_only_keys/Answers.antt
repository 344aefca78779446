use Rattle.std.proofs.Common.{◌∙◌, string_bytes, rules, tests}
use Rattle.std.proofs.lemmas.Iterator.Consumers.{YieldsList-from_rest}
use Rattle.std.proofs.lemmas.Iterator.Search.{all_from_yields_List}
use Rattle.std.specs.List.{list_any}
use Rattle.std.specs.Map as maps
use Rattle.std.specs.Str.{bytes_eq}
use Rattle.table_core.specs.inner.KeyView.{key_view}
use Rattle.table_core.proofs.KeyTables.{only_keys}
use Rattle.table_core.proofs.keys.has_only_keys.Goals as goal

pub returns : goal.returns
returns c =
    all_from_yields_List (λ name. list_any (λ key. bytes_eq (string_bytes name) (key_view key).name) c.args.keys.now) _ _ _ c.all.ensures.ran
    (YieldsList-from_rest (maps.keys_of c.args.table.now.entries) c.keys.ensures.rest) (λ x b q k. search (rules, tests))
    ∙ only_keys c.args.keys.now c.args.table.now.entries
