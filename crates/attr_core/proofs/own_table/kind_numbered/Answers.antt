use Rattle.std.proofs.Common.{Bor, List, ℕ, ◌∙◌}
use Rattle.std.specs.Str.{bytes_eq}
use Rattle.attr_core.proofs.OwnTablesLaws.{position_from-map, some_within}
use Rattle.attr_core.proofs.own_table.kind_numbered.Goals as goal

pub returns-clause-value : goal.returns-clause-value
returns-clause-value c =
    c.place_of.ensures ∙ position_from-map (bytes_eq c.args.word.now) (λ (known : Bor (List ℕ)). known.now) 0 c.args.words.now

pub returns-clause-within : goal.returns-clause-within
returns-clause-within c =
    some_within (λ (known : Bor (List ℕ)). bytes_eq c.args.word.now known.now) c.args.words.now c.place_of.result c.place_of.ensures
