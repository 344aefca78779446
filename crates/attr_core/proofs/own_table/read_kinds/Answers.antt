use Rattle.std.proofs.Common.{◌≡◌, Bor, List, ℕ, map, length, replicate, sym, ap, ◌∙◌}
use Rattle.inv_any.specs.declared.any_inv.AnyInv.TheVariants as any
use Rattle.attr_core.specs.inner.AssignView.{given_of}
use Rattle.attr_core.specs.OwnTables.{Declared}
use Rattle.attr_core.proofs.OwnTablesLaws.{made_of_kinds}
use Rattle.attr_core.specs.inner.OwnTablesWalk.{kinds_after}
use Rattle.attr_core.proofs.own_table.read_kinds.Goals as goal

pub returns : goal.returns
returns c hosts sized =
    let words : List (List ℕ) = map (λ (known : Bor (List ℕ)). known.now) c.args.words.now in
    let d : Declared = record { words = words; table = c.args.rule.table } in
    let fresh : c.args.rule.hosts ≡ replicate (length hosts) c.args.rule.table.default =
    c.requires.fresh ∙ ap (λ n. replicate n c.args.rule.table.default) (sym sized) in
    ap any.Table
    (c.new.ensures ∙ c.take_kinds.ensures
    ∙ (λ i. record { table = c.args.rule.table; hosts = kinds_after words (fresh i) (map given_of c.args.assigns.now) }))
    ∙ made_of_kinds d hosts (map given_of c.args.assigns.now)
