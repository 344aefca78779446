use Rattle.std.proofs.Common.{◌≡◌, ◌∙◌, Option, ap, subst}
use Rattle.std.specs.Prelude.{IfNone, IfSome}
use Rattle.nft_rules.specs.declared.table.Table.{Table}
use Rattle.nft_rules.specs.Loadable.{IsLoadable}
use Rattle.nft_read.specs.Shape.{table_shape}
use Rattle.nft_read.specs.inner.TableSteps.{done_state}
use Rattle.nft_read.proofs.WholeLaws.{not_loadable, none_told}
use Rattle.nft_read.proofs.whole.printed.Goals as goal

pub returns-in-Some-2-clause-none : goal.returns-in-Some-2-clause-none
returns-in-Some-2-clause-none c =
    none_told c.with_text.result c.args.text.now c.in-Some-2.table c.args.reader
    (ap (λ (t : Table). done_state (table_shape t)) (subst (λ (o : Option Table). IfSome o (λ own. own ≡ c.in-Some.table)) c.in-Some-2.is c.in_ok-table.ensures.some)
    ∙ c.in-Some.ensures.some)
    c.with_text.ensures.none

pub returns-in-None-clause-none : goal.returns-in-None-clause-none
returns-in-None-clause-none c = λ table is read written.
    not_loadable c.in-Some.table table c.args.reader c.in-Some.ensures.some
    (subst (λ (o : Option Table). IfNone o (IsLoadable c.in-Some.table → ⊥)) c.in-None.is c.in_ok-table.ensures.none) is read
