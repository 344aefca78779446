use Rattle.std.proofs.Common.{◌≡◌, ◌∙◌, ℕ, List, Option, refl, sym, subst}
use Rattle.std.specs.Prelude.{IfNone, IfSome}
use Rattle.nft_rules.specs.declared.table.Table.{Table}
use Rattle.nft_text.specs.Text.{table_text}
use Rattle.nft_read.specs.Reading.{IsTable}
use Rattle.nft_read.specs.inner.TableSteps.{State, done_state}
use Rattle.nft_read.specs.Shape.{table_shape}
use Rattle.nft_read.proofs.WholeLaws.{read_done, same_shape}
use Rattle.nft_read.proofs.whole.judged.Goals as goal

abbrev IsNone : List ℕ → State → Type 0
IsNone text reader = (table : Table) → IsTable table → done_state (table_shape table) ≡ reader → text ≡ table_text table → ⊥

pub returns-in-Ok-Some-clause-only : goal.returns-in-Ok-Some-clause-only
returns-in-Ok-Some-clause-only c = λ table is written.
    same_shape (table_shape c.in-Ok-Some.table) (table_shape table)
    (subst (λ (o : Option Table). IfSome o (λ t. done_state (table_shape t) ≡ c.args.reader)) c.in-Ok-Some.field-0-is c.in-Ok-Some.ensures.shape ∙ sym (read_done c.args.text.now c.args.reader table c.requires.read is written))

pub returns-in-Ok-None-clause-only : goal.returns-in-Ok-None-clause-only
returns-in-Ok-None-clause-only c = λ table is written.
    absurd ((subst (λ (o : Option Table). IfNone o (IsNone c.args.text.now c.args.reader)) c.in-Ok-None.field-0-is c.in-Ok-None.ensures.none) table is (read_done c.args.text.now c.args.reader table c.requires.read is written) written)

pub returns-in-Ok-None-clause-refused : goal.returns-in-Ok-None-clause-refused
returns-in-Ok-None-clause-refused c =
    (refl, λ table is written. (subst (λ (o : Option Table). IfNone o (IsNone c.args.text.now c.args.reader)) c.in-Ok-None.field-0-is c.in-Ok-None.ensures.none) table is (read_done c.args.text.now c.args.reader table c.requires.read is written) written)
