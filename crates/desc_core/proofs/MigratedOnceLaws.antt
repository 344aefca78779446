-- The result of migrating a description to version 2 is unique.
use Rattle.std.proofs.Common.{◌≡◌, ℕ, true, false, List, Option, Some, subst}
use Rattle.toml.specs.Data.{Members}
use Rattle.toml.specs.Text.{IsDocumentText}
use Rattle.table_core.proofs.PrintedLaws.{printed_once}
use Rattle.table_core.specs.Shallow.{members_are_plain}
use Rattle.desc_core.proofs.MigratedLaws.{migrated_printable}
use Rattle.desc_core.specs.Document.{document}
use Rattle.desc_core.specs.Migrated.{IsMigrated, migrated}

same_table : (a b : Members) (o : Option Members) → o ≡ Some a → o ≡ Some b → a ≡ b
same_table a b o first second = cc (first, second)

pub migrated_once : (bytes a b : List ℕ) → IsMigrated bytes a → IsMigrated bytes b → a ≡ b
migrated_once bytes a b p q =
    let same : q.members ≡ p.members = same_table q.members p.members (document bytes) q.read p.read in
    let plain : members_are_plain (migrated p.members) ≡ true = (migrated_printable p.members p.shallow).1 in
    printed_once (migrated p.members) a b plain p.printed (subst (λ (ms : Members). IsDocumentText false (migrated ms) b) same q.printed)
