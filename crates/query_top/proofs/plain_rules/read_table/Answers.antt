use Rattle.std.proofs.Common.{ℕ, List, inl}
use Rattle.run_core.specs.declared.dialect.Dialect.TheVariants.{Nft}
use Rattle.run_core.specs.declared.dialect.RulesFault.{RulesFault}
use Rattle.run_core.specs.declared.dialect.RulesFault.TheVariants.{Refused, Memory}
use Rattle.run_core.specs.inner.DialectCalls.{IsFault}
use Rattle.query_top.specs.inner.Reads.{IsPlainFault}
use Rattle.query_top.proofs.plain_rules.read_table.Goals as goal

-- A fault of the parser is a fault of a plain text.
is_plain_fault : (bytes : List ℕ) (fault : RulesFault) → IsFault Nft bytes fault → IsPlainFault Nft bytes fault
is_plain_fault bytes (Refused line reason) refuses = inl refuses
is_plain_fault bytes Memory none = tt

pub returns-in-Err : goal.returns-in-Err
returns-in-Err c = is_plain_fault c.args.bytes.now c.in-Err.fault c.in-Err.ensures
