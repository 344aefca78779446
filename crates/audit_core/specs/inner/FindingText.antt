-- The printed finding of an audit: `equal`, or the difference.
use Rattle.std.specs.Prelude.{ℕ, List, codes}
use Rattle.audit_core.specs.declared.finding.Finding.{Finding}
use Rattle.audit_core.specs.declared.finding.Finding.TheVariants.{Equal, Differ as Differing}
use Rattle.audit_core.specs.FindingText.{trace_text}

abbrev pub finding_text : Finding → List ℕ
finding_text Equal = codes "equal\n"
finding_text (Differing trace) = trace_text trace
