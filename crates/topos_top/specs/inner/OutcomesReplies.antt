-- The reply of the code by the finding of an audit. No promise of `run` depends on it.
use Rattle.audit_core.specs.inner.FindingText.{finding_text}
use Rattle.audit_core.specs.declared.finding.Finding.{Finding}
use Rattle.audit_core.specs.declared.finding.Finding.TheVariants.{Equal, Differ}
use Rattle.run_core.specs.Reply.{Reply}
use Rattle.run_core.specs.inner.Views.{reply_on}
use Rattle.run_core.specs.declared.status.Status.TheVariants.{Done, Violated}
use Rattle.run_core.specs.declared.status.Stream.TheVariants.{Output}

-- The reply of the finding of an audit.
abbrev pub finding_reply : Finding → Reply
finding_reply Equal = reply_on Done Output (finding_text Equal)
finding_reply (Differ trace) = reply_on Violated Output (finding_text (Differ trace))
