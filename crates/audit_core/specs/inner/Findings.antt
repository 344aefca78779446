-- The finding of an audit, and the reason if there is none. Callers use `Findings` instead.
use Rattle.std.specs.Prelude.{◌≡◌, ℕ, ◌<◌}
use Rattle.audit_core.specs.declared.finding.Finding.{Finding}
use Rattle.audit_core.specs.declared.finding.Finding.TheVariants.{Equal, Differ as Differing}
use Rattle.audit_core.specs.declared.finding.AuditRefusal.{AuditRefusal}
use Rattle.audit_core.specs.declared.finding.AuditRefusal.TheVariants.{Memory, TooManyClasses}
use Rattle.audit_core.specs.Cuts.{cuts_between}
use Rattle.audit_core.specs.Places.{representatives_of, most_classes}
use Rattle.audit_core.specs.Sides.{Sides}
use Rattle.audit_core.specs.inner.Sides.{AgreeAlways}
use Rattle.audit_core.specs.Findings.{IsFirstTrace}

-- The finding is correct: the two sides agree on every list of events, or the trace is the first short list on which they differ.
abbrev pub IsFinding : Sides → Finding → Type 0
IsFinding sides Equal = AgreeAlways sides
IsFinding sides (Differing trace) = IsFirstTrace sides (representatives_of (cuts_between sides)) trace

-- The refusal is correct for this number of classes: there are too many classes, or an allocation failed.
abbrev pub IsRefused : ℕ → AuditRefusal → Type 0
IsRefused classes (TooManyClasses count) = (count ≡ classes) × (most_classes < classes)
IsRefused classes Memory = Unit {0}
