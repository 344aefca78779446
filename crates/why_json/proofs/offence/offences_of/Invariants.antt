use Rattle.why_json.proofs.OffenceLaws.{AreFound}
use Rattle.why_json.proofs.offence.offences_of.Given as goal

-- The offences are of the invariants so far.
abbrev pub invariant-loop-place : goal.invariant-loop-place
invariant-loop-place l = AreFound l.description l.place l.offences.items
