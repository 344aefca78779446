use Rattle.audit_core.proofs.JudgingLemmas.{short_lists_at, two_lists_at}
use Rattle.audit_core.proofs.laws.short_lists_suffice.Goals as goal

pub returns : goal.returns
returns c = record { each = short_lists_at; table = two_lists_at }
