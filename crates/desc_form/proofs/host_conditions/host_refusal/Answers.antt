use Rattle.std.proofs.Common.{◌≡◌, ◌↔◌, None, IfOk, Ok, Err, Option, Result}
use Rattle.std.specs.declared.alloc.AllocError.{AllocError}
use Rattle.text_core.specs.FirstMatch.{first_of}
use Rattle.desc_form.specs.RawDescription.{RawDescription}
use Rattle.desc_form.specs.inner.RawView.{raw_view}
use Rattle.desc_form.specs.declared.refusal.Refusal.{Refusal}
use Rattle.desc_form.proofs.FactsLaws.{has_hosts}
use Rattle.desc_form.specs.HostConditions.{host_conditions}
use Rattle.desc_form.specs.inner.HostFacts.{HasHosts}
use Rattle.desc_form.proofs.host_conditions.host_refusal.Goals as goal

none_where_so : (w : RawDescription) (r : Result (Option Refusal) AllocError) → IfOk r (λ refused. refused ≡ first_of (host_conditions w)) → IfOk r (λ refused. (refused ≡ None) ↔ HasHosts w)
none_where_so w (Ok refused) first = rw first (has_hosts w)
none_where_so w (Err e) first = first

pub returns-clause-facts : goal.returns-clause-facts
returns-clause-facts c = none_where_so (raw_view c.args.written.now) _ c.refusal_of.ensures
