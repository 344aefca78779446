use Rattle.std.proofs.Common.{Err, Ok, Result, false}
use Rattle.std.specs.Prelude.{IfOk}
use Rattle.run_core.specs.Outcomes.{Answers}
use Rattle.topos_top.specs.Local.{local_outcomes}
use Rattle.topos_top.specs.inner.Local.{local_dialect_of, machines_outcomes}
use Rattle.topos_top.specs.Rules.{ListedHolds}
use Rattle.run_core.specs.inner.Views.{reply_view}
use Rattle.run_core.specs.declared.answer.Answer.{Answer}
use Rattle.topos_top.proofs.LocalLaws.{answers_listed}
use Rattle.topos_top.proofs.local.answer.Goals as goal

-- A consequence for each value.
if_ok : {T E : Type 0} (P Q : T → Type 0) → ((x : T) → P x → Q x) → (r : Result T E) → IfOk r P → IfOk r Q
if_ok P Q f (Ok x) p = f x p
if_ok P Q f (Err e) p = tt

pub returns-in-None : goal.returns-in-None
returns-in-None c =
    let d = c.args.description.now in
    let dialect = local_dialect_of c.args.dialect in
    let listed : ListedHolds d = rw c.in-None.is at c.in_ok-report.ensures in
    if_ok (λ (answer : Answer). Answers false (machines_outcomes dialect d c.args.host.now) (reply_view answer))
    (λ (answer : Answer). Answers false (local_outcomes dialect d c.args.host.now) (reply_view answer))
    (λ answer. answers_listed d c.args.host.now dialect (reply_view answer) listed) c.machines.result c.machines.ensures
