use Rattle.std.proofs.Common.{Result, Ok, Err}
use Rattle.std.specs.Prelude.{IfOk}
use Rattle.decide_core.proofs.RemovalLaws.{entries_removable}
use Rattle.decide_core.proofs.dead.dead_places.Goals as goal

if_both : {X Y : Type 0} (r : Result X Y) (P Q R : X → Type 0) → ((x : X) → P x → Q x → R x) → IfOk r P → IfOk r Q → IfOk r R
if_both (Ok x) P Q R gives p q = gives x p q
if_both (Err y) P Q R gives p q = tt

pub returns-in-Ofp-clause-removable : goal.returns-in-Ofp-clause-removable
returns-in-Ofp-clause-removable c =
    let gives = rw c.in-Ofp.is at c.rules-rules.ensures.gives in
    rw c.in-Ofp.is
    (if_both c.dead_entry_places.result _ _ _ (λ places chain dead. entries_removable c.in-Ofp.table.now places.items (chain, dead) gives)
    c.dead_entry_places.ensures.chain c.dead_entry_places.ensures.dead)
