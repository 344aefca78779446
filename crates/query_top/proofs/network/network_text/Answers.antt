use Rattle.std.proofs.Common.{Result, Ok, Err}
use Rattle.std.specs.Prelude.{IfOk}
use Rattle.query_top.proofs.network.network_text.Goals as goal

-- Two properties of a value, if there is one, give a third.
by_both : {X Y : Type 0} (r : Result X Y) (P Q R : X → Type 0) → ((x : X) → P x → Q x → R x) → IfOk r P → IfOk r Q → IfOk r R
by_both (Ok x) P Q R gives p q = gives x p q
by_both (Err y) P Q R gives p q = tt

pub returns : goal.returns
returns c =
    by_both c.network_json.result _ _ _
    (λ text written gaps. record {
      policy = c.in_ok-policy.policy;
      is_policy = c.in_ok-policy.ensures.policy;
      written = written;
      gaps = gaps written;
    })
    c.network_json.ensures.text c.network_json.ensures.gaps
