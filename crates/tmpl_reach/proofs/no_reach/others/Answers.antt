use Rattle.std.proofs.Common.{◌≡◌, ℕ, Bool, true, false, not, ◌&&◌, nat_eq, nat_lt, refl, sym, ap, ◌∙◌}
use Rattle.std.specs.FinSet as set
use Rattle.flow_set.specs.HostSet.{HostNumbers, hosts_below}
use Rattle.flow_set.specs.laws.HostSetLaws.{contains-hosts_below, contains-remove, hosts_ext}
use Rattle.tmpl_reach.specs.NoReach.{others}
use Rattle.tmpl_reach.specs.laws.NoReachLaws.{contains-others}
use Rattle.tmpl_reach.proofs.no_reach.others.Goals as goal

other_first : (b c : Bool) → (b && (c && true)) ≡ (c && b)
other_first true true = refl
other_first true false = refl
other_first false true = refl
other_first false false = refl

all_but : (n host : ℕ) → set.remove (hosts_below n (λ _. true)) host ≡ others n host
all_but n host =
    hosts_ext (set.remove (hosts_below n (λ _. true)) host) (others n host) (λ q.
    contains-remove (hosts_below n (λ _. true)) host q
    ∙ ap (λ b. not (nat_eq q host) && b) (contains-hosts_below n (λ _. true) q)
    ∙ other_first (not (nat_eq q host)) (nat_lt q n) ∙ sym (contains-others n host q))

pub returns : goal.returns
returns c = c.remove.ensures ∙ ap (λ (s : HostNumbers). set.remove s c.args.host) c.below-hosts.ensures ∙ all_but c.args.n c.args.host
