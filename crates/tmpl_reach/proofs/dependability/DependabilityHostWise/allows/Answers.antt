use Rattle.std.proofs.Common.{◌≡◌, ℕ, ◌<◌, ◌≤◌, List, length, sym, ◌∙◌, ap, subst}
use Rattle.std.specs.FinSet as set
use Rattle.std.specs.Prelude.{slice_index}
use Rattle.std.proofs.lemmas.Bool.{le-leb, leb-true}
use Rattle.std.proofs.lemmas.List.{get_or_read}
use Rattle.flow_set.specs.HostSet.{HostNumbers}
use Rattle.reach_core.specs.inner.Counting.{ReachesExactly}
use Rattle.reach_core.specs.laws.ReachLaws.{ReachesExactly-at_most}
use Rattle.reach_core.proofs.Counts.{reaches_exactly}
use Rattle.tmpl_reach.proofs.dependability.DependabilityHostWise.allows.Goals as goal

pub returns : goal.returns
returns c e shows =
    let host = c.args.host in
    let within : host < length c.self.inside.limits.items = subst (λ (xs : List ℕ). host < length xs) (sym c.self.view_is) c.requires.host in
    let limit : c.index.result.now ≡ slice_index c.args.self.now host =
    get_or_read c.self.inside.limits.items host c.index.result.now within c.index.ensures 0
    ∙ ap (λ (xs : List ℕ). slice_index xs host) c.self.view_is in
    let count : ReachesExactly e host c.len.result =
    subst (ReachesExactly e host)
    (sym (c.len.ensures ∙ ap (λ (s : HostNumbers). set.len s) (c.remove.ensures ∙ ap (λ (s : HostNumbers). set.remove s host) c.copy-others.ensures)))
    (reaches_exactly e host c.args.reached.now shows) in
    let law = ReachesExactly-at_most e host c.len.result (slice_index c.args.self.now host) count in (
      λ yes _. law.0 (subst (λ n. c.len.result ≤ n) limit (leb-true _ _ yes)),
      λ most. le-leb _ _ (subst (λ n. c.len.result ≤ n) (sym limit) (law.1 (most c.requires.host))),
    )
