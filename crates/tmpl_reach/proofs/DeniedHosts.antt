-- The denied hosts of each host are others, initially and after each change.
use Rattle.std.proofs.Common.{◌≡◌, ℕ, ◌<◌, List, length, length-set, get_or, set, Some, sym, ◌∙◌, ap, subst, arith}
use Rattle.std.specs.FinSet as fin
use Rattle.std.proofs.lemmas.List.FromFn.{get_or-map-range_with_len, length-map-range_with_len}
use Rattle.std.proofs.lemmas.Option.{get_or_from_slice_get, slice_get-get_or}
use Rattle.flow_set.specs.HostSet.{HostNumbers}
use Rattle.inv_law.specs.inner.Template.{AllMayHave}
use Rattle.inv_law.specs.laws.TemplateLaws.{AllMayHave-set}
use Rattle.tmpl_reach.specs.NoReach.{AreOthers, no_reach, others}
use Rattle.tmpl_reach.specs.inner.NoReachView.{DenyOthers}
use Rattle.tmpl_reach.specs.inner.Resets.{all_others}

pub AllMayHave-all_others : (n : ℕ) → AllMayHave no_reach (all_others n)
AllMayHave-all_others n host within =
    let sized : length (all_others n) ≡ n = length-map-range_with_len (others n) 0 n in
    let below : host < n = subst (λ m. host < m) sized within in
    let here : get_or (all_others n) host (others n host) ≡ others n host =
    get_or-map-range_with_len (others n) 0 n host host (others n host) below (omega arith) in
    subst (λ m. AreOthers m host (get_or (all_others n) host (others m host))) (sym sized)
    (λ j denies. ap (λ (s : HostNumbers). fin.contains s j) (sym here) ∙ denies)

-- The hosts that a host denies.
pub AreOthers-row : (denied : List HostNumbers) (host : ℕ) (row : HostNumbers) → DenyOthers denied → host < length denied
    → row ≡ get_or denied host row → AreOthers (length denied) host row
AreOthers-row denied host row are within here =
    let d = others (length denied) host in
    subst (AreOthers (length denied) host) (get_or_from_slice_get denied host row d (slice_get-get_or denied host row within ∙ ap Some (sym here)))
    (are.may_have host within)

-- One host is given other hosts to deny.
pub DenyOthers-set : (denied : List HostNumbers) (host : ℕ) (hosts : HostNumbers) → DenyOthers denied
    → AreOthers (length denied) host hosts → DenyOthers (set denied host hosts)
DenyOthers-set denied host hosts are may = record {
  few = rw (length-set denied host hosts) are.few;
  may_have = AllMayHave-set no_reach denied host hosts are.may_have may;
}
