-- An iteration over listed hosts, one by one, and the same over the whole list.
use Rattle.std.proofs.Common.{◌≡◌, ℕ, List, [], ◌∷◌, ◌++◌, append_assoc, append-nil, Option, option_map, sym, ap, ◌∙◌}
use Rattle.std.proofs.lemmas.Cmp.{nat_cmp_total}
use Rattle.std.specs.FinSet as set
use Rattle.std.specs.FinSet.{nat_cmp-IsAntisymmetric}
use Rattle.std.specs.List.{fold}
use Rattle.std.specs.Ordering.{nat_cmp}
use Rattle.toml.specs.Data.{Data}
use Rattle.host_net.specs.Host.{Host}
use Rattle.flow_set.specs.HostSet.{HostNumbers}
use Rattle.table_core.specs.Listing.{each}
use Rattle.table_core.specs.inner.Listing.{grow}
use Rattle.table_core.proofs.ListingLaws.{grow_each}
use Rattle.attr_core.specs.NoReach.{all_denied}
use Rattle.attr_core.specs.Peers.{peer}

-- One more listed host.
abbrev pub with_peer : {S : Type 0} → (S → ℕ → S) → List Host → ℕ → S → Data → Option S
with_peer with hosts host s d = option_map (with s) (peer hosts host d)

fold_insert : (ks js : List ℕ) → fold set.insert (set.from_list {R = nat_cmp} ks) js ≡ set.from_list (ks ++ js)
fold_insert ks [] = ap set.from_list (sym (append-nil ks))
fold_insert ks (j ∷ js) =
    ap (λ (s : HostNumbers). fold set.insert s js) (sym (set.from_list_push nat_cmp_total nat_cmp-IsAntisymmetric ks j))
    ∙ fold_insert (ks ++ j ∷ []) js ∙ ap set.from_list (append_assoc ks (j ∷ []) js)

pub grow_denied : (hosts : List Host) (host : ℕ)
    (ds : List Data) → grow (with_peer set.insert hosts host) set.empty ds ≡ all_denied hosts host ds
unfolding all_denied
grow_denied hosts host ds =
    grow_each (peer hosts host) set.insert set.empty ds ∙ ap (λ (make : List ℕ → HostNumbers). option_map make (each (peer hosts host) ds)) (λ i js. fold_insert [] js i)
