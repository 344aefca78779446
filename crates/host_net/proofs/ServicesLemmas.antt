-- The results of the map from flows to services agree with the services of flows.
use Rattle.std.proofs.Common.{◌≡◌, ◌↔◌, ℕ, Bool, ◌&&◌, List, [], ◌∷◌, ◌++◌, length, refl, sym, ap, ◌∙◌}
use Rattle.std.specs.Prelude.{◌==◌}
use Rattle.std.specs.Map.{lookup}
use Rattle.std.specs.Option.{option_map_or}
use Rattle.std.specs.Global.{Global}
use Rattle.std.specs.declared.vec.Vec.{Vec}
use Rattle.indexmap.specs.IndexMap.{insert_entry}
use Rattle.text_core.proofs.StepsLaws.{split_bool}
use Rattle.host_net.specs.declared.service.Service.{Service}
use Rattle.host_net.specs.Services.{RestrictedFlow, services_of}
use Rattle.host_net.specs.inner.Services.{with_service}
use Rattle.host_net.specs.inner.ServicesView.{narrowed_view, services_view}

abbrev pub same_ends : ℕ × ℕ → ℕ × ℕ → Bool
same_ends k l = (k.0 == l.0) && (k.1 == l.1)

-- The map has no entries if all flows are unrestricted.
pub none_narrowed : (es : List ((ℕ × ℕ) × Vec Service Global)) → (length es ≡ 0) ↔ (services_view es ≡ [])
none_narrowed [] = (λ none. refl, λ none. refl)
none_narrowed (e ∷ es) = (λ none. cc, λ none. cc)

-- The entry of a flow has its services.
pub services_found : (es : List ((ℕ × ℕ) × Vec Service Global)) (from to : ℕ)
    → services_of (services_view es) from to ≡ option_map_or (λ v. v.items) (lookup (same_ends (from, to)) es) []
services_found [] from to = refl
services_found (e ∷ es) from to = split_bool (same_ends (from, to) e.0) (λ same. rw same refl) (λ other. rw other (services_found es from to))

-- The services of a flow are replaced by those with one more.
pub services_inserted : (es : List ((ℕ × ℕ) × Vec Service Global)) (from to : ℕ) (v : Vec Service Global) (s : Service)
    → v.items ≡ services_of (services_view es) from to ++ s ∷ []
    → services_view (insert_entry same_ends es (from, to) v) ≡ with_service (services_view es) from to s
services_inserted [] from to v s grown = ap (λ (ss : List Service). record { from = from; to = to; services = ss } ∷ []) grown
services_inserted (e ∷ es) from to v s grown =
    split_bool (same_ends (from, to) e.0) (λ same.
    let here : v.items ≡ e.1.items ++ s ∷ [] = grown ∙ rw same refl in
    rw same (ap (λ (ss : List Service). record { from = e.0.0; to = e.0.1; services = ss } ∷ services_view es) here))
    (λ other.
    let behind : v.items ≡ services_of (services_view es) from to ++ s ∷ [] = grown ∙ rw other refl in
    rw other (ap (λ ns. narrowed_view e ∷ ns) (services_inserted es from to v s behind)))

pub services_added : (ns : List RestrictedFlow) (es fs : List ((ℕ × ℕ) × Vec Service Global)) (from to : ℕ) (v : Vec Service Global) (s : Service)
    → services_view es ≡ ns → fs ≡ insert_entry same_ends es (from, to) v → v.items ≡ services_of ns from to ++ s ∷ []
    → services_view fs ≡ with_service ns from to s
services_added ns es fs from to v s seen inserted grown =
    ap services_view inserted
    ∙ services_inserted es from to v s (grown ∙ ap (λ ms. services_of ms from to ++ s ∷ []) (sym seen))
    ∙ ap (λ ms. with_service ms from to s) seen
