-- The law of classes for a description: packets that its parts do not separate belong to the same flow, by its services.
use Rattle.std.proofs.Common.{◌≡◌, ℕ, ◌+◌, Bool, true, false, cond, ◌&&◌, ◌||◌, List, [], ◌∷◌, Option, Some, None, map, length, refl, sym, ap, ◌∙◌, true≢false}
use Rattle.std.specs.List.{AllByRecursion, flat_map, list_any, position_from}
use Rattle.std.specs.Option.{option_or, option_map_or}
use Rattle.host_net.specs.declared.packet.Packet.{Packet}
use Rattle.host_net.specs.declared.prefix.Prefix.{Prefix}
use Rattle.host_net.specs.declared.service.Service.{Service}
use Rattle.host_net.specs.Prefix.{covers}
use Rattle.host_net.specs.Host.{Host, covers_any, owner_of, rest_of}
use Rattle.host_net.specs.Hosts.{all_prefixes}
use Rattle.host_net.specs.Service.{is_served, serves}
use Rattle.host_net.specs.Services.{services_of}
use Rattle.host_net.specs.Site.{Site}
use Rattle.flow_set.specs.declared.flow.Flow.{Flow}
use Rattle.flow_set.specs.EveryFlow.{every_flow}
use Rattle.flow_set.proofs.EveryFlowLaws.{IsFull-every_flow}
use Rattle.flow_set.specs.Flow.{same_flow}
use Rattle.flow_set.specs.laws.FlowLaws.{same_fact}
use Rattle.flow_set.specs.FlowSet.{has}
use Rattle.pkt_core.specs.FlowPolicy.{flow_of, flow_of_owners, is_of}
use Rattle.policy_space.proofs.FlowLaws.{flow_is_one}
use Rattle.audit_core.specs.Parts.{Addresses, flow_services, service_parts, site_parts}
use Rattle.audit_core.proofs.PartLemmas.{AreAlikeFor, IsAlikeFor, all_listed, all_parts}

mapped : {X Y : Type 0} (P : Y → Type 0) (Q : X → Type 0) (f : X → Y) (xs : List X) → ((x : X) → P (f x) → Q x) → AllByRecursion P (map f xs)
    → AllByRecursion Q xs
mapped P Q f [] each all = tt
mapped P Q f (x ∷ xs) each all = (each x all.0, mapped P Q f xs each all.1)

any_alike : (ps : List Prefix) (a b : ℕ) → AllByRecursion (λ p. covers p a ≡ covers p b) ps → covers_any ps a ≡ covers_any ps b
any_alike [] a b alike = refl
any_alike (p ∷ ps) a b alike = λ i. alike.0 i || any_alike ps a b alike.1 i

holder_alike : (hosts : List Host) (k a b : ℕ) → AllByRecursion (λ p. covers p a ≡ covers p b) (all_prefixes hosts)
    → position_from (λ h. covers_any h.prefixes a) k hosts ≡ position_from (λ h. covers_any h.prefixes b) k hosts
holder_alike [] k a b alike = refl
holder_alike (h ∷ hosts) k a b alike =
    let parts = all_parts (λ p. covers p a ≡ covers p b) h.prefixes (all_prefixes hosts) alike in
    λ i. cond (any_alike h.prefixes a b parts.0 i) (Some k) (holder_alike hosts (k + 1) a b parts.1 i)

-- Both addresses have the same owner.
owner_alike : (hosts : List Host) (a b : ℕ) → AllByRecursion (λ p. covers p a ≡ covers p b) (all_prefixes hosts) → owner_of hosts a ≡ owner_of hosts b
unfolding owner_of
owner_alike hosts a b all = ap (λ (o : Option ℕ). option_or o (rest_of hosts)) (holder_alike hosts 0 a b all)

-- A property of all elements that are listed for flows holds for the elements that are listed for one of the flows.
all_of_flow : {X : Type 0} (P : X → Type 0) (listed : Flow → List X) (fs : List Flow) (f : Flow) → has fs f ≡ true
    → AllByRecursion P (flat_map listed fs) → AllByRecursion P (listed f)
all_of_flow P listed [] f there all = absurd (true≢false (sym there))
all_of_flow P listed (g ∷ fs) f there all =
    let both = all_parts P (listed g) (flat_map listed fs) all in
    by_test (same_flow g f) refl there both.0 (λ later. all_of_flow P listed fs f later both.1)
  where
    by_test : (b : Bool) → same_flow g f ≡ b → (b || has fs f) ≡ true → AllByRecursion P (listed g) → (has fs f ≡ true → AllByRecursion P (listed f))
        → AllByRecursion P (listed f)
    by_test true same h here behind = same_fact (λ (x : Flow). AllByRecursion P (listed x)) g f same here
    by_test false same h here behind = behind h

abbrev SameService : Packet → Packet → Service → Type 0
SameService p q s = serves s p ≡ serves s q

service_alike : (p q : Packet) (s : Service) → AreAlikeFor (service_parts s) p q → SameService p q s
service_alike p q s alike = λ i. alike.0 i && alike.1.0.1 i

any_served : (ss : List Service) (p q : Packet) → AllByRecursion (SameService p q) ss → list_any (λ t. serves t p) ss ≡ list_any (λ t. serves t q) ss
any_served [] p q alike = refl
any_served (s ∷ ss) p q alike = λ i. alike.0 i || any_served ss p q alike.1 i

served_alike : (ss : List Service) (p q : Packet) → AllByRecursion (SameService p q) ss → is_served ss p ≡ is_served ss q
served_alike [] p q alike = refl
served_alike (s ∷ ss) p q alike = any_served (s ∷ ss) p q alike

-- Packets that a description does not separate have the same owners, and so the same flow.
pub flow_alike : (site : Site) (p q : Packet) → AreAlikeFor (site_parts site) p q → flow_of site.hosts p ≡ flow_of site.hosts q
flow_alike site p q alike =
    let all = all_prefixes site.hosts in
    let prefixes = (all_parts (IsAlikeFor p q) (map Addresses all) (flat_map service_parts (flow_services site)) alike).0 in
    let src = owner_alike site.hosts p.src q.src (mapped (IsAlikeFor p q) (λ x. covers x p.src ≡ covers x q.src) Addresses all (λ x same. same.0) prefixes) in
    let dst = owner_alike site.hosts p.dst q.dst (mapped (IsAlikeFor p q) (λ x. covers x p.dst ≡ covers x q.dst) Addresses all (λ x same. same.1) prefixes) in
    λ i. flow_of_owners (src i) (dst i)

of_flow_alike : (site : Site) (flows : List Flow) (p q : Packet) (flow : Option Flow) → AllByRecursion (SameService p q) (flow_services site)
    → ((f : Flow) → flow ≡ Some f → has (every_flow (length site.hosts)) f ≡ true)
    → option_map_or (λ f. has flows f && is_served (services_of site.services f.from f.to) p) flow false ≡ option_map_or (λ f. has flows f && is_served (services_of site.services f.from f.to) q) flow false
of_flow_alike site flows p q None served there = refl
of_flow_alike site flows p q (Some f) served there =
    ap (λ (b : Bool). has flows f && b)
    (served_alike (services_of site.services f.from f.to) p q
    (all_of_flow (SameService p q) (λ g. services_of site.services g.from g.to) (every_flow (length site.hosts)) f (there f refl) served))

-- Packets that a description does not separate belong to the same flows by their services.
pub is_of_alike : (site : Site) (flows : List Flow) (p q : Packet) → AreAlikeFor (site_parts site) p q → is_of site flows p ≡ is_of site flows q
is_of_alike site flows p q alike =
    let both = all_parts (IsAlikeFor p q) (map Addresses (all_prefixes site.hosts)) (flat_map service_parts (flow_services site)) alike in
    of_flow_alike site flows p q (flow_of site.hosts p)
    (all_listed (IsAlikeFor p q) (SameService p q) service_parts (flow_services site) (service_alike p q) both.1)
    (λ f is. (IsFull-every_flow (length site.hosts) f).1 (flow_is_one site.hosts p f is))
    ∙ ap (λ (o : Option Flow). option_map_or (λ f. has flows f && is_served (services_of site.services f.from f.to) q) o false) (flow_alike site p q alike)
