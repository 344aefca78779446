-- Laws of flows: their owners are hosts, or nobody.
use Rattle.std.proofs.Common.{◌≡◌, ◌<◌, ◌+◌, ℕ, suc, List, [], ◌∷◌, Option, None, Some, length, sym, subst, arith}
use Rattle.std.proofs.lemmas.List.Elements.{All-append, All-cons, All-nil}
use Rattle.std.specs.Prelude.{All, true}
use Rattle.std.specs.List.{AllZip}
use Rattle.std.specs.Option.{ForSome}
use Rattle.rules_space.specs.Rules.{AnyRules}
use Rattle.decide_core.specs.Flows.{AreFlows, AreFlowsOfEach}
use Rattle.decide_core.specs.declared.flows.PairFlows.{PairFlows}
use Rattle.header_space.specs.Owners.{IsOfPair, owners_from, owners_of}
use Rattle.host_net.specs.Host.{Host}
use Rattle.host_net.specs.declared.packet.Packet.{Packet}
use Rattle.host_net.specs.declared.packet.CtState.TheVariants.{New}
use Rattle.nft_flows.specs.Flows.{AreTableFlows, AreTableFlowsOf}
use Rattle.nft_flows.specs.declared.flows.PairTableFlows.{PairTableFlows}
use Rattle.nft_rules.specs.Semantics.{PassesTable}
use Rattle.nft_rules.specs.declared.table.Table.{Table}
use Rattle.pass_core.specs.NewPackets.{LetsPass}
use Rattle.pass_core.specs.Pairs.{AreListedByOwners, AreListedFor, IsListedFor}
use Rattle.pass_core.specs.declared.pairs.PairServices.{PairServices}
use Rattle.flows_json.specs.inner.Fitting.{FitsFlows, FitsTableFlows}

-- Each element has the property.
abbrev Each : {A : Type 0} → (A → Type 0) → List A → Type 0
Each Q [] = Unit {0}
Each Q (x ∷ xs) = Q x × Each Q xs

-- If what is listed for each element has the property, the whole list has it.
listed : {A : Type 0} (Listed : A → List PairServices → Type 0) (P : PairServices → Type 0) (Q : A → Type 0)
    → ((x : A) → Q x → (one : List PairServices) → Listed x one → All P one)
    → (xs : List A) → Each Q xs → (ss : List PairServices) → AreListedFor Listed xs ss → All P ss
listed Listed P Q has [] each ss are = subst (λ (l : List PairServices). All P l) (sym are) (All-nil P)
listed Listed P Q has (x ∷ xs) each ss are =
    subst (λ (l : List PairServices). All P l) (sym are.2)
    (All-append P are.0 are.1 (has x each.0 are.0 are.3) (listed Listed P Q has xs each.1 are.1 are.4))

no_host : {C : Type 0} (host : ℕ) → ◌≡◌ {A = Option ℕ} None (Some host) → C
no_host host is = cc is

same_host : (i host : ℕ) → Some i ≡ Some host → i ≡ host
same_host i host is = cc is

module _ (hosts : List Host) where
  -- The owner is a host of the list, or nobody.
  abbrev FitsOwner : Option ℕ → Type 0
  FitsOwner owner = ForSome owner (λ host. host < length hosts)

  -- Both owners are.
  pub record FitsServices (s : PairServices) : Type 0 where
    pub source : ForSome s.from (λ host. host < length hosts)
    pub destination : ForSome s.to (λ host. host < length hosts)

  owners_fit : (i : ℕ) (hs : List Host) → i + length hs ≡ length hosts → Each FitsOwner (owners_from i hs)
  owners_fit i [] is = ((λ host there. no_host host there), tt)
  owners_fit i (h ∷ hs) is =
      ((λ host there. let same = same_host i host there in omega (arith, is, same)), owners_fit (i + 1) hs (omega (arith, is)))

module _ (Holds : Packet → Type 0) (hosts : List Host) where
  pair_fits : (from to : Option ℕ) → (FitsOwner hosts) from → (FitsOwner hosts) to → (one : List PairServices)
      → IsListedFor Holds (IsOfPair hosts from to) from to one → All (FitsServices hosts) one
  pair_fits from to source destination [] is = All-nil (FitsServices hosts)
  pair_fits from to source destination (s ∷ []) is =
      All-cons (FitsServices hosts) s [] (record {
        source = subst (λ (owner : Option ℕ). (FitsOwner hosts) owner) (sym is.source) source;
        destination = subst (λ (owner : Option ℕ). (FitsOwner hosts) owner) (sym is.destination) destination;
      }) (All-nil (FitsServices hosts))
  pair_fits from to source destination (s ∷ t ∷ ss) is = absurd is

  pub services_fit : (ss : List PairServices) → AreListedByOwners Holds hosts ss → All (FitsServices hosts) ss
  services_fit ss are =
      let fit = owners_fit hosts 0 hosts (omega arith) in
      listed (λ from. AreListedFor (λ to. IsListedFor Holds (IsOfPair hosts from to) from to) (owners_of hosts)) (FitsServices hosts) (FitsOwner hosts)
      (λ from source ones are. listed (λ to. IsListedFor Holds (IsOfPair hosts from to) from to) (FitsServices hosts) (FitsOwner hosts)
      (λ to destination one is. pair_fits from to source destination one is) (owners_of hosts) fit ones are)
      (owners_of hosts) fit ss are

module _ (rules : AnyRules) (hosts : List Host) where
  each_fits : (ss : List PairServices) (fs : List PairFlows) → AreFlowsOfEach rules hosts ss fs → All (FitsServices hosts) ss → All (FitsFlows hosts) fs
  each_fits [] [] are fits = All-nil (FitsFlows hosts)
  each_fits (s ∷ ss) (f ∷ fs) are fits =
      let first = fits 0 s (omega arith) in
      All-cons (FitsFlows hosts) f fs (record {
        source = subst (λ (owner : Option ℕ). (FitsOwner hosts) owner) (sym are.0.source) first.source;
        destination = subst (λ (owner : Option ℕ). (FitsOwner hosts) owner) (sym are.0.destination) first.destination;
      }) (each_fits ss fs are.1 (λ k d low. fits (suc k) d (omega (arith, low))))
  each_fits [] (f ∷ fs) are fits = absurd are
  each_fits (s ∷ ss) [] are fits = absurd are

  -- The owners of the flows are hosts of the list, or nobody.
  pub flows_fit : (flows : List PairFlows) → AreFlows rules hosts flows → All (FitsFlows hosts) flows
  flows_fit flows are = each_fits are.services flows are.each (services_fit (LetsPass rules) hosts are.services are.listed)

-- ---- the flows of a table

table_each_fits : (table : Table) (hosts : List Host) (ss : List PairServices) (fs : List PairTableFlows) → AllZip (AreTableFlowsOf table hosts) ss fs
    → All (FitsServices hosts) ss → All (FitsTableFlows hosts) fs
table_each_fits table hosts [] [] are fits = All-nil (FitsTableFlows hosts)
table_each_fits table hosts (s ∷ ss) (f ∷ fs) are fits =
    let first = fits 0 s (omega arith) in
    All-cons (FitsTableFlows hosts) f fs (record {
      source = subst (λ (owner : Option ℕ). FitsOwner hosts owner) (sym are.0.source) first.source;
      destination = subst (λ (owner : Option ℕ). FitsOwner hosts owner) (sym are.0.destination) first.destination;
    }) (table_each_fits table hosts ss fs are.1 (λ k d low. fits (suc k) d (omega (arith, low))))
table_each_fits table hosts [] (f ∷ fs) are fits = absurd are
table_each_fits table hosts (s ∷ ss) [] are fits = absurd are

-- The owners of the flows of a table are hosts of the list, or nobody.
pub table_flows_fit : (table : Table) (hosts : List Host) (flows : List PairTableFlows) → AreTableFlows table hosts flows → All (FitsTableFlows hosts) flows
table_flows_fit table hosts flows are =
    table_each_fits table hosts are.services flows are.each (services_fit (λ p. PassesTable table New p true) hosts are.services are.listed)
