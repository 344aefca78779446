-- Laws of changes: their owners are hosts of the two descriptions, or nobody.
use Rattle.std.proofs.Common.{◌≡◌, ℕ, ◌+◌, List, [], ◌∷◌, length, sym, subst, arith}
use Rattle.std.proofs.lemmas.List.Elements.{All-append, All-cons, All-nil}
use Rattle.std.specs.Prelude.{All}
use Rattle.pkt_core.specs.FlowPolicy.{FlowPolicy}
use Rattle.change_core.specs.Changes.{AreChanges, AreChangesBy, AreListedFor, IsListedFor, all_kinds, names_of}
use Rattle.change_core.specs.Names.{new_names_from, old_names_from}
use Rattle.change_core.specs.declared.change.Change.{Change}
use Rattle.change_core.specs.declared.kind.ChangeKind.{ChangeKind}
use Rattle.change_core.specs.declared.named_owner.NamedOwner.{NamedOwner}
use Rattle.host_net.specs.Host.{Host}
use Rattle.changes_json.specs.inner.Fitting.{FitsChange, FitsOwner}

-- Each element has the property.
abbrev Each : {A : Type 0} → (A → Type 0) → List A → Type 0
Each Q [] = Unit {0}
Each Q (x ∷ xs) = Q x × Each Q xs

-- If what is listed for each element has the property, the whole list has it.
listed : {A : Type 0} (Listed : A → List Change → Type 0) (P : Change → Type 0) (Q : A → Type 0)
    → ((x : A) → Q x → (one : List Change) → Listed x one → All P one)
    → (xs : List A) → Each Q xs → (cs : List Change) → AreListedFor Listed xs cs → All P cs
listed Listed P Q has [] each cs are = subst (λ (l : List Change). All P l) (sym are) (All-nil P)
listed Listed P Q has (x ∷ xs) each cs are =
    subst (λ (l : List Change). All P l) (sym are.2)
    (All-append P are.0 are.1 (has x each.0 are.0 are.3) (listed Listed P Q has xs each.1 are.1 are.4))

module _ (new old : List Host) where
  old_fit : (j : ℕ) (hs : List Host) → j + length hs ≡ length old → Each (FitsOwner new old) (old_names_from j hs)
  old_fit j [] is = (tt, tt)
  old_fit j (h ∷ hs) is = (omega (arith, is), old_fit (j + 1) hs (omega (arith, is)))

  new_fit : (i : ℕ) (hs : List Host) → i + length hs ≡ length new → Each (FitsOwner new old) (new_names_from i hs old)
  new_fit i [] is = old_fit 0 old (omega arith)
  new_fit i (h ∷ hs) is = (omega (arith, is), new_fit (i + 1) hs (omega (arith, is)))

module _ (old new : FlowPolicy) where
  pair_fits : (kind : ChangeKind) (from to : NamedOwner) → FitsOwner new.site.hosts old.site.hosts from → FitsOwner new.site.hosts old.site.hosts to
      → (one : List Change) → IsListedFor old new kind from to one → All (FitsChange new.site.hosts old.site.hosts) one
  pair_fits kind from to source destination [] is = All-nil (FitsChange new.site.hosts old.site.hosts)
  pair_fits kind from to source destination (c ∷ []) is =
      All-cons (FitsChange new.site.hosts old.site.hosts) c [] (record {
        source = subst (λ (owner : NamedOwner). FitsOwner new.site.hosts old.site.hosts owner) (sym is.source) source;
        destination = subst (λ (owner : NamedOwner). FitsOwner new.site.hosts old.site.hosts owner) (sym is.destination) destination;
      }) (All-nil (FitsChange new.site.hosts old.site.hosts))
  pair_fits kind from to source destination (c ∷ d ∷ cs) is = absurd is

  names_fit : Each (FitsOwner new.site.hosts old.site.hosts) (names_of old new)
  names_fit = new_fit new.site.hosts old.site.hosts 0 new.site.hosts (omega arith)

  kind_fits : (kind : ChangeKind) (cs : List Change) → AreChangesBy old new kind cs → All (FitsChange new.site.hosts old.site.hosts) cs
  kind_fits kind cs are =
      listed (λ from. AreListedFor (λ to. IsListedFor old new kind from to) (names_of old new)) (FitsChange new.site.hosts old.site.hosts)
      (FitsOwner new.site.hosts old.site.hosts)
      (λ from source ones are. listed (λ to. IsListedFor old new kind from to) (FitsChange new.site.hosts old.site.hosts) (FitsOwner new.site.hosts old.site.hosts)
      (λ to destination one is. pair_fits kind from to source destination one is) (names_of old new) names_fit ones are)
      (names_of old new) names_fit cs are

  -- The owners of the changes are hosts of their descriptions, or nobody.
  pub changes_fit : (cs : List Change) → AreChanges old new cs → All (FitsChange new.site.hosts old.site.hosts) cs
  changes_fit cs are =
      listed (AreChangesBy old new) (FitsChange new.site.hosts old.site.hosts) (λ kind. Unit {0}) (λ kind any one is. kind_fits kind one is)
      all_kinds (tt, (tt, (tt, (tt, tt)))) cs are
