-- A master receives exactly from the hosts that were added to its list.
use Rattle.std.proofs.Common.{◌≡◌, ℕ, ◌<◌, Bool, true, false, List, [], length, length-set, replicate, get_or, set, inl, inr, sym, ◌∙◌, subst, get_or-set_other}
use Rattle.std.specs.Prelude.{◌⊎◌, ◌↔◌, IsTrue}
use Rattle.std.proofs.lemmas.Bool.{false≢true, cases_eq}
use Rattle.std.proofs.lemmas.List.{get_or-set_same, get_or-replicate, length-replicate}
use Rattle.tmpl_zones.specs.Partners.{Partner, DontCare, Care, Master, PartnersPass, TakesFromOthers, partners_passes, with_sender}
use Rattle.tmpl_zones.specs.inner.PartnersView.{IsMaster}

-- A mark for each host.
abbrev pub marks_of : Partner → List Bool
marks_of DontCare = []
marks_of Care = []
marks_of (Master takes_from) = takes_from

-- One more mark.
marked : (marks : List Bool) (sender number : ℕ) → sender < length marks
    → IsTrue (get_or (set marks sender true) number false) ↔ ((number ≡ sender) ⊎ IsTrue (get_or marks number false))
marked marks sender number within = elim (cases_eq number sender) [
  | inl same ↦ (
    λ _. inl same,
    λ _. subst (λ n. IsTrue (get_or (set marks sender true) n false)) (sym same) (get_or-set_same marks sender true false within),
  )
  | inr differs ↦ let stays = get_or-set_other marks sender number true false differs in (
    λ has. inr (sym stays ∙ has),
    λ either. stays ∙ elim either [
      | inl same ↦ absurd (differs same)
      | inr has ↦ has
    ],
  )
]

takes-with_sender : (number sender : ℕ) (p a b : Partner) → IsMaster p → sender < length (marks_of p)
    → IsTrue (partners_passes number a (with_sender p sender)) ↔ ((number ≡ sender) ⊎ IsTrue (partners_passes number b p))
takes-with_sender number sender DontCare a b is_master within = absurd is_master
takes-with_sender number sender Care a b is_master within = absurd is_master
takes-with_sender number sender (Master marks) a b is_master within = marked marks sender number within

-- A master receives from one more sender, and from those before.
pub PartnersPass-with_sender : (partners : List Partner) (sender master : ℕ) → master < length partners
    → IsMaster (get_or partners master DontCare) → sender < length (marks_of (get_or partners master DontCare)) → (number : ℕ)
    → PartnersPass (set partners master (with_sender (get_or partners master DontCare) sender)) number master ↔
    ((number ≡ sender) ⊎ PartnersPass partners number master)
PartnersPass-with_sender partners sender master within is_master room number =
    let p = get_or partners master DontCare in
    let new = set partners master (with_sender p sender) in
    subst (λ (q : Partner). IsTrue (partners_passes number (get_or new number DontCare) q) ↔ ((number ≡ sender) ⊎ PartnersPass partners number master))
    (sym (get_or-set_same partners master (with_sender p sender) DontCare within))
    (takes-with_sender number sender p (get_or new number DontCare) (get_or partners number DontCare) is_master room)

-- A new master receives from no host.
pub PartnersPass-nobody : (partners : List Partner) (n host : ℕ) → host < length partners → (sender : ℕ) → sender < n
    → PartnersPass (set partners host (Master (replicate n false))) sender host → ⊥
PartnersPass-nobody partners n host within sender is_host passes =
    let none = Master (replicate n false) in
    let new = set partners host none in
    let taken =
    subst (λ (q : Partner). IsTrue (partners_passes sender (get_or new sender DontCare) q))
    (get_or-set_same partners host none DontCare within) passes in
    false≢true (sym (get_or-replicate n sender false false is_host) ∙ taken)

-- A master without marks, and a master with another host marked.
pub TakesFromOthers-nobody : (n host : ℕ) → host < n → TakesFromOthers n host (Master (replicate n false))
TakesFromOthers-nobody n host within = (length-replicate n false, get_or-replicate n host false false within)

pub TakesFromOthers-with_sender : (n host : ℕ) (p : Partner) (sender : ℕ) → (sender ≡ host → ⊥) → TakesFromOthers n host p
    → TakesFromOthers n host (with_sender p sender)
TakesFromOthers-with_sender n host DontCare sender apart may = tt
TakesFromOthers-with_sender n host Care sender apart may = tt
TakesFromOthers-with_sender n host (Master marks) sender apart (sized, itself) =
    (length-set marks sender true ∙ sized, get_or-set_other marks sender host true false (λ same. apart (sym same)) ∙ itself)
