-- A direct characterization of the declared templates that neither 23 nor 24 refuses: each is valid, and each denied pair has its partner
-- (the description's format, docs/FORMATS.md).
use Rattle.std.specs.Prelude.{◌≡◌, ◌≢◌, ◌⊎◌, ◌≤◌, ℕ, List, length, None, codes, IsTrue}
use Rattle.std.specs.List.{All, AllPairs, Contains}
use Rattle.attr_core.specs.Templates.{template_named}
use Rattle.desc_core.specs.TemplateConditions.{kind_limit}
use Rattle.desc_form.specs.RawTemplate.{RawPair, RawTemplate}
use Rattle.text_core.specs.Name.{is_name}

-- The word is one of the kinds.
abbrev pub IsKind : RawTemplate → List ℕ → Type 0
IsKind t word = Contains t.kinds word

-- The name is legal and none of the ten, the strategy is one of the two, there are 1 to 64 kinds with distinct legal names, and the default
-- and the words of every denied pair are kinds.
pub record IsTemplate (t : RawTemplate) : Type 0 where
  pub named : IsTrue (is_name t.name)
  pub own : template_named t.name ≡ None
  pub strategy : (t.strategy ≡ codes "access") ⊎ (t.strategy ≡ codes "information")
  pub some_kinds : 1 ≤ length t.kinds
  pub few_kinds : length t.kinds ≤ kind_limit
  pub kind_names : All (λ kind. IsTrue (is_name kind)) t.kinds
  pub different_kinds : AllPairs (λ kind other. kind ≢ other) t.kinds
  pub default : IsKind t t.default
  pub pairs : All (λ p. IsKind t p.sender × IsKind t p.receiver) t.deny

-- The template denies the flows from hosts of one kind to hosts of the other.
abbrev pub Denies : RawTemplate → List ℕ → List ℕ → Type 0
Denies t sender receiver = Contains t.deny (record { sender = sender; receiver = receiver })

-- The pair is also denied with the default at the offending host: the sender for access control, otherwise the
-- receiver.
pub record HasPartner (t : RawTemplate) (p : RawPair) : Type 0 where
  pub at_sender : t.strategy ≡ codes "access" → Denies t t.default p.receiver
  pub at_receiver : t.strategy ≢ codes "access" → Denies t p.sender t.default
