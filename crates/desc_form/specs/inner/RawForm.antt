-- The form of a description (its format, docs/FORMATS.md), table by table: its keys, the value at each key, and the corresponding field of
-- the raw description.
use Rattle.std.specs.Prelude.{◌≡◌, ◌≢◌, ℕ, ℤ, pos, Bool, true, false, if◌then◌else◌, List, [], ◌∷◌, codes, is_some, IsTrue, IsSomeAnd, MatchOption}
use Rattle.std.specs.List.{All, AllZip}
use Rattle.std.specs.Ordering.{int_eq}
use Rattle.toml.specs.Data.{Data, string, integer, boolean, array, table, Items, Members, get_member}
use Rattle.desc_form.specs.RawDescription.{RawDescription, RawAssign, RawHost, RawInvariant}
use Rattle.desc_form.specs.RawFlow.{RawFlow}
use Rattle.desc_form.specs.RawTemplate.{RawPair, RawTemplate}
use Rattle.table_core.specs.Tables.{elements, has_only}

-- Values by their type.
abbrev pub IsText : Data → List ℕ → Type 0
IsText d text = d ≡ string text

abbrev pub IsInteger : Data → ℤ → Type 0
IsInteger d number = d ≡ integer number

abbrev pub IsBoolean : Data → Bool → Type 0
IsBoolean d truth = d ≡ boolean truth

-- The words for answers.
abbrev pub IsAnswers : Data → Bool → Type 0
IsAnswers d answers = d ≡ string (if answers then codes "all" else codes "none")

-- An array whose elements correspond to those of the list.
abbrev pub IsArray : {A : Type 0} → (Data → A → Type 0) → Data → List A → Type 0
IsArray Is d xs = (ds : Items) × (d ≡ array ds) × AllZip Is (elements ds) xs

-- An array of two strings: the kinds of a sender and a receiver.
abbrev pub IsPair : Data → RawPair → Type 0
IsPair d pair = IsArray IsText d (pair.sender ∷ pair.receiver ∷ [])

-- An array of strings: two names, followed by services.
abbrev pub IsFlow : Data → RawFlow → Type 0
IsFlow d flow = IsArray IsText d (flow.from ∷ flow.to ∷ flow.services)

abbrev pub IsTable : {A : Type 0} → (Members → A → Type 0) → Data → A → Type 0
IsTable Is d x = (ms : Members) × (d ≡ table ms) × Is ms x

-- The key has a value that corresponds to x.
abbrev pub Stands : {A : Type 0} → (Data → A → Type 0) → List ℕ → Members → A → Type 0
Stands Is key ms x = IsSomeAnd (get_member key ms) (λ d. Is d x)

-- The key has a value that corresponds to x, or the key is absent and x is the default.
abbrev pub StandsOr : {A : Type 0} → A → (Data → A → Type 0) → List ℕ → Members → A → Type 0
StandsOr default Is key ms x = MatchOption (get_member key ms) (x ≡ default) (λ d. Is d x)

-- An element of `host`.
pub record IsHost (ms : Members) (h : RawHost) : Type 0 where
  pub only : IsTrue (has_only (codes "name" ∷ codes "at" ∷ codes "rest" ∷ []) ms)
  pub name : Stands IsText (codes "name") ms h.name
  pub at : StandsOr [] (IsArray IsText) (codes "at") ms h.at
  pub rest : StandsOr false IsBoolean (codes "rest") ms h.rest

-- An element of `assign`. Its further keys depend on its template.
pub record IsAssign (ms : Members) (a : RawAssign) : Type 0 where
  pub host : Stands IsText (codes "host") ms a.host
  pub table : a.table ≡ ms

-- An element of `invariant`.
pub record IsInvariant (ms : Members) (i : RawInvariant) : Type 0 where
  pub only : IsTrue (has_only (codes "template" ∷ codes "assign" ∷ []) ms)
  pub template : Stands IsText (codes "template") ms i.template
  pub assigns : StandsOr [] (IsArray (IsTable IsAssign)) (codes "assign") ms i.assigns

-- An element of `template`.
pub record IsTemplate (ms : Members) (t : RawTemplate) : Type 0 where
  pub only : IsTrue (has_only (codes "name" ∷ codes "strategy" ∷ codes "kinds" ∷ codes "default" ∷ codes "deny" ∷ []) ms)
  pub name : Stands IsText (codes "name") ms t.name
  pub strategy : Stands IsText (codes "strategy") ms t.strategy
  pub kinds : Stands (IsArray IsText) (codes "kinds") ms t.kinds
  pub default : Stands IsText (codes "default") ms t.default
  pub deny : Stands (IsArray IsPair) (codes "deny") ms t.deny

-- The names of the keys of a document of a version. Only version 2 has templates.
abbrev pub template_names : Bool → List (List ℕ)
template_names second = if second then codes "template" ∷ [] else []

abbrev pub document_names : ℤ → List (List ℕ)
document_names version =
    codes "topos" ∷ codes "answers" ∷ codes "host" ∷ codes "invariant" ∷ codes "flow" ∷ template_names (int_eq version (pos 2))

-- The document. Only version 2 has templates, and flows with services.
pub record IsRawOf (ms : Members) (w : RawDescription) : Type 0 where
  pub only : IsTrue (has_only (document_names w.version) ms)
  pub version : Stands IsInteger (codes "topos") ms w.version
  pub answers : StandsOr true IsAnswers (codes "answers") ms w.answers
  pub hosts : Stands (IsArray (IsTable IsHost)) (codes "host") ms w.hosts
  pub invariants : StandsOr [] (IsArray (IsTable IsInvariant)) (codes "invariant") ms w.invariants
  pub given : w.given ≡ is_some (get_member (codes "flow") ms)
  pub flows : StandsOr [] (IsArray IsFlow) (codes "flow") ms w.flows
  pub whole : w.version ≢ pos 2 → All (λ f. f.services ≡ []) w.flows
  pub templates : StandsOr [] (IsArray (IsTable IsTemplate)) (codes "template") ms w.templates

-- The description has a valid form: it has a raw description.
abbrev pub IsFormed : Members → Type 0
IsFormed ms = (w : RawDescription) × IsRawOf ms w
