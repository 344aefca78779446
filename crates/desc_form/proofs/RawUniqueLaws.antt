-- The raw description of a table is unique: it is the one that is parsed.
use Rattle.std.proofs.Common.{◌≡◌, ℕ, Bool, true, false, List, [], ◌∷◌, Option, Some, None, ap, ◌∙◌, refl, subst, sym}
use Rattle.std.specs.List.{AllZip}
use Rattle.std.specs.Prelude.{codes, IsSomeAnd, MatchOption, unwrap_or}
use Rattle.std.specs.Str.{bytes_eq}
use Rattle.toml.specs.Data.{Data, string, integer, boolean, array, table, Items, Members, as_str, get_member}
use Rattle.desc_form.specs.RawDescription.{RawDescription, written}
use Rattle.desc_form.specs.inner.RawForm.{IsAnswers, IsArray, IsAssign, IsBoolean, IsFlow, IsHost, IsInteger, IsInvariant, IsPair, IsTable, IsTemplate, IsText, IsRawOf, Stands, StandsOr}
use Rattle.desc_form.proofs.RawDescriptionLaws.{formed_where_written, written_stands}
use Rattle.table_core.specs.Tables.{elements}

-- A relation that determines its right side.
abbrev IsSaidOnce : {D A : Type 0} → (D → A → Type 0) → Type 0
IsSaidOnce {D = D} {A = A} Is = (d : D) (x y : A) → Is d x → Is d y → x ≡ y

text_once : IsSaidOnce IsText
text_once d x y is was = let same : string x ≡ string y = sym is ∙ was in cc

integer_once : IsSaidOnce IsInteger
integer_once d x y is was = let same : integer x ≡ integer y = sym is ∙ was in cc

boolean_once : IsSaidOnce IsBoolean
boolean_once d x y is was = let same : boolean x ≡ boolean y = sym is ∙ was in cc

abbrev says_all : Data → Bool
says_all d = bytes_eq (unwrap_or (as_str d) []) (codes "all")

answers_once : IsSaidOnce IsAnswers
answers_once d true true is was = refl
answers_once d false false is was = refl
answers_once d true false is was = ap says_all (sym is ∙ was)
answers_once d false true is was = ap says_all (sym is ∙ was)

table_once : {A : Type 0} (Is : Members → A → Type 0) → IsSaidOnce Is → IsSaidOnce (IsTable Is)
table_once Is once d x y (ms, is, fits) (ns, was, suits) =
    let same : table ms ≡ table ns = sym is ∙ was in
    let equal : ms ≡ ns = cc in
    once ns x y (subst (λ (m : Members). Is m x) equal fits) suits

each_once : {A : Type 0} (Is : Data → A → Type 0) → IsSaidOnce Is → (ds : List Data) (xs ys : List A) → AllZip Is ds xs → AllZip Is ds ys
    → xs ≡ ys
each_once Is once [] [] [] here there = refl
each_once Is once [] [] (y ∷ ys) here there = absurd there
each_once Is once [] (x ∷ xs) ys here there = absurd here
each_once Is once (d ∷ ds) [] ys here there = absurd here
each_once Is once (d ∷ ds) (x ∷ xs) [] here there = absurd there
each_once Is once (d ∷ ds) (x ∷ xs) (y ∷ ys) (fits, here) (suits, there) =
    ap (λ z. z ∷ xs) (once d x y fits suits) ∙ ap (λ zs. y ∷ zs) (each_once Is once ds xs ys here there)

array_once : {A : Type 0} (Is : Data → A → Type 0) → IsSaidOnce Is → IsSaidOnce (IsArray Is)
array_once Is once d xs ys (ds, is, here) (es, was, there) =
    let same : array ds ≡ array es = sym is ∙ was in
    let equal : ds ≡ es = cc in
    each_once Is once (elements es) xs ys (subst (λ (vs : Items). AllZip Is (elements vs) xs) equal here) there

flow_once : IsSaidOnce IsFlow
flow_once d f g is was =
    let same = array_once IsText text_once d (f.from ∷ f.to ∷ f.services) (g.from ∷ g.to ∷ g.services) is was in
    let from : f.from ≡ g.from = cc in
    let to : f.to ≡ g.to = cc in
    let services : f.services ≡ g.services = cc in
    λ i. record { from = from i; to = to i; services = services i }

pair_once : IsSaidOnce IsPair
pair_once d p q is was =
    let same = array_once IsText text_once d (p.sender ∷ p.receiver ∷ []) (q.sender ∷ q.receiver ∷ []) is was in
    let sender : p.sender ≡ q.sender = cc in
    let receiver : p.receiver ≡ q.receiver = cc in
    λ i. record { sender = sender i; receiver = receiver i }

-- At a key.
some_once : {A : Type 0} (Is : Data → A → Type 0) → IsSaidOnce Is → (o : Option Data) (x y : A) → IsSomeAnd o (λ d. Is d x)
    → IsSomeAnd o (λ d. Is d y) → x ≡ y
some_once Is once None x y here there = absurd here
some_once Is once (Some d) x y here there = once d x y here there

stands_once : {A : Type 0} (Is : Data → A → Type 0) → IsSaidOnce Is → (key : List ℕ) → IsSaidOnce (Stands Is key)
stands_once Is once key ms x y here there = some_once Is once (get_member key ms) x y here there

default_once : {A : Type 0} (Is : Data → A → Type 0) → IsSaidOnce Is → (o : Option Data) (default x y : A)
    → MatchOption o (x ≡ default) (λ d. Is d x) → MatchOption o (y ≡ default) (λ d. Is d y) → x ≡ y
default_once Is once None default x y here there = here ∙ sym there
default_once Is once (Some d) default x y here there = once d x y here there

stands_or_once : {A : Type 0} (default : A) (Is : Data → A → Type 0) → IsSaidOnce Is → (key : List ℕ) → IsSaidOnce (StandsOr default Is key)
stands_or_once default Is once key ms x y here there = default_once Is once (get_member key ms) default x y here there

-- Table by table.
host_once : IsSaidOnce IsHost
host_once ms g h is was =
    let name = stands_once IsText text_once (codes "name") ms g.name h.name is.name was.name in
    let at = stands_or_once [] (IsArray IsText) (array_once IsText text_once) (codes "at") ms g.at h.at is.at was.at in
    let rest = stands_or_once false IsBoolean boolean_once (codes "rest") ms g.rest h.rest is.rest was.rest in
    λ i. record { name = name i; at = at i; rest = rest i }

assign_once : IsSaidOnce IsAssign
assign_once ms a b is was =
    let host = stands_once IsText text_once (codes "host") ms a.host b.host is.host was.host in
    let same = is.table ∙ sym was.table in
    λ i. record { host = host i; table = same i }

invariant_once : IsSaidOnce IsInvariant
invariant_once ms i j is was =
    let template = stands_once IsText text_once (codes "template") ms i.template j.template is.template was.template in
    let assigns =
    stands_or_once [] (IsArray (IsTable IsAssign)) (array_once (IsTable IsAssign) (table_once IsAssign assign_once))
    (codes "assign") ms i.assigns j.assigns is.assigns was.assigns in
    λ k. record { template = template k; assigns = assigns k }

template_once : IsSaidOnce IsTemplate
template_once ms t u is was =
    let name = stands_once IsText text_once (codes "name") ms t.name u.name is.name was.name in
    let strategy = stands_once IsText text_once (codes "strategy") ms t.strategy u.strategy is.strategy was.strategy in
    let kinds = stands_once (IsArray IsText) (array_once IsText text_once) (codes "kinds") ms t.kinds u.kinds is.kinds was.kinds in
    let default = stands_once IsText text_once (codes "default") ms t.default u.default is.default was.default in
    let deny = stands_once (IsArray IsPair) (array_once IsPair pair_once) (codes "deny") ms t.deny u.deny is.deny was.deny in
    λ i. record { name = name i; strategy = strategy i; kinds = kinds i; default = default i; deny = deny i }

-- There is at most one raw description.
pub written_once : (ms : Members) (v w : RawDescription) → IsRawOf ms v → IsRawOf ms w → v ≡ w
written_once ms v w is was =
    let version = stands_once IsInteger integer_once (codes "topos") ms v.version w.version is.version was.version in
    let answers = stands_or_once true IsAnswers answers_once (codes "answers") ms v.answers w.answers is.answers was.answers in
    let hosts =
    stands_once (IsArray (IsTable IsHost)) (array_once (IsTable IsHost) (table_once IsHost host_once))
    (codes "host") ms v.hosts w.hosts is.hosts was.hosts in
    let invariants =
    stands_or_once [] (IsArray (IsTable IsInvariant)) (array_once (IsTable IsInvariant) (table_once IsInvariant invariant_once))
    (codes "invariant") ms v.invariants w.invariants is.invariants was.invariants in
    let given = is.given ∙ sym was.given in
    let flows = stands_or_once [] (IsArray IsFlow) (array_once IsFlow flow_once) (codes "flow") ms v.flows w.flows is.flows was.flows in
    let templates =
    stands_or_once [] (IsArray (IsTable IsTemplate)) (array_once (IsTable IsTemplate) (table_once IsTemplate template_once))
    (codes "template") ms v.templates w.templates is.templates was.templates in
    λ i. record {
      version = version i;
      answers = answers i;
      hosts = hosts i;
      invariants = invariants i;
      given = given i;
      flows = flows i;
      templates = templates i;
    }

-- The raw description is the one that is parsed.
pub written_is : (ms : Members) (w : RawDescription) → IsRawOf ms w → w ≡ written ms
written_is ms w is = written_once ms w (written ms) is (written_stands ms (formed_where_written ms w is))
