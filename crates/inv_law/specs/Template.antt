-- A template as one record: everything except the format of its attributes in a description. The meaning of an
-- invariant of the template is derived from the record and the attributes of the hosts.
use Rattle.std.specs.Prelude.{ℕ, Bool, true, false, List, length, slice_set}
use Rattle.flow_set.specs.declared.flow.Flow.{Flow}
use Rattle.inv_law.specs.Attributes.{PassesBetween}
use Rattle.inv_law.specs.Rules.{AllFlowsPass}
use Rattle.inv_law.specs.declared.strategy.Strategy.{Strategy}

-- A template: its name in descriptions and reports, its strategy, which determines the offending host, whether it is edge-wise, the type of
-- its attributes, the attributes that a host of n hosts may have, given by its number, the default attribute of a host of n hosts, and the
-- flow sets that the attributes of all hosts allow.
pub record Template : Type 1 where
  pub name : List ℕ
  pub strategy : Strategy
  pub edge_mark : Bool
  pub Attribute : Type 0
  pub MayHave : ℕ → ℕ → Attribute → Type 0
  pub default : ℕ → ℕ → Attribute
  pub Holds : List Attribute → List Flow → Type 0

-- The meaning of an invariant: the number of hosts, the strategy, whether it is edge-wise, the sets on which it holds,
-- and the same with the default at a host.
pub record Meaning : Type 1 where
  pub size : ℕ
  pub strategy : Strategy
  pub edge_mark : Bool
  pub holds_on : List Flow → Type 0
  pub holds_after_reset : ℕ → List Flow → Type 0

-- The attributes with the default at one host.
abbrev pub reset_at : (t : Template) → List t.Attribute → ℕ → List t.Attribute
reset_at t hosts host = slice_set hosts host (t.default (length hosts) host)

-- Every host may have every attribute.
abbrev pub AnyAttribute : {A : Type 0} → A → Type 0
AnyAttribute x = Unit {0}

-- The meaning of the invariant with these attributes.
abbrev pub meaning : (t : Template) → List t.Attribute → Meaning
meaning t hosts = record {
  size = length hosts;
  strategy = t.strategy;
  edge_mark = t.edge_mark;
  holds_on = t.Holds hosts;
  holds_after_reset = λ host. t.Holds (reset_at t hosts host);
}

-- The template with these parts.
abbrev pub template_of : {A : Type 0} → Bool → List ℕ → Strategy → (ℕ → ℕ → A → Type 0) → (ℕ → ℕ → A) → (List A → List Flow → Type 0) → Template
template_of {A} edge_mark name strategy MayHave default Holds = record {
  name = name;
  strategy = strategy;
  edge_mark = edge_mark;
  Attribute = A;
  MayHave = MayHave;
  default = default;
  Holds = Holds;
}

-- An edge-wise template that depends on the attributes of the two hosts, with the same attributes and one default for all hosts.
abbrev pub edge_template : {A : Type 0} → List ℕ → Strategy → (A → Type 0) → A → (A → A → Type 0) → Template
edge_template name strategy MayHave default Passes =
    template_of true name strategy (λ n host. MayHave) (λ n host. default) (λ hosts. AllFlowsPass (PassesBetween default Passes hosts))

-- A template that depends on paths, so it is not edge-wise.
abbrev pub walk_template : {A : Type 0} → List ℕ → Strategy → (ℕ → ℕ → A → Type 0) → (ℕ → ℕ → A) → (List A → List Flow → Type 0) → Template
walk_template = template_of false
