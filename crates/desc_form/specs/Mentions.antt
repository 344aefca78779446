-- The uses of names in a description, place by place (the description's format, docs/FORMATS.md).
use Rattle.std.specs.Prelude.{ℕ, List, [], ◌∷◌, ◌++◌, map, flat_map}
use Rattle.desc_form.specs.declared.refusal.Place.{Place}
use Rattle.desc_form.specs.declared.refusal.Place.TheVariants.{Host, Assign, FlowAt}
use Rattle.text_core.specs.FirstMatch.{numbered, Numbered}
use Rattle.desc_form.specs.RawDescription.{RawDescription, RawInvariant}
use Rattle.desc_form.specs.RawFlow.{RawFlow}

-- A name that is used at a place; in a flow it is item 1 or 2.
pub record NameUse : Type 0 where
  pub place : Place
  pub item : ℕ
  pub name : List ℕ

-- The names in the assigns of an invariant.
abbrev pub assign_names_of : Numbered RawInvariant → List NameUse
assign_names_of i = map (λ a. record { place = Assign i.number a.number; item = 0; name = a.what.host }) (numbered i.what.assigns)

-- The two names of a flow.
abbrev pub flow_names_of : Numbered RawFlow → List NameUse
flow_names_of f =
    record { place = FlowAt f.number; item = 1; name = f.what.from } ∷ record { place = FlowAt f.number; item = 2; name = f.what.to } ∷ []

-- The names that refer to hosts: in assigns, then in flows.
unfoldable pub used_names : RawDescription → List NameUse
used_names w = flat_map assign_names_of (numbered w.invariants) ++ flat_map flow_names_of (numbered w.flows)

-- All names: those of hosts, then those that refer to hosts.
unfoldable pub all_names : RawDescription → List NameUse
all_names w = map (λ h. record { place = Host h.number; item = 0; name = h.what.name }) (numbered w.hosts) ++ used_names w
