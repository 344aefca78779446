-- The tainting template: a host propagates each label that it has and does not remove. After the entry
-- Network_Security_Policy_Verification of the Archive of Formal Proofs.
use Rattle.std.specs.Prelude.{◌≡◌, ℕ, codes}
use Rattle.std.specs.Int.{bit_at}
use Rattle.inv_law.specs.Template.{Template, edge_template}
use Rattle.inv_law.specs.declared.strategy.Strategy.TheVariants.{Information}
use Rattle.tmpl_levels.specs.declared.tainting.Labels.{Labels}

-- A set of labels is a number with one bit for each label.
abbrev pub HasLabel : ℕ → ℕ → Type 0
HasLabel labels label = bit_at labels label ≡ 1

-- A host removes only labels that it has.
abbrev pub TakesOffItsOwn : Labels → Type 0
TakesOffItsOwn host = (label : ℕ) → HasLabel host.untaints label → HasLabel host.taints label

-- A host without labels.
abbrev pub untainted : Labels
untainted = record { taints = 0; untaints = 0 }

-- A flow passes if each label that the sender has and does not remove is a label of the receiver.
abbrev pub TaintsPass : Labels → Labels → Type 0
TaintsPass sender receiver =
    (label : ℕ) → HasLabel sender.taints label → (HasLabel sender.untaints label → ⊥) → HasLabel receiver.taints label

-- The template `tainting`.
abbrev pub tainting : Template
tainting = edge_template (codes "tainting") Information TakesOffItsOwn untainted TaintsPass
