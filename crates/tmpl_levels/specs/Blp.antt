-- The Bell-LaPadula template with trusted hosts: information flows upward, or to a trusted host. After the entry
-- Network_Security_Policy_Verification of the Archive of Formal Proofs.
use Rattle.std.specs.Prelude.{◌≤◌, ◌⊎◌, false, IsTrue, codes}
use Rattle.inv_law.specs.Template.{AnyAttribute, Template, edge_template}
use Rattle.inv_law.specs.declared.strategy.Strategy.TheVariants.{Information}
use Rattle.tmpl_levels.specs.declared.blp.Clearance.{Clearance}

-- A host of level 0 that is not trusted.
abbrev pub unclassified : Clearance
unclassified = record { level = 0; trusted = false }

-- A flow passes if the receiver is trusted, or its level is at least the sender's.
abbrev pub BlpPasses : Clearance → Clearance → Type 0
BlpPasses sender receiver = IsTrue receiver.trusted ⊎ (sender.level ≤ receiver.level)

-- The template `blp`.
abbrev pub blp : Template
blp = edge_template (codes "blp") Information AnyAttribute unclassified BlpPasses
