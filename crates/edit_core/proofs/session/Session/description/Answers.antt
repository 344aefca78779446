use Rattle.std.proofs.Common.{Ok, ap, sym, ◌∙◌}
use Rattle.desc_core.specs.Description.{described_by_table}
use Rattle.edit_core.proofs.SessionLemmas.{seen}
use Rattle.edit_core.proofs.session.Session.description.Goals as goal
use Rattle.net_core.specs.Network.{Network}

pub returns : goal.returns
returns c =
    ap described_by_table (sym (seen c.args.self.now c.self.inside.table c.self.view_is)) ∙ c.self.invariant
    ∙ ap (λ (d : Network). Ok d) (sym c.description.ensures)
