use Rattle.edge_io.proofs.Stored.{place_found, place_missing}
use Rattle.edge_io.proofs.stored_files.place_of.Goals as goal

pub returns-clause-found : goal.returns-clause-found
returns-clause-found c = place_found c.args.stored.now c.args.name.now c.position_of.result c.position_of.ensures

pub returns-clause-missing : goal.returns-clause-missing
returns-clause-missing c = place_missing c.args.stored.now c.args.name.now c.position_of.result c.position_of.ensures
