use Rattle.std.proofs.Common.{map, sym}
use Rattle.std.proofs.lemmas.List.{length-map}
use Rattle.toml.specs.View.{view}
use Rattle.desc_form.proofs.FlowLaws.{services_left}
use Rattle.desc_form.proofs.flows.services_behind.Goals as goal

pub returns : goal.returns
returns c =
    let values = c.args.values.now in
    services_left (map view values) _ c.checked_sub.result (sym c.if-not-are_texts.ensures) (length-map values view) c.checked_sub.ensures
