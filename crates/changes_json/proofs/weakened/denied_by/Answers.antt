use Rattle.changes_json.proofs.PlaceLaws.{finding_at, place_within}
use Rattle.changes_json.proofs.weakened.denied_by.Goals as goal

pub bounds-denials-place : goal.bounds-denials-place
bounds-denials-place c =
    place_within c.args.hosts c.args.flow c.args.denials.now c.requires.every c.requires.flow c.place_of-place.result c.place_of-place.ensures

pub returns : goal.returns
returns c =
    finding_at c.args.hosts c.args.flow c.args.denials.now c.requires.every c.requires.flow c.place_of-place.result c.place_of-place.ensures
    c.index-denials-place.result c.deref.result.now c.index-denials-place.is c.deref.ensures.value
