use Rattle.std.proofs.Common.{inl, inr, ap, not, refl, ◌∙◌}
use Rattle.pass_core.proofs.PairSurveyLaws.{none_of, none_there, start_to, survey_is, there_by}
use Rattle.pass_core.proofs.pair_survey.survey_pair.Goals.{else-is_none-via-then-is_none+else-is_none-2, else-is_none-via-else-is_none}
use Rattle.pass_core.proofs.pair_survey.survey_pair.Goals as goal

pub returns-clause-survey : goal.returns-clause-survey
returns-clause-survey c = λ chains from to are one.
    survey_is chains from to c.args.diagrams.now c.args.sets are one c.packets_from-whole.result c.up_to-part.result c.up_to.result c.args.first
    (record {
      first = c.args.first;
      last = c.last_alike.result;
      passes = c.some_packet-passing.result.packet;
      stays = c.some_packet-staying.result.packet;
    })
    c.some_packet-passing.result c.some_packet-staying.result c.packets_from-whole.ensures.every c.packets_from-whole.ensures.packets c.packets_from-whole.ensures.proto
    c.packets_from-whole.ensures.port c.some_packet-passing.ensures c.up_to-part.ensures.least c.up_to-part.ensures.greatest c.some_packet-staying.ensures
    c.up_to.ensures.least c.up_to.ensures.greatest refl refl refl
    (elim c.else-is_none.branch [
      | else-is_none-via-then-is_none+else-is_none-2 w ↦ inr (there_by c.some_packet-staying.result.packet (w.is_none-then-is_none.ensures ∙ ap not w.if-is_none-2.false))
      | else-is_none-via-else-is_none w ↦ inl (there_by c.some_packet-passing.result.packet (c.is_none.ensures ∙ ap not w.if-is_none.false))
    ])
    c.last_alike.ensures.low c.last_alike.ensures.inside

pub returns-clause-last : goal.returns-clause-last
returns-clause-last c =
    start_to c.packets_from-whole.result c.up_to-part.result c.up_to.result c.args.first c.last_alike.result c.packets_from-whole.ensures.proto
    c.packets_from-whole.ensures.port c.up_to-part.ensures.least c.up_to.ensures.least c.last_alike.ensures.low

pub returns-then-is_none-2-clause-none : goal.returns-then-is_none-2-clause-none
returns-then-is_none-2-clause-none c =
    none_there c.args.diagrams.now c.args.sets c.packets_from-whole.result c.up_to-part.result c.args.first c.some_packet-passing.result
    c.some_packet-staying.result c.packets_from-whole.ensures.every c.packets_from-whole.ensures.is_box c.packets_from-whole.ensures.proto
    c.packets_from-whole.ensures.port c.some_packet-passing.ensures c.up_to-part.ensures.least c.up_to-part.ensures.greatest c.some_packet-staying.ensures
    (none_of c.some_packet-passing.result.packet (c.is_none.ensures ∙ ap not c.if-is_none.true))
    (none_of c.some_packet-staying.result.packet (c.is_none-then-is_none.ensures ∙ ap not c.if-is_none-2.true)) c.packets_from-whole.ensures.packets
