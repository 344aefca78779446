use Rattle.std.proofs.Common.{refl}
use Rattle.std.proofs.Common.{◌∙◌}
use Rattle.header_space.specs.declared.packet_box.PacketBox.{PacketBox}
use Rattle.pass_core.proofs.SurveyLemmas.{in_part}
use Rattle.pass_core.proofs.survey.ask.Goals as goal

pub returns-clause-alike : goal.returns-clause-alike
returns-clause-alike g c = λ q f inside fellows is from to.
    let old = c.args.within.now in
    let part = c.ask-passes.new.within in
    let new : PacketBox = record {
      least = old.least;
      greatest = record { src = part.greatest.src; dst = part.greatest.dst; proto = old.greatest.proto; sport = part.greatest.sport; dport = old.greatest.dport };
    } in
    let least = c.ask-passes.ensures.part.least ∙ c.raised-part.ensures.least in
    let start = rw (← least) at from in
    c.ask-passes.ensures.alike f
    (in_part old c.raised-part.result part new q f c.raised-part.ensures c.ask-passes.ensures.part refl refl refl refl inside fellows
    (c.last_alike.ensures.inside f is start to))
