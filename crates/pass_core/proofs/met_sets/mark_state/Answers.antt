use Rattle.std.proofs.Common.{List, sym, subst}
use Rattle.std.specs.List.{All}
use Rattle.header_space.specs.declared.packet_box.PacketBox.{PacketBox}
use Rattle.ipt_rules.specs.Chain.{Chain}
use Rattle.rules_set.specs.Meeting.{AreMet}
use Rattle.rules_set.specs.declared.met.MetSet.{MetSet}
use Rattle.pass_core.specs.inner.Meeting.{IsSoundSet}
use Rattle.pass_core.proofs.MetSetLemmas.{AreListedMarked, sets_sound, state_marked}
use Rattle.pass_core.proofs.met_sets.mark_state.Goals as goal

pub mark_sets-requires : goal.mark_sets-requires
mark_sets-requires c =
    let old = c.in_ok-diagrams.diagrams in
    let new = c.met_by.new.diagrams in
    let chains = c.args.chains.now in
    let sound = sets_sound old new chains c.args.state c.every-incoming.result c.in-Ok.found
    (subst (λ (b : PacketBox). AreMet old new chains c.args.state b c.every-incoming.result c.in-Ok.found) c.every.ensures.value c.in-Ok.ensures.met)
    c.every-incoming.ensures.exact in
    record {
      sets = subst (λ (xs : List MetSet). All (IsSoundSet c.args.met.now.chains new) xs) (sym c.deref.ensures.value)
          (subst (λ (cs : List Chain). All (IsSoundSet cs new) c.in-Ok.found.sets.items) (sym c.requires) sound);
    }

pub returns-in-Ok-clause-known : goal.returns-in-Ok-clause-known
returns-in-Ok-clause-known c = λ on p inside place met.
    let old = c.in_ok-diagrams.diagrams in
    let new = c.met_by.new.diagrams in
    let chains = c.args.chains.now in
    state_marked old new chains c.args.state c.every-incoming.result c.in-Ok.found
    (subst (λ (b : PacketBox). AreMet old new chains c.args.state b c.every-incoming.result c.in-Ok.found) c.every.ensures.value c.in-Ok.ensures.met)
    c.every-incoming.ensures.exact c.mark_sets.new.met
    (subst (λ (xs : List MetSet). AreListedMarked new xs c.mark_sets.new.met) c.deref.ensures.value c.mark_sets.ensures.marked) p inside place met
