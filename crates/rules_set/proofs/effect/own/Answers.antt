use Rattle.std.proofs.Common.{◌∙◌, inl, inr, ap, sym, true, [], ◌∷◌}
use Rattle.std.specs.Prelude.{◌&&◌, false}
use Rattle.std.proofs.lemmas.Result.{IfOk-weaker}
use Rattle.header_space.specs.Matching.{fits}
use Rattle.ipt_rules.specs.Matching.{matches}
use Rattle.ipt_rules.specs.Semantics.{step_of}
use Rattle.packet_set.specs.Nodes.{has}
use Rattle.rules_set.specs.inner.Effects.{IsEffect, IsEffectBy}
use Rattle.rules_set.proofs.EffectLaws.{effect_jump, turns_accepts, turns_counts, turns_drops, turns_returns, turns_same}
use Rattle.rules_set.proofs.effect.own.Goals as goal

pub returns-in-Accept-clause-effect : goal.returns-in-Accept-clause-effect
returns-in-Accept-clause-effect c = record {
  sets = record { accepted = c.in_ok-matched.ensures.set.there; dropped = c.none-none.ensures.dropped.there; returned = c.none-none.ensures.returned.there };
  turns = λ p inside.
      let fits_it = matches p c.args.traversal.now.state in
      turns_same fits_it c.args.traversal.now.rules.now (c.args.rule.now ∷ []) (c.in_ok-matched.ensures.set.exact p) (c.none-none.ensures.dropped.exact p)
      (c.none-none.ensures.returned.exact p)
      (turns_accepts fits_it c.args.traversal.now.rules.now c.args.rule.now (fits c.args.header.now p) (c.requires.header p inside) (ap (step_of true) c.in-Accept.is));
}

pub returns-in-Drop-clause-effect : goal.returns-in-Drop-clause-effect
returns-in-Drop-clause-effect c = record {
  sets = record { accepted = c.none-none.ensures.accepted.there; dropped = c.in_ok-matched.ensures.set.there; returned = c.none-none.ensures.returned.there };
  turns = λ p inside.
      let fits_it = matches p c.args.traversal.now.state in
      turns_same fits_it c.args.traversal.now.rules.now (c.args.rule.now ∷ []) (c.none-none.ensures.accepted.exact p) (c.in_ok-matched.ensures.set.exact p)
      (c.none-none.ensures.returned.exact p)
      (turns_drops fits_it c.args.traversal.now.rules.now c.args.rule.now (fits c.args.header.now p) (c.requires.header p inside)
      (elim c.in-Drop.is [ inl drop ↦ ap (step_of true) drop | inr reject ↦ ap (step_of true) reject ]));
}

pub returns-in-Return-clause-effect : goal.returns-in-Return-clause-effect
returns-in-Return-clause-effect c = record {
  sets = record { accepted = c.none-none.ensures.accepted.there; dropped = c.none-none.ensures.dropped.there; returned = c.in_ok-matched.ensures.set.there };
  turns = λ p inside.
      let fits_it = matches p c.args.traversal.now.state in
      turns_same fits_it c.args.traversal.now.rules.now (c.args.rule.now ∷ []) (c.none-none.ensures.accepted.exact p) (c.none-none.ensures.dropped.exact p)
      (c.in_ok-matched.ensures.set.exact p)
      (turns_returns fits_it c.args.traversal.now.rules.now c.args.rule.now (fits c.args.header.now p) (c.requires.header p inside) (ap (step_of true) c.in-Return.is));
}

pub returns-in-Count-clause-effect : goal.returns-in-Count-clause-effect
returns-in-Count-clause-effect c = record {
  sets = record { accepted = c.none-none.ensures.accepted.there; dropped = c.none-none.ensures.dropped.there; returned = c.none-none.ensures.returned.there };
  turns = λ p inside.
      let fits_it = matches p c.args.traversal.now.state in
      turns_same fits_it c.args.traversal.now.rules.now (c.args.rule.now ∷ []) (c.none-none.ensures.accepted.exact p) (c.none-none.ensures.dropped.exact p)
      (c.none-none.ensures.returned.exact p)
      (turns_counts fits_it c.args.traversal.now.rules.now c.args.rule.now (fits c.args.header.now p) (c.requires.header p inside) (ap (step_of true) c.in-Count.is));
}

pub returns-in-Jump-clause-effect : goal.returns-in-Jump-clause-effect
returns-in-Jump-clause-effect c =
    let old = c.args.diagrams.now in
    let mid = c.matching.new.self in
    let new = c.jump.new.diagrams in
    let chains = c.args.traversal.now.rules.now in
    let state = c.args.traversal.now.state in
    let b = c.args.traversal.now.within in
    let inner = c.unwrap.result in
    let matched = c.in_ok-matched.matched in
    IfOk-weaker c.jump.result
    (λ e. IsEffectBy new (λ p. has mid inner.accepted p && has mid matched p) (λ p. has mid inner.dropped p && has mid matched p) (λ p. false) e)
    (λ e. IsEffect new chains state b (c.args.rule.now ∷ []) e)
    (λ e by. effect_jump old mid new chains state b c.args.rule.now c.in-Jump.chain matched inner e
    (λ p inside. c.requires.header p inside ∙ sym (c.in_ok-matched.ensures.set.exact p)) c.in-Jump.is c.in_ok-matched.ensures.keeps
    (c.requires.known c.in-Jump.chain inner (sym c.effect_at.ensures ∙ c.unwrap.ensures)) by)
    c.jump.ensures.effect
