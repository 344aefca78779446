use Rattle.net_core.proofs.evaluation.reevaluate.Goals as goal

pub returns-then-stays-clause-evaluation : goal.returns-then-stays-clause-evaluation
returns-then-stays-clause-evaluation c = record {
  network = c.requires.network;
  is_policy = c.requires.stays c.if-stays.true;
  failed = c.in_ok-evaluation.ensures;
  failing = λ alone. absurd (c.requires.walks alone);
}
