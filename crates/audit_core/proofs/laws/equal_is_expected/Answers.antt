use Rattle.audit_core.proofs.ExpectedLaws.{equal_where_expected, expected_where_agree}
use Rattle.rules_space.specs.Rules.{filter_of}
use Rattle.pkt_core.proofs.AnyTrackingLaws.{forwards_only_expected}
use Rattle.audit_core.proofs.laws.equal_is_expected.Goals as goal

pub returns : goal.returns
returns c = record { equal = equal_where_expected; expected = λ sides gives agree. expected_where_agree sides gives agree; safe = λ sides equivalent. forwards_only_expected (filter_of sides.rules) sides.policy equivalent }
