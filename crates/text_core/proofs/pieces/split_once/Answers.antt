use Rattle.std.proofs.Common.{◌∙◌, sym}
use Rattle.text_core.proofs.PiecesLaws.{lacks_all, split_once_front, split_once_joined, split_once_none}
use Rattle.text_core.proofs.PiecesLemmas.{split_somewhere, nowhere_lacks}
use Rattle.text_core.proofs.pieces.split_once.Goals as goal

pub returns-in-Some-clause-value : goal.returns-in-Some-clause-value
returns-in-Some-clause-value c = split_somewhere c.args.mark c.in-Some.at c.args.text.now (sym c.place_of.ensures ∙ c.in-Some.is)

pub returns-in-Some-clause-joined : goal.returns-in-Some-clause-joined
returns-in-Some-clause-joined c =
    split_once_joined c.args.mark c.args.text.now _ _ (sym (split_somewhere c.args.mark c.in-Some.at c.args.text.now (sym c.place_of.ensures ∙ c.in-Some.is)))

pub returns-in-Some-clause-first : goal.returns-in-Some-clause-first
returns-in-Some-clause-first c =
    lacks_all c.args.mark _ (split_once_front c.args.mark c.args.text.now _ _ (sym (split_somewhere c.args.mark c.in-Some.at c.args.text.now (sym c.place_of.ensures ∙ c.in-Some.is))))

pub returns-in-None-clause-value : goal.returns-in-None-clause-value
returns-in-None-clause-value c =
    sym (split_once_none c.args.mark c.args.text.now (nowhere_lacks c.args.mark c.args.text.now (sym c.place_of.ensures ∙ c.in-None.is)))

pub returns-in-None-clause-nowhere : goal.returns-in-None-clause-nowhere
returns-in-None-clause-nowhere c =
    lacks_all c.args.mark c.args.text.now (nowhere_lacks c.args.mark c.args.text.now (sym c.place_of.ensures ∙ c.in-None.is))
