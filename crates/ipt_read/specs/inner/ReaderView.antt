-- The models of the parser's values, in terms of the grammar. Callers do not see them.
use Rattle.std.specs.Prelude.{◌≡◌, Result, Ok, Err, MatchResult}
use Rattle.ipt_read.specs.declared.fault.IptWhy.{IptWhy}
use Rattle.ipt_read.specs.declared.option.PartialRule.{PartialRule as Held}
use Rattle.ipt_read.specs.declared.option.Place.{Place}
use Rattle.ipt_read.specs.declared.stage.Stage.{Stage as HeldStage}
use Rattle.ipt_read.specs.declared.stage.Stage.TheVariants as held
use Rattle.ipt_read.specs.Options.{PartialRule}
use Rattle.ipt_read.specs.ParserStates.{Stage, Front, Table, After}

abbrev pub given_of : Held → PartialRule
given_of g = record {
  rule = g.rule;
  target = g.target;
  ports = g.ports;
  conntrack = g.conntrack;
  states = g.states;
  comments = g.comments;
}

-- The partial rule, and the position of the next token.
abbrev pub next_of : Held × Place → PartialRule × Place
next_of next = (given_of next.0, next.1)

abbrev pub stage_of : HeldStage → Stage
stage_of held.Front = Front
stage_of held.Table = Table
stage_of held.After = After

-- A result of the parser, compared with the result in terms of the grammar.
abbrev pub AnswersAs : {A B : Type 0} → (A → B) → Result B IptWhy → Result A IptWhy → Type 0
AnswersAs view said r = MatchResult r (λ x. said ≡ Ok (view x)) (λ why. said ≡ Err why)
