use Rattle.std.proofs.Common.{◌∙◌, ap, sym}
use Rattle.ipt_rules.specs.inner.Build.{refusal_of, at_once, loops, no_memory}
use Rattle.ipt_rules.specs.Loops.{IsFirstOnCycle}
use Rattle.ipt_rules.proofs.ruleset.Ruleset.build.Goals as goal

pub returns-in-Some-clause-refused : goal.returns-in-Some-clause-refused
returns-in-Some-clause-refused c =
    at_once (sym (c.in-Some.ensures ∙ ap refusal_of (c.deref.ensures.value ∙ c.chains.view_is)))

pub returns-in_default-first_loop-clause-refused : goal.returns-in_default-first_loop-clause-refused
returns-in_default-first_loop-clause-refused c = no_memory

pub returns-in-Some-found-clause-refused : goal.returns-in-Some-found-clause-refused
returns-in-Some-found-clause-refused c =
    let found : IsFirstOnCycle c.args.chains c.in-Some-found.chain = rw c.in-Some-found.is at c.in-Ok.ensures in
    loops (sym (c.in_default.ensures ∙ ap refusal_of (c.deref.ensures.value ∙ c.chains.view_is))) found

pub returns-in-Err-clause-refused : goal.returns-in-Err-clause-refused
returns-in-Err-clause-refused c = no_memory
