-- The models of the code's replies. No promise of `run` depends on it.
use Rattle.std.specs.Prelude.{ℕ, List, Result, Ok, Err}
use Rattle.std.specs.List.{concat}
use Rattle.std.specs.Result.{result_map_both}
use Rattle.std.specs.Global.{Global}
use Rattle.std.specs.declared.vec.Vec.{Vec}
use Rattle.rules_space.specs.Rules.{AnyRules, Chains, Entries}
use Rattle.desc_core.specs.declared.fault.DescFault.{DescFault}
use Rattle.desc_core.specs.declared.fault.DescFault.TheVariants as desc
use Rattle.desc_form.specs.Refusals.{name}
use Rattle.ipt_rules.specs.Text.{text_lines as chains_lines}
use Rattle.ofp_rules.specs.Text.{text_lines as table_lines}
use Rattle.report_core.specs.RefusalLine.{refusal_text}
use Rattle.run_core.specs.Reply.{Reply, cannot_read, error, no_memory}
use Rattle.run_core.specs.TextFault.{fault_line}
use Rattle.run_core.specs.declared.answer.Answer.{Answer}
use Rattle.run_core.specs.declared.dialect.Rules.{Rules as CodeRules}
use Rattle.run_core.specs.declared.dialect.Rules.TheVariants as rules
use Rattle.run_core.specs.declared.status.Status.{Status}
use Rattle.run_core.specs.declared.status.Status.TheVariants.{BadDescription}
use Rattle.run_core.specs.declared.status.Stream.{Stream}
use Rattle.run_core.specs.declared.text.Text.{Text}
use Rattle.run_core.specs.declared.text.Text.TheVariants as text

-- Parsed rules, in the form of an audit.
abbrev pub rules_view : CodeRules → AnyRules
rules_view (rules.Chains chains) = Chains chains
rules_view (rules.Table table) = Entries table

-- The lines of the text of rules.
abbrev pub rules_lines : CodeRules → List (List ℕ)
rules_lines (rules.Chains chains) = chains_lines chains
rules_lines (rules.Table table) = table_lines table

-- The bytes of a text.
abbrev pub text_view : Text → List ℕ
text_view (text.Fixed bytes) = bytes.now
text_view (text.CannotRead file) = (cannot_read file.now).text
text_view (text.Refusal why) = refusal_text why
text_view (text.Fault of line reason) = fault_line of.now line reason.now
text_view (text.RefusedLine of line why) = fault_line of.now line (name why)
text_view (text.Report report) = report
text_view (text.Bytes bytes) = bytes.items
text_view (text.Rules rules) = concat (rules_lines rules)

abbrev pub reply_on : Status → Stream → (text : List ℕ) → Reply
reply_on ended stream text = record { status = ended; stream = stream; text = text }

abbrev pub reply_view : Answer → Reply
reply_view answer = reply_on answer.status answer.stream (text_view answer.text)

-- The reply to a description that the parser rejects.
abbrev pub description_reply : DescFault → Reply
description_reply (desc.Refused why) = error BadDescription (refusal_text why)
description_reply desc.Memory = no_memory

-- The reply of a result, whether or not it ended the run early.
abbrev pub reply_in : Result Answer Answer → Reply
reply_in (Ok given) = reply_view given
reply_in (Err given) = reply_view given

-- The result of reading a file.
abbrev pub outcome_view : {A : Type 0} → Result A Answer → Result A Reply
outcome_view outcome = result_map_both (λ x. x) reply_view outcome

-- The result of reading a file that is parsed to a vector.
abbrev pub items_view : {A : Type 0} → Result (Vec A Global) Answer → Result (List A) Reply
items_view outcome = result_map_both (λ xs. xs.items) reply_view outcome

-- The result of reading a file of rules, in the form of an audit.
abbrev pub rules_outcome : Result CodeRules Answer → Result AnyRules Reply
rules_outcome outcome = result_map_both rules_view reply_view outcome
