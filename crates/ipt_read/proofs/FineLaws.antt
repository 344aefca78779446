-- Each line preserves the invariant of the parser state.
use Rattle.text_core.specs.Lines.{words}
use Rattle.std.proofs.Common.{◌≡◌, ℕ, ◌∙◌, sym, refl, subst, List, [], ◌∷◌, ◌++◌, None, length, arith, length-append, length-set}
use Rattle.std.specs.Prelude.{Ok}
use Rattle.ipt_rules.specs.Chain.{with_policy, with_rule, user_chain}
use Rattle.ipt_rules.proofs.ChainLaws.{length_with_policy, length_with_rule, rule_count_with_rule, rule_count_with_policy, length_added, rule_count_added}
use Rattle.ipt_read.specs.ParserStates.{ParserState, initial_state}
use Rattle.ipt_read.specs.inner.LineStep.{line_step}
use Rattle.ipt_read.specs.Grammar.{IsLine, table, built_in, user, rule, commit}
use Rattle.ipt_read.proofs.LineLaws.{line_of_read}
use Rattle.ipt_read.proofs.GoesLaws.{each_more, each_added, each_with_policy, each_with_rule, line_goes, not_refused}
use Rattle.ipt_read.specs.inner.Goes.{EachGoes}
use Rattle.ipt_rules.specs.inner.Build.{refusal_of}
use Rattle.ipt_read.specs.inner.State.{IsFine}
use Rattle.ipt_read.proofs.WithinLaws.{number_of_within}

pub fine_at_first : IsFine initial_state
fine_at_first = record { few_chains = omega arith; few_rules = omega arith; counted = refl; numbered = refl; goes = (tt, (tt, (tt, tt))) }

fine_behind : (n : ℕ) (s t : ParserState) (ws : List (List ℕ)) → IsLine n s ws t → IsFine s → IsFine t
fine_behind n s t ws (table stage) fine = record { few_chains = fine.few_chains; few_rules = fine.few_rules; counted = fine.counted; numbered = fine.numbered; goes = fine.goes }
fine_behind n s t ws (commit stage) fine = record { few_chains = fine.few_chains; few_rules = fine.few_rules; counted = fine.counted; numbered = fine.numbered; goes = fine.goes }
fine_behind n s t ws (built_in {c = c} p stage line number low free) fine =
    record {
      few_chains = omega (arith, length_with_policy s.chains c p, fine.few_chains);
      few_rules = fine.few_rules;
      counted = fine.counted ∙ sym (rule_count_with_policy s.chains c p);
      numbered = length-set s.declared c n ∙ fine.numbered ∙ sym (length_with_policy s.chains c p);
      goes = subst (λ (m : ℕ). EachGoes m (with_policy s.chains c p)) (sym (length_with_policy s.chains c p)) (each_with_policy (length s.chains) s.chains c p fine.goes);
    }
fine_behind n s t ws (user {name = name} stage line number legal few) fine =
    record {
      few_chains = omega (arith, length_added s.chains name);
      few_rules = fine.few_rules;
      counted = fine.counted ∙ sym (rule_count_added s.chains name);
      numbered = omega (arith, length_added s.chains name, length-append s.declared (n ∷ []), fine.numbered);
      goes = each_more (length s.chains) (length (s.chains ++ user_chain name ∷ [])) (s.chains ++ user_chain name ∷ []) (omega (arith, length_added s.chains name)) (each_added (length s.chains) s.chains name fine.goes);
    }
fine_behind n s t ws (rule {c = c} {r = r} stage line few) fine =
    record {
      few_chains = omega (arith, length_with_rule s.chains c r, fine.few_chains);
      few_rules = omega arith;
      counted = omega (arith, rule_count_with_rule s.chains c r (number_of_within s.chains line.name c line.number), fine.counted);
      numbered = fine.numbered ∙ sym (length_with_rule s.chains c r);
      goes = subst (λ (m : ℕ). EachGoes m (with_rule s.chains c r)) (sym (length_with_rule s.chains c r)) (each_with_rule (length s.chains) s.chains c r (line_goes s.chains ws c r line) fine.goes);
    }

pub fine_kept : (n : ℕ) (s t : ParserState) (l : List ℕ) → IsFine s → line_step n s l ≡ Ok t → IsFine t
fine_kept n s t l fine read = fine_behind n s t (words l) (line_of_read n s t l read) fine

-- Chains that were parsed are rejected only for a cycle or an allocation failure.
pub fine_not_refused : (s : ParserState) → IsFine s → refusal_of s.chains ≡ None
fine_not_refused s fine = not_refused s.chains fine.few_chains (omega (arith, fine.few_rules, fine.counted)) fine.goes
