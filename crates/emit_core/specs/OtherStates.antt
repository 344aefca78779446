-- The states of the match conntrack besides NEW and ESTABLISHED, such as INVALID, RELATED and UNTRACKED (iptables-extensions(8)). A state
-- match of ESTABLISHED alone, without `!`, matches none of them. So rules with no other state match treat a packet in such a state as a new
-- one.
use Rattle.std.specs.Prelude.{Bool, true, not, ◌&&◌, IsTrue, List}
use Rattle.std.specs.List.{list_all}
use Rattle.std.specs.Option.{option_map_or}
use Rattle.ipt_rules.specs.declared.rule.Rule.{Rule}
use Rattle.ipt_rules.specs.Chain.{Chain}

-- The rule has no state match, or that of ESTABLISHED alone, without `!`.
abbrev pub has_no_other_state : Rule → Bool
has_no_other_state rule = option_map_or (λ part. part.established && (not part.new && not part.negated)) rule.state true

-- No rule of the chains has another state match.
abbrev pub HaveNoOtherState : List Chain → Type 0
HaveNoOtherState chains = IsTrue (list_all (λ chain. list_all has_no_other_state chain.rules) chains)
