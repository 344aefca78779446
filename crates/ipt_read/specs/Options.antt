-- The options of a rule line, as a table, and the partial rule that they yield (iptables(8), iptables-extensions(8)).
use Rattle.std.specs.Prelude.{ℕ, Bool, true, false, ◌&&◌, List, [], ◌∷◌, Option, Some, None, is_some, is_none, codes, bytes_eq}
use Rattle.std.specs.Map.{lookup}
use Rattle.std.specs.Option.{option_map_or}
use Rattle.ipt_rules.specs.declared.rule.Rule.{Rule}
use Rattle.ipt_rules.specs.declared.rule.Target.{Target}
use Rattle.ipt_rules.specs.declared.rule.Target.TheVariants.{Accept, Drop, Reject, Return, Count}
use Rattle.ipt_read.specs.declared.fault.IptWhy.{IptWhy}
use Rattle.ipt_read.specs.declared.fault.IptWhy.TheVariants.{UnknownOption, BadValue, UnknownTarget}

-- 1. The partial rule.

-- A partial rule: the rule so far without its target, the target, and the modules that were loaded; `ports` is set if the module of the
-- protocol was loaded.
pub record PartialRule : Type 0 where
  pub rule : Rule
  pub target : Option Target
  pub ports : Bool
  pub conntrack : Bool
  pub states : Bool
  pub comments : Bool

-- A rule without matches and without a target.
abbrev pub empty_rule : PartialRule
empty_rule = record {
  rule = record { src = None; dst = None; proto = None; sport = None; dport = None; state = None; target = Count };
  target = None;
  ports = false;
  conntrack = false;
  states = false;
  comments = false;
}

-- 2. The options.

-- A row of the table of options: where the option is allowed; for a match, which is allowed once and may be negated, whether a rule has
-- this match; and the reason to reject a value.
pub record Row : Type 0 where
  pub stands : PartialRule → Bool
  pub part : Option (Rule → Bool)
  pub refusal : IptWhy

-- The partial rule has no target yet.
abbrev pub in_front : PartialRule → Bool
in_front given = is_none given.target

-- The target is REJECT.
abbrev pub rejects : Option Target → Bool
rejects (Some Reject) = true
rejects _ = false

-- The target is LOG, which only counts packets.
abbrev pub logs : Option Target → Bool
logs (Some Count) = true
logs _ = false

-- A match is allowed before the target and after its module, and an option of a target after that target.
abbrev pub options : List (List ℕ × Row)
options =
    (codes "-s", record { stands = in_front; part = Some (λ rule. is_some rule.src); refusal = BadValue }) ∷
    (codes "-d", record { stands = in_front; part = Some (λ rule. is_some rule.dst); refusal = BadValue }) ∷
    (codes "-p", record { stands = in_front; part = Some (λ rule. is_some rule.proto); refusal = BadValue }) ∷
    (codes "--sport", record { stands = λ given. in_front given && given.ports; part = Some (λ rule. is_some rule.sport); refusal = BadValue }) ∷
    (codes "--dport", record { stands = λ given. in_front given && given.ports; part = Some (λ rule. is_some rule.dport); refusal = BadValue }) ∷
    (codes "--ctstate", record { stands = λ given. in_front given && given.conntrack; part = Some (λ rule. is_some rule.state); refusal = BadValue }) ∷
    (codes "--state", record { stands = λ given. in_front given && given.states; part = Some (λ rule. is_some rule.state); refusal = BadValue }) ∷
    (codes "--comment", record { stands = λ given. in_front given && given.comments; part = None; refusal = BadValue }) ∷
    (codes "-m", record { stands = in_front; part = None; refusal = UnknownOption }) ∷
    (codes "-j", record { stands = in_front; part = None; refusal = UnknownTarget }) ∷
    (codes "--reject-with", record { stands = λ given. rejects given.target; part = None; refusal = BadValue }) ∷
    (codes "--log-prefix", record { stands = λ given. logs given.target; part = None; refusal = BadValue }) ∷
    (codes "--log-level", record { stands = λ given. logs given.target; part = None; refusal = BadValue }) ∷ []

-- The row of an option, by its name.
abbrev pub row_of : List ℕ → Option Row
row_of name = lookup (bytes_eq name) options

-- The option is repeated or must not be negated: the rule already has this match, or `!` precedes an option that is no
-- match.
abbrev pub is_repeated_or_negated : PartialRule → Bool → Row → Bool
is_repeated_or_negated given negated row = option_map_or (λ has_part. has_part given.rule) row.part negated

-- The target with this name, except user chains.
abbrev pub named_target : List ℕ → Option Target
named_target word =
    lookup (bytes_eq word) ((codes "ACCEPT", Accept) ∷ (codes "DROP", Drop) ∷ (codes "REJECT", Reject) ∷ (codes "RETURN", Return) ∷ (codes "LOG", Count) ∷ [])
