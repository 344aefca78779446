-- Rules that other programs read in the same way: `iptables-restore`, for chains.
use Rattle.std.specs.Prelude.{◌⊎◌, ℕ, List, codes}
use Rattle.ipt_plain.specs.Plain.{IsPlain as IsPlainChains, HasPlainFault, name}
use Rattle.run_core.specs.Dialects.{rule_dialect_of}
use Rattle.run_core.specs.FileFormats.{FileFormat, text}
use Rattle.run_core.specs.TextFault.{ReportsFault}
use Rattle.run_core.specs.declared.dialect.Dialect.{Dialect}
use Rattle.run_core.specs.declared.dialect.Dialect.TheVariants.{Iptables, Nft, OpenFlow}

-- Other programs read the text in the same way.
abbrev pub IsPlain : Dialect → (bytes : List ℕ) → Type 0
IsPlain Iptables bytes = IsPlainChains bytes
IsPlain OpenFlow bytes = Unit {0}
IsPlain Nft bytes = Unit {0}

-- The line reports the first line of the text that they may read otherwise.
abbrev pub IsOtherwise : Dialect → (bytes line : List ℕ) → Type 0
IsOtherwise Iptables bytes line = ReportsFault (codes "rules") name HasPlainFault bytes line
IsOtherwise OpenFlow bytes line = ⊥
IsOtherwise Nft bytes line = ⊥

-- Rules of a dialect, from a text that other programs read in the same way.
abbrev pub plain_rules : Dialect → FileFormat
plain_rules dialect =
    text (rule_dialect_of dialect).Rules (rule_dialect_of dialect).byte_limit (λ bytes rules. (rule_dialect_of dialect).IsReading bytes rules × IsPlain dialect bytes)
    (λ bytes line. (rule_dialect_of dialect).Refuses bytes line ⊎ ((rules : (rule_dialect_of dialect).Rules) × (rule_dialect_of dialect).IsReading bytes rules × IsOtherwise dialect bytes line))
