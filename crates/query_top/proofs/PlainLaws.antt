-- The laws of the format of rules that other programs read in the same way.
use Rattle.std.proofs.Common.{◌≡◌, ◌<◌, inl, inr, ℕ, List, length, codes, refl}
use Rattle.ipt_plain.specs.Plain.{HasPlainFault, name}
use Rattle.ipt_plain.proofs.PlainLaws.{one_plain_fault, not_plain_with_fault}
use Rattle.run_core.specs.Dialects.{rule_dialect_of}
use Rattle.run_core.specs.FileFormats.{IsRefused}
use Rattle.run_core.specs.Reply.{error}
use Rattle.run_core.specs.TextFault.{fault_line}
use Rattle.run_core.specs.declared.dialect.Dialect.{Dialect}
use Rattle.run_core.specs.declared.dialect.Dialect.TheVariants.{Iptables, Nft, OpenFlow}
use Rattle.run_core.specs.declared.status.Status.{Status}
use Rattle.run_core.specs.declared.status.Status.TheVariants.{BadText}
use Rattle.run_core.proofs.CommandPlanLaws.{RefusesOnceOr}
use Rattle.run_core.proofs.DialectLaws.{exact_or_not, laws_of}
use Rattle.run_core.proofs.FormatLaws.{IsLawfulFormat}
use Rattle.run_core.proofs.TextFaultLaws.{same_line}
use Rattle.query_top.specs.PlainRules.{IsOtherwise, IsPlain, plain_rules}

-- A text that other programs read in the same way has no line that they may read otherwise, and another one a unique first such line.
plain_or_otherwise : (dialect : Dialect) (bytes line : List ℕ) → IsPlain dialect bytes → IsOtherwise dialect bytes line → ⊥
plain_or_otherwise Iptables bytes line plain otherwise = not_plain_with_fault bytes otherwise.number otherwise.why plain otherwise.fault
plain_or_otherwise OpenFlow bytes line plain otherwise = otherwise
plain_or_otherwise Nft bytes line plain otherwise = otherwise

otherwise_once : (dialect : Dialect) (bytes a b : List ℕ) → IsOtherwise dialect bytes a → IsOtherwise dialect bytes b → a ≡ b
otherwise_once Iptables bytes a b p q = same_line (codes "rules") name HasPlainFault bytes (one_plain_fault bytes) a b p q
otherwise_once OpenFlow bytes a b p q = absurd p
otherwise_once Nft bytes a b p q = absurd p

reads_or_refuses : (dialect : Dialect) (bytes line : List ℕ) (rules : (rule_dialect_of dialect).Rules) → (plain_rules dialect).Reads bytes rules → (plain_rules dialect).Refuses bytes line → ⊥
reads_or_refuses dialect bytes line rules p (inl q) = (laws_of dialect).reads_or_refuses bytes line rules p.0 q
reads_or_refuses dialect bytes line rules p (inr q) = plain_or_otherwise dialect bytes line p.1 q.2

refuses_once : (dialect : Dialect) → (rule_dialect_of dialect).IsExact → (bytes a b : List ℕ) → (plain_rules dialect).Refuses bytes a → (plain_rules dialect).Refuses bytes b → a ≡ b
refuses_once dialect exact bytes a b (inl p) (inl q) = (laws_of dialect).refuses_once exact bytes a b p q
refuses_once dialect exact bytes a b (inl p) (inr q) = absurd ((laws_of dialect).reads_or_refuses bytes a q.0 q.1 p)
refuses_once dialect exact bytes a b (inr p) (inl q) = absurd ((laws_of dialect).reads_or_refuses bytes b p.0 p.1 q)
refuses_once dialect exact bytes a b (inr p) (inr q) = otherwise_once dialect bytes a b p.2 q.2

pub plain_laws : (dialect : Dialect) → IsLawfulFormat (plain_rules dialect)
plain_laws dialect = record {
  reads_once = λ bytes a b p q. (laws_of dialect).one_reading bytes a b p.0 q.0;
  reads_or_refuses = reads_or_refuses dialect;
  refused_as = inr refl;
}

-- One line rejects the rules in an exact dialect.
pub plain_once : (Open : Status → Type 0) (dialect : Dialect) → (((rule_dialect_of dialect).IsExact → ⊥) → Open BadText) → RefusesOnceOr Open (plain_rules dialect)
plain_once Open dialect opens = elim (exact_or_not dialect) [ inl exact ↦ inl (refuses_once dialect exact) | inr other ↦ inr (opens other) ]

-- Bytes beyond the limit.
pub long_plain_rules : (dialect : Dialect) (bytes : List ℕ) → (plain_rules dialect).most < length bytes
    → IsRefused (plain_rules dialect) bytes (error BadText (fault_line (codes "rules") 0 (codes "TooLong")))
long_plain_rules dialect bytes long = record { line = _; refuses = inl ((laws_of dialect).too_long bytes long); replied = refl }
