-- The laws of a format: bytes have one parse result or are rejected, and a rejection ends the run with one of two statuses. The line that
-- rejects bytes is unique for most formats.
use Rattle.std.proofs.Common.{◌≡◌, ◌<◌, ◌⊎◌, inl, inr, ℕ, List, length, Ok, refl, ap, sym, subst, ◌∙◌}
use Rattle.desc_core.specs.Conditions.{byte_limit}
use Rattle.desc_core.specs.Description.{described}
use Rattle.desc_core.proofs.DescriptionLaws.{described-too_long}
use Rattle.desc_form.specs.Refusals.{refused}
use Rattle.desc_form.specs.declared.refusal.Place.TheVariants.{Document}
use Rattle.desc_form.specs.declared.refusal.Why.TheVariants.{TooLong}
use Rattle.net_core.specs.Network.{Network}
use Rattle.report_core.specs.RefusalLine.{refusal_text}
use Rattle.run_core.specs.FileFormats.{FileFormat, IsNoDescription, IsRefused, description, description_as, text}
use Rattle.run_core.specs.Reply.{error}
use Rattle.run_core.specs.TextFault.{ReportsFault, fault_line}
use Rattle.run_core.specs.declared.status.Status.{Status}
use Rattle.run_core.specs.declared.status.Status.TheVariants.{BadDescription, BadText}

pub record IsLawfulFormat (format : FileFormat) : Type 0 where
  pub reads_once : (bytes : List ℕ) (a b : format.Said) → format.Reads bytes a → format.Reads bytes b → a ≡ b
  pub reads_or_refuses : (bytes line : List ℕ) (said : format.Said) → format.Reads bytes said → format.Refuses bytes line → ⊥
  pub refused_as : (format.refused_as ≡ BadDescription) ⊎ (format.refused_as ≡ BadText)

-- One line rejects bytes.
abbrev pub RefusesOnce : FileFormat → Type 0
RefusesOnce format = (bytes a b : List ℕ) → format.Refuses bytes a → format.Refuses bytes b → a ≡ b

-- A property of both statuses of rejected files is a property of that of a lawful format.
pub of_refused : (P : Status → Type 0) → P BadDescription → P BadText → (format : FileFormat) → IsLawfulFormat format → P format.refused_as
of_refused P bad_description bad_text format laws = elim laws.refused_as [
  | inl is ↦ subst P (sym is) bad_description
  | inr is ↦ subst P (sym is) bad_text
]

-- ---- descriptions

pub same_refusal : (bytes l m : List ℕ) → IsNoDescription bytes l → IsNoDescription bytes m → l ≡ m
same_refusal bytes l m p q =
    let a = p.1 in
    let b = q.1 in
    let why : p.0 ≡ q.0 = cc (a, b) in
    p.2 ∙ ap refusal_text why ∙ sym q.2

pub lawful_description : (Said : Type 0) (Reads : List ℕ → Said → Type 0) → ((bytes : List ℕ) (a b : Said) → Reads bytes a → Reads bytes b → a ≡ b)
    → ((bytes line : List ℕ) (said : Said) → Reads bytes said → IsNoDescription bytes line → ⊥) → IsLawfulFormat (description_as Said Reads)
lawful_description Said Reads once never =
    record { reads_once = once; reads_or_refuses = never; refused_as = inl refl }

same_network : (bytes : List ℕ) (d e : Network) → described bytes ≡ Ok d → described bytes ≡ Ok e → d ≡ e
same_network bytes d e p q = cc (p, q)

pub description_laws : IsLawfulFormat description
description_laws = lawful_description Network (λ bytes d. described bytes ≡ Ok d) same_network (λ bytes line d p q. let why = q.1 in cc (p, why))

-- A description beyond the limit is refused.
pub long_is_refused : (Said : Type 0) (Reads : List ℕ → Said → Type 0) (bytes : List ℕ) → byte_limit < length bytes
    → IsRefused (description_as Said Reads) bytes (error BadDescription (refusal_text (refused TooLong Document)))
long_is_refused Said Reads bytes long = record {
  line = refusal_text (refused TooLong Document);
  refuses = (refused TooLong Document, described-too_long bytes long, refl);
  replied = refl;
}

pub long_description : (bytes : List ℕ) → description.most < length bytes → IsRefused description bytes (error BadDescription (refusal_text (refused TooLong Document)))
long_description bytes long = long_is_refused Network (λ bytes d. described bytes ≡ Ok d) bytes long

-- ---- line-oriented files

pub lawful_text : (Said : Type 0) (most : ℕ) (Reads : List ℕ → Said → Type 0) (Refuses : (bytes line : List ℕ) → Type 0)
    → ((bytes : List ℕ) (a b : Said) → Reads bytes a → Reads bytes b → a ≡ b)
    → ((bytes line : List ℕ) (said : Said) → Reads bytes said → Refuses bytes line → ⊥) → IsLawfulFormat (text Said most Reads Refuses)
lawful_text Said most Reads Refuses once never = record { reads_once = once; reads_or_refuses = never; refused_as = inr refl }

-- A reason to reject the whole file has its line.
pub long_text : {Why : Type 0} (text : List ℕ) (reason_of : Why → List ℕ) (HasFault : List ℕ → ℕ → Why → Type 0) (bytes : List ℕ) (why : Why) → HasFault bytes 0 why
    → ReportsFault text reason_of HasFault bytes (fault_line text 0 (reason_of why))
long_text text reason_of HasFault bytes why fault = record { number = 0; why = why; fault = fault; told = refl }
