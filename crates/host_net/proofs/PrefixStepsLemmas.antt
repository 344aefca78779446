-- The step-by-step parser returns the prefix that the text denotes.
use Rattle.std.proofs.Common.{◌≡◌, ℕ, ◌^◌, ◌<◌, min, List, ◌∷◌, ◌++◌, Option, Some, None, inl, inr, refl, sym, ap, ◌∙◌, arith, subst}
use Rattle.std.specs.Fmt.{decimal}
use Rattle.text_core.specs.inner.Decimal.{number}
use Rattle.text_core.proofs.DecimalLaws.{number-decimal, decimal_of_number}
use Rattle.text_core.specs.inner.Pieces.{split_once}
use Rattle.text_core.proofs.PiecesLaws.{split_once-append, split_once_none, split_once_joined}
use Rattle.text_core.proofs.StepsLaws.{bind_some, same_options}
use Rattle.host_net.specs.declared.prefix.Prefix.{Prefix}
use Rattle.host_net.specs.Prefix.{address_text, prefix_text, prefix_with, prefix_of}
use Rattle.host_net.specs.PrefixView.{IsSpelling}
use Rattle.host_net.specs.inner.PrefixSteps.{address_of, prefix_of_parts, prefix_by_parts}
use Rattle.host_net.proofs.PrefixTextLaws.{prefix_same, prefix_with_own, address_lacks, address_of-address_text, address_text-address_of, prefix_of-read, prefix_of-spelled, prefix_of-fits}

-- Every notation of a prefix is parsed.
read_with_length : (p : Prefix) → p.addr < 2 ^ 32 → prefix_by_parts (prefix_text p) ≡ Some p
unfolding prefix_by_parts prefix_text
read_with_length p fits =
    rw (
      split_once-append 47 (address_text p.addr) (decimal p.len) (address_lacks 47 p.addr refl refl),
      address_of-address_text p.addr fits,
      number-decimal 32 p.len p.fits (omega (arith, p.fits)),
    )
    (ap (λ q. Some q) (prefix_with_own p))

read_alone : (p : Prefix) → p.addr < 2 ^ 32 → p.len ≡ 32 → prefix_by_parts (address_text p.addr) ≡ Some p
unfolding prefix_by_parts
read_alone p fits whole =
    rw (
      split_once_none 47 (address_text p.addr) (address_lacks 47 p.addr refl refl),
      address_of-address_text p.addr fits,
    )
    (ap (λ q. Some q) (prefix_same (prefix_with p.addr 32) p refl (sym whole)))

by_parts_read : (text : List ℕ) (p : Prefix) → p.addr < 2 ^ 32 → IsSpelling text p → prefix_by_parts text ≡ Some p
by_parts_read text p fits spelling = elim spelling [
  | inl written ↦ ap prefix_by_parts written ∙ read_with_length p fits
  | inr alone ↦ ap prefix_by_parts alone.1 ∙ read_alone p fits alone.0
]

spelled_parts : (text : List ℕ) (o : Option (List ℕ × List ℕ)) (p : Prefix) → split_once 47 text ≡ o → prefix_of_parts text o ≡ Some p
    → IsSpelling text p
unfolding prefix_text
spelled_parts text None p cut read =
    let address = bind_some (address_of text) _ p read in
    let same : prefix_with address.0 32 ≡ p = cc in
    let written = address_text-address_of text address.0 address.1 in
    inr (sym (ap (λ q. q.len) same), written.0 ∙ ap (λ q. address_text q.addr) same)
spelled_parts text (Some parts) p cut read =
    let address = bind_some (address_of parts.0) _ p read in
    let len = bind_some (number 32 parts.1) _ p address.2 in
    let same : prefix_with address.0 len.0 ≡ p = cc in
    let written = address_text-address_of parts.0 address.0 address.1 in
    let said = decimal_of_number 32 parts.1 len.0 (omega arith) len.1 in
    let capped : min len.0 32 ≡ len.0 = omega (arith, said.1) in
    inl (split_once_joined 47 text parts.0 parts.1 cut
    ∙ ap (λ front. front ++ (47 ∷ parts.1)) (written.0 ∙ ap (λ q. address_text q.addr) same)
    ∙ ap (λ rest. address_text p.addr ++ (47 ∷ rest)) (said.0 ∙ ap decimal (sym capped ∙ ap (λ q. q.len) same)))

-- Only notations of a prefix are parsed.
by_parts_spelled : (text : List ℕ) (p : Prefix) → prefix_by_parts text ≡ Some p → IsSpelling text p
unfolding prefix_by_parts
by_parts_spelled text p read = spelled_parts text (split_once 47 text) p refl read

-- The parsed address has 32 bits.
parts_fit : (text : List ℕ) (o : Option (List ℕ × List ℕ)) (p : Prefix) → prefix_of_parts text o ≡ Some p → p.addr < 2 ^ 32
parts_fit text None p read =
    let address = bind_some (address_of text) _ p read in
    let same : prefix_with address.0 32 ≡ p = cc in
    let written = address_text-address_of text address.0 address.1 in
    subst (λ (q : Prefix). q.addr < 2 ^ 32) same written.1
parts_fit text (Some parts) p read =
    let address = bind_some (address_of parts.0) _ p read in
    let len = bind_some (number 32 parts.1) _ p address.2 in
    let same : prefix_with address.0 len.0 ≡ p = cc in
    let written = address_text-address_of parts.0 address.0 address.1 in
    subst (λ (q : Prefix). q.addr < 2 ^ 32) same written.1

by_parts_fit : (text : List ℕ) (p : Prefix) → prefix_by_parts text ≡ Some p → p.addr < 2 ^ 32
unfolding prefix_by_parts
by_parts_fit text p read = parts_fit text (split_once 47 text) p read

pub by_parts_same : (text : List ℕ) → prefix_by_parts text ≡ prefix_of text
by_parts_same text =
    same_options (prefix_by_parts text) (prefix_of text)
    (λ p read. prefix_of-read text p (by_parts_fit text p read) (by_parts_spelled text p read))
    (λ p said. by_parts_read text p (prefix_of-fits text p said) (prefix_of-spelled text p said))
