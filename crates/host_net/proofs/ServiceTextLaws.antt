-- Lemmas on the notation of services: a text is parsed to a service if and only if it denotes it.
use Rattle.std.proofs.Common.{◌≡◌, ℕ, ◌<◌, Bool, true, false, cond, nat_le, ◌==◌, ◌&&◌, List, [], ◌∷◌, ◌++◌, find, Option, Some, None, ◌⊎◌, ◌↔◌, inl, inr, refl, sym, ap, ◌∙◌, arith, subst}
use Rattle.std.specs.Prelude.{IsTrue, IsNone, IfSome, decimal, bytes_eq}
use Rattle.std.proofs.lemmas.Bool.{and_parts, or_cases, or_right}
use Rattle.std.proofs.lemmas.Bool.Decides.{nat_tests}
use Rattle.text_core.specs.Decimal.{numbers_in}
use Rattle.text_core.proofs.FirstsLaws.{some_same}
use Rattle.text_core.proofs.NumbersLaws.{numbers_in-decimal, numbers_in-append}
use Rattle.text_core.proofs.StepsLaws.{bytes_same, bytes_own, same_options}
use Rattle.host_net.specs.declared.service.Service.{Service}
use Rattle.host_net.specs.Service.{icmp, tcp, udp, max_port, has_ports, has_all_ports}
use Rattle.host_net.specs.inner.Service.{is_service}
use Rattle.host_net.specs.ServiceText.{protocol_text, ports_text, service_of, service_with, spells_service}
use Rattle.host_net.specs.inner.ServiceSteps.{service_by_parts}
use Rattle.host_net.specs.inner.ServiceText.{IsServiceSpelling}
use Rattle.host_net.proofs.ServiceStepsLemmas.{service_same, service_bounds, service_protocol, with_ports_of, all_ports, by_parts_read, by_parts_spelled}

abbrev IsNamed : Service → Type 0
IsNamed s = (s.proto ≡ icmp) ⊎ ((s.proto ≡ tcp) ⊎ (s.proto ≡ udp))

-- 1. The test is equivalent to the definition of a notation.

ports_one : (low high : ℕ) → low ≡ high → ports_text low high ≡ decimal low
ports_one low high same =
    let is : (low == high) ≡ true = grind (arith, nat_tests) in
    rw is refl

ports_more : (low high : ℕ) → low < high → ports_text low high ≡ decimal low ++ (45 ∷ decimal high)
ports_more low high less =
    let other : (low == high) ≡ false = grind (arith, nat_tests) in
    rw other refl

with_ports_spells : (text : List ℕ) (s : Service) → IsTrue (is_service s) → IsTrue (has_ports s.proto)
    → text ≡ protocol_text s.proto ++ (47 ∷ ports_text s.low s.high) → spells_service text s ≡ true
with_ports_spells text s valid counts written =
    let bounds = service_bounds s valid in
    let order : nat_le s.low s.high ≡ true = grind (arith, nat_tests) in
    let fits : nat_le s.high max_port ≡ true = grind (arith, nat_tests) in
    let same : bytes_eq text (protocol_text s.proto ++ (47 ∷ ports_text s.low s.high)) ≡ true =
    ap (bytes_eq text) (sym written) ∙ bytes_own text in
    or_right (has_all_ports s && bytes_eq text (protocol_text s.proto)) _ (rw (counts, order, fits) same)

spelling_tested : (text : List ℕ) (s : Service) → IsServiceSpelling text s → spells_service text s ≡ true
spelling_tested text s spelling = elim spelling.written [
  | inl protocol ↦
      let same : bytes_eq text (protocol_text s.proto) ≡ true = ap (bytes_eq text) (sym protocol.1) ∙ bytes_own text in
      rw (protocol.0, same) refl
  | inr (inl port) ↦
      with_ports_spells text s spelling.service port.0
      (port.2 ∙ ap (λ ports. protocol_text s.proto ++ (47 ∷ ports)) (sym (ports_one s.low s.high port.1)))
  | inr (inr ports) ↦
      with_ports_spells text s spelling.service ports.0
      (ports.2 ∙ ap (λ behind. protocol_text s.proto ++ (47 ∷ behind)) (sym (ports_more s.low s.high ports.1)))
]

whole_is_service : (s : Service) → IsNamed s → has_all_ports s ≡ true → is_service s ≡ true
whole_is_service s named all = grind (arith, nat_tests)

some_is_service : (s : Service) → has_ports s.proto ≡ true → nat_le s.low s.high ≡ true → nat_le s.high max_port ≡ true → is_service s ≡ true
some_is_service s counts order fits = rw (order, fits, counts) refl

in_order : (low high : ℕ) → nat_le low high ≡ true → (low ≡ high) ⊎ (low < high)
in_order low high h = grind (arith, nat_tests)

test_told : (text : List ℕ) (s : Service) → IsNamed s → spells_service text s ≡ true → IsServiceSpelling text s
test_told text s named holds = elim (or_cases (has_all_ports s && bytes_eq text (protocol_text s.proto)) _ holds) [
  | inl whole ↦
      let (all, same) = and_parts (has_all_ports s) (bytes_eq text (protocol_text s.proto)) whole in
      record { service = whole_is_service s named all; written = inl (all, bytes_same text (protocol_text s.proto) same) }
  | inr behind ↦
      let (counts, behind) = and_parts (has_ports s.proto) _ behind in
      let (order, behind) = and_parts (nat_le s.low s.high) _ behind in
      let (fits, same) = and_parts (nat_le s.high max_port) _ behind in
      let written = bytes_same text (protocol_text s.proto ++ (47 ∷ ports_text s.low s.high)) same in
      let valid = some_is_service s counts order fits in
      elim (in_order s.low s.high order) [
        | inl one ↦ record {
          service = valid;
          written = inr (inl (counts, one, written ∙ ap (λ ports. protocol_text s.proto ++ (47 ∷ ports)) (ports_one s.low s.high one)));
        }
        | inr more ↦ record {
          service = valid;
          written = inr (inr (counts, more, written ∙ ap (λ ports. protocol_text s.proto ++ (47 ∷ ports)) (ports_more s.low s.high more)));
        }
      ]
]

-- 2. The numbers in a notation are those of its service.

no_numbers : (s : Service) → IsNamed s → numbers_in (protocol_text s.proto) ≡ []
no_numbers s (inl one) = subst (λ (n : ℕ). numbers_in (protocol_text n) ≡ []) (sym one) refl
no_numbers s (inr (inl six)) = subst (λ (n : ℕ). numbers_in (protocol_text n) ≡ []) (sym six) refl
no_numbers s (inr (inr other)) = subst (λ (n : ℕ). numbers_in (protocol_text n) ≡ []) (sym other) refl

numbers_behind : (proto : ℕ) (rest : List ℕ) → IsTrue (has_ports proto) → numbers_in (protocol_text proto ++ (47 ∷ rest)) ≡ numbers_in rest
numbers_behind proto rest counts = elim (with_ports_of proto counts) [
  | inl six ↦ subst (λ (n : ℕ). numbers_in (protocol_text n ++ (47 ∷ rest)) ≡ numbers_in rest) (sym six) refl
  | inr other ↦ subst (λ (n : ℕ). numbers_in (protocol_text n ++ (47 ∷ rest)) ≡ numbers_in rest) (sym other) refl
]

own_numbers : (text : List ℕ) (s : Service) → IsServiceSpelling text s → service_with (numbers_in text) s.proto ≡ s
own_numbers text s spelling = let bounds = service_bounds s spelling.service in elim spelling.written [
  | inl protocol ↦
      let all = all_ports s protocol.0 in
      ap (λ ns. service_with ns s.proto) (ap numbers_in protocol.1 ∙ no_numbers s (service_protocol s spelling.service))
      ∙ service_same (service_with [] s.proto) s refl (sym all.0) (sym all.1)
  | inr (inl port) ↦
      ap (λ ns. service_with ns s.proto) (ap numbers_in port.2 ∙ numbers_behind s.proto (decimal s.low) port.0 ∙ numbers_in-decimal s.low (omega (arith, bounds)))
      ∙ service_same (service_with (s.low ∷ []) s.proto) s refl refl port.1
  | inr (inr ports) ↦
      ap (λ ns. service_with ns s.proto) (ap numbers_in ports.2
      ∙ numbers_behind s.proto (decimal s.low ++ (45 ∷ decimal s.high)) ports.0
      ∙ numbers_in-append s.low 45 (decimal s.high) (omega (arith, bounds)) refl
      ∙ ap (λ ns. s.low ∷ ns) (numbers_in-decimal s.high (omega (arith, bounds))))
      ∙ service_same (service_with (s.low ∷ s.high ∷ []) s.proto) s refl refl refl
]

-- 3. So the first of the candidates that passes is the only one.

some_one : (text : List ℕ) (s t : Service) → IsServiceSpelling text s → IsServiceSpelling text t → t ≡ s
some_one text s t spelling other = some_same t s (sym (by_parts_read text t other) ∙ by_parts_read text s spelling)

find_by : {A : Type 0} (p : A → Bool) (x s : A) (rest : Option A) (b : Bool) → p x ≡ b → p s ≡ true → (p x ≡ true → x ≡ s)
    → (x ≡ s) ⊎ (rest ≡ Some s) → cond b (Some x) rest ≡ Some s
find_by p x s rest true is holds only where_it_is = ap (λ y. Some y) (only is)
find_by p x s rest false is holds only (inl same) = let e = ap p same in cc
find_by p x s rest false is holds only (inr behind) = behind

find_only : {A : Type 0} (p : A → Bool) (x : A) (xs : List A) (s : A) → p s ≡ true → (p x ≡ true → x ≡ s)
    → (x ≡ s) ⊎ (find p xs ≡ Some s) → find p (x ∷ xs) ≡ Some s
find_only p x xs s holds only where_it_is = find_by p x s (find p xs) (p x) refl holds only where_it_is

pub service_of-read : (text : List ℕ) (s : Service) → IsServiceSpelling text s → service_of text ≡ Some s
unfolding service_of
service_of-read text s spelling =
    let own : ℕ → Service = service_with (numbers_in text) in
    let holds = spelling_tested text s spelling in
    let same : (proto : ℕ) → s.proto ≡ proto → own proto ≡ s = λ proto is. ap own (sym is) ∙ own_numbers text s spelling in
    let only : (proto : ℕ) → IsNamed (own proto) → spells_service text (own proto) ≡ true → own proto ≡ s =
    λ proto named passes. some_one text s (own proto) spelling (test_told text (own proto) named passes) in
    find_only (spells_service text) (own icmp) (own tcp ∷ own udp ∷ []) s holds (only icmp (inl refl)) (elim (service_protocol s spelling.service) [
      | inl one ↦ inl (same icmp one)
      | inr counted ↦ inr (find_only (spells_service text) (own tcp) (own udp ∷ []) s holds (only tcp (inr (inl refl))) (elim counted [
        | inl six ↦ inl (same tcp six)
        | inr other ↦ inr (find_only (spells_service text) (own udp) [] s holds (only udp (inr (inr refl))) (inl (same udp other)))
      ]))
    ])

found_by : {A : Type 0} (p : A → Bool) (Q : A → Type 0) (x s : A) (rest : Option A) (b : Bool) → p x ≡ b → Q x
    → (rest ≡ Some s → (p s ≡ true) × Q s) → cond b (Some x) rest ≡ Some s → (p s ≡ true) × Q s
found_by p Q x s rest true is this behind found = let same = some_same x s found in (ap p (sym same) ∙ is, subst Q same this)
found_by p Q x s rest false is this behind found = behind found

found_in : {A : Type 0} (p : A → Bool) (Q : A → Type 0) (x : A) (xs : List A) (s : A) → Q x
    → (find p xs ≡ Some s → (p s ≡ true) × Q s) → find p (x ∷ xs) ≡ Some s → (p s ≡ true) × Q s
found_in p Q x xs s this behind found = found_by p Q x s (find p xs) (p x) refl this behind found

pub service_of-spelled : (text : List ℕ) (s : Service) → service_of text ≡ Some s → IsServiceSpelling text s
unfolding service_of
service_of-spelled text s read =
    let p : Service → Bool = spells_service text in
    let own : ℕ → Service = service_with (numbers_in text) in
    let (holds, named) =
    found_in p IsNamed (own icmp) (own tcp ∷ own udp ∷ []) s (inl refl)
    (found_in p IsNamed (own tcp) (own udp ∷ []) s (inr (inl refl))
    (found_in p IsNamed (own udp) [] s (inr (inr refl)) (λ none. cc)))
    read in
    test_told text s named holds

-- The step-by-step parser returns the service that the text denotes.
pub by_parts_same : (text : List ℕ) → service_by_parts text ≡ service_of text
by_parts_same text =
    same_options (service_by_parts text) (service_of text)
    (λ s read. service_of-read text s (by_parts_spelled text s read))
    (λ s said. by_parts_read text s (service_of-spelled text s said))

-- The same for a result that is the service of a text.
pub service_spelled : (text : List ℕ) (r : Option Service) → r ≡ service_of text → IfSome r (IsServiceSpelling text)
service_spelled text None e = tt
service_spelled text (Some s) e = service_of-spelled text s (sym e)

pub service_none : (text : List ℕ) (r : Option Service) → r ≡ service_of text → IsNone r ↔ ((s : Service) → IsServiceSpelling text s → ⊥)
service_none text None e = (λ none s spelling. let read = e ∙ service_of-read text s spelling in cc, λ other. refl)
service_none text (Some s) e = (λ none. cc, λ other. absurd (other s (service_of-spelled text s (sym e))))
