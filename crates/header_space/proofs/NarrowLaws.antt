-- Which packets of a narrowed box match.
use Rattle.std.proofs.Common.{◌≡◌, ◌⊎◌, inl, inr, ℕ, ◌≤◌, Bool, true, false, Option, ◌&&◌, refl, ap, ◌∙◌}
use Rattle.host_net.specs.declared.packet.Packet.{Packet}
use Rattle.header_space.specs.declared.packet_box.PacketBox.{PacketBox}
use Rattle.header_space.specs.declared.header_match.FieldMatch.{FieldMatch}
use Rattle.header_space.specs.declared.header_match.HeaderMatch.{HeaderMatch}
use Rattle.header_space.specs.declared.header_match.End.{End}
use Rattle.header_space.specs.declared.header_match.Ends.{Ends}
use Rattle.header_space.specs.Matching.{field_fits, fits}
use Rattle.header_space.specs.inner.Narrowing.{AllFit, Fails, Known, OneFails}

-- The numbers from `first` to the end all match, or none of them does.
abbrev pub Tells : Option FieldMatch → ℕ → End → Type 0
Tells asked first alike = (n : ℕ) → first ≤ n → n ≤ alike.last → field_fits asked n ≡ alike.fits

and_all : (a b c d e : Bool) → a ≡ true → b ≡ true → c ≡ true → d ≡ true → e ≡ true → (a && (b && (c && (d && e)))) ≡ true
and_all a b c d e one two three four five = λ i. one i && (two i && (three i && (four i && five i)))

pub first_false : (a b : Bool) → a ≡ false → (a && b) ≡ false
first_false a b is = ap (λ (x : Bool). x && b) is

and_false : (a : Bool) → (a && false) ≡ false
and_false true = refl
and_false false = refl

pub second_false : (a b : Bool) → b ≡ false → (a && b) ≡ false
second_false a b is = ap (λ (x : Bool). a && x) is ∙ and_false a

either_fails : (a b : Bool) (A B : Type 0) → (A → a ≡ false) → (B → b ≡ false) → A ⊎ B → (a && b) ≡ false
either_fails a b A B one two (inl h) = first_false a b (one h)
either_fails a b A B one two (inr h) = second_false a b (two h)

known : (asked : Option FieldMatch) (first n : ℕ) (alike : End) (b : Bool) → Tells asked first alike → alike.fits ≡ b → Known first alike n → field_fits asked n ≡ b
known asked first n alike b tells is between = tells n between.0 between.1 ∙ is

fails : (asked : Option FieldMatch) (first n : ℕ) (alike : End) → Tells asked first alike → Fails first alike n → field_fits asked n ≡ false
fails asked first n alike tells bad = known asked first n alike false tells bad.0 bad.1

by_answer : (answer x : Bool) → (answer ≡ true → x ≡ true) → (answer ≡ false → x ≡ false) → x ≡ answer
by_answer true x yes' no' = yes' refl
by_answer false x yes' no' = no' refl

module _ (asked : HeaderMatch) (b : PacketBox) (ends : Ends) (src : Tells asked.src b.least.src ends.src) (dst : Tells asked.dst b.least.dst ends.dst) (proto : Tells asked.proto b.least.proto ends.proto) (sport : Tells asked.sport b.least.sport ends.sport) (dport : Tells asked.dport b.least.dport ends.dport) where
  all_fit : (p : Packet) → AllFit b ends p → fits asked p ≡ true
  all_fit p all =
      and_all (field_fits asked.src p.src) (field_fits asked.dst p.dst) (field_fits asked.proto p.proto) (field_fits asked.sport p.sport) (field_fits asked.dport p.dport)
      (known asked.src b.least.src p.src ends.src true src all.fit.0 all.src)
      (known asked.dst b.least.dst p.dst ends.dst true dst all.fit.1 all.dst)
      (known asked.proto b.least.proto p.proto ends.proto true proto all.fit.2 all.proto)
      (known asked.sport b.least.sport p.sport ends.sport true sport all.fit.3 all.sport)
      (known asked.dport b.least.dport p.dport ends.dport true dport all.fit.4 all.dport)

  pub one_fails : (p : Packet) → OneFails b ends p → fits asked p ≡ false
  one_fails p =
      either_fails _ _ _ _ (fails asked.src b.least.src p.src ends.src src)
      (either_fails _ _ _ _ (fails asked.dst b.least.dst p.dst ends.dst dst)
      (either_fails _ _ _ _ (fails asked.proto b.least.proto p.proto ends.proto proto)
      (either_fails _ _ _ _ (fails asked.sport b.least.sport p.sport ends.sport sport) (fails asked.dport b.least.dport p.dport ends.dport dport))))

  pub fits_as : (p : Packet) (answer : Bool) → (answer ≡ true → AllFit b ends p) → (answer ≡ false → OneFails b ends p) → fits asked p ≡ answer
  fits_as p answer all one = by_answer answer (fits asked p) (λ is. all_fit p (all is)) (λ is. one_fails p (one is))
