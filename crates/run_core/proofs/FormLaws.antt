-- A list of forms parses a command only from its arguments, if each form does.
use Rattle.std.proofs.Common.{◌≡◌, ℕ, Bool, true, false, if◌then◌else◌, List, [], ◌∷◌, Option, None, Some, bytes_eq, option_map, refl, sym, subst}
use Rattle.std.specs.Prelude.{cond, find}
use Rattle.std.proofs.lemmas.Slice.Eq.{bytes_eq-Decides}
use Rattle.run_core.specs.Dialects.{dialects, rule_dialect_of}
use Rattle.run_core.specs.declared.dialect.Dialect.{Dialect}
use Rattle.run_core.specs.inner.Forms.{Form, among, in_dialect, of_file, of_three, of_two, with_two_files}

pub none_asked : {A : Type 0} {C : Type 0} (command : C) → ◌≡◌ {A = Option C} None (Some command) → A
none_asked command is = cc is

same_ask : {C : Type 0} (command other : C) → Some command ≡ Some other → command ≡ other
same_ask command other is = cc is

module _ {C : Type 0} (Is : List (List ℕ) → C → Type 0) where
  -- A form is parsed only if its first argument and the following arguments form that command.
  abbrev pub IsForm : (word : List ℕ) → (List (List ℕ) → Option C) → Type 0
  IsForm word asks = (rest : List (List ℕ)) (command : C) → asks rest ≡ Some command → Is (word ∷ rest) command

  pub asked : (words : List (List ℕ)) (made command : C) → Is words made → Some made ≡ Some command → Is words command
  asked words made command is same = subst (λ (c : C). Is words c) (same_ask made command same) is

  pub file_form : (word : List ℕ) (make : List ℕ → C) → ((a : List ℕ) → Is (word ∷ a ∷ []) (make a)) → IsForm word (of_file make)
  file_form word make is [] command made = none_asked command made
  file_form word make is (a ∷ []) command made = asked (word ∷ a ∷ []) (make a) command (is a) made
  file_form word make is (a ∷ b ∷ rest) command made = none_asked command made

  pub two_form : (word : List ℕ) (make : (first second : List ℕ) → C) → ((a b : List ℕ) → Is (word ∷ a ∷ b ∷ []) (make a b)) → IsForm word (of_two make)
  two_form word make is [] command made = none_asked command made
  two_form word make is (a ∷ []) command made = none_asked command made
  two_form word make is (a ∷ b ∷ []) command made = asked (word ∷ a ∷ b ∷ []) (make a b) command (is a b) made
  two_form word make is (a ∷ b ∷ c ∷ rest) command made = none_asked command made

  pub three_form : (word : List ℕ) (make : (first second third : List ℕ) → C) → ((a b c : List ℕ) → Is (word ∷ a ∷ b ∷ c ∷ []) (make a b c)) → IsForm word (of_three make)
  three_form word make is [] command made = none_asked command made
  three_form word make is (a ∷ []) command made = none_asked command made
  three_form word make is (a ∷ b ∷ []) command made = none_asked command made
  three_form word make is (a ∷ b ∷ c ∷ []) command made = asked (word ∷ a ∷ b ∷ c ∷ []) (make a b c) command (is a b c) made
  three_form word make is (a ∷ b ∷ c ∷ d ∷ rest) command made = none_asked command made

  -- An argument names the dialect of that name.
  named : (name : List ℕ) (words : List ℕ → List (List ℕ)) (make : Dialect → C) (command : C) → ((dialect : Dialect) → Is (words (rule_dialect_of dialect).word) (make dialect))
      → (among : List Dialect) → option_map make (find (λ dialect. bytes_eq name (rule_dialect_of dialect).word) among) ≡ Some command → Is (words name) command
  named name words make command is [] made = none_asked command made
  named name words make command is (dialect ∷ others) made = by_word (named name words make command is others) (bytes_eq name (rule_dialect_of dialect).word) refl made
    where
      by_word : (option_map make (find (λ dialect. bytes_eq name (rule_dialect_of dialect).word) others) ≡ Some command → Is (words name) command)
          → (b : Bool) → bytes_eq name (rule_dialect_of dialect).word ≡ b
          → option_map make (cond b (Some dialect) (find (λ dialect. bytes_eq name (rule_dialect_of dialect).word) others)) ≡ Some command → Is (words name) command
      by_word behind true same so =
          subst (λ (n : List ℕ). Is (words n) command) (sym ((bytes_eq-Decides name (rule_dialect_of dialect).word).0 same)) (asked (words (rule_dialect_of dialect).word) (make dialect) command (is dialect) so)
      by_word behind false other so = behind so

  pub dialect_form : (word : List ℕ) (make : Dialect → List ℕ → C) → ((dialect : Dialect) (a : List ℕ) → Is (word ∷ (rule_dialect_of dialect).word ∷ a ∷ []) (make dialect a)) → IsForm word (in_dialect make)
  dialect_form word make is [] command made = none_asked command made
  dialect_form word make is (name ∷ []) command made = none_asked command made
  dialect_form word make is (name ∷ a ∷ []) command made = named name (λ n. word ∷ n ∷ a ∷ []) (λ dialect. make dialect a) command (λ dialect. is dialect a) dialects made
  dialect_form word make is (name ∷ a ∷ b ∷ rest) command made = none_asked command made

  pub files_form : (word : List ℕ) (make : Dialect → (first second : List ℕ) → C)
      → ((dialect : Dialect) (a b : List ℕ) → Is (word ∷ (rule_dialect_of dialect).word ∷ a ∷ b ∷ []) (make dialect a b)) → IsForm word (with_two_files make)
  files_form word make is [] command made = none_asked command made
  files_form word make is (name ∷ []) command made = none_asked command made
  files_form word make is (name ∷ a ∷ []) command made = none_asked command made
  files_form word make is (name ∷ a ∷ b ∷ []) command made = named name (λ n. word ∷ n ∷ a ∷ b ∷ []) (λ dialect. make dialect a b) command (λ dialect. is dialect a b) dialects made
  files_form word make is (name ∷ a ∷ b ∷ c ∷ rest) command made = none_asked command made

  abbrev pub AreForms : List (Form C) → Type 0
  AreForms [] = Unit {0}
  AreForms (form ∷ fs) = IsForm form.word form.asks × AreForms fs

  pub among_forms : (fs : List (Form C)) → AreForms fs → (word : List ℕ) (rest : List (List ℕ)) (command : C) → among fs word rest ≡ Some command → Is (word ∷ rest) command
  among_forms [] are word rest command is = none_asked command is
  among_forms (form ∷ fs) are word rest command is = by_word (among_forms fs are.1 word rest command) (bytes_eq word form.word) refl is
    where
      by_word : (among fs word rest ≡ Some command → Is (word ∷ rest) command) → (b : Bool) → bytes_eq word form.word ≡ b
          → (if b then form.asks rest else among fs word rest) ≡ Some command → Is (word ∷ rest) command
      by_word behind true same so = subst (λ (w : List ℕ). Is (w ∷ rest) command) (sym ((bytes_eq-Decides word form.word).0 same)) (are.0 rest command so)
      by_word behind false other so = behind so
