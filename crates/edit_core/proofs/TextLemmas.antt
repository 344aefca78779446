-- Whether bytes are a string, and the value of a table at a key.
use Rattle.std.proofs.Common.{◌≡◌, ℕ, true, false, List, ◌++◌, codes, Option, Some, None, String, Global, nat_cmp, inl, inr, refl, sym, ap, ◌∙◌}
use Rattle.std.proofs.lemmas.Bool.{cases_Bool}
use Rattle.std.proofs.lemmas.Str.{is_utf8-from_IsUtf8, IsUtf8-from_is_utf8}
use Rattle.std.specs.BTreeMap.{is_at}
use Rattle.std.specs.Cmp.Lexicographic.{slice_cmp}
use Rattle.std.specs.Map.{lookup}
use Rattle.std.specs.Option.{option_map}
use Rattle.std.specs.Prelude.{IsUtf8, is_some, string_bytes}
use Rattle.std.specs.Str.{is_utf8}
use Rattle.toml.proofs.Views.{view-lookup}
use Rattle.table_core.specs.Tables.{text_at}
use Rattle.text_core.specs.Steps.{◌>>=◌}
use Rattle.toml.specs.Data.{Members, get_member}
use Rattle.toml.specs.Parse.{parse_document}
use Rattle.toml.specs.View.{members_view, view}
use Rattle.toml.specs.declared.value.Value.{Value}
use Rattle.edit_core.specs.inner.ChangeSteps.{assign_of, text_of, value_in, with_host}

pub text_read : (w : List ℕ) → IsUtf8 w → text_of w ≡ Some w
text_read w utf8 = rw (is_utf8-from_IsUtf8 w utf8)

not_utf8 : (w : List ℕ) → (IsUtf8 w → ⊥) → is_utf8 w ≡ false
not_utf8 w none = elim (cases_Bool (is_utf8 w)) [ inl utf8 ↦ absurd (none (IsUtf8-from_is_utf8 w utf8)) | inr other ↦ other ]

pub no_text : (w : List ℕ) → (IsUtf8 w → ⊥) → text_of w ≡ None
no_text w none = rw (not_utf8 w none)

pub no_assign : (w : List ℕ) → (IsUtf8 w → ⊥) → assign_of w ≡ None
unfolding assign_of
no_assign w none = rw (not_utf8 w none)

pub held : (r : Option Value) (k : List ℕ) (es : List (String Global × Value)) → r ≡ lookup (is_at (λ x. slice_cmp nat_cmp k (string_bytes x))) es
    → option_map view r ≡ get_member k (members_view es)
held r k es found = ap (option_map view) found ∙ view-lookup k es

-- The table of an assign, step by step.
pub assign_said : (w text : List ℕ) (whole assign : Members) → IsUtf8 w → text ≡ w → parse_document (codes "v = " ++ text) ≡ Some whole
    → value_in whole ≡ Some assign → is_some (text_at (codes "host") assign) ≡ true → assign_of w ≡ Some assign
unfolding assign_of
assign_said w text whole assign utf8 same read value host =
    let is : parse_document (codes "v = " ++ w) ≡ Some whole = ap (λ (t : List ℕ). parse_document (codes "v = " ++ t)) (sym same) ∙ read in
    let with : with_host assign ≡ Some assign = rw host refl in
    rw (is_utf8-from_IsUtf8 w utf8, is) (ap (λ (o : Option Members). o >>= with_host) value ∙ with)
