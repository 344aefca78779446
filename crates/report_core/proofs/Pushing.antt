-- A text with a last part appended.
use Rattle.std.proofs.Common.{◌≡◌, ℕ, List, ◌++◌, Result, Ok, Err, ◌∙◌}
use Rattle.std.specs.Prelude.{OnOk, is_ok, if◌then◌else◌}

-- `old` is the text before the last part, and `whole` is the intended text.
pub pushed_last : {T E : Type 0} (r : Result T E) (new old piece whole : List ℕ) → new ≡ (if is_ok r then old ++ piece else old) → old ++ piece ≡ whole → OnOk r (new ≡ whole)
pushed_last (Ok x) new old piece whole pushed same = pushed ∙ same
pushed_last (Err e) new old piece whole pushed same = tt
