-- Edits of the assigns of an existing invariant.
use Rattle.std.proofs.Common.{◌≡◌, ◌-◌, ℕ, List, Option, Some, Result, Ok, Err, codes, slice_get, sym, ap, ◌∙◌}
use Rattle.std.specs.List.{slice_set}
use Rattle.std.specs.Option.{ok_or}
use Rattle.desc_form.specs.Places.{assigns_of, listed}
use Rattle.edit_core.specs.Edited.{◌>>=◌, assigns_edited, invariant_with, with_list}
use Rattle.edit_core.specs.inner.EditFaults.{Gives}
use Rattle.edit_core.specs.declared.fault.ChangeFault.{ChangeFault}
use Rattle.edit_core.specs.declared.fault.ChangeFault.TheVariants.{Refused, Memory}
use Rattle.edit_core.specs.declared.fault.EditWhy.{EditWhy}
use Rattle.edit_core.specs.declared.fault.EditWhy.TheVariants.{Absent}
use Rattle.toml.specs.Data.{Data, Members}

-- The table with other assigns in place of those of an invariant.
abbrev pub with_invariant : ℕ → Members → Data → List Data → Members
with_invariant k document invariant assigns =
    with_list (codes "invariant") (slice_set (listed (codes "invariant") document) (k - 1) (invariant_with assigns invariant)) document

module _ (k : ℕ) (document : Members) (change : List Data → Result (List Data) EditWhy) (invariant : Data) (there : Some invariant ≡ slice_get (listed (codes "invariant") document) (k - 1)) where
  -- The effect on it.
  edited_there : assigns_edited k document change ≡ (change (assigns_of invariant) >>= (λ assigns. Ok (with_invariant k document invariant assigns)))
  edited_there =
      ap (λ (o : Option Data). ok_or o Absent >>= (λ found. change (assigns_of found) >>= (λ assigns. Ok (with_invariant k document found assigns)))) (sym there)

  pub assigns_made : (assigns : List Data) (new : Members) → change (assigns_of invariant) ≡ Ok assigns → new ≡ with_invariant k document invariant assigns
      → assigns_edited k document change ≡ Ok new
  assigns_made assigns new made is =
      edited_there ∙ ap (λ (r : Result (List Data) EditWhy). r >>= (λ ds. Ok (with_invariant k document invariant ds))) made ∙ ap (λ (ms : Members). Ok ms) (sym is)

  assigns_refused : (why : EditWhy) → change (assigns_of invariant) ≡ Err why → assigns_edited k document change ≡ Err why
  assigns_refused why none =
      edited_there ∙ ap (λ (r : Result (List Data) EditWhy). r >>= (λ ds. Ok (with_invariant k document invariant ds))) none

  pub assigns_given : (fault : ChangeFault) → Gives {A = List Data} (change (assigns_of invariant)) (Err fault) → Gives {A = Members} (assigns_edited k document change) (Err fault)
  assigns_given (Refused why) none = assigns_refused why none
  assigns_given Memory none = tt
