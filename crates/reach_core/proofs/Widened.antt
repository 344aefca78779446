-- Rows that are extended in order: the effect of the step, and its undo.
use Rattle.std.proofs.Common.{◌≡◌, ℕ, ◌<◌, ◌≤◌, Bool, true, false, ◌&&◌, ◌||◌, cond, nat_cmp, List, length, refl, sym, ◌∙◌, ap, subst}
use Rattle.std.specs.Prelude.{IsTrue, IsFalse}
use Rattle.std.specs.FinSet as fin
use Rattle.std.specs.Cmp.{nat_cmp_total}
use Rattle.std.proofs.lemmas.Bool.{cond_both, cond-false, both_ways}
use Rattle.flow_set.specs.HostSet.{HostNumbers}
use Rattle.flow_set.specs.inner.HostSet.{row_of}
use Rattle.reach_core.specs.inner.Rows.{AreBelow, IsWidened, FitsRows, row_before}
use Rattle.reach_core.specs.declared.stepped.UndoableRows.{UndoableRows}

-- ---- rows that change at the hosts of a set, from the first on

-- The rows of the hosts below `from` are done: they have their final contents, and the others are unchanged.
pub record AreDone (old new : List HostNumbers) (wanted : ℕ → HostNumbers) (hosts : HostNumbers) (from : ℕ) : Type 0 where
  pub same_length : length new ≡ length old
  pub done : (i : ℕ) → i < from → IsTrue (fin.contains hosts i) → row_of new i ≡ wanted i
  pub left : (i : ℕ) → from ≤ i → row_of new i ≡ row_of old i
  pub others : (i : ℕ) → IsFalse (fin.contains hosts i) → row_of new i ≡ row_of old i

-- ---- a row after a step, and before it

contains-either_of : (b : Bool) (s t : HostNumbers) (j : ℕ) (x y : Bool) → fin.contains s j ≡ x → fin.contains t j ≡ (x || y)
    → fin.contains (cond b t s) j ≡ (x || (b && y))
contains-either_of true s t j x y from_s from_t = from_t
contains-either_of false s t j true y from_s from_t = from_s
contains-either_of false s t j false y from_s from_t = from_s

pub contains-widened : (old new before : List HostNumbers) (hosts by : HostNumbers) (i j : ℕ) → IsWidened old new before hosts by
    → i < length old
    → fin.contains (row_of new i) j ≡ (fin.contains (row_of old i) j || (fin.contains hosts i && fin.contains by j))
contains-widened old new before hosts by i j widened below =
    ap (λ (s : HostNumbers). fin.contains s j) (widened.now i below)
    ∙ contains-either_of (fin.contains hosts i) (row_of old i) (fin.union (row_of old i) by) j _ _ refl (fin.contains-union nat_cmp_total (row_of old i) by j)

pub before-widened : (old : List HostNumbers) (r : UndoableRows) (hosts by : HostNumbers) (i : ℕ)
    → IsWidened old r.rows r.before hosts by → r.changed ≡ hosts → i < length old → row_before r i ≡ row_of old i
before-widened old r hosts by i widened changed below =
    ap (λ (hs : HostNumbers). cond (fin.contains hs i) (row_of r.before i) (row_of r.rows i)) changed
    ∙ cond_both (fin.contains hosts i) (row_of r.before i) (row_of r.rows i) (λ s. s ≡ row_of old i) (λ there. widened.was i there)
    (λ out. widened.now i below ∙ cond-false _ _ _ out)

-- If nothing changed, the rows before are the current rows.
pub before-kept : (r : UndoableRows) (i : ℕ) → r.changed ≡ fin.empty → row_before r i ≡ row_of r.rows i
before-kept r i changed =
    ap (λ (hs : HostNumbers). cond (fin.contains hs i) (row_of r.before i) (row_of r.rows i)) changed
    ∙ cond-false _ _ _ (fin.contains-empty nat_cmp i)

-- ---- space for the next step

none_below : (n : ℕ) (hosts : HostNumbers) → hosts ≡ fin.empty → AreBelow hosts n
none_below n hosts none i there =
    absurd (both_ways (fin.contains hosts i) (ap (λ (s : HostNumbers). fin.contains s i) none ∙ fin.contains-empty nat_cmp i) there)

pub fits_same : (n : ℕ) (old new : UndoableRows) → FitsRows old n → length new.rows ≡ length old.rows
    → length new.before ≡ length old.before → new.changed ≡ fin.empty → FitsRows new n
fits_same n old new fits rows before changed = record {
  small = fits.small;
  rows_length = rows ∙ fits.rows_length;
  before_length = before ∙ fits.before_length;
  changed_below = none_below n new.changed changed;
}

pub fits_widened : (n : ℕ) (old new : UndoableRows) (hosts by : HostNumbers) → FitsRows old n
    → IsWidened old.rows new.rows new.before hosts by → new.changed ≡ hosts → AreBelow hosts n → FitsRows new n
fits_widened n old new hosts by fits widened changed below = record {
  small = fits.small;
  rows_length = widened.rows_length ∙ fits.rows_length;
  before_length = widened.before_length ∙ fits.rows_length;
  changed_below = subst (λ (hs : HostNumbers). AreBelow hs n) (sym changed) below;
}
