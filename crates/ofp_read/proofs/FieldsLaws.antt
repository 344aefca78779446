-- The partial entry of some fields: the entry that it makes has them, and a field that it rejects cannot follow them.
use Rattle.std.proofs.Common.{◌≡◌, inl, inr, ℕ, List, [], ◌∷◌, ◌++◌, Option, Some, None, sym, subst, ◌∙◌}
use Rattle.std.specs.Prelude.{Result, Ok, Err}
use Rattle.std.specs.Option.{ok_or}
use Rattle.text_core.proofs.StepsLaws.{if_parts}
use Rattle.ofp_rules.specs.declared.entry.Action.{Action}
use Rattle.ofp_rules.specs.declared.entry.Entry.{Entry}
use Rattle.ofp_read.specs.declared.fault.OfpWhy.{OfpWhy}
use Rattle.ofp_read.specs.declared.fault.OfpWhy.TheVariants.{BadLine, UnknownField, BadValue}
use Rattle.ofp_read.specs.declared.given.Given.{Given}
use Rattle.ofp_read.specs.inner.FieldTable.{with_field}
use Rattle.ofp_read.specs.inner.FlowLine.{nothing_given, entry_of}
use Rattle.ofp_read.specs.Grammar.{Part, kind, protocol, EachSays, no_field, one_part, two_parts, IsNoneOf, AreDistinct, AreFieldsOf}
use Rattle.ofp_read.specs.Unwritten.{AreNew, IsBadField, unknown, twice, valueless}
use Rattle.ofp_read.proofs.KeyLaws.{parts_about, one_about, each_about}
use Rattle.ofp_read.proofs.PartLaws.{Lacks, Has, Same, OfEach, of_each, of_both, IsGiven, same_given, nothing_lacks, none_of_first, none_of_second, distinct_both, not_both, is_said, none_said, said_none, given_is_none, lacking_is_none, has_own, unsaid_own}
use Rattle.ofp_read.proofs.FieldLaws.{IsStep, Told, told_or_unknown, step_of_read, read_of_each}

pub each_both : (e : Entry) (ps qs : List Part) (ts us : List (List ℕ)) → EachSays e ps ts → EachSays e qs us
    → EachSays e (ps ++ qs) (ts ++ us)
each_both e [] qs [] us no_field b = b
each_both e [] qs (t ∷ ts) us a b = elim a [ ]
each_both e (p ∷ ps) qs [] us a b = elim a [ ]
each_both e (p ∷ ps) qs (t ∷ ts) us (one_part says rest) b = one_part says (each_both e ps qs ts us rest b)
each_both e (kind ∷ protocol ∷ ps) qs (t ∷ ts) us (two_parts n ip its says rest) b = two_parts n ip its says (each_both e ps qs ts us rest b)

-- 1. Fields that are read.

-- The partial entry of these fields, and the parts that they specify.
pub record Reads (g : Given) (texts : List (List ℕ)) : Type 0 where
  pub parts : List Part
  pub once : AreDistinct parts
  pub given : OfEach (IsGiven g) parts
  pub others : (p : Part) → IsNoneOf p parts → Lacks p g
  pub each : (e : Entry) → ((p : Part) → IsGiven g p → Has p e g) → EachSays e parts texts

pub reads_none : Reads nothing_given []
reads_none = record { parts = []; once = tt; given = tt; others = λ p none. nothing_lacks p; each = λ e fits. no_field }

still_same : (g h : Given) (text : List ℕ) → (step : IsStep g h text) → (p : Part) → IsGiven g p → Same p g h
still_same g h text step p given = step.others p (given_is_none p step.parts g given step.free)

still_given : (g h : Given) (text : List ℕ) → (step : IsStep g h text) → (p : Part) → IsGiven g p → IsGiven h p
still_given g h text step p given = sym (same_given p g h (still_same g h text step p given)) ∙ given

pub reads_more : (g h : Given) (texts : List (List ℕ)) (text : List ℕ) → Reads g texts → with_field g text ≡ Ok h
    → Reads h (texts ++ text ∷ [])
reads_more g h texts text reads read =
    let step = step_of_read g h text read in
    record {
      parts = reads.parts ++ step.parts;
      once = distinct_both reads.parts step.parts reads.once step.once
          (of_each (IsGiven g) (λ p. IsNoneOf p step.parts) reads.parts (λ p given. given_is_none p step.parts g given step.free) reads.given);
      given = of_both (IsGiven h) reads.parts step.parts
          (of_each (IsGiven g) (IsGiven h) reads.parts (still_given g h text step) reads.given) step.given;
      others = λ p none.
          sym (same_given p g h (step.others p (none_of_second p reads.parts step.parts none)))
          ∙ reads.others p (none_of_first p reads.parts step.parts none);
      each = λ e fits.
          each_both e reads.parts step.parts texts (text ∷ [])
          (reads.each e (λ p given. still_same g h text step p given ∙ fits p (still_given g h text step p given)))
          (step.says e (of_each (IsGiven h) (λ p. Has p e h) step.parts fits step.given));
    }

unfoldable pub fields_of_reads : (g : Given) (texts : List (List ℕ)) (a : Action) → Reads g texts → AreFieldsOf (entry_of g a) texts
fields_of_reads g texts a reads = record {
  parts = reads.parts;
  each = reads.each (entry_of g a) (λ p given. has_own p g a given);
  once = reads.once;
  others = λ p none. unsaid_own p g a (reads.others p none);
}

-- 2. A field that is rejected.

lack_new : (g : Given) (texts : List (List ℕ)) (reads : Reads g texts) (ps : List Part) → OfEach (λ p. Lacks p g) ps → AreNew ps reads.parts
lack_new g texts reads [] lack = tt
lack_new g texts reads (p ∷ ps) lack = (lacking_is_none p reads.parts g lack.0 reads.given, lack_new g texts reads ps lack.1)

new_lack : (g : Given) (texts : List (List ℕ)) (reads : Reads g texts) (ps : List Part) → AreNew ps reads.parts → OfEach (λ p. Lacks p g) ps
new_lack g texts reads [] new = tt
new_lack g texts reads (p ∷ ps) new = (reads.others p new.0, new_lack g texts reads ps new.1)

err_same : (w v : OfpWhy) → ◌≡◌ {A = Result Given OfpWhy} (Err w) (Err v) → w ≡ v
err_same w v h = cc

not_valued : (o : Option Given) (why : OfpWhy) → ok_or o BadValue ≡ Err why → BadValue ≡ why
not_valued None why h = err_same BadValue why h
not_valued (Some g) why h = cc

-- A field that some entry has, and whose parts are new, is not rejected.
no_entry : (g : Given) (text : List ℕ) (why : OfpWhy) (tells : Told g text) → OfEach (λ p. Lacks p g) tells.parts
    → with_field g text ≡ Err why → (e : Entry) (ps : List Part) → EachSays e ps (text ∷ []) → ⊥
no_entry g text why tells lack refused e ps says =
    let same = one_about tells.parts ps text tells.about (each_about e ps text says) in
    let read = read_of_each e ps g text says (subst (OfEach (λ p. Lacks p g)) same lack) in
    let clash = sym refused ∙ read.1 in cc

pub bad_of_reads : (g : Given) (texts : List (List ℕ)) (text : List ℕ) (why : OfpWhy) (reads : Reads g texts)
    → with_field g text ≡ Err why → IsBadField reads.parts text why
bad_of_reads g texts text why reads refused = elim (told_or_unknown g text) [
  | inr none ↦
      subst (IsBadField reads.parts text) (err_same UnknownField why (sym none.0 ∙ refused))
      (unknown (λ parts about. let clash = sym none.1 ∙ parts_about parts text about in cc))
  | inl tells ↦
      elim (if_parts (is_said g tells.parts) (Err BadLine) (ok_or tells.now BadValue) (Err why) (sym tells.told ∙ refused)) [
        | inl old ↦
            subst (IsBadField reads.parts text) (err_same BadLine why old.1)
            (twice tells.parts tells.about (λ new. not_both (said_none g tells.parts (new_lack g texts reads tells.parts new)) old.0))
        | inr new ↦
            let lack = none_said g tells.parts new.0 in
            subst (IsBadField reads.parts text) (not_valued tells.now why new.1)
            (valueless tells.parts tells.about (lack_new g texts reads tells.parts lack) (no_entry g text why tells lack refused))
      ]
]
