-- If no two entries contradict each other, each frame has one verdict.
use Rattle.std.proofs.Common.{◌≡◌, ◌≢◌, inl, inr, ℕ, zero, suc, ◌≤◌, ◌<◌, IsTrue, List, [], ◌∷◌, ◌++◌, Some, length, slice_get, refl, sym, ap, ◌∙◌, arith}
use Rattle.std.specs.List.{list_all}
use Rattle.std.proofs.lemmas.Bool.{and_from, cases_lt}
use Rattle.std.proofs.lemmas.List.Folds.{list_all-append}
use Rattle.host_net.specs.declared.packet.Verdict.{Verdict}
use Rattle.ofp_rules.specs.declared.entry.Frame.{Frame}
use Rattle.ofp_rules.specs.declared.entry.Action.{Action}
use Rattle.ofp_rules.specs.declared.entry.Action.TheVariants.{Normal, Drop}
use Rattle.ofp_rules.specs.declared.entry.Entry.{Entry}
use Rattle.ofp_rules.specs.Matching.{matches, asks_of_ip}
use Rattle.ofp_rules.specs.Ambiguity.{IsFrame, Contradict, ContradictsNone, most_entries}
use Rattle.ofp_rules.specs.inner.Build.{IsUnambiguous, IsTable}
use Rattle.ofp_rules.proofs.AddingLaws.{accepted_more}
use Rattle.ofp_rules.specs.Semantics.{IsOneOf, HasVerdict, verdict_of}
use Rattle.ofp_rules.specs.inner.Ranges.{AreInRange, in_range}
use Rattle.ofp_rules.proofs.HighestLaws.{has_verdict}

-- The index of an entry.
record StandsAt (e : Entry) (entries : List Entry) : Type 0 where
  place : ℕ
  there : slice_get entries place ≡ Some e

stands : (e : Entry) (entries : List Entry) → IsOneOf e entries → StandsAt e entries
stands e [] h = absurd h
stands e (x ∷ xs) (inl is) = record { place = zero; there = ap Some (sym is) }
stands e (x ∷ xs) (inr later) = let found = stands e xs later in record { place = suc found.place; there = found.there }

contradict_back : (e f : Entry) → Contradict e f → Contradict f e
contradict_back e f clash = record {
  equal = sym clash.equal;
  different = λ same. clash.different (sym same);
  meet = record { frame = clash.meet.frame; is = clash.meet.is; by_first = clash.meet.by_second; by_second = clash.meet.by_first };
}

-- Two entries of equal priority that match the same frame do not have different actions.
agree : (entries : List Entry) (frame : Frame) (e f : Entry) → IsUnambiguous entries → IsFrame frame → IsOneOf e entries → IsOneOf f entries
    → IsTrue (matches frame e) → IsTrue (matches frame f) → e.priority ≡ f.priority → e.action ≢ f.action → ⊥
agree entries frame e f clear is in_e in_f by_e by_f equal different =
    let at_e = stands e entries in_e in
    let at_f = stands f entries in_f in
    let clash : Contradict e f = record { equal = equal; different = different; meet = record { frame = frame; is = is; by_first = by_e; by_second = by_f } } in
    elim (cases_lt at_e.place at_f.place) [
      | inl earlier ↦ clear at_e.place at_f.place (record { first = e; second = f; at_first = at_e.there; at_second = at_f.there; earlier = earlier; contradict = clash })
      | inr late ↦ elim (cases_lt at_f.place at_e.place) [
        | inl earlier ↦ clear at_f.place at_e.place (record { first = f; second = e; at_first = at_f.there; at_second = at_e.there; earlier = earlier; contradict = contradict_back e f clash })
        | inr same ↦
            let place : at_e.place ≡ at_f.place = omega arith in
            let one : Some e ≡ Some f = sym at_e.there ∙ ap (slice_get entries) place ∙ at_f.there in
            let action : e.action ≡ f.action = cc in
            different action
      ]
    ]

same_action : (a b : Action) → (a ≢ b → ⊥) → a ≡ b
same_action Normal Normal h = refl
same_action Normal Drop h = absurd (h (λ is. cc))
same_action Drop Normal h = absurd (h (λ is. cc))
same_action Drop Drop h = refl

one_verdict : (entries : List Entry) (frame : Frame) (v w : Verdict) → IsUnambiguous entries → IsFrame frame
    → HasVerdict entries frame v → HasVerdict entries frame w → v ≡ w
one_verdict entries frame v w clear is (inl (e, by_e, v_is)) (inl (f, by_f, w_is)) =
    let below = by_e.above f by_f.listed by_f.matched in
    let above = by_f.above e by_e.listed by_e.matched in
    let equal : e.priority ≡ f.priority = omega arith in
    v_is ∙ ap verdict_of (same_action e.action f.action (agree entries frame e f clear is by_e.listed by_f.listed by_e.matched by_f.matched equal)) ∙ sym w_is
one_verdict entries frame v w clear is (inl (e, by_e, v_is)) (inr none) = absurd (none.0 e by_e.listed by_e.matched)
one_verdict entries frame v w clear is (inr none) (inl (f, by_f, w_is)) = absurd (none.0 f by_f.listed by_f.matched)
one_verdict entries frame v w clear is (inr none) (inr nothing) = none.1 ∙ sym nothing.1

pub table_of : (entries : List Entry) → length entries ≤ most_entries → IsUnambiguous entries → AreInRange entries
    → IsTrue (list_all asks_of_ip entries) → IsTable entries
table_of entries few clear range asks = record {
  accepted = (few, clear);
  in_range = range;
  asks = asks;
  one_verdict = λ frame is.
      let some = has_verdict entries frame in
      record { verdict = some.verdict; has = some.has; only = λ v has. one_verdict entries frame v some.verdict clear is has some.has };
}

-- A table with one more entry.
pub table_more : (entries : List Entry) (e : Entry) → IsTable entries → length entries < most_entries → ContradictsNone entries e
    → IsTrue (in_range e) → IsTrue (asks_of_ip e)
    → IsTable (entries ++ e ∷ [])
table_more entries e table few none range asks =
    let more = accepted_more entries e table.accepted few none in
    table_of (entries ++ e ∷ []) more.0 more.1
    (list_all-append in_range entries (e ∷ []) ∙ and_from _ _ table.in_range (and_from _ _ range refl))
    (list_all-append asks_of_ip entries (e ∷ []) ∙ and_from _ _ table.asks (and_from _ _ asks refl))

pub empty_table : IsTable []
empty_table = table_of [] (omega arith) (λ i j pair. let there = pair.at_first in cc) refl refl
