-- The results of a session, case by case.
use Rattle.std.proofs.Common.{◌≡◌, ℕ, List, Some, Result, Ok, Err, refl, sym, ap, subst, ◌∙◌}
use Rattle.std.specs.BTreeMap.{BTreeMap}
use Rattle.std.specs.Prelude.{IfErr, IfOk, String}
use Rattle.std.specs.Result.{result_map_both}
use Rattle.std.specs.declared.alloc.Global.{Global}
use Rattle.desc_core.proofs.DescribeLemmas.{table_read, table_refused}
use Rattle.desc_core.proofs.MigrationLemmas.{read_document}
use Rattle.desc_core.specs.Description.{described, described_by_table}
use Rattle.desc_core.specs.inner.Parts.{table_of as table_of_bytes}
use Rattle.desc_core.specs.inner.Reads.{Reads}
use Rattle.desc_core.specs.declared.fault.DescFault.{DescFault}
use Rattle.desc_core.specs.declared.fault.DescFault.TheVariants as desc
use Rattle.desc_form.specs.declared.refusal.Refusal.{Refusal}
use Rattle.edit_core.specs.inner.EditFaults.{Gives, edit_fault}
use Rattle.edit_core.specs.Edited.{◌>>=◌, after_edit, edited, if_described}
use Rattle.edit_core.specs.inner.InPlace.{IsDone}
use Rattle.edit_core.specs.inner.Kept.{IsDescription, IsKept, Refuses, entries_of, table_of, table_of-entries_of}
use Rattle.edit_core.specs.Summaries.{IsStarted, Summarizes}
use Rattle.edit_core.specs.inner.Summaries.{IsApplied}
use Rattle.edit_core.specs.declared.fault.ChangeFault.{ChangeFault}
use Rattle.edit_core.specs.declared.fault.ChangeFault.TheVariants.{Refused, Memory}
use Rattle.edit_core.specs.declared.fault.EditWhy.{EditWhy}
use Rattle.edit_core.specs.declared.fault.EditWhy.TheVariants as why
use Rattle.edit_core.specs.declared.summary.Summary.{Summary}
use Rattle.edit_core.specs.Edit.{Change}
use Rattle.net_core.specs.Network.{Network}
use Rattle.net_core.specs.Policies.{Policy}
use Rattle.toml.specs.Data.{Members}
use Rattle.toml.specs.View.{table_view}
use Rattle.toml.specs.declared.value.Value.{Value}

abbrev Table : Type 0
Table = BTreeMap (String Global) Value

abbrev Entries : Type 0
Entries = List (List ℕ × Value)

-- ---- a start

pub no_table : (bytes : List ℕ) (fault : DescFault) → Reads {A = Members} (Err fault) (table_of_bytes bytes) → IsStarted bytes (Err fault)
no_table bytes (desc.Refused r) none = table_refused bytes (desc.Refused r) none
no_table bytes desc.Memory none = tt

same_table : (table : Table) (s : Entries) → s ≡ entries_of table → table_of s ≡ table_view table
same_table table s is = ap table_of is ∙ table_of-entries_of table

pub started : (bytes : List ℕ) (table : Table) (r : Result Entries DescFault) → table_of_bytes bytes ≡ Ok (table_view table)
    → IfOk r (λ s. s ≡ entries_of table) → IfOk r (λ s. IsDescription (table_of s)) → IfErr r (Refuses (table_view table))
    → IsStarted bytes (result_map_both table_of (λ fault. fault) r)
started bytes table (Ok s) read is described none =
    let same = same_table table s is in (
      read_document bytes (table_view table) read ∙ ap (λ (ms : Members). Some ms) (sym same),
      (described.0, table_read bytes (table_view table) read ∙ ap described_by_table (sym same) ∙ described.1, described.1),
    )
started bytes table (Err (desc.Refused r)) read is described none = table_read bytes (table_view table) read ∙ none
started bytes table (Err desc.Memory) read is described none = tt

-- ---- an edit

-- A successful edit, and the definition of the result of a table by its description.
abbrev goes_on : Result Members EditWhy → Result Members EditWhy
goes_on r = r >>= if_described

abbrev pub said_of : Members → Result Network Refusal → Result Members EditWhy
said_of table r = result_map_both (λ d. table) (λ refusal. why.Refused refusal.why) r

pub not_edited : (change : Change) (old : Members) (fault : ChangeFault) → Gives (edited change old) (Err fault) → IsApplied change old old (Err fault)
unfolding after_edit
not_edited change old (Refused reason) said = (ap goes_on said, refl)
not_edited change old Memory said = refl

pub not_described : (change : Change) (old new : Members) (fault : DescFault) → edited change old ≡ Ok new → Refuses new fault
    → IsApplied change old old (Err (edit_fault fault))
unfolding after_edit
not_described change old new (desc.Refused r) made none = (ap goes_on made ∙ ap (said_of new) none, refl)
not_described change old new desc.Memory made none = refl

pub applied : (change : Change) (old new : Members) (d : Network) (policy : Policy) (summary : Summary) → edited change old ≡ Ok new
    → IsKept new d policy → Summarizes d policy summary → IsApplied change old new (Ok summary)
unfolding after_edit
applied change old new d policy summary made kept tells = (ap goes_on made ∙ ap (said_of new) kept.described, (d, policy, kept.described, kept.is_policy, tells))

-- ---- the invariants, in terms of the entries

pub kept_now : (s : Entries) (table : Table) (d : Network) (policy : Policy) → entries_of table ≡ s → IsKept (table_view table) d policy
    → IsKept (table_of s) d policy
kept_now s table d policy is kept = record {
  described = ap (λ (t : Entries). described_by_table (table_of t)) (sym is) ∙ ap described_by_table (table_of-entries_of table) ∙ kept.described;
  is_policy = kept.is_policy;
}

-- ---- an edit, in terms of the entries

pub seen : (s : Entries) (table : Table) → entries_of table ≡ s → table_view table ≡ table_of s
seen s table is = sym (ap table_of (sym is) ∙ table_of-entries_of table)

pub not_edited_now : (change : Change) (s : Entries) (table : Table) (fault : ChangeFault) → entries_of table ≡ s
    → Gives {A = Members} (edited change (table_view table)) (Err fault) → IsApplied change (table_of s) (table_of s) (Err fault)
not_edited_now change s table fault is given =
    subst (λ (ms : Members). IsApplied change ms ms (Err fault)) (seen s table is) (not_edited change (table_view table) fault given)

pub not_described_now : (change : Change) (s : Entries) (table new : Table) (fault : DescFault) → entries_of table ≡ s
    → edited change (table_view table) ≡ Ok (table_view new) → Refuses (table_view new) fault
    → IsApplied change (table_of s) (table_of s) (Err (edit_fault fault))
not_described_now change s table new fault is made none =
    subst (λ (ms : Members). IsApplied change ms ms (Err (edit_fault fault))) (seen s table is)
    (not_described change (table_view table) (table_view new) fault made none)

pub applied_now : (change : Change) (s next : Entries) (table made inside : Table) (d : Network) (policy : Policy) (summary : Summary)
    → entries_of table ≡ s → edited change (table_view table) ≡ Ok (table_view made) → next ≡ entries_of made → entries_of inside ≡ next
    → IsKept (table_view inside) d policy → Summarizes d policy summary → IsApplied change (table_of s) (table_of (entries_of inside)) (Ok summary)
applied_now change s next table made inside d policy summary is given kept_as opened kept tells =
    let new : table_view made ≡ table_of (entries_of inside) = sym (ap table_of (opened ∙ kept_as) ∙ table_of-entries_of made) in
    let there : IsKept (table_of (entries_of inside)) d policy = kept_now (entries_of inside) inside d policy refl kept in
    applied change (table_of s) (table_of (entries_of inside)) d policy summary
    (ap (edited change) (sym (seen s table is)) ∙ given ∙ ap (λ (ms : Members). Ok ms) new) there tells

-- An in-place edit of the table.
pub done_now : (change said : Change) (s : Entries) (old new : Table) (summary : Summary) → entries_of old ≡ s → said ≡ change
    → IsDone said (table_view old) (table_view new) summary → IsApplied change (table_of s) (table_of (entries_of new)) (Ok summary)
done_now change said s old new summary is same done =
    subst (λ (x : Change). IsApplied x (table_of s) (table_of (entries_of new)) (Ok summary)) same
    (subst (λ (ms : Members). IsApplied said ms (table_of (entries_of new)) (Ok summary)) (seen s old is)
    (subst (λ (ms : Members). IsApplied said (table_view old) ms (Ok summary)) (sym (table_of-entries_of new)) done))
