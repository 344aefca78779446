-- One step of a loop over hosts that builds entries: the remaining entries before it, and after it.
use Rattle.std.proofs.Common.{◌≡◌, ℕ, ◌+◌, List, [], ◌∷◌, ◌++◌, Option, Some, drop, length, sym, ap, ◌∙◌, arith}
use Rattle.std.specs.Prelude.{slice_get, option_map}
use Rattle.std.proofs.lemmas.List.{drop_all}
use Rattle.host_net.specs.declared.prefix.Prefix.{Prefix}
use Rattle.host_net.specs.Host.{Host, rest_of}
use Rattle.host_net.specs.Site.{Site}
use Rattle.ofp_rules.specs.declared.entry.Entry.{Entry}
use Rattle.emit_core.proofs.Steps.{drop_here}
use Rattle.flow_set.specs.declared.flow.Flow.{Flow}
use Rattle.emit_core.specs.FlowTable.{arp_entry, between, flow_entries, for_each_host, other_entry, with_rest}
use Rattle.emit_core.specs.inner.KeptEntries.{KeptEntries, no_entries, with_entries, with_entry}
use Rattle.emit_core.proofs.EntrySteps.{in_parts}

-- After the last host no entry remains.
pub for_each_all : (written : ℕ → List Prefix → List Entry) (hosts : List Host) (i : ℕ) → i ≡ length hosts
    → for_each_host written i (drop i hosts) ≡ []
for_each_all written hosts i is = ap (for_each_host written i) (drop_all i hosts (omega arith))

-- The remaining entries for host i and those after it begin with the entries of host i.
pub host_left : (written : ℕ → List Prefix → List Entry) (hosts : List Host) (i : ℕ) (qs : List Prefix)
    → option_map (λ h. h.prefixes) (slice_get hosts i) ≡ Some qs
    → for_each_host written i (drop i hosts) ≡ written i qs ++ for_each_host written (i + 1) (drop (i + 1) hosts)
host_left written hosts i qs here =
    let found = drop_here hosts i qs here in
    ap (for_each_host written i) found.1 ∙ ap (λ (x : List Prefix). written i x ++ for_each_host written (i + 1) (drop (i + 1) hosts)) (sym found.2)

-- Adding the entries for host i: the remaining entries before are these entries, followed by the remaining entries now.
pub grow_host : (written : ℕ → List Prefix → List Entry) (hosts : List Host) (i : ℕ) (qs : List Prefix) (old new whole : KeptEntries)
    → option_map (λ h. h.prefixes) (slice_get hosts i) ≡ Some qs
    → with_entries old (for_each_host written i (drop i hosts)) ≡ whole
    → new ≡ with_entries old (written i qs)
    → with_entries new (for_each_host written (i + 1) (drop (i + 1) hosts)) ≡ whole
grow_host written hosts i qs old new whole here before step =
    ap (λ (x : KeptEntries). with_entries x (for_each_host written (i + 1) (drop (i + 1) hosts))) step
    ∙ sym (in_parts old (written i qs) (for_each_host written (i + 1) (drop (i + 1) hosts)))
    ∙ ap (with_entries old) (sym (host_left written hosts i qs here))
    ∙ before

-- The parts, in order.
pub put_together : (site : Site) (p : List Flow) (rest : Option ℕ) (none first second third all : KeptEntries) (arp other : Entry)
    → rest ≡ rest_of site.hosts → none ≡ no_entries → first ≡ with_entries none (between site p rest) → second ≡ with_entries first (with_rest site p rest)
    → third ≡ with_entry second arp → all ≡ with_entry third other → arp ≡ arp_entry → other ≡ other_entry
    → all ≡ with_entries no_entries (flow_entries site p)
unfolding flow_entries
put_together site p rest none first second third all arp other by_rest empty one two three four is_arp is_other =
    rw (four, three, two, one, empty, by_rest, is_arp, is_other) (
    sym (in_parts (with_entries no_entries (between site p (rest_of site.hosts))) (with_rest site p (rest_of site.hosts)) (arp_entry ∷ other_entry ∷ []))
    ∙ sym (in_parts no_entries (between site p (rest_of site.hosts)) (with_rest site p (rest_of site.hosts) ++ arp_entry ∷ other_entry ∷ []))
    )
