-- Round trip: the text of a table parses to its entries.
use Rattle.std.proofs.Common.{◌≡◌, inr, ℕ, ◌+◌, ◌*◌, ◌<◌, ◌≤◌, List, [], ◌∷◌, ◌++◌, length, map, refl, sym, ap, subst, ◌∙◌, arith, append-nil, append_assoc, length-append}
use Rattle.std.specs.Prelude.{IsTrue}
use Rattle.std.specs.List.{list_all}
use Rattle.std.proofs.lemmas.Bool.{and_parts}
use Rattle.std.proofs.lemmas.Option.{slice_get_within}
use Rattle.text_core.specs.Lines.{lines}
use Rattle.text_core.proofs.LinesLaws.{lines_ended}
use Rattle.text_core.specs.Reading.{Follows}
use Rattle.ofp_rules.specs.declared.entry.Entry.{Entry}
use Rattle.ofp_rules.proofs.AddingLaws.{contradicts_none, get_before}
use Rattle.ofp_rules.specs.inner.Build.{IsAccepted, IsUnambiguous, IsTable}
use Rattle.ofp_rules.specs.Ambiguity.{most_entries}
use Rattle.ofp_rules.proofs.LineLaws.{entry_line_short}
use Rattle.ofp_rules.specs.Matching.{asks_of_ip}
use Rattle.ofp_rules.specs.inner.Ranges.{in_range, AreInRange}
use Rattle.ofp_rules.specs.Text.{text}
use Rattle.ofp_read.specs.Grammar.{AddsEntry}
use Rattle.ofp_read.specs.TextLines.{IsReadingOfFlows}
use Rattle.ofp_read.proofs.WrittenLaws.{bare_line, line_is, bare_writes, bare_lacks, bare_flow}

-- 1. Its length.

text_short : (entries : List Entry) → AreInRange entries → length (text entries) ≤ 124 * length entries
text_short [] range = omega arith
text_short (e ∷ es) range =
    let parts = and_parts (in_range e) (list_all in_range es) range in
    simp length-append (omega (arith, entry_line_short e parts.0, text_short es parts.1))

-- 2. Its lines.

lines_of : (entries : List Entry) → AreInRange entries → IsTrue (list_all asks_of_ip entries) → lines (text entries) ≡ map bare_line entries
lines_of [] range asks = refl
lines_of (e ∷ es) range asks =
    let parts = and_parts (in_range e) (list_all in_range es) range in
    let ask = and_parts (asks_of_ip e) (list_all asks_of_ip es) asks in
    ap (λ bs. lines (bs ++ text es)) (line_is e) ∙ ap lines (append_assoc (bare_line e) (10 ∷ []) (text es)) ∙ lines_ended (bare_line e)
    (text es) (bare_lacks e parts.0 ask.0)
    ∙ ap (λ ls. bare_line e ∷ ls) (lines_of es parts.1 ask.1)

-- If the entries of a list are free of conflicts, so are the entries of a prefix.
clear_front : (xs ys : List Entry) → IsUnambiguous (xs ++ ys) → IsUnambiguous xs
clear_front xs ys clear i j pair =
    let earlier = pair.earlier in
    let within = slice_get_within xs j pair.second pair.at_second in
    clear i j (record {
      first = pair.first;
      second = pair.second;
      at_first = get_before xs ys i (omega arith) ∙ pair.at_first;
      at_second = get_before xs ys j within ∙ pair.at_second;
      earlier = pair.earlier;
      contradict = pair.contradict;
    })

few_before : (before rest : List Entry) (e : Entry) → length (before ++ e ∷ rest) ≤ most_entries → length before < most_entries
few_before before rest e few = omega (arith, simp length-append at few)

entries_follow : (n : ℕ) (before rest : List Entry) → IsAccepted (before ++ rest) → IsTrue (list_all asks_of_ip rest)
    → AreInRange rest → Follows AddsEntry n before (map bare_line rest) (before ++ rest)
entries_follow n before [] accepted asks range = sym (append-nil before)
entries_follow n before (e ∷ rest) accepted asks range =
    let ask = and_parts (asks_of_ip e) (list_all asks_of_ip rest) asks in
    let fit = and_parts (in_range e) (list_all in_range rest) range in
    let whole : (before ++ e ∷ []) ++ rest ≡ before ++ e ∷ rest = append_assoc before (e ∷ []) rest in
    let moved : IsAccepted ((before ++ e ∷ []) ++ rest) = subst IsAccepted (sym whole) accepted in
    inr (
      before ++ e ∷ [],
      bare_flow e,
      (
        e,
        bare_writes e fit.0 ask.0,
        few_before before rest e accepted.0,
        contradicts_none before e (clear_front (before ++ e ∷ []) rest moved.1),
        refl,
      ),
      subst (λ (all : List Entry). Follows AddsEntry (n + 1) (before ++ e ∷ []) (map bare_line rest) all) whole
          (entries_follow (n + 1) (before ++ e ∷ []) rest moved ask.1 fit.1),
    )

pub text_read_again : (entries : List Entry) → IsTable entries → IsReadingOfFlows (text entries) entries
text_read_again entries table =
    let few = table.accepted.0 in
    record {
      short = omega (arith, text_short entries table.in_range);
      told = subst (λ (ls : List (List ℕ)). Follows AddsEntry 1 [] ls entries) (sym (lines_of entries table.in_range table.asks))
          (entries_follow 1 [] entries table.accepted table.asks table.in_range);
      ends = tt;
    }
