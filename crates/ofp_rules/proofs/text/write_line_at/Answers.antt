use Rattle.std.proofs.Common.{◌<◌, ◌∙◌, ap, length, List, ℕ, Some, arith, sym}
use Rattle.std.specs.Option.{option_map}
use Rattle.std.proofs.lemmas.List.{length-map}
use Rattle.std.proofs.lemmas.Option.{slice_get-map, slice_get_read}
use Rattle.ofp_rules.specs.Text.{entry_line}
use Rattle.ofp_rules.proofs.text.write_line_at.Goals as goal

pub bounds-entries-i : goal.bounds-entries-i
bounds-entries-i c = omega (arith, c.requires, length-map c.args.entries.now entry_line)

pub returns-clause-line : goal.returns-clause-line
returns-clause-line c =
    let within : c.args.i < length c.args.entries.now = omega (arith, c.requires, length-map c.args.entries.now entry_line) in
    slice_get-map entry_line c.args.entries.now c.args.i
    ∙ ap (option_map entry_line) (slice_get_read c.args.entries.now (length c.args.entries.now) c.args.i c.index-entries-i.result (omega arith) within c.index-entries-i.is)
    ∙ ap (λ (l : List ℕ). Some l) (sym c.write_entry_line.ensures.line)
