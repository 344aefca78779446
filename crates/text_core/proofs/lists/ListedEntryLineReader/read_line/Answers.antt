use Rattle.std.proofs.Common.{◌≡◌, ◌≤◌, length, map, Err, arith, rules, tests}
use Rattle.std.proofs.lemmas.List.{length-map}
use Rattle.text_core.specs.ListFormat.{too_many}
use Rattle.text_core.proofs.lists.ListedEntryLineReader.read_line.Goals as goal

pub returns-in_err-entry-clause-err : goal.returns-in_err-entry-clause-err
returns-in_err-entry-clause-err g c =
    let told : c.from_residual.result ≡ Err c.in_err-entry.field-0.0 = search (rules, tests) in
    rw told (c.in_err-entry.ensures.err (map g.R.EntryReader.told c.args.self.entries.items))

pub returns-then-len-most-clause-err : goal.returns-then-len-most-clause-err
returns-then-len-most-clause-err g c =
    let same = length-map c.args.self.entries.items g.R.EntryReader.told in
    let most = c.limits-most.ensures.limits in
    let full : g.R.EntryReader.list.most ≤ length (map g.R.EntryReader.told c.args.self.entries.items) = grind (arith, tests, same, most, c.if-len-most.true, c.len.ensures) in
    too_many (g.R.EntryReader.told c.in_ok-entry.entry) c.in_ok-entry.ensures.ok full
