use Rattle.std.proofs.Common.{List, Ok, Err, map}
use Rattle.text_core.specs.ListFormat.{by_lines}
use Rattle.text_core.proofs.ListFormatLaws.{list_settled}
use Rattle.text_core.proofs.LineFormatLaws.{told_reading, told_fault}
use Rattle.text_core.proofs.lists.read_list.Goals as goal

pub returns-in-Ok-clause-only : goal.returns-in-Ok-clause-only
returns-in-Ok-clause-only g c = λ said reading.
    told_reading (by_lines g.R.EntryReader.list) (list_settled g.R.EntryReader.list c.requires.one c.requires.formed)
    (λ (told : List g.R.EntryReader.Told). told) c.args.bytes.now (Ok (map g.R.EntryReader.told c.in-Ok.listed.entries.items)) said
    (record { short = c.in-Ok.ensures.read.short; told = c.in-Ok.ensures.read.told; ends = tt }) tt reading

pub returns-in-Ok-clause-faulty : goal.returns-in-Ok-clause-faulty
returns-in-Ok-clause-faulty g c = λ line why fault.
    told_fault (by_lines g.R.EntryReader.list) (list_settled g.R.EntryReader.list c.requires.one c.requires.formed)
    (λ (told : List g.R.EntryReader.Told). told) c.args.bytes.now (Ok (map g.R.EntryReader.told c.in-Ok.listed.entries.items)) line why
    (record { short = c.in-Ok.ensures.read.short; told = c.in-Ok.ensures.read.told; ends = tt }) tt fault

pub returns-in-Err-clause-only : goal.returns-in-Err-clause-only
returns-in-Err-clause-only g c = λ said reading.
    told_reading (by_lines g.R.EntryReader.list) (list_settled g.R.EntryReader.list c.requires.one c.requires.formed)
    (λ (told : List g.R.EntryReader.Told). told) c.args.bytes.now (Err c.in-Err.fault) said tt c.in-Err.ensures.refused reading

pub returns-in-Err-clause-faulty : goal.returns-in-Err-clause-faulty
returns-in-Err-clause-faulty g c = λ line why fault.
    told_fault (by_lines g.R.EntryReader.list) (list_settled g.R.EntryReader.list c.requires.one c.requires.formed)
    (λ (told : List g.R.EntryReader.Told). told) c.args.bytes.now (Err c.in-Err.fault) line why tt c.in-Err.ensures.refused fault
