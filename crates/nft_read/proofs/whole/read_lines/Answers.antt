use Rattle.std.proofs.Common.{◌≡◌, ◌∙◌, ◌+◌, ◌≤◌, ◌<◌, ℕ, List, ◌∷◌, Some, None, drop, length, add-one, refl, sym, ap, arith}
use Rattle.text_core.specs.Lines.{lines}
use Rattle.text_core.proofs.LinesLaws.{length-lines}
use Rattle.nft_read.proofs.WholeLaws.{drop_more, run_more}
use Rattle.nft_read.proofs.whole.read_lines.Goals as goal

counted : (n m : ℕ) (ls rest : List (List ℕ)) (line : List ℕ) → ls ≡ line ∷ rest → n + length ls ≡ m → n + 1 + length rest ≡ m
counted n m ls rest line is count = let one : length ls ≡ length rest + 1 = ap (λ xs. length xs) is ∙ sym (add-one (length rest)) in omega (arith, one, count)

small : (n m size : ℕ) (rest : List (List ℕ)) → n + 1 + length rest ≡ m → m ≤ size → size ≤ 67108864 → n + 1 < 4294967296
small n m size rest count few short = omega (arith, count, few, short)

pub overflow_add-number : goal.overflow_add-number
overflow_add-number c =
    let less = small c.loop-line.number (length (lines c.args.text.now)) (length c.args.text.now) c.next_line.new.self
    (counted c.loop-line.number (length (lines c.args.text.now)) c.loop-line.lines c.next_line.new.self c.in-Some.line.now c.in-Some.ensures.next
    c.loop-line.invariant.count)
    (length-lines c.args.text.now) c.requires in
    omega (arith, less)

pub loop-line-preserved : goal.loop-line-preserved
loop-line-preserved c =
    let ls = lines c.args.text.now in
    let here : drop c.loop-line.number ls ≡ c.in-Some.line.now ∷ c.next_line.new.self = sym c.loop-line.invariant.rest ∙ c.in-Some.ensures.next in
    record {
      count = counted c.loop-line.number (length ls) c.loop-line.lines c.next_line.new.self c.in-Some.line.now c.in-Some.ensures.next c.loop-line.invariant.count;
      rest = sym (drop_more ls c.loop-line.number c.in-Some.line.now c.next_line.new.self here);
      read = run_more ls c.loop-line.number c.in-Some.line.now c.next_line.new.self c.loop-line.reader (Some c.in-Ok-Some.next) here c.loop-line.invariant.read
          (sym c.in-Ok-Some.field-0-is ∙ c.in-Ok-Some.ensures);
    }

pub returns-in-Ok-None-clause-stopped : goal.returns-in-Ok-None-clause-stopped
returns-in-Ok-None-clause-stopped c =
    let ls = lines c.args.text.now in
    let here : drop c.loop-line.number ls ≡ c.in-Some.line.now ∷ c.next_line.new.self = sym c.loop-line.invariant.rest ∙ c.in-Some.ensures.next in (
      refl,
      run_more ls c.loop-line.number c.in-Some.line.now c.next_line.new.self c.loop-line.reader None here c.loop-line.invariant.read
          (sym c.in-Ok-None.field-0-is ∙ c.in-Ok-None.ensures),
    )
