use Rattle.std.proofs.Common.{ℕ, List, ◌++◌, ap, ◌∙◌, arith}
use Rattle.nft_local.specs.MachineText.{forward_text, output_text}
use Rattle.nft_local.proofs.TextLaws.{bare_length, machine_parts}
use Rattle.nft_local.proofs.text.machine_text_of.Goals as goal

pub overflow_sub-len : goal.overflow_sub-len
overflow_sub-len c =
    let long = bare_length c.args.table.now c.in_ok-text.text.items c.requires.empty c.in_ok-text.ensures in
    let counted = c.len.ensures ∙ c.in_ok-text.text.ok.0 in
    omega (arith, long, counted)

pub returns : goal.returns
returns c =
    let text = c.in_ok-text.text in
    c.in_ok-extend_from_slice-3.ensures.items
    ∙ ap (λ (xs : List ℕ). xs ++ output_text)
    (c.in_ok-extend_from_slice-2.ensures.items ∙ ap (λ (xs : List ℕ). xs ++ forward_text) c.in_ok-extend_from_slice.ensures.items)
    ∙ machine_parts c.args.table.now text.items c.truncate.new.self.items c.len.result c.requires.empty c.in_ok-text.ensures (c.len.ensures ∙ text.ok.0)
    c.truncate.ensures.items
