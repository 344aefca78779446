-- Lists of chains with the same text have the same contents.
use Rattle.std.proofs.Common.{◌≡◌, ℕ, ◌+◌, ◌-◌, ◌≤◌, List, [], ◌∷◌, ◌++◌, append_assoc, length, take, map, refl, sym, ap, ◌∙◌, arith}
use Rattle.std.specs.List.{concat}
use Rattle.std.specs.declared.vec.Vec.{Vec}
use Rattle.std.specs.Global.{Global}
use Rattle.std.proofs.Math.Seq.{take-append_seam}
use Rattle.std.proofs.lemmas.List.{append_cancel_right, length-append}
use Rattle.std.proofs.lemmas.List.Folds.{concat-append}
use Rattle.emit_core.specs.declared.direction.Direction.TheVariants.{Outbound}
use Rattle.nft_rules.specs.declared.table.Chain.{Chain}
use Rattle.nft_rules.specs.declared.table.Rule.{Rule}
use Rattle.nft_rules.specs.declared.table.Table.{Table}
use Rattle.nft_text.specs.Text.{chains_pieces, forward_head, rules_pieces, table_end, table_head, table_text}
use Rattle.nft_read.specs.Reading.{IsTable}
use Rattle.nft_read.specs.Shape.{TableShape, chain_shape}
use Rattle.nft_read.proofs.WholeLaws.{table_one}
use Rattle.nft_local.specs.HostTable.{CanBeLoaded}
use Rattle.nft_local.specs.MachineText.{chains_text, forward_text, input_text, machine_end, machine_text, output_text}

-- These elements, in a list whose other parts are those of another one.
abbrev pub list_like : {X Y : Type 0} → Vec Y Global → (xs : List X) → length xs ≤ 100000 → Vec X Global
list_like v xs few = record {
  ptr = v.ptr;
  len = length xs;
  cap = length xs;
  alloc = v.alloc;
  items = xs;
  ok = (refl, omega arith);
  small = omega (arith, few);
}

-- The table with these chains and without rules in its base chain.
abbrev pub bare_table : (xs : List Chain) → CanBeLoaded xs → Table
bare_table xs is =
    let name = (is.continues Outbound).1.name in
    record { forward = list_like name [] (omega arith); chains = list_like name xs is.few }

bare_loads : (xs : List Chain) (is : CanBeLoaded xs) → IsTable (bare_table xs is)
bare_loads xs is = record {
  loadable = record { few = is.few; forward = tt; back = is.back; named = is.named; distinct = is.distinct };
  chains = is.fits;
  forward = tt;
}

-- The text of a table without rules in its base chain.
abbrev bare_end : List ℕ
bare_end = concat (forward_head ∷ table_end ∷ [])

bare_text : (table : Table) → table.forward.items ≡ [] → table_text table ≡ chains_text table.chains.items ++ bare_end
bare_text table none =
    let all = table.chains.items in
    ap (λ (rs : List Rule). concat (table_head ∷ (chains_pieces all all ++ forward_head ∷ (rules_pieces all rs ++ table_end ∷ [])))) none
    ∙ ap (λ y. table_head ++ y) (concat-append (chains_pieces all all) (forward_head ∷ table_end ∷ []))
    ∙ sym (append_assoc table_head (concat (chains_pieces all all)) bare_end)

bare_end_length : length bare_end ≡ 79
unfolding forward_head table_end
bare_end_length = refl

pub bare_length : (table : Table) (text : List ℕ) → table.forward.items ≡ [] → text ≡ table_text table
    → length text ≡ length (chains_text table.chains.items) + 79
bare_length table text none is =
    ap (λ (t : List ℕ). length t) (is ∙ bare_text table none) ∙ length-append (chains_text table.chains.items) bare_end
    ∙ ap (λ n. length (chains_text table.chains.items) + n) bare_end_length

end_parts : input_text ++ (forward_text ++ output_text) ≡ machine_end
unfolding machine_end
end_parts = refl

-- The text of the table without its end, and the base chains of a machine behind it.
pub machine_parts : (table : Table) (text cut : List ℕ) (n : ℕ) → table.forward.items ≡ [] → text ≡ table_text table → n ≡ length text
    → cut ≡ take (n - 79) text → ((cut ++ input_text) ++ forward_text) ++ output_text ≡ machine_text table.chains.items
machine_parts table text cut n none is counted front =
    let chains = chains_text table.chains.items in
    let long = bare_length table text none is in
    let at : n - 79 ≡ length chains = ap (λ k. k - 79) (counted ∙ long) ∙ (let e : length chains + 79 - 79 ≡ length chains = omega arith in e) in
    let same : cut ≡ chains =
    front ∙ ap (λ k. take k text) at ∙ ap (take (length chains)) (is ∙ bare_text table none) ∙ take-append_seam chains bare_end in
    ap (λ xs. ((xs ++ input_text) ++ forward_text) ++ output_text) same ∙ append_assoc (chains ++ input_text) forward_text output_text
    ∙ append_assoc chains input_text (forward_text ++ output_text) ∙ ap (λ xs. chains ++ xs) end_parts

pub machine_text_once : (x y : List Chain) → CanBeLoaded x → CanBeLoaded y → machine_text x ≡ machine_text y → map chain_shape x ≡ map chain_shape y
machine_text_once x y p q same =
    ap (λ (s : TableShape). s.chains)
    (table_one (bare_table x p) (bare_table y q) (bare_loads x p) (bare_loads y q)
    (bare_text (bare_table x p) refl ∙ ap (λ t. t ++ bare_end) (append_cancel_right (chains_text x) (chains_text y) machine_end same)
    ∙ sym (bare_text (bare_table y q) refl)))
