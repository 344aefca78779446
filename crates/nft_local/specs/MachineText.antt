-- The text of the table of a machine, as `nft list table ip topos` prints it (nft(8), "TABLES", "CHAINS"). nft loads the text, and prints the
-- same text. The base chains are the last chains.
use Rattle.std.specs.Prelude.{ℕ, List, ◌∷◌, ◌++◌, codes}
use Rattle.std.specs.List.{concat}
use Rattle.nft_rules.specs.declared.table.Chain.{Chain}
use Rattle.nft_text.specs.Text.{chains_pieces, table_head}

-- The base chains: `input` and `output` continue in a chain of the table each, and `forward` drops each packet.
abbrev pub input_text : List ℕ
input_text = codes "\tchain input {\n\t\ttype filter hook input priority filter; policy drop;\n\t\tgoto input_own\n\t}\n\n"

abbrev pub forward_text : List ℕ
forward_text = codes "\tchain forward {\n\t\ttype filter hook forward priority filter; policy drop;\n\t}\n\n"

abbrev pub output_text : List ℕ
output_text = codes "\tchain output {\n\t\ttype filter hook output priority filter; policy drop;\n\t\tgoto output_own\n\t}\n}\n"

unfoldable pub machine_end : List ℕ
machine_end = input_text ++ (forward_text ++ output_text)

-- The head and the chains are those of a table that filters forwarded packets.
abbrev pub chains_text : List Chain → List ℕ
chains_text chains = concat (table_head ∷ chains_pieces chains chains)

abbrev pub machine_text : List Chain → List ℕ
machine_text chains = chains_text chains ++ machine_end
