-- The text of a table in the flow syntax of `ovs-ofctl`, line by line (ovs-ofctl(8), "Flow Syntax").
use Rattle.std.specs.Prelude.{ℕ, if◌then◌else◌, List, [], ◌∷◌, ◌++◌, Option, Some, None, map, codes, decimal}
use Rattle.std.specs.List.{concat}
use Rattle.host_net.specs.Prefix.{prefix_text}
use Rattle.host_net.specs.Service.{has_name}
use Rattle.host_net.specs.ServiceText.{protocol_text}
use Rattle.ofp_rules.specs.declared.entry.FrameKind.{FrameKind}
use Rattle.ofp_rules.specs.declared.entry.FrameKind.TheVariants.{Any, Arp, Ip}
use Rattle.ofp_rules.specs.declared.entry.Action.{Action}
use Rattle.ofp_rules.specs.declared.entry.Action.TheVariants.{Normal, Drop}
use Rattle.ofp_rules.specs.declared.entry.Entry.{Entry}

-- The text of the frames that an entry matches on. A protocol that has a name implies IPv4: the text is only the name.
abbrev pub kind_text : FrameKind → Option ℕ → List ℕ
kind_text Any proto = []
kind_text Arp proto = codes "arp,"
kind_text Ip None = codes "ip,"
kind_text Ip (Some proto) = if has_name proto then protocol_text proto ++ codes "," else codes "ip,nw_proto=" ++ (decimal proto ++ codes ",")

-- The text of a field: its name and its value. A field without a value has no text.
abbrev pub field_text : {A : Type 0} → (name : List ℕ) → (written : A → List ℕ) → Option A → List ℕ
field_text name written None = []
field_text name written (Some value) = name ++ (written value ++ codes ",")

abbrev pub action_text : Action → List ℕ
action_text Normal = codes "actions=NORMAL"
action_text Drop = codes "actions=drop"

unfoldable pub entry_line : Entry → List ℕ
entry_line e =
    codes "priority="
    ++ (decimal e.priority
    ++ (codes ","
    ++ (kind_text e.kind e.proto
    ++ (field_text (codes "nw_src=") prefix_text e.src
    ++ (field_text (codes "nw_dst=") prefix_text e.dst
    ++ (field_text (codes "tp_src=") decimal e.tp_src ++ (field_text (codes "tp_dst=") decimal e.tp_dst ++ (action_text e.action ++ 10 ∷ []))))))))

-- The lines of the text: one line for each entry, in order.
abbrev pub text_lines : List Entry → List (List ℕ)
text_lines entries = map entry_line entries

-- The text is the concatenation of its lines.
abbrev pub text : List Entry → List ℕ
text entries = concat (text_lines entries)
