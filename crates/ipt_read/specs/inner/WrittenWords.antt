-- The tokens of a formatted rule line.
use Rattle.std.specs.Prelude.{ℕ, Bool, true, false, ◌||◌, if◌then◌else◌, List, [], ◌∷◌, ◌++◌, Option, Some, None, is_some, codes}
use Rattle.host_net.specs.Prefix.{prefix_text}
use Rattle.host_net.specs.ServiceText.{protocol_text}
use Rattle.ipt_rules.specs.declared.rule.AddrMatch.{AddrMatch}
use Rattle.ipt_rules.specs.declared.rule.PortMatch.{PortMatch}
use Rattle.ipt_rules.specs.declared.rule.ProtoMatch.{ProtoMatch}
use Rattle.ipt_rules.specs.declared.rule.StateMatch.{StateMatch}
use Rattle.ipt_rules.specs.declared.rule.Rule.{Rule}
use Rattle.ipt_rules.specs.declared.rule.Target.{Target}
use Rattle.ipt_rules.specs.declared.rule.Target.TheVariants.{Accept, Drop, Reject, Return, Count, Jump}
use Rattle.ipt_rules.specs.Chain.{Chain, name_of}
use Rattle.ipt_rules.specs.Text.{ports_text, states_text}

abbrev pub bang_words : Bool → List (List ℕ)
bang_words true = codes "!" ∷ []
bang_words false = []

abbrev pub address_words : List ℕ → Option AddrMatch → List (List ℕ)
address_words option None = []
address_words option (Some part) = bang_words part.negated ++ (option ∷ prefix_text part.prefix ∷ [])

abbrev pub protocol_words : Option ProtoMatch → List (List ℕ)
protocol_words None = []
protocol_words (Some part) = bang_words part.negated ++ (codes "-p" ∷ protocol_text part.proto ∷ [])

abbrev pub module_words : Option ProtoMatch → Bool → List (List ℕ)
module_words None ports = []
module_words (Some part) ports = if ports then codes "-m" ∷ protocol_text part.proto ∷ [] else []

abbrev pub port_words : List ℕ → Option PortMatch → List (List ℕ)
port_words option None = []
port_words option (Some part) = bang_words part.negated ++ (option ∷ ports_text part.low part.high ∷ [])

abbrev pub service_words : Option ProtoMatch → Option PortMatch → Option PortMatch → List (List ℕ)
service_words proto sport dport =
    protocol_words proto
    ++ (module_words proto (is_some sport || is_some dport) ++ (port_words (codes "--sport") sport ++ port_words (codes "--dport") dport))

abbrev pub state_words : Option StateMatch → List (List ℕ)
state_words None = []
state_words (Some part) =
    codes "-m" ∷ codes "conntrack" ∷ (bang_words part.negated ++ (codes "--ctstate" ∷ states_text part.new part.established ∷ []))

abbrev pub target_words : List Chain → Target → List (List ℕ)
target_words chains Accept = codes "-j" ∷ codes "ACCEPT" ∷ []
target_words chains Drop = codes "-j" ∷ codes "DROP" ∷ []
target_words chains Reject = codes "-j" ∷ codes "REJECT" ∷ []
target_words chains Return = codes "-j" ∷ codes "RETURN" ∷ []
target_words chains Count = []
target_words chains (Jump c) = codes "-j" ∷ name_of chains c ∷ []

abbrev pub rule_pieces : List Chain → Rule → List (List ℕ)
rule_pieces chains r =
    address_words (codes "-s") r.src ++ (address_words (codes "-d") r.dst ++
    (service_words r.proto r.sport r.dport ++ (state_words r.state ++ target_words chains r.target)))

abbrev pub rule_words : List Chain → List ℕ → Rule → List (List ℕ)
rule_words chains name r = codes "-A" ∷ name ∷ rule_pieces chains r
