-- The text of a formatted rule line is its tokens, separated by one blank.
use Rattle.std.proofs.Common.{◌≡◌, ℕ, Bool, true, false, ◌||◌, List, [], ◌∷◌, ◌++◌, append-nil, append_assoc, Option, Some, None, refl, sym, ap, ◌∙◌}
use Rattle.std.specs.Prelude.{codes, is_some}
use Rattle.text_core.proofs.SpacedLaws.{behind, spaced, behind-append}
use Rattle.host_net.specs.Prefix.{prefix_text}
use Rattle.host_net.specs.ServiceText.{protocol_text}
use Rattle.ipt_rules.specs.declared.rule.AddrMatch.{AddrMatch}
use Rattle.ipt_rules.specs.declared.rule.PortMatch.{PortMatch}
use Rattle.ipt_rules.specs.declared.rule.ProtoMatch.{ProtoMatch}
use Rattle.ipt_rules.specs.declared.rule.StateMatch.{StateMatch}
use Rattle.ipt_rules.specs.declared.rule.Rule.{Rule}
use Rattle.ipt_rules.specs.declared.rule.Target.{Target}
use Rattle.ipt_rules.specs.declared.rule.Target.TheVariants.{Accept, Drop, Reject, Return, Count, Jump}
use Rattle.ipt_rules.specs.Chain.{Chain, name_of}
use Rattle.ipt_rules.specs.Text.{newline, negation_text, address_text, protocol_part_text, module_text, port_text, ports_text, service_text, state_text, states_text, target_text, rule_line}
use Rattle.ipt_read.specs.inner.WrittenWords.{bang_words, address_words, protocol_words, module_words, port_words, service_words, state_words, target_words, rule_pieces, rule_words}

-- An option and its value, if a blank precedes and follows the option.
option_behind : (text option value : List ℕ) → text ≡ 32 ∷ (option ++ (32 ∷ [])) → text ++ value ≡ behind (option ∷ value ∷ [])
option_behind text option value is =
    ap (λ v. v ++ value) is
    ∙ ap (λ (v : List ℕ). 32 ∷ v) (append_assoc option (32 ∷ []) value ∙ ap (λ v. option ++ (32 ∷ v)) (sym (append-nil value)))

signed_behind : (text option value : List ℕ) (negated : Bool) → text ≡ 32 ∷ (option ++ (32 ∷ []))
    → negation_text negated ++ (text ++ value) ≡ behind (bang_words negated ++ (option ∷ value ∷ []))
signed_behind text option value true is = ap (λ v. codes " !" ++ v) (option_behind text option value is)
signed_behind text option value false is = option_behind text option value is

address_behind : (text option : List ℕ) (o : Option AddrMatch) → text ≡ 32 ∷ (option ++ (32 ∷ []))
    → address_text text o ≡ behind (address_words option o)
address_behind text option None is = refl
address_behind text option (Some part) is = signed_behind text option (prefix_text part.prefix) part.negated is

protocol_behind : (o : Option ProtoMatch) → protocol_part_text o ≡ behind (protocol_words o)
protocol_behind None = refl
protocol_behind (Some part) = signed_behind (codes " -p ") (codes "-p") (protocol_text part.proto) part.negated refl

module_behind : (o : Option ProtoMatch) (ports : Bool) → module_text o ports ≡ behind (module_words o ports)
module_behind None ports = refl
module_behind (Some part) true = option_behind (codes " -m ") (codes "-m") (protocol_text part.proto) refl
module_behind (Some part) false = refl

port_behind : (text option : List ℕ) (o : Option PortMatch) → text ≡ 32 ∷ (option ++ (32 ∷ []))
    → port_text text o ≡ behind (port_words option o)
port_behind text option None is = refl
port_behind text option (Some part) is = signed_behind text option (ports_text part.low part.high) part.negated is

four_behind : (p q r s : List (List ℕ)) (a b c d : List ℕ) → a ≡ behind p → b ≡ behind q → c ≡ behind r → d ≡ behind s
    → a ++ (b ++ (c ++ d)) ≡ behind (p ++ (q ++ (r ++ s)))
four_behind p q r s a b c d e f g h =
    (λ i. e i ++ (f i ++ (g i ++ h i)))
    ∙ sym (behind-append p (q ++ (r ++ s))
    ∙ ap (λ v. behind p ++ v) (behind-append q (r ++ s) ∙ ap (λ v. behind q ++ v) (behind-append r s)))

service_behind : (proto : Option ProtoMatch) (sport dport : Option PortMatch)
    → service_text proto sport dport ≡ behind (service_words proto sport dport)
service_behind proto sport dport =
    four_behind (protocol_words proto) (module_words proto (is_some sport || is_some dport)) (port_words (codes "--sport") sport)
    (port_words (codes "--dport") dport) (protocol_part_text proto) (module_text proto (is_some sport || is_some dport))
    (port_text (codes " --sport ") sport) (port_text (codes " --dport ") dport) (protocol_behind proto)
    (module_behind proto (is_some sport || is_some dport)) (port_behind (codes " --sport ") (codes "--sport") sport refl)
    (port_behind (codes " --dport ") (codes "--dport") dport refl)

state_by : (negated : Bool) (value : List ℕ)
    → codes " -m conntrack" ++ (negation_text negated ++ (codes " --ctstate " ++ value))
    ≡ behind (codes "-m" ∷ codes "conntrack" ∷ (bang_words negated ++ (codes "--ctstate" ∷ value ∷ [])))
state_by negated value = ap (λ v. codes " -m conntrack" ++ v) (signed_behind (codes " --ctstate ") (codes "--ctstate") value negated refl)

state_behind : (o : Option StateMatch) → state_text o ≡ behind (state_words o)
state_behind None = refl
state_behind (Some part) = state_by part.negated (states_text part.new part.established)

target_behind : (chains : List Chain) (t : Target) → target_text chains t ≡ behind (target_words chains t)
target_behind chains Accept = refl
target_behind chains Drop = refl
target_behind chains Reject = refl
target_behind chains Return = refl
target_behind chains Count = refl
target_behind chains (Jump c) = option_behind (codes " -j ") (codes "-j") (name_of chains c) refl

pieces_behind : (chains : List Chain) (r : Rule)
    → address_text (codes " -s ") r.src ++ (address_text (codes " -d ") r.dst ++
    (service_text r.proto r.sport r.dport ++ (state_text r.state ++ target_text chains r.target))) ≡ behind (rule_pieces chains r)
pieces_behind chains r =
    ap (λ v. address_text (codes " -s ") r.src ++ v)
    (four_behind (address_words (codes "-d") r.dst) (service_words r.proto r.sport r.dport) (state_words r.state) (target_words chains r.target)
    (address_text (codes " -d ") r.dst) (service_text r.proto r.sport r.dport) (state_text r.state) (target_text chains r.target)
    (address_behind (codes " -d ") (codes "-d") r.dst refl) (service_behind r.proto r.sport r.dport) (state_behind r.state)
    (target_behind chains r.target))
    ∙ ap (λ v. v ++ behind (address_words (codes "-d") r.dst ++ (service_words r.proto r.sport r.dport ++ (state_words r.state ++ target_words chains r.target))))
    (address_behind (codes " -s ") (codes "-s") r.src refl)
    ∙ sym (behind-append (address_words (codes "-s") r.src)
    (address_words (codes "-d") r.dst ++ (service_words r.proto r.sport r.dport ++ (state_words r.state ++ target_words chains r.target))))

six_joined : (a b c d e f g : List ℕ) → a ++ (b ++ (c ++ (d ++ (e ++ (f ++ g))))) ≡ (a ++ (b ++ (c ++ (d ++ (e ++ f))))) ++ g
six_joined a b c d e f g = simp append_assoc

pub rule_line_spaced : (chains : List Chain) (name : List ℕ) (r : Rule)
    → rule_line chains name r ≡ spaced (rule_words chains name r) ++ newline
unfolding rule_line
rule_line_spaced chains name r =
    ap (λ v. codes "-A " ++ v)
    (six_joined name (address_text (codes " -s ") r.src) (address_text (codes " -d ") r.dst) (service_text r.proto r.sport r.dport)
    (state_text r.state) (target_text chains r.target) newline
    ∙ ap (λ v. (name ++ v) ++ newline) (pieces_behind chains r))
