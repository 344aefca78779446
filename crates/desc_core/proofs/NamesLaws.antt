-- The names that refer to hosts: they are valid names, and they are names of hosts.
use Rattle.std.proofs.Common.{◌≡◌, ◌≢◌, ℕ, ◌+◌, Bool, true, false, not, ◌||◌, List, [], ◌∷◌, map, Option, Some, None, option_map, is_none, refl, sym, ap, ◌∙◌}
use Rattle.std.proofs.lemmas.Bool.{and_parts}
use Rattle.std.proofs.lemmas.List.Folds.{list_all-append}
use Rattle.std.specs.List.{find, list_all, list_any, position_from}
use Rattle.std.specs.Prelude.{if◌then◌else◌}
use Rattle.std.specs.Str.{bytes_eq}
use Rattle.desc_core.specs.UseConditions.{is_declared, undeclared_host}
use Rattle.text_core.specs.FirstMatch.{first_of, numbered}
use Rattle.desc_form.specs.inner.Refused.{refused_name}
use Rattle.desc_form.specs.RawDescription.{RawDescription, RawHost}
use Rattle.desc_form.specs.declared.refusal.Why.TheVariants.{UndeclaredHost}
use Rattle.desc_form.specs.HostConditions.{host_conditions}
use Rattle.desc_form.proofs.HostsLaws.{legal_names}
use Rattle.desc_form.specs.Mentions.{NameUse, all_names, used_names}
use Rattle.desc_form.specs.inner.NameUseView.{host_name}
use Rattle.desc_form.specs.RawHosts.{network_host, network_hosts}
use Rattle.host_net.specs.Host.{host_named}
use Rattle.text_core.specs.Name.{is_name}

pub are_names : (w : RawDescription) → first_of (host_conditions w) ≡ None → list_all (λ (m : NameUse). is_name m.name) (used_names w) ≡ true
unfolding all_names
are_names w free =
    let hosts = map host_name (numbered w.hosts) in
    let both = and_parts (list_all (λ (m : NameUse). is_name m.name) hosts) _ (sym (list_all-append (λ (m : NameUse). is_name m.name) hosts (used_names w)) ∙ legal_names w free) in
    both.1

nowhere_by : (b : Bool) (n : ℕ) (o : Option ℕ) (c : Bool) → is_none o ≡ not c → is_none (if b then Some n else o) ≡ not (b || c)
nowhere_by true n o c later = refl
nowhere_by false n o c later = later

nowhere : (name : List ℕ) (n : ℕ) (hs : List RawHost)
    → is_none (position_from (λ h. bytes_eq name h.name) n (map network_host hs)) ≡ not (list_any (λ (h : RawHost). bytes_eq name h.name) hs)
nowhere name n [] = refl
nowhere name n (h ∷ hs) = nowhere_by (bytes_eq name h.name) n _ _ (nowhere name (n + 1) hs)

pub undeclared : (w : RawDescription) (name : List ℕ) → is_none (host_named (network_hosts w) name) ≡ not (is_declared w name)
unfolding network_hosts
undeclared w name = nowhere name 0 w.hosts

pub undeclared_is : (w : RawDescription)
    → option_map (λ (m : NameUse). refused_name UndeclaredHost m.place m.item m.name) (find (λ m. is_none (host_named (network_hosts w) m.name)) (used_names w)) ≡ undeclared_host w
unfolding undeclared_host
undeclared_is w = λ i. option_map (λ (m : NameUse). refused_name UndeclaredHost m.place m.item m.name) (find (λ m. (undeclared w m.name) i) (used_names w))

-- If a name is undeclared, one of the names is not that of a host.
pub undeclared_found : (w : RawDescription) → undeclared_host w ≢ None → find (λ (m : NameUse). is_none (host_named (network_hosts w) m.name)) (used_names w) ≢ None
undeclared_found w some none = some (sym (undeclared_is w) ∙ ap (option_map (λ (m : NameUse). refused_name UndeclaredHost m.place m.item m.name)) none)
