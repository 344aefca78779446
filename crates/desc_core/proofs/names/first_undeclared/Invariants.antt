use Rattle.std.proofs.Common.{◌≡◌, ◌-◌, length, map, drop}
use Rattle.std.specs.List.{list_all}
use Rattle.std.specs.Prelude.{find, is_none, IsTrue}
use Rattle.desc_form.specs.inner.NameUseView.{mention_view}
use Rattle.desc_form.specs.Mentions.{NameUse}
use Rattle.host_net.specs.Host.{host_named}
use Rattle.text_core.specs.Name.{is_name}
use Rattle.desc_core.proofs.names.first_undeclared.Given as goal

abbrev pub invariant-loop-index : goal.invariant-loop-index
invariant-loop-index l = record {
  legal : IsTrue (list_all (λ (m : NameUse). is_name m.name) (map mention_view (drop l.index l.names)));
  same :
      find (λ (m : NameUse). is_none (host_named l.hosts m.name)) (map mention_view (drop l.index l.names))
      ≡ find (λ (m : NameUse). is_none (host_named l.hosts m.name)) (map mention_view l.names);
}

abbrev pub decreases-loop-index : goal.decreases-loop-index
decreases-loop-index l = length l.names - l.index
