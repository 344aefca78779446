-- A network with one more or one fewer requested flow, and the flow that an edit may add or remove (docs/TEXTS.md).
use Rattle.std.specs.Prelude.{◌≡◌, ◌≢◌, ◌⊎◌, ℕ, not, List, [], ◌∷◌, filter, Some, IsFalse, IsTrue}
use Rattle.desc_core.specs.inner.Parts.{with_services}
use Rattle.desc_core.specs.inner.UseFacts.{AreServiceTexts}
use Rattle.desc_form.specs.Keys.{says_second, declared_version}
use Rattle.flow_set.specs.FlowSet.{has, with_flow}
use Rattle.flow_set.specs.inner.FlowSetView.{without_flow}
use Rattle.flow_set.specs.declared.flow.Flow.{Flow}
use Rattle.host_net.specs.Host.{host_named}
use Rattle.host_net.specs.Services.{RestrictedFlow, is_between}
use Rattle.host_net.specs.ServiceText.{service_of}
use Rattle.host_net.specs.declared.service.Service.{Service}
use Rattle.net_core.specs.Network.{Network}
use Rattle.table_core.specs.Listing.{each}
use Rattle.toml.specs.Data.{Members}

-- The network with one more requested flow, restricted to its services if it has any.
abbrev pub asking_more : Network → Flow → List Service → Network
asking_more d f ss = record d {
  asked = record { size = d.asked.size; flows = with_flow d.asked.flows f };
  services = with_services d.services f ss;
}

-- The restricted flows without one.
abbrev pub without_services : List RestrictedFlow → Flow → List RestrictedFlow
without_services ns f = filter (λ n. not (is_between f.from f.to n)) ns

-- The network with one fewer requested flow, and without its services.
abbrev pub asking_less : Network → Flow → Network
asking_less d f = record d {
  asked = record { size = d.asked.size; flows = without_flow d.asked.flows f };
  services = without_services d.services f;
}

-- The tokens are the names of two hosts and the services of a flow between them that is not requested yet. A table of a version other than
-- 2 has no services.
pub record IsRightFlow (table : Members) (d : Network) (words : List (List ℕ)) (f : Flow) (ss : List Service) : Type 0 where
  pub from : List ℕ
  pub to : List ℕ
  pub texts : List (List ℕ)
  pub said : words ≡ from ∷ to ∷ texts
  pub is_from : host_named d.hosts from ≡ Some f.from
  pub is_to : host_named d.hosts to ≡ Some f.to
  pub apart : f.from ≢ f.to
  pub fresh : IsFalse (has d.asked.flows f)
  pub services : each service_of texts ≡ Some ss
  pub valid : AreServiceTexts texts
  pub version : (texts ≡ []) ⊎ IsTrue (says_second (declared_version table))

-- A requested flow, given by the names of its hosts.
pub record IsAskedFlow (d : Network) (from to : List ℕ) (f : Flow) : Type 0 where
  pub is_from : host_named d.hosts from ≡ Some f.from
  pub is_to : host_named d.hosts to ≡ Some f.to
  pub asked : IsTrue (has d.asked.flows f)
