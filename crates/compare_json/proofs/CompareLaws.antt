-- Laws of a comparison: its differences are between hosts, and an empty list has one text.
use Rattle.std.proofs.Common.{◌≡◌, ◌<◌, ◌∙◌, ℕ, List, [], ◌∷◌, ◌++◌, Option, length, refl, sym, ap, subst}
use Rattle.std.proofs.lemmas.List.Elements.{All-cons, All-nil}
use Rattle.std.specs.Prelude.{All, codes}
use Rattle.std.specs.Option.{ForSome}
use Rattle.policy_space.proofs.FlowLaws.{owner_below}
use Rattle.audit_core.specs.Pairs.{AreDifferences, AreListedFor, Case, IsDifference, IsListedFor, all_cases}
use Rattle.header_space.specs.Owners.{owners_of}
use Rattle.audit_core.specs.Sides.{Sides}
use Rattle.audit_core.specs.declared.difference.Difference.{Difference}
use Rattle.host_net.specs.Host.{Host, owner_of}
use Rattle.compare_json.specs.CompareJson.{compare_json}
use Rattle.json_core.specs.Json.{array_json, separated}
use Rattle.compare_json.specs.inner.Fitting.{FitsDifference}

-- An owner of an address is a host of the list, or nobody.
owner_fits : (hosts : List Host) (a : ℕ) (owner : Option ℕ) → owner_of hosts a ≡ owner → ForSome owner (λ host. host < length hosts)
owner_fits hosts a owner is = λ host there. owner_below hosts a host (is ∙ there)

module _ (sides : Sides) where
  difference_fits : (c : Case) (d : Difference) → IsDifference sides c d → FitsDifference sides.policy.site.hosts d
  difference_fits c d is = record {
    source = owner_fits sides.policy.site.hosts is.packet.src d.from (is.of_pair.src ∙ sym (ap (λ (x : Difference). x.from) is.is));
    destination = owner_fits sides.policy.site.hosts is.packet.dst d.to (is.of_pair.dst ∙ sym (ap (λ (x : Difference). x.to) is.is));
  }

  case_fits : (c : Case) (one rest : List Difference) → IsListedFor sides c one → All (FitsDifference sides.policy.site.hosts) rest
      → All (FitsDifference sides.policy.site.hosts) (one ++ rest)
  case_fits c [] rest listed fits = fits
  case_fits c (d ∷ []) rest listed fits = All-cons (FitsDifference sides.policy.site.hosts) d rest (difference_fits c d listed) fits
  case_fits c (d ∷ e ∷ ds) rest listed fits = absurd listed

  listed_fit : (cs : List Case) (ds : List Difference) → AreListedFor sides cs ds → All (FitsDifference sides.policy.site.hosts) ds
  listed_fit [] ds listed = subst (λ (l : List Difference). All (FitsDifference sides.policy.site.hosts) l) (sym listed) (All-nil (FitsDifference sides.policy.site.hosts))
  listed_fit (c ∷ cs) ds listed =
      subst (λ (l : List Difference). All (FitsDifference sides.policy.site.hosts) l) (sym listed.2)
      (case_fits c listed.0 listed.1 listed.3 (listed_fit cs listed.1 listed.4))

  -- The owners of the differences are hosts, or nobody.
  pub differences_fit : (ds : List Difference) → AreDifferences sides ds → All (FitsDifference sides.policy.site.hosts) ds
  differences_fit ds are = listed_fit (all_cases (owners_of sides.policy.site.hosts) (owners_of sides.policy.site.hosts)) ds are

-- The text of no differences.
pub equal_text : (hosts : List Host) → compare_json hosts [] ≡ codes "{\"version\":1,\"equal\":true,\"differences\":[]}\n"
unfolding compare_json array_json separated
equal_text hosts = refl
