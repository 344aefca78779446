-- The table of an accepted document is shallow: at most seven levels, from the document to a string in an array of an assign, without
-- dates, times and floats.
use Rattle.std.proofs.Common.{◌≡◌, ℕ, true, List, [], ◌∷◌, Option, Some, None, option_and_then, option_map, Ok, refl, subst}
use Rattle.std.specs.List.{AllByRecursion, AllZip}
use Rattle.toml.specs.Data.{Members, table, members_are_sorted}
use Rattle.attr_core.specs.Assigns.{Given}
use Rattle.attr_core.specs.Forms.{bad_assign}
use Rattle.attr_core.proofs.ShallowLaws.{IsShallowGiven, assigns_shallow, kinds_shallow}
use Rattle.desc_core.specs.Choices.{Choice, OneOfTen, OwnTable, choice_form, declared_by}
use Rattle.desc_form.specs.RawTemplate.{RawTemplate}
use Rattle.desc_core.proofs.WholeLaws.{IsDescribedByTable-described}
use Rattle.desc_core.specs.Description.{described_by_table}
use Rattle.desc_core.specs.inner.Whole.{IsInvariantOf}
use Rattle.desc_core.specs.RawNetwork.{given_by}
use Rattle.desc_form.proofs.ShallowFormLaws.{AreShallowAssigns, IsShallowAssign, written_shallow}
use Rattle.desc_form.specs.RawDescription.{RawAssign, RawInvariant}
use Rattle.host_net.specs.Host.{Host, host_named}
use Rattle.inv_any.specs.declared.any_inv.AnyInv.{AnyInv}
use Rattle.net_core.specs.Network.{Network}
use Rattle.table_core.specs.Listing.{each}
use Rattle.table_core.specs.Shallow.{IsShallow}

-- An assign and its resolved form have the same table.
given_table : (hosts : List Host) (a : RawAssign) (g : Given) → given_by hosts a ≡ Some g → IsShallowGiven g → IsShallowAssign a
given_table hosts a g gives shallow = by_host (host_named hosts a.host) gives
  where
    by_host : (o : Option ℕ) → option_map (λ host. record { host = host; table = a.table }) o ≡ Some g → IsShallowAssign a
    by_host None gives = cc
    by_host (Some host) gives = let same : g.table ≡ a.table = cc in subst (λ (t : Members). members_are_sorted t ≡ true → IsShallow 2 (table t)) same shallow

given_by_each : (hosts : List Host) (ws : List RawAssign) (here : Option Given) (rest : Option (List Given)) (a : RawAssign) (gs : List Given)
    → given_by hosts a ≡ here → ((others : List Given) → rest ≡ Some others → AllByRecursion IsShallowGiven others → AllByRecursion IsShallowAssign ws)
    → option_and_then (λ g. option_map (λ more. g ∷ more) rest) here ≡ Some gs → AllByRecursion IsShallowGiven gs → AllByRecursion IsShallowAssign (a ∷ ws)
given_by_each hosts ws None rest a gs is behind gives all = cc
given_by_each hosts ws (Some g) None a gs is behind gives all = cc
given_by_each hosts ws (Some g) (Some others) a [] is behind gives all = cc
given_by_each hosts ws (Some g) (Some others) a (h ∷ hs) is behind gives (first, all) =
    let same : h ≡ g = cc in
    let same_rest : hs ≡ others = cc in (
      given_table hosts a g is (subst IsShallowGiven same first),
      behind others refl (subst (AllByRecursion IsShallowGiven) same_rest all),
    )

assigns_are : (hosts : List Host) (ws : List RawAssign) (gs : List Given) → each (given_by hosts) ws ≡ Some gs → AllByRecursion IsShallowGiven gs
    → AllByRecursion IsShallowAssign ws
assigns_are hosts [] gs gives all = tt
assigns_are hosts (a ∷ ws) gs gives all =
    given_by_each hosts ws (given_by hosts a) (each (given_by hosts) ws) a gs refl (λ others. assigns_are hosts ws others) gives all

choice_shallow : (hosts : List Host) (c : Choice) (assigns : List Given) → bad_assign (choice_form c) hosts assigns ≡ None → AllByRecursion IsShallowGiven assigns
choice_shallow hosts (OneOfTen t) assigns good = assigns_shallow hosts t assigns good
choice_shallow hosts (OwnTable t) assigns good = kinds_shallow hosts (declared_by t) assigns good

invariants_are : (ts : List RawTemplate) (hosts : List Host) (is : List RawInvariant) (made : List AnyInv) → AllZip (IsInvariantOf ts hosts) is made
    → AllByRecursion AreShallowAssigns is
invariants_are ts hosts [] made zipped = tt
invariants_are ts hosts (i ∷ is) [] zipped = absurd zipped
invariants_are ts hosts (i ∷ is) (inv ∷ made) (whole, zipped) =
    (assigns_are hosts i.assigns whole.assigns whole.given (choice_shallow hosts whole.template whole.assigns whole.good), invariants_are ts hosts is made zipped)

pub accepted_shallow : (ms : Members) (d : Network) → members_are_sorted ms ≡ true → described_by_table ms ≡ Ok d → IsShallow 6 (table ms)
accepted_shallow ms d sorted said =
    let is = IsDescribedByTable-described ms d said in
    written_shallow ms is.w sorted is.written (invariants_are is.w.templates d.hosts is.w.invariants d.invariants is.whole.invariants)
