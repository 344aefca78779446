use Rattle.std.proofs.Common.{◌≡◌, ◌<◌, ℕ, length, ◌∙◌, ap, sym, subst, List, Some, bytes_eq}
use Rattle.std.specs.Prelude.{IsTrue}
use Rattle.std.proofs.lemmas.Slice.Eq.{bytes_eq-Decides}
use Rattle.ipt_rules.specs.Chain.{Chain, name_of, number_of}
use Rattle.ipt_rules.proofs.chains.Chains.find.Goals as goal

-- A chain with the name is the chain that is found by it.
found : (xs ys zs : List Chain) (number : ℕ) (name : List ℕ) → xs ≡ ys → ys ≡ zs → number_of ys (name_of ys number) ≡ Some number
    → IsTrue (bytes_eq (name_of xs number) name) → Some number ≡ number_of zs name
found xs ys zs number name first second is named =
    let there : IsTrue (bytes_eq (name_of ys number) name) = subst (λ (cs : List Chain). IsTrue (bytes_eq (name_of cs number) name)) first named in
    sym is ∙ (ap (number_of ys) ((bytes_eq-Decides (name_of ys number) name).0 there) ∙ ap (λ (cs : List Chain). number_of cs name) second)

pub returns-in-Some : goal.returns-in-Some
returns-in-Some c =
    let xs = c.self.inside.chains.items in
    let within : c.in-Some.number < length xs = subst (λ (cs : List Chain). c.in-Some.number < length cs) c.deref.ensures.value c.in-Some.ensures.within in
    found c.deref.result.now xs c.args.self.now c.in-Some.number c.args.name.now c.deref.ensures.value c.self.view_is
    (c.self.invariant.table.found c.in-Some.number within) c.in-Some.ensures.named
