use Rattle.std.proofs.Common.{Option, ℕ, ◌++◌, ◌∷◌, [], ◌∙◌, sym, subst}
use Rattle.host_net.specs.declared.tuple_space.Key.{Key}
use Rattle.host_net.specs.inner.CoverView.{Begins, IsFirstKey, SameBits}
use Rattle.host_net.proofs.CoverLemmas.{first_kept, first_next}
use Rattle.host_net.proofs.tuple_space.first_with.Goals as goal

pub returns-then-comes_before : goal.returns-then-comes_before
returns-then-comes_before c = λ seen order group first.
    first_kept seen c.args.group c.args.src c.args.dst c.args.from c.args.keys.now c.args.found (sym c.comes_before.ensures ∙ c.if-comes_before.true) group first

pub returns : goal.returns
returns c = λ seen order group first.
    let keys = c.args.keys.now in
    let next = subst (λ (k : Key). IsFirstKey (λ l. SameBits l k) keys k.place c.next_of-next.result) c.key_at.ensures (c.next_of-next.ensures order) in
    subst (λ (o : Option ℕ). IsFirstKey (Begins (seen ++ c.args.group ∷ []) c.args.src c.args.dst) keys c.args.from o) (sym c.earlier.ensures)
    (first_next seen c.args.group c.args.src c.args.dst c.args.from keys c.args.found c.next_of-next.result first next)
