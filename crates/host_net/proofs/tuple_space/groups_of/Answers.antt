use Rattle.std.proofs.Common.{◌≡◌, ◌<◌, ◌+◌, ℕ, List, true, get_or, sym, subst, arith}
use Rattle.host_net.specs.declared.tuple_space.Group.{Group}
use Rattle.host_net.specs.declared.tuple_space.Key.{Key}
use Rattle.host_net.specs.inner.CoverView.{AreFirst, has_lengths}
use Rattle.host_net.proofs.CoverLemmas.{first_after, first_none, listed_all, listed_next, no_key}
use Rattle.host_net.proofs.tuple_space.groups_of.Goals as goal

pub loop-key-init : goal.loop-key-init
loop-key-init c = record {
  listed = λ j e low. absurd (omega (arith, low));
  first = λ all are. subst (λ (gs : List Group). AreFirst gs c.args.keys.now) (sym c.new-groups.ensures.items) (first_none c.args.keys.now);
}

pub loop-key-preserved : goal.loop-key-preserved
loop-key-preserved c =
    let keys = c.args.keys.now in
    let i = c.loop-key.key-index in
    let groups = c.loop-key.groups.items in
    let listed = c.loop-key.invariant.listed in
    record {
      listed =
          subst (λ (gs : List Group). (j : ℕ) (e : Key) → j < i + 1 → has_lengths gs (get_or keys j e).lengths ≡ true) (sym c.in_ok-note.ensures.ok)
          (listed_next keys i no_key groups c.loop-key-test.true listed);
      first = λ all are.
          subst (λ (gs : List Group). AreFirst gs keys) (sym c.in_ok-note.ensures.ok)
          (first_after keys i no_key groups c.loop-key-test.true listed all are (c.loop-key.invariant.first all are));
    }

pub returns-clause-listed : goal.returns-clause-listed
returns-clause-listed c = listed_all c.args.keys.now c.loop-key.key-index c.loop-key.groups.items (omega (arith, c.loop-key-test.false)) c.loop-key.invariant.listed
