use Rattle.std.proofs.Common.{◌∙◌, length, refl, sym}
use Rattle.std.proofs.lemmas.Option.{slice_get_read}
use Rattle.nft_emit.proofs.classes.has_rules.Goals as goal

pub returns-in-Some : goal.returns-in-Some
returns-in-Some c = λ yes.
    let found = c.in-Some.ensures.lookup in
    record {
      chain = c.in-Some.chain.now;
      there = slice_get_read c.args.chains.now (length c.args.chains.now) c.args.number c.in-Some.chain.now refl found.3.0 found.1;
      rules_are = sym c.deref.ensures.value ∙ c.are_rules.ensures yes;
    }
