use Rattle.std.proofs.Common.{◌∙◌, ℕ, IsTrue, List, arith, subst, sym}
use Rattle.ipt_rules.specs.Name.{is_user_name}
use Rattle.nft_chains.proofs.NameLaws.{name_legal}
use Rattle.nft_chains.proofs.chains.chain_name.Goals as goal

pub unwrap-requires : goal.unwrap-requires
unwrap-requires c =
    c.new.ensures.legal.1
    (subst (λ (x : List ℕ). IsTrue (is_user_name x)) (sym (c.as_bytes.ensures.value ∙ c.in_ok-text.ensures.ok))
    (name_legal c.args.place (omega (arith, c.requires))))
