use Rattle.std.proofs.Common.{sym, ◌∙◌, subst, IsTrue, List, ℕ}
use Rattle.ipt_rules.specs.Name.{is_user_name}
use Rattle.emit_core.proofs.LayoutLaws.{host_chain_name_legal}
use Rattle.emit_core.proofs.iptables.host_chain_name.Goals as goal

pub unwrap-requires : goal.unwrap-requires
unwrap-requires c =
    c.new.ensures.legal.1
    (subst (λ (x : List ℕ). IsTrue (is_user_name x)) (sym (c.as_bytes.ensures.value ∙ c.in_ok-text.ensures.ok))
    (host_chain_name_legal c.args.host c.ranges.host.fits))
