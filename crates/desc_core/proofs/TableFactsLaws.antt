-- A table describes the network of its raw description if and only if the facts of TableFacts hold for it.
use Rattle.std.proofs.Common.{◌≡◌, Option, None, Ok, refl, subst}
use Rattle.std.specs.Option.{option_or}
use Rattle.toml.specs.Data.{Members}
use Rattle.desc_core.specs.Description.{described_by_table, ok_unless_refused}
use Rattle.desc_core.proofs.DescriptionLaws.{accepted, by_groups}
use Rattle.desc_core.specs.inner.TableFacts.{IsRight}
use Rattle.desc_core.specs.inner.UseFacts.{HasUses}
use Rattle.desc_core.proofs.UseFactsLaws.{has_uses}
use Rattle.desc_core.specs.RawNetwork.{network_of}
use Rattle.desc_form.specs.RawDescription.{written}
use Rattle.desc_form.proofs.RawDescriptionLaws.{formed_where_written, written_stands}
use Rattle.desc_form.proofs.RawUniqueLaws.{written_is}
use Rattle.desc_form.specs.declared.refusal.Refusal.{Refusal}
use Rattle.desc_form.proofs.FactsLaws.{has_hosts}
use Rattle.desc_form.specs.inner.HostFacts.{HasHosts}
use Rattle.net_core.specs.Network.{Network}

pub IsRight-described : (table : Members) (d : Network) → described_by_table table ≡ Ok d → IsRight table
IsRight-described table d said =
    let none = accepted table d said in
    record {
      w = written table;
      written = written_stands table none.form;
      hosts = (has_hosts (written table)).0 none.hosts;
      uses = (has_uses (written table)).0 none.uses;
    }

pub no_refusal : {A : Type 0} (o a b c : Option Refusal) (x : A) → o ≡ option_or a (option_or b c) → a ≡ None → b ≡ None → c ≡ None
    → ok_unless_refused o x ≡ Ok x
no_refusal o a b c x groups first second third = rw (groups, first, second, third) refl

-- A valid table is accepted.
pub described-IsRight : (table : Members) → IsRight table → described_by_table table ≡ Ok (network_of (written table))
unfolding described_by_table
described-IsRight table right =
    let same = written_is table right.w right.written in
    no_refusal _ _ _ _ (network_of (written table)) (by_groups table) (formed_where_written table right.w right.written)
    ((has_hosts (written table)).1 (subst HasHosts same right.hosts)) ((has_uses (written table)).1 (subst HasUses same right.uses))
