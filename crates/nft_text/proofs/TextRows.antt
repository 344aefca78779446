-- Parts of tables, each as nft 1.0.6 prints it.
use Rattle.std.proofs.Common.{◌≡◌, true, false, [], Some, None, refl}
use Rattle.std.specs.Prelude.{codes}
use Rattle.std.specs.Fmt.{digits}
use Rattle.host_net.specs.Prefix.{address_text, octet, prefix_text}
use Rattle.host_net.specs.PrefixView.{first_address, last_address}
use Rattle.nft_rules.specs.declared.table.End.TheVariants.{Source, Destination}
use Rattle.nft_rules.specs.declared.table.Verdict.TheVariants.{Accept, Drop}
use Rattle.nft_text.specs.Text.{chain_head, element_text, match_line, range_text}

row_state : match_line [] (record { established = true; service = None; verdict = Accept }) ≡ codes "\t\tct state established accept\n"
unfolding match_line
row_state = refl

row_verdict : match_line [] (record { established = false; service = None; verdict = Drop }) ≡ codes "\t\tdrop\n"
unfolding match_line
row_verdict = refl

row_protocol : match_line [] (record { established = false; service = Some (record { proto = 1; ports = None }); verdict = Accept })
    ≡ codes "\t\tmeta l4proto icmp accept\n"
unfolding match_line
row_protocol = refl

row_port : match_line [] (record {
  established = true;
  service = Some (record { proto = 6; ports = Some (record { end = Source; low = 22; high = 22 }) });
  verdict = Accept;
}) ≡ codes "\t\tct state established tcp sport 22 accept\n"
unfolding digits match_line
row_port = refl

row_ports : match_line [] (record {
  established = false;
  service = Some (record { proto = 17; ports = Some (record { end = Destination; low = 80; high = 90 }) });
  verdict = Drop;
}) ≡ codes "\t\tudp dport 80-90 drop\n"
unfolding digits match_line
row_ports = refl

row_address : range_text (record { first = 3; last = 3 }) ≡ codes "0.0.0.3"
unfolding address_text digits first_address last_address octet prefix_text range_text
row_address = refl

row_prefix : range_text (record { first = 167837696; last = 167903231 }) ≡ codes "10.1.0.0/16"
unfolding address_text digits first_address last_address octet prefix_text range_text
row_prefix = refl

row_range : range_text (record { first = 167837696; last = 167903230 }) ≡ codes "10.1.0.0-10.1.255.254"
unfolding address_text digits first_address last_address octet prefix_text range_text
row_range = refl

row_every : range_text (record { first = 0; last = 4294967295 }) ≡ codes "0.0.0.0/0"
unfolding address_text digits first_address last_address octet prefix_text range_text
row_every = refl

row_element : element_text [] (record { range = record { first = 3; last = 3 }; verdict = Drop }) [] ≡ codes "0.0.0.3 : drop }\n"
unfolding address_text digits element_text first_address last_address octet prefix_text range_text
row_element = refl

row_chain : chain_head (codes "from_web") ≡ codes "\tchain from_web {\n"
unfolding chain_head
row_chain = refl
