-- The range of each number of an entry that is in range.
use Rattle.std.proofs.Common.{◌≡◌, ◌<◌, ◌^◌, true, ◌&&◌, IsTrue, nat_lt, arith}
use Rattle.std.proofs.lemmas.Bool.{and_parts}
use Rattle.std.proofs.lemmas.Bool.Decides.{nat_tests}
use Rattle.ofp_rules.specs.declared.entry.Entry.{Entry}
use Rattle.ofp_rules.specs.inner.Ranges.{address_fits, in_range, number_fits}

pub record HasRoom (e : Entry) : Type 0 where
  pub priority : e.priority < 2 ^ 16
  pub src : IsTrue (address_fits e.src)
  pub dst : IsTrue (address_fits e.dst)
  pub proto : IsTrue (number_fits (2 ^ 8) e.proto)
  pub tp_src : IsTrue (number_fits (2 ^ 16) e.tp_src)
  pub tp_dst : IsTrue (number_fits (2 ^ 16) e.tp_dst)

pub in_range_parts : (e : Entry) → IsTrue (in_range e) → HasRoom e
in_range_parts e fits =
    let addresses = address_fits e.src && address_fits e.dst in
    let one = and_parts (nat_lt e.priority (2 ^ 16)) (number_fits (2 ^ 8) e.proto && (number_fits (2 ^ 16) e.tp_src && (number_fits (2 ^ 16) e.tp_dst && addresses))) fits in
    let two = and_parts (number_fits (2 ^ 8) e.proto) (number_fits (2 ^ 16) e.tp_src && (number_fits (2 ^ 16) e.tp_dst && addresses)) one.1 in
    let three = and_parts (number_fits (2 ^ 16) e.tp_src) (number_fits (2 ^ 16) e.tp_dst && addresses) two.1 in
    let four = and_parts (number_fits (2 ^ 16) e.tp_dst) addresses three.1 in
    let five = and_parts (address_fits e.src) (address_fits e.dst) four.1 in
    let small : nat_lt e.priority (2 ^ 16) ≡ true = one.0 in
    record {
      priority = grind (arith, nat_tests);
      src = five.0;
      dst = five.1;
      proto = two.0;
      tp_src = three.0;
      tp_dst = four.0;
    }
