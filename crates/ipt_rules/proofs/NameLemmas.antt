-- A legal name has at most 64 bytes.
use Rattle.std.proofs.Common.{ℕ, ◌≤◌, IsTrue, List, length, arith}
use Rattle.std.proofs.lemmas.Bool.Decides.{nat_tests}
use Rattle.ipt_rules.specs.Name.{is_user_name}

pub user_name_fits : (name : List ℕ) → IsTrue (is_user_name name) → length name ≤ 64
unfolding is_user_name
user_name_fits name legal = grind (arith, nat_tests)
