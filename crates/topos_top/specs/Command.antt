-- The commands of the command line (docs/GUIDE.md): one constructor per command form, with all its arguments.
use Rattle.std.specs.Prelude.{◌≡◌, ℕ, ◌<◌, ◌≤◌, List, [], ◌∷◌, ◌++◌, Bool, true, false, IsTrue, codes, decimal}
use Rattle.host_net.specs.Limits.{host_limit}
use Rattle.run_core.specs.Dialects.{rule_dialect_of}
use Rattle.run_core.specs.Program.{FormNothing}
use Rattle.run_core.specs.declared.dialect.Dialect.{Dialect}

-- A command with its arguments.
pub data Command : Type 0 where
  Check : (file : List ℕ) → Command
  Policy : (file : List ℕ) → Command
  Rules : Dialect → (file : List ℕ) → Command
  Repair : Dialect → (file : List ℕ) → Command
  Trace : Dialect → (rules events : List ℕ) → Command
  Sample : (hosts : ℕ) → Command
  Migrate : (file : List ℕ) → Command
  Audit : Dialect → (file rules : List ℕ) → Command
  Edit : (file edits : List ℕ) → Command
  Local : (file host : List ℕ) → Command
  LocalTable : (file host : List ℕ) → Command

-- The arguments of the command.
abbrev pub arguments_of : Command → List (List ℕ)
arguments_of (Check file) = codes "check" ∷ file ∷ []
arguments_of (Policy file) = codes "policy" ∷ file ∷ []
arguments_of (Rules dialect file) = codes "rules" ∷ (rule_dialect_of dialect).word ∷ file ∷ []
arguments_of (Repair dialect file) = codes "repair" ∷ (rule_dialect_of dialect).word ∷ file ∷ []
arguments_of (Trace dialect rules events) = codes "trace" ∷ (rule_dialect_of dialect).word ∷ rules ∷ events ∷ []
arguments_of (Sample hosts) = codes "sample" ∷ decimal hosts ∷ []
arguments_of (Migrate file) = codes "migrate" ∷ file ∷ []
arguments_of (Audit dialect file rules) = codes "audit" ∷ (rule_dialect_of dialect).word ∷ file ∷ rules ∷ []
arguments_of (Edit file edits) = codes "edit" ∷ file ∷ edits ∷ []
arguments_of (Local file host) = codes "local" ∷ file ∷ host ∷ []
arguments_of (LocalTable file host) = codes "local" ∷ codes "nft" ∷ file ∷ host ∷ []

-- The number of hosts of a sample is from 1 to the host limit.
abbrev pub HasFewHosts : Command → Type 0
HasFewHosts (Sample hosts) = (0 < hosts) × (hosts ≤ host_limit)
HasFewHosts _ = Unit {0}

-- The arguments form this command.
abbrev pub ParseAs : List (List ℕ) → Command → Type 0
ParseAs words command = (words ≡ arguments_of command) × HasFewHosts command

-- The arguments form no command.
abbrev pub ParseAsNothing : List (List ℕ) → Type 0
ParseAsNothing = FormNothing ParseAs

-- The usage text, which lists the command forms.
unfoldable pub usage_text : List ℕ
usage_text =
    codes "usage: topos check FILE\n"
    ++ (codes "       topos policy FILE\n"
    ++ (codes "       topos rules iptables|openflow FILE\n"
    ++ (codes "       topos repair iptables|openflow FILE\n"
    ++ (codes "       topos trace iptables|openflow RULES EVENTS\n"
    ++ (codes "       topos sample N\n"
    ++ (codes "       topos migrate FILE\n"
    ++ (codes "       topos audit iptables|openflow FILE RULES\n"
    ++ (codes "       topos edit FILE EDITS\n"
    ++ (codes "       topos local FILE HOST\n"
    ++ (codes "       topos rules nft FILE\n"
    ++ (codes "       topos repair nft FILE\n"
    ++ (codes "       topos trace nft RULES EVENTS\n"
    ++ (codes "       topos audit nft FILE RULES\n"
    ++ codes "       topos local nft FILE HOST\n")))))))))))))

-- The command reports violations on the output. All other commands report them on the error stream.
abbrev pub reports_on_output : Command → Bool
reports_on_output (Check file) = true
reports_on_output (Audit dialect file rules) = true
reports_on_output _ = false

-- The arguments form a command that reports violations on the output.
abbrev pub ReportsViolationsOnOutput : List (List ℕ) → Type 0
ReportsViolationsOnOutput words = (command : Command) × ParseAs words command × IsTrue (reports_on_output command)
