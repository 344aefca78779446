-- Parsing the arguments of a command line. The promises of `run` use it only through the commands that the arguments form.
use Rattle.std.specs.Prelude.{ℕ, ◌≤◌, ◌==◌, List, [], ◌∷◌, Option, None, Some, option_map, codes, if◌then◌else◌}
use Rattle.std.specs.Option.{option_and_then, option_or}
use Rattle.std.specs.Str.{bytes_eq}
use Rattle.host_net.specs.Limits.{host_limit}
use Rattle.text_core.specs.inner.Decimal.{number}
use Rattle.topos_top.specs.Command.{Command, Check, Policy, Rules, Repair, Trace, Sample, Migrate, Audit, Edit, Local, LocalTable}
use Rattle.topos_top.specs.declared.command.Command.{Command as CodeCommand}
use Rattle.topos_top.specs.declared.command.Command.TheVariants as command
use Rattle.run_core.specs.inner.Forms.{Form, among, in_dialect, of_file, of_two, one_word, three_words, with_two_files}

-- The number of hosts that an argument denotes: a decimal number from 1 to the host limit.
abbrev pub parse_host_count : (word : List ℕ) → Option ℕ
parse_host_count word = option_and_then (λ n. if n == 0 then None else Some n) (number host_limit word)

-- The command for the machines of a host: a file and a host, or these after the word `nft`.
abbrev pub of_machines : List (List ℕ) → Option Command
of_machines words =
    option_or (of_two Local words)
    (option_and_then (λ (said : List ℕ × List ℕ × List ℕ). if bytes_eq said.0 (codes "nft") then Some (LocalTable said.1 said.2) else None) (three_words words))

-- All command forms.
abbrev pub forms : List (Form Command)
forms =
    record { word = codes "check"; asks = of_file Check }
    ∷ (record { word = codes "policy"; asks = of_file Policy }
    ∷ (record { word = codes "rules"; asks = in_dialect Rules }
    ∷ (record { word = codes "repair"; asks = in_dialect Repair }
    ∷ (record { word = codes "trace"; asks = with_two_files Trace }
    ∷ (record { word = codes "sample"; asks = λ words. option_and_then (λ word. option_map Sample (parse_host_count word)) (one_word words) }
    ∷ (record { word = codes "migrate"; asks = of_file Migrate }
    ∷ (record { word = codes "audit"; asks = with_two_files Audit }
    ∷ (record { word = codes "edit"; asks = of_two Edit }
    ∷ (record { word = codes "local"; asks = of_machines }
    ∷ [])))))))))

unfoldable pub command_of : List (List ℕ) → Option Command
command_of [] = None
command_of (word ∷ rest) = among forms word rest

-- The model of a command of the code.
abbrev pub command_view : CodeCommand → Command
command_view (command.Check file) = Check file.now
command_view (command.Policy file) = Policy file.now
command_view (command.Rules dialect file) = Rules dialect file.now
command_view (command.Repair dialect file) = Repair dialect file.now
command_view (command.Trace dialect rules events) = Trace dialect rules.now events.now
command_view (command.Sample hosts) = Sample hosts
command_view (command.Migrate file) = Migrate file.now
command_view (command.Audit dialect file rules) = Audit dialect file.now rules.now
command_view (command.Edit file edits) = Edit file.now edits.now
command_view (command.Local file host) = Local file.now host.now
command_view (command.LocalTable file host) = LocalTable file.now host.now

-- The number of hosts of a sample is at most the host limit.
abbrev pub IsWithinHosts : Command → Type 0
IsWithinHosts (Sample hosts) = hosts ≤ host_limit
IsWithinHosts _ = Unit {0}
