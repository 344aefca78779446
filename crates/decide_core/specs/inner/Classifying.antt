-- Number of rules, and marks for them. Internal: callers use `Deciders`.
use Rattle.std.specs.Prelude.{◌≡◌, ℕ, zero, suc, ◌<◌, Bool, false, List, length, map, Option, Some, None, replicate}
use Rattle.std.specs.List.{range_with_len}
use Rattle.ipt_rules.specs.declared.marks.Place.{Place}
use Rattle.ipt_rules.specs.Chain.{rules_of}
use Rattle.ipt_rules.specs.Marks.{marks_of}
use Rattle.rules_space.specs.Rules.{AnyRules, Chains, Entries}
use Rattle.decide_core.specs.declared.classifier.Classifier.{Classifier}
use Rattle.decide_core.specs.declared.classifier.Classifier.TheVariants.{Ipt, Ofp}

-- The rules of a classifier.
abbrev pub rules_by : Classifier → AnyRules
rules_by (Ipt chains) = Chains chains
rules_by (Ofp table) = Entries table.now

-- The number of chains. A flow table counts as one chain.
abbrev pub chain_count : AnyRules → ℕ
chain_count (Chains chains) = length chains
chain_count (Entries entries) = 1

-- The number of rules of chain c.
abbrev pub count_in : AnyRules → ℕ → ℕ
count_in (Chains chains) c = length (rules_of chains c)
count_in (Entries entries) zero = length entries
count_in (Entries entries) (suc c) = 0

-- The place has a rule.
abbrev pub HasRule : AnyRules → Place → Type 0
HasRule rules place = place.rule < count_in rules place.chain

-- The marks have one mark for each rule.
abbrev pub HasMarks : AnyRules → List (List Bool) → Type 0
HasMarks rules marks = (c : ℕ) → length (marks_of marks c) ≡ count_in rules c

-- Marks for the rules of the first n chains, none of them set.
abbrev pub unset_marks : AnyRules → ℕ → List (List Bool)
unset_marks rules n = map (λ c. replicate (count_in rules c) false) (range_with_len 0 n)

-- The place of an entry of a flow table, if there is an entry.
abbrev pub entry_place : Option ℕ → Option Place
entry_place None = None
entry_place (Some k) = Some (record { chain = 0; rule = k })
