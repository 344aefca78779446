use Rattle.std.proofs.Common.{◌≡◌, ◌++◌, map, drop, Bor, List, ℕ}
use Rattle.std.specs.List.{filter_map}
use Rattle.host_net.specs.Prefix.{prefix_of}
use Rattle.desc_form.proofs.hosts.prefixes_among.Given as goal

abbrev pub invariant-loop-entry : goal.invariant-loop-entry
invariant-loop-entry l = record {
  grown : l.prefixes.items ++ filter_map prefix_of (map (λ (entry : Bor (List ℕ)). entry.now) (drop l.entry-index l.entries)) ≡ filter_map prefix_of (map (λ (entry : Bor (List ℕ)). entry.now) l.entries);
}
