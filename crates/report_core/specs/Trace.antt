-- The printed text of a run: the result of each event, by its number from 1 (docs/TEXTS.md).
use Rattle.std.specs.Prelude.{◌≡◌, ℕ, Bool, true, false, List, ◌++◌, flat_map, Option, Some, None, codes, decimal}
use Rattle.text_core.specs.FirstMatch.{Numbered, numbered}
use Rattle.pkt_core.specs.declared.event.Event.{Event}
use Rattle.pkt_core.specs.Filter.{RunsFromNoConnections}
use Rattle.pkt_core.specs.Firewall.{Filter}

-- The line of an event: a packet is forwarded or dropped, or a connection is forgotten.
abbrev pub answer_line : ℕ → Option Bool → List ℕ
answer_line k (Some true) = decimal k ++ codes " forward\n"
answer_line k (Some false) = decimal k ++ codes " drop\n"
answer_line k None = decimal k ++ codes " forgotten\n"

-- The lines of the results, by the numbers of their events.
abbrev pub answer_lines : List (Option Bool) → List ℕ
answer_lines results = flat_map (λ (told : Numbered (Option Bool)). answer_line told.number told.what) (numbered results)

-- The text lists the results of a run of the filter over the events, from an empty connection table.
pub record IsTrace (filter : Filter) (events : List Event) (text : List ℕ) : Type 0 where
  pub results : List (Option Bool)
  pub run : RunsFromNoConnections filter events results
  pub written : text ≡ answer_lines results

-- The filter has exactly one run over the events, and the text lists its results.
pub record ReportsRun (filter : Filter) (events : List Event) (text : List ℕ) : Type 0 where
  pub is : IsTrace filter events text
  pub one : (results : List (Option Bool)) → RunsFromNoConnections filter events results → results ≡ is.results
