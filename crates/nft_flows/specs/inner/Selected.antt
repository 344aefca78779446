-- The places of a table whose spans have rules of a list. Internal: callers use `Flows` and `Dead`.
use Rattle.std.specs.Prelude.{◌≡◌, ◌-◌, Bool, List, map}
use Rattle.std.specs.List.{AllZip, filter, list_all, list_any, range_with_len}
use Rattle.ipt_rules.specs.declared.marks.Place.{Place}
use Rattle.pass_core.specs.Dead.{is_listed}
use Rattle.decide_core.specs.declared.flows.FlowRange.{FlowRange}
use Rattle.decide_core.specs.declared.flows.PairFlows.{PairFlows}
use Rattle.nft_flows.specs.declared.flows.PairTableFlows.{PairTableFlows}
use Rattle.nft_flows.specs.declared.flows.TableFlowRange.{TableFlowRange}
use Rattle.nft_flows.specs.declared.place.TablePlace.{TablePlace}
use Rattle.nft_flows.specs.declared.span.Span.{Span}
use Rattle.nft_flows.specs.inner.Spans.{is_in}

-- The places of the spans that pass a test.
abbrev pub selected : (Span → Bool) → List Span → List TablePlace
selected test spans = map (λ s. s.place) (filter test spans)

-- One of the rules is in the span.
abbrev pub has_one : List Place → Span → Bool
has_one rules s = list_any (is_in s) rules

-- All rules of the span are listed.
abbrev pub has_all : List Place → Span → Bool
has_all rules s = list_all (λ n. is_listed rules (record { chain = s.chain; rule = n })) (range_with_len s.first (s.end - s.first))

-- The range with the places of its deciders.
pub record IsPlacedRange (spans : List Span) (r : FlowRange) (t : TableFlowRange) : Type 0 where
  pub range : t.range ≡ r.range
  pub deciders : t.deciders.items ≡ selected (has_one r.deciders.places.items) spans

-- The flows of a pair with the places of their deciders.
pub record IsPlacedPair (spans : List Span) (f : PairFlows) (t : PairTableFlows) : Type 0 where
  pub source : t.from ≡ f.from
  pub destination : t.to ≡ f.to
  pub ranges : AllZip (IsPlacedRange spans) f.ranges.items t.ranges.items
