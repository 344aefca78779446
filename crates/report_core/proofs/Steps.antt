-- One more event of a text that reports a run.
use Rattle.std.proofs.Common.{◌≡◌, ℕ, ◌+◌, Bool, List, [], ◌∷◌, ◌++◌, Option, Some, None, sym, ap, subst, ◌∙◌, append_assoc}
use Rattle.std.proofs.lemmas.List.{append-nil}
use Rattle.std.specs.List.{flat_map}
use Rattle.text_core.specs.FirstMatch.{Numbered, numbered_from}
use Rattle.host_net.specs.declared.packet.CtState.{CtState}
use Rattle.host_net.specs.declared.packet.Packet.{Packet}
use Rattle.host_net.specs.Verdict.{verdict_if}
use Rattle.ofp_rules.specs.declared.entry.Entry.{Entry}
use Rattle.ofp_rules.specs.declared.entry.Frame.TheVariants.{Ipv4}
use Rattle.ofp_rules.specs.Semantics.{HasVerdict, PassesEntries}
use Rattle.pkt_core.specs.declared.event.Event.{Event}
use Rattle.pkt_core.specs.declared.event.Event.TheVariants.{Seen, Forget}
use Rattle.pkt_core.specs.Firewall.{Filter}
use Rattle.pkt_core.specs.Tracking.{ConnectionTable, Runs, after_forget, after_seen, no_connections, state_of}
use Rattle.report_core.specs.Trace.{IsTrace, answer_line}

-- The lines of results, the first of which is that of event k.
abbrev lines_from : ℕ → List (Option Bool) → List ℕ
lines_from k answers = flat_map (λ (told : Numbered (Option Bool)). answer_line told.number told.what) (numbered_from k answers)

-- For every run over the remaining events, the text followed by its lines, from that of event k on, has the lines of
-- the whole run.
abbrev pub Leaves : Filter → List Event → ConnectionTable → List Event → ℕ → List ℕ → Type 0
Leaves filter all kept events k text = (rest : List (Option Bool)) → Runs filter kept events rest → IsTrace filter all (text ++ lines_from k rest)

pub leaves_next : (filter : Filter) (all : List Event) (kept now : ConnectionTable) (events : List Event) (event : Event) (later : List Event) (k : ℕ) (answer : Option Bool) (old new : List ℕ)
    → events ≡ event ∷ later
    → ((es : List Event) (answers : List (Option Bool)) → Runs filter now es answers → Runs filter kept (event ∷ es) (answer ∷ answers))
    → new ≡ old ++ answer_line k answer → Leaves filter all kept events k old → Leaves filter all now later (k + 1) new
leaves_next filter all kept now events event later k answer old new here steps pushed left rest run =
    let line : List ℕ = answer_line k answer in
    let more : List ℕ = lines_from (k + 1) rest in
    let same : old ++ (line ++ more) ≡ new ++ more = sym (ap (λ (text : List ℕ). text ++ more) pushed ∙ append_assoc old line more) in
    subst (IsTrace filter all) same
    (left (answer ∷ rest) (subst (λ (es : List Event). Runs filter kept es (answer ∷ rest)) (sym here) (steps later rest run)))

pub leaves_none : (filter : Filter) (all : List Event) (kept : ConnectionTable) (events : List Event) (k : ℕ) (text : List ℕ)
    → events ≡ [] → Leaves filter all kept events k text → IsTrace filter all text
leaves_none filter all kept events k text none left =
    subst (IsTrace filter all) (append-nil text) (left [] (subst (λ (es : List Event). Runs filter kept es []) (sym none) tt))

-- ---- stateless filters

-- The results do not depend on the state.
abbrev IsStateless : Filter → Type 0
IsStateless filter = (s t : CtState) (p : Packet) (passes : Bool) → filter s p passes → filter t p passes

-- So a run exists from every connection table.
runs_anyhow : (filter : Filter) → IsStateless filter → (kept now : ConnectionTable) (events : List Event) (answers : List (Option Bool))
    → Runs filter kept events answers → Runs filter now events answers
runs_anyhow filter same kept now [] [] run = tt
runs_anyhow filter same kept now [] (a ∷ answers) run = absurd run
runs_anyhow filter same kept now (Seen p ∷ events) (Some a ∷ answers) run =
    (same (state_of kept p) (state_of now p) p a run.0, runs_anyhow filter same (after_seen kept p a) (after_seen now p a) events answers run.1)
runs_anyhow filter same kept now (Forget p ∷ events) (None ∷ answers) run = runs_anyhow filter same (after_forget kept p) (after_forget now p) events answers run
runs_anyhow filter same kept now (Seen p ∷ events) [] run = absurd run
runs_anyhow filter same kept now (Seen p ∷ events) (None ∷ answers) run = absurd run
runs_anyhow filter same kept now (Forget p ∷ events) [] run = absurd run
runs_anyhow filter same kept now (Forget p ∷ events) (Some a ∷ answers) run = absurd run

pub seen_first : (entries : List Entry) (p : Packet) (passes : Bool) → HasVerdict entries (Ipv4 p) (verdict_if passes)
    → (events : List Event) (answers : List (Option Bool))
    → Runs (PassesEntries entries) no_connections events answers → Runs (PassesEntries entries) no_connections (Seen p ∷ events) (Some passes ∷ answers)
seen_first entries p passes has events answers run =
    (has, runs_anyhow (PassesEntries entries) (λ s t q b h. h) no_connections (after_seen no_connections p passes) events answers run)
