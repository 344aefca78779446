-- Dead entries of a flow table are removable: without them each IPv4 packet has the same verdict.
use Rattle.std.proofs.Common.{◌≡◌, ◌⊎◌, inl, inr, ℕ, zero, suc, ◌+◌, ◌<◌, ◌≤◌, ◌∙◌, Bool, true, false, ◌==◌, ◌&&◌, ◌||◌, ◌≢◌, if◌then◌else◌, IsTrue, List, [], ◌∷◌, Option, Some, None, map, slice_get, refl, sym, ap, arith, add-zero}
use Rattle.std.specs.List.{Contains}
use Rattle.std.proofs.lemmas.Bool.{false_from_ne_true}
use Rattle.std.proofs.lemmas.Bool.Decides.{nat_tests}
use Rattle.std.proofs.lemmas.Option.{same_Some, slice_get_within}
use Rattle.host_net.specs.Packet.{IsPacket}
use Rattle.host_net.specs.declared.packet.CtState.TheVariants.{New}
use Rattle.host_net.specs.declared.packet.Packet.{Packet}
use Rattle.host_net.specs.declared.packet.Verdict.{Verdict}
use Rattle.host_net.specs.Verdict.{verdict_if}
use Rattle.host_net.specs.declared.packet.Verdict.TheVariants.{Forward as Forwarded, Drop as Dropped}
use Rattle.ipt_rules.specs.declared.marks.Place.{Place}
use Rattle.ofp_rules.specs.declared.entry.Entry.{Entry}
use Rattle.ofp_rules.specs.declared.entry.Frame.{Frame}
use Rattle.ofp_rules.specs.declared.entry.Frame.TheVariants.{Ipv4}
use Rattle.ofp_rules.specs.Deciders.{DecidesAt, IsEntryDecider}
use Rattle.ofp_rules.specs.Matching.{matches}
use Rattle.ofp_rules.specs.Semantics.{HasVerdict, IsHighest, IsOneOf, verdict_of}
use Rattle.ofp_rules.proofs.HighestLaws.{one_of_at}
use Rattle.rules_space.specs.Rules.{Entries, filter_of}
use Rattle.rules_space.specs.Verdicts.{GivesOne}
use Rattle.pass_core.specs.Dead.{is_listed, same_place}
use Rattle.decide_core.specs.DeadPlaces.{AreDeadPlaces, AreRemovablePlaces, without_entries}

-- ---- Each frame has a decider

number_of : (f : Entry) (es : List Entry) → IsOneOf f es → (j : ℕ) × (slice_get es j ≡ Some f)
number_of f [] one = absurd one
number_of f (e ∷ es) (inl same) = (zero, ap (λ (x : Entry). Some x) (sym same))
number_of f (e ∷ es) (inr later) = let (j, there) = number_of f es later in (suc j, there)

and_left : (a b : Bool) → IsTrue (a && b) → IsTrue a
and_left true b on = refl
and_left false b on = on

and_false : (a : Bool) (m n : ℕ) → (a && (m == n)) ≡ false → IsTrue a → m ≢ n
and_false true m n off on = grind (arith, nat_tests)
and_false false m n off on = cc

-- Entry k is the first of the entries that satisfies a test.
record IsFirstOf (test : Entry → Bool) (es : List Entry) (k : ℕ) : Type 0 where
  entry : Entry
  there : slice_get es k ≡ Some entry
  holds : IsTrue (test entry)
  first : (j : ℕ) (f : Entry) → j < k → slice_get es j ≡ Some f → test f ≡ false

first_from : (test : Entry → Bool) (here : Bool) (e : Entry) (es : List Entry) (j : ℕ) (f : Entry) → test e ≡ here → slice_get (e ∷ es) j ≡ Some f
    → IsTrue (test f) → ((i : ℕ) → slice_get es i ≡ Some f → (k : ℕ) × IsFirstOf test es k) → (k : ℕ) × IsFirstOf test (e ∷ es) k
first_from test true e es j f is there on later = (zero, record { entry = e; there = refl; holds = is; first = λ i g low at. absurd (omega (arith, low)) })
first_from test false e es zero f is there on later = let same = ap test (same_Some e f there) in absurd (cc)
first_from test false e es (suc j) f is there on later =
    let rest = later j there in
    (suc rest.0, record { entry = rest.1.entry; there = rest.1.there; holds = rest.1.holds; first = earlier rest.0 rest.1 })
  where
    earlier : (k : ℕ) (rest : IsFirstOf test es k) (i : ℕ) (g : Entry) → i < suc k → slice_get (e ∷ es) i ≡ Some g → test g ≡ false
    earlier k rest zero g low at = ap test (sym (same_Some e g at)) ∙ is
    earlier k rest (suc i) g low at = rest.first i g (omega (arith, low)) at

first_of : (test : Entry → Bool) (es : List Entry) (j : ℕ) (f : Entry) → slice_get es j ≡ Some f → IsTrue (test f) → (k : ℕ) × IsFirstOf test es k
first_of test [] j f there on = let low = slice_get_within [] j f there in absurd (omega (arith, low))
first_of test (e ∷ es) j f there on = first_from test (test e) e es j f refl there on (λ i at. first_of test es i f at on)

module _ (entries : List Entry) (frame : Frame) where
  -- An entry that matches the frame, with this priority.
  abbrev has_priority : ℕ → Entry → Bool
  has_priority top f = matches frame f && (f.priority == top)

  decides_first : (e : Entry) → IsHighest entries frame e → (k : ℕ) × DecidesAt entries frame k
  decides_first e highest =
      let at = number_of e entries highest.listed in
      let found = first_of (has_priority e.priority) entries at.0 e at.1 (let on = highest.matched in grind (arith, nat_tests)) in
      (found.0, decides found.0 found.1)
    where
      decides : (k : ℕ) → IsFirstOf (has_priority e.priority) entries k → DecidesAt entries frame k
      decides k found =
          let holds = found.holds in
          let matched : IsTrue (matches frame found.entry) = and_left (matches frame found.entry) (found.entry.priority == e.priority) holds in
          let same : found.entry.priority ≡ e.priority = grind (arith, nat_tests) in
          record {
            entry = found.entry;
            there = found.there;
            matched = matched;
            above = λ j f there on. let under = highest.above f (one_of_at entries j f there) on in omega (arith, under, same);
            first = λ j f low there on.
                let under = highest.above f (one_of_at entries j f there) on in
                let other = found.first j f low there in
                let differ : f.priority ≢ e.priority = and_false (matches frame f) f.priority e.priority other on in
                omega (arith, under, differ, same);
          }

  decider_by : (v : Verdict) → HasVerdict entries frame v → (d : Option ℕ) × IsEntryDecider entries frame d
  decider_by v (inl (e, highest, is)) = let found = decides_first e highest in (Some found.0, found.1)
  decider_by v (inr (none, is)) = (None, λ j f there on. none f (one_of_at entries j f there) on)

-- ---- Entries that are left

module _ (removed : ℕ → Bool) where
  left_by : (gone : Bool) (e f : Entry) (left es : List Entry) → (IsOneOf f left → IsOneOf f es) → IsOneOf f (if gone then left else e ∷ left)
      → IsOneOf f (e ∷ es)
  left_by true e f left es later one = inr (later one)
  left_by false e f left es later (inl same) = inl same
  left_by false e f left es later (inr one) = inr (later one)

  -- An entry that is left is an entry of the table.
  left_is_one : (i : ℕ) (es : List Entry) (f : Entry) → IsOneOf f (without_entries removed i es) → IsOneOf f es
  left_is_one i [] f one = one
  left_is_one i (e ∷ es) f one = left_by (removed i) e f (without_entries removed (i + 1) es) es (left_is_one (i + 1) es f) one

  later_by : (gone : Bool) (e f : Entry) (left : List Entry) → IsOneOf f left → IsOneOf f (if gone then left else e ∷ left)
  later_by true e f left one = one
  later_by false e f left one = inr one

  first_by : (gone : Bool) (e f : Entry) (left : List Entry) → gone ≡ false → f ≡ e → IsOneOf f (if gone then left else e ∷ left)
  first_by true e f left stays same = cc
  first_by false e f left stays same = inl same

  -- An entry whose number is not removed is left.
  is_left : (i : ℕ) (es : List Entry) (k : ℕ) (f : Entry) → slice_get es k ≡ Some f → removed (i + k) ≡ false → IsOneOf f (without_entries removed i es)
  is_left i [] k f there stays = let low = slice_get_within [] k f there in absurd (omega (arith, low))
  is_left i (e ∷ es) zero f there stays =
      first_by (removed i) e f (without_entries removed (i + 1) es) (ap removed (sym (add-zero i)) ∙ stays) (sym (same_Some e f there))
  is_left i (e ∷ es) (suc k) f there stays =
      later_by (removed i) e f (without_entries removed (i + 1) es)
      (is_left (i + 1) es k f there (let same : (i + 1) + k ≡ i + suc k = omega arith in ap removed same ∙ stays))

-- ---- Dead entries

or_cases : (a b : Bool) → a || b ≡ true → (a ≡ true) ⊎ (b ≡ true)
or_cases true b on = inl refl
or_cases false b on = inr on

-- The place of entry k of a flow table.
abbrev place_at : ℕ → Place
place_at k = record { chain = 0; rule = k }

number_listed : (places : List Place) (k : ℕ) → is_listed places (place_at k) ≡ true → Contains (map (λ place. place.rule) places) k
number_listed [] k on = cc
number_listed (p ∷ ps) k on = elim (or_cases (same_place p (place_at k)) (is_listed ps (place_at k)) on) [
  | inl here ↦ let same : p.rule ≡ k = grind (arith, nat_tests) in (0, omega arith, same)
  | inr later ↦ let (j, within, is) = number_listed ps k later in (suc j, omega arith, is)
]

module _ (entries : List Entry) (places : List Place) (dead : AreDeadPlaces (Entries entries) places) (gives : GivesOne (filter_of (Entries entries))) where
  abbrev removed : ℕ → Bool
  removed k = is_listed places (place_at k)

  abbrev left : List Entry
  left = without_entries removed 0 entries

  -- The table has one verdict on a packet.
  one_verdict : (p : Packet) → IsPacket p → (v w : Verdict) → HasVerdict entries (Ipv4 p) v → HasVerdict entries (Ipv4 p) w → v ≡ w
  one_verdict p is Forwarded Forwarded a b = refl
  one_verdict p is Dropped Dropped a b = refl
  one_verdict p is Forwarded Dropped a b =
      let one = gives New p is in let yes : true ≡ one.0 = one.2 true a in let no : false ≡ one.0 = one.2 false b in cc (yes, no)
  one_verdict p is Dropped Forwarded a b =
      let one = gives New p is in let yes : true ≡ one.0 = one.2 true b in let no : false ≡ one.0 = one.2 false a in cc (yes, no)

  module _ (p : Packet) (is_packet : IsPacket p) where
    matches_none : IsEntryDecider entries (Ipv4 p) None → (f : Entry) → IsOneOf f entries → IsTrue (matches (Ipv4 p) f) → ⊥
    matches_none none f one on = let (j, there) = number_of f entries one in none j f there on

    -- An entry that decides the packet is left.
    decider_left : (k : ℕ) (decides : DecidesAt entries (Ipv4 p) k) → IsOneOf decides.entry left
    decider_left k decides =
        is_left removed 0 entries k decides.entry decides.there
        (let same : 0 + k ≡ k = omega arith in
        ap removed same ∙ false_from_ne_true (removed k) (λ on. ((dead.1.exact k).0 (number_listed places k on)).1 p is_packet decides))

    below : (k : ℕ) (decides : DecidesAt entries (Ipv4 p) k) (f : Entry) → IsOneOf f entries → IsTrue (matches (Ipv4 p) f) → f.priority ≤ decides.entry.priority
    below k decides f one on = let (j, there) = number_of f entries one in decides.above j f there on

    to_left : (d : Option ℕ) → IsEntryDecider entries (Ipv4 p) d → (v : Verdict) → HasVerdict entries (Ipv4 p) v → HasVerdict left (Ipv4 p) v
    to_left None none v has =
        let dropped : v ≡ Dropped = one_verdict p is_packet v Dropped has (inr (matches_none none, refl)) in
        inr (λ f one on. matches_none none f (left_is_one removed 0 entries f one) on, dropped)
    to_left (Some k) decides v has =
        let whole : HasVerdict entries (Ipv4 p) (verdict_of decides.entry.action) =
        inl (decides.entry, record { listed = one_of_at entries k decides.entry decides.there; matched = decides.matched; above = below k decides }, refl) in
        inl (
          decides.entry,
          record {
            listed = decider_left k decides;
            matched = decides.matched;
            above = λ f one on. below k decides f (left_is_one removed 0 entries f one) on;
          },
          one_verdict p is_packet v (verdict_of decides.entry.action) has whole,
        )

    from_left : (d : Option ℕ) → IsEntryDecider entries (Ipv4 p) d → (v : Verdict) → HasVerdict left (Ipv4 p) v → HasVerdict entries (Ipv4 p) v
    from_left None none v (inl (f, highest, is)) = absurd (matches_none none f (left_is_one removed 0 entries f highest.listed) highest.matched)
    from_left None none v (inr (nothing, is)) = inr (matches_none none, is)
    from_left (Some k) decides v (inl (f, highest, is)) =
        inl (
          f,
          record {
            listed = left_is_one removed 0 entries f highest.listed;
            matched = highest.matched;
            above = λ g one on.
                let under = below k decides g one on in
                let over = highest.above decides.entry (decider_left k decides) decides.matched in
                omega (arith, under, over);
          },
          is,
        )
    from_left (Some k) decides v (inr (nothing, is)) = absurd (nothing decides.entry (decider_left k decides) decides.matched)

  pub entries_removable : AreRemovablePlaces (Entries entries) places
  entries_removable p v is =
      let one = gives New p is in
      let decider = decider_by entries (Ipv4 p) (verdict_if one.0) one.1 in
      (to_left p is decider.0 decider.1 v, from_left p is decider.0 decider.1 v)
