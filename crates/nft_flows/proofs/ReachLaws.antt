-- A place of a table that a packet meets has a rule of the chains that the packet meets.
use Rattle.std.proofs.Common.{◌≡◌, ◌⊎◌, inl, inr, ℕ, zero, suc, ◌+◌, ◌<◌, ◌≤◌, ◌^◌, Bool, true, false, List, [], ◌∷◌, ◌++◌, Option, Some, None, map, length, refl, sym, ap, subst, ◌∙◌, append_assoc, append-nil, arith, length-append}
use Rattle.std.specs.Prelude.{if◌then◌else◌, option_map, slice_get}
use Rattle.std.specs.List.{Contains, flat_map}
use Rattle.std.proofs.lemmas.Bool.{false_from_ne_true, false≢true, or_parts}
use Rattle.std.proofs.lemmas.List.{length-map}
use Rattle.std.proofs.lemmas.List.Elements.{Contains-append_left, Contains-append_right}
use Rattle.host_net.specs.declared.packet.Packet.{Packet}
use Rattle.host_net.specs.declared.packet.CtState.{CtState}
use Rattle.host_net.specs.declared.prefix.Prefix.{Prefix}
use Rattle.host_net.specs.Packet.{IsPacket}
use Rattle.host_net.specs.Prefix.{covers}
use Rattle.header_space.specs.Owners.{LiesIn}
use Rattle.ipt_rules.specs.declared.marks.Place.{Place}
use Rattle.ipt_rules.specs.declared.rule.Rule.{Rule as ChainRule}
use Rattle.ipt_rules.specs.declared.rule.Target.{Target}
use Rattle.ipt_rules.specs.declared.rule.Target.TheVariants.{Drop as ToDrop}
use Rattle.ipt_rules.specs.Matching.{matches}
use Rattle.ipt_rules.specs.Meets.{IsMet as IsRuleMet, meets_here as meets_rule_here, meets_inside, meets_later as meets_rule_later}
use Rattle.ipt_rules.specs.Semantics.{step_of}
use Rattle.nft_rules.specs.declared.table.Element.{Element}
use Rattle.nft_rules.specs.declared.table.End.{End}
use Rattle.nft_rules.specs.declared.table.Rule.{Rule}
use Rattle.nft_rules.specs.declared.table.Rule.TheVariants.{Map, Match}
use Rattle.nft_rules.specs.declared.table.Table.{Table}
use Rattle.nft_rules.specs.declared.table.Verdict.{Verdict}
use Rattle.nft_rules.specs.declared.table.Verdict.TheVariants.{Accept, Drop, Goto}
use Rattle.nft_rules.specs.Loadable.{AreRules, AscendFrom, IsLoadable, IsRule}
use Rattle.nft_rules.specs.Maps.{LeadsNowhere, LeadsTo}
use Rattle.nft_rules.specs.Semantics.{Gives, address_at, fits}
use Rattle.nft_chains.specs.Translation.{chain_number, chains_of, element_rules, every_packet, match_rule, prefix_rule, prefixes_of, rules_of_rule, rules_of_rules, target_of}
use Rattle.nft_chains.proofs.CoverLaws.{covered_lies, is_covered, lies_covered}
use Rattle.nft_chains.proofs.MatchLaws.{match_matches, prefix_matches}
use Rattle.nft_chains.proofs.SayLaws.{address_fits}
use Rattle.nft_chains.proofs.VerdictLaws.{have_chains}
use Rattle.nft_flows.specs.Places.{IsMet, MatchesAt, MeetsFrom, meets_here, meets_later, meets_there, verdict_in}
use Rattle.nft_flows.specs.declared.place.TablePlace.{TablePlace}
use Rattle.nft_flows.specs.declared.span.Span.{Span}
use Rattle.nft_flows.specs.inner.Spans.{number_of, span_at, spans_from, spans_of, spans_of_elements, spans_of_rule, spans_of_rules}
use Rattle.nft_flows.proofs.MetLaws.{Enters, IsOf, Meets, at, contains_here, spans_of_chain}

-- ---- Elements in ascending order

starts_later : (from : ℕ) (es : List Element) (j : ℕ) (e : Element) → AscendFrom from es → slice_get es j ≡ Some e → from ≤ e.range.first
starts_later from [] j e ascend there = absurd (cc there)
starts_later from (x ∷ es) zero e ascend there =
    let same : x ≡ e = cc there in subst (λ (y : Element). from ≤ y.range.first) same ascend.0
starts_later from (x ∷ es) (suc j) e ascend there =
    let later = starts_later (x.range.last + 1) es j e ascend.2 there in omega (arith, ascend.0, ascend.1, later)

-- ---- The place with a verdict

place_of_element : (es : List Element) (a : ℕ) (v : Verdict) → LeadsTo es a v
    → (j : ℕ) × (e : Element) × (slice_get es j ≡ Some e) × LiesIn e.range a × (v ≡ e.verdict)
place_of_element [] a v leads = absurd leads
place_of_element (e ∷ es) a v (inl here) = (0, e, refl, here.0, here.1)
place_of_element (e ∷ es) a v (inr later) = let found = place_of_element es a v later in (suc found.0, found.1, found.2, found.3, found.4)

module _ (table : Table) (state : CtState) (p : Packet) where
  -- The rule at this place has the verdict: it is the rule itself, or it is met in the chain that the verdict leads to.
  abbrev IsReached : Place → ℕ → ℕ → Verdict → Type 0
  IsReached q c m v = (q ≡ at c m) ⊎ Enters table state p v q

  one_reached : (q : Place) (c n : ℕ) (r : ChainRule) (rs : List ChainRule) (v : Verdict) → r.target ≡ target_of v → matches p state r ≡ true
      → IsReached q c n v → Meets table state p q c n (r ∷ rs)
  one_reached q c n r rs v target on (inl is) = meets_rule_here is on
  one_reached q c n r rs Accept target on (inr enters) = absurd enters
  one_reached q c n r rs Drop target on (inr enters) = absurd enters
  one_reached q c n r rs (Goto d) target on (inr enters) =
      meets_inside (ap (λ (b : Bool). step_of b r.target) on ∙ ap (step_of true) target) enters

  one_passed : (q : Place) (c n : ℕ) (r : ChainRule) (rs : List ChainRule) → matches p state r ≡ false → Meets table state p q c (n + 1) rs
      → Meets table state p q c n (r ∷ rs)
  one_passed q c n r rs off later = meets_rule_later (ap (λ (b : Bool). step_of b r.target) off) later

  moved : (q : Place) (c n m : ℕ) (rs : List ChainRule) → n ≡ m → Meets table state p q c n rs → Meets table state p q c m rs
  moved q c n m rs same met = subst (λ (k : ℕ). Meets table state p q c k rs) same met

  -- ---- An element

  prefixes_passed : (q : Place) (c n : ℕ) (end : End) (t : Target) (qs : List Prefix) (rest : List ChainRule)
      → is_covered (address_at end p) qs ≡ false → Meets table state p q c (n + length qs) rest
      → Meets table state p q c n (map (prefix_rule end t) qs ++ rest)
  prefixes_passed q c n end t [] rest none later = moved q c (n + 0) n rest (omega arith) later
  prefixes_passed q c n end t (x ∷ qs) rest none later =
      let parts = or_parts (covers x (address_at end p)) (is_covered (address_at end p) qs) none in
      one_passed q c n (prefix_rule end t x) (map (prefix_rule end t) qs ++ rest) (prefix_matches state p end t x ∙ parts.0)
      (prefixes_passed q c (n + 1) end t qs rest parts.1 (moved q c (n + suc (length qs)) (n + 1 + length qs) rest (omega arith) later))

  -- The rule with index m, from n on and before `end`, is reached: what has its verdict is met.
  abbrev Reaches : ℕ → ℕ → ℕ → Verdict → List ChainRule → Type 0
  Reaches c n past v rs = (m : ℕ) × (n ≤ m) × (m < past) × ((q : Place) → IsReached q c m v → Meets table state p q c n rs)

  prefixes_reached : (c n : ℕ) (end : End) (v : Verdict) (qs : List Prefix) (rest : List ChainRule) → is_covered (address_at end p) qs ≡ true
      → Reaches c n (n + length qs) v (map (prefix_rule end (target_of v)) qs ++ rest)
  prefixes_reached c n end v [] rest covered = absurd (false≢true covered)
  prefixes_reached c n end v (x ∷ qs) rest covered =
      by_first (covers x (address_at end p)) refl (λ off. prefixes_reached c (n + 1) end v qs rest (rw off at covered))
    where
      first : ChainRule
      first = prefix_rule end (target_of v) x

      others : List ChainRule
      others = map (prefix_rule end (target_of v)) qs ++ rest

      by_first : (b : Bool) → covers x (address_at end p) ≡ b
          → (covers x (address_at end p) ≡ false → Reaches c (n + 1) (n + 1 + length qs) v others)
          → Reaches c n (n + suc (length qs)) v (first ∷ others)
      by_first true is later =
          (n, omega arith, omega arith, λ q reached. one_reached q c n first others v refl (prefix_matches state p end (target_of v) x ∙ is) reached)
      by_first false is later =
          let found = later is in
          let low = found.1 in
          let high = found.2 in (
            found.0,
            omega (arith, low),
            omega (arith, high),
            λ q reached.
                one_passed q c n first others (prefix_matches state p end (target_of v) x ∙ is) (found.3 q reached),
          )

  -- ---- A map

  nowhere_passed : (q : Place) (c n : ℕ) (end : End) (es : List Element) (rest : List ChainRule) → LeadsNowhere es (address_at end p)
      → Meets table state p q c (n + length (flat_map (element_rules end) es)) rest
      → Meets table state p q c n (flat_map (element_rules end) es ++ rest)
  nowhere_passed q c n end [] rest nowhere later = moved q c (n + 0) n rest (omega arith) later
  nowhere_passed q c n end (e ∷ es) rest nowhere later =
      let a = address_at end p in
      let others = flat_map (element_rules end) es in
      let long : length (element_rules end e) ≡ length (prefixes_of e.range) = length-map (prefixes_of e.range) (prefix_rule end (target_of e.verdict)) in
      let outside : is_covered a (prefixes_of e.range) ≡ false =
      false_from_ne_true (is_covered a (prefixes_of e.range)) (λ covered. nowhere.0 (covered_lies a e.range covered)) in
      subst (λ (rs : List ChainRule). Meets table state p q c n rs) (sym (append_assoc (element_rules end e) others rest))
      (prefixes_passed q c n end (target_of e.verdict) (prefixes_of e.range) (others ++ rest) outside
      (nowhere_passed q c (n + length (prefixes_of e.range)) end es rest nowhere.1
      (moved q c (n + length (element_rules end e ++ others)) (n + length (prefixes_of e.range) + length others) rest
      (omega (arith, length-append (element_rules end e) others, long)) later)))

  -- A rule of the span of this place is reached.
  abbrev ReachesPlace : List Span → Option ℕ → ℕ → Option ℕ → ℕ → Verdict → List ChainRule → Type 0
  ReachesPlace spans chain k element n v rs =
      (s : Span) × Contains spans s × (s.place ≡ record { chain = chain; rule = k; element = element })
      × ((m : ℕ) × IsOf s (at (number_of chain) m) × ((q : Place) → IsReached q (number_of chain) m v → Meets table state p q (number_of chain) n rs))

  element_reached : (chain : Option ℕ) (k i n : ℕ) (end : End) (from : ℕ) (es : List Element) (rest : List ChainRule) (j : ℕ) (e : Element)
      → AscendFrom from es → slice_get es j ≡ Some e → LiesIn e.range (address_at end p) → address_at end p < 2 ^ 32
      → ReachesPlace (spans_of_elements chain k i n es) chain k (Some (i + j)) n e.verdict (flat_map (element_rules end) es ++ rest)
  element_reached chain k i n end from [] rest j e ascend there lies small = absurd (cc there)
  element_reached chain k i n end from (x ∷ es) rest zero e ascend there lies small =
      let is : x ≡ e = cc there in
      let a = address_at end p in
      let others = flat_map (element_rules end) es in
      let inside : LiesIn x.range a = subst (λ (y : Element). LiesIn y.range a) (sym is) lies in
      let found = prefixes_reached (number_of chain) n end x.verdict (prefixes_of x.range) (others ++ rest) (lies_covered a x.range small inside) in
      let s : Span = span_at chain k (Some i) n (n + length (prefixes_of x.range)) in
      let same : i ≡ i + 0 = omega arith in
      let low = found.1 in
      let high = found.2 in (
        s,
        contains_here s (spans_of_elements chain k (i + 1) (n + length (prefixes_of x.range)) es),
        ap (λ (h : ℕ). record { chain = chain; rule = k; element = Some h }) same,
        (
          found.0,
          (refl, low, high),
          λ q reached.
              subst (λ (rs : List ChainRule). Meets table state p q (number_of chain) n rs) (sym (append_assoc (element_rules end x) others rest))
              (found.3 q (subst (λ (y : Element). IsReached q (number_of chain) found.0 y.verdict) (sym is) reached)),
        ),
      )
  element_reached chain k i n end from (x ∷ es) rest (suc j) e ascend there lies small =
      let a = address_at end p in
      let others = flat_map (element_rules end) es in
      let past = starts_later (x.range.last + 1) es j e ascend.2 there in
      let outside : is_covered a (prefixes_of x.range) ≡ false =
      false_from_ne_true (is_covered a (prefixes_of x.range))
      (λ covered. let inside = covered_lies a x.range covered in let high = inside.1 in let low = lies.0 in omega (arith, high, low, past)) in
      let found = element_reached chain k (i + 1) (n + length (prefixes_of x.range)) end (x.range.last + 1) es rest j e ascend.2 there lies small in
      let same : i + 1 + j ≡ i + suc j = omega arith in (
        found.0,
        Contains-append_right (span_at chain k (Some i) n (n + length (prefixes_of x.range)) ∷ [])
            (spans_of_elements chain k (i + 1) (n + length (prefixes_of x.range)) es) found.0 found.1,
        found.2 ∙ ap (λ (h : ℕ). record { chain = chain; rule = k; element = Some h }) same,
        (
          found.3.0,
          found.3.1,
          λ q reached.
              subst (λ (rs : List ChainRule). Meets table state p q (number_of chain) n rs) (sym (append_assoc (element_rules end x) others rest))
              (prefixes_passed q (number_of chain) n end (target_of x.verdict) (prefixes_of x.range) (others ++ rest) outside (found.3.2 q reached)),
        ),
      )

  -- ---- A rule of the table

  rule_passed : (q : Place) (c n : ℕ) (rule : Rule) (rest : List ChainRule) → Gives state p rule None
      → Meets table state p q c (n + length (rules_of_rule rule)) rest → Meets table state p q c n (rules_of_rule rule ++ rest)
  rule_passed q c n (Map m) rest gives later = nowhere_passed q c n m.end m.elements.items rest gives later
  rule_passed q c n (Match r) rest gives later = by_fit (fits state p r) refl gives
    where
      by_fit : (fit : Bool) → fits state p r ≡ fit → None ≡ (if fit then Some r.verdict else None) → Meets table state p q c n (match_rule r ∷ rest)
      by_fit true is none = absurd (cc none)
      by_fit false is none = one_passed q c n (match_rule r) rest (match_matches state p r ∙ is) later

  rule_reached : (b : ℕ) (chain : Option ℕ) (k n : ℕ) (rule : Rule) (element : Option ℕ) (v : Verdict) (rest : List ChainRule) → IsPacket p → IsRule b rule
      → MatchesAt state p rule element → verdict_in rule element ≡ Some v
      → ReachesPlace (spans_of_rule chain k n rule) chain k element n v (rules_of_rule rule ++ rest)
  rule_reached b chain k n (Map m) None v rest packet is matched has = absurd matched
  rule_reached b chain k n (Map m) (Some j) v rest packet is (e, there, lies) has =
      let found = element_reached chain k 0 n m.end 0 m.elements.items rest j e is.1 there lies (address_fits m.end p packet) in
      let same : 0 + j ≡ j = omega arith in
      let verdict : e.verdict ≡ v = cc (rw there at has) in (
        found.0,
        found.1,
        found.2 ∙ ap (λ (h : ℕ). record { chain = chain; rule = k; element = Some h }) same,
        (found.3.0, found.3.1, λ q reached. found.3.2 q (subst (λ (w : Verdict). IsReached q (number_of chain) found.3.0 w) (sym verdict) reached)),
      )
  rule_reached b chain k n (Match r) (Some j) v rest packet is matched has = absurd matched
  rule_reached b chain k n (Match r) None v rest packet is matched has =
      let s : Span = span_at chain k None n (n + 1) in
      let verdict : r.verdict ≡ v = cc has in (
        s,
        contains_here s [],
        refl,
        (
          n,
          (refl, omega arith, omega arith),
          λ q reached.
              one_reached q (number_of chain) n (match_rule r) rest v (ap target_of verdict) (match_matches state p r ∙ matched) reached,
        ),
      )

  matched_verdict : (rule : Rule) (element : Option ℕ) → MatchesAt state p rule element → (v : Verdict) × (verdict_in rule element ≡ Some v)
  matched_verdict (Map m) None matched = absurd matched
  matched_verdict (Map m) (Some j) (e, there, lies) = (e.verdict, rw there refl)
  matched_verdict (Match r) (Some j) matched = absurd matched
  matched_verdict (Match r) None matched = (r.verdict, refl)

  given_place : (rule : Rule) (v : Verdict) → Gives state p rule (Some v)
      → (element : Option ℕ) × MatchesAt state p rule element × (verdict_in rule element ≡ Some v)
  given_place (Map m) v gives =
      let found = place_of_element m.elements.items (address_at m.end p) v gives in
      (Some found.0, (found.1, found.2, found.3), ap (λ (o : Option Element). option_map (λ y. y.verdict) o) found.2 ∙ ap (λ (w : Verdict). Some w) (sym found.4))
  given_place (Match r) v gives = by_fit (fits state p r) refl gives
    where
      by_fit : (fit : Bool) → fits state p r ≡ fit → Some v ≡ (if fit then Some r.verdict else None)
          → (element : Option ℕ) × MatchesAt state p (Match r) element × (verdict_in (Match r) element ≡ Some v)
      by_fit true is same = (None, is, sym same)
      by_fit false is same = absurd (cc same)

  -- ---- All rules

  abbrev pub HasRule : TablePlace → Option ℕ → ℕ → List ChainRule → Type 0
  HasRule place chain n rs =
      (s : Span) × Contains (spans_of table) s × (s.place ≡ place) × ((q : Place) × IsOf s q × Meets table state p q (number_of chain) n rs)

  module _ (is : IsLoadable table) (packet : IsPacket p) where
    place_reached : (place : TablePlace) (b : ℕ) (chain : Option ℕ) (k n : ℕ) (rules : List Rule) (rest : List ChainRule) → AreRules b rules
        → ((s : Span) → Contains (spans_of_rules chain k n rules) s → Contains (spans_of table) s)
        → MeetsFrom table.chains.items state p place chain k rules → HasRule place chain n (rules_of_rules rules ++ rest)
    place_reached place b _ _ n [] rest are within met = elim met [ ]
    place_reached place b chain k n (rule ∷ rules) rest are within (meets_here same_chain same_rule matched) =
        let others = rules_of_rules rules in
        let v = matched_verdict rule place.element matched in
        let found = rule_reached b chain k n rule place.element v.0 (others ++ rest) packet are.0 matched v.1 in
        let m = found.3.0 in (
          found.0,
          within found.0 (Contains-append_left (spans_of_rule chain k n rule)
              (spans_of_rules chain (k + 1) (n + length (rules_of_rule rule)) rules) found.0 found.1),
          found.2 ∙ (λ i. record { chain = sym same_chain i; rule = sym same_rule i; element = place.element }),
          (
            at (number_of chain) m,
            found.3.1,
            subst (λ (rs : List ChainRule). Meets table state p (at (number_of chain) m) (number_of chain) n rs) (sym (append_assoc (rules_of_rule rule) others rest))
                (found.3.2 (at (number_of chain) m) (inl refl)),
          ),
        )
    place_reached place b chain k n (rule ∷ rules) rest are within (meets_later none later) =
        let others = rules_of_rules rules in
        let first = spans_of_rule chain k n rule in
        let more = spans_of_rules chain (k + 1) (n + length (rules_of_rule rule)) rules in
        let found = place_reached place b chain (k + 1) (n + length (rules_of_rule rule)) rules rest are.1
        (λ s among. within s (Contains-append_right first more s among)) later in (
          found.0,
          found.1,
          found.2,
          (
            found.3.0,
            found.3.1,
            subst (λ (rs : List ChainRule). Meets table state p found.3.0 (number_of chain) n rs) (sym (append_assoc (rules_of_rule rule) others rest))
                (rule_passed found.3.0 (number_of chain) n rule (others ++ rest) none found.3.2),
          ),
        )
    place_reached place b chain k n (rule ∷ rules) rest are within (meets_there c x gives there inside) =
        let others = rules_of_rules rules in
        let found = place_reached place c (Some c) 0 0 x.rules.items (every_packet ToDrop ∷ []) (is.back c x there)
        (λ s among. spans_of_chain table c x s there among) inside in
        let q = found.3.0 in
        let enters : Enters table state p (Goto c) q =
        subst (λ (rs : List ChainRule). Meets table state p q (chain_number c) 0 rs) (sym (have_chains table c x there)) found.3.2 in
        let given = given_place rule (Goto c) gives in
        let reach = rule_reached b chain k n rule given.0 (Goto c) (others ++ rest) packet are.0 given.1 given.2 in (
          found.0,
          found.1,
          found.2,
          (
            q,
            found.3.1,
            subst (λ (rs : List ChainRule). Meets table state p q (number_of chain) n rs) (sym (append_assoc (rules_of_rule rule) others rest))
                (reach.3.2 q (inr enters)),
          ),
        )

    pub met_has_rule : (place : TablePlace) → IsMet table p state place
        → (s : Span) × Contains (spans_of table) s × (s.place ≡ place) × ((q : Place) × IsOf s q × IsRuleMet (chains_of table) p state q)
    met_has_rule place met =
        let forward = rules_of_rules table.forward.items in
        let found = place_reached place (length table.chains.items) None 0 0 table.forward.items [] is.forward
        (λ s among. Contains-append_left (spans_of_rules None 0 0 table.forward.items) (spans_from 0 table.chains.items) s among) met in (
          found.0,
          found.1,
          found.2,
          (
            found.3.0,
            found.3.1,
            subst (λ (rs : List ChainRule). Meets table state p found.3.0 1 0 rs) (append-nil forward) found.3.2,
          ),
        )
