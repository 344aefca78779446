-- A rule of the chains of a table that a packet meets stands for a place that the packet meets.
use Rattle.std.proofs.Common.{◌≡◌, ◌⊎◌, inl, inr, ℕ, zero, suc, ◌+◌, ◌<◌, ◌≤◌, ◌^◌, Bool, true, false, List, [], ◌∷◌, ◌++◌, Option, Some, None, map, length, refl, sym, ap, subst, ◌∙◌, append_assoc, append-nil, arith, length-append}
use Rattle.std.specs.Prelude.{if◌then◌else◌, slice_get}
use Rattle.std.specs.List.{Contains, flat_map}
use Rattle.std.proofs.lemmas.Bool.{false≢true, or_left, or_right, true≢false}
use Rattle.std.proofs.lemmas.List.{length-map}
use Rattle.std.proofs.lemmas.List.Elements.{Contains-append_left, Contains-append_right}
use Rattle.host_net.specs.declared.packet.Packet.{Packet}
use Rattle.host_net.specs.declared.packet.CtState.{CtState}
use Rattle.host_net.specs.declared.prefix.Prefix.{Prefix}
use Rattle.host_net.specs.Packet.{IsPacket}
use Rattle.host_net.specs.Prefix.{covers}
use Rattle.header_space.specs.Owners.{LiesIn}
use Rattle.ipt_rules.specs.declared.marks.Place.{Place}
use Rattle.ipt_rules.specs.declared.rule.Rule.{Rule as ChainRule}
use Rattle.ipt_rules.specs.declared.rule.Target.TheVariants.{Drop as ToDrop}
use Rattle.ipt_rules.specs.Chain.{rules_of}
use Rattle.ipt_rules.specs.Matching.{matches}
use Rattle.ipt_rules.specs.Meets.{IsMet as IsRuleMet, MeetsFrom as MeetsRule, meets_behind, meets_here as meets_rule_here, meets_inside, meets_later as meets_rule_later}
use Rattle.nft_rules.specs.declared.table.Chain.{Chain as TableChain}
use Rattle.nft_rules.specs.declared.table.Element.{Element}
use Rattle.nft_rules.specs.declared.table.End.{End}
use Rattle.nft_rules.specs.declared.table.MatchRule.{MatchRule}
use Rattle.nft_rules.specs.declared.table.Rule.{Rule}
use Rattle.nft_rules.specs.declared.table.Rule.TheVariants.{Map, Match}
use Rattle.nft_rules.specs.declared.table.Table.{Table}
use Rattle.nft_rules.specs.declared.table.Verdict.{Verdict}
use Rattle.nft_rules.specs.declared.table.VerdictMap.{VerdictMap}
use Rattle.nft_rules.specs.declared.table.Verdict.TheVariants.{Accept, Drop, Goto}
use Rattle.nft_rules.specs.Loadable.{AreRules, IsLoadable, IsRule, LeadBelow, LeadsBelow}
use Rattle.nft_rules.specs.Maps.{LeadsNowhere, LeadsTo}
use Rattle.nft_rules.specs.Semantics.{Gives, address_at, fits}
use Rattle.nft_chains.specs.Translation.{chain_number, chains_of, element_rules, every_packet, match_rule, prefix_rule, prefixes_of, rules_of_rule, rules_of_rules, target_of}
use Rattle.nft_chains.proofs.CoverLaws.{covered_lies, is_covered, lies_covered}
use Rattle.nft_chains.proofs.MatchLaws.{match_matches, prefix_matches}
use Rattle.nft_chains.proofs.SayLaws.{address_fits}
use Rattle.nft_chains.proofs.VerdictLaws.{have_chains}
use Rattle.nft_flows.specs.Places.{MatchesAt, MeetsFrom, meets_here, meets_later, meets_there}
use Rattle.nft_flows.specs.declared.place.TablePlace.{TablePlace}
use Rattle.nft_flows.specs.declared.span.Span.{Span}
use Rattle.nft_flows.specs.inner.Spans.{number_of, span_at, spans_from, spans_of, spans_of_elements, spans_of_rule, spans_of_rules}
use Rattle.nft_flows.proofs.MadeLaws.{Stays, continues_not, jumps_by, some_chain, stays}

-- The rule is in the chain, from index n on and before index m.
abbrev pub IsBetween : ℕ → ℕ → ℕ → Place → Type 0
IsBetween c n m q = (q.chain ≡ c) × (n ≤ q.rule) × (q.rule < m)

-- The rule is one of those of the span.
abbrev pub IsOf : Span → Place → Type 0
IsOf s q = IsBetween s.chain s.first s.end q

abbrev pub at : ℕ → ℕ → Place
at c n = record { chain = c; rule = n }

-- The last rule of a chain, which stands for no place.
abbrev pub IsLast : Table → Place → Type 0
IsLast table q =
    (c : ℕ) × (x : TableChain) × (slice_get table.chains.items c ≡ Some x) × (q ≡ at (chain_number c) (length (rules_of_rules x.rules.items)))

pub contains_here : {X : Type 0} (x : X) (xs : List X) → Contains (x ∷ xs) x
contains_here x xs = (0, omega arith, refl)

pub leads_at : (es : List Element) (a j : ℕ) (e : Element) → slice_get es j ≡ Some e → LiesIn e.range a → LeadsTo es a e.verdict
leads_at [] a j e there lies = absurd (cc there)
leads_at (x ∷ es) a zero e there lies = let same : x ≡ e = cc there in inl (subst (λ (y : Element). LiesIn y.range a) (sym same) lies, ap (λ (y : Element). y.verdict) (sym same))
leads_at (x ∷ es) a (suc j) e there lies = inr (leads_at es a j e there lies)

-- ---- The spans of a chain are spans of the table

spans_later : (k c : ℕ) (xs : List TableChain) (x : TableChain) (s : Span) → slice_get xs c ≡ Some x
    → Contains (spans_of_rules (Some (k + c)) 0 0 x.rules.items) s → Contains (spans_from k xs) s
spans_later k c [] x s there among = absurd (cc there)
spans_later k zero (y ∷ xs) x s there among =
    let same : k + 0 ≡ k = omega arith in
    let is : x ≡ y = cc there in
    let own = rw (same, is) at among in
    Contains-append_left (spans_of_rules (Some k) 0 0 y.rules.items) (spans_from (k + 1) xs) s own
spans_later k (suc c) (y ∷ xs) x s there among =
    let same : k + suc c ≡ k + 1 + c = omega arith in
    Contains-append_right (spans_of_rules (Some k) 0 0 y.rules.items) (spans_from (k + 1) xs) s
    (spans_later (k + 1) c xs x s there (rw same at among))

pub spans_of_chain : (table : Table) (c : ℕ) (x : TableChain) (s : Span) → slice_get table.chains.items c ≡ Some x
    → Contains (spans_of_rules (Some c) 0 0 x.rules.items) s → Contains (spans_of table) s
spans_of_chain table c x s there among =
    let same : c ≡ 0 + c = omega arith in
    Contains-append_right (spans_of_rules None 0 0 table.forward.items) (spans_from 0 table.chains.items) s
    (spans_later 0 c table.chains.items x s there (rw same at among))

module _ (table : Table) (state : CtState) (p : Packet) where
  abbrev pub Meets : Place → ℕ → ℕ → List ChainRule → Type 0
  Meets q c n rs = MeetsRule (matches p state) (chains_of table) q c n rs

  -- The rule is met in the chain that the verdict leads to.
  abbrev pub Enters : Verdict → Place → Type 0
  Enters Accept q = ⊥
  Enters Drop q = ⊥
  Enters (Goto c) q = Meets q (chain_number c) 0 (rules_of (chains_of table) (chain_number c))

  enters_goto : (v : Verdict) (q : Place) → Enters v q → (c : ℕ) × (v ≡ Goto c) × Enters (Goto c) q
  enters_goto Accept q enters = absurd enters
  enters_goto Drop q enters = absurd enters
  enters_goto (Goto c) q enters = (c, refl, enters)

  shifted : (q : Place) (c n m : ℕ) (rs : List ChainRule) → n ≡ m → Meets q c n rs → Meets q c m rs
  shifted q c n m rs same met = subst (λ (k : ℕ). Meets q c k rs) same met

  -- ---- One rule

  pub met_first : (q : Place) (c n : ℕ) (r : ChainRule) (rs : List ChainRule) (v : Verdict) → r.target ≡ target_of v → Stays table state p v
      → Meets q c n (r ∷ rs)
      → ((matches p state r ≡ true) × ((q ≡ at c n) ⊎ Enters v q)) ⊎ ((matches p state r ≡ false) × Meets q c (n + 1) rs)
  met_first q c n r rs v target stay (meets_rule_here is on) = inl (on, inl is)
  met_first q c n r rs v target stay (meets_rule_later step later) = inr (continues_not (matches p state r) r.target v target step, later)
  met_first q c n r rs v target stay (meets_inside {d = d} step inside) =
      let by = jumps_by (matches p state r) r.target v d target step in
      inl (
        by.0,
        inr (subst (λ (w : Verdict). Enters w q) (sym by.1.1)
            (subst (λ (e : ℕ). Meets q e 0 (rules_of (chains_of table) e)) by.1.2 inside)),
      )
  met_first q c n r rs v target stay (meets_behind {d = d} step none behind) =
      let by = jumps_by (matches p state r) r.target v d target step in
      absurd ((subst (Stays table state p) by.1.1 stay) (rw by.1.2 at none))

  -- ---- An element

  met_prefixes : (q : Place) (c n : ℕ) (end : End) (v : Verdict) (qs : List Prefix) (rest : List ChainRule) → Stays table state p v
      → Meets q c n (map (prefix_rule end (target_of v)) qs ++ rest)
      → ((is_covered (address_at end p) qs ≡ true) × (IsBetween c n (n + length qs) q ⊎ Enters v q))
      ⊎ ((is_covered (address_at end p) qs ≡ false) × Meets q c (n + length qs) rest)
  met_prefixes q c n end v [] rest stay met = inr (refl, shifted q c n (n + 0) rest (omega arith) met)
  met_prefixes q c n end v (x ∷ qs) rest stay met =
      let a = address_at end p in
      let matched = prefix_matches state p end (target_of v) x in
      elim (met_first q c n (prefix_rule end (target_of v) x) (map (prefix_rule end (target_of v)) qs ++ rest) v refl stay met) [
        | inl here ↦ inl (
          or_left (covers x a) (is_covered a qs) (sym matched ∙ here.0),
          elim here.1 [
            | inl is ↦ (let rule = ap (λ (o : Place). o.rule) is in inl (ap (λ (o : Place). o.chain) is, omega (arith, rule), omega (arith, rule)))
            | inr enters ↦ inr enters
          ],
        )
        | inr on ↦ elim (met_prefixes q c (n + 1) end v qs rest stay on.1) [
          | inl later ↦ inl (
            or_right (covers x a) (is_covered a qs) later.0,
            elim later.1 [
              | inl is ↦ (let low = is.1 in let high = is.2 in inl (is.0, omega (arith, low), omega (arith, high)))
              | inr enters ↦ inr enters
            ],
          )
          | inr past ↦ inr (rw (sym matched ∙ on.0) past.0, shifted q c (n + 1 + length qs) (n + suc (length qs)) rest (omega arith) past.1)
        ]
      ]

  -- ---- A map

  -- The packet matches by an element, and the rule is one of its span, or is met in the chain of its verdict.
  abbrev MetElement : Option ℕ → ℕ → ℕ → ℕ → End → List Element → Place → Type 0
  MetElement chain k i n end es q =
      (j : ℕ) × (e : Element) × (slice_get es j ≡ Some e) × LiesIn e.range (address_at end p)
      × (((s : Span) × Contains (spans_of_elements chain k i n es) s
      × (s.place ≡ record { chain = chain; rule = k; element = Some (i + j) }) × IsOf s q) ⊎ Enters e.verdict q)

  place_moved : (chain : Option ℕ) (k i j : ℕ) (place : TablePlace) → place ≡ record { chain = chain; rule = k; element = Some (i + 1 + j) }
      → place ≡ record { chain = chain; rule = k; element = Some (i + suc j) }
  place_moved chain k i j place is =
      let same : i + 1 + j ≡ i + suc j = omega arith in
      is ∙ ap (λ (m : ℕ). record { chain = chain; rule = k; element = Some m }) same

  element_later : (chain : Option ℕ) (k i n : ℕ) (end : End) (e : Element) (es : List Element) (q : Place)
      → MetElement chain k (i + 1) (n + length (prefixes_of e.range)) end es q → MetElement chain k i n end (e ∷ es) q
  element_later chain k i n end e es q (j, x, there, lies, inl (s, among, place, is)) = (
    suc j,
    x,
    there,
    lies,
    inl (
      s,
      Contains-append_right (span_at chain k (Some i) n (n + length (prefixes_of e.range)) ∷ [])
          (spans_of_elements chain k (i + 1) (n + length (prefixes_of e.range)) es) s among,
      place_moved chain k i j s.place place,
      is,
    ),
  )
  element_later chain k i n end e es q (j, x, there, lies, inr enters) = (suc j, x, there, lies, inr enters)

  element_here : (chain : Option ℕ) (k i n : ℕ) (end : End) (e : Element) (es : List Element) (q : Place)
      → is_covered (address_at end p) (prefixes_of e.range) ≡ true
      → IsBetween (number_of chain) n (n + length (prefixes_of e.range)) q ⊎ Enters e.verdict q → MetElement chain k i n end (e ∷ es) q
  element_here chain k i n end e es q covered (inl is) =
      let s : Span = span_at chain k (Some i) n (n + length (prefixes_of e.range)) in
      let same : i ≡ i + 0 = omega arith in (
        0,
        e,
        refl,
        covered_lies (address_at end p) e.range covered,
        inl (
          s,
          contains_here s
              (spans_of_elements chain k (i + 1) (n + length (prefixes_of e.range)) es),
          ap (λ (m : ℕ). record { chain = chain; rule = k; element = Some m }) same,
          is,
        ),
      )
  element_here chain k i n end e es q covered (inr enters) = (0, e, refl, covered_lies (address_at end p) e.range covered, inr enters)

  met_elements : (b : ℕ) (q : Place) (chain : Option ℕ) (k i n : ℕ) (end : End) (es : List Element) (rest : List ChainRule)
      → b ≤ length table.chains.items → LeadBelow b es → address_at end p < 2 ^ 32
      → Meets q (number_of chain) n (flat_map (element_rules end) es ++ rest)
      → MetElement chain k i n end es q
      ⊎ (LeadsNowhere es (address_at end p) × Meets q (number_of chain) (n + length (flat_map (element_rules end) es)) rest)
  met_elements b q chain k i n end [] rest few below small met = inr (tt, shifted q (number_of chain) n (n + 0) rest (omega arith) met)
  met_elements b q chain k i n end (e ∷ es) rest few below small met =
      let c = number_of chain in
      let a = address_at end p in
      let others = flat_map (element_rules end) es in
      let long : length (element_rules end e) ≡ length (prefixes_of e.range) = length-map (prefixes_of e.range) (prefix_rule end (target_of e.verdict)) in
      let apart = subst (λ (rs : List ChainRule). Meets q c n rs) (append_assoc (element_rules end e) others rest) met in
      elim (met_prefixes q c n end e.verdict (prefixes_of e.range) (others ++ rest) (stays table state p b e.verdict few below.0) apart) [
        | inl here ↦ inl (element_here chain k i n end e es q here.0 here.1)
        | inr on ↦ elim (met_elements b q chain k (i + 1) (n + length (prefixes_of e.range)) end es rest few below.1 small on.1) [
          | inl later ↦ inl (element_later chain k i n end e es q later)
          | inr past ↦ inr (
            (λ lies. false≢true (sym on.0 ∙ lies_covered a e.range small lies), past.0),
            shifted q c (n + length (prefixes_of e.range) + length others) (n + length (element_rules end e ++ others)) rest
                (omega (arith, length-append (element_rules end e) others, long)) past.1,
          )
        ]
      ]

  -- ---- A rule of the table

  -- The packet matches the rule, and the rule of the chains is one of the span, or is met in the chain that the verdict leads to.
  abbrev MetAt : Option ℕ → ℕ → ℕ → Rule → Place → Type 0
  MetAt chain k n rule q =
      ((s : Span) × Contains (spans_of_rule chain k n rule) s × (s.place.chain ≡ chain) × (s.place.rule ≡ k)
      × MatchesAt state p rule s.place.element × IsOf s q)
      ⊎ ((c : ℕ) × Gives state p rule (Some (Goto c)) × Enters (Goto c) q)

  element_met : (chain : Option ℕ) (k n : ℕ) (rule : Rule) (m : VerdictMap) (q : Place) → rule ≡ Map m
      → MetElement chain k 0 n m.end m.elements.items q → MetAt chain k n rule q
  element_met chain k n rule m q is (j, e, there, lies, inl (s, among, place, of)) =
      let element : s.place.element ≡ Some j = ap (λ (o : TablePlace). o.element) place ∙ ap (λ (i : ℕ). Some i) (let same : 0 + j ≡ j = omega arith in same) in
      rw is (inl (
        s,
        among,
        ap (λ (o : TablePlace). o.chain) place,
        ap (λ (o : TablePlace). o.rule) place,
        subst (λ (o : Option ℕ). MatchesAt state p (Map m) o) (sym element) (e, there, lies),
        of,
      ))
  element_met chain k n rule m q is (j, e, there, lies, inr enters) =
      let found = enters_goto e.verdict q enters in
      rw is (inr (
        found.0,
        subst (λ (v : Verdict). LeadsTo m.elements.items (address_at m.end p) v) found.1
            (leads_at m.elements.items (address_at m.end p) j e there lies),
        found.2,
      ))

  match_met : (b : ℕ) (q : Place) (chain : Option ℕ) (k n : ℕ) (r : MatchRule) (rest : List ChainRule) (fit : Bool) → fits state p r ≡ fit
      → b ≤ length table.chains.items → LeadsBelow b r.verdict → Meets q (number_of chain) n (match_rule r ∷ rest)
      → MetAt chain k n (Match r) q ⊎ (Gives state p (Match r) None × Meets q (number_of chain) (n + 1) rest)
  match_met b q chain k n r rest true is few below met =
      elim (met_first q (number_of chain) n (match_rule r) rest r.verdict refl (stays table state p b r.verdict few below) met) [
        | inl here ↦ inl (elim here.1 [
          | inl same ↦
              let s : Span = span_at chain k None n (n + 1) in
              let rule = ap (λ (o : Place). o.rule) same in
              inl (s, contains_here s [], refl, refl, is, (ap (λ (o : Place). o.chain) same, omega (arith, rule), omega (arith, rule)))
          | inr enters ↦
              let found = enters_goto r.verdict q enters in
              inr (found.0, rw is (ap (λ (v : Verdict). Some v) (sym found.1)), found.2)
        ])
        | inr on ↦ absurd (true≢false (sym is ∙ sym (match_matches state p r) ∙ on.0))
      ]
  match_met b q chain k n r rest false is few below met =
      elim (met_first q (number_of chain) n (match_rule r) rest r.verdict refl (stays table state p b r.verdict few below) met) [
        | inl here ↦ absurd (true≢false (sym here.0 ∙ match_matches state p r ∙ is))
        | inr on ↦ inr (rw is refl, on.1)
      ]

  met_rule : (b : ℕ) (q : Place) (chain : Option ℕ) (k n : ℕ) (rule : Rule) (rest : List ChainRule) → IsPacket p
      → b ≤ length table.chains.items → IsRule b rule → Meets q (number_of chain) n (rules_of_rule rule ++ rest)
      → MetAt chain k n rule q ⊎ (Gives state p rule None × Meets q (number_of chain) (n + length (rules_of_rule rule)) rest)
  met_rule b q chain k n (Map m) rest packet few is met =
      elim (met_elements b q chain k 0 n m.end m.elements.items rest few is.2 (address_fits m.end p packet) met) [
        | inl found ↦ inl (element_met chain k n (Map m) m q refl found)
        | inr past ↦ inr past
      ]
  met_rule b q chain k n (Match r) rest packet few is met = match_met b q chain k n r rest (fits state p r) refl few is.1 met

  -- ---- All rules

  -- The rule stands for a place that the packet meets from rule k on, or is the last one of a chain.
  abbrev pub Stands : Option ℕ → ℕ → List Rule → Place → Type 0
  Stands chain k rules q =
      ((s : Span) × Contains (spans_of table) s × IsOf s q × MeetsFrom table.chains.items state p s.place chain k rules) ⊎ IsLast table q

  stands_later : (chain : Option ℕ) (k : ℕ) (rule : Rule) (rules : List Rule) (q : Place) → Gives state p rule None
      → Stands chain (k + 1) rules q → Stands chain k (rule ∷ rules) q
  stands_later chain k rule rules q gives (inl (s, among, of, met)) = inl (s, among, of, meets_later gives met)
  stands_later chain k rule rules q gives (inr last) = inr last

  stands_there : (chain : Option ℕ) (k c : ℕ) (x : TableChain) (rule : Rule) (rules : List Rule) (q : Place) → Gives state p rule (Some (Goto c))
      → slice_get table.chains.items c ≡ Some x → Stands (Some c) 0 x.rules.items q → Stands chain k (rule ∷ rules) q
  stands_there chain k c x rule rules q gives there (inl (s, among, of, met)) = inl (s, among, of, meets_there c x gives there met)
  stands_there chain k c x rule rules q gives there (inr last) = inr last

  -- What is met in a chain before chain b.
  abbrev StandsBelow : ℕ → Type 0
  StandsBelow b = (c : ℕ) (x : TableChain) (q : Place) → c < b → slice_get table.chains.items c ≡ Some x → Enters (Goto c) q
      → Stands (Some c) 0 x.rules.items q

  goto_below : (b : ℕ) (rule : Rule) (c : ℕ) → IsRule b rule → Gives state p rule (Some (Goto c)) → c < b
  goto_below b (Map m) c is gives = leads_below b m.elements.items (address_at m.end p) c is.2 gives
    where
      leads_below : (n : ℕ) (es : List Element) (a d : ℕ) → LeadBelow n es → LeadsTo es a (Goto d) → d < n
      leads_below n [] a d below leads = absurd leads
      leads_below n (e ∷ es) a d below (inl here) = subst (LeadsBelow n) (sym here.1) below.0
      leads_below n (e ∷ es) a d below (inr later) = leads_below n es a d below.1 later
  goto_below b (Match r) c is gives = by_fit (fits state p r) gives
    where
      by_fit : (fit : Bool) → Some (Goto c) ≡ (if fit then Some r.verdict else None) → c < b
      by_fit true same = let is_goto : Goto c ≡ r.verdict = cc same in subst (LeadsBelow b) (sym is_goto) is.1
      by_fit false same = absurd (cc same)

  met_rules : (b : ℕ) (q : Place) (chain : Option ℕ) (k n : ℕ) (rules : List Rule) (rest : List ChainRule) → IsPacket p
      → b ≤ length table.chains.items → StandsBelow b → AreRules b rules
      → ((s : Span) → Contains (spans_of_rules chain k n rules) s → Contains (spans_of table) s)
      → Meets q (number_of chain) n (rules_of_rules rules ++ rest)
      → Stands chain k rules q ⊎ Meets q (number_of chain) (n + length (rules_of_rules rules)) rest
  met_rules b q chain k n [] rest packet few below are within met = inr (shifted q (number_of chain) n (n + 0) rest (omega arith) met)
  met_rules b q chain k n (rule ∷ rules) rest packet few below are within met =
      let c = number_of chain in
      let others = rules_of_rules rules in
      let first = spans_of_rule chain k n rule in
      let later = spans_of_rules chain (k + 1) (n + length (rules_of_rule rule)) rules in
      let apart = subst (λ (rs : List ChainRule). Meets q c n rs) (append_assoc (rules_of_rule rule) others rest) met in
      elim (met_rule b q chain k n rule (others ++ rest) packet few are.0 apart) [
        | inl found ↦ inl (elim found [
          | inl here ↦ inl (here.0, within here.0 (Contains-append_left first later here.0 here.1), here.5, meets_here here.2 here.3 here.4)
          | inr there ↦
              let low = goto_below b rule there.0 are.0 there.1 in
              let x = some_chain table.chains.items there.0 (omega (arith, low, few)) in
              stands_there chain k there.0 x.0 rule rules q there.1 x.1 (below there.0 x.0 q low x.1 there.2)
        ])
        | inr on ↦ elim (met_rules b q chain (k + 1) (n + length (rules_of_rule rule)) rules rest packet few below are.1
            (λ s among. within s (Contains-append_right first later s among)) on.1) [
              | inl stand ↦ inl (stands_later chain k rule rules q on.0 stand)
              | inr past ↦ inr (shifted q c (n + length (rules_of_rule rule) + length others) (n + length (rules_of_rule rule ++ others)) rest
                  (omega (arith, length-append (rules_of_rule rule) others)) past)
            ]
      ]

  -- ---- All chains

  no_rule : (q : Place) (c n : ℕ) (rs : List ChainRule) → rs ≡ [] → Meets q c n rs → ⊥
  no_rule q c n _ none (meets_rule_here is on) = cc none
  no_rule q c n _ none (meets_rule_later step later) = cc none
  no_rule q c n _ none (meets_inside step inside) = cc none
  no_rule q c n _ none (meets_behind step back behind) = cc none

  only_last : (q : Place) (c n : ℕ) → Meets q c n (every_packet ToDrop ∷ []) → q ≡ at c n
  only_last q c n met = elim (met_first q c n (every_packet ToDrop) [] Drop refl tt met) [
    | inl here ↦ elim here.1 [ inl is ↦ is | inr enters ↦ absurd enters ]
    | inr on ↦ absurd (true≢false on.0)
  ]

  chain_stands : (b : ℕ) → IsLoadable table → IsPacket p → b ≤ length table.chains.items → StandsBelow b
  chain_stands zero is packet few c x q low there met = absurd (omega (arith, low))
  chain_stands (suc b) is packet few c x q low there met =
      let inside = subst (λ (rs : List ChainRule). Meets q (chain_number c) 0 rs) (have_chains table c x there) met in
      let below : StandsBelow c = λ d y r less there_too enters.
      chain_stands b is packet (omega (arith, few)) d y r (omega (arith, less, low)) there_too enters in
      elim (met_rules c q (Some c) 0 0 x.rules.items (every_packet ToDrop ∷ []) packet (omega (arith, low, few)) below (is.back c x there)
      (λ s among. spans_of_chain table c x s there among) inside) [
        | inl stand ↦ stand
        | inr last ↦
            let same : 0 + length (rules_of_rules x.rules.items) ≡ length (rules_of_rules x.rules.items) = omega arith in
            inr (
              c,
              x,
              there,
              only_last q (chain_number c) (length (rules_of_rules x.rules.items))
                  (shifted q (chain_number c) (0 + length (rules_of_rules x.rules.items)) (length (rules_of_rules x.rules.items)) (every_packet ToDrop ∷ []) same last),
            )
      ]

  pub met_stands : (q : Place) → IsLoadable table → IsPacket p → IsRuleMet (chains_of table) p state q → Stands None 0 table.forward.items q
  met_stands q is packet met =
      let forward = rules_of_rules table.forward.items in
      let n = length table.chains.items in
      let all = subst (λ (rs : List ChainRule). Meets q 1 0 rs) (sym (append-nil forward)) met in
      elim (met_rules n q None 0 0 table.forward.items [] packet (omega arith) (chain_stands n is packet (omega arith)) is.forward
      (λ s among. Contains-append_left (spans_of_rules None 0 0 table.forward.items) (spans_from 0 table.chains.items) s among) all) [
        | inl stand ↦ stand
        | inr none ↦ absurd (no_rule q 1 (0 + length forward) [] refl none)
      ]
