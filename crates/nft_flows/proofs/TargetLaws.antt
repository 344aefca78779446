-- The verdict at a place is that of the rules of its span, and each place has a span.
use Rattle.std.proofs.Common.{◌≡◌, inl, inr, ℕ, zero, suc, ◌+◌, ◌<◌, ◌≤◌, List, [], ◌∷◌, ◌++◌, Option, Some, None, drop, length, map, refl, sym, ap, subst, ◌∙◌, append_assoc, append-nil, arith}
use Rattle.std.specs.Prelude.{option_map, slice_get}
use Rattle.std.specs.List.{Contains, flat_map}
use Rattle.std.specs.Option.{option_and_then, option_map_or}
use Rattle.std.proofs.Math.Numerals.{add-one}
use Rattle.std.proofs.lemmas.Bool.{cases_lt}
use Rattle.std.proofs.lemmas.List.{length-map}
use Rattle.std.proofs.lemmas.List.Elements.{Contains-append_cases, Contains-append_left, Contains-append_right}
use Rattle.host_net.specs.declared.prefix.Prefix.{Prefix}
use Rattle.ipt_rules.specs.declared.rule.Rule.{Rule as ChainRule}
use Rattle.ipt_rules.specs.declared.rule.Target.TheVariants.{Drop as ToDrop}
use Rattle.ipt_rules.specs.Chain.{rules_of}
use Rattle.nft_rules.specs.declared.table.Chain.{Chain}
use Rattle.nft_rules.specs.declared.table.Element.{Element}
use Rattle.nft_rules.specs.declared.table.End.{End}
use Rattle.nft_rules.specs.declared.table.Rule.{Rule}
use Rattle.nft_rules.specs.declared.table.Rule.TheVariants.{Map, Match}
use Rattle.nft_rules.specs.declared.table.Table.{Table}
use Rattle.nft_rules.specs.declared.table.Verdict.{Verdict}
use Rattle.nft_chains.specs.Translation.{chains_of, element_rules, every_packet, match_rule, prefix_rule, prefixes_of, rules_of_rule, rules_of_rules, target_of}
use Rattle.nft_chains.proofs.VerdictLaws.{have_chains}
use Rattle.nft_flows.specs.Places.{rules_in, verdict_at, verdict_in}
use Rattle.nft_flows.specs.declared.span.Span.{Span}
use Rattle.nft_flows.specs.inner.Spans.{number_of, span_at, spans_from, spans_of, spans_of_elements, spans_of_rule, spans_of_rules}
use Rattle.nft_flows.proofs.MetLaws.{contains_here, spans_of_chain}
use Rattle.nft_flows.proofs.OrderLaws.{cons_cases, contains_none, from_chain, rules_within}

-- ---- The rest of a list

head_there : {X : Type 0} (all : List X) (n : ℕ) (x : X) (xs : List X) → drop n all ≡ x ∷ xs → slice_get all n ≡ Some x
head_there [] zero x xs is = absurd (cc is)
head_there [] (suc n) x xs is = absurd (cc is)
head_there (y ∷ all) zero x xs is = cc is
head_there (y ∷ all) (suc n) x xs is = head_there all n x xs is

tail_next : {X : Type 0} (all : List X) (n : ℕ) (x : X) (xs : List X) → drop n all ≡ x ∷ xs → drop (suc n) all ≡ xs
tail_next [] zero x xs is = absurd (cc is)
tail_next [] (suc n) x xs is = absurd (cc is)
tail_next (y ∷ all) zero x xs is = cc is
tail_next (y ∷ all) (suc n) x xs is = tail_next all n x xs is

tail_left : {X : Type 0} (all : List X) (n : ℕ) (x : X) (xs : List X) → drop n all ≡ x ∷ xs → drop (n + 1) all ≡ xs
tail_left all n x xs is = rw (add-one n) (tail_next all n x xs is)

past : {X : Type 0} (all : List X) (n : ℕ) (xs ys : List X) → drop n all ≡ xs ++ ys → drop (n + length xs) all ≡ ys
past all n [] ys is = let same : n + 0 ≡ n = omega arith in rw same is
past all n (x ∷ xs) ys is =
    let same : n + suc (length xs) ≡ n + 1 + length xs = omega arith in
    rw same (past all (n + 1) xs ys (tail_left all n x (xs ++ ys) is))

-- ---- The rules of a span

-- The rules from index n on and before index m have the target of the verdict.
abbrev pub HaveTarget : List ChainRule → ℕ → ℕ → Verdict → Type 0
HaveTarget all n m v = (i : ℕ) → n ≤ i → i < m → (r : ChainRule) × (slice_get all i ≡ Some r) × (r.target ≡ target_of v)

prefixes_target : (all : List ChainRule) (n : ℕ) (end : End) (v : Verdict) (qs : List Prefix) (rest : List ChainRule)
    → drop n all ≡ map (prefix_rule end (target_of v)) qs ++ rest → HaveTarget all n (n + length qs) v
prefixes_target all n end v [] rest is i low high = absurd (omega (arith, low, high))
prefixes_target all n end v (q ∷ qs) rest is i low high =
    let rule = prefix_rule end (target_of v) q in
    let others = map (prefix_rule end (target_of v)) qs ++ rest in
    elim (cases_lt n i) [
      | inl later ↦
          prefixes_target all (n + 1) end v qs rest (tail_left all n rule others is) i (omega (arith, later)) (omega (arith, high))
      | inr first ↦
          let same : i ≡ n = omega (arith, low, first) in
          (rule, rw same (head_there all n rule others is), refl)
    ]

elements_target : (all : List ChainRule) (chain : Option ℕ) (k i n : ℕ) (end : End) (es : List Element) (rest : List ChainRule) (s : Span)
    → drop n all ≡ flat_map (element_rules end) es ++ rest → Contains (spans_of_elements chain k i n es) s
    → (j : ℕ) × (e : Element) × (slice_get es j ≡ Some e) × (s.place.element ≡ Some (i + j)) × HaveTarget all s.first s.end e.verdict
elements_target all chain k i n end [] rest s is among = absurd (contains_none s among)
elements_target all chain k i n end (e ∷ es) rest s is among =
    let next = n + length (prefixes_of e.range) in
    let others = flat_map (element_rules end) es in
    let cut : drop n all ≡ element_rules end e ++ (others ++ rest) = is ∙ append_assoc (element_rules end e) others rest in
    let long = length-map (prefixes_of e.range) (prefix_rule end (target_of e.verdict)) in
    elim (cons_cases (span_at chain k (Some i) n next) (spans_of_elements chain k (i + 1) next es) s among) [
      | inl here ↦
          let same : i ≡ i + 0 = omega arith in (
            0,
            e,
            refl,
            ap (λ (t : Span). t.place.element) (sym here) ∙ ap (λ (h : ℕ). Some h) same,
            subst (λ (t : Span). HaveTarget all t.first t.end e.verdict) here
                (prefixes_target all n end e.verdict (prefixes_of e.range) (others ++ rest) cut),
          )
      | inr later ↦
          let ends : n + length (element_rules end e) ≡ next = omega (arith, long) in
          let found = elements_target all chain k (i + 1) next end es rest s
          (subst (λ (m : ℕ). drop m all ≡ others ++ rest) ends (past all n (element_rules end e) (others ++ rest) cut)) later in
          let same : i + 1 + found.0 ≡ i + suc found.0 = omega arith in
          (suc found.0, found.1, found.2, found.3 ∙ ap (λ (h : ℕ). Some h) same, found.4)
    ]

rule_target : (all : List ChainRule) (chain : Option ℕ) (k n : ℕ) (rule : Rule) (rest : List ChainRule) (s : Span)
    → drop n all ≡ rules_of_rule rule ++ rest → Contains (spans_of_rule chain k n rule) s
    → (v : Verdict) × (verdict_in rule s.place.element ≡ Some v) × HaveTarget all s.first s.end v
rule_target all chain k n (Map m) rest s is among =
    let found = elements_target all chain k 0 n m.end m.elements.items rest s is among in
    let same : 0 + found.0 ≡ found.0 = omega arith in (
      found.1.verdict,
      ap (verdict_in (Map m)) (found.3 ∙ ap (λ (h : ℕ). Some h) same) ∙ ap (λ (o : Option Element). option_map (λ y. y.verdict) o) found.2,
      found.4,
    )
rule_target all chain k n (Match r) rest s is among = elim (cons_cases (span_at chain k None n (n + 1)) [] s among) [
  | inl here ↦ (
    r.verdict,
    ap (λ (t : Span). verdict_in (Match r) t.place.element) (sym here),
    subst (λ (t : Span). HaveTarget all t.first t.end r.verdict) here (λ i low high.
        let same : i ≡ n = omega (arith, low, high) in
        (match_rule r, rw same (head_there all n (match_rule r) rest is), refl)),
  )
  | inr none ↦ absurd (contains_none s none)
]

rule_number : (chain : Option ℕ) (k n : ℕ) (rule : Rule) (s : Span) → Contains (spans_of_rule chain k n rule) s → s.place.rule ≡ k
rule_number chain k n (Map m) s among = element_number 0 n m.elements.items among
  where
    element_number : (i h : ℕ) (es : List Element) → Contains (spans_of_elements chain k i h es) s → s.place.rule ≡ k
    element_number i h [] has = absurd (contains_none s has)
    element_number i h (e ∷ es) has =
        elim (cons_cases (span_at chain k (Some i) h (h + length (prefixes_of e.range)))
        (spans_of_elements chain k (i + 1) (h + length (prefixes_of e.range)) es) s has) [
          | inl here ↦ ap (λ (t : Span). t.place.rule) (sym here)
          | inr later ↦ element_number (i + 1) (h + length (prefixes_of e.range)) es later
        ]
rule_number chain k n (Match r) s among = elim (cons_cases (span_at chain k None n (n + 1)) [] s among) [
  | inl here ↦ ap (λ (t : Span). t.place.rule) (sym here)
  | inr none ↦ absurd (contains_none s none)
]

rules_target : (all : List ChainRule) (own : List Rule) (chain : Option ℕ) (k n : ℕ) (rules : List Rule) (rest : List ChainRule) (s : Span)
    → drop n all ≡ rules_of_rules rules ++ rest → drop k own ≡ rules → Contains (spans_of_rules chain k n rules) s
    → (rule : Rule) × (slice_get own s.place.rule ≡ Some rule) × ((v : Verdict) × (verdict_in rule s.place.element ≡ Some v) × HaveTarget all s.first s.end v)
rules_target all own chain k n [] rest s is at among = absurd (contains_none s among)
rules_target all own chain k n (rule ∷ rules) rest s is at among =
    let next = n + length (rules_of_rule rule) in
    let others = rules_of_rules rules in
    let cut : drop n all ≡ rules_of_rule rule ++ (others ++ rest) = is ∙ append_assoc (rules_of_rule rule) others rest in
    elim (Contains-append_cases (spans_of_rule chain k n rule) (spans_of_rules chain (k + 1) next rules) s among) [
      | inl first ↦ (
        rule,
        rw (rule_number chain k n rule s first) (head_there own k rule rules at),
        rule_target all chain k n rule (others ++ rest) s cut first,
      )
      | inr later ↦
          rules_target all own chain (k + 1) next rules rest s (past all n (rules_of_rule rule) (others ++ rest) cut) (tail_left own k rule rules at) later
    ]

-- The place of the span has the verdict, and its rules have the target of the verdict.
pub record HasVerdict (table : Table) (s : Span) : Type 0 where
  pub verdict : Verdict
  pub there : verdict_at table s.place ≡ Some verdict
  pub targets : HaveTarget (rules_of (chains_of table) s.chain) s.first s.end verdict

has_verdict : (table : Table) (chain : Option ℕ) (own : List Rule) (rest : List ChainRule) (s : Span) → rules_in table chain ≡ own
    → rules_of (chains_of table) (number_of chain) ≡ rules_of_rules own ++ rest → Contains (spans_of_rules chain 0 0 own) s → HasVerdict table s
has_verdict table chain own rest s rules all among =
    let within = rules_within chain 0 0 own s among in
    let found = rules_target (rules_of (chains_of table) (number_of chain)) own chain 0 0 own rest s all refl among in
    record {
      verdict = found.2.0;
      there =
          ap (λ (c : Option ℕ). option_and_then (λ rule. verdict_in rule s.place.element) (slice_get (rules_in table c) s.place.rule)) within.own
          ∙ ap (λ (rs : List Rule). option_and_then (λ rule. verdict_in rule s.place.element) (slice_get rs s.place.rule)) rules
          ∙ ap (λ (o : Option Rule). option_and_then (λ rule. verdict_in rule s.place.element) o) found.1
          ∙ found.2.1;
      targets =
          subst (λ (c : ℕ). HaveTarget (rules_of (chains_of table) c) s.first s.end found.2.0) (sym within.number) found.2.2;
    }

pub span_verdict : (table : Table) (s : Span) → Contains (spans_of table) s → HasVerdict table s
span_verdict table s among =
    elim (Contains-append_cases (spans_of_rules None 0 0 table.forward.items) (spans_from 0 table.chains.items) s among) [
      | inl base ↦ has_verdict table None table.forward.items [] s refl (sym (append-nil (rules_of_rules table.forward.items))) base
      | inr later ↦
          let found = from_chain 0 table.chains.items s later in
          let same : 0 + found.0 ≡ found.0 = omega arith in
          has_verdict table (Some found.0) found.1.rules.items (every_packet ToDrop ∷ []) s
          (ap (λ (o : Option Chain). option_map_or (λ x. x.rules.items) o []) found.2) (have_chains table found.0 found.1 found.2)
          (subst (λ (c : ℕ). Contains (spans_of_rules (Some c) 0 0 found.1.rules.items) s) same found.3)
    ]

-- ---- The span of a place

elements_span : (chain : Option ℕ) (k i n : ℕ) (es : List Element) (j : ℕ) (e : Element) → slice_get es j ≡ Some e
    → (s : Span) × Contains (spans_of_elements chain k i n es) s × (s.place ≡ record { chain = chain; rule = k; element = Some (i + j) })
elements_span chain k i n [] j e there = absurd (cc there)
elements_span chain k i n (x ∷ es) zero e there =
    let same : i ≡ i + 0 = omega arith in
    let s : Span = span_at chain k (Some i) n (n + length (prefixes_of x.range)) in (
      s,
      contains_here s (spans_of_elements chain k (i + 1) (n + length (prefixes_of x.range)) es),
      ap (λ (h : ℕ). record { chain = chain; rule = k; element = Some h }) same,
    )
elements_span chain k i n (x ∷ es) (suc j) e there =
    let next = n + length (prefixes_of x.range) in
    let found = elements_span chain k (i + 1) next es j e there in
    let same : i + 1 + j ≡ i + suc j = omega arith in (
      found.0,
      Contains-append_right (span_at chain k (Some i) n next ∷ []) (spans_of_elements chain k (i + 1) next es) found.0 found.1,
      found.2 ∙ ap (λ (h : ℕ). record { chain = chain; rule = k; element = Some h }) same,
    )

rule_span : (chain : Option ℕ) (k n : ℕ) (rule : Rule) (element : Option ℕ) (v : Verdict) → verdict_in rule element ≡ Some v
    → (s : Span) × Contains (spans_of_rule chain k n rule) s × (s.place ≡ record { chain = chain; rule = k; element = element })
rule_span chain k n (Map m) None v has = absurd (cc has)
rule_span chain k n (Map m) (Some j) v has = by_element (slice_get m.elements.items j) refl has
  where
    by_element : (o : Option Element) → slice_get m.elements.items j ≡ o → option_map (λ y. y.verdict) o ≡ Some v
        → (s : Span) × Contains (spans_of_elements chain k 0 n m.elements.items) s × (s.place ≡ record { chain = chain; rule = k; element = Some j })
    by_element None there none = absurd (cc none)
    by_element (Some e) there some =
        let found = elements_span chain k 0 n m.elements.items j e there in
        let same : 0 + j ≡ j = omega arith in
        (found.0, found.1, found.2 ∙ ap (λ (h : ℕ). record { chain = chain; rule = k; element = Some h }) same)
rule_span chain k n (Match r) None v has = let s : Span = span_at chain k None n (n + 1) in (s, contains_here s [], refl)
rule_span chain k n (Match r) (Some j) v has = absurd (cc has)

rules_span : (chain : Option ℕ) (k n : ℕ) (rules : List Rule) (j : ℕ) (rule : Rule) (element : Option ℕ) (v : Verdict)
    → slice_get rules j ≡ Some rule → verdict_in rule element ≡ Some v
    → (s : Span) × Contains (spans_of_rules chain k n rules) s × (s.place ≡ record { chain = chain; rule = k + j; element = element })
rules_span chain k n [] j rule element v there has = absurd (cc there)
rules_span chain k n (x ∷ rules) zero rule element v there has =
    let is : x ≡ rule = cc there in
    let found = rule_span chain k n x element v (subst (λ (y : Rule). verdict_in y element ≡ Some v) (sym is) has) in
    let same : k ≡ k + 0 = omega arith in (
      found.0,
      Contains-append_left (spans_of_rule chain k n x) (spans_of_rules chain (k + 1) (n + length (rules_of_rule x)) rules) found.0 found.1,
      found.2 ∙ ap (λ (h : ℕ). record { chain = chain; rule = h; element = element }) same,
    )
rules_span chain k n (x ∷ rules) (suc j) rule element v there has =
    let next = n + length (rules_of_rule x) in
    let found = rules_span chain (k + 1) next rules j rule element v there has in
    let same : k + 1 + j ≡ k + suc j = omega arith in (
      found.0,
      Contains-append_right (spans_of_rule chain k n x) (spans_of_rules chain (k + 1) next rules) found.0 found.1,
      found.2 ∙ ap (λ (h : ℕ). record { chain = chain; rule = h; element = element }) same,
    )

-- The rule of a place whose verdict is known.
rule_there : (o : Option Rule) (element : Option ℕ) (v : Verdict) → option_and_then (λ rule. verdict_in rule element) o ≡ Some v
    → (rule : Rule) × (o ≡ Some rule) × (verdict_in rule element ≡ Some v)
rule_there None element v has = absurd (cc has)
rule_there (Some rule) element v has = (rule, refl, has)

pub place_span : (table : Table) (chain : Option ℕ) (j : ℕ) (element : Option ℕ) (v : Verdict)
    → verdict_at table (record { chain = chain; rule = j; element = element }) ≡ Some v
    → (s : Span) × Contains (spans_of table) s × (s.place ≡ record { chain = chain; rule = j; element = element })
place_span table None j element v has =
    let rule = rule_there (slice_get table.forward.items j) element v has in
    let found = rules_span None 0 0 table.forward.items j rule.0 element v rule.1 rule.2 in
    let same : 0 + j ≡ j = omega arith in (
      found.0,
      Contains-append_left (spans_of_rules None 0 0 table.forward.items) (spans_from 0 table.chains.items) found.0 found.1,
      found.2 ∙ ap (λ (h : ℕ). record { chain = None; rule = h; element = element }) same,
    )
place_span table (Some c) j element v has = by_chain (slice_get table.chains.items c) refl has
  where
    by_chain : (o : Option Chain) → slice_get table.chains.items c ≡ o
        → option_and_then (λ rule. verdict_in rule element) (slice_get (option_map_or (λ x. x.rules.items) o []) j) ≡ Some v
        → (s : Span) × Contains (spans_of table) s × (s.place ≡ record { chain = Some c; rule = j; element = element })
    by_chain None there none = absurd (cc none)
    by_chain (Some x) there some =
        let rule = rule_there (slice_get x.rules.items j) element v some in
        let found = rules_span (Some c) 0 0 x.rules.items j rule.0 element v rule.1 rule.2 in
        let same : 0 + j ≡ j = omega arith in (
          found.0,
          spans_of_chain table c x found.0 there found.1,
          found.2 ∙ ap (λ (h : ℕ). record { chain = Some c; rule = h; element = element }) same,
        )
