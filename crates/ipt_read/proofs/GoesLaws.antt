-- Parsed rules jump to existing user chains, so only a cycle or an allocation failure can prevent a rule set.
use Rattle.std.proofs.Common.{◌≡◌, ℕ, zero, suc, ◌+◌, ◌<◌, ◌≤◌, Bool, true, false, sym, refl, subst, inl, inr, List, [], ◌∷◌, ◌++◌, Option, Some, None, length, arith}
use Rattle.std.specs.Prelude.{codes, bytes_eq, nat_lt, unwrap_or}
use Rattle.std.specs.List.{position_from}
use Rattle.std.proofs.lemmas.Bool.Decides.{nat_tests}
use Rattle.text_core.proofs.StepsLaws.{if_parts}
use Rattle.ipt_rules.specs.declared.rule.Policy.{Policy}
use Rattle.ipt_rules.specs.declared.rule.Rule.{Rule}
use Rattle.ipt_rules.specs.declared.rule.Target.{Target}
use Rattle.ipt_rules.specs.declared.rule.Target.TheVariants.{Accept, Drop, Reject, Return, Count, Jump}
use Rattle.ipt_rules.specs.inner.Build.{has_unknown_target, first_unknown, refusal_of}
use Rattle.ipt_rules.specs.Chain.{Chain, user_chain, changed_at, with_policy, with_rule}
use Rattle.ipt_rules.specs.ChainTable.{rule_count}
use Rattle.ipt_read.specs.Options.{PartialRule, empty_rule, named_target}
use Rattle.ipt_read.specs.Grammar.{IsValue, source, destination, protocol, source_port, destination_port, states, conntrack_module, state_module, comment_module, own_module, target, jump, a_text, a_word, IsPiece, plain, turned, AreOptionWords, none_left, one_more, IsRuleLine}
use Rattle.ipt_read.specs.inner.Goes.{Goes, AllGo, EachGoes}
use Rattle.ipt_read.proofs.WithinLaws.{number_of_within}

-- 1. Changes of the chains.

goes_more : (n m : ℕ) (t : Target) → n ≤ m → Goes n t → Goes m t
goes_more n m (Jump c) h goes = (goes.0, omega (arith, goes.1))
goes_more n m _ h goes = tt

all_more : (n m : ℕ) (rs : List Rule) → n ≤ m → AllGo n rs → AllGo m rs
all_more n m [] h go = tt
all_more n m (r ∷ rs) h go = (goes_more n m r.target h go.0, all_more n m rs h go.1)

pub each_more : (n m : ℕ) (xs : List Chain) → n ≤ m → EachGoes n xs → EachGoes m xs
each_more n m [] h go = tt
each_more n m (x ∷ xs) h go = (all_more n m x.rules h go.0, each_more n m xs h go.1)

pub each_added : (n : ℕ) (xs : List Chain) (name : List ℕ) → EachGoes n xs → EachGoes n (xs ++ user_chain name ∷ [])
each_added n [] name go = (tt, tt)
each_added n (x ∷ xs) name go = (go.0, each_added n xs name go.1)

each_changed : (n : ℕ) (xs : List Chain) (c : ℕ) (f : Chain → Chain) → ((x : Chain) → AllGo n x.rules → AllGo n (f x).rules) → EachGoes n xs → EachGoes n (changed_at xs c f)
each_changed n [] c f keeps go = tt
each_changed n (x ∷ xs) zero f keeps go = (keeps x go.0, go.1)
each_changed n (x ∷ xs) (suc c) f keeps go = (go.0, each_changed n xs c f keeps go.1)

pub each_with_policy : (n : ℕ) (xs : List Chain) (c : ℕ) (p : Policy) → EachGoes n xs → EachGoes n (with_policy xs c p)
unfolding with_policy
each_with_policy n xs c p go = each_changed n xs c (λ x. record x { policy = Some p }) (λ x h. h) go

all_one_more : (n : ℕ) (rs : List Rule) (r : Rule) → Goes n r.target → AllGo n rs → AllGo n (rs ++ r ∷ [])
all_one_more n [] r goes go = (goes, tt)
all_one_more n (q ∷ rs) r goes go = (go.0, all_one_more n rs r goes go.1)

pub each_with_rule : (n : ℕ) (xs : List Chain) (c : ℕ) (r : Rule) → Goes n r.target → EachGoes n xs → EachGoes n (with_rule xs c r)
unfolding with_rule
each_with_rule n xs c r goes go = each_changed n xs c (λ x. record x { rules = x.rules ++ r ∷ [] }) (λ x h. all_one_more n x.rules r goes h) go

-- 2. Parsed rule lines.

abbrev TargetGoes : ℕ → Option Target → Type 0
TargetGoes n None = Unit {0}
TargetGoes n (Some t) = Goes n t

said_goes : (n : ℕ) (t u : Target) → ◌≡◌ {A = Option Target} (Some t) (Some u) → Goes n t → Goes n u
said_goes n t u h goes = let e : t ≡ u = cc in subst (Goes n) e goes

-- A target with a name of its own is no jump.
named_goes : (n : ℕ) (word : List ℕ) (t : Target) → named_target word ≡ Some t → Goes n t
named_goes n word t h = elim (if_parts (bytes_eq word (codes "ACCEPT")) (Some Accept) _ (Some t) h) [
  | inl is ↦ said_goes n Accept t is.1 tt
  | inr a ↦ elim (if_parts (bytes_eq word (codes "DROP")) (Some Drop) _ (Some t) a.1) [
    | inl is ↦ said_goes n Drop t is.1 tt
    | inr b ↦ elim (if_parts (bytes_eq word (codes "REJECT")) (Some Reject) _ (Some t) b.1) [
      | inl is ↦ said_goes n Reject t is.1 tt
      | inr d ↦ elim (if_parts (bytes_eq word (codes "RETURN")) (Some Return) _ (Some t) d.1) [
        | inl is ↦ said_goes n Return t is.1 tt
        | inr e ↦ elim (if_parts (bytes_eq word (codes "LOG")) (Some Count) None (Some t) e.1) [
          | inl is ↦ said_goes n Count t is.1 tt
          | inr bad ↦ cc
        ]
      ]
    ]
  ]
]

value_goes : (chains : List Chain) (given now : PartialRule) (negated : Bool) (name : List ℕ) (ws : List (List ℕ)) → IsValue chains given negated name ws now → TargetGoes (length chains) given.target → TargetGoes (length chains) now.target
value_goes chains given now negated name ws (source p fits spelled) goes = goes
value_goes chains given now negated name ws (destination p fits spelled) goes = goes
value_goes chains given now negated name ws (protocol proto is) goes = goes
value_goes chains given now negated name ws (source_port low high are) goes = goes
value_goes chains given now negated name ws (destination_port low high are) goes = goes
value_goes chains given now negated name ws (states new established its list) goes = goes
value_goes chains given now negated name ws conntrack_module goes = goes
value_goes chains given now negated name ws state_module goes = goes
value_goes chains given now negated name ws comment_module goes = goes
value_goes chains given now negated name ws (own_module part said names) goes = goes
value_goes chains given now negated name ws (target {w = w} t there) goes = named_goes (length chains) w t there
value_goes chains given now negated name ws (jump {w = w} c none number up) goes = (up, number_of_within chains w c number)
value_goes chains given now negated name ws (a_text its is) goes = goes
value_goes chains given now negated name ws (a_word its) goes = goes

piece_goes : (chains : List Chain) (given now : PartialRule) (ws : List (List ℕ)) → IsPiece chains given ws now → TargetGoes (length chains) given.target → TargetGoes (length chains) now.target
piece_goes chains given now ws (plain {name = name} {value = value} stands is) goes = value_goes chains given now false name value is goes
piece_goes chains given now ws (turned {name = name} {value = value} free stands is) goes = value_goes chains given now true name value is goes

pieces_go : (chains : List Chain) (given last : PartialRule) (ws : List (List ℕ)) → AreOptionWords chains given ws last → TargetGoes (length chains) given.target → TargetGoes (length chains) last.target
pieces_go chains given last ws none_left goes = goes
pieces_go chains given last ws (one_more {now = now} {ws = front} {vs = rest} piece others) goes =
    pieces_go chains now last rest others (piece_goes chains given now front piece goes)

by_target : (n : ℕ) (o : Option Target) → TargetGoes n o → Goes n (unwrap_or o Count)
by_target n None goes = tt
by_target n (Some t) goes = goes

pub line_goes : (chains : List Chain) (ws : List (List ℕ)) (c : ℕ) (r : Rule) → IsRuleLine chains ws c r → Goes (length chains) r.target
line_goes chains ws c r line =
    subst (λ (q : Rule). Goes (length chains) q.target) (sym line.same) (by_target (length chains) line.given.target (pieces_go chains empty_rule line.given line.pieces line.fit tt))

-- 3. So no jump has an unknown target.

goes_somewhere : (n : ℕ) (t : Target) → Goes n t → has_unknown_target n t ≡ false
goes_somewhere n (Jump c) goes = let low : 3 ≤ c = goes.0 in let high : c < n = goes.1 in grind (arith, nat_tests)
goes_somewhere n Accept goes = refl
goes_somewhere n Drop goes = refl
goes_somewhere n Reject goes = refl
goes_somewhere n Return goes = refl
goes_somewhere n Count goes = refl

no_place : (n i : ℕ) (rs : List Rule) → AllGo n rs → position_from (λ r. has_unknown_target n r.target) i rs ≡ None
no_place n i [] go = refl
no_place n i (r ∷ rs) go = rw (goes_somewhere n r.target go.0) (no_place n (i + 1) rs go.1)

none_unknown : (n c : ℕ) (xs : List Chain) → EachGoes n xs → first_unknown n c xs ≡ None
none_unknown n c [] go = refl
none_unknown n c (x ∷ xs) go = rw (no_place n 0 x.rules go.0) (none_unknown n (c + 1) xs go.1)

pub not_refused : (xs : List Chain) → length xs ≤ 4096 → rule_count xs ≤ 1000000 → EachGoes (length xs) xs → refusal_of xs ≡ None
unfolding refusal_of
not_refused xs few rules go =
    let a : nat_lt 4096 (length xs) ≡ false = grind (arith, nat_tests) in
    let b : nat_lt 1000000 (rule_count xs) ≡ false = grind (arith, nat_tests) in
    rw (a, b) (none_unknown (length xs) 0 xs go)
