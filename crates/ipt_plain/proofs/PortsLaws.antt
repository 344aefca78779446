-- Tokens negate a match on all ports if and only if the call finds them so.
use Rattle.std.proofs.Common.{◌≡◌, ℕ, inl, inr, true, false, ◌&&◌, ◌||◌, List, [], ◌∷◌, refl, sym, subst}
use Rattle.std.specs.Prelude.{codes, bytes_eq}
use Rattle.std.proofs.lemmas.Bool.{and_parts, and_from, or_cases, or_left, or_right}
use Rattle.text_core.proofs.StepsLaws.{bytes_same}
use Rattle.ipt_plain.specs.Plain.{IsPortOption, AreAllPorts, NegatesAllPorts, here, further}
use Rattle.ipt_plain.specs.inner.LineSteps.{is_bang, is_port_option, is_all_ports, is_negated_match, negates_all_ports}

option_said : (w : List ℕ) → is_port_option w ≡ true → IsPortOption w
unfolding is_port_option
option_said w h = elim (or_cases (bytes_eq w (codes "--sport")) (bytes_eq w (codes "--dport")) h) [
  | inl a ↦ inl (bytes_same w (codes "--sport") a)
  | inr a ↦ inr (bytes_same w (codes "--dport") a)
]

ports_said : (w : List ℕ) → is_all_ports w ≡ true → AreAllPorts w
unfolding is_all_ports
ports_said w h = elim (or_cases (bytes_eq w (codes "0:65535") || bytes_eq w (codes "0:")) (bytes_eq w (codes ":65535")) h) [
  | inl a ↦ elim (or_cases (bytes_eq w (codes "0:65535")) (bytes_eq w (codes "0:")) a) [
    | inl b ↦ inl (bytes_same w (codes "0:65535") b)
    | inr b ↦ inr (inl (bytes_same w (codes "0:") b))
  ]
  | inr a ↦ inr (inr (bytes_same w (codes ":65535") a))
]

bang_said : (w : List ℕ) → is_bang w ≡ true → w ≡ codes "!"
unfolding is_bang
bang_said w h = bytes_same w (codes "!") h

match_said : (a b c : List ℕ) (ws : List (List ℕ)) → is_negated_match a b c ≡ true → NegatesAllPorts (a ∷ b ∷ c ∷ ws)
match_said a b c ws h =
    let outer = and_parts (is_bang a && is_port_option b) (is_all_ports c) h in
    let inner = and_parts (is_bang a) (is_port_option b) outer.0 in
    subst (λ (w : List ℕ). NegatesAllPorts (w ∷ b ∷ c ∷ ws)) (sym (bang_said a inner.0)) (here (option_said b inner.1) (ports_said c outer.1))

pub negated : (a b : List ℕ) (ws : List (List ℕ)) → negates_all_ports a b ws ≡ true → NegatesAllPorts (a ∷ b ∷ ws)
negated a b [] h = cc
negated a b (c ∷ ws) h = elim (or_cases (is_negated_match a b c) (negates_all_ports b c ws) h) [
  | inl now ↦ match_said a b c ws now
  | inr later ↦ further (negated b c ws later)
]

option_is : (w : List ℕ) → IsPortOption w → is_port_option w ≡ true
unfolding is_port_option
option_is w (inl e) = subst (λ (v : List ℕ). is_port_option v ≡ true) (sym e) refl
option_is w (inr e) = subst (λ (v : List ℕ). is_port_option v ≡ true) (sym e) refl

ports_are : (w : List ℕ) → AreAllPorts w → is_all_ports w ≡ true
unfolding is_all_ports
ports_are w (inl e) = subst (λ (v : List ℕ). is_all_ports v ≡ true) (sym e) refl
ports_are w (inr (inl e)) = subst (λ (v : List ℕ). is_all_ports v ≡ true) (sym e) refl
ports_are w (inr (inr e)) = subst (λ (v : List ℕ). is_all_ports v ≡ true) (sym e) refl

bang_is : is_bang (codes "!") ≡ true
unfolding is_bang
bang_is = refl

no_bang : is_bang [] ≡ false
unfolding is_bang
no_bang = refl

match_is : (b c : List ℕ) → IsPortOption b → AreAllPorts c → is_negated_match (codes "!") b c ≡ true
match_is b c option ports =
    and_from (is_bang (codes "!") && is_port_option b) (is_all_ports c) (and_from (is_bang (codes "!")) (is_port_option b) bang_is (option_is b option)) (ports_are c ports)

-- Tokens that are found after two earlier ones are found on their own.
found_later : (ws : List (List ℕ)) → NegatesAllPorts ws → (a b : List ℕ) → negates_all_ports a b ws ≡ true
found_later _ (here {option = option} {ports = ports} {ws = ws} is_option are_ports) a b =
    or_right (is_negated_match a b (codes "!")) _
    (or_right (is_negated_match b (codes "!") option) _
    (or_left (is_negated_match (codes "!") option ports) (negates_all_ports option ports ws) (match_is option ports is_option are_ports)))
found_later _ (further {w = w} {ws = ws} given) a b = or_right (is_negated_match a b w) (negates_all_ports b w ws) (found_later ws given b w)

pub found : (ws : List (List ℕ)) → NegatesAllPorts ws → negates_all_ports [] [] ws ≡ true
found ws given = found_later ws given [] []

-- The empty tokens in front of a line are part of no match.
pub found_said : (ws : List (List ℕ)) → negates_all_ports [] [] ws ≡ true → NegatesAllPorts ws
found_said [] h = cc
found_said (a ∷ []) h = let e : false ≡ true = rw no_bang at h in cc
found_said (a ∷ b ∷ ws) h = negated a b ws (rw no_bang at h)
