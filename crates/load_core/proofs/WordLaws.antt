-- The code reads the request that the words are.
use Rattle.std.proofs.Common.{◌≡◌, ℕ, Bool, true, false, if◌then◌else◌, List, [], ◌∷◌, Option, None, Some, bytes_eq, refl, ap, subst, ◌∙◌}
use Rattle.std.specs.Prelude.{IsTrue, cond}
use Rattle.std.specs.Option.{option_and_then}
use Rattle.std.proofs.lemmas.Slice.Eq.{bytes_eq-Decides}
use Rattle.load_core.specs.Orders.{is_sound, orders_of}
use Rattle.load_core.specs.Program.{Reply, reply_of, usage_reply}
use Rattle.load_core.specs.Words.{IsNoRequest, IsRequest, Request, arguments_of, chains_word, event_word, forward_word}
use Rattle.load_core.specs.inner.Words.{chains_named, event_named, forward_named, in_state, named, reply_to, request_of}
use Rattle.load_core.specs.declared.event.Event.{Event}
use Rattle.load_core.specs.declared.event.Event.TheVariants.{Load, Now, Confirm, Back, Remove}
use Rattle.load_core.specs.declared.state.Generation.TheVariants.{A, B}
use Rattle.load_core.specs.declared.state.Forward.{Forward}
use Rattle.load_core.specs.declared.state.Forward.TheVariants.{Absent, Pending, Kept}
use Rattle.load_core.specs.declared.state.State.{State}

-- ---- a request is read of its words

event_read : (event : Event) → event_named (event_word event) ≡ Some event
event_read Load = refl
event_read Now = refl
event_read Confirm = refl
event_read Back = refl
event_read Remove = refl

forward_read : (forward : Forward) → forward_named (forward_word forward) ≡ Some forward
forward_read Absent = refl
forward_read (Pending A) = refl
forward_read (Pending B) = refl
forward_read (Kept A) = refl
forward_read (Kept B) = refl

chains_read : (has_a has_b : Bool) → chains_named (chains_word has_a has_b) ≡ Some (has_a, has_b)
chains_read false false = refl
chains_read false true = refl
chains_read true false = refl
chains_read true true = refl

-- The request of what the words name.
abbrev of_named : Option Event → Option Forward → Option (Bool × Bool) → Option Request
of_named event forward has = option_and_then (λ e. option_and_then (λ f. option_and_then (λ h. in_state e f h) has) forward) event

read_of : (request : Request) → IsTrue (is_sound request.state) → request_of (arguments_of request) ≡ Some request
unfolding request_of
read_of request sound =
    ap (λ e. of_named e (forward_named (forward_word request.state.forward)) (chains_named (chains_word request.state.has_a request.state.has_b))) (event_read request.event)
    ∙ ap (λ f. of_named (Some request.event) f (chains_named (chains_word request.state.has_a request.state.has_b))) (forward_read request.state.forward)
    ∙ ap (λ h. of_named (Some request.event) (Some request.state.forward) h) (chains_read request.state.has_a request.state.has_b)
    ∙ ap (λ (b : Bool). if b then Some request else None) sound

pub is_read : (words : List (List ℕ)) (request : Request) → IsRequest words request → request_of words ≡ Some request
is_read words request asks = ap request_of asks.0 ∙ read_of request asks.1

-- ---- a request that is read has these words

word_of_named : {V : Type 0} → (word_of : V → List ℕ) (values : List V) (word : List ℕ) (value : V) → named word_of values word ≡ Some value
    → word ≡ word_of value
word_of_named word_of [] word value is = cc
word_of_named word_of (first ∷ others) word value is =
    by_word (word_of_named word_of others word value) (bytes_eq word (word_of first)) refl is
  where
    by_word : (named word_of others word ≡ Some value → word ≡ word_of value)
        → (same : Bool) → bytes_eq word (word_of first) ≡ same → cond same (Some first) (named word_of others word) ≡ Some value → word ≡ word_of value
    by_word behind true same so = (bytes_eq-Decides word (word_of first)).0 same ∙ (let e : first ≡ value = cc in ap word_of e)
    by_word behind false different so = behind so

if_sound_is : (words : List (List ℕ)) (event : Event) (state : State) (request : Request) → words ≡ arguments_of (record { event = event; state = state })
    → (sound : Bool) → is_sound state ≡ sound → (if sound then Some (record { event = event; state = state }) else None) ≡ Some request
    → IsRequest words request
if_sound_is words event state request are true sound is =
    let said : Request = record { event = event; state = state } in
    let same : said ≡ request = cc in
    subst (λ (r : Request). IsRequest words r) same (are, sound)
if_sound_is words event state request are false sound is = cc

named_request : (event active chains : List ℕ) (request : Request) (e : Option Event) (f : Option Forward) (has : Option (Bool × Bool))
    → event_named event ≡ e → forward_named active ≡ f → chains_named chains ≡ has → of_named e f has ≡ Some request
    → IsRequest (event ∷ active ∷ chains ∷ []) request
named_request event active chains request None f has p q r is = cc
named_request event active chains request (Some e) None has p q r is = cc
named_request event active chains request (Some e) (Some f) None p q r is = cc
named_request event active chains request (Some e) (Some f) (Some has) p q r is =
    let first = word_of_named event_word (Load ∷ Now ∷ Confirm ∷ Back ∷ Remove ∷ []) event e p in
    let second = word_of_named forward_word (Absent ∷ Kept A ∷ Pending A ∷ Kept B ∷ Pending B ∷ []) active f q in
    let third = word_of_named (λ (h : Bool × Bool). chains_word h.0 h.1) ((false, false) ∷ (true, false) ∷ (false, true) ∷ (true, true) ∷ []) chains has r in
    let state : State = record { forward = f; has_a = has.0; has_b = has.1 } in
    if_sound_is (event ∷ active ∷ chains ∷ []) e state request (cc) (is_sound state) refl is

pub is_asked : (words : List (List ℕ)) (request : Request) → request_of words ≡ Some request → IsRequest words request
unfolding request_of
is_asked [] request is = cc
is_asked (event ∷ []) request is = cc
is_asked (event ∷ active ∷ []) request is = cc
is_asked (event ∷ active ∷ chains ∷ []) request is =
    named_request event active chains request (event_named event) (forward_named active) (chains_named chains) refl refl refl is
is_asked (event ∷ active ∷ chains ∷ another ∷ rest) request is = cc

-- ---- the reply to words

pub reply_decided : (P : Reply → Type 0) (words : List (List ℕ)) → P (reply_to (request_of words)) → (request : Request) → IsRequest words request
    → P (reply_of (orders_of request.event request.state))
reply_decided P words given request asks = subst (λ (o : Option Request). P (reply_to o)) (is_read words request asks) given

no_request : (words : List (List ℕ)) → IsNoRequest words → (o : Option Request) → request_of words ≡ o → request_of words ≡ None
no_request words is_none None is = is
no_request words is_none (Some request) is = absurd (is_none request (is_asked words request is))

pub reply_usage : (P : Reply → Type 0) (words : List (List ℕ)) → P (reply_to (request_of words)) → IsNoRequest words → P usage_reply
reply_usage P words given is_none =
    subst (λ (o : Option Request). P (reply_to o)) (no_request words is_none (request_of words) refl) given
