-- The request that the code reads of the words. No promise of `run` depends on it.
use Rattle.std.specs.Prelude.{ℕ, Bool, true, false, List, [], ◌∷◌, Option, None, Some, find, if◌then◌else◌}
use Rattle.std.specs.Option.{option_and_then}
use Rattle.std.specs.Str.{bytes_eq}
use Rattle.load_core.specs.Orders.{is_sound, orders_of}
use Rattle.load_core.specs.Program.{Reply, reply_of, usage_reply}
use Rattle.load_core.specs.Words.{Request, chains_word, event_word, forward_word}
use Rattle.load_core.specs.declared.event.Event.{Event}
use Rattle.load_core.specs.declared.event.Event.TheVariants.{Load, Now, Confirm, Back, Remove}
use Rattle.load_core.specs.declared.state.Generation.TheVariants.{A, B}
use Rattle.load_core.specs.declared.state.Forward.{Forward}
use Rattle.load_core.specs.declared.state.Forward.TheVariants.{Absent, Pending, Kept}
use Rattle.load_core.specs.declared.state.State.{State}

-- The first of the values that has this word.
abbrev pub named : {V : Type 0} → (V → List ℕ) → List V → (word : List ℕ) → Option V
named word_of values word = find (λ value. bytes_eq word (word_of value)) values

abbrev pub event_named : List ℕ → Option Event
event_named word = named event_word (Load ∷ Now ∷ Confirm ∷ Back ∷ Remove ∷ []) word

abbrev pub forward_named : List ℕ → Option Forward
forward_named word = named forward_word (Absent ∷ Kept A ∷ Pending A ∷ Kept B ∷ Pending B ∷ []) word

-- Whether there are chains of `a`, and of `b`.
abbrev pub chains_named : List ℕ → Option (Bool × Bool)
chains_named word =
    named (λ (has : Bool × Bool). chains_word has.0 has.1) ((false, false) ∷ (true, false) ∷ (false, true) ∷ (true, true) ∷ []) word

-- The request, if a table may have its state.
abbrev pub if_sound : Event → State → Option Request
if_sound event state = if is_sound state then Some (record { event = event; state = state }) else None

abbrev pub in_state : Event → Forward → Bool × Bool → Option Request
in_state event forward has = if_sound event (record { forward = forward; has_a = has.0; has_b = has.1 })

unfoldable pub request_of : List (List ℕ) → Option Request
request_of (event ∷ active ∷ chains ∷ []) =
    option_and_then (λ e. option_and_then (λ f. option_and_then (λ has. in_state e f has) (chains_named chains)) (forward_named active)) (event_named event)
request_of _ = None

-- The reply to the request of the words, or the usage.
abbrev pub reply_to : Option Request → Reply
reply_to None = usage_reply
reply_to (Some request) = reply_of (orders_of request.event request.state)
