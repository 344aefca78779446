-- The names that a user chain may have here. iptables(8) refuses those of more than 28 bytes.
use Rattle.std.specs.Prelude.{ℕ, Bool, false, ◌&&◌, ◌||◌, not, nat_le, ◌==◌, List, [], ◌∷◌, length, codes, bytes_eq}
use Rattle.std.specs.List.{list_all, list_any}

-- The reserved names: the built-in chains, and the names of targets.
unfoldable pub is_reserved : List ℕ → Bool
is_reserved name =
    list_any (bytes_eq name) (codes "INPUT" ∷ codes "FORWARD" ∷ codes "OUTPUT" ∷ codes "ACCEPT" ∷ codes "DROP" ∷
    codes "REJECT" ∷ codes "RETURN" ∷ codes "LOG" ∷ codes "QUEUE" ∷ [])

-- A printable byte other than a blank.
abbrev pub is_printing : ℕ → Bool
is_printing b = nat_le 33 b && nat_le b 126

-- A name that would be parsed as an option: it begins with `-` or `!`.
abbrev pub begins_as_option : List ℕ → Bool
begins_as_option [] = false
begins_as_option (b ∷ bs) = (b == 45) || (b == 33)

-- A length of 1 to 64 bytes.
abbrev pub has_name_length : List ℕ → Bool
has_name_length name = nat_le 1 (length name) && nat_le (length name) 64

-- A user chain name has 1 to 64 printable bytes, is no option, and is not reserved.
unfoldable pub is_user_name : List ℕ → Bool
is_user_name name =
    has_name_length name && (list_all is_printing name && (not (begins_as_option name) && not (is_reserved name)))
