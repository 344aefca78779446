-- The reasons why a line encodes no entry (ovs-ofctl(8), "Flow Syntax").
use Rattle.std.specs.Prelude.{◌≡◌, ◌≢◌, ◌⊎◌, ℕ, IsTrue, IsFalse, List, [], ◌∷◌, ◌++◌, codes}
use Rattle.std.specs.List.{AllByRecursion}
use Rattle.host_net.specs.Service.{has_name}
use Rattle.host_net.specs.ServiceText.{protocol_text}
use Rattle.ofp_rules.specs.declared.entry.Entry.{Entry}
use Rattle.ofp_rules.specs.Matching.{asks_of_ip}
use Rattle.ofp_read.specs.declared.fault.OfpWhy.{OfpWhy}
use Rattle.ofp_read.specs.declared.fault.OfpWhy.TheVariants.{BadLine, UnknownField, BadValue, NeedsIp, UnknownAction}
use Rattle.ofp_read.specs.Grammar.{Part, kind, protocol, about, fields, EachSays, IsNoneOf, AreFieldsOf, ends_with_separator, HasFlow}

-- A field specifies these parts, regardless of its value: it begins with their name, or it is a name without a value.
pub data IsAbout : List Part → List ℕ → Type 0 where
  by_name : {text : List ℕ} (part : Part) (value : List ℕ) → text ≡ (about part).name ++ value → IsAbout (part ∷ []) text
  kind_alone : {text : List ℕ} → (text ≡ codes "ip") ⊎ (text ≡ codes "arp") → IsAbout (kind ∷ []) text
  protocol_alone : {text : List ℕ} (proto : ℕ) → IsTrue (has_name proto) × (text ≡ protocol_text proto) → IsAbout (kind ∷ protocol ∷ []) text

-- None of the parts is specified already.
abbrev pub AreNew : List Part → List Part → Type 0
AreNew parts said = AllByRecursion (λ part. IsNoneOf part said) parts

-- The reason why a field cannot follow others that specify the parts `said`: it specifies no part; or a part that is specified already; or
-- its parts are new, but its value is invalid for every entry.
pub data IsBadField (said : List Part) (text : List ℕ) : OfpWhy → Type 0 where
  unknown : ((parts : List Part) → IsAbout parts text → ⊥) → IsBadField said text UnknownField
  twice : (parts : List Part) → IsAbout parts text → (AreNew parts said → ⊥) → IsBadField said text BadLine
  valueless : (parts : List Part) → IsAbout parts text → AreNew parts said
      → ((e : Entry) (ps : List Part) → EachSays e ps (text ∷ []) → ⊥) → IsBadField said text BadValue

-- The first field of a line that cannot follow the fields before it: these are fields of an entry, and it is not an
-- action.
pub record HasBadField (line : List ℕ) (why : OfpWhy) : Type 0 where
  pub front : List (List ℕ)
  pub here : List ℕ
  pub behind : List (List ℕ)
  pub entry : Entry
  pub whole : fields line ≡ front ++ here ∷ behind
  pub of_fields : AreFieldsOf entry front
  pub no_action : (value : List ℕ) → here ≢ codes "actions=" ++ value
  pub bad : IsBadField of_fields.parts here why

-- The reason why a line encodes no entry: a field before its action is bad; or no field is bad, and it has no action; or it has an action,
-- but is the flow of no entry; or the entry matches on fields that not all its frames have.
pub data IsUnwritten (line : List ℕ) : OfpWhy → Type 0 where
  bad_field : {why : OfpWhy} → HasBadField line why → IsUnwritten line why
  no_action : (e : Entry) → AreFieldsOf e (fields line) → IsUnwritten line BadLine
  unknown_action : (e : Entry) (front text : List ℕ) → line ≡ front ++ (codes "actions=" ++ text) → IsTrue (ends_with_separator front)
      → AreFieldsOf e (fields front) → ((f : Entry) → HasFlow line f → ⊥) → IsUnwritten line UnknownAction
  needs_ip : (e : Entry) → HasFlow line e → IsFalse (asks_of_ip e) → IsUnwritten line NeedsIp
