-- The attribute of an assign is the listed attribute that its host may have, template by template. So each host of a parsed invariant has
-- an attribute that it may have.
use Rattle.std.proofs.Common.{◌≡◌, ◌≢◌, ◌≤◌, ◌<◌, ◌+◌, ℕ, zero, suc, Bool, true, false, not, ◌==◌, nat_eq, nat_le, nat_lt, List, [], ◌∷◌, ◌++◌, length, length-set, replicate, get_or, set, get_or-set_other, Option, Some, None, option_map, option_and_then, inl, inr, refl, sym, ap, ◌∙◌, subst, arith}
use Rattle.std.proofs.lemmas.Bool.{and_from, and_parts, cases_eq, eq-eqb, eqb-false, eqb-true, false≢true, lt-ltb, ltb-true, ne_eqb, not_from_false, not_from_true, or_cases, or_left, or_right}
use Rattle.std.proofs.lemmas.Bool.Decides.{nat_tests}
use Rattle.std.proofs.lemmas.List.{get_or-set_same, length-replicate}
use Rattle.std.proofs.lemmas.List.FromFn.{length-map-range_with_len}
use Rattle.std.proofs.lemmas.Option.{option_and_then_some}
use Rattle.std.specs.FinSet as fin
use Rattle.std.specs.List.{fold, list_any}
use Rattle.std.specs.Option.{option_or}
use Rattle.std.specs.Prelude.{◌⊎◌, ◌↔◌, ℤ, pos, negsuc, IfSome, codes, unwrap_or, if◌then◌else◌}
use Rattle.std.specs.Str.{bytes_eq}
use Rattle.flow_set.specs.HostSet.{HostNumbers}
use Rattle.host_net.specs.Host.{Host, host_named}
use Rattle.host_net.proofs.NamedLaws.{host_named_within}
use Rattle.inv_any.specs.inner.Templates.{HostsMayHave}
use Rattle.inv_any.specs.laws.TemplateLaws.{may_have_default}
use Rattle.inv_law.specs.inner.Template.{AllMayHave, MayHaveDefault}
use Rattle.table_core.specs.Listing.{each}
use Rattle.table_core.specs.Tables.{integer_at, list_at, number_at, number_of, text_at}
use Rattle.text_core.proofs.StepsLaws.{bind_some, map_parts}
use Rattle.tmpl_domains.specs.Domains.{IsPlace, Place}
use Rattle.tmpl_domains.specs.Path.{is_path, segments}
use Rattle.tmpl_reach.specs.NoReach.{AreOthers}
use Rattle.tmpl_reach.specs.laws.NoReachLaws.{contains-others}
use Rattle.tmpl_zones.specs.Partners.{Partner, DontCare, Care, Master, TakesFromOthers, with_sender}
use Rattle.toml.specs.Data.{Data, Members, as_str}
use Rattle.attr_core.specs.Assigns.{Given}
use Rattle.attr_core.specs.Domains.{domains_attribute, domains_form}
use Rattle.attr_core.specs.laws.FormLaws.{attribute_at}
use Rattle.attr_core.specs.Forms.{Form, attributes_in, last_assigned, says}
use Rattle.attr_core.specs.inner.MayHave.{SaysWhatHostsMayHave, domains_listed, known_host, master_listed, noreach_listed, partner_listed, partners_listed}
use Rattle.attr_core.specs.NoReach.{all_denied, noreach_attribute, noreach_form}
use Rattle.attr_core.specs.OwnTables.{Declared, kind_numbered, table_form}
use Rattle.attr_core.proofs.OwnTablesLaws.{found_within}
use Rattle.attr_core.specs.Partners.{master_of, partner_of, partners_attribute, partners_form}
use Rattle.attr_core.specs.Peers.{peer}
use Rattle.attr_core.specs.Shapes.{host_key, of_shape}
use Rattle.attr_core.proofs.TaintedMayHaveLaws.{tainting_may_have}
use Rattle.attr_core.specs.Templates.{form}
use Rattle.attr_core.specs.inner.ReadIn.{invariant_in}
use Rattle.attr_core.proofs.TemplatesLaws.{invariant_is}
use Rattle.attr_core.specs.declared.template.Template.{Template}
use Rattle.attr_core.specs.declared.template.Template.TheVariants.{Blp, Tainting, Partners, Domains, NoReach}

-- Domains: a number at a key is small, and a position is valid if its path is.
small_by : (most n : ℕ) (b : Bool) → nat_le n most ≡ b → unwrap_or (if b then Some n else None) 0 ≤ most
small_by most n true is = grind (arith, nat_tests)
small_by most n false is = omega arith

small_of : (most : ℕ) (o : Option ℤ) → unwrap_or (option_and_then (number_of most) o) 0 ≤ most
small_of most None = omega arith
small_of most (Some (pos n)) = small_by most n (nat_le n most) refl
small_of most (Some (negsuc n)) = omega arith

number_small : (most : ℕ) (key : List ℕ) (table : Members) → unwrap_or (number_at most key table) 0 ≤ most
unfolding number_at
number_small most key table = small_of most (integer_at key table)

abbrev place_of : List ℕ → ℕ → Place
place_of path trust = record { path = segments path; trust = trust }

place_by : (path : List ℕ) (trust : ℕ) (b : Bool) (x : Option Place) → is_path path ≡ b → trust ≤ 16
    → (option_map Some (if b then Some (place_of path trust) else None) ≡ Some x) ↔
    ((Some (Some (place_of path trust)) ≡ Some x) × IfSome x IsPlace)
place_by path trust true x is small = (
  λ said. let same : Some (place_of path trust) ≡ x = cc in (said, subst (λ (y : Option Place). IfSome y IsPlace) same (record { path = is; trust = small })),
  λ both. both.0,
)
place_by path trust false x is small = (
  λ said. cc,
  λ both.
      let listed : Some (Some (place_of path trust)) ≡ Some x = both.0 in
      let same : x ≡ Some (place_of path trust) = cc in
      let place : IsPlace (place_of path trust) = subst (λ (y : Option Place). IfSome y IsPlace) same both.1 in
      absurd (false≢true (sym is ∙ place.path)),
)

place_in : (o : Option (List ℕ)) (trust : ℕ) (x : Option Place) → trust ≤ 16
    → (option_map Some (option_and_then (λ path. if is_path path then Some (place_of path trust) else None) o) ≡ Some x) ↔
    ((option_map Some (option_map (λ path. place_of path trust) o) ≡ Some x) × IfSome x IsPlace)
place_in None trust x small = (λ said. cc, λ both. let none : None ≡ Some x = both.0 in cc)
place_in (Some path) trust x small = place_by path trust (is_path path) x refl small

pub domains_may_have : SaysWhatHostsMayHave domains_form (λ hosts earlier a. option_map Some (domains_listed a.table))
unfolding domains_attribute
domains_may_have hosts earlier a x =
    place_in (text_at (codes "path") a.table) (unwrap_or (number_at 16 (codes "trust") a.table) 0) x (number_small 16 (codes "trust") a.table)

-- Listed hosts: each differs from the host.
abbrev AllOther : ℕ → ℕ → List ℕ → Type 0
AllOther n host ks = (j : ℕ) → list_any (λ k. nat_eq k j) ks ≡ true → (j < n) × (host ≢ j)

peer_by : (host other k : ℕ) (b : Bool) → nat_eq other host ≡ b
    → ((if b then None else Some other) ≡ Some k) ↔ ((Some other ≡ Some k) × (host ≢ k))
peer_by host other k true is = (
  λ said. cc,
  λ both. let known : Some other ≡ Some k = both.0 in let same : other ≡ k = cc in absurd (both.1 (sym (eqb-true other host is) ∙ same)),
)
peer_by host other k false is = (
  λ said. let same : other ≡ k = cc in (said, λ itself. eqb-false other host is (same ∙ sym itself)),
  λ both. both.0,
)

peer_in : (host : ℕ) (o : Option ℕ) (k : ℕ)
    → (option_and_then (λ other. if nat_eq other host then None else Some other) o ≡ Some k) ↔ ((o ≡ Some k) × (host ≢ k))
peer_in host None k = (λ said. cc, λ both. let none : None ≡ Some k = both.0 in cc)
peer_in host (Some other) k = peer_by host other k (nat_eq other host) refl

peer_named : (hosts : List Host) (host : ℕ) (o : Option (List ℕ)) (k : ℕ)
    → (option_and_then (λ name. option_and_then (λ other. if nat_eq other host then None else Some other) (host_named hosts name)) o ≡ Some k)
    ↔ ((option_and_then (host_named hosts) o ≡ Some k) × (host ≢ k))
peer_named hosts host None k = (λ said. cc, λ both. let none : None ≡ Some k = both.0 in cc)
peer_named hosts host (Some name) k = peer_in host (host_named hosts name) k

one_peer : (hosts : List Host) (host : ℕ) (d : Data) (k : ℕ) → (peer hosts host d ≡ Some k) ↔ ((known_host hosts d ≡ Some k) × (host ≢ k))
unfolding peer
one_peer hosts host d k = peer_named hosts host (as_str d) k

known_within : (hosts : List Host) (d : Data) (k : ℕ) → known_host hosts d ≡ Some k → k < length hosts
known_within hosts d k is = option_and_then_some (host_named hosts) (as_str d) k is (λ name is_name named. host_named_within hosts name k named)

each_cons : {D A : Type 0} (read : D → Option A) (d : D) (ds : List D) (ks : List A) → each read (d ∷ ds) ≡ Some ks
    → (k : A) × (rest : List A) × (read d ≡ Some k) × (each read ds ≡ Some rest) × (k ∷ rest ≡ ks)
each_cons {A = A} read d ds ks is =
    option_and_then_some (λ (x : A). option_map (λ (xs : List A). x ∷ xs) (each read ds)) (read d) ks is (λ k is_k behind.
    let (rest, is_rest, same) = map_parts (λ (xs : List A). k ∷ xs) (each read ds) ks behind in
    (k, rest, is_k, is_rest, same))

each_of : {D A : Type 0} (read : D → Option A) (d : D) (ds : List D) (k : A) (rest : List A) → read d ≡ Some k → each read ds ≡ Some rest
    → each read (d ∷ ds) ≡ Some (k ∷ rest)
each_of read d ds k rest is_k is_rest = rw (is_k, is_rest) refl

other_first : (n host k : ℕ) (rest : List ℕ) → k < n → host ≢ k → AllOther n host rest → AllOther n host (k ∷ rest)
other_first n host k rest within apart others j listed = elim (or_cases (nat_eq k j) (list_any (λ i. nat_eq i j) rest) listed) [
  | inl same ↦ (subst (λ i. i < n) (eqb-true k j same) within, λ itself. apart (itself ∙ sym (eqb-true k j same)))
  | inr later ↦ others j later
]

all_peers : (hosts : List Host) (host : ℕ) (ds : List Data) (ks : List ℕ)
    → (each (peer hosts host) ds ≡ Some ks) ↔ ((each (known_host hosts) ds ≡ Some ks) × AllOther (length hosts) host ks)
all_peers hosts host [] ks = (
  λ said. let none : [] ≡ ks = cc in (said, subst (AllOther (length hosts) host) none (λ j listed. absurd (false≢true listed))),
  λ both. both.0,
)
all_peers hosts host (d ∷ ds) ks = (
  λ said.
      let (k, rest, is_k, is_rest, same) = each_cons (peer hosts host) d ds ks said in
      let (known, apart) = (one_peer hosts host d k).0 is_k in
      let (others_known, others) = (all_peers hosts host ds rest).0 is_rest in (
        each_of (known_host hosts) d ds k rest known others_known ∙ ap Some same,
        subst (AllOther (length hosts) host) same (other_first (length hosts) host k rest (known_within hosts d k known) apart others),
      ),
  λ both.
      let (k, rest, known, others_known, same) = each_cons (known_host hosts) d ds ks both.0 in
      let others : AllOther (length hosts) host (k ∷ rest) = subst (AllOther (length hosts) host) (sym same) both.1 in
      let apart : host ≢ k = (others k (or_left (nat_eq k k) (list_any (λ i. nat_eq i k) rest) (eq-eqb k k refl))).1 in
      each_of (peer hosts host) d ds k rest ((one_peer hosts host d k).1 (known, apart))
      ((all_peers hosts host ds rest).1 (others_known, λ j listed. others j (or_right (nat_eq k j) (list_any (λ i. nat_eq i j) rest) listed)))
      ∙ ap Some same,
)

-- No-reach.
among_others : (n host : ℕ) (ks : List ℕ) → AllOther n host ks ↔ AreOthers n host (fin.from_list ks)
among_others n host ks = (
  λ all j denied.
      let (within, apart) = all j (sym (fin.contains-from_list_nat ks j) ∙ denied) in
      contains-others n host j ∙ and_from _ _ (lt-ltb j n within) (not_from_false _ (ne_eqb j host (λ same. apart (sym same)))),
  λ all j listed.
      let (below, apart) = and_parts (nat_lt j n) (not (nat_eq j host)) (sym (contains-others n host j) ∙ all j (fin.contains-from_list_nat ks j ∙ listed)) in
      (ltb-true j n below, λ same. false≢true (sym (not_from_true (nat_eq j host) (eq-eqb j host (sym same))) ∙ apart)),
)

denied_may_have : (hosts : List Host) (host : ℕ) (ds : List Data) (x : HostNumbers)
    → (all_denied hosts host ds ≡ Some x) ↔ ((option_map fin.from_list (each (known_host hosts) ds) ≡ Some x) × AreOthers (length hosts) host x)
unfolding all_denied
denied_may_have hosts host ds x = (
  λ said.
      let (ks, is_ks, same) = map_parts fin.from_list (each (peer hosts host) ds) x said in
      let (known, others) = (all_peers hosts host ds ks).0 is_ks in (
        ap (option_map fin.from_list) known ∙ ap Some same,
        subst (AreOthers (length hosts) host) same ((among_others (length hosts) host ks).0 others),
      ),
  λ both.
      let (ks, known, same) = map_parts fin.from_list (each (known_host hosts) ds) x both.0 in
      let others = (among_others (length hosts) host ks).1 (subst (AreOthers (length hosts) host) (sym same) both.1) in
      ap (option_map fin.from_list) ((all_peers hosts host ds ks).1 (known, others)) ∙ ap Some same,
)

-- The result of a first step is that of another, as far as hosts may have it.
then_may_have : {D A : Type 0} (o : Option D) (read listed : D → Option A) (May : A → Type 0) (x : A)
    → ((d : D) → (read d ≡ Some x) ↔ ((listed d ≡ Some x) × May x))
    → (option_and_then read o ≡ Some x) ↔ ((option_and_then listed o ≡ Some x) × May x)
then_may_have None read listed May x exact = (λ said. cc, λ both. let none : None ≡ Some x = both.0 in cc)
then_may_have (Some d) read listed May x exact = exact d

pub noreach_may_have : SaysWhatHostsMayHave noreach_form (λ hosts earlier a. noreach_listed hosts a.table)
unfolding noreach_attribute
noreach_may_have hosts earlier a x =
    then_may_have (list_at (codes "deny") a.table) (all_denied hosts a.host) (λ ds. option_map fin.from_list (each (known_host hosts) ds))
    (AreOthers (length hosts) a.host) x (λ ds. denied_may_have hosts a.host ds x)

-- Partners: a master marks exactly the listed hosts.
abbrev marked : List Bool → List ℕ → List Bool
marked marks ks = fold (λ (ms : List Bool) (k : ℕ). set ms k true) marks ks

master_marks : (marks : List Bool) (ks : List ℕ) → fold with_sender (Master marks) ks ≡ Master (marked marks ks)
master_marks marks [] = refl
master_marks marks (k ∷ ks) = master_marks (set marks k true) ks

length-marked : (marks : List Bool) (ks : List ℕ) → length (marked marks ks) ≡ length marks
length-marked marks [] = refl
length-marked marks (k ∷ ks) = length-marked (set marks k true) ks ∙ length-set marks k true

unmarked : (marks : List Bool) (ks : List ℕ) (host : ℕ) → get_or marks host false ≡ false
    → ((j : ℕ) → list_any (λ k. nat_eq k j) ks ≡ true → host ≢ j) → get_or (marked marks ks) host false ≡ false
unmarked marks [] host none apart = none
unmarked marks (k ∷ ks) host none apart =
    unmarked (set marks k true) ks host
    (get_or-set_other marks k host true false (apart k (or_left (nat_eq k k) (list_any (λ i. nat_eq i k) ks) (eq-eqb k k refl))) ∙ none)
    (λ j listed. apart j (or_right (nat_eq k j) (list_any (λ i. nat_eq i j) ks) listed))

still_marked : (marks : List Bool) (ks : List ℕ) (host : ℕ) → host < length marks → get_or marks host false ≡ true
    → get_or (marked marks ks) host false ≡ true
still_marked marks [] host within is = is
still_marked marks (k ∷ ks) host within is =
    still_marked (set marks k true) ks host (subst (λ n. host < n) (sym (length-set marks k true)) within) (elim (cases_eq host k) [
      | inl same ↦ subst (λ h. get_or (set marks h true) host false ≡ true) same (get_or-set_same marks host true false within)
      | inr other ↦ get_or-set_other marks k host true false other ∙ is
    ])

is_marked : (marks : List Bool) (ks : List ℕ) (host : ℕ) → host < length marks → list_any (λ k. nat_eq k host) ks ≡ true
    → get_or (marked marks ks) host false ≡ true
is_marked marks [] host within listed = absurd (false≢true listed)
is_marked marks (k ∷ ks) host within listed =
    let still : host < length (set marks k true) = subst (λ n. host < n) (sym (length-set marks k true)) within in
    elim (or_cases (nat_eq k host) (list_any (λ i. nat_eq i host) ks) listed) [
      | inl same ↦
          still_marked (set marks k true) ks host still
          (subst (λ h. get_or (set marks h true) host false ≡ true) (sym (eqb-true k host same)) (get_or-set_same marks host true false within))
      | inr later ↦ is_marked (set marks k true) ks host still later
    ]

unset : (n i : ℕ) → get_or (replicate n false) i false ≡ false
unset zero i = refl
unset (suc n) zero = refl
unset (suc n) (suc i) = unset n i

known_all : (hosts : List Host) (ds : List Data) (ks : List ℕ) → each (known_host hosts) ds ≡ Some ks → (j : ℕ)
    → list_any (λ k. nat_eq k j) ks ≡ true → j < length hosts
known_all hosts [] ks is j listed =
    let none : ks ≡ [] = cc in
    absurd (false≢true (subst (λ (xs : List ℕ). list_any (λ k. nat_eq k j) xs ≡ true) none listed))
known_all hosts (d ∷ ds) ks is j listed =
    let (k, rest, known, others, same) = each_cons (known_host hosts) d ds ks is in
    elim (or_cases (nat_eq k j) (list_any (λ i. nat_eq i j) rest) (subst (λ (xs : List ℕ). list_any (λ i. nat_eq i j) xs ≡ true) (sym same) listed)) [
      | inl here ↦ subst (λ i. i < length hosts) (eqb-true k j here) (known_within hosts d k known)
      | inr later ↦ known_all hosts ds rest others j later
    ]

master_others : (n host : ℕ) (ks : List ℕ) → ((j : ℕ) → list_any (λ k. nat_eq k j) ks ≡ true → j < n)
    → AllOther n host ks ↔ TakesFromOthers n host (fold with_sender (Master (replicate n false)) ks)
master_others n host ks within = (
  λ all. subst (TakesFromOthers n host) (sym (master_marks (replicate n false) ks)) (
    length-marked (replicate n false) ks ∙ length-replicate n false,
    unmarked (replicate n false) ks host (unset n host) (λ j listed. (all j listed).1),
  ),
  λ takes j listed. (
    within j listed,
    λ same.
        let here = subst (λ i. list_any (λ k. nat_eq k i) ks ≡ true) (sym same) listed in
        let below : host < length (replicate n false) = subst (λ m. host < m) (sym (length-replicate n false)) (within host here) in
        let marks : TakesFromOthers n host (Master (marked (replicate n false) ks)) =
        subst (TakesFromOthers n host) (master_marks (replicate n false) ks) takes in
        false≢true (sym marks.1 ∙ is_marked (replicate n false) ks host below here),
  ),
)

master_may_have : (hosts : List Host) (host : ℕ) (ds : List Data) (x : Partner)
    → (master_of hosts host ds ≡ Some x) ↔ ((master_listed hosts ds ≡ Some x) × TakesFromOthers (length hosts) host x)
unfolding master_of
master_may_have hosts host ds x =
    let make : List ℕ → Partner = fold with_sender (Master (replicate (length hosts) false)) in (
      λ said.
          let (ks, is_ks, same) = map_parts make (each (peer hosts host) ds) x said in
          let (known, others) = (all_peers hosts host ds ks).0 is_ks in (
            ap (option_map make) known ∙ ap Some same,
            subst (TakesFromOthers (length hosts) host) same ((master_others (length hosts) host ks (known_all hosts ds ks known)).0 others),
          ),
      λ both.
          let (ks, known, same) = map_parts make (each (known_host hosts) ds) x both.0 in
          let others = (master_others (length hosts) host ks (known_all hosts ds ks known)).1 (subst (TakesFromOthers (length hosts) host) (sym same) both.1) in
          ap (option_map make) ((all_peers hosts host ds ks).1 (known, others)) ∙ ap Some same,
    )

master_by : (n host : ℕ) (master : Bool) (read listed : Option Partner) (x : Partner)
    → (read ≡ Some x) ↔ ((listed ≡ Some x) × TakesFromOthers n host x)
    → ((if master then read else None) ≡ Some x) ↔ (((if master then listed else None) ≡ Some x) × TakesFromOthers n host x)
master_by n host true read listed x exact = exact
master_by n host false read listed x exact = (λ said. cc, λ both. let none : None ≡ Some x = both.0 in cc)

listless_by : (n host : ℕ) (dontcare care : Bool) (x : Partner)
    → option_map (λ (row : List ℕ × Partner). row.1) (if dontcare then Some (codes "dontcare", DontCare) else (if care then Some (codes "care", Care) else None)) ≡ Some x
    → TakesFromOthers n host x
listless_by n host true care x said = let same : DontCare ≡ x = cc in subst (TakesFromOthers n host) same tt
listless_by n host false true x said = let same : Care ≡ x = cc in subst (TakesFromOthers n host) same tt
listless_by n host false false x said = cc

partner_may_have : (hosts : List Host) (host : ℕ) (from : Option (List Data)) (word : List ℕ) (x : Partner)
    → (partner_of hosts host from word ≡ Some x) ↔ ((partner_listed hosts from word ≡ Some x) × TakesFromOthers (length hosts) host x)
partner_may_have hosts host None word x =
    (λ said. (said, listless_by (length hosts) host (bytes_eq word (codes "dontcare")) (bytes_eq word (codes "care")) x said), λ both. both.0)
partner_may_have hosts host (Some ds) word x =
    master_by (length hosts) host (bytes_eq word (codes "master")) (master_of hosts host ds) (master_listed hosts ds) x
    (master_may_have hosts host ds x)

pub partners_may_have : SaysWhatHostsMayHave partners_form (λ hosts earlier a. partners_listed hosts a.table)
unfolding partners_attribute
partners_may_have hosts earlier a x =
    let from = list_at (codes "from") a.table in
    then_may_have (text_at (codes "kind") a.table) (partner_of hosts a.host from) (partner_listed hosts from)
    (TakesFromOthers (length hosts) a.host) x (λ word. partner_may_have hosts a.host from word x)

-- A declared template: the number of a word is that of a kind.
pub kinds_may_have : (d : Declared) → d.table.kinds ≡ length d.words
    → SaysWhatHostsMayHave (table_form d) (λ hosts earlier a. option_and_then (kind_numbered d.words) (text_at (codes "kind") a.table))
kinds_may_have d sized hosts earlier a x = (
  λ said.
      let (word, is, numbered) = bind_some (text_at (codes "kind") a.table) (kind_numbered d.words) x said in
      let found : x < 0 + length d.words = found_within (bytes_eq word) 0 d.words x numbered in
      let below : x < length d.words = omega (arith, found) in
      (said, subst (λ n. x < n) (sym sized) below),
  λ both. both.0,
)

-- The attribute of an assign is one that its host may have.
pub read_may_have : (t : Template) (hosts : List Host) (earlier : List Given) (a : Given) (x : (form t).template.Attribute)
    → (form t).reads hosts earlier a ≡ Some x → (form t).template.MayHave (length hosts) a.host x
read_may_have Tainting hosts earlier a x is = ((tainting_may_have hosts earlier a x).0 is).1
read_may_have Partners hosts earlier a x is = ((partners_may_have hosts earlier a x).0 is).1
read_may_have Domains hosts earlier a x is = ((domains_may_have hosts earlier a x).0 is).1
read_may_have NoReach hosts earlier a x is = ((noreach_may_have hosts earlier a x).0 is).1
read_may_have t hosts earlier a x is = tt

default_may_have : (t : Template) → MayHaveDefault (form t).template
default_may_have Blp = may_have_default ((form Blp).make [])
default_may_have t = may_have_default ((form t).make [])

-- The same for each host after all assigns.
or_some : {A : Type 0} (o p : Option A) (x : A) → option_or o p ≡ Some x → (o ≡ Some x) ⊎ (p ≡ Some x)
or_some None p x is = inr is
or_some (Some y) p x is = inl is

pub here_by : {A : Type 0} (b : Bool) (o : Option A) (x : A) → (if b then o else None) ≡ Some x → (b ≡ true) × (o ≡ Some x)
here_by true o x is = (refl, is)
here_by false o x is = cc

last_said_is : {A : Type 0} (says : List Given → Given → Option A) (P : ℕ → A → Type 0)
    → ((earlier : List Given) (a : Given) (x : A) → says earlier a ≡ Some x → P a.host x)
    → (earlier : List Given) (host : ℕ) (rest : List Given) (x : A) → last_assigned says earlier host rest ≡ Some x → P host x
last_said_is says P each earlier host [] x is = cc
last_said_is says P each earlier host (a ∷ rest) x is =
    elim (or_some (last_assigned says (earlier ++ a ∷ []) host rest) (if a.host == host then says earlier a else None) x is) [
      | inl later ↦ last_said_is says P each (earlier ++ a ∷ []) host rest x later
      | inr here ↦
          let (same, said) = here_by (a.host == host) (says earlier a) x here in
          subst (λ h. P h x) (eqb-true a.host host same) (each earlier a x said)
    ]

said_or : {A : Type 0} (o : Option A) (d : A) (P : A → Type 0) → ((x : A) → o ≡ Some x → P x) → P d → P (unwrap_or o d)
said_or None d P said default = default
said_or (Some x) d P said default = said x refl

pub AllMayHave-attributes : (form : Form) → MayHaveDefault form.template
    → ((hosts : List Host) (earlier : List Given) (a : Given) (x : form.template.Attribute) → form.reads hosts earlier a ≡ Some x
    → form.template.MayHave (length hosts) a.host x)
    → (hosts : List Host) (assigns : List Given) → AllMayHave form.template (attributes_in form hosts assigns)
AllMayHave-attributes form default each hosts assigns host within =
    let n : ℕ = length hosts in
    let last : ℕ → Option form.template.Attribute = λ i. last_assigned (says form hosts) [] i assigns in
    let xs : List form.template.Attribute = attributes_in form hosts assigns in
    let sized : length xs ≡ n = length-map-range_with_len (λ i. unwrap_or (last i) (form.template.default n i)) 0 n in
    let below : host < n = subst (λ m. host < m) sized within in
    let here : get_or xs host (form.template.default n host) ≡ unwrap_or (last host) (form.template.default n host) =
    attribute_at (says form hosts) (form.template.default n) n assigns host (form.template.default n host) below in
    let said : form.template.MayHave n host (unwrap_or (last host) (form.template.default n host)) =
    said_or (last host) (form.template.default n host) (form.template.MayHave n host)
    (λ x is. last_said_is (says form hosts) (form.template.MayHave n) (λ earlier a y says_y. each hosts earlier a y (here_by (of_shape a.table (host_key ∷ form.keys)) (form.reads hosts earlier a) y says_y).1) [] host assigns x is)
    (default n host below) in
    subst (λ m. form.template.MayHave m host (get_or xs host (form.template.default m host))) (sym sized)
    (subst (form.template.MayHave n host) (sym here) said)

made_may_have : (t : Template) (xs : List (form t).template.Attribute) → AllMayHave (form t).template xs → HostsMayHave ((form t).make xs)
made_may_have Blp xs all = all
made_may_have t xs all = all

-- Each host of a parsed invariant has an attribute that it may have.
pub hosts_may_have : (hosts : List Host) (t : Template) (assigns : List Given) → HostsMayHave (invariant_in hosts t assigns)
hosts_may_have hosts t assigns =
    subst HostsMayHave (sym (invariant_is hosts t assigns))
    (made_may_have t (attributes_in (form t) hosts assigns) (AllMayHave-attributes (form t) (default_may_have t) (read_may_have t) hosts assigns))
