-- A flow that can be appended is valid. With FlowLaws: an edit adds a flow if and only if the flow is valid.
use Rattle.std.proofs.Common.{◌≡◌, ◌≢◌, ◌⊎◌, inl, inr, ℕ, ℤ, pos, zero, suc, ◌≤◌, true, false, not, List, [], ◌∷◌, ◌++◌, length, map, filter_map, codes, Option, Some, None, Ok, option_and_then, unwrap_or, is_some, is_eq, nat_cmp, refl, sym, ap, subst, ◌∙◌, arith}
use Rattle.std.proofs.lemmas.Bool.{and_parts, both_ways, cases_Bool, or_cases}
use Rattle.std.proofs.lemmas.Bool.Decides.{Decides-int_eq}
use Rattle.std.proofs.lemmas.List.{get_or_push, length_push}
use Rattle.std.proofs.lemmas.List.Elements.{filter_map-append}
use Rattle.std.proofs.lemmas.Slice.Eq.{bytes_eq-Decides}
use Rattle.std.specs.Cmp.Lexicographic.{slice_cmp}
use Rattle.std.specs.List.{All, AllPairs, AllZip, cons_option, list_any}
use Rattle.std.specs.Prelude.{IsFalse, IsTrue}
use Rattle.std.specs.Str.{bytes_eq}
use Rattle.toml.specs.Data.{Data, Members, array, string, as_integer, as_str, as_table, get_member}
use Rattle.toml.specs.View.{items_of}
use Rattle.desc_core.proofs.KnownLaws.{each_is, is_host}
use Rattle.desc_core.specs.Description.{described_by_table}
use Rattle.desc_core.proofs.DescriptionLaws.{accepted}
use Rattle.desc_core.proofs.MigratedLaws.{get_other, get_with}
use Rattle.desc_core.specs.UseConditions.{is_declared}
use Rattle.desc_core.specs.inner.UseFacts.{AreServiceTexts}
use Rattle.desc_core.specs.RawNetwork.{network_of}
use Rattle.desc_form.proofs.FlowLaws.{flow_says, said_version}
use Rattle.desc_form.specs.Keys.{says_second, declared_version}
use Rattle.desc_form.specs.Places.{listed}
use Rattle.desc_form.specs.RawDescription.{RawDescription, raw_host, raw_invariant, raw_template, written}
use Rattle.desc_form.specs.RawFlow.{RawFlow, flow_of_values, raw_flow}
use Rattle.desc_form.specs.inner.RawForm.{IsFlow, IsRawOf}
use Rattle.desc_form.proofs.NoneLaws.{all_tested}
use Rattle.desc_form.specs.RawHosts.{network_hosts}
use Rattle.edit_core.proofs.FlowLaws.{has_asked, hosts_of}
use Rattle.edit_core.proofs.FlowLemmas.{AreEnds, AreTwo, flow_said, is_named, named_where}
use Rattle.edit_core.proofs.FlowTables.{AreRightFlows, IsListing, listed_again, listing, own_flows, with_flows}
use Rattle.edit_core.specs.Edited.{text_list, with_list}
use Rattle.edit_core.specs.inner.FlowEdits.{IsRightFlow}
use Rattle.flow_set.specs.FlowSet.{has}
use Rattle.flow_set.specs.declared.flow.Flow.{Flow}
use Rattle.host_net.specs.Host.{Host, host_named}
use Rattle.host_net.proofs.NamedLaws.{one_name}
use Rattle.host_net.specs.ServiceText.{service_of}
use Rattle.host_net.specs.declared.service.Service.{Service}
use Rattle.net_core.specs.Network.{Network}
use Rattle.table_core.specs.Listing.{each}
use Rattle.table_core.specs.Tables.{elements_of, has_key, integer_at, list_at, text_at}
use Rattle.text_core.specs.Steps.{◌>>=◌}

-- ---- the raw description of the table with other flows

written_again : (ms : Members) (ds : List Data) → written (with_list (codes "flow") ds ms) ≡ with_flows (written ms) (filter_map raw_flow ds)
unfolding written listed list_at has_key text_at integer_at
written_again ms ds =
    let here = get_with (codes "flow") (array (items_of ds)) ms in
    let other = λ (key : List ℕ) (differs : is_eq (slice_cmp nat_cmp key (codes "flow")) ≡ false). get_other (codes "flow") key (array (items_of ds)) ms differs in
    λ i. record {
      version = unwrap_or (option_and_then as_integer (other (codes "topos") refl i)) (pos 0);
      answers = not (bytes_eq (unwrap_or (option_and_then as_str (other (codes "answers") refl i)) []) (codes "none"));
      hosts = map raw_host (filter_map as_table (unwrap_or (option_and_then elements_of (other (codes "host") refl i)) []));
      invariants = map raw_invariant (filter_map as_table (unwrap_or (option_and_then elements_of (other (codes "invariant") refl i)) []));
      given = is_some (here i);
      flows = (ap (λ (o : Option Data). filter_map raw_flow (unwrap_or (option_and_then elements_of o) [])) here
          ∙ ap (λ (o : Option (List Data)). filter_map raw_flow (unwrap_or o [])) (listed_again ds)) i;
      templates = map raw_template (filter_map as_table (unwrap_or (option_and_then elements_of (other (codes "template") refl i)) []));
    }

listed_with : (ms : Members) (ds : List Data) → list_at (codes "flow") (with_list (codes "flow") ds ms) ≡ Some ds
unfolding list_at
listed_with ms ds = ap (option_and_then elements_of) (get_with (codes "flow") (array (items_of ds)) ms) ∙ listed_again ds

flows_listed : (ms : Members) (ds : List Data) → list_at (codes "flow") ms ≡ Some ds → (written ms).flows ≡ filter_map raw_flow ds
unfolding written listed
flows_listed ms ds is = ap (λ (o : Option (List Data)). filter_map raw_flow (unwrap_or o [])) is

-- ---- the last flow

last_of : (P : RawFlow → Type 0) (ws : List RawFlow) (w : RawFlow) → All P (ws ++ w ∷ []) → P w
last_of P ws w all = subst P (get_or_push ws w w (length ws) refl) (all (length ws) w (omega (arith, length_push ws w)))

last_zipped : (ds : List Data) (d : Data) (ws : List RawFlow) → AllZip IsFlow (ds ++ d ∷ []) ws → (w : RawFlow) × IsFlow d w
last_zipped [] d [] zipped = absurd zipped
last_zipped [] d (w ∷ ws) (is, zipped) = (w, is)
last_zipped (e ∷ ds) d [] zipped = absurd zipped
last_zipped (e ∷ ds) d (w ∷ ws) (is, zipped) = last_zipped ds d ws zipped

-- A list of strings that denotes a flow is its list of tokens.
words_are : (words : List (List ℕ)) (w : RawFlow) → raw_flow (text_list words) ≡ Some w → words ≡ w.from ∷ w.to ∷ w.services
unfolding raw_flow
words_are [] w is =
    let none : raw_flow (text_list []) ≡ None = ap (λ (o : Option (List Data)). o >>= flow_of_values) (listed_again []) in cc
words_are (a ∷ []) w is =
    let none : raw_flow (text_list (a ∷ [])) ≡ None = ap (λ (o : Option (List Data)). o >>= flow_of_values) (listed_again (string a ∷ [])) in cc
words_are (a ∷ b ∷ texts) w is =
    let said = flow_said a b texts in
    let v : RawFlow = record { from = a; to = b; services = texts } in
    let same : v ≡ w = cc in
    ap (λ (u : RawFlow). u.from ∷ u.to ∷ u.services) same

-- No flow before it has its names.
none_before : (w : RawFlow) (ws : List RawFlow) → AllPairs AreTwo (ws ++ w ∷ []) → list_any (is_named w.from w.to) ws ≡ true → ⊥
none_before w [] two any = cc
none_before w (v ∷ ws) two any =
    let others : All (AreTwo v) (ws ++ w ∷ []) = λ i e within. two zero (suc i) e (omega arith) (omega arith) in
    let behind : AllPairs AreTwo (ws ++ w ∷ []) = λ i j e before within. two (suc i) (suc j) e (omega arith) (omega arith) in
    elim (or_cases (is_named w.from w.to v) (list_any (is_named w.from w.to) ws) any) [
      | inl here ↦
          let (from, to) = and_parts (bytes_eq w.from v.from) (bytes_eq w.to v.to) here in
          last_of (AreTwo v) ws w others (sym ((bytes_eq-Decides w.from v.from).0 from)) (sym ((bytes_eq-Decides w.to v.to).0 to))
      | inr later ↦ none_before w ws behind later
    ]

some_of : {A : Type 0} (o : Option A) → is_some o ≡ true → (x : A) × (o ≡ Some x)
some_of None is = cc
some_of (Some x) is = (x, refl)

says_by : (o : Option ℤ) (n : ℤ) → o ≡ Some n → n ≡ pos 2 → IsTrue (says_second o)
says_by o n is two = ap says_second is ∙ (Decides-int_eq n (pos 2)).1 two

second_where : (table : Members) (w : RawDescription) → IsRawOf table w → w.version ≡ pos 2 → IsTrue (says_second (declared_version table))
unfolding integer_at
second_where table w is two = says_by (declared_version table) w.version (said_version (get_member (codes "topos") table) w.version is.version) two

version_by : (table : Members) (w : RawDescription) (texts : List (List ℕ)) → IsRawOf table w → (w.version ≢ pos 2 → texts ≡ [])
    → (texts ≡ []) ⊎ IsTrue (says_second (declared_version table))
version_by table w texts is whole = elim (cases_Bool (says_second (declared_version table))) [
  | inl second ↦ inr second
  | inr other ↦ inl (whole (λ two. both_ways _ other (second_where table w is two)))
]

-- The flow of the last names.
module _ (table : Members) (flows : List Data) (w : RawDescription) (v : RawFlow) (before : IsListing table flows w) (right : AreRightFlows w (w.flows ++ v ∷ [])) where
  ends_where : (a b : ℕ) → host_named (network_hosts w) v.from ≡ Some a → host_named (network_hosts w) v.to ≡ Some b → AreEnds (network_hosts w) v.from v.to (record { from = a; to = b })
  ends_where a b is_from is_to = record {
    is_from = is_from;
    is_to = is_to;
    apart = λ same. last_of (λ g. g.from ≢ g.to) w.flows v right.apart
        (one_name (network_hosts w) v.from v.to a is_from (is_to ∙ ap (λ (k : ℕ). Some k) (sym same)));
  }

  fresh_where : (f : Flow) → AreEnds (network_hosts w) v.from v.to f → IsFalse (has (network_of w).asked.flows f)
  fresh_where f ends = elim (cases_Bool (has (network_of w).asked.flows f)) [
    | inr fresh ↦ fresh
    | inl there ↦ absurd (none_before v w.flows right.different (named_where (network_hosts w) v.from v.to f w.flows ends (sym (has_asked w f before.given) ∙ there)))
  ]

  right_by : (words : List (List ℕ)) (a b : ℕ) (ss : List Service) → words ≡ v.from ∷ v.to ∷ v.services → host_named (network_hosts w) v.from ≡ Some a
      → host_named (network_hosts w) v.to ≡ Some b → each service_of v.services ≡ Some ss → IsRightFlow table (network_of w) words (record { from = a; to = b }) ss
  right_by words a b ss said is_from is_to read =
      let f : Flow = record { from = a; to = b } in
      let ends = ends_where a b is_from is_to in
      record {
        from = v.from;
        to = v.to;
        texts = v.services;
        said = said;
        is_from = ap (λ (hs : List Host). host_named hs v.from) (hosts_of w) ∙ is_from;
        is_to = ap (λ (hs : List Host). host_named hs v.to) (hosts_of w) ∙ is_to;
        apart = ends.apart;
        fresh = fresh_where f ends;
        services = read;
        valid = last_of (λ g. AreServiceTexts g.services) w.flows v right.services;
        version = version_by table w v.services before.is_written (λ other. last_of (λ g. g.services ≡ []) w.flows v (right.whole other));
      }

  right_from : (words : List (List ℕ)) → words ≡ v.from ∷ v.to ∷ v.services → (f : Flow) × (ss : List Service) × IsRightFlow table (network_of w) words f ss
  right_from words said =
      let (from, to) = last_of (λ g. IsTrue (is_declared w g.from) × IsTrue (is_declared w g.to)) w.flows v right.joined in
      let (a, is_from) = some_of (host_named (network_hosts w) v.from) (is_host w v.from ∙ from) in
      let (b, is_to) = some_of (host_named (network_hosts w) v.to) (is_host w v.to ∙ to) in
      let all = (last_of (λ g. AreServiceTexts g.services) w.flows v right.services).denoted in
      let (ss, read) = some_of (each service_of v.services) (each_is service_of v.services ∙ (all_tested (λ text. is_some (service_of text)) v.services).1 all) in
      (record { from = a; to = b }, ss, right_by words a b ss said is_from is_to read)

same_right : (w : RawDescription) (fs gs : List RawFlow) → fs ≡ gs → AreRightFlows (with_flows w fs) fs → AreRightFlows w gs
same_right w fs gs same right = subst (AreRightFlows w) same (record {
  whole = right.whole;
  named = right.named;
  joined = right.joined;
  apart = right.apart;
  different = right.different;
  services = right.services;
})

pub right_where : (table : Members) (flows : List Data) (d e : Network) (words : List (List ℕ))
    → list_at (codes "flow") table ≡ Some flows → described_by_table table ≡ Ok d
    → described_by_table (with_list (codes "flow") (flows ++ text_list words ∷ []) table) ≡ Ok e
    → (f : Flow) × (ss : List Service) × IsRightFlow table d words f ss
right_where table flows d e words there said now =
    let w = written table in
    let ds = flows ++ text_list words ∷ [] in
    let fs = filter_map raw_flow ds in
    let next : IsListing (with_list (codes "flow") ds table) ds (with_flows w fs) =
    subst (IsListing (with_list (codes "flow") ds table) ds) (written_again table ds) (listing (with_list (codes "flow") ds table) ds e (listed_with table ds) now) in
    let (v, is) = last_zipped flows (text_list words) fs next.zipped in
    let last : raw_flow (text_list words) ≡ Some v = flow_says (text_list words) v is in
    let same : fs ≡ w.flows ++ v ∷ [] =
    filter_map-append raw_flow flows (text_list words ∷ [])
    ∙ ap (λ (o : Option RawFlow). filter_map raw_flow flows ++ cons_option o []) last
    ∙ ap (λ (gs : List RawFlow). gs ++ v ∷ []) (sym (flows_listed table flows there)) in
    let right = same_right w fs (w.flows ++ v ∷ []) same (own_flows (with_list (codes "flow") ds table) ds (with_flows w fs) next) in
    subst (λ (n : Network). (f : Flow) × (ss : List Service) × IsRightFlow table n words f ss) (accepted table d said).network
    (right_from table flows w v (listing table flows d there said) right words (words_are words v last))
