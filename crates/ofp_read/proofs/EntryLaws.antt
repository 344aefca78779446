-- Fields are those of at most one entry, its action aside.
use Rattle.std.proofs.Common.{◌≡◌, ◌⊎◌, inl, inr, ℕ, List, [], ◌∷◌, ◌++◌, Some, refl, sym, ap, subst, ◌∙◌, IsTrue}
use Rattle.std.specs.Prelude.{Result, Ok, unwrap_or}
use Rattle.host_net.specs.Service.{has_name}
use Rattle.host_net.specs.ServiceText.{protocol_text}
use Rattle.ofp_rules.specs.declared.entry.FrameKind.{FrameKind}
use Rattle.ofp_rules.specs.declared.entry.FrameKind.TheVariants as frames
use Rattle.ofp_rules.specs.declared.entry.Entry.{Entry}
use Rattle.ofp_read.specs.declared.fault.OfpWhy.{OfpWhy}
use Rattle.ofp_read.specs.declared.given.Given.{Given}
use Rattle.ofp_read.specs.inner.FlowLine.{nothing_given}
use Rattle.ofp_read.specs.Unwritten.{protocol_alone}
use Rattle.ofp_read.specs.Grammar.{Part, priority, table, kind, source, destination, protocol, source_port, destination_port, EachSays, no_field, one_part, two_parts, IsNoneOf, AreFieldsOf}
use Rattle.ofp_read.proofs.PartWords.{Says, IsUnsaid}
use Rattle.ofp_read.proofs.NamedLaws.{some_same}
use Rattle.ofp_read.proofs.KeyLaws.{parts_in, parts_about, one_about, says_about}
use Rattle.ofp_read.proofs.PartLaws.{value_of, own_value, nothing_lacks, with_part, has_with, one_more}
use Rattle.ofp_read.proofs.FieldLaws.{read_of_says, read_protocol}

-- 1. The parts that some texts specify.

abbrev parts_read : List (List ℕ) → List Part
parts_read [] = []
parts_read (text ∷ texts) = unwrap_or (parts_in text) [] ++ parts_read texts

parts_said : (e : Entry) (ps : List Part) (texts : List (List ℕ)) → EachSays e ps texts → parts_read texts ≡ ps
parts_said e [] [] no_field = refl
parts_said e [] (text ∷ texts) says = elim says [ ]
parts_said e (p ∷ ps) [] says = elim says [ ]
parts_said e (p ∷ ps) (text ∷ texts) (one_part says rest) =
    λ i. unwrap_or (parts_about (p ∷ []) text (says_about p e text says) i) [] ++ parts_said e ps texts rest i
parts_said e (kind ∷ protocol ∷ ps) (text ∷ texts) (two_parts n ip its says rest) =
    λ i. unwrap_or (parts_about (kind ∷ protocol ∷ []) text (protocol_alone n says) i) [] ++ parts_said e ps texts rest i

pub one_parts : (e f : Entry) (ps qs : List Part) (texts : List (List ℕ)) → EachSays e ps texts → EachSays f qs texts → ps ≡ qs
one_parts e f ps qs texts a b = sym (parts_said e ps texts a) ∙ parts_said f qs texts b

-- 2. What holds of each part of two entries with these fields.

-- The text names the protocol of the entry.
abbrev pub IsProtocolOf : Entry → ℕ → List ℕ → Type 0
IsProtocolOf e n text = (e.kind ≡ frames.Ip) × (e.proto ≡ Some n) × (IsTrue (has_name n) × (text ≡ protocol_text n))

one_or_two : {P : Type 0} (p : Part) (text : List ℕ) (e : Entry) (n : ℕ) → Says p e text → IsTrue (has_name n) × (text ≡ protocol_text n) → P
one_or_two p text e n says is =
    let clash = one_about (p ∷ []) (kind ∷ protocol ∷ []) text (says_about p e text says) (protocol_alone n is) in cc

module _ (e f : Entry) (Is : Part → Type 0) (one : (p : Part) (text : List ℕ) → Says p e text → Says p f text → Is p)
    (two : (n m : ℕ) (text : List ℕ) → IsProtocolOf e n text → IsProtocolOf f m text → Is kind × Is protocol) where
  each_is : (p : Part) (ps : List Part) (texts : List (List ℕ)) → EachSays e ps texts → EachSays f ps texts → Is p ⊎ IsNoneOf p ps
  each_is p [] [] a b = inr tt
  each_is p [] (text ∷ texts) a b = elim a [ ]
  each_is p (q ∷ ps) [] a b = elim a [ ]
  each_is p (q ∷ ps) (text ∷ texts) (one_part says rest) (one_part also more) =
      one_more Is p q ps (one q text says also) (each_is p ps texts rest more)
  each_is p (kind ∷ protocol ∷ ps) (text ∷ texts) (one_part says rest) (two_parts m ip its also more) = one_or_two kind text e m says also
  each_is p (kind ∷ protocol ∷ ps) (text ∷ texts) (two_parts n ip its says rest) (one_part also more) = one_or_two kind text f n also says
  each_is p (kind ∷ protocol ∷ ps) (text ∷ texts) (two_parts n ip its says rest) (two_parts m ip' its' also more) =
      let both = two n m text (ip, its, says) (ip', its', also) in
      one_more Is p kind (protocol ∷ ps) both.0 (one_more Is p protocol ps both.1 (each_is p ps texts rest more))

  pub fields_are : ((p : Part) → IsUnsaid p e → IsUnsaid p f → Is p) → (texts : List (List ℕ)) → AreFieldsOf e texts → AreFieldsOf f texts
      → (p : Part) → Is p
  fields_are unsaid texts a b p =
      let same = one_parts e f a.parts b.parts texts a.each b.each in
      elim (each_is p a.parts texts a.each (subst (λ (ps : List Part). EachSays f ps texts) (sym same) b.each)) [
        | inl is ↦ is
        | inr none ↦ unsaid p (a.others p none) (b.others p (subst (IsNoneOf p) same none))
      ]

-- 3. Two entries with the same fields have the same values.

abbrev Agree : Entry → Entry → Part → Type 0
Agree e f p = own_value p e ≡ own_value p f

ok_same : (g h : Given) → ◌≡◌ {A = Result Given OfpWhy} (Ok g) (Ok h) → g ≡ h
ok_same g h same = cc

says_same : (e f : Entry) (p : Part) (text : List ℕ) → Says p e text → Says p f text → Agree e f p
says_same e f p text a b =
    let same = ok_same (with_part p e nothing_given) (with_part p f nothing_given)
    (sym (read_of_says p e nothing_given text a (nothing_lacks p)) ∙ read_of_says p f nothing_given text b (nothing_lacks p)) in
    sym (has_with p e nothing_given) ∙ ap (value_of p) same ∙ has_with p f nothing_given

named_same : (e f : Entry) (n m : ℕ) (text : List ℕ) → IsProtocolOf e n text → IsProtocolOf f m text → Agree e f kind × Agree e f protocol
named_same e f n m text a b =
    let same = ok_same (record nothing_given { kind = Some e.kind; proto = e.proto }) (record nothing_given { kind = Some f.kind; proto = f.proto })
    (sym (read_protocol n e.kind e.proto nothing_given text a.0 a.1 a.2 refl refl) ∙ read_protocol m f.kind f.proto nothing_given text b.0 b.1 b.2 refl refl) in
    (ap (λ (g : Given). g.kind) same, ap (λ (g : Given). g.proto) same)

unsaid_same : (e f : Entry) (p : Part) → IsUnsaid p e → IsUnsaid p f → Agree e f p
unsaid_same e f priority a b = ap (λ (n : ℕ). Some n) (a ∙ sym b)
unsaid_same e f table a b = refl
unsaid_same e f kind a b = ap (λ (k : FrameKind). Some k) (a ∙ sym b)
unsaid_same e f source a b = a ∙ sym b
unsaid_same e f destination a b = a ∙ sym b
unsaid_same e f protocol a b = a ∙ sym b
unsaid_same e f source_port a b = a ∙ sym b
unsaid_same e f destination_port a b = a ∙ sym b

pub one_entry : (e f : Entry) (texts : List (List ℕ)) → AreFieldsOf e texts → AreFieldsOf f texts → e.action ≡ f.action → e ≡ f
one_entry e f texts a b action =
    let agree : (p : Part) → Agree e f p = fields_are e f (Agree e f) (says_same e f) (named_same e f) (unsaid_same e f) texts a b in
    λ i. record {
      priority = some_same e.priority f.priority (agree priority) i;
      kind = some_same e.kind f.kind (agree kind) i;
      src = agree source i;
      dst = agree destination i;
      proto = agree protocol i;
      tp_src = agree source_port i;
      tp_dst = agree destination_port i;
      action = action i;
    }
