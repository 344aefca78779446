-- What the parsed lines of a file say of the tables whose text the file may be.
use Rattle.std.proofs.Common.{◌≡◌, ◌∙◌, ◌+◌, ℕ, zero, suc, List, [], ◌∷◌, ◌++◌, Option, Some, None, take, drop, add-one, refl, sym, ap}
use Rattle.std.specs.Prelude.{IfNone}
use Rattle.std.specs.Option.{option_and_then}
use Rattle.std.proofs.lemmas.List.{take-append-drop}
use Rattle.std.proofs.lemmas.Option.{same_Some}
use Rattle.text_core.specs.Lines.{lines}
use Rattle.text_core.specs.declared.faults.TextFault.{TextFault}
use Rattle.text_core.specs.declared.faults.TextFault.TheVariants.{Refused, Memory}
use Rattle.nft_rules.specs.declared.table.Table.{Table}
use Rattle.nft_rules.specs.Loadable.{IsLoadable}
use Rattle.nft_text.specs.Text.{table_text}
use Rattle.nft_read.specs.declared.fault.NftWhy.{NftWhy}
use Rattle.nft_read.specs.declared.fault.NftWhy.TheVariants.{TooLong, BadLine, NoTable}
use Rattle.nft_read.specs.Reading.{HasCause, IsTable}
use Rattle.nft_read.specs.Shape.{TableShape, table_shape}
use Rattle.nft_read.specs.inner.Stops.{IsStopped}
use Rattle.nft_read.specs.inner.TableSteps.{State, done_state, run, start, step}
use Rattle.nft_read.proofs.ShapeLaws.{loadable_same, text_same}
use Rattle.nft_read.proofs.TableRound.{table_run}

-- ---- The parser stops at a bad line

stays_none : (s : State) (xs ys : List (List ℕ)) → run s xs ≡ None → run s (xs ++ ys) ≡ None
stays_none s [] ys none = cc
stays_none s (x ∷ xs) ys none = by_step (step s x) none (λ t. stays_none t xs ys)
  where
    by_step : (o : Option State) → option_and_then (λ t. run t xs) o ≡ None → ((t : State) → run t xs ≡ None → run t (xs ++ ys) ≡ None)
        → option_and_then (λ t. run t (xs ++ ys)) o ≡ None
    by_step None none later = refl
    by_step (Some t) none later = later t none

clash : (s : State) → Some s ≡ None → ⊥
clash s is = cc

not_stopped : (table : Table) (front rest : List (List ℕ)) → IsTable table → lines (table_text table) ≡ front ++ rest → run start front ≡ None → ⊥
not_stopped table front rest is parts none =
    clash (done_state (table_shape table)) (sym (table_run table is) ∙ ap (run start) parts ∙ stays_none start front rest none)

pub stopped_cause : (text : List ℕ) (fault : TextFault NftWhy) → IsStopped text fault → HasCause text fault
stopped_cause text (Refused line TooLong) stopped = cc
stopped_cause text (Refused line BadLine) stopped = λ begins. not_stopped begins.0 (take line (lines text)) begins.2 begins.1 begins.3 stopped.1
stopped_cause text (Refused line NoTable) stopped = cc
stopped_cause text Memory stopped = tt

pub stopped_memory : (text : List ℕ) (fault : TextFault NftWhy) (table : Table) → IsStopped text fault → IsTable table → text ≡ table_text table
    → fault ≡ Memory
stopped_memory text (Refused line why) table stopped is written =
    absurd (not_stopped table (take line (lines text)) (drop line (lines text)) is
    (ap lines (sym written) ∙ sym (take-append-drop line (lines text))) stopped.1)
stopped_memory text Memory table stopped is written = refl

-- ---- The table of the lines

pub same_shape : (a b : TableShape) → done_state a ≡ done_state b → a ≡ b
same_shape a b same = ap (λ (s : State). record { chains = s.chains; forward = s.rules }) same

pub read_done : (text : List ℕ) (reader : State) (table : Table) → run start (lines text) ≡ Some reader → IsTable table → text ≡ table_text table
    → done_state (table_shape table) ≡ reader
read_done text reader table read is written =
    same_Some (done_state (table_shape table)) reader (sym (table_run table is) ∙ ap (λ x. run start (lines x)) (sym written) ∙ read)

pub table_one : (a b : Table) → IsTable a → IsTable b → table_text a ≡ table_text b → table_shape a ≡ table_shape b
table_one a b is own same =
    same_shape (table_shape a) (table_shape b)
    (same_Some (done_state (table_shape a)) (done_state (table_shape b)) (sym (table_run a is) ∙ ap (λ x. run start (lines x)) same ∙ table_run b own))

pub not_loadable : (own table : Table) (reader : State) → done_state (table_shape own) ≡ reader → (IsLoadable own → ⊥) → IsTable table
    → done_state (table_shape table) ≡ reader → ⊥
not_loadable own table reader same bad is read =
    bad (loadable_same table own (same_shape (table_shape table) (table_shape own) (read ∙ sym same)) is.loadable)

pub other_text : (text : List ℕ) (own table : Table) (reader : State) → done_state (table_shape own) ≡ reader → (text ≡ table_text own → ⊥)
    → done_state (table_shape table) ≡ reader → text ≡ table_text table → ⊥
other_text text own table reader same other read written =
    other (written ∙ text_same table own (same_shape (table_shape table) (table_shape own) (read ∙ sym same)))

pub none_told : (told : Option Table) (text : List ℕ) (own : Table) (reader : State) → done_state (table_shape own) ≡ reader
    → IfNone told (text ≡ table_text own → ⊥)
    → IfNone told ((table : Table) → IsTable table → done_state (table_shape table) ≡ reader → text ≡ table_text table → ⊥)
none_told (Some t) text own reader same other = tt
none_told None text own reader same other = λ table is read written. other_text text own table reader same other read written

-- ---- One more line

run_last : (s t : State) (xs : List (List ℕ)) (x : List ℕ) → run s xs ≡ Some t → run s (xs ++ x ∷ []) ≡ step t x
run_last s t [] x is = by_step (step s x) ∙ ap (λ u. step u x) (same_Some s t is)
  where
    by_step : (o : Option State) → option_and_then (λ u. Some u) o ≡ o
    by_step None = refl
    by_step (Some u) = refl
run_last s t (y ∷ xs) x is = by_step (step s y) is (λ u. run_last u t xs x)
  where
    by_step : (o : Option State) → option_and_then (λ u. run u xs) o ≡ Some t → ((u : State) → run u xs ≡ Some t → run u (xs ++ x ∷ []) ≡ step t x)
        → option_and_then (λ u. run u (xs ++ x ∷ [])) o ≡ step t x
    by_step None is later = cc
    by_step (Some u) is later = later u is

take_more : (ls : List (List ℕ)) (n : ℕ) (line : List ℕ) (rest : List (List ℕ)) → drop n ls ≡ line ∷ rest → take (suc n) ls ≡ take n ls ++ line ∷ []
take_more [] zero line rest is = cc
take_more [] (suc n) line rest is = cc
take_more (x ∷ ls) zero line rest is = ap (λ (ys : List (List ℕ)). take 1 ys) is
take_more (x ∷ ls) (suc n) line rest is = ap (λ ys. x ∷ ys) (take_more ls n line rest is)

drop_next : (ls : List (List ℕ)) (n : ℕ) (line : List ℕ) (rest : List (List ℕ)) → drop n ls ≡ line ∷ rest → drop (suc n) ls ≡ rest
drop_next [] zero line rest is = cc
drop_next [] (suc n) line rest is = cc
drop_next (x ∷ ls) zero line rest is = ap (λ (ys : List (List ℕ)). drop 1 ys) is
drop_next (x ∷ ls) (suc n) line rest is = drop_next ls n line rest is

pub drop_more : (ls : List (List ℕ)) (n : ℕ) (line : List ℕ) (rest : List (List ℕ)) → drop n ls ≡ line ∷ rest → drop (n + 1) ls ≡ rest
drop_more ls n line rest is = rw (add-one n) (drop_next ls n line rest is)

-- After one more line, the parser is where this line leads.
pub run_more : (ls : List (List ℕ)) (n : ℕ) (line : List ℕ) (rest : List (List ℕ)) (s : State) (o : Option State) → drop n ls ≡ line ∷ rest
    → run start (take n ls) ≡ Some s → o ≡ step s line → run start (take (n + 1) ls) ≡ o
run_more ls n line rest s o is read stepped =
    ap (λ k. run start (take k ls)) (add-one n) ∙ ap (run start) (take_more ls n line rest is) ∙ run_last start s (take n ls) line read ∙ sym stepped
