-- The results of a parser for a line-oriented format.
use Rattle.std.specs.Prelude.{◌≡◌, ℕ, ◌⊎◌, IsTrue, IsFalse, List}
use Rattle.text_core.specs.Lines.{is_comment}
use Rattle.text_core.specs.LineFormat.{LineFormat, HasFault}
use Rattle.text_core.specs.declared.faults.LineFault.{LineFault}
use Rattle.text_core.specs.declared.faults.LineFault.TheVariants.{Bad, Memory as NoMemory}
use Rattle.text_core.specs.declared.faults.TextFault.{TextFault}
use Rattle.text_core.specs.declared.faults.TextFault.TheVariants.{Refused, Memory}

-- A rejected file has this error. An allocation failure needs no cause.
abbrev pub HasCause : {S W : Type 0} → LineFormat S W → List ℕ → TextFault W → Type 0
HasCause text bytes (Refused line why) = HasFault text bytes line why
HasCause text bytes Memory = Unit {0}

-- The reported error is this one, unless memory runs out.
abbrev pub IsFault : {W : Type 0} → ℕ → W → TextFault W → Type 0
IsFault line why (Refused told cause) = (told ≡ line) × (cause ≡ why)
IsFault line why Memory = Unit {0}

-- A rejected line is bad for this reason. An allocation failure needs no reason.
abbrev pub HasReason : {W : Type 0} → (W → Type 0) → LineFault W → Type 0
HasReason Bars (Bad why) = Bars why
HasReason Bars NoMemory = Unit {0}

-- Line n, which may be a comment, is a transition from s to t.
abbrev pub Passes : {S W : Type 0} → LineFormat S W → ℕ → S → List ℕ → S → Type 0
Passes text n s line t = (IsTrue (is_comment line) × (s ≡ t)) ⊎ (IsFalse (is_comment line) × text.IsLine n s line t)

-- Line n is rejected, for this reason.
abbrev pub Stops : {S W : Type 0} → LineFormat S W → ℕ → S → List ℕ → TextFault W → Type 0
Stops text n s line (Refused told why) = (told ≡ n) × IsFalse (is_comment line) × text.IsBadLine n s line why
Stops text n s line Memory = Unit {0}
