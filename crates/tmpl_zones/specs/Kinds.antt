-- Tables of kinds: whether a host of one kind may send to a host of another.
use Rattle.std.specs.Prelude.{Bool, IsTrue}

-- The table lets a flow pass.
abbrev pub TablePasses : {K : Type 0} → (K → K → Bool) → K → K → Type 0
TablePasses table sender receiver = IsTrue (table sender receiver)
