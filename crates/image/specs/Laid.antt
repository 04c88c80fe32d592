-- What is written to the start of a buffer.
use Rattle.std.specs.Prelude.{◌≡◌, ℕ, List, ◌++◌, length, drop, Ok, Err, Result}

-- what a writer into a buffer answered: bytes at its start, those behind as they were, and their number; or nothing changed
abbrev pub Wrote : {Y : Type 0} → Result ℕ Y → List ℕ → List ℕ → List ℕ → Type 0
Wrote (Ok n) bytes before after = (n ≡ length bytes) × (after ≡ bytes ++ drop (length bytes) before)
Wrote (Err e) bytes before after = after ≡ before
