-- What is put into lists and buffers.
use Rattle.std.specs.Prelude.{◌≡◌, ℕ, ◌+◌, ◌≤◌, List, ◌++◌, length, drop}

-- a list with bytes at its end, where they have room among so many
abbrev pub Adds : ℕ → List ℕ → List ℕ → List ℕ → Type 0
Adds most before bytes after = length before + length bytes ≤ most → after ≡ before ++ bytes

-- bytes written at a place of a buffer where they have room, all else as it was, and the place behind them
abbrev pub Lays : ℕ → List ℕ → List ℕ → List ℕ → ℕ → Type 0
Lays at bytes before after end =
    (front back : List ℕ) → before ≡ front ++ back → length front ≡ at → length bytes ≤ length back → (after ≡ (front ++ bytes) ++ drop (length bytes) back) × (end ≡ at + length bytes)
