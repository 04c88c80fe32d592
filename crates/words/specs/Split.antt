-- The words of a line.
use Rattle.std.specs.Prelude.{ℕ, not, List, length, take, ◌==◌}
use Rattle.std.specs.List.{filter, position_or_len, slice_split}

-- the line up to a `#` (35)
abbrev pub code : List ℕ → List ℕ
code line = take (position_or_len (λ b. b == 35) line) line

-- the words of a line: what spaces (32) part, where it has a byte
abbrev pub words : List ℕ → List (List ℕ)
words line = filter (λ w. not (length w == 0)) (slice_split (λ b. b == 32) (code line))
