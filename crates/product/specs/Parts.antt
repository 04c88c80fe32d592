-- Interfaces and products as lists.
use Rattle.std.specs.Prelude.{ℕ, ◌<◌, ◌≤◌, List, [], length, Option, FitsSigned}
use Rattle.std.specs.Int.{w32}
use Rattle.std.specs.List.{AllByRecursion, find}
use Rattle.std.specs.Str.{bytes_eq}
use Rattle.bounded.specs.Held.{held}
use Rattle.names.specs.declared.refusal.Fault.{Fault}
use Rattle.product.specs.declared.row.Row.{Row}
use Rattle.product.specs.declared.row.Reference.{Reference}
use Rattle.product.specs.declared.interface.Interface.{Interface}
use Rattle.product.specs.declared.parts.Product.{Product}

-- the rows of an interface, first to last
abbrev pub rows : Interface → List Row
rows i = held i.list

-- the first row of a name, given by its bytes
abbrev pub first_row : List ℕ → List Row → Option Row
first_row name = find (λ r. bytes_eq r.name.bytes name)

-- the parts of a product
pub record Parts : Type 0 where
  pub interface : List Row
  pub code : List ℕ
  pub entries : List ℕ
  pub references : List Reference

-- what a product holds
abbrev pub parts : Product → Parts
parts p = record { interface = rows p.interface; code = held p.code; entries = held p.entries; references = held p.references }

-- a product with nothing in it
abbrev pub no_parts : Parts
no_parts = record { interface = []; code = []; entries = []; references = [] }

-- what a translation gives
pub data Outcome : Type 0 where
  made : Parts → Outcome
  faulted : Fault → Outcome

-- a row's kind is one byte, its value has 32 bits with a sign, its line 16 bits
abbrev pub SoundRow : Row → Type 0
SoundRow r = (r.kind < 256) × (FitsSigned w32 r.value × (r.line < 65536))

-- an interface has at most twelve rows
abbrev pub WithinRows : List Row → Type 0
WithinRows rs = (length rs ≤ 12) × AllByRecursion SoundRow rs

-- a reference of a unit with so many imports
abbrev pub SoundReference : ℕ → Reference → Type 0
SoundReference imports r = (r.position ≤ imports) × (r.entry < 256)

-- a product within its limits, of a unit with so many imports: the entries stand in the code
pub record Within (imports : ℕ) (p : Parts) : Type 0 where
  pub interface : WithinRows p.interface
  pub few_code : length p.code ≤ 384
  pub code : AllByRecursion (λ b. b < 256) p.code
  pub few_entries : length p.entries ≤ 12
  pub entries : AllByRecursion (λ e. e < length p.code) p.entries
  pub few_references : length p.references ≤ 32
  pub references : AllByRecursion (SoundReference imports) p.references
