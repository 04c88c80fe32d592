-- The numbers of the refusals.
use Rattle.std.specs.Prelude.{ℕ, Ok, Err, Result}
use Rattle.names.specs.declared.refusal.Refusal.{Refusal}
use Rattle.names.specs.declared.refusal.Refusal.TheVariants.{NotAName, SourceTooLong, TooManyImports, TooManyUnits, NoSuchUnit, TooManyRows, ImportMissing, ImportCircle, Faulty, StoreFull, RecordTooLong, BufferTooShort, NotBuilt, ImageTooLong, EntryMissing, NotAnImage, NotAnArtifact}

-- 11 to 16 are for who edits, 21 and 22 for who lists imports, 31 for who writes sources, 41 to 43 for who chose the store, 51 to 53 for who links, 54 and 55 for who reads files
abbrev pub number : Refusal → ℕ
number NotAName = 11
number SourceTooLong = 12
number TooManyImports = 13
number TooManyUnits = 14
number NoSuchUnit = 15
number TooManyRows = 16
number (ImportMissing unit position) = 21
number (ImportCircle unit) = 22
number (Faulty unit fault) = 31
number (StoreFull unit) = 41
number (RecordTooLong unit) = 42
number BufferTooShort = 43
number NotBuilt = 51
number ImageTooLong = 52
number (EntryMissing unit reference) = 53
number NotAnImage = 54
number NotAnArtifact = 55

-- what a call answered: 0 where it was carried out, else the refusal's number
abbrev pub answer : {T : Type 0} → Result T Refusal → ℕ
answer (Ok x) = 0
answer (Err e) = number e
