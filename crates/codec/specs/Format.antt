-- How values are written as bytes, and read back.
use Rattle.std.specs.Prelude.{◌≡◌, ℕ, zero, suc, ◌+◌, ◌*◌, ◌/◌, ◌%◌, Bool, true, false, cond, List, [], ◌∷◌, ◌++◌, length, take, drop, ℤ, Some, None, Ok, Err, Option, Result, ◌==◌, nat_le, nat_lt, refl}
use Rattle.std.specs.Int.{w32}
use Rattle.std.specs.List.{flat_map}
use Rattle.std.proofs.Common.{of_z, to_z}
use Rattle.names.specs.Spelling.{padded_name}
use Rattle.names.specs.declared.name.Name.{Name}
use Rattle.product.specs.declared.row.Row.{Row}
use Rattle.product.specs.declared.row.Reference.{Reference}
use Rattle.codec.specs.declared.input.Input.{Input}

-- a writing of values: the bytes of each, and what a list of bytes begins with, beside the bytes behind it
pub record Format (X : Type 0) : Type 0 where
  pub put : X → List ℕ
  pub get : List ℕ → Option (X × List ℕ)

-- what is left to read
abbrev pub left : Input → List ℕ
left i = i.rest.now

-- what a reader answered, beside what it left
abbrev pub read_as : {X Y : Type 0} → Result X Y → List ℕ → Option (X × List ℕ)
read_as (Ok x) bs = Some (x, bs)
read_as (Err e) bs = None

-- the first so many bytes, and those behind them
abbrev pub first : ℕ → List ℕ → Option (List ℕ × List ℕ)
first n bs = cond (nat_le n (length bs)) (Some (take n bs, drop n bs)) None

-- first one thing, then another with what is left
abbrev pub next : {X Y : Type 0} → Option (X × List ℕ) → (X → List ℕ → Option (Y × List ℕ)) → Option (Y × List ℕ)
next None k = None
next (Some p) k = k p.0 p.1

-- a value that passes a test
abbrev pub passing : {X : Type 0} → Bool → X → List ℕ → Option (X × List ℕ)
passing t x bs = cond t (Some (x, bs)) None

abbrev pub get_byte : List ℕ → Option (ℕ × List ℕ)
get_byte [] = None
get_byte (b ∷ bs) = passing (nat_lt b 256) b bs

-- one byte
abbrev pub byte : Format ℕ
byte = record { put = λ b. b ∷ []; get = get_byte }

-- two bytes, the higher first
abbrev pub pair : Format ℕ
pair = record { put = λ n. n / 256 ∷ n % 256 ∷ []; get = λ bs. next (get_byte bs) (λ h cs. next (get_byte cs) (λ l ds. Some (h * 256 + l, ds))) }

-- a number with a sign in four bytes, the highest first
abbrev pub value : Format ℤ
value = record { put = λ z. pair.put (of_z w32 z / 65536) ++ pair.put (of_z w32 z % 65536); get = λ bs. next (pair.get bs) (λ h cs. next (pair.get cs) (λ l ds. Some (to_z w32 (h * 65536 + l), ds))) }

-- the name of eight bytes, where the test says that they are one
abbrev pub name_of : (bs : List ℕ) (t : Bool) → padded_name bs ≡ t → List ℕ → Option (Name × List ℕ)
name_of bs true e rest = Some (record { bytes = bs; valid = e }, rest)
name_of bs false e rest = None

-- a name in the padded form
abbrev pub name : Format Name
name = record { put = λ n. n.bytes; get = λ bs. name_of (take 8 bs) (padded_name (take 8 bs)) refl (drop 8 bs) }

-- a row: name, kind, value, line
abbrev pub row : Format Row
row = record { put = λ r. name.put r.name ++ (byte.put r.kind ++ (value.put r.value ++ pair.put r.line)); get = λ bs. next (name.get bs) (λ n cs. next (byte.get cs) (λ k ds. next (value.get ds) (λ v es. next (pair.get es) (λ l fs. Some (record { name = n; kind = k; value = v; line = l }, fs))))) }

-- a reference: position, entry
abbrev pub reference : Format Reference
reference = record { put = λ r. byte.put r.position ++ byte.put r.entry; get = λ bs. next (byte.get bs) (λ p cs. next (byte.get cs) (λ e ds. Some (record { position = p; entry = e }, ds))) }

-- so many elements, one behind the other
abbrev pub many : {X : Type 0} → ℕ → (List ℕ → Option (X × List ℕ)) → List ℕ → Option (List X × List ℕ)
many zero get bs = Some ([], bs)
many (suc n) get bs = next (get bs) (λ x cs. next (many n get cs) (λ xs ds. Some (x ∷ xs, ds)))

-- so many elements, if they are within a limit
abbrev pub many_within : {X : Type 0} → ℕ → ℕ → (List ℕ → Option (X × List ℕ)) → List ℕ → Option (List X × List ℕ)
many_within limit n get bs = cond (nat_le n limit) (many n get bs) None

-- what a reader filled, beside what it left
abbrev pub filled : {X Y : Type 0} → Result (Unit {0}) Y → X → List ℕ → Option (X × List ℕ)
filled (Ok u) x bs = Some (x, bs)
filled (Err e) x bs = None

-- the bytes of each element, one behind the other
abbrev pub each : {X : Type 0} → (X → List ℕ) → List X → List ℕ
each = flat_map

-- a section: a count, then so many elements, within a limit
abbrev pub listed : {X : Type 0} → Format ℕ → ℕ → Format X → Format (List X)
listed count limit f = record { put = λ xs. count.put (length xs) ++ each f.put xs; get = λ bs. next (count.get bs) (λ n cs. many_within limit n f.get cs) }

-- only what passes a test is read
abbrev pub tested : {X : Type 0} → (X → Bool) → Format X → Format X
tested t f = record { put = f.put; get = λ bs. next (f.get bs) (λ x cs. passing (t x) x cs) }

-- an interface: at most twelve rows behind a count of one byte
abbrev pub interface : Format (List Row)
interface = listed byte 12 row

-- code: at most 384 bytes behind a count of two bytes
abbrev pub code : Format (List ℕ)
code = listed pair 384 byte

-- what was read, where nothing stands behind it
abbrev pub whole : {X : Type 0} → Option (X × List ℕ) → Option X
whole None = None
whole (Some p) = cond (length p.1 == 0) (Some p.0) None

-- what a reader of whole files holds, where it did not refuse
abbrev pub got : {X Y : Type 0} → Result (Unit {0}) Y → X → Option X
got (Ok u) x = Some x
got (Err e) x = None

-- 0 where there is something, else the number of the refusal
abbrev pub refusing : {X : Type 0} → ℕ → Option X → ℕ
refusing n None = n
refusing n (Some x) = 0

-- whether a byte stands first
abbrev pub begins : ℕ → List ℕ → Bool
begins x [] = false
begins x (b ∷ bs) = b == x
