-- Images as parts, and their one writing.
use Rattle.std.specs.Prelude.{◌≡◌, ℕ, ◌<◌, ◌≤◌, Bool, true, cond, not, ◌&&◌, List, [], ◌∷◌, ◌++◌, length, take, Some, None, Option, ◌==◌, nat_lt, slice_index_or}
use Rattle.std.specs.List.{AllByRecursion, enumerate_from, list_all, list_any, zip}
use Rattle.std.specs.Str.{bytes_eq}
use Rattle.bounded.specs.Held.{held}
use Rattle.names.specs.declared.name.Name.{Name}
use Rattle.codec.specs.Format.{Format, next, many, each, listed, tested, byte, pair, name, code, whole}
use Rattle.image.specs.Dealt.{lists, dealt}
use Rattle.image.specs.declared.target.Target.{Target}
use Rattle.image.specs.declared.image.Image.{Image}
use Rattle.image.specs.declared.sections.Sections.{Sections}

-- the parts of all units, in link order
pub record Units : Type 0 where
  pub names : List Name
  pub codes : List (List ℕ)
  pub entries : List (List ℕ)
  pub references : List (List Target)

-- what sections hold
abbrev pub parts : Sections → Units
parts s = record { names = held s.names; codes = lists s.codes; entries = lists s.entries; references = lists s.references }

-- what an image holds
abbrev pub units : Image → Units
units i = parts i.sections

-- no units
abbrev pub no_units : Units
no_units = record { names = []; codes = []; entries = []; references = [] }

-- one unit more, last in link order
abbrev pub with_unit : Units → Name → List ℕ → List ℕ → List Target → Units
with_unit u n c es ts = record { names = u.names ++ n ∷ []; codes = u.codes ++ c ∷ []; entries = u.entries ++ es ∷ []; references = u.references ++ ts ∷ [] }

-- a target: the position of a unit and the number of an entry there
abbrev pub target : Format Target
target = record { put = λ t. byte.put t.unit ++ byte.put t.entry; get = λ bs. next (byte.get bs) (λ u cs. next (byte.get cs) (λ e ds. Some (record { unit = u; entry = e }, ds))) }

-- exactly so many elements behind a count of one byte
abbrev pub exactly : {X : Type 0} → ℕ → Format X → Format (List X)
exactly n f = record { put = λ xs. byte.put (length xs) ++ each f.put xs; get = λ bs. next (byte.get bs) (λ m cs. cond (m == n) (many n f.get cs) None) }

-- the names: at most 24 behind a count of one byte
abbrev pub names : Format (List Name)
names = listed byte 24 name

-- the sections: names, code of each unit, entries of all units, references of all units
abbrev pub sections : Format Units
sections =
    record {
      put = λ u. names.put u.names ++ ((exactly (length u.names) code).put u.codes ++ ((dealt 12 (length u.names) pair).put u.entries ++ (dealt 32 (length u.names) target).put u.references));
      get = λ bs. next (names.get bs) (λ n cs. next ((exactly (length n) code).get cs) (λ c ds. next ((dealt 12 (length n) pair).get ds) (λ e es. next ((dealt 32 (length n) target).get es) (λ r fs. Some (record { names = n; codes = c; entries = e; references = r }, fs)))));
    }

-- whether a name stands among others
abbrev pub among : Name → List Name → Bool
among n = list_any (λ m. bytes_eq m.bytes n.bytes)

-- whether no name stands twice
abbrev pub different : List Name → Bool
different ns = list_all (λ p. not (among p.1 (take p.0 ns))) (enumerate_from 0 ns)

-- whether the entries of each unit stand in its code
abbrev pub placed : List (List ℕ) → List (List ℕ) → Bool
placed cs ess = list_all (λ p. list_all (λ e. nat_lt e (length p.0)) p.1) (zip cs ess)

-- whether a target is there, among the entries of all units
abbrev pub present : List (List ℕ) → Target → Bool
present ess t = nat_lt t.entry (length (slice_index_or ess t.unit []))

-- whether names differ, entries stand in their unit's code, and references go to entries that are there
abbrev pub valid : Units → Bool
valid u = different u.names && (placed u.codes u.entries && list_all (list_all (present u.entries)) u.references)

-- an image: valid sections
abbrev pub image : Format Units
image = tested valid sections

-- the bytes of an image
abbrev pub image_bytes : Units → List ℕ
image_bytes u = image.put u

-- the image that bytes are, where they are one
abbrev pub read : List ℕ → Option Units
read bs = whole (image.get bs)

-- a target whose numbers are bytes
abbrev pub SmallTarget : Target → Type 0
SmallTarget t = (t.unit < 256) × (t.entry < 256)

-- an image within its limits
pub record WithinUnits (u : Units) : Type 0 where
  pub few : length u.names ≤ 24
  pub coded : length u.codes ≡ length u.names
  pub codes : AllByRecursion (λ c. (length c ≤ 384) × AllByRecursion (λ b. b < 256) c) u.codes
  pub entered : length u.entries ≡ length u.names
  pub entries : AllByRecursion (λ es. (length es ≤ 12) × AllByRecursion (λ e. e < 65536) es) u.entries
  pub referred : length u.references ≡ length u.names
  pub references : AllByRecursion (λ ts. (length ts ≤ 32) × AllByRecursion SmallTarget ts) u.references
  pub sound : valid u ≡ true
