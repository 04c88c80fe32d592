-- Building over a shelf of artifacts: what is current is kept, all else is translated once and put.
use Rattle.std.specs.Prelude.{ℕ, zero, suc, ◌+◌, ◌-◌, ◌%◌, ◌^◌, Bool, true, false, cond, ◌&&◌, ◌||◌, List, [], ◌∷◌, ◌++◌, length, replicate, Some, None, Option, ◌==◌}
use Rattle.std.specs.Str.{bytes_eq}
use Rattle.names.specs.declared.name.Name.{Name}
use Rattle.names.specs.declared.refusal.Fault.{Fault}
use Rattle.product.specs.declared.row.Row.{Row}
use Rattle.product.specs.Parts.{Parts, made, faulted}
use Rattle.artifact.specs.Art.{Art}
use Rattle.project.specs.Members.{Member}
use Rattle.ledger.specs.Meaning.{Meaning}
use Rattle.ledger.specs.Fresh.{Made, interfaces, and_unit}

-- where artifacts are kept by name: the one kept, the number that a put answers, and what put and drop leave
pub record Shelf (S : Type 0) : Type 0 where
  pub seen : S → List ℕ → Option Art
  pub room : S → List ℕ → Art → ℕ
  pub kept : S → List ℕ → Art → S
  pub dropped : S → List ℕ → S

-- equally many interfaces, the same place by place
abbrev pub all_same : (List Row → List Row → Bool) → List (List Row) → List (List Row) → Bool
all_same same [] [] = true
all_same same [] (b ∷ bs) = false
all_same same (a ∷ more) [] = false
all_same same (a ∷ more) (b ∷ bs) = same a b && all_same same more bs

-- the artifact's source is the unit's, and its recorded interfaces are the same as the present ones
abbrev pub is_current : Meaning → Member → List (List Row) → Art → Bool
is_current m u present a = bytes_eq a.source u.source && all_same m.same a.imports present

-- the artifact kept for a unit, where it is current
abbrev pub current : Meaning → Member → List (List Row) → Option Art → Option Art
current m u present None = None
current m u present (Some a) = cond (is_current m u present a) (Some a) None

-- what a translation is stored as
abbrev pub art_of : Member → List (List Row) → Parts → Art
art_of u present p = record { source = u.source; imports = present; product = p }

-- how a build ended: every unit has its product; a fault of a unit; or the number that the store refused a unit's artifact with
pub data Ended : Type 0 where
  accepted : Ended
  faulty : Name → Fault → Ended
  unstored : Name → ℕ → Ended

-- a build: how it ended, a mark for each unit reached (0 kept, 1 translated and stored, 2 translated and ended the build), the products, and the shelf
pub record Built (S : Type 0) : Type 0 where
  pub ended : Ended
  pub marks : List ℕ
  pub done : List Made
  pub state : S

-- how many of these units were translated
abbrev pub translations : List ℕ → ℕ
translations [] = 0
translations (k ∷ ks) = cond (k == 1 || k == 2) 1 0 + translations ks

-- a translator's count after so many translations: one more for each, modulo 2^64
abbrev pub raised : ℕ → ℕ → ℕ
raised count zero = count
raised count (suc n) = (raised count n + 1) % 2 ^ 64

-- the report of a build: 24 marks, 3 for units that it did not reach and where there is no unit
abbrev pub report : List ℕ → List ℕ
report marks = marks ++ replicate (24 - length marks) 3

-- one mark before the others
abbrev pub marked : {S : Type 0} → ℕ → Built S → Built S
marked k b = record { ended = b.ended; marks = k ∷ b.marks; done = b.done; state = b.state }

-- a build that ends at this unit
abbrev pub stopped : {S : Type 0} → Ended → List Made → S → Built S
stopped e done s = record { ended = e; marks = 2 ∷ []; done = done; state = s }

module _ {S : Type 0} (m : Meaning) (sh : Shelf S) where
  -- these units in order, behind those that have their product
  abbrev pub build_units : List Member → List Made → S → Built S
  build_units [] done s = record { ended = accepted; marks = []; done = done; state = s }
  build_units (u ∷ us) done s =
      elim (current m u (interfaces done u) (sh.seen s u.name.bytes)) [
        | Some a ↦ marked 0 (build_units us (and_unit done u a.product) s)
        | None ↦
            elim (m.means u.source (interfaces done u)) [
              | faulted f ↦ stopped (faulty u.name f) done s
              | made p ↦
                  elim (sh.room s u.name.bytes (art_of u (interfaces done u) p)) [
                    | zero ↦ marked 1 (build_units us (and_unit done u p) (sh.kept s u.name.bytes (art_of u (interfaces done u) p)))
                    | suc n ↦ stopped (unstored u.name (suc n)) done s
                  ]
            ]
      ]
