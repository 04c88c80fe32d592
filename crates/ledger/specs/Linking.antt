-- Linking: each reference resolved to a unit and an entry, by the present imports of its unit.
use Rattle.std.specs.Prelude.{ℕ, zero, suc, ◌+◌, not, List, [], ◌∷◌, map, Some, None, Option, option_and_then, position}
use Rattle.std.specs.Option.{unwrap_or}
use Rattle.std.specs.List.{slice_get}
use Rattle.names.specs.declared.name.Name.{Name}
use Rattle.product.specs.declared.row.Reference.{Reference}
use Rattle.project.specs.Members.{Member, at}
use Rattle.project.specs.Checked.{Verdict, missing, circle, linked, nothing, checked}
use Rattle.image.specs.declared.target.Target.{Target}
use Rattle.image.specs.Picture.{Units, present}
use Rattle.ledger.specs.Meaning.{Meaning}
use Rattle.ledger.specs.Fresh.{Made, in_order, Fresh, unlinked, failed, translated, fresh}

-- what linking uses of a product
pub record Plain : Type 0 where
  pub code : List ℕ
  pub entries : List ℕ
  pub references : List Reference

abbrev pub plain : Made → Plain
plain d = record { code = d.parts.code; entries = d.parts.entries; references = d.parts.references }

-- the place of the unit of a name, if there is one
abbrev pub place_of : List Member → Option Name → Option ℕ
place_of us o = option_and_then (λ n. at n us) o

-- where a reference of the unit at place i goes: 0 is the unit itself, else the unit of the import at that position
abbrev pub target_place : List Member → ℕ → Member → ℕ → Option ℕ
target_place us i u zero = Some i
target_place us i u (suc k) = place_of us (slice_get u.imports k)

-- a reference resolved
abbrev pub resolved : List Member → ℕ → Member → Reference → Target
resolved us i u r = record { unit = unwrap_or (target_place us i u r.position) 0; entry = r.entry }

-- the references of some units, the first of which is at place i, resolved among all
abbrev pub targets : List Member → ℕ → List Member → List Plain → List (List Target)
targets us i [] ps = []
targets us i (v ∷ vs) [] = []
targets us i (v ∷ vs) (p ∷ ps) = map (resolved us i v) p.references ∷ targets us (i + 1) vs ps

-- names, code, entries and resolved references, in link order
abbrev pub units_of : List Member → List Plain → Units
units_of us ps =
    record {
      names = map (λ (u : Member). u.name) us;
      codes = map (λ (p : Plain). p.code) ps;
      entries = map (λ (p : Plain). p.entries) ps;
      references = targets us 0 us ps;
    }

-- what linking comes to: the first reference, of a unit by name, whose entry is missing in its target; or all parts
pub data Linking : Type 0 where
  broken : Name → ℕ → Linking
  whole : Units → Linking

-- the first reference whose entry is missing
abbrev pub lacking : List (List ℕ) → List Target → Option ℕ
lacking ess ts = position (λ t. not (present ess t)) ts

abbrev pub link_by : Name → Option ℕ → Linking → Linking
link_by n (Some k) rest = broken n k
link_by n None rest = rest

-- unit after unit
abbrev pub tested_from : Units → List Member → List (List Target) → Linking
tested_from all [] tss = whole all
tested_from all (u ∷ us) [] = whole all
tested_from all (u ∷ us) (ts ∷ tss) = link_by u.name (lacking all.entries ts) (tested_from all us tss)

-- linking units, in link order, with their products
abbrev pub linking : List Member → List Plain → Linking
linking us ps = tested_from (units_of us ps) us (units_of us ps).references

-- the units of a project in link order
abbrev pub ordered_by : List Member → Verdict → List Member
ordered_by vs (missing n k) = []
ordered_by vs (circle n) = []
ordered_by vs (linked places) = in_order vs places
ordered_by vs nothing = []

abbrev pub in_link_order : List Member → List Member
in_link_order vs = ordered_by vs (checked vs)

-- what fresh translation of a project links to
abbrev pub linked_by : List Member → Fresh → Option Linking
linked_by vs (unlinked v) = None
linked_by vs (failed n f) = None
linked_by vs (translated es) = Some (linking (in_link_order vs) (map plain es))

abbrev pub fresh_linking : Meaning → List Member → Option Linking
fresh_linking m vs = linked_by vs (fresh m vs)
