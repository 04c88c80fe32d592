-- Whether a project can be linked: every import a unit, and no circle.
use Rattle.std.specs.Prelude.{ℕ, suc, ◌+◌, Bool, false, not, List, [], ◌∷◌, ◌++◌, map, is_some, Some, None, Ok, Err, Option, Result, position}
use Rattle.std.specs.Option.{unwrap_or, option_map, option_map_or}
use Rattle.std.specs.List.{slice_get}
use Rattle.names.specs.declared.name.Name.{Name}
use Rattle.names.specs.declared.refusal.Refusal.{Refusal}
use Rattle.names.specs.declared.refusal.Refusal.TheVariants.{NotAName, SourceTooLong, TooManyImports, TooManyUnits, NoSuchUnit, TooManyRows, ImportMissing, ImportCircle, Faulty, StoreFull, RecordTooLong, BufferTooShort, NotBuilt, ImageTooLong, EntryMissing, NotAnImage, NotAnArtifact}
use Rattle.names.specs.Ordered.{name_cmp}
use Rattle.bounded.specs.Held.{held}
use Rattle.order.specs.declared.Need.{Need}
use Rattle.order.specs.Dependency.{Outcome, all, stuck, smallest, ordered}
use Rattle.project.specs.declared.links.Links.{Links}
use Rattle.project.specs.Members.{Member, at}

-- the places that a check left
abbrev pub order_of : Links → List ℕ
order_of l = held l.places

-- the first import that is no unit, counted from 0
abbrev pub lack : List Member → List Name → Option ℕ
lack vs imports = position (λ n. not (is_some (at n vs))) imports

-- the unit at a place has an import that is no unit
abbrev pub lacks : List Member → List Member → ℕ → Bool
lacks vs us i = option_map_or (λ (u : Member). is_some (lack vs u.imports)) (slice_get us i) false

-- the names of the units
abbrev pub names : List Member → List Name
names = map (λ (v : Member). v.name)

-- the unit at place i needs the units of these names
abbrev pub needs_for : ℕ → List Name → List (Need Name)
needs_for i imports = map (λ n. record { item = i; key = n }) imports

-- each unit needs the units of the names that it imports; the first of these units is the one at place i
abbrev pub needs : ℕ → List Member → List (Need Name)
needs i [] = []
needs i (v ∷ vs) = needs_for i v.imports ++ needs (i + 1) vs

-- what a check finds: the smallest unit that lacks an import and the position of the first, counted from 1; or a unit left over by a circle; or the link order
pub data Verdict : Type 0 where
  missing : Option Name → ℕ → Verdict
  circle : Option Name → Verdict
  linked : List ℕ → Verdict
  nothing : Verdict

abbrev pub by_order : List Member → Outcome → Verdict
by_order vs (all places) = linked places
by_order vs (stuck places i) = circle (slice_get (names vs) i)

-- the position, counted from 1, of the first import of the unit at a place that is no unit
abbrev pub lack_at : List Member → Option Member → ℕ
lack_at vs (Some u) = unwrap_or (option_map suc (lack vs u.imports)) 0
lack_at vs None = 0

abbrev pub by_lack : List Member → Option ℕ → Verdict
by_lack vs (Some i) = missing (slice_get (names vs) i) (lack_at vs (slice_get vs i))
by_lack vs None = by_order vs (ordered name_cmp (names vs) (needs 0 vs))

-- 21 goes before 22
abbrev pub checked : List Member → Verdict
checked vs = by_lack vs (smallest name_cmp (lacks vs vs) (names vs))

-- the number of a verdict: 0 for a link order
abbrev pub verdict_number : Verdict → ℕ
verdict_number (missing n k) = 21
verdict_number (circle n) = 22
verdict_number (linked places) = 0
verdict_number nothing = 0

-- what an answer says, with the places that it left
abbrev pub shown : {T : Type 0} → Result T Refusal → List ℕ → Verdict
shown (Ok x) places = linked places
shown (Err (ImportMissing u k)) places = missing (Some u) k
shown (Err (ImportCircle u)) places = circle (Some u)
shown (Err NotAName) places = nothing
shown (Err SourceTooLong) places = nothing
shown (Err TooManyImports) places = nothing
shown (Err TooManyUnits) places = nothing
shown (Err NoSuchUnit) places = nothing
shown (Err TooManyRows) places = nothing
shown (Err (Faulty u f)) places = nothing
shown (Err (StoreFull u)) places = nothing
shown (Err (RecordTooLong u)) places = nothing
shown (Err BufferTooShort) places = nothing
shown (Err NotBuilt) places = nothing
shown (Err ImageTooLong) places = nothing
shown (Err (EntryMissing u k)) places = nothing
shown (Err NotAnImage) places = nothing
shown (Err NotAnArtifact) places = nothing
