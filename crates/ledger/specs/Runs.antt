-- The six calls over a shelf of artifacts, and runs of them from a new manager.
use Rattle.std.specs.Prelude.{ℕ, zero, suc, ◌<◌, cond, List, [], ◌∷◌, map, length, Some, None, Option, nat_lt}
use Rattle.std.specs.List.{AllByRecursion}
use Rattle.names.specs.declared.name.Name.{Name}
use Rattle.project.specs.Members.{Member, with, without, put_answer, remove_answer}
use Rattle.project.specs.Checked.{Verdict, missing, circle, linked, nothing, checked}
use Rattle.image.specs.Picture.{Units, image_bytes}
use Rattle.ledger.specs.Meaning.{Meaning}
use Rattle.ledger.specs.Fresh.{Made, in_order}
use Rattle.ledger.specs.Shelf.{Shelf, Ended, accepted, faulty, unstored, Built, build_units}
use Rattle.ledger.specs.Linking.{plain, Linking, broken, whole, linking, in_link_order}

-- a call with its arguments; link is lent a buffer of so many bytes
pub data Call : Type 0 where
  put : Member → Call
  remove : Name → Call
  freeze : Call
  build : Call
  link : ℕ → Call
  thaw : Call

-- a draft; or frozen, with the products of an accepted build since the freeze
pub data Stage : Type 0 where
  draft : Stage
  frozen : Option (List Made) → Stage

pub record State (S : Type 0) : Type 0 where
  pub project : List Member
  pub stage : Stage
  pub shelf : S

-- what a call answers: carried out, refused by number, no link order, a build's end and marks, a reference with no entry, an image; or the stage has no such call
pub data Said : Type 0 where
  done : Said
  refused : ℕ → Said
  unordered : Verdict → Said
  ended : Ended → List ℕ → Said
  unresolved : Name → ℕ → Said
  image : Units → Said
  astray : Said

-- a state and what was said on the way to it
pub record Turned (S : Type 0) : Type 0 where
  pub state : State S
  pub said : Said

module _ {S : Type 0} (m : Meaning) (sh : Shelf S) where
  -- put and remove, by the number they answer
  abbrev pub put_by : ℕ → Member → List Member → S → Turned S
  put_by zero u vs s = record { state = record { project = with u vs; stage = draft; shelf = s }; said = done }
  put_by (suc n) u vs s = record { state = record { project = vs; stage = draft; shelf = s }; said = refused (suc n) }

  abbrev pub remove_by : ℕ → Name → List Member → S → Turned S
  remove_by zero n vs s = record { state = record { project = without n vs; stage = draft; shelf = sh.dropped s n.bytes }; said = done }
  remove_by (suc k) n vs s = record { state = record { project = vs; stage = draft; shelf = s }; said = refused (suc k) }

  -- the products of a build that was accepted
  abbrev pub products : Ended → List Made → Option (List Made)
  products accepted ds = Some ds
  products (faulty n f) ds = None
  products (unstored n k) ds = None

  abbrev pub built_by : List Member → Built S → Turned S
  built_by vs b = record { state = record { project = vs; stage = frozen (products b.ended b.done); shelf = b.state }; said = ended b.ended b.marks }

  -- build, by the verdict of the check
  abbrev pub build_by : Verdict → List Member → Option (List Made) → S → Turned S
  build_by (linked places) vs built s = built_by vs (build_units m sh (in_order vs places) [] s)
  build_by (missing n k) vs built s = record { state = record { project = vs; stage = frozen built; shelf = s }; said = unordered (missing n k) }
  build_by (circle n) vs built s = record { state = record { project = vs; stage = frozen built; shelf = s }; said = unordered (circle n) }
  build_by nothing vs built s = record { state = record { project = vs; stage = frozen built; shelf = s }; said = unordered nothing }

  -- 52 where the buffer is shorter than the image
  abbrev pub image_or : ℕ → Linking → Said
  image_or room (broken n k) = unresolved n k
  image_or room (whole u) = cond (nat_lt room (length (image_bytes u))) (refused 52) (image u)

  -- 51 where no build was accepted since the freeze
  abbrev pub link_said : ℕ → List Member → Option (List Made) → Said
  link_said room vs None = refused 51
  link_said room vs (Some ds) = image_or room (linking (in_link_order vs) (map plain ds))

  abbrev pub in_draft : List Member → S → Call → Turned S
  in_draft vs s (put u) = put_by (put_answer u vs) u vs s
  in_draft vs s (remove n) = remove_by (remove_answer n vs) n vs s
  in_draft vs s freeze = record { state = record { project = vs; stage = frozen None; shelf = s }; said = done }
  in_draft vs s build = record { state = record { project = vs; stage = draft; shelf = s }; said = astray }
  in_draft vs s (link k) = record { state = record { project = vs; stage = draft; shelf = s }; said = astray }
  in_draft vs s thaw = record { state = record { project = vs; stage = draft; shelf = s }; said = astray }

  abbrev pub in_frozen : List Member → Option (List Made) → S → Call → Turned S
  in_frozen vs built s (put u) = record { state = record { project = vs; stage = frozen built; shelf = s }; said = astray }
  in_frozen vs built s (remove n) = record { state = record { project = vs; stage = frozen built; shelf = s }; said = astray }
  in_frozen vs built s freeze = record { state = record { project = vs; stage = frozen built; shelf = s }; said = astray }
  in_frozen vs built s build = build_by (checked vs) vs built s
  in_frozen vs built s (link k) = record { state = record { project = vs; stage = frozen built; shelf = s }; said = link_said k vs built }
  in_frozen vs built s thaw = record { state = record { project = vs; stage = draft; shelf = s }; said = done }

  abbrev pub by_stage : Stage → List Member → S → Call → Turned S
  by_stage draft vs s c = in_draft vs s c
  by_stage (frozen built) vs s c = in_frozen vs built s c

  -- one call
  abbrev pub turn : State S → Call → Turned S
  turn t c = by_stage t.stage t.project t.shelf c

  -- the calls of a list, one after the other
  abbrev pub run : State S → List Call → State S
  run t [] = t
  run t (c ∷ cs) = run (turn t c).state cs

-- a new manager over a shelf
abbrev pub new : {S : Type 0} → S → State S
new s = record { project = []; stage = draft; shelf = s }

-- a source is made of bytes
abbrev pub ByteCall : Call → Type 0
ByteCall (put u) = AllByRecursion (λ b. b < 256) u.source
ByteCall (remove n) = Unit {0}
ByteCall freeze = Unit {0}
ByteCall build = Unit {0}
ByteCall (link k) = Unit {0}
ByteCall thaw = Unit {0}
