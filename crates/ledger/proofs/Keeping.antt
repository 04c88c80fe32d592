-- Every call keeps the artifacts and products true, so that what is linked is what fresh translation links to.
use Rattle.std.proofs.Common.{◌≡◌, ℕ, zero, suc, ◌<◌, ◌≤◌, Bool, true, false, cond, not, ◌&&◌, ltb, leb, List, [], ◌∷◌, map, length, is_some, Some, None, Option, sym, refl, ap, ◌∙◌, arith}
use Rattle.std.specs.Option.{option_to_list}
use Rattle.std.specs.List.{AllZip, AllByRecursion, slice_get}
use Rattle.std.specs.Str.{bytes_eq}
use Rattle.std.proofs.ByRecursion.{All-append}
use Rattle.std.proofs.lemmas.Bool.{true≢false, ltb-false}
use Rattle.names.specs.declared.name.Name.{Name}
use Rattle.image.specs.Picture.{Units, image_bytes}
use Rattle.project.specs.Members.{Member, same, at, with, without, put_answer, remove_answer}
use Rattle.project.specs.Checked.{Verdict, missing, circle, linked, nothing, checked}
use Rattle.ledger.specs.Meaning.{Meaning, Laws}
use Rattle.ledger.specs.Fresh.{Made, in_order, fresh_by}
use Rattle.ledger.specs.Shelf.{Shelf, Ended, accepted, faulty, unstored, Built, build_units}
use Rattle.ledger.specs.Sound.{SoundMember, TrueArt, TrueShelf, Keeps}
use Rattle.ledger.specs.Agrees.{Like, AgreesBy, Agrees}
use Rattle.ledger.specs.Linking.{plain, Linking, broken, whole, linking, in_link_order, linked_by, fresh_linking}
use Rattle.ledger.specs.Runs.{Call, put, remove, freeze, build, link, thaw, Stage, draft, frozen, State, refused, image, put_by, remove_by, products, built_by, build_by, image_or, link_said, by_stage, turn, run, new, ByteCall}
use Rattle.ledger.specs.Kept.{TrueStage, TrueState}
use Rattle.ledger.proofs.Builds.{build_shows}

-- ---- lists of units

pub all-with : (P : Member → Type 0) (u : Member) (vs : List Member) → AllByRecursion P vs → P u → AllByRecursion P (with u vs)
all-with P u [] h k = (k, tt)
all-with P u (v ∷ vs) h k = by (same v.name u.name) (all-with P u vs h.1 k)
  where
    by : (b : Bool) → AllByRecursion P (with u vs) → AllByRecursion P (cond b (u ∷ vs) (v ∷ with u vs))
    by true r = (k, h.1)
    by false r = (h.0, r)

pub all_without : (P : Member → Type 0) (n : Name) (vs : List Member) → AllByRecursion P vs → AllByRecursion P (without n vs)
all_without P n [] h = tt
all_without P n (v ∷ vs) h = by (same v.name n) (all_without P n vs h.1)
  where
    by : (b : Bool) → AllByRecursion P (without n vs) → AllByRecursion P (cond b vs (v ∷ without n vs))
    by true r = h.1
    by false r = (h.0, r)

all-nth : (P : Member → Type 0) (vs : List Member) (i : ℕ) → AllByRecursion P vs → AllByRecursion P (option_to_list (slice_get vs i))
all-nth P [] i h = tt
all-nth P (v ∷ vs) zero h = (h.0, tt)
all-nth P (v ∷ vs) (suc i) h = all-nth P vs i h.1

pub all-in_order : (P : Member → Type 0) (vs : List Member) (places : List ℕ) → AllByRecursion P vs → AllByRecursion P (in_order vs places)
all-in_order P vs [] h = tt
all-in_order P vs (p ∷ ps) h = All-append P (option_to_list (slice_get vs p)) (in_order vs ps) (all-nth P vs p h) (all-in_order P vs ps h)

-- what put accepts is within bounds
pub put-within : (u : Member) (vs : List Member) → put_answer u vs ≡ 0 → (length u.source ≤ 512) × (length u.imports ≤ 4)
put-within u vs h = by (ltb 512 (length u.source)) refl (ltb 4 (length u.imports)) refl h
  where
    by : (a : Bool) → ltb 512 (length u.source) ≡ a → (b : Bool) → ltb 4 (length u.imports) ≡ b → ◌≡◌ {A = ℕ} (cond a 12 (cond b 13 (cond (not (is_some (at u.name vs)) && leb 24 (length vs)) 14 0))) 0 → (length u.source ≤ 512) × (length u.imports ≤ 4)
    by true e b f g = absurd (omega arith)
    by false e true f g = absurd (omega arith)
    by false e false f g = (ltb-false 512 (length u.source) e, ltb-false 4 (length u.imports) f)

-- ---- like products link alike

like-plain : (m : Meaning) (ds es : List Made) → AllZip (Like m) ds es → map plain ds ≡ map plain es
like-plain m [] [] h = refl
like-plain m [] (e ∷ es) h = absurd h
like-plain m (d ∷ ds) [] h = absurd h
like-plain m (d ∷ ds) (e ∷ es) h =
    let k = h.0.1.1 in
    λ i. record { code = k.0 i; entries = k.1.0 i; references = k.1.1 i } ∷ like-plain m ds es h.1 i

-- ---- the calls

module _ {S : Type 0} (m : Meaning) (l : Laws m) (sh : Shelf S) (keeps : Keeps sh) where
  true_dropped : (s : S) (q : List ℕ) → TrueShelf m sh s → TrueShelf m sh (sh.dropped s q)
  true_dropped s q h p b k = by (bytes_eq q p) (sym (keeps.gone s q p) ∙ k)
    where
      by : (c : Bool) → cond c None (sh.seen s p) ≡ Some b → TrueArt m b
      by true g = absurd (true≢false (sym (ap is_some g)))
      by false g = h p b g

  put_keeps : (n : ℕ) (u : Member) (vs : List Member) (s : S) → put_answer u vs ≡ n → AllByRecursion (λ b. b < 256) u.source → AllByRecursion SoundMember vs → TrueShelf m sh s → TrueState m sh (put_by m sh n u vs s).state
  put_keeps zero u vs s e bytes h t =
      let w = put-within u vs e in
      record { members = all-with SoundMember u vs h (w.0, bytes, w.1); shelf = t; stage = tt }
  put_keeps (suc n) u vs s e bytes h t = record { members = h; shelf = t; stage = tt }

  remove_keeps : (k : ℕ) (n : Name) (vs : List Member) (s : S) → AllByRecursion SoundMember vs → TrueShelf m sh s → TrueState m sh (remove_by m sh k n vs s).state
  remove_keeps zero n vs s h t = record { members = all_without SoundMember n vs h; shelf = true_dropped s n.bytes t; stage = tt }
  remove_keeps (suc k) n vs s h t = record { members = h; shelf = t; stage = tt }

  built_keeps : (vs : List Member) (places : List ℕ) (b : Built S) → checked vs ≡ linked places → AllByRecursion SoundMember vs → Agrees m (in_order vs places) [] b → TrueShelf m sh b.state → TrueState m sh (built_by m sh vs b).state
  built_keeps vs places b e h a t = record { members = h; shelf = t; stage = by b.ended a }
    where
      by : (x : Ended) → AgreesBy m (in_order vs places) [] b.done (length b.marks) x → TrueStage m vs (frozen (products m sh x b.done))
      by accepted g = (g.0, ap (fresh_by m vs) e ∙ g.1, g.2)
      by (faulty n f) g = tt
      by (unstored n k) g = tt

  build_keeps : (v : Verdict) (vs : List Member) (held : Option (List Made)) (s : S) → checked vs ≡ v → AllByRecursion SoundMember vs → TrueShelf m sh s → TrueStage m vs (frozen held) → TrueState m sh (build_by m sh v vs held s).state
  build_keeps (missing n k) vs held s e h t g = record { members = h; shelf = t; stage = g }
  build_keeps (circle n) vs held s e h t g = record { members = h; shelf = t; stage = g }
  build_keeps (linked places) vs held s e h t g =
      let shows = build_shows m l sh keeps (in_order vs places) [] [] s (all-in_order SoundMember vs places h) tt t tt in
      built_keeps vs places (build_units m sh (in_order vs places) [] s) e h shows.0 shows.1
  build_keeps nothing vs held s e h t g = record { members = h; shelf = t; stage = g }

  stage_keeps : (g : Stage) (vs : List Member) (s : S) (c : Call) → ByteCall c → AllByRecursion SoundMember vs → TrueShelf m sh s → TrueStage m vs g → TrueState m sh (by_stage m sh g vs s c).state
  stage_keeps draft vs s (put u) b h t g = put_keeps (put_answer u vs) u vs s refl b h t
  stage_keeps draft vs s (remove n) b h t g = remove_keeps (remove_answer n vs) n vs s h t
  stage_keeps draft vs s freeze b h t g = record { members = h; shelf = t; stage = tt }
  stage_keeps draft vs s build b h t g = record { members = h; shelf = t; stage = tt }
  stage_keeps draft vs s (link k) b h t g = record { members = h; shelf = t; stage = tt }
  stage_keeps draft vs s thaw b h t g = record { members = h; shelf = t; stage = tt }
  stage_keeps (frozen held) vs s (put u) b h t g = record { members = h; shelf = t; stage = g }
  stage_keeps (frozen held) vs s (remove n) b h t g = record { members = h; shelf = t; stage = g }
  stage_keeps (frozen held) vs s freeze b h t g = record { members = h; shelf = t; stage = g }
  stage_keeps (frozen held) vs s build b h t g = build_keeps (checked vs) vs held s refl h t g
  stage_keeps (frozen held) vs s (link k) b h t g = record { members = h; shelf = t; stage = g }
  stage_keeps (frozen held) vs s thaw b h t g = record { members = h; shelf = t; stage = tt }

  pub turn_keeps : (t : State S) (c : Call) → ByteCall c → TrueState m sh t → TrueState m sh (turn m sh t c).state
  turn_keeps t c b h = stage_keeps t.stage t.project t.shelf c b h.members h.shelf h.stage

  pub run_keeps : (t : State S) (cs : List Call) → AllByRecursion ByteCall cs → TrueState m sh t → TrueState m sh (run m sh t cs)
  run_keeps t [] b h = h
  run_keeps t (c ∷ cs) b h = run_keeps (turn m sh t c).state cs b.1 (turn_keeps t c b.0 h)

  pub new_true : (s : S) → ((q : List ℕ) → sh.seen s q ≡ None) → TrueState m sh (new s)
  new_true s none = record { members = tt; shelf = λ q a e. absurd (true≢false (sym (ap is_some (sym (none q) ∙ e)))); stage = tt }

  linked_fresh : (held : Option (List Made)) (vs : List Member) (room : ℕ) (u : Units) → TrueStage m vs (frozen held) → link_said m sh room vs held ≡ image u → fresh_linking m vs ≡ Some (whole u)
  linked_fresh None vs room u g e = let z : ◌≡◌ {A = ℕ} 0 1 = cc in absurd (omega arith)
  linked_fresh (Some ds) vs room u g e =
      ap (linked_by vs) g.1 ∙ ap (λ ps. Some (linking (in_link_order vs) ps)) (sym (like-plain m ds g.0 g.2)) ∙ ap Some (by (linking (in_link_order vs) (map plain ds)) refl e)
    where
      by : (k : Linking) → linking (in_link_order vs) (map plain ds) ≡ k → image_or m sh room k ≡ image u → k ≡ whole u
      by (broken n i) q f = let z : ◌≡◌ {A = ℕ} 0 1 = cc in absurd (omega arith)
      by (whole w) q f = fits (ltb room (length (image_bytes w))) f
        where
          fits : (b : Bool) → cond b (refused 52) (image w) ≡ image u → whole w ≡ whole u
          fits true h = let z : ◌≡◌ {A = ℕ} 0 1 = cc in absurd (omega arith)
          fits false h = let is : w ≡ u = cc in ap whole is

  said-fresh : (g : Stage) (vs : List Member) (s : S) (room : ℕ) (u : Units) → TrueStage m vs g → (by_stage m sh g vs s (link room)).said ≡ image u → fresh_linking m vs ≡ Some (whole u)
  said-fresh draft vs s room u g e = let z : ◌≡◌ {A = ℕ} 0 1 = cc in absurd (omega arith)
  said-fresh (frozen held) vs s room u g e = linked_fresh held vs room u g e

  -- what is linked is what fresh translation links to
  pub link_fresh : (t : State S) (room : ℕ) (u : Units) → TrueState m sh t → (turn m sh t (link room)).said ≡ image u → fresh_linking m t.project ≡ Some (whole u)
  link_fresh t room u h e = said-fresh t.stage t.project t.shelf room u h.stage e
