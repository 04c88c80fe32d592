-- Over a store that holds the ledger's artifacts every call says what it says over the ledger, and the store goes on holding them.
use Rattle.std.proofs.Common.{◌≡◌, ℕ, zero, suc, ◌+◌, ◌-◌, Bool, true, false, cond, List, [], ◌∷◌, length, is_some, Some, None, Option, sym, refl, ap, ◌∙◌, subst, arith}
use Rattle.std.specs.Option.{option_map}
use Rattle.std.specs.List.{AllByRecursion}
use Rattle.std.specs.Str.{bytes_eq}
use Rattle.std.proofs.ByRecursion.{All-push}
use Rattle.std.proofs.lemmas.Slice.Eq.{bytes_eq-Decides}
use Rattle.store.specs.Says.{put_number}
use Rattle.names.specs.declared.name.Name.{Name}
use Rattle.product.specs.Parts.{Parts, Outcome, made, faulted}
use Rattle.artifact.specs.Art.{Art, WithinArt, artifact_bytes}
use Rattle.artifact.specs.Round.{RoundTrip}
use Rattle.project.specs.Members.{Member, put_answer, remove_answer}
use Rattle.project.specs.Checked.{Verdict, missing, circle, linked, nothing, checked}
use Rattle.ledger.specs.Meaning.{Meaning, Laws}
use Rattle.ledger.specs.Fresh.{Made, interfaces, and_unit, in_order}
use Rattle.ledger.specs.Shelf.{current, art_of, faulty, unstored, Built, marked, stopped, build_units}
use Rattle.ledger.specs.Sound.{SoundMember, SoundMade}
use Rattle.ledger.specs.Stored.{View, view_put, view_drop, artifact_in, stored}
use Rattle.ledger.specs.Ledger.{Entry, row_of, rows_but, with_row, ledger}
use Rattle.ledger.specs.Mirrored.{Once, Holds, SameBuild, SameState, SameTurn}
use Rattle.ledger.specs.Runs.{Call, put, remove, freeze, build, link, thaw, Stage, draft, frozen, State, Said, put_by, remove_by, products, built_by, build_by, by_stage, turn}
use Rattle.ledger.proofs.Alike.{current_some, sound_art}
use Rattle.ledger.proofs.Shelves.{but_gone, with_back, rows_but_itself}
use Rattle.ledger.proofs.Keeping.{all-in_order}

some_mapped : {X Y : Type 0} (f : X → Y) (o : Option X) → is_some (option_map f o) ≡ is_some o
some_mapped f (Some x) = refl
some_mapped f None = refl

-- ---- rows stand once

length_but : (q : List ℕ) (es : List Entry) → Once es → length (rows_but q es) + cond (is_some (row_of es q)) 1 0 ≡ length es
length_but q [] h = omega arith
length_but q (e ∷ es) h = by (bytes_eq e.key q) refl (length_but q es h.1)
  where
    by : (b : Bool) → bytes_eq e.key q ≡ b → length (rows_but q es) + cond (is_some (row_of es q)) 1 0 ≡ length es → length (cond b (rows_but q es) (e ∷ rows_but q es)) + cond (is_some (cond b (Some e.art) (row_of es q))) 1 0 ≡ suc (length es)
    by true k r =
        let none : row_of es q ≡ None = ap (row_of es) (sym ((bytes_eq-Decides e.key q).0 k)) ∙ h.0 in
        let r' : length (rows_but q es) + 0 ≡ length es = ap (λ o. length (rows_but q es) + cond (is_some o) 1 0) (sym none) ∙ r in
        omega arith
    by false k r = omega arith

once_but : (q : List ℕ) (es : List Entry) → Once es → Once (rows_but q es)
once_but q [] h = tt
once_but q (e ∷ es) h = by (bytes_eq e.key q) (once_but q es h.1)
  where
    gone : (b : Bool) → cond b None (row_of es e.key) ≡ None
    gone true = refl
    gone false = h.0

    by : (b : Bool) → Once (rows_but q es) → Once (cond b (rows_but q es) (e ∷ rows_but q es))
    by true r = r
    by false r = (but_gone q e.key es ∙ gone (bytes_eq q e.key), r)

-- ---- the store goes on holding the ledger's artifacts

module _ (v : View) (es : List Entry) (h : Holds v es) (q : List ℕ) where
  one : is_some (v.at q) ≡ is_some (row_of es q)
  one = ap is_some (h.bytes q) ∙ some_mapped artifact_bytes (row_of es q)

  pub holds_kept : (a : Art) → WithinArt a → Holds (view_put q (artifact_bytes a) v) (with_row q a es)
  holds_kept a w =
      record {
        bytes = λ p. same p (bytes_eq q p) refl;
        number = count (is_some (row_of es q)) refl;
        within = λ p b e. fits p b (bytes_eq q p) (sym (with_back q p a es) ∙ e);
        once = (rows_but_itself q es, once_but q es h.once);
      }
    where
      same : (p : List ℕ) (c : Bool) → bytes_eq q p ≡ c → cond (bytes_eq q p) (Some (artifact_bytes a)) (v.at p) ≡ option_map artifact_bytes (row_of (with_row q a es) p)
      same p c e = ap (λ x. cond x (Some (artifact_bytes a)) (v.at p)) e ∙ each c ∙ ap (λ x. option_map artifact_bytes (cond x (Some a) (row_of es p))) (sym e) ∙ ap (option_map artifact_bytes) (sym (with_back q p a es))
        where
          each : (c : Bool) → cond c (Some (artifact_bytes a)) (v.at p) ≡ option_map artifact_bytes (cond c (Some a) (row_of es p))
          each true = refl
          each false = h.bytes p

      count : (b : Bool) → is_some (row_of es q) ≡ b → v.number + cond (is_some (v.at q)) 0 1 ≡ suc (length (rows_but q es))
      count b e = ap (λ x. v.number + cond x 0 1) (one ∙ e) ∙ by b (ap (λ x. length (rows_but q es) + cond x 1 0) (sym e) ∙ length_but q es h.once)
        where
          by : (b : Bool) → length (rows_but q es) + cond b 1 0 ≡ length es → v.number + cond b 0 1 ≡ suc (length (rows_but q es))
          by true k = let n = h.number in omega arith
          by false k = let n = h.number in omega arith

      fits : (p : List ℕ) (b : Art) (c : Bool) → cond c (Some a) (row_of es p) ≡ Some b → WithinArt b
      fits p b true e = let is : a ≡ b = cc in subst WithinArt is w
      fits p b false e = h.within p b e

  pub holds_dropped : Holds (view_drop q v) (rows_but q es)
  holds_dropped =
      record {
        bytes = λ p. same p (bytes_eq q p) refl;
        number = count (is_some (row_of es q)) refl;
        within = λ p b e. fits p b (bytes_eq q p) (sym (but_gone q p es) ∙ e);
        once = once_but q es h.once;
      }
    where
      same : (p : List ℕ) (c : Bool) → bytes_eq q p ≡ c → cond (bytes_eq q p) None (v.at p) ≡ option_map artifact_bytes (row_of (rows_but q es) p)
      same p c e = ap (λ x. cond x None (v.at p)) e ∙ each c ∙ ap (λ x. option_map artifact_bytes (cond x None (row_of es p))) (sym e) ∙ ap (option_map artifact_bytes) (sym (but_gone q p es))
        where
          each : (c : Bool) → cond c None (v.at p) ≡ option_map artifact_bytes (cond c None (row_of es p))
          each true = refl
          each false = h.bytes p

      count : (b : Bool) → is_some (row_of es q) ≡ b → v.number - cond (is_some (v.at q)) 1 0 ≡ length (rows_but q es)
      count b e = ap (λ x. v.number - cond x 1 0) (one ∙ e) ∙ by b (ap (λ x. length (rows_but q es) + cond x 1 0) (sym e) ∙ length_but q es h.once)
        where
          by : (b : Bool) → length (rows_but q es) + cond b 1 0 ≡ length es → v.number - cond b 1 0 ≡ length (rows_but q es)
          by true k = let n = h.number in omega arith
          by false k = let n = h.number in omega arith

      fits : (p : List ℕ) (b : Art) (c : Bool) → cond c None (row_of es p) ≡ Some b → WithinArt b
      fits p b true e = let z : ◌≡◌ {A = ℕ} 0 1 = cc in absurd (omega arith)
      fits p b false e = h.within p b e

  -- the two shelves show the same artifact, and have the same room
  pub same_seen : RoundTrip → artifact_in (v.at q) ≡ row_of es q
  same_seen round = ap artifact_in (h.bytes q) ∙ by (row_of es q) refl
    where
      by : (o : Option Art) → row_of es q ≡ o → artifact_in (option_map artifact_bytes (row_of es q)) ≡ row_of es q
      by None e = ap (λ x. artifact_in (option_map artifact_bytes x)) e ∙ sym e
      by (Some a) e = ap (λ x. artifact_in (option_map artifact_bytes x)) e ∙ round.read_written a (h.within q a e) ∙ sym e

  pub same_room : (limit rows : ℕ) (a : Art) → (stored limit rows).room v q a ≡ (ledger limit rows).room es q a
  same_room limit rows a = λ i. put_number limit rows (one i) (h.number i) (length (artifact_bytes a))

-- ---- builds

module _ (m : Meaning) (l : Laws m) (round : RoundTrip) (limit rows : ℕ) where
  same-marked : (k : ℕ) (b : Built View) (c : Built (List Entry)) → SameBuild b c → SameBuild (marked k b) (marked k c)
  same-marked k b c h = record { ended = h.ended; marks = ap (λ ks. k ∷ ks) h.marks; done = h.done; holds = h.holds }

  pub mirror_build : (us : List Member) (ds : List Made) (v : View) (es : List Entry) → AllByRecursion SoundMember us → AllByRecursion SoundMade ds → Holds v es → SameBuild (build_units m (stored limit rows) us ds v) (build_units m (ledger limit rows) us ds es)
  mirror_build [] ds v es su sd h = record { ended = refl; marks = refl; done = refl; holds = h }
  mirror_build (u ∷ us) ds v es su sd h =
      by_kept (current m u (interfaces ds u) (artifact_in (v.at u.name.bytes))) (current m u (interfaces ds u) (row_of es u.name.bytes)) (ap (current m u (interfaces ds u)) (same_seen v es h u.name.bytes round)) refl
      (λ p w v' es' h'. mirror_build us (and_unit ds u p) v' es' su.1 (All-push SoundMade ds _ sd w) h')
    where
      by_room : (p : Parts) → m.means u.source (interfaces ds u) ≡ made p
          → (n k : ℕ) → n ≡ k
          → ((p : Parts) → SoundMade (record { unit = u.name; parts = p }) → (v : View) (es : List Entry) → Holds v es → SameBuild (build_units m (stored limit rows) us (and_unit ds u p) v) (build_units m (ledger limit rows) us (and_unit ds u p) es))
          → SameBuild
          (elim n [ zero ↦ marked 1 (build_units m (stored limit rows) us (and_unit ds u p) (view_put u.name.bytes (artifact_bytes (art_of u (interfaces ds u) p)) v)) | suc n ↦ stopped (unstored u.name (suc n)) ds v ])
          (elim k [ zero ↦ marked 1 (build_units m (ledger limit rows) us (and_unit ds u p) (with_row u.name.bytes (art_of u (interfaces ds u) p) es)) | suc n ↦ stopped (unstored u.name (suc n)) ds es ])
      by_room p e zero zero q go =
          let fits = sound_art m l u ds p su.0 sd e in
          same-marked 1 (build_units m (stored limit rows) us (and_unit ds u p) (view_put u.name.bytes (artifact_bytes (art_of u (interfaces ds u) p)) v)) (build_units m (ledger limit rows) us (and_unit ds u p) (with_row u.name.bytes (art_of u (interfaces ds u) p) es))
          (go p fits.product.interface (view_put u.name.bytes (artifact_bytes (art_of u (interfaces ds u) p)) v) (with_row u.name.bytes (art_of u (interfaces ds u) p) es) (holds_kept v es h u.name.bytes (art_of u (interfaces ds u) p) fits))
      by_room p e zero (suc k) q go = absurd (omega arith)
      by_room p e (suc n) zero q go = absurd (omega arith)
      by_room p e (suc n) (suc k) q go = record { ended = ap (unstored u.name) q; marks = refl; done = refl; holds = h }

      by_means : (o : Outcome) → m.means u.source (interfaces ds u) ≡ o
          → ((p : Parts) → SoundMade (record { unit = u.name; parts = p }) → (v : View) (es : List Entry) → Holds v es → SameBuild (build_units m (stored limit rows) us (and_unit ds u p) v) (build_units m (ledger limit rows) us (and_unit ds u p) es))
          → SameBuild
          (elim o [ faulted f ↦ stopped (faulty u.name f) ds v | made p ↦ elim ((stored limit rows).room v u.name.bytes (art_of u (interfaces ds u) p)) [ zero ↦ marked 1 (build_units m (stored limit rows) us (and_unit ds u p) (view_put u.name.bytes (artifact_bytes (art_of u (interfaces ds u) p)) v)) | suc n ↦ stopped (unstored u.name (suc n)) ds v ] ])
          (elim o [ faulted f ↦ stopped (faulty u.name f) ds es | made p ↦ elim ((ledger limit rows).room es u.name.bytes (art_of u (interfaces ds u) p)) [ zero ↦ marked 1 (build_units m (ledger limit rows) us (and_unit ds u p) (with_row u.name.bytes (art_of u (interfaces ds u) p) es)) | suc n ↦ stopped (unstored u.name (suc n)) ds es ] ])
      by_means (faulted f) e go = record { ended = refl; marks = refl; done = refl; holds = h }
      by_means (made p) e go =
          by_room p e ((stored limit rows).room v u.name.bytes (art_of u (interfaces ds u) p)) ((ledger limit rows).room es u.name.bytes (art_of u (interfaces ds u) p)) (same_room v es h u.name.bytes limit rows (art_of u (interfaces ds u) p)) go

      by_kept : (c d : Option Art) → c ≡ d → current m u (interfaces ds u) (row_of es u.name.bytes) ≡ d
          → ((p : Parts) → SoundMade (record { unit = u.name; parts = p }) → (v : View) (es : List Entry) → Holds v es → SameBuild (build_units m (stored limit rows) us (and_unit ds u p) v) (build_units m (ledger limit rows) us (and_unit ds u p) es))
          → SameBuild
          (elim c [ Some a ↦ marked 0 (build_units m (stored limit rows) us (and_unit ds u a.product) v) | None ↦ elim (m.means u.source (interfaces ds u)) [ faulted f ↦ stopped (faulty u.name f) ds v | made p ↦ elim ((stored limit rows).room v u.name.bytes (art_of u (interfaces ds u) p)) [ zero ↦ marked 1 (build_units m (stored limit rows) us (and_unit ds u p) (view_put u.name.bytes (artifact_bytes (art_of u (interfaces ds u) p)) v)) | suc n ↦ stopped (unstored u.name (suc n)) ds v ] ] ])
          (elim d [ Some a ↦ marked 0 (build_units m (ledger limit rows) us (and_unit ds u a.product) es) | None ↦ elim (m.means u.source (interfaces ds u)) [ faulted f ↦ stopped (faulty u.name f) ds es | made p ↦ elim ((ledger limit rows).room es u.name.bytes (art_of u (interfaces ds u) p)) [ zero ↦ marked 1 (build_units m (ledger limit rows) us (and_unit ds u p) (with_row u.name.bytes (art_of u (interfaces ds u) p) es)) | suc n ↦ stopped (unstored u.name (suc n)) ds es ] ] ])
      by_kept (Some a) (Some b) e f go =
          let is : b ≡ a = cc in
          let kept = current_some m u (interfaces ds u) (row_of es u.name.bytes) b f in
          let fits = h.within u.name.bytes b kept.0 in
          subst (λ (x : Art). SameBuild (marked 0 (build_units m (stored limit rows) us (and_unit ds u x.product) v)) (marked 0 (build_units m (ledger limit rows) us (and_unit ds u b.product) es))) is
          (same-marked 0 (build_units m (stored limit rows) us (and_unit ds u b.product) v) (build_units m (ledger limit rows) us (and_unit ds u b.product) es) (go b.product fits.product.interface v es h))
      by_kept (Some a) None e f go = let z : ◌≡◌ {A = ℕ} 0 1 = cc in absurd (omega arith)
      by_kept None (Some b) e f go = let z : ◌≡◌ {A = ℕ} 0 1 = cc in absurd (omega arith)
      by_kept None None e f go = by_means (m.means u.source (interfaces ds u)) refl go

  -- ---- calls

  same_state : (vs : List Member) (g : Stage) (v : View) (es : List Entry) → Holds v es → SameState (record { project = vs; stage = g; shelf = v }) (record { project = vs; stage = g; shelf = es })
  same_state vs g v es h = record { project = refl; stage = refl; holds = h }

  mirror_put : (n : ℕ) (u : Member) (vs : List Member) (v : View) (es : List Entry) → Holds v es → SameTurn (put_by m (stored limit rows) n u vs v) (put_by m (ledger limit rows) n u vs es)
  mirror_put zero u vs v es h = record { state = record { project = refl; stage = refl; holds = h }; said = refl }
  mirror_put (suc n) u vs v es h = record { state = record { project = refl; stage = refl; holds = h }; said = refl }

  mirror_remove : (k : ℕ) (n : Name) (vs : List Member) (v : View) (es : List Entry) → Holds v es → SameTurn (remove_by m (stored limit rows) k n vs v) (remove_by m (ledger limit rows) k n vs es)
  mirror_remove zero n vs v es h = record { state = record { project = refl; stage = refl; holds = holds_dropped v es h n.bytes }; said = refl }
  mirror_remove (suc k) n vs v es h = record { state = record { project = refl; stage = refl; holds = h }; said = refl }

  mirror_built : (vs : List Member) (b : Built View) (c : Built (List Entry)) → SameBuild b c → SameTurn (built_by m (stored limit rows) vs b) (built_by m (ledger limit rows) vs c)
  mirror_built vs b c h =
      record {
        state = record { project = refl; stage = (λ i. frozen (products m (ledger limit rows) (h.ended i) (h.done i))); holds = h.holds };
        said = λ i. Said.ended (h.ended i) (h.marks i);
      }

  mirror_build_by : (d : Verdict) (vs : List Member) (held : Option (List Made)) (v : View) (es : List Entry) → AllByRecursion SoundMember vs → Holds v es → SameTurn (build_by m (stored limit rows) d vs held v) (build_by m (ledger limit rows) d vs held es)
  mirror_build_by (missing n k) vs held v es s h = record { state = same_state vs (frozen held) v es h; said = refl }
  mirror_build_by (circle n) vs held v es s h = record { state = same_state vs (frozen held) v es h; said = refl }
  mirror_build_by (linked places) vs held v es s h =
      mirror_built vs (build_units m (stored limit rows) (in_order vs places) [] v) (build_units m (ledger limit rows) (in_order vs places) [] es) (mirror_build (in_order vs places) [] v es (all-in_order SoundMember vs places s) tt h)
  mirror_build_by nothing vs held v es s h = record { state = same_state vs (frozen held) v es h; said = refl }

  mirror_stage : (g : Stage) (vs : List Member) (v : View) (es : List Entry) (c : Call) → AllByRecursion SoundMember vs → Holds v es → SameTurn (by_stage m (stored limit rows) g vs v c) (by_stage m (ledger limit rows) g vs es c)
  mirror_stage draft vs v es (put u) s h = mirror_put (put_answer u vs) u vs v es h
  mirror_stage draft vs v es (remove n) s h = mirror_remove (remove_answer n vs) n vs v es h
  mirror_stage draft vs v es freeze s h = record { state = same_state vs (frozen None) v es h; said = refl }
  mirror_stage draft vs v es build s h = record { state = same_state vs draft v es h; said = refl }
  mirror_stage draft vs v es (link k) s h = record { state = same_state vs draft v es h; said = refl }
  mirror_stage draft vs v es thaw s h = record { state = same_state vs draft v es h; said = refl }
  mirror_stage (frozen held) vs v es (put u) s h = record { state = same_state vs (frozen held) v es h; said = refl }
  mirror_stage (frozen held) vs v es (remove n) s h = record { state = same_state vs (frozen held) v es h; said = refl }
  mirror_stage (frozen held) vs v es freeze s h = record { state = same_state vs (frozen held) v es h; said = refl }
  mirror_stage (frozen held) vs v es build s h = mirror_build_by (checked vs) vs held v es s h
  mirror_stage (frozen held) vs v es (link k) s h = record { state = same_state vs (frozen held) v es h; said = refl }
  mirror_stage (frozen held) vs v es thaw s h = record { state = same_state vs draft v es h; said = refl }

  -- a call over a store that holds the ledger's artifacts says what it says over the ledger
  pub mirror_turn : (t : State View) (u : State (List Entry)) (c : Call) → AllByRecursion SoundMember t.project → SameState t u → SameTurn (turn m (stored limit rows) t c) (turn m (ledger limit rows) u c)
  mirror_turn t u c s h =
      subst (λ g. SameTurn (turn m (stored limit rows) t c) (by_stage m (ledger limit rows) g u.project u.shelf c)) h.stage
      (subst (λ vs. SameTurn (turn m (stored limit rows) t c) (by_stage m (ledger limit rows) t.stage vs u.shelf c)) h.project (mirror_stage t.stage t.project t.shelf u.shelf c s h.holds))
