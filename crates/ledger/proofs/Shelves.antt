-- The ledger and a store are shelves that keep, and a store that holds the ledger's artifacts goes on doing so.
use Rattle.std.proofs.Common.{◌≡◌, ℕ, Bool, true, false, cond, List, [], ◌∷◌, Some, None, sym, refl, ap, ◌∙◌}
use Rattle.std.specs.Str.{bytes_eq}
use Rattle.std.proofs.lemmas.Slice.Eq.{bytes_eq-Decides}
use Rattle.artifact.specs.Art.{Art, WithinArt, artifact_bytes}
use Rattle.artifact.specs.Round.{RoundTrip}
use Rattle.ledger.specs.Sound.{Keeps}
use Rattle.ledger.specs.Stored.{View, artifact_in, stored}
use Rattle.ledger.specs.Ledger.{Entry, row_of, rows_but, with_row, ledger}

pub same_itself : (q : List ℕ) → bytes_eq q q ≡ true
same_itself q = (bytes_eq-Decides q q).1 refl

-- ---- rows

rows_but_other : (q p : List ℕ) (es : List Entry) → bytes_eq q p ≡ false → row_of (rows_but q es) p ≡ row_of es p
rows_but_other q p [] h = refl
rows_but_other q p (e ∷ es) h = by (bytes_eq e.key q) refl (rows_but_other q p es h)
  where
    by : (b : Bool) → bytes_eq e.key q ≡ b → row_of (rows_but q es) p ≡ row_of es p → row_of (cond b (rows_but q es) (e ∷ rows_but q es)) p ≡ row_of (e ∷ es) p
    by true k r =
        let is : e.key ≡ q = (bytes_eq-Decides e.key q).0 k in
        let other : bytes_eq e.key p ≡ false = ap (λ x. bytes_eq x p) is ∙ h in
        r ∙ sym (ap (λ c. cond c (Some e.art) (row_of es p)) other)
    by false k r = ap (λ x. cond (bytes_eq e.key p) (Some e.art) x) r

pub rows_but_itself : (q : List ℕ) (es : List Entry) → row_of (rows_but q es) q ≡ None
rows_but_itself q [] = refl
rows_but_itself q (e ∷ es) = by (bytes_eq e.key q) refl (rows_but_itself q es)
  where
    by : (b : Bool) → bytes_eq e.key q ≡ b → row_of (rows_but q es) q ≡ None → row_of (cond b (rows_but q es) (e ∷ rows_but q es)) q ≡ None
    by true k r = r
    by false k r = ap (λ c. cond c (Some e.art) (row_of (rows_but q es) q)) k ∙ r

pub but_gone : (q p : List ℕ) (es : List Entry) → row_of (rows_but q es) p ≡ cond (bytes_eq q p) None (row_of es p)
but_gone q p es = by (bytes_eq q p) refl
  where
    by : (b : Bool) → bytes_eq q p ≡ b → row_of (rows_but q es) p ≡ cond b None (row_of es p)
    by true k = ap (row_of (rows_but q es)) (sym ((bytes_eq-Decides q p).0 k)) ∙ rows_but_itself q es
    by false k = rows_but_other q p es k

pub with_back : (q p : List ℕ) (a : Art) (es : List Entry) → row_of (with_row q a es) p ≡ cond (bytes_eq q p) (Some a) (row_of es p)
with_back q p a es = by (bytes_eq q p) refl
  where
    by : (b : Bool) → bytes_eq q p ≡ b → cond b (Some a) (row_of (rows_but q es) p) ≡ cond b (Some a) (row_of es p)
    by true k = refl
    by false k = rows_but_other q p es k

pub ledger_keeps : (limit rows : ℕ) → Keeps (ledger limit rows)
ledger_keeps limit rows = record { back = λ es q a p _ _. with_back q p a es; gone = λ es q p. but_gone q p es }

-- ---- stores

module _ (round : RoundTrip) where
  stored_back : (v : View) (q : List ℕ) (a : Art) (p : List ℕ) → WithinArt a → artifact_in (cond (bytes_eq q p) (Some (artifact_bytes a)) (v.at p)) ≡ cond (bytes_eq q p) (Some a) (artifact_in (v.at p))
  stored_back v q a p w = by (bytes_eq q p)
    where
      by : (b : Bool) → artifact_in (cond b (Some (artifact_bytes a)) (v.at p)) ≡ cond b (Some a) (artifact_in (v.at p))
      by true = round.read_written a w
      by false = refl

  stored-gone : (v : View) (q p : List ℕ) → artifact_in (cond (bytes_eq q p) None (v.at p)) ≡ cond (bytes_eq q p) None (artifact_in (v.at p))
  stored-gone v q p = by (bytes_eq q p)
    where
      by : (b : Bool) → artifact_in (cond b None (v.at p)) ≡ cond b None (artifact_in (v.at p))
      by true = refl
      by false = refl

  pub stored_keeps : (limit rows : ℕ) → Keeps (stored limit rows)
  stored_keeps limit rows = record { back = λ v q a p w _. stored_back v q a p w; gone = stored-gone }
