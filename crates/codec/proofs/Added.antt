-- The bytes of elements, one behind the other.
use Rattle.std.proofs.Common.{◌≡◌, ℕ, ◌+◌, ◌<◌, ◌≤◌, List, [], ◌++◌, map, length, get_or, take, sym, ap, ◌∙◌, subst}
use Rattle.std.proofs.lemmas.List.{flat_map_more, take_more, take_all}
use Rattle.std.proofs.lemmas.List.Folds.{flat_map-map}
use Rattle.codec.specs.Format.{each}

-- the bytes of one element more
pub each_more : {X : Type 0} (put : X → List ℕ) (xs : List X) (i : ℕ) (d : X) → i < length xs → each put (take i xs) ++ put (get_or xs i d) ≡ each put (take (i + 1) xs)
each_more put xs i d h = flat_map_more put [] (take i xs) (get_or xs i d) ∙ ap (each put) (sym (take_more xs i d h))

pub each_map : {X Y : Type 0} (put : Y → List ℕ) (f : X → Y) (xs : List X) → each (λ x. put (f x)) xs ≡ each put (map f xs)
each_map put f xs = sym (flat_map-map put f xs)

-- elements that are put one a turn, into whatever takes pieces one behind the other as one
module _ {S X : Type 0} (Takes : S → List ℕ → S → Type 0) (put : X → List ℕ) (xs : List X) (s t : S) (i : ℕ) where
  pub puts_more : (u : S) (x : X) → ((a b : List ℕ) → Takes s a t → Takes t b u → Takes s (a ++ b) u) → i < length xs → x ≡ get_or xs i x →
      Takes s (each put (take i xs)) t → Takes t (put x) u → Takes s (each put (take (i + 1) xs)) u
  puts_more u x both h e f g =
      subst (λ bs. Takes s bs u) (ap (λ y. each put (take i xs) ++ put y) e ∙ each_more put xs i x h) (both (each put (take i xs)) (put x) f g)

  pub puts_all : length xs ≤ i → Takes s (each put (take i xs)) t → Takes s (each put xs) t
  puts_all h = subst (λ bs. Takes s bs t) (ap (each put) (take_all i xs h))
