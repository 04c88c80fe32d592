-- Records moved to the front, one after another.
use Rattle.std.proofs.Common.{◌≡◌, ℕ, ◌+◌, ◌-◌, ◌<◌, ◌≤◌, true, false, List, [], ◌∷◌, ◌++◌, length, take, drop, sym, refl, ap, ◌∙◌, append_assoc, arith, length-append, length-drop}
use lib.Seq.{paste}
use Rattle.std.specs.List.{between}
use Rattle.std.proofs.lemmas.Slice.{between_is}
use Rattle.std.proofs.lemmas.List.Edits.{length-paste, drop-paste, take-paste}
use Rattle.std.proofs.lemmas.List.{drop-drop, take_at, append-nil, length-take-le, take-take}
use Rattle.store.proofs.Pairs.{by_test}
use Rattle.area.specs.Layout.{header_size, live, size}
use Rattle.log_store.specs.Chain.{records, bytes_of, all_exact, lives}
use Rattle.log_store.proofs.Chained.{records_bytes, bytes_append, bytes_more, lives-append, size_front, live_front, Cursor, Here, here, all_read}

-- the slide as far as it has come: the live records ahead of `from` lie at the front, the bytes from `from` on are as they were
pub record Sliding (start : List ℕ) (end : ℕ) (xs : List ℕ) (from to : ℕ) : Type 0 where
  pub cursor : Cursor (records (take end start)) from
  pub to_is : to ≡ length (bytes_of (lives cursor.ahead))
  pub done : take to xs ≡ bytes_of (lives cursor.ahead)
  pub left : drop from xs ≡ drop from start
  pub long : length xs ≡ length start

pub lives_le : (ps : List (List ℕ)) → length (bytes_of (lives ps)) ≤ length (bytes_of ps)
lives_le [] = omega arith
lives_le (p ∷ ps) = let rest = lives_le ps in by_test (live p) (λ e. simp (e, length-append) (omega arith)) (λ e. simp (e, length-append) (omega arith))

pub slide_starts : (start : List ℕ) (end : ℕ) → Sliding start end start 0 0
slide_starts start end = record { cursor = record { ahead = []; behind = records (take end start); whole = refl; place = refl }; to_is = refl; done = refl; left = refl; long = refl }

drop_more_same : (xs ys : List ℕ) (a b : ℕ) → a ≤ b → drop a xs ≡ drop a ys → drop b xs ≡ drop b ys
drop_more_same xs ys a b h e =
    let n : a + (b - a) ≡ b = omega arith in
    ap (λ (k : ℕ). drop k xs) (sym n) ∙ sym (drop-drop (b - a) a xs) ∙ ap (drop (b - a)) e ∙ drop-drop (b - a) a ys ∙ ap (λ (k : ℕ). drop k ys) n

module _ (start : List ℕ) (end : ℕ) (xs : List ℕ) (from to : ℕ) (within : end ≤ length start) (good : all_exact (records (take end start)) ≡ true) (s : Sliding start end xs from to) (l : from < end) where
  abbrev now : Here (records (take end start)) s.cursor.ahead (drop from (take end start))
  now =
      here (take end start) (records (take end start)) from s.cursor (sym (records_bytes (take end start))) good
      (let n : length (take end start) ≡ end = length-take-le end start within in omega arith)

  abbrev rest : List ℕ
  rest = between from end xs

  rest_is : between from end xs ≡ now.piece ++ bytes_of now.behind
  rest_is = ap (take (end - from)) s.left ∙ between_is start from end ∙ now.front

  pub piece_long : header_size + size (between from end xs) ≡ length now.piece
  piece_long = ap (λ (x : List ℕ). header_size + size x) rest_is ∙ size_front now.piece (bytes_of now.behind) now.good

  piece_within : from + length now.piece ≤ end
  piece_within =
      let a : length (drop from (take end start)) ≡ length now.piece + length (bytes_of now.behind) = ap length now.front ∙ length-append now.piece (bytes_of now.behind) in
      let b : length (drop from (take end start)) ≡ length (take end start) - from = length-drop from (take end start) in
      let n : length (take end start) ≡ end = length-take-le end start within in
      omega arith

  -- where the next record begins, within the log
  pub step_within : from + (header_size + size (between from end xs)) ≤ end
  step_within = let a = piece_long in let b = piece_within in omega arith

  pub to_below : to ≤ from
  to_below = let a = s.to_is in let b = lives_le s.cursor.ahead in let c = s.cursor.place in omega arith

  piece_live : live (between from end xs) ≡ live now.piece
  piece_live = ap live rest_is ∙ live_front now.piece (bytes_of now.behind) now.good

  abbrev cursor' : Cursor (records (take end start)) (from + (header_size + size (between from end xs)))
  cursor' = record {
    ahead = s.cursor.ahead ++ now.piece ∷ [];
    behind = now.behind;
    whole = now.whole ∙ sym (append_assoc s.cursor.ahead (now.piece ∷ []) now.behind);
    place = (λ i. s.cursor.place i + piece_long i) ∙ sym (bytes_more s.cursor.ahead now.piece);
  }

  left' : drop (from + (header_size + size (between from end xs))) xs ≡ drop (from + (header_size + size (between from end xs))) start
  left' = drop_more_same xs start from (from + (header_size + size (between from end xs))) (omega arith) s.left

  pub next_dead : live (between from end xs) ≡ false → Sliding start end xs (from + (header_size + size (between from end xs))) to
  next_dead h =
      let d : live now.piece ≡ false = sym piece_live ∙ h in
      let same : lives (s.cursor.ahead ++ now.piece ∷ []) ≡ lives s.cursor.ahead = lives-append s.cursor.ahead (now.piece ∷ []) ∙ simp d (append-nil (lives s.cursor.ahead)) in
      record {
        cursor = cursor';
        to_is = s.to_is ∙ ap (λ (x : List (List ℕ)). length (bytes_of x)) (sym same);
        done = s.done ∙ ap bytes_of (sym same);
        left = left';
        long = s.long;
      }

  pub next-live : (ys : List ℕ) → live (between from end xs) ≡ true → ys ≡ paste xs to (drop from xs) (header_size + size (between from end xs)) → Sliding start end ys (from + (header_size + size (between from end xs))) (to + (header_size + size (between from end xs)))
  next-live ys h e =
      let k : ℕ = header_size + size (between from end xs) in
      let p : List ℕ = now.piece in
      let d : live p ≡ true = sym piece_live ∙ h in
      let kp : k ≡ length p = piece_long in
      let inside : from + k ≤ end = step_within in
      let below : to ≤ from = to_below in
      let same-long = s.long in
      let copied : k ≤ length (drop from xs) = simp length-drop (omega arith) in
      let at : to ≤ length xs = omega arith in
      let lived : lives (s.cursor.ahead ++ p ∷ []) ≡ lives s.cursor.ahead ++ p ∷ [] = lives-append s.cursor.ahead (p ∷ []) ∙ simp d in
      let bytes : bytes_of (lives (s.cursor.ahead ++ p ∷ [])) ≡ bytes_of (lives s.cursor.ahead) ++ p =
      ap bytes_of lived ∙ bytes_append (lives s.cursor.ahead) (p ∷ []) ∙ ap (λ (x : List ℕ). bytes_of (lives s.cursor.ahead) ++ x) (append-nil p) in
      let it : take k (drop from xs) ≡ p =
      sym (take-take k (end - from) (drop from xs) (omega arith)) ∙ ap (take k) rest_is ∙ take_at p (bytes_of now.behind) k (sym kp) in
      record {
        cursor = cursor';
        to_is = (λ i. s.to_is i + kp i) ∙ sym (length-append (bytes_of (lives s.cursor.ahead)) p) ∙ ap length (sym bytes);
        done = ap (take (to + k)) e ∙ take-paste xs to (drop from xs) k at copied ∙ (λ i. s.done i ++ it i) ∙ sym bytes;
        left = drop_more_same ys xs (to + k) (from + k) (omega arith) (ap (drop (to + k)) e ∙ drop-paste xs to (drop from xs) k at copied) ∙ left';
        long = ap length e ∙ length-paste xs to (drop from xs) k (omega arith) copied ∙ s.long;
      }

pub slide_ends : (start : List ℕ) (end : ℕ) (xs : List ℕ) (from to : ℕ) → end ≤ length start → all_exact (records (take end start)) ≡ true → Sliding start end xs from to → end ≤ from → (take to xs ≡ bytes_of (lives (records (take end start)))) × (to ≡ length (bytes_of (lives (records (take end start)))))
slide_ends start end xs from to within good s l =
    let n : length (take end start) ≡ end = length-take-le end start within in
    let all : records (take end start) ≡ s.cursor.ahead = all_read (take end start) (records (take end start)) from s.cursor (sym (records_bytes (take end start))) good (omega arith) in
    (s.done ∙ ap (λ (x : List (List ℕ)). bytes_of (lives x)) (sym all), s.to_is ∙ ap (λ (x : List (List ℕ)). length (bytes_of (lives x))) (sym all))
