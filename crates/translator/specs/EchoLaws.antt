-- The laws of a translator, for echo.
use Rattle.std.specs.Prelude.{◌≡◌, ℕ, ◌<◌, ◌≤◌, Bool, true, false, ◌&&◌, cond, List, [], ◌∷◌, ◌++◌, length, take, refl}
use Rattle.std.proofs.Common.{subst, arith, lit<, lit≤, leb}
use Rattle.std.specs.List.{AllByRecursion}
use Rattle.std.proofs.ByRecursion.{All-push, All-take}
use Rattle.std.proofs.lemmas.List.{length-append, length-take}
use Rattle.product.specs.declared.row.Row.{Row}
use Rattle.product.specs.Parts.{Outcome, made, faulted, Within}
use Rattle.translator.specs.Owed.{admitted, Alike, Agree, Held, Kept}
use Rattle.translator.specs.Echoed.{echo, echoed, any}

lengths : (a b : List (List Row)) → Alike any a b → length a ≡ length b
lengths [] [] h = refl
lengths [] (y ∷ b) h = absurd h
lengths (x ∷ a) [] h = absurd h
lengths (x ∷ a) (y ∷ b) h = let e = lengths a b h.1 in omega arith

agree_itself : (o : Outcome) → Agree any o o
agree_itself (made p) = (refl, (refl, (refl, refl)))
agree_itself (faulted f) = refl

pub echo_agrees : (source : List ℕ) (a b : List (List Row)) → Alike any a b → Agree any (echo source a) (echo source b)
echo_agrees source a b h =
    subst (λ n. Agree any (echo source a) (cond (leb (length source) 512 && leb n 4) (made (echoed source)) (faulted (record { code = 9; line = 0 })))) (lengths a b h) (agree_itself (echo source a))

-- at most nine code bytes, the entry among them
echo-within : (source : List ℕ) (n : ℕ) → AllByRecursion (λ b. b < 256) source → Within n (echoed source)
echo-within source n bytes =
    let long : length (take 8 source ++ 63 ∷ []) ≤ 9 = simp (length-append, length-take) (omega arith) in
    let some : 0 < length (take 8 source ++ 63 ∷ []) = simp (length-append, length-take) (omega arith) in
    record {
      interface = (lit≤ tt, ((lit< tt, (record { sfits = lit< tt }, lit< tt)), tt));
      few_code = omega arith;
      code = All-push (λ b. b < 256) (take 8 source) 63 (All-take (λ b. b < 256) 8 source bytes) (lit< tt);
      few_entries = lit≤ tt;
      entries = (some, tt);
      few_references = lit≤ tt;
      references = tt;
    }

kept_by : (source : List ℕ) (n : ℕ) (t : Bool) → AllByRecursion (λ b. b < 256) source → Kept n (cond t (made (echoed source)) (faulted (record { code = 9; line = 0 })))
kept_by source n true bytes = echo-within source n bytes
kept_by source n false bytes = tt

pub echo_bounded : (source : List ℕ) (imports : List (List Row)) → Held source imports → Kept (length imports) (echo source imports)
echo_bounded source imports h = kept_by source (length imports) (admitted source imports) h.0

-- to echo all interfaces are the same
pub any_itself : (a : List Row) → any a a ≡ true
any_itself a = refl

pub any_turned : (a b : List Row) → any a b ≡ true → any b a ≡ true
any_turned a b h = refl

pub any_chained : (a b c : List Row) → any a b ≡ true → any b c ≡ true → any a c ≡ true
any_chained a b c h k = refl
