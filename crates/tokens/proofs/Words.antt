-- The words of a source.
use Rattle.std.proofs.Common.{◌≡◌, ℕ, ◌-◌, ◌≤◌, Bool, true, false, cond, ◌&&◌, eqb, leb, List, [], ◌∷◌, length, get_or, drop, Some, None, Option, Ok, Err, Result, MatchResult, sym, refl, ap, ◌∙◌, arith}
use Rattle.std.proofs.lemmas.Bool.{both_ways}
use Rattle.std.specs.Result.{result_ok}
use Rattle.names.specs.declared.refusal.Refusal.{Refusal}
use Rattle.names.specs.Refusals.{number}
use Rattle.names.specs.declared.name.Name.{Name}
use Rattle.names.specs.Spelling.{padded_name, written_name, padded}
use Rattle.names.proofs.Same.{same_name}
use Rattle.tokens.specs.Forms.{with_bytes, name_of, as_word, worded}

with_bytes_is : (bytes : List ℕ) (t : Bool) (e : padded_name bytes ≡ t) (n : Name) → n.bytes ≡ bytes → Some n ≡ with_bytes bytes t e
with_bytes_is bytes true e n h = ap Some (same_name n (record { bytes = bytes; valid = e }) h)
with_bytes_is bytes false e n h = absurd (both_ways (padded_name bytes) e (sym (ap padded_name h) ∙ n.valid))

pub name_is : (text : List ℕ) (n : Name) → n.bytes ≡ padded text → written_name text ≡ true → Some n ≡ name_of text
name_is text n h w =
    with_bytes_is (padded text) (padded_name (padded text)) refl n h
    ∙ sym (ap (λ b. cond b (with_bytes (padded text) (padded_name (padded text)) refl) None) w)

pub name_none : (text : List ℕ) → written_name text ≡ false → None ≡ name_of text
name_none text w = sym (ap (λ b. cond b (with_bytes (padded text) (padded_name (padded text)) refl) None) w)

pub name_read : (text : List ℕ) (r : Result Name Refusal) → MatchResult r (λ n. (n.bytes ≡ padded text) × (written_name text ≡ true)) (λ e. (number e ≡ 11) × (written_name text ≡ false)) → result_ok r ≡ name_of text
name_read text (Ok n) h = name_is text n h.0 h.1
name_read text (Err e) h = name_none text h.1

-- an import word by its first two bytes
pub worded_is : (text : List ℕ) (o : Option Name) → 2 ≤ length text → o ≡ name_of (drop 2 text)
    → cond (eqb (get_or text 1 0) 58 && (leb 49 (get_or text 0 0) && leb (get_or text 0 0) 52)) (as_word (get_or text 0 0 - 48) o) None ≡ worded text
worded_is [] o h e = absurd (omega arith)
worded_is (d ∷ []) o h e = absurd (omega arith)
worded_is (d ∷ (c ∷ text)) o h e = ap (λ p. cond (eqb c 58 && (leb 49 d && leb d 52)) (as_word (d - 48) p) None) e
