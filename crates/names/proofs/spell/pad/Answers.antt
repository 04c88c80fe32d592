use Rattle.std.proofs.Common.{◌≡◌, ℕ, ◌-◌, List, ◌++◌, length, drop, replicate, ap, ◌∙◌}
use native.Mathlib.Nat.{sub-zero}
use Rattle.std.proofs.lemmas.List.{drop-replicate}
use Rattle.names.proofs.Spelled.{padded_is_name}
use Rattle.names.specs.Spelling.{padded_name, padded}
use Rattle.names.proofs.spell.pad.Goals as goal

-- eight zero bytes after the text was written over their front
written : (ys text : List ℕ) → ys ≡ text → ys ++ drop (length text - 0) (replicate 8 0) ≡ padded text
written ys text e =
    ap (λ zs. zs ++ drop (length text - 0) (replicate 8 0)) e
    ∙ ap (λ n. text ++ drop n (replicate 8 0)) (sub-zero (length text))
    ∙ ap (λ zs. text ++ zs) (drop-replicate (length text) 8 0)

pub invariant_of-result : goal.invariant_of-result
invariant_of-result c =
    let text = c.args.text.now in
    record { valid = ap padded_name (written c.copy_from_slice.new.self text c.copy_from_slice.ensures.after) ∙ padded_is_name text c.requires }

pub returns : goal.returns
returns c = written c.copy_from_slice.new.self c.args.text.now c.copy_from_slice.ensures.after
