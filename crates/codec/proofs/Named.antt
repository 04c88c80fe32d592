-- The reading of a name.
use Rattle.std.proofs.Common.{◌≡◌, ℕ, Bool, true, false, List, Some, None, sym, refl, ap, ◌∙◌}
use Rattle.std.proofs.lemmas.Bool.{true≢false}
use Rattle.names.specs.Spelling.{padded_name}
use Rattle.names.specs.declared.name.Name.{Name}
use Rattle.names.proofs.Same.{same_name}
use Rattle.codec.specs.Format.{name_of}

pub name_of_yes : (bs : List ℕ) (t : Bool) (e : padded_name bs ≡ t) (rest : List ℕ) (n : Name) → n.bytes ≡ bs → Some (n, rest) ≡ name_of bs t e rest
name_of_yes bs true e rest n h = ap (λ m. Some (m, rest)) (same_name n (record { bytes = bs; valid = e }) h)
name_of_yes bs false e rest n h = absurd (true≢false (sym n.valid ∙ ap padded_name h ∙ e))

pub name_of_no : (bs : List ℕ) (t : Bool) (e : padded_name bs ≡ t) (rest : List ℕ) → padded_name bs ≡ false → None ≡ name_of bs t e rest
name_of_no bs true e rest h = absurd (true≢false (sym e ∙ h))
name_of_no bs false e rest h = refl
