-- A translator as it is seen from above: a function and a sameness, with their laws.
use Rattle.std.specs.Prelude.{◌≡◌, ℕ, Bool, true, List, length}
use Rattle.product.specs.declared.row.Row.{Row}
use Rattle.product.specs.Parts.{Outcome}
use Rattle.translator.specs.Owed.{Alike, Agree, Kept, Held}

-- the product or fault of a source with the interfaces of its imports, and when two interfaces are the same
pub record Meaning : Type 0 where
  pub means : List ℕ → List (List Row) → Outcome
  pub same : List Row → List Row → Bool

abbrev pub meaning : (List ℕ → List (List Row) → Outcome) → (List Row → List Row → Bool) → Meaning
meaning f s = record { means = f; same = s }

-- what every translator shows of them
pub record Laws (m : Meaning) : Type 0 where
  pub itself : (a : List Row) → m.same a a ≡ true
  pub turned : (a b : List Row) → m.same a b ≡ true → m.same b a ≡ true
  pub chained : (a b c : List Row) → m.same a b ≡ true → m.same b c ≡ true → m.same a c ≡ true
  pub agrees : (source : List ℕ) (a b : List (List Row)) → Alike m.same a b → Agree m.same (m.means source a) (m.means source b)
  pub bounded : (source : List ℕ) (imports : List (List Row)) → Held source imports → Kept (length imports) (m.means source imports)
