use Rattle.std.proofs.Common.{◌≡◌, ℕ, ◌-◌, ◌≤◌, cond, ◌&&◌, List, length, get_or, take, drop, Some, None, sym, ap, ◌∙◌, arith}
use Rattle.std.proofs.lemmas.List.{take_rest}
use Rattle.std.proofs.lemmas.Bool.{eq-eqb, le-leb}
use Rattle.names.specs.declared.name.Name.{Name}
use Rattle.tokens.specs.Forms.{name_of, as_word, worded}
use Rattle.tokens.proofs.Words.{worded_is}
use Rattle.tokens.proofs.form.import_word.Goals as goal

passed : (text : List ℕ) (n : Name) → 2 ≤ length text → get_or text 1 0 ≡ 58 → 49 ≤ get_or text 0 0 → get_or text 0 0 ≤ 52
    → Some n ≡ name_of (take (length text - 2) (drop 2 text)) → as_word (get_or text 0 0 - 48) (Some n) ≡ worded text
passed text n h a b c e =
    sym (λ i. cond (eq-eqb (get_or text 1 0) 58 a i && (le-leb 49 (get_or text 0 0) b i && le-leb (get_or text 0 0) 52 c i)) (as_word (get_or text 0 0 - 48) (Some n)) None)
    ∙ worded_is text (Some n) h (e ∙ ap name_of (take_rest text 2))

pub returns-in_ok-name-in-49-to-52 : goal.returns-in_ok-name-in-49-to-52
returns-in_ok-name-in-49-to-52 c =
    passed c.args.text.now c.in_ok-name-in-49-to-52.name (omega arith) (omega arith) (omega arith) (omega arith) (sym c.in_ok-name-in-49-to-52.was ∙ c.name_of.ensures)
