use Rattle.std.proofs.Common.{◌≡◌, Bool, true, false, cond, List, ℕ, Some, None, Option, take, drop, length, refl, ap, ◌∙◌, nat_le}
use Rattle.names.specs.declared.name.Name.{Name}
use Rattle.codec.specs.Format.{left, name}
use Rattle.codec.proofs.Named.{name_of_yes}
use Rattle.codec.proofs.Laws.{some_first, some_rest}
use Rattle.codec.proofs.elements.NameField.read.Goals as goal

-- what stands in the first eight bytes
named : (t : Bool) (bs cs ds : List ℕ) (n : Name) → ◌≡◌ {A = Option (List ℕ × List ℕ)} (Some (cs, ds)) (cond t (Some (take 8 bs, drop 8 bs)) None) → n.bytes ≡ cs → ◌≡◌ {A = Option (Name × List ℕ)} (Some (n, ds)) (name.get bs)
named true bs cs ds n e f =
    ap (λ xs. Some (n, xs)) (some_rest cs (take 8 bs) ds (drop 8 bs) e) ∙ name_of_yes (take 8 bs) _ refl (drop 8 bs) n (f ∙ some_first cs (take 8 bs) ds (drop 8 bs) e)
named false bs cs ds n e f = cc

pub returns : goal.returns
returns c =
    named (nat_le 8 (length (left c.args.input.now))) (left c.args.input.now) c.in_ok-bytes.field-0 (left c.bytes.new.self) c.in_ok-name.name c.in_ok-bytes.ensures c.in_ok-name.ensures
