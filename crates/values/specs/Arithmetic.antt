-- Signed arithmetic of 32 bits: a result outside them, and a quotient by zero, come to nothing.
use Rattle.std.specs.Prelude.{Bool, true, false, cond, ℤ, pos, negsuc, ◌+ℤ◌, ◌-ℤ◌, ◌*ℤ◌, Some, None, Option, int_div, int_lt, nat_lt}
use Rattle.std.specs.Ordering.{int_eq}
use Rattle.tokens.specs.declared.token.Operator.{Operator}
use Rattle.tokens.specs.declared.token.Operator.TheVariants.{Add, Subtract, Multiply, Divide, Less, Equal}

-- from -2147483648 to 2147483647
abbrev pub small : ℤ → Bool
small (pos n) = nat_lt n 2147483648
small (negsuc n) = nat_lt n 2147483648

abbrev pub ranged : ℤ → Option ℤ
ranged z = cond (small z) (Some z) None

-- 1 for yes, 0 for no
abbrev pub truth : Bool → ℤ
truth true = pos 1
truth false = pos 0

-- what an operator gives; a quotient is rounded toward zero
abbrev pub operated : Operator → ℤ → ℤ → Option ℤ
operated Add a b = ranged (a +ℤ b)
operated Subtract a b = ranged (a -ℤ b)
operated Multiply a b = ranged (a *ℤ b)
operated Divide a b = cond (int_eq b (pos 0)) None (ranged (int_div a b))
operated Less a b = Some (truth (int_lt a b))
operated Equal a b = Some (truth (int_eq a b))
