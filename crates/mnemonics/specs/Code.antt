-- The bytes of instructions.
use Rattle.std.specs.Prelude.{ℕ, cond, List, Some, None, Option, ◌==◌}
use Rattle.codec.specs.Format.{next, byte, value}
use Rattle.mnemonics.specs.declared.instruction.Instruction.{Instruction}
use Rattle.mnemonics.specs.declared.instruction.Instruction.TheVariants.{Push, Argument, Add, Subtract, Multiply, Divide, Less, Equal, Call, Return}

-- what stands behind an operation's byte
abbrev pub operation : ℕ → List ℕ → Option (Instruction × List ℕ)
operation op bs =
    cond (op == 1) (next (value.get bs) (λ v cs. Some (Push v, cs)))
    (cond (op == 2) (Some (Argument, bs))
    (cond (op == 16) (Some (Add, bs))
    (cond (op == 17) (Some (Subtract, bs))
    (cond (op == 18) (Some (Multiply, bs))
    (cond (op == 19) (Some (Divide, bs))
    (cond (op == 20) (Some (Less, bs))
    (cond (op == 21) (Some (Equal, bs))
    (cond (op == 48) (next (byte.get bs) (λ n cs. Some (Call n, cs)))
    (cond (op == 63) (Some (Return, bs)) None)))))))))

-- the instruction that bytes begin with
abbrev pub instruction : List ℕ → Option (Instruction × List ℕ)
instruction bs = next (byte.get bs) operation
