-- The forms of words.
use Rattle.std.specs.Prelude.{◌≡◌, ℕ, ◌+◌, ◌-◌, ◌*◌, Bool, true, false, cond, ◌&&◌, List, [], ◌∷◌, length, pos, neg_ℤ, Some, None, Option, ◌==◌, nat_le, refl}
use Rattle.std.specs.Option.{unwrap_or}
use Rattle.names.specs.declared.name.Name.{Name}
use Rattle.names.specs.Spelling.{digit, padded_name, written_name, padded}
use Rattle.tokens.specs.declared.token.Operator.TheVariants.{Add, Subtract, Multiply, Divide, Less, Equal}
use Rattle.tokens.specs.declared.token.Token.{Token}
use Rattle.tokens.specs.declared.token.Token.TheVariants.{Operator as Sign, Name as Named, Word, Number, NoForm}

-- + - * / < =
abbrev pub sign : ℕ → Option Token
sign b =
    cond (b == 43) (Some (Sign Add)) (cond (b == 45) (Some (Sign Subtract)) (cond (b == 42) (Some (Sign Multiply))
    (cond (b == 47) (Some (Sign Divide)) (cond (b == 60) (Some (Sign Less)) (cond (b == 61) (Some (Sign Equal)) None)))))

-- an operator stands alone
abbrev pub operator : List ℕ → Option Token
operator [] = None
operator (b ∷ []) = sign b
operator (b ∷ (c ∷ bs)) = None

-- the name with these eight bytes, if they are the bytes of a name
abbrev pub with_bytes : (bytes : List ℕ) (t : Bool) → padded_name bytes ≡ t → Option Name
with_bytes bytes true e = Some (record { bytes = bytes; valid = e })
with_bytes bytes false e = None

-- the name that a text writes
abbrev pub name_of : List ℕ → Option Name
name_of text = cond (written_name text) (with_bytes (padded text) (padded_name (padded text)) refl) None

-- a name as a token
abbrev pub as_name : Option Name → Option Token
as_name None = None
as_name (Some n) = Some (Named n)

abbrev pub named : List ℕ → Option Token
named text = as_name (name_of text)

-- an import word as a token
abbrev pub as_word : ℕ → Option Name → Option Token
as_word p None = None
as_word p (Some n) = Some (Word p n)

-- a digit from 1 to 4, a colon, a name
abbrev pub worded : List ℕ → Option Token
worded [] = None
worded (d ∷ []) = None
worded (d ∷ (c ∷ text)) = cond (c == 58 && (nat_le 49 d && nat_le d 52)) (as_word (d - 48) (name_of text)) None

-- the number that digits write behind the number n
abbrev pub decimal : ℕ → List ℕ → Option ℕ
decimal n [] = Some n
decimal n (d ∷ ds) = cond (digit d) (decimal (n * 10 + (d - 48)) ds) None

-- one to ten digits
abbrev pub magnitude : List ℕ → Option ℕ
magnitude ds = cond (nat_le 1 (length ds) && nat_le (length ds) 10) (decimal 0 ds) None

-- a number within signed 32 bits
abbrev pub upward : Option ℕ → Option Token
upward None = None
upward (Some n) = cond (nat_le n 2147483647) (Some (Number (pos n))) None

abbrev pub downward : Option ℕ → Option Token
downward None = None
downward (Some n) = cond (nat_le n 2147483648) (Some (Number (neg_ℤ (pos n)))) None

-- perhaps a minus, then the digits
abbrev pub literal : List ℕ → Option Token
literal [] = None
literal (b ∷ bs) = cond (b == 45) (downward (magnitude bs)) (upward (magnitude (b ∷ bs)))

-- the token that a word is
abbrev pub form : List ℕ → Token
form text = unwrap_or (operator text) (unwrap_or (named text) (unwrap_or (worded text) (unwrap_or (literal text) NoForm)))
