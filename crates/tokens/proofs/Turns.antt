-- The line reader's turns.
use Rattle.std.proofs.Common.{◌≡◌, ℕ, ◌+◌, ◌<◌, ◌≤◌, Bool, true, false, cond, ◌||◌, eqb, List, [], ◌∷◌, ◌++◌, length, get_or, drop, Some, None, Option, sym, ap, ◌∙◌, subst, arith, lit≤}
use Rattle.std.specs.Option.{option_to_list}
use Rattle.std.proofs.lemmas.List.{append-nil, append_assoc, length-append, at_drop_more, at_drop_all}
use Rattle.tokens.specs.declared.token.Token.{Token}
use Rattle.tokens.specs.declared.token.Token.TheVariants.{Open, Close, LineEnd}
use Rattle.tokens.specs.declared.state.State.{State}
use Rattle.tokens.specs.declared.state.State.TheVariants.{Between, Inside, Comment}
use Rattle.tokens.specs.Stream.{parting, next, ended, alone, word, given, reading, stream, Begun}

-- a word that is being read
abbrev pending : State → ℕ
pending Between = 0
pending (Inside start) = 1
pending Comment = 0

abbrev own : Bool → Bool → Bool → List Token
own b d e = option_to_list (cond b (Some LineEnd) (cond d (Some Open) (cond e (Some Close) None)))

own_short : (b d e : Bool) → length (own b d e) ≤ 1
own_short true d e = lit≤ tt
own_short false true e = lit≤ tt
own_short false false true = lit≤ tt
own_short false false false = lit≤ tt

between_short : (i : ℕ) (a b c d e : Bool) → length (own b d e) + pending (cond a Comment (cond (b || (c || (d || e))) Between (Inside i))) ≤ 1
between_short i true b c d e = let h = own_short b d e in omega arith
between_short i false true c d e = lit≤ tt
between_short i false false true d e = let h = own_short false d e in omega arith
between_short i false false false true e = lit≤ tt
between_short i false false false false true = lit≤ tt
between_short i false false false false false = lit≤ tt

inside_short : (src : List ℕ) (s i : ℕ) (a b c d e : Bool)
    → length (word src i (cond (a || (b || (c || (d || e)))) (Some s) None) ++ own b d e) + pending (cond a Comment (cond (b || (c || (d || e))) Between (Inside s))) ≤ 2
inside_short src s i true b c d e = let h = own_short b d e in omega arith
inside_short src s i false true c d e = lit≤ tt
inside_short src s i false false true d e = let h = own_short false d e in omega arith
inside_short src s i false false false true e = lit≤ tt
inside_short src s i false false false false true = lit≤ tt
inside_short src s i false false false false false = lit≤ tt

comment_short : (b : Bool) → length (option_to_list (cond b (Some LineEnd) None)) + pending (cond b Between Comment) ≤ 1
comment_short true = lit≤ tt
comment_short false = lit≤ tt

given_short : (src : List ℕ) (s : State) (i b : ℕ) → length (given src s i b) + pending (next s i b) ≤ 1 + pending s
given_short src Between i b = between_short i (eqb b 59) (eqb b 10) (eqb b 32) (eqb b 40) (eqb b 41)
given_short src (Inside s) i b = inside_short src s i (eqb b 59) (eqb b 10) (eqb b 32) (eqb b 40) (eqb b 41)
given_short src Comment i b = comment_short (eqb b 10)

end_short : (src : List ℕ) (s : State) (i : ℕ) → length (given src s i 10) ≤ 1 + pending s
end_short src Between i = lit≤ tt
end_short src (Inside s) i = lit≤ tt
end_short src Comment i = lit≤ tt

reading_short : (src : List ℕ) (s : State) (i : ℕ) (bs : List ℕ) → length (reading src s i bs) ≤ length bs + (1 + pending s)
reading_short src s i [] = let h = end_short src s i in omega arith
reading_short src s i (b ∷ bs) =
    let h = given_short src s i b in
    let k = reading_short src (next s i b) (i + 1) bs in
    let e = length-append (given src s i b) (reading src (next s i b) (i + 1) bs) in
    omega arith

-- a source of n bytes has at most n tokens, and one line's end more
pub stream_short : (src : List ℕ) → length (stream src) ≤ length src + 1
stream_short src = let h = reading_short src Between 0 src in omega arith

-- the turn at place i: what the reader answered, and the tokens before and after
module _ (src : List ℕ) (i b : ℕ) (s : State) (e : Option ℕ) (o : Option Token) (h : List Token) (small : length src ≤ 512)
    (ends : e ≡ ended s b) (brings : o ≡ alone s b) where
  came : word src i e ++ option_to_list o ≡ given src s i b
  came = λ k. word src i (ends k) ++ option_to_list (brings k)

  room : (rest : List Token) → h ++ (given src s i b ++ rest) ≡ stream src → (length h + length (word src i e) ≤ 513) × (length (h ++ word src i e) + length (option_to_list o) ≤ 513)
  room rest inv =
      let long : length (h ++ ((word src i e ++ option_to_list o) ++ rest)) ≡ length (stream src) = ap (λ g. length (h ++ (g ++ rest))) came ∙ ap length inv in
      let sums : length h + (length (word src i e) + length (option_to_list o) + length rest) ≡ length (stream src) = simp length-append at long in
      let few = stream_short src in
      (omega arith, simp length-append (omega arith))

  pub word_room : (rest : List Token) → h ++ (given src s i b ++ rest) ≡ stream src → length h + length (word src i e) ≤ 513
  word_room rest inv = (room rest inv).0

  pub own_room : (rest h₁ : List Token) → h ++ (given src s i b ++ rest) ≡ stream src → h₁ ≡ h ++ word src i e → length h₁ + length (option_to_list o) ≤ 513
  own_room rest h₁ inv e₁ = subst (λ l. length l + length (option_to_list o) ≤ 513) (sym e₁) (room rest inv).1

  pub joined : (rest h₁ h₂ : List Token) → h ++ (given src s i b ++ rest) ≡ stream src → h₁ ≡ h ++ word src i e → h₂ ≡ h₁ ++ option_to_list o → h₂ ++ rest ≡ stream src
  joined rest h₁ h₂ inv e₁ e₂ =
      ap (λ l. l ++ rest) (e₂ ∙ ap (λ l. l ++ option_to_list o) e₁)
      ∙ simp append_assoc (ap (λ g. h ++ g) (sym (append_assoc (word src i e) (option_to_list o) rest) ∙ ap (λ g. g ++ rest) came) ∙ inv)

pub turn_is : (src : List ℕ) (s : State) (i : ℕ) (h : List Token) → i < length src → h ++ reading src s i (drop i src) ≡ stream src
    → h ++ (given src s i (get_or src i 0) ++ reading src (next s i (get_or src i 0)) (i + 1) (drop (i + 1) src)) ≡ stream src
turn_is src s i h l inv = ap (λ g. h ++ g) (sym (at_drop_more (reading src s i) src i 0 l)) ∙ inv

pub end_is : (src : List ℕ) (s : State) (i : ℕ) (h : List Token) → length src ≤ i → i ≤ length src → h ++ reading src s i (drop i src) ≡ stream src → h ++ (given src s (length src) 10 ++ []) ≡ stream src
end_is src s i h l k inv =
    let e : length src ≡ i = omega arith in
    ap (λ g. h ++ g) (append-nil (given src s (length src) 10) ∙ ap (λ n. given src s n 10) e ∙ sym (at_drop_all (reading src s i) src i l)) ∙ inv

begun_cond : (i : ℕ) (a b : Bool) (s t u : State) → Begun i s → Begun i t → Begun i u → Begun i (cond a s (cond b t u))
begun_cond i true b s t u p q r = p
begun_cond i false true s t u p q r = q
begun_cond i false false s t u p q r = r

begun-one : (i : ℕ) (a : Bool) (s t : State) → Begun i s → Begun i t → Begun i (cond a s t)
begun-one i true s t p q = p
begun-one i false s t p q = q

pub begun-next : (s : State) (i b : ℕ) → Begun i s → Begun (i + 1) (next s i b)
begun-next Between i b h = begun_cond (i + 1) (eqb b 59) (parting b) Comment Between (Inside i) tt tt (omega arith)
begun-next (Inside s) i b h = begun_cond (i + 1) (eqb b 59) (parting b) Comment Between (Inside s) tt tt (omega arith)
begun-next Comment i b h = begun-one (i + 1) (eqb b 10) Between Comment tt tt
