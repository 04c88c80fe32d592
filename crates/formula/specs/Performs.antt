-- What holds of a state, and what every part of an expression keeps, the whole keeps.
use Rattle.std.specs.Prelude.{ℕ, zero, suc, List, [], ◌∷◌, ℤ, Some, None, Ok, Err, Option, Result}
use Rattle.names.specs.declared.name.Name.{Name}
use Rattle.names.specs.declared.refusal.Fault.{Fault}
use Rattle.tokens.specs.declared.token.Operator.{Operator}
use Rattle.tokens.specs.declared.token.Token.{Token}
use Rattle.tokens.specs.declared.token.Token.TheVariants.{Open, Close, Operator as Sign, Name as Named, Word, Number, NoForm, LineEnd}
use Rattle.grammar.specs.Expression.{Meaning, past, leaving, one, two, headed, within, begun, level, expression}
use Rattle.grammar.specs.Walk.{onward}
use Rattle.emission.specs.Wrote.{then}

abbrev pub Holds : {S : Type 0} → (S → Type 0) → Option S → Type 0
Holds P None = Unit {0}
Holds P (Some s) = P s

abbrev pub GoesWell : {S : Type 0} → (S → Type 0) → Result S Fault → Type 0
GoesWell P (Ok s) = P s
GoesWell P (Err f) = Unit {0}

pub then-holds : {S T : Type 0} (P : S → Type 0) (R : T → Type 0) (o : Option S) (k : S → Option T) → Holds P o → ((s : S) → P s → Holds R (k s)) → Holds R (then o k)
then-holds P R None k h g = tt
then-holds P R (Some s) k h g = g s h

pub onward-holds : {S T : Type 0} (P : S → Type 0) (R : T → Type 0) (o : Result S Fault) (k : S → Result T Fault) → GoesWell P o → ((s : S) → P s → GoesWell R (k s)) → GoesWell R (onward o k)
onward-holds P R (Ok s) k h g = g s h
onward-holds P R (Err f) k h g = tt

-- of the state that is left
abbrev pub OfState : {S A : Type 0} → (S → Type 0) → Option (A × S) → Type 0
OfState P o = Holds (λ r. P r.1) o

-- of the state that is left before some tokens
abbrev pub Left : {S A : Type 0} → (S → Type 0) → Option (A × S × List Token) → Type 0
Left P o = Holds (λ r. P r.1) o

module _ {S A : Type 0} (m : Meaning S A) (P : S → Type 0)
    (number : (v : ℤ) (s : S) → P s → OfState P (m.number v s)) (named : (n : Name) (s : S) → P s → OfState P (m.named n s)) (word : (p : ℕ) (n : Name) (s : S) → P s → OfState P (m.word p n s))
    (operation : (o : Operator) (a b : A) (s : S) → P s → OfState P (m.operation o a b s)) (call : (n : Name) (a : A) (s : S) → P s → OfState P (m.call n a s))
    (call_word : (p : ℕ) (n : Name) (a : A) (s : S) → P s → OfState P (m.call_word p n a s)) where
  leaves : (o : Option (A × S)) (ts : Option (List Token)) → OfState P o → Left P (leaving m o ts)
  leaves None ts h = tt
  leaves (Some p) None h = tt
  leaves (Some p) (Some ts) h = h

  one_so : (f : A → S → Option (A × S)) → ((a : A) (s : S) → P s → OfState P (f a s)) → (x : Option (A × S × List Token)) → Left P x → Left P (one m f x)
  one_so f g None h = tt
  one_so f g (Some p) h = leaves (f p.0 p.1) (past p.2) (g p.0 p.1 h)

  module _ (inner : S → List Token → Option (A × S × List Token)) (deep : (s : S) (ts : List Token) → P s → Left P (inner s ts)) where
    two_so : (f : A → A → S → Option (A × S)) → ((a b : A) (s : S) → P s → OfState P (f a b s)) → (x : Option (A × S × List Token)) → Left P x → Left P (two m inner f x)
    two_so f g None h = tt
    two_so f g (Some p) h = one_so (f p.0) (g p.0) (inner p.1 p.2) (deep p.1 p.2 h)

    headed_so : (s : S) (t : Token) (ts : List Token) → P s → Left P (headed m inner s t ts)
    headed_so s Open ts h = tt
    headed_so s Close ts h = tt
    headed_so s (Sign o) ts h = two_so (m.operation o) (operation o) (inner s ts) (deep s ts h)
    headed_so s (Named n) ts h = one_so (m.call n) (call n) (inner s ts) (deep s ts h)
    headed_so s (Word p n) ts h = one_so (m.call_word p n) (call_word p n) (inner s ts) (deep s ts h)
    headed_so s (Number v) ts h = tt
    headed_so s NoForm ts h = tt
    headed_so s LineEnd ts h = tt

    within_so : (s : S) (ts : List Token) → P s → Left P (within m inner s ts)
    within_so s [] h = tt
    within_so s (t ∷ ts) h = headed_so s t ts h

    begun_so : (s : S) (t : Token) (ts : List Token) → P s → Left P (begun m inner s t ts)
    begun_so s Open ts h = within_so s ts h
    begun_so s Close ts h = tt
    begun_so s (Sign o) ts h = tt
    begun_so s (Named n) ts h = leaves (m.named n s) (Some ts) (named n s h)
    begun_so s (Word p n) ts h = leaves (m.word p n s) (Some ts) (word p n s h)
    begun_so s (Number v) ts h = leaves (m.number v s) (Some ts) (number v s h)
    begun_so s NoForm ts h = tt
    begun_so s LineEnd ts h = tt

    level_so : (s : S) (ts : List Token) → P s → Left P (level m inner s ts)
    level_so s [] h = tt
    level_so s (t ∷ ts) h = begun_so s t ts h

  pub expression_so : (levels : ℕ) (s : S) (ts : List Token) → P s → Left P (expression m levels s ts)
  expression_so zero s ts h = tt
  expression_so (suc levels) s ts h = level_so (expression m levels) (expression_so levels) s ts h
