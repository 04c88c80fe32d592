-- Products of formula sources keep the limits.
use Rattle.std.specs.Prelude.{◌≡◌, ℕ, suc, ◌+◌, ◌-◌, ◌/◌, ◌%◌, ◌<◌, ◌≤◌, Bool, true, false, cond, ◌&&◌, List, [], ◌∷◌, ◌++◌, length, ℤ, pos, negsuc, Some, None, Ok, Err, Option, Result, FitsSigned, ◌==◌, nat_le, nat_lt, slice_index_or, slice_range, slice_get, refl}
use Rattle.std.proofs.Common.{mod-lt, arith, lit<, lit≤, of_z}
use Rattle.std.specs.Int.{w32}
use Rattle.std.specs.Option.{option_map, unwrap_or}
use Rattle.std.specs.List.{AllByRecursion, find}
use Rattle.std.specs.Str.{bytes_eq}
use Rattle.std.proofs.ByRecursion.{All-append, All-push, All-weaker}
use Rattle.std.proofs.lemmas.List.{length-append}
use Rattle.std.proofs.lemmas.Bool.{leb-true, ltb-true, and_parts}
use Rattle.names.specs.declared.name.Name.{Name}
use Rattle.names.specs.declared.refusal.Fault.{Fault}
use Rattle.product.specs.declared.row.Row.{Row}
use Rattle.product.specs.declared.row.Reference.{Reference}
use Rattle.product.specs.Parts.{Parts, no_parts, first_row, SoundRow, WithinRows, SoundReference, Within}
use Rattle.translator.specs.Owed.{admitted, Kept}
use Rattle.order.specs.Dependency.{Outcome as Order, all as in_order, stuck, ordered}
use Rattle.tokens.specs.declared.token.Operator.{Operator}
use Rattle.tokens.specs.declared.token.Operator.TheVariants.{Add, Subtract, Multiply, Divide, Less, Equal}
use Rattle.tokens.specs.declared.token.Token.{Token}
use Rattle.tokens.specs.Stream.{stream}
use Rattle.tokens.proofs.Turns.{stream_short}
use Rattle.grammar.specs.declared.declaration.Declared.{Declared}
use Rattle.grammar.specs.declared.declaration.Declaration.{Declaration}
use Rattle.grammar.specs.declared.flaw.Flaw.{Flaw}
use Rattle.grammar.specs.Expression.{expression}
use Rattle.grammar.specs.Line.{said, x_word, is_function}
use Rattle.grammar.specs.Walk.{ends, noted, onward, walk, declarations, body}
use Rattle.scope.specs.Names.{misnamed, entry_of}
use Rattle.scope.specs.Uses.{as_function, Outside, outside, misused}
use Rattle.values.specs.declared.known.Known.{Known}
use Rattle.values.specs.Arithmetic.{small}
use Rattle.values.specs.Evaluation.{known, evaluating, result, learnt}
use Rattle.values.specs.Needed.{constants, lines, needs}
use Rattle.values.specs.Solved.{behind, valued, settled, solved}
use Rattle.emission.specs.Wrote.{done, then, adding, referring, entering, showing_row, four, opcode, pushing, calling}
use Rattle.emission.specs.Emitted.{own_call, word_call, writing, emitting, function_of, functions, row_of, rows_of}
use Rattle.formula.specs.Language.{formula, too_much, written, with_values, with_uses, with_names, with_lines}
use Rattle.formula.specs.Performs.{Holds, GoesWell, then-holds, onward-holds, OfState, Left, expression_so}
use Rattle.std.specs.Ordering.{nat_cmp}

-- within the limits, with entries up to the end of the code
record Sound (n : ℕ) (p : Parts) : Type 0 where
  interface : WithinRows p.interface
  few_code : length p.code ≤ 384
  code : AllByRecursion (λ b. b < 256) p.code
  few_entries : length p.entries ≤ 12
  entries : AllByRecursion (λ e. e ≤ length p.code) p.entries
  few_references : length p.references ≤ 32
  references : AllByRecursion (SoundReference n) p.references

either_way : {X : Type 0} (P : X → Type 0) (t : Bool) (x y : X) → P x → P y → P (cond t x y)
either_way P true x y p q = p
either_way P false x y p q = q

sound_within : (n : ℕ) (p : Parts) → Within n p → Sound n p
sound_within n p w =
    record {
      interface = w.interface;
      few_code = w.few_code;
      code = w.code;
      few_entries = w.few_entries;
      entries = All-weaker (λ e. e < length p.code) (λ e. e ≤ length p.code) (λ e h. omega arith) p.entries w.entries;
      few_references = w.few_references;
      references = w.references;
    }

module _ (n : ℕ) where
  by_adding : (bs : List ℕ) (p : Parts) → AllByRecursion (λ b. b < 256) bs → Sound n p → (t : Bool) → nat_le (length p.code + length bs) 384 ≡ t
      → Holds (Sound n) (done t (record { interface = p.interface; code = p.code ++ bs; entries = p.entries; references = p.references }))
  by_adding bs p b s true e =
      let l = leb-true (length p.code + length bs) 384 e in
      let long = length-append p.code bs in
      record {
        interface = s.interface;
        few_code = omega arith;
        code = All-append (λ x. x < 256) p.code bs s.code b;
        few_entries = s.few_entries;
        entries = All-weaker (λ x. x ≤ length p.code) (λ x. x ≤ length (p.code ++ bs)) (λ x h. omega arith) p.entries s.entries;
        few_references = s.few_references;
        references = s.references;
      }
  by_adding bs p b s false e = tt

  adds : (bs : List ℕ) (p : Parts) → AllByRecursion (λ b. b < 256) bs → Sound n p → Holds (Sound n) (adding bs p)
  adds bs p b s = by_adding bs p b s (nat_le (length p.code + length bs) 384) refl

  by_ending : (p : Parts) → Sound n p → (t : Bool) → nat_le (length p.code + 1) 384 ≡ t → Holds (Within n) (done t (record { interface = p.interface; code = p.code ++ 63 ∷ []; entries = p.entries; references = p.references }))
  by_ending p s true e =
      let l = leb-true (length p.code + 1) 384 e in
      let long = length-append p.code (63 ∷ []) in
      record {
        interface = s.interface;
        few_code = omega arith;
        code = All-push (λ x. x < 256) p.code 63 s.code (lit< tt);
        few_entries = s.few_entries;
        entries = All-weaker (λ x. x ≤ length p.code) (λ x. x < length (p.code ++ 63 ∷ [])) (λ x h. omega arith) p.entries s.entries;
        few_references = s.few_references;
        references = s.references;
      }
  by_ending p s false e = tt

  ending : (p : Parts) → Sound n p → Holds (Within n) (adding (63 ∷ []) p)
  ending p s = by_ending p s (nat_le (length p.code + 1) 384) refl

  by_referring : (r : Reference) (p : Parts) → SoundReference n r → Sound n p → (t : Bool) → nat_lt (length p.references) 32 ≡ t
      → Holds (Sound n) (done t (record { interface = p.interface; code = p.code; entries = p.entries; references = p.references ++ r ∷ [] }))
  by_referring r p g s true e =
      let l = ltb-true (length p.references) 32 e in
      let long = length-append p.references (r ∷ []) in
      record {
        interface = s.interface;
        few_code = s.few_code;
        code = s.code;
        few_entries = s.few_entries;
        entries = s.entries;
        few_references = omega arith;
        references = All-push (SoundReference n) p.references r s.references g;
      }
  by_referring r p g s false e = tt

  refers : (r : Reference) (p : Parts) → SoundReference n r → Sound n p → Holds (Sound n) (referring r p)
  refers r p g s = by_referring r p g s (nat_lt (length p.references) 32) refl

  by_entering : (p : Parts) → Sound n p → (t : Bool) → nat_lt (length p.entries) 12 ≡ t → Holds (Sound n) (done t (record { interface = p.interface; code = p.code; entries = p.entries ++ length p.code ∷ []; references = p.references }))
  by_entering p s true e =
      let l = ltb-true (length p.entries) 12 e in
      let long = length-append p.entries (length p.code ∷ []) in
      record {
        interface = s.interface;
        few_code = s.few_code;
        code = s.code;
        few_entries = omega arith;
        entries = All-push (λ x. x ≤ length p.code) p.entries (length p.code) s.entries (omega arith);
        few_references = s.few_references;
        references = s.references;
      }
  by_entering p s false e = tt

  enters : (p : Parts) → Sound n p → Holds (Sound n) (entering p)
  enters p s = by_entering p s (nat_lt (length p.entries) 12) refl

  by_showing : (r : Row) (p : Parts) → SoundRow r → Within n p → (t : Bool) → nat_lt (length p.interface) 12 ≡ t
      → Holds (Within n) (done t (record { interface = p.interface ++ r ∷ []; code = p.code; entries = p.entries; references = p.references }))
  by_showing r p g w true e =
      let l = ltb-true (length p.interface) 12 e in
      let long = length-append p.interface (r ∷ []) in
      record {
        interface = (omega arith, All-push SoundRow p.interface r w.interface.1 g);
        few_code = w.few_code;
        code = w.code;
        few_entries = w.few_entries;
        entries = w.entries;
        few_references = w.few_references;
        references = w.references;
      }
  by_showing r p g w false e = tt

  shows : (r : Row) (p : Parts) → SoundRow r → Within n p → Holds (Within n) (showing_row r p)
  shows r p g w = by_showing r p g w (nat_lt (length p.interface) 12) refl

  byte : (x : ℕ) → x % 256 < 256
  byte x = mod-lt x (lit< tt)

  pushes : (v : ℤ) (p : Parts) → Sound n p → Holds (Sound n) (pushing v p)
  pushes v p s = adds (1 ∷ four v) p (lit< tt, (byte (of_z w32 v / 16777216), (byte (of_z w32 v / 65536), (byte (of_z w32 v / 256), (byte (of_z w32 v), tt))))) s

  calls : (r : Reference) (p : Parts) → SoundReference n r → Sound n p → Holds (Sound n) (calling r p)
  calls r p g s =
      let few = s.few_references in
      then-holds (Sound n) (Sound n) (adding (48 ∷ length p.references ∷ []) p) (referring r) (adds (48 ∷ length p.references ∷ []) p (lit< tt, (omega arith, tt)) s) (λ q t. refers r q g t)

  op_byte : (o : Operator) → opcode o < 256
  op_byte Add = lit< tt
  op_byte Subtract = lit< tt
  op_byte Multiply = lit< tt
  op_byte Divide = lit< tt
  op_byte Less = lit< tt
  op_byte Equal = lit< tt

  by_own : (k : ℕ) (t : Bool) → nat_lt k 256 ≡ t → Holds (SoundReference n) (cond t (Some (record { position = 0; entry = k })) None)
  by_own k true e = (omega arith, ltb-true k 256 e)
  by_own k false e = tt

  own_sound : (o : Option ℕ) → Holds (SoundReference n) (own_call o)
  own_sound None = tt
  own_sound (Some k) = by_own k (nat_lt k 256) refl

-- references to imports stand within their number
by_function : (n p : ℕ) (r : Row) → p ≤ n → (t : Bool) → (r.kind == 2 && nat_le (of_z w32 r.value) 11) ≡ t → Holds (SoundReference n) (word_call p (cond t (Some (of_z w32 r.value)) None))
by_function n p r h true e = let k = leb-true (of_z w32 r.value) 11 (and_parts (r.kind == 2) (nat_le (of_z w32 r.value) 11) e).1 in (h, omega arith)
by_function n p r h false e = tt

by_row : (n p : ℕ) (x : Option Row) (t : Bool) → (nat_lt 0 p && nat_le p n) ≡ t → Holds (SoundReference n) (word_call p (as_function (cond t x None)))
by_row n p None true e = tt
by_row n p (Some r) true e = by_function n p r (leb-true p n (and_parts (nat_lt 0 p) (nat_le p n) e).1) (r.kind == 2 && nat_le (of_z w32 r.value) 11) refl
by_row n p x false e = tt

module _ (imports : List (List Row)) (own : List Declaration) (ks : List Known) where
  abbrev n : ℕ
  n = length imports

  abbrev o : Outside
  o = outside imports

  by_word : (k : Option ℤ) (p : Parts) → Sound n p → Holds (Sound n) (then k (λ v. pushing v p))
  by_word None p s = tt
  by_word (Some v) p s = pushes n v p s

  by_name : (m : Name) (p : Parts) → Sound n p → (t : Bool) → Holds (Sound n) (cond t (adding (2 ∷ []) p) (then (known m.bytes ks) (λ v. pushing v p)))
  by_name m p s true = adds n (2 ∷ []) p (lit< tt, tt) s
  by_name m p s false = by_word (known m.bytes ks) p s

  writes : (x : Option Parts) → Holds (Sound n) x → OfState (Sound n) (writing x)
  writes None h = tt
  writes (Some p) h = h

  expression_sound : (levels : ℕ) (p : Parts) (ts : List Token) → Sound n p → Left (Sound n) (expression (emitting own ks o) levels p ts)
  expression_sound =
      expression_so (emitting own ks o) (Sound n)
      (λ v q t. writes (pushing v q) (pushes n v q t))
      (λ m q t. writes (cond (bytes_eq m.bytes x_word) (adding (2 ∷ []) q) (then (known m.bytes ks) (λ v. pushing v q))) (by_name m q t (bytes_eq m.bytes x_word)))
      (λ i m q t. writes (then (o.constant i m.bytes) (λ v. pushing v q)) (by_word (o.constant i m.bytes) q t))
      (λ f _ _ q t. writes (adding (opcode f ∷ []) q) (adds n (opcode f ∷ []) q (op_byte n f, tt) t))
      (λ m _ q t. writes (then (own_call (entry_of m.bytes own)) (λ r. calling r q))
      (then-holds (SoundReference n) (Sound n) (own_call (entry_of m.bytes own)) (λ r. calling r q) (own_sound n (entry_of m.bytes own)) (λ r g. calls n r q g t)))
      (λ i m _ q t. writes (then (word_call i (o.function i m.bytes)) (λ r. calling r q))
      (then-holds (SoundReference n) (Sound n) (word_call i (o.function i m.bytes)) (λ r. calling r q) (by_row n i (first_row m.bytes (slice_index_or imports (i - 1) [])) (nat_lt 0 i && nat_le i n) refl) (λ r g. calls n r q g t)))

  function_within : (all : List Token) (d : Declaration) (p : Parts) → Within n p → Holds (Within n) (function_of own ks o all d p)
  function_within all d p w =
      then-holds (Sound n) (Within n) (entering p) (λ q. then (expression (emitting own ks o) 9 q (body all d)) (λ r. adding (63 ∷ []) r.1)) (enters n p (sound_within n p w))
      (λ q s. then-holds (λ r. Sound n r.1) (Within n) (expression (emitting own ks o) 9 q (body all d)) (λ r. adding (63 ∷ []) r.1) (expression_sound 9 q (body all d) s) (λ r t. ending n r.1 t))

  functions-within : (all : List Token) (ds : List Declaration) (p : Parts) → Within n p → Holds (Within n) (functions own ks o all p ds)
  functions-within all [] p w = w
  functions-within all (d ∷ ds) p w =
      either_way (Holds (Within n)) (is_function d.kind) (then (function_of own ks o all d p) (λ q. functions own ks o all q ds)) (functions own ks o all p ds)
      (then-holds (Within n) (Within n) (function_of own ks o all d p) (λ q. functions own ks o all q ds) (function_within all d p w) (λ q v. functions-within all ds q v))
      (functions-within all ds p w)

-- values of 32 bits
abbrev Fit : Known → Type 0
Fit k = FitsSigned w32 k.value

-- lines of 16 bits
abbrev Low : Declaration → Type 0
Low d = d.line < 65536

small_fits : (z : ℤ) → small z ≡ true → FitsSigned w32 z
small_fits (pos m) e = let h = ltb-true m 2147483648 e in record { sfits = omega arith }
small_fits (negsuc m) e = let h = ltb-true m 2147483648 e in record { sfits = omega arith }

zero_fits : FitsSigned w32 (pos 0)
zero_fits = record { sfits = lit< tt }

known_fits : (name : List ℕ) (ks : List Known) → AllByRecursion Fit ks → FitsSigned w32 (unwrap_or (known name ks) (pos 0))
known_fits name [] h = zero_fits
known_fits name (k ∷ ks) h =
    either_way (λ v. FitsSigned w32 (unwrap_or (option_map (λ (x : Known). x.value) v) (pos 0))) (bytes_eq k.name.bytes name) (Some k) (find (λ x. bytes_eq x.name.bytes name) ks) h.0 (known_fits name ks h.1)

module _ (n : ℕ) (ks : List Known) (fits : AllByRecursion Fit ks) where
  by_kind : (k : ℕ) (d : Declaration) → k < 1000 → Low d → (f : Bool)
      → SoundRow (cond f (record { name = d.name; kind = 2; value = pos k; line = d.line }) (record { name = d.name; kind = 1; value = unwrap_or (known d.name.bytes ks) (pos 0); line = d.line }))
  by_kind k d h l true = (lit< tt, (record { sfits = omega arith }, l))
  by_kind k d h l false = (lit< tt, (known_fits d.name.bytes ks fits, l))

  more : (k : ℕ) (f : Bool) (r : ℕ) → k + suc r ≤ 100 → cond f (k + 1) k + r ≤ 100
  more k true r h = omega arith
  more k false r h = omega arith

  rows-within : (ds : List Declaration) (k : ℕ) (p : Parts) → k + length ds ≤ 100 → AllByRecursion Low ds → Within n p → Holds (Within n) (rows_of ks k p ds)
  rows-within [] k p h l w = w
  rows-within (d ∷ ds) k p h l w =
      then-holds (Within n) (Within n) (showing_row (row_of ks k d) p) (λ q. rows_of ks (cond (is_function d.kind) (k + 1) k) q ds) (shows n (row_of ks k d) p (by_kind k d (omega arith) l.0 (is_function d.kind)) w)
      (λ q v. rows-within ds (cond (is_function d.kind) (k + 1) k) q (more k (is_function d.kind) (length ds) h) l.1 v)

-- what is learnt fits
by_small : (ks : List Known) (d : Declaration) (z : ℤ) → AllByRecursion Fit ks → (t : Bool) → small z ≡ t → GoesWell (AllByRecursion Fit) (learnt ks d (cond t (Some z) None))
by_small ks d z h true e = All-push Fit ks (record { name = d.name; value = z }) h (small_fits z e)
by_small ks d z h false e = tt

by_result : (ks : List Known) (d : Declaration) (x : Option (ℤ × Unit {0} × List Token)) → AllByRecursion Fit ks → GoesWell (AllByRecursion Fit) (learnt ks d (result x))
by_result ks d None h = tt
by_result ks d (Some p) h = by_small ks d p.0 h (small p.0) refl

behind_fits : (all : List Token) (o : Outside) (ks : List Known) (d : Option Declaration) → AllByRecursion Fit ks → GoesWell (AllByRecursion Fit) (behind all o ks d)
behind_fits all o ks None h = h
behind_fits all o ks (Some d) h = by_result ks d (expression (evaluating ks o) 9 tt (body all d)) h

valued_fits : (all : List Token) (o : Outside) (cs : List Declaration) (ps : List ℕ) (ks : List Known) → AllByRecursion Fit ks → GoesWell (AllByRecursion Fit) (valued all o cs ks ps)
valued_fits all o cs [] ks h = h
valued_fits all o cs (p ∷ ps) ks h = onward-holds (AllByRecursion Fit) (AllByRecursion Fit) (behind all o ks (slice_get cs p)) (λ m. valued all o cs m ps) (behind_fits all o ks (slice_get cs p) h) (λ m g. valued_fits all o cs ps m g)

settled_fits : (all : List Token) (o : Outside) (cs : List Declaration) (out : Order) → GoesWell (AllByRecursion Fit) (settled all o cs out)
settled_fits all o cs (in_order ps) = valued_fits all o cs ps [] tt
settled_fits all o cs (stuck ps i) = tt

-- the lines of declarations
noted_low : (line start end : ℕ) (v : Result (Option Declared) Flaw) (ds : List Declaration) → line < 65536 → AllByRecursion Low ds → GoesWell (AllByRecursion Low) (noted line start end v ds)
noted_low line start end (Ok None) ds h l = l
noted_low line start end (Err flaw) ds h l = tt
noted_low line start end (Ok (Some d)) ds h l = All-push Low ds (record { kind = d.kind; name = d.name; line = line; start = start + 3; end = end }) l h

walk_low : (all ts : List Token) (start i line : ℕ) (ds : List Declaration) → line + length ts ≤ 65535 → AllByRecursion Low ds → GoesWell (AllByRecursion Low) (walk all start i line ds ts)
walk_low all [] start i line ds h l = l
walk_low all (t ∷ ts) start i line ds h l =
    either_way (GoesWell (AllByRecursion Low)) (ends t) (onward (noted line start i (said line (slice_range all start i)) ds) (λ m. walk all (i + 1) (i + 1) (line + 1) m ts)) (walk all start (i + 1) line ds ts)
    (onward-holds (AllByRecursion Low) (AllByRecursion Low) (noted line start i (said line (slice_range all start i)) ds) (λ m. walk all (i + 1) (i + 1) (line + 1) m ts)
    (noted_low line start i (said line (slice_range all start i)) ds (omega arith) l) (λ m g. walk_low all ts (i + 1) (i + 1) (line + 1) m (omega arith) g))
    (walk_low all ts start (i + 1) line ds (omega arith) l)

empty_within : (n : ℕ) → Within n no_parts
empty_within n = record { interface = (lit≤ tt, tt); few_code = lit≤ tt; code = tt; few_entries = lit≤ tt; entries = tt; few_references = lit≤ tt; references = tt }

written-kept : (n : ℕ) (ts : List Token) (o : Outside) (x : Option Parts) → Holds (Within n) x → Kept n (written ts o x)
written-kept n ts o None h = tt
written-kept n ts o (Some p) h = h

module _ (ts : List Token) (imports : List (List Row)) where
  values_kept : (ds : List Declaration) (x : Result (List Known) Fault) → length ds ≤ 12 → AllByRecursion Low ds → GoesWell (AllByRecursion Fit) x → Kept (length imports) (with_values ts (outside imports) ds x)
  values_kept ds (Err f) h l g = tt
  values_kept ds (Ok ks) h l g =
      written-kept (length imports) ts (outside imports) (then (rows_of ks 0 no_parts ds) (λ p. functions ds ks (outside imports) ts p ds))
      (then-holds (Within (length imports)) (Within (length imports)) (rows_of ks 0 no_parts ds) (λ p. functions ds ks (outside imports) ts p ds)
      (rows-within (length imports) ks g ds 0 no_parts (omega arith) l (empty_within (length imports))) (λ p w. functions-within imports ds ks ts ds p w))

  by_few : (ds : List Declaration) (x : Result (List Known) Fault) → AllByRecursion Low ds → GoesWell (AllByRecursion Fit) x → (t : Bool) → nat_le (length ds) 12 ≡ t → Kept (length imports) (with_values ts (outside imports) ds (cond t x (Err (record { code = 9; line = 0 }))))
  by_few ds x l g true e = values_kept ds x (leb-true (length ds) 12 e) l g
  by_few ds x l g false e = tt

  solved-kept : (ds : List Declaration) → AllByRecursion Low ds → Kept (length imports) (with_values ts (outside imports) ds (solved ts (outside imports) ds))
  solved-kept ds l =
      let out = ordered nat_cmp (lines (constants ds)) (needs ts (constants ds) 0 (constants ds)) in
      by_few ds (settled ts (outside imports) (constants ds) out) l (settled_fits ts (outside imports) (constants ds) out) (nat_le (length ds) 12) refl

  uses_kept : (ds : List Declaration) (x : Option Fault) → AllByRecursion Low ds → Kept (length imports) (with_uses ts (outside imports) ds x)
  uses_kept ds (Some f) l = tt
  uses_kept ds None l = solved-kept ds l

  names-kept : (ds : List Declaration) (x : Option Fault) → AllByRecursion Low ds → Kept (length imports) (with_names ts (outside imports) ds x)
  names-kept ds (Some f) l = tt
  names-kept ds None l = uses_kept ds (misused ts ds (outside imports) ds) l

  lines-kept : (x : Result (List Declaration) Fault) → GoesWell (AllByRecursion Low) x → Kept (length imports) (with_lines ts (outside imports) x)
  lines-kept (Err f) g = tt
  lines-kept (Ok ds) g = names-kept ds (misnamed ds 0 ds) g

by_admitted : (source : List ℕ) (imports : List (List Row)) (t : Bool) → admitted source imports ≡ t → Kept (length imports) (cond t (with_lines (stream source) (outside imports) (declarations (stream source))) too_much)
by_admitted source imports true e =
    let few = leb-true (length source) 512 (and_parts (nat_le (length source) 512) (nat_le (length imports) 4) e).0 in
    let short = stream_short source in
    lines-kept (stream source) imports (declarations (stream source)) (walk_low (stream source) (stream source) 0 0 1 [] (omega arith) tt)
by_admitted source imports false e = tt

pub keeps : (source : List ℕ) (imports : List (List Row)) → Kept (length imports) (formula source imports)
keeps source imports = by_admitted source imports (admitted source imports) refl
