-- Units in link order, their names and what they offer.
use Rattle.std.proofs.Common.{◌≡◌, ℕ, zero, suc, ◌+◌, ◌<◌, ◌≤◌, Bool, true, false, cond, List, [], ◌∷◌, ◌++◌, length, get_or, take, is_some, Some, None, Option, sym, refl, ap, ◌∙◌, append_assoc, append-nil, arith, length-append}
use mathlib.Core.List.{map-append}
use Rattle.std.specs.Option.{MatchOption, option_map, option_to_list}
use Rattle.std.specs.List.{slice_get}
use Rattle.std.proofs.lemmas.List.{take_more}
use Rattle.std.proofs.lemmas.Bool.{true≢false}
use Rattle.names.specs.declared.name.Name.{Name}
use Rattle.product.specs.Parts.{Parts}
use Rattle.project.specs.Members.{Member}
use Rattle.project.specs.Checked.{names}
use Rattle.ledger.specs.Fresh.{Made, in_order}
use Rattle.linker.specs.Assembled.{entries_of}

pub in_order-append : (vs : List Member) (ps qs : List ℕ) → in_order vs (ps ++ qs) ≡ in_order vs ps ++ in_order vs qs
in_order-append vs [] qs = refl
in_order-append vs (p ∷ ps) qs = ap (λ us. option_to_list (slice_get vs p) ++ us) (in_order-append vs ps qs) ∙ sym (append_assoc (option_to_list (slice_get vs p)) (in_order vs ps) (in_order vs qs))

name-at : (vs : List Member) (p : ℕ) → names (option_to_list (slice_get vs p)) ≡ option_to_list (slice_get (names vs) p)
name-at [] p = refl
name-at (v ∷ vs) zero = refl
name-at (v ∷ vs) (suc p) = name-at vs p

pub names_more : (vs : List Member) (ps : List ℕ) (i : ℕ) → i < length ps → names (in_order vs (take (i + 1) ps)) ≡ names (in_order vs (take i ps)) ++ option_to_list (slice_get (names vs) (get_or ps i 0))
names_more vs ps i h =
    ap (λ xs. names (in_order vs xs)) (take_more ps i 0 h)
    ∙ ap names (in_order-append vs (take i ps) (get_or ps i 0 ∷ []))
    ∙ map-append (λ (v : Member). v.name) (in_order vs (take i ps)) (option_to_list (slice_get vs (get_or ps i 0)) ++ [])
    ∙ ap (λ us. names (in_order vs (take i ps)) ++ names us) (append-nil (option_to_list (slice_get vs (get_or ps i 0))))
    ∙ ap (λ ns. names (in_order vs (take i ps)) ++ ns) (name-at vs (get_or ps i 0))

-- the entries of the unit at a place
offered : (ds : List Made) (i : ℕ) (p : Parts) → Some p ≡ option_map (λ (d : Made). d.parts) (slice_get ds i) → p.entries ≡ get_or (entries_of ds) i []
offered [] i p e = absurd (true≢false (ap is_some e))
offered (d ∷ ds) zero p e = let q : p ≡ d.parts = cc in ap (λ (x : Parts). x.entries) q
offered (d ∷ ds) (suc i) p e = offered ds i p e

offered_none : (ds : List Made) (i : ℕ) → None ≡ option_map (λ (d : Made). d.parts) (slice_get ds i) → [] ≡ get_or (entries_of ds) i []
offered_none [] i e = refl
offered_none (d ∷ ds) zero e = absurd (true≢false (sym (ap is_some e)))
offered_none (d ∷ ds) (suc i) e = offered_none ds i e

-- how many entries are told of it
pub offered_by : {R : Type 0} (v : R → Parts) (ds : List Made) (i : ℕ) (o : Option R) (r : ℕ) (P : R → Type 0) → option_map v o ≡ option_map (λ (d : Made). d.parts) (slice_get ds i) → MatchOption o (r ≡ 0) P → ((x : R) → P x → r ≡ length (v x).entries) → r ≡ length (get_or (entries_of ds) i [])
offered_by v ds i (Some x) r P e m f = f x m ∙ ap length (offered ds i (v x) e)
offered_by v ds i None r P e m f = m ∙ ap length (offered_none ds i e)

pub few_names : (was now : List Name) (n : Name) (r : Bool) (i : ℕ) → now ≡ cond r (was ++ n ∷ []) was → length was ≤ i → length now ≤ i + 1
few_names was now n true i e h = let a = ap length e in let b = length-append was (n ∷ []) in omega arith
few_names was now n false i e h = let a = ap length e in omega arith
