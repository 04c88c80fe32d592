-- What calls lead to, one call more.
use Rattle.std.proofs.Common.{◌≡◌, ℕ, ◌+◌, ◌-◌, ◌<◌, Bool, true, false, cond, eqb, List, [], ◌∷◌, ◌++◌, length, get_or, take, is_some, Some, None, vec_items, sym, refl, ap, ◌∙◌, subst, arith}
use Rattle.std.proofs.lemmas.List.{take_more}
use Rattle.std.specs.Str.{bytes_eq}
use Rattle.names.specs.declared.name.Name.{Name}
use Rattle.store.specs.declared.call.Call.{Call}
use Rattle.store.specs.declared.call.Call.TheVariants.{Put, Drop}
use Rattle.store.specs.Pairs.{Pair, pair, lookup, has, without, once, SamePairs}
use Rattle.store.specs.Says.{put_number, put_pairs, PutSays, DropSays}
use Rattle.store.specs.Runs.{standing, names_standing, put_due, told, told_all, Stands}
use Rattle.store.proofs.Pairs.{by_test, same_is, lookup_without_other, lookup_without_same, length_without}

module _ (past newer : List Call) (q bs : List ℕ) (before after : List Pair) (stands : Stands past before) where
  held : has before q ≡ is_some (standing past q)
  held = ap is_some (stands.records q)

  -- the number that a put answered is the one due
  pub put_is_due : (limit rows n : ℕ) → PutSays limit rows before after q bs n → n ≡ put_due limit rows past q (length bs)
  put_is_due limit rows n says = says.outcome ∙ (λ i. put_number limit rows (held i) (stands.number i) (length bs))

  put_leads_by : ((k : List ℕ) → standing newer k ≡ cond (bytes_eq q k) (Some bs) (standing past k)) → names_standing newer ≡ names_standing past + cond (is_some (standing past q)) 0 1 → (b : Bool) → SamePairs after (cond b (pair q bs ∷ without q before) before) → Stands (cond b newer past) after
  put_leads_by at more true same =
      record {
        records = λ k. same.records k ∙ (by_test (bytes_eq q k) (λ e. simp e) (λ e. simp (e, lookup_without_other q k before e) (stands.records k))) ∙ sym (at k);
        number =
            let l = length_without q before in
            let n = stands.number in
            let s = same.number in
            by_test (has before q)
            (λ e. let f : is_some (standing past q) ≡ true = sym held ∙ e in let l' : length (without q before) + 1 ≡ length before = simp e at l in let m : names_standing newer ≡ names_standing past + 0 = simp f at more in omega arith)
            (λ e. let f : is_some (standing past q) ≡ false = sym held ∙ e in let l' : length (without q before) + 0 ≡ length before = simp e at l in let m : names_standing newer ≡ names_standing past + 1 = simp f at more in omega arith);
      }
  put_leads_by at more false same = record { records = λ k. same.records k ∙ stands.records k; number = same.number ∙ stands.number }

  -- a put leads where it says
  pub put_leads : (limit rows n : ℕ) → PutSays limit rows before after q bs n → ((k : List ℕ) → standing newer k ≡ cond (bytes_eq q k) (Some bs) (standing past k)) → names_standing newer ≡ names_standing past + cond (is_some (standing past q)) 0 1 → Stands (cond (eqb (put_due limit rows past q (length bs)) 0) newer past) after
  put_leads limit rows n says at more = put_leads_by at more (eqb (put_due limit rows past q (length bs)) 0) (subst (λ (m : ℕ). SamePairs after (put_pairs m before q bs)) (put_is_due limit rows n says) says.pairs)

  -- a drop leads where it says
  pub drop_leads : (r : Bool) → DropSays before after q r → once before ≡ true → ((k : List ℕ) → standing newer k ≡ cond (bytes_eq q k) None (standing past k)) → names_standing newer ≡ names_standing past - cond (is_some (standing past q)) 1 0 → Stands newer after
  drop_leads r says apart at less =
      record {
        records =
            λ k. says.pairs.records k
            ∙ (by_test (bytes_eq q k)
            (λ e. sym (ap (λ x. lookup (without q before) x) (same_is q k e)) ∙ lookup_without_same q before apart ∙ simp e)
            (λ e. simp (e, lookup_without_other q k before e) (stands.records k)))
            ∙ sym (at k);
        number =
            let l = length_without q before in
            let n = stands.number in
            let s = says.pairs.number in
            by_test (has before q)
            (λ e. let f : is_some (standing past q) ≡ true = sym held ∙ e in let l' : length (without q before) + 1 ≡ length before = simp e at l in let m : names_standing newer ≡ names_standing past - 1 = simp f at less in omega arith)
            (λ e. let f : is_some (standing past q) ≡ false = sym held ∙ e in let l' : length (without q before) + 0 ≡ length before = simp e at l in let m : names_standing newer ≡ names_standing past - 0 = simp f at less in omega arith);
      }

-- a call of a put, and of a drop
module _ (limit rows : ℕ) (past : List Call) (call : Call) (before after : List Pair) (stands : Stands past before) where
  pub put_told : (name : Name) (content : _) → call ≡ Put name content → PutSays limit rows before after name.bytes (vec_items content) 0 → Stands (told limit rows past call) after
  put_told name content is says =
      subst (λ (x : Call). Stands (told limit rows past x) after) (sym is) (put_leads past (Put name content ∷ past) name.bytes (vec_items content) before after stands limit rows 0 says (λ k. refl) refl)

  pub drop_told : (name : Name) (r : Bool) → call ≡ Drop name → DropSays before after name.bytes r → once before ≡ true → Stands (told limit rows past call) after
  drop_told name r is says apart =
      subst (λ (x : Call). Stands (told limit rows past x) after) (sym is) (drop_leads past (Drop name ∷ past) name.bytes name.bytes before after stands r says apart (λ k. refl) refl)

-- one call more at the end
pub told_more : (limit rows : ℕ) (past cs : List Call) (c : Call) → told_all limit rows past (cs ++ c ∷ []) ≡ told limit rows (told_all limit rows past cs) c
told_more limit rows past [] c = refl
told_more limit rows past (d ∷ cs) c = told_more limit rows (told limit rows past d) cs c

pub told_step : (limit rows : ℕ) (past cs : List Call) (i : ℕ) (c : Call) → i < length cs → c ≡ get_or cs i c → told_all limit rows past (take (i + 1) cs) ≡ told limit rows (told_all limit rows past (take i cs)) c
told_step limit rows past cs i c h e = ap (told_all limit rows past) (take_more cs i c h) ∙ told_more limit rows past (take i cs) (get_or cs i c) ∙ ap (told limit rows (told_all limit rows past (take i cs))) (sym e)
