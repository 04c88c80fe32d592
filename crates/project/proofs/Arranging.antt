-- What the order of the units leaves.
use Rattle.std.proofs.Common.{◌≡◌, ℕ, ◌<◌, ◌≤◌, cond, not, List, length, get_or, take, drop, replicate, Some, Ok, Err, Result, sym, refl, ap, ◌∙◌, subst, arith}
use Rattle.std.specs.List.{slice_get}
use Rattle.std.proofs.lemmas.List.{length-map, take_at}
use Rattle.std.proofs.lemmas.Option.{slice_get-get_or}
use Rattle.std.proofs.lemmas.Bool.{le-ltb}
use Rattle.bounded.specs.Held.{used}
use Rattle.names.specs.declared.name.Name.{Name}
use Rattle.names.specs.Ordered.{by_name, name_cmp}
use Rattle.order.specs.declared.Need.{Need}
use Rattle.order.specs.declared.Unordered.{Unordered}
use Rattle.order.specs.declared.Unordered.TheVariants.{Stuck, Short}
use Rattle.order.specs.Dependency.{Outcome, all, stuck, placed, ordered, Tells, Answers}
use Rattle.order.specs.Law.{Lawful}
use Rattle.order.proofs.Laws.{lawful, once-length}
use Rattle.order.proofs.Least.{smallest_passes}
use Rattle.project.specs.declared.whole.Project.{Project}
use Rattle.project.specs.Members.{Member, member, members}
use Rattle.project.specs.Checked.{Verdict, linked, circle, names, needs, by_order}
use Rattle.project.proofs.Standing.{used_few}

module _ (vs : List Member) (before after : List ℕ) where
  went : (x : Unit {0}) (out : Outcome) → Tells name_cmp (names vs) (needs 0 vs) before after (Ok x) out → Lawful name_cmp (names vs) (needs 0 vs) out → linked (take (length vs) after) ≡ by_order vs out
  went x (all done) t l =
      let n : length (names vs) ≡ length vs = length-map vs (λ (v : Member). v.name) in
      let all_of = once-length by_name (names vs) (needs 0 vs) done l.0.0 in
      ap linked (ap (take (length vs)) t.1 ∙ take_at done (drop (length done) before) (length vs) (all_of ∙ n))
  went x (stuck done i) t l = let e = t.0 in cc

  stopped : (i : ℕ) (out : Outcome) → Tells name_cmp (names vs) (needs 0 vs) before after (Err (Stuck i)) out → Lawful name_cmp (names vs) (needs 0 vs) out → (i < length vs) × (circle (slice_get (names vs) i) ≡ by_order vs out)
  stopped i (all done) t l = absurd (let e = t.0 in cc)
  stopped i (stuck done j) t l =
      let n : length (names vs) ≡ length vs = length-map vs (λ (v : Member). v.name) in
      let p = smallest_passes by_name (λ k. not (placed done k)) (names vs) j l.2 in
      let e = t.0 in
      let same : i ≡ j = cc in
      (omega arith, ap (λ k. circle (slice_get (names vs) k)) same)

-- places to write into
abbrev pub start : List ℕ
start = replicate 24 0

module _ (p : Project) (keys : List Name) (ns : List (Need Name)) (after : List ℕ) (r : Result (Unit {0}) Unordered) (listed : keys ≡ names (members p)) (needed : ns ≡ needs 0 (members p)) (answers : Answers name_cmp keys ns start after r) where
  abbrev vs : List Member
  vs = members p

  abbrev pub found : Verdict
  found = by_order (members p) (ordered name_cmp (names (members p)) (needs 0 (members p)))

  many : (length keys ≡ length vs) × (length vs ≤ 24)
  many =
      let units = used_few p.units in
      let all : length vs ≡ length (used p.units) = length-map (used p.units) member in
      let named : length (names vs) ≡ length vs = length-map vs (λ (v : Member). v.name) in
      (ap length listed ∙ named, omega arith)

  pub few_keys : length keys ≤ 24
  few_keys = let m = many in omega arith

  told : Tells name_cmp (names vs) (needs 0 vs) start after r (ordered name_cmp (names vs) (needs 0 vs))
  told =
      let m = many in
      let wide : length start ≡ 24 = refl in
      let as_listed : Answers name_cmp (names vs) (needs 0 vs) start after r = subst (λ ms. Answers name_cmp (names vs) ms start after r) needed (subst (λ ks. Answers name_cmp ks ns start after r) listed answers) in
      let same = ap length listed in
      subst (λ b. cond b ((r ≡ Err Short) × (after ≡ start)) (Tells name_cmp (names vs) (needs 0 vs) start after r (ordered name_cmp (names vs) (needs 0 vs)))) (le-ltb (length start) (length (names vs)) (omega arith)) as_listed

  tells : (s : Result (Unit {0}) Unordered) → r ≡ s → Tells name_cmp (names vs) (needs 0 vs) start after s (ordered name_cmp (names vs) (needs 0 vs))
  tells s e = subst (λ t. Tells name_cmp (names vs) (needs 0 vs) start after t (ordered name_cmp (names vs) (needs 0 vs))) e told

  pub arranged : (x : Unit {0}) → r ≡ Ok x → linked (take (length keys) after) ≡ found
  arranged x e = ap (λ n. linked (take n after)) many.0 ∙ went vs start after x (ordered name_cmp (names vs) (needs 0 vs)) (tells (Ok x) e) (lawful by_name (names vs) (needs 0 vs))

  -- a unit of the list that a circle leaves over
  pub circled : (i : ℕ) → r ≡ Err (Stuck i) → (i < length keys) × ((n : Name) → n ≡ get_or keys i n → circle (Some n) ≡ found)
  circled i e =
      let stuck = stopped vs start after i (ordered name_cmp (names vs) (needs 0 vs)) (tells (Err (Stuck i)) e) (lawful by_name (names vs) (needs 0 vs)) in
      let below = stuck.0 in
      let m = many in
      (omega arith, λ n here. ap circle (sym (slice_get-get_or (names vs) i n (let s = ap length listed in omega arith) ∙ ap Some (sym (here ∙ ap (λ ks. get_or ks i n) listed)))) ∙ stuck.1)
