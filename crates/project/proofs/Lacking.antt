-- The smallest unit that lacks an import.
use Rattle.std.proofs.Common.{◌≡◌, ℕ, suc, ◌+◌, ◌<◌, true, false, not, List, length, is_some, Some, None, Option, sym, ap, ◌∙◌, add-one, arith}
use mathlib.Core.Bool.{not-not}
use Rattle.std.specs.Option.{option_map, option_map_or, unwrap_or}
use Rattle.std.specs.List.{slice_get}
use Rattle.std.proofs.lemmas.List.{length-map}
use Rattle.std.proofs.lemmas.Option.{slice_get-map}
use Rattle.std.proofs.lemmas.Bool.{true≢false}
use Rattle.names.specs.declared.name.Name.{Name}
use Rattle.names.specs.Ordered.{by_name, name_cmp}
use Rattle.order.specs.Dependency.{placed, left, smallest}
use Rattle.order.proofs.Least.{smallest_passes, smallest-same}
use Rattle.project.specs.Members.{Member}
use Rattle.project.specs.Checked.{Verdict, missing, names, lack, lacks, lack_at}

pub lacks-there : (vs us : List Member) (i : ℕ) (u : Member) → slice_get us i ≡ Some u → lacks vs us i ≡ is_some (lack vs u.imports)
lacks-there vs us i u e = ap (λ o. option_map_or (λ (v : Member). is_some (lack vs v.imports)) o false) e

module _ (vs : List Member) where
  -- the smallest of those that are not whole
  pub found : (keys : List Name) (whole listed : List ℕ) (r : Option ℕ) → r ≡ left name_cmp keys listed → keys ≡ names vs → listed ≡ whole → ((k : ℕ) → k < length vs → placed whole k ≡ not (lacks vs vs k)) → r ≡ smallest name_cmp (lacks vs vs) (names vs)
  found keys whole listed r e f g h =
      let all : length (names vs) ≡ length vs = length-map vs (λ (v : Member). v.name) in
      e
      ∙ (λ j. left name_cmp (f j) (g j))
      ∙ smallest-same by_name (λ i. not (placed whole i)) (lacks vs vs) (names vs) (λ i l. sym (ap not (h i (omega arith)) ∙ not-not (lacks vs vs i)))

  -- the verdict at a unit that lacks an import
  abbrev pub said : ℕ → Verdict
  said i = missing (slice_get (names vs) i) (lack_at vs (slice_get vs i))

  module _ (o : Option ℕ) (is : o ≡ smallest name_cmp (lacks vs vs) (names vs)) where
    pub none_lacks : o ≡ None → None ≡ option_map said (smallest name_cmp (lacks vs vs) (names vs))
    none_lacks e = ap (option_map said) (sym e ∙ is)

    module _ (i : ℕ) (e : o ≡ Some i) where
      there : (i < length vs) × (lacks vs vs i ≡ true)
      there =
          let n : length (names vs) ≡ length vs = length-map vs (λ (v : Member). v.name) in
          let p = smallest_passes by_name (lacks vs vs) (names vs) i (sym is ∙ e) in
          (omega arith, p.1)

      pub no_unit : slice_get vs i ≡ None → ⊥
      no_unit f = true≢false (sym there.1 ∙ ap (λ o. option_map_or (λ (v : Member). is_some (lack vs v.imports)) o false) f)

      module _ (u : Member) (f : slice_get vs i ≡ Some u) where
        pub no_lack : lack vs u.imports ≡ None → ⊥
        no_lack g = true≢false (sym there.1 ∙ lacks-there vs vs i u f ∙ ap is_some g)

        pub one_lacks : (n : Name) (k : ℕ) → n ≡ u.name → lack vs u.imports ≡ Some k → Some (missing (Some n) (k + 1)) ≡ option_map said (smallest name_cmp (lacks vs vs) (names vs))
        one_lacks n k named g =
            let named_there : slice_get (names vs) i ≡ Some n = slice_get-map (λ (v : Member). v.name) vs i ∙ ap (option_map (λ (v : Member). v.name)) f ∙ ap Some (sym named) in
            let counted : lack_at vs (slice_get vs i) ≡ k + 1 = ap (lack_at vs) f ∙ ap (λ o. unwrap_or (option_map suc o) 0) g ∙ sym (add-one k) in
            (λ j. Some (missing (sym named_there j) (sym counted j))) ∙ ap (option_map said) (sym e ∙ is)
