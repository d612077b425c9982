-- A finite map that is filled with the entries of a tree map, one after another, is that map.
use Rattle.std.proofs.Common.{◌≡◌, ℕ, List, [], ◌∷◌, Some, None, refl, sym, ap, ◌∙◌, Bool, true, false, Ordering, Less, Equal, Greater}
use Rattle.std.specs.Prelude.{Option, cond, is_some}
use Rattle.std.specs.List.{All}
use Rattle.std.specs.Ordering.{nat_cmp, is_eq}
use Rattle.std.specs.Cmp.Lexicographic.{slice_cmp, nat_list_cmp_total}
use Rattle.std.specs.FinMap.{FinMap, get, insert, empty, from_entries, get-empty, get-insert, same_map, slice_cmp-IsAntisymmetric, nat_cmp-IsAntisymmetric}
use Rattle.std.specs.BTreeMap.{is_at}
use Rattle.std.proofs.lemmas.List.Elements.{All-head, All-tail}
use Rattle.canary_plan.proofs.Named.{at_name, get_name}

abbrev pub Named : Type 0 → Type 0
Named X = FinMap (slice_cmp nat_cmp) X

-- with these entries put in, one after another
abbrev pub filled : {X : Type 0} → Named X → List (List ℕ × X) → Named X
filled m [] = m
filled m (e ∷ es) = filled (insert m e.0 e.1) es

same_order : (r : Ordering) → is_eq r ≡ true → r ≡ Equal
same_order Less h = cc
same_order Equal h = refl
same_order Greater h = cc

same_name : (q k : List ℕ) → is_at (slice_cmp nat_cmp q) k ≡ true → q ≡ k
same_name q k h = slice_cmp-IsAntisymmetric nat_cmp-IsAntisymmetric q k (same_order (slice_cmp nat_cmp q k) h)

either_same : {X : Type 0} (b : Bool) (x : X) → cond b x x ≡ x
either_same true x = refl
either_same false x = refl

abbrev is_found : {X : Type 0} → List (List ℕ × X) → List ℕ × X → Type 0
is_found big e = at_name big e.0 ≡ Some e.1

-- what it then finds, if each entry is found in one list
filled_get : {X : Type 0} (big es : List (List ℕ × X)) (m : Named X) (q : List ℕ) → All (is_found big) es → get (filled m es) q ≡ cond (is_some (at_name es q)) (at_name big q) (get m q)
filled_get big [] m q h = refl
filled_get {X} big (e ∷ es) m q h =
    filled_get big es (insert m e.0 e.1) q (All-tail (is_found big) e es h)
    ∙ ap (cond (is_some (at_name es q)) (at_name big q)) (get-insert nat_list_cmp_total m e.0 e.1 q)
    ∙ elim (is_at (slice_cmp nat_cmp q) e.0)
    as (λ (b : Bool). is_at (slice_cmp nat_cmp q) e.0 ≡ b → cond (is_some (at_name es q)) (at_name big q) (cond b (Some e.1) (get m q)) ≡ cond (is_some (cond b (Some e.1) (at_name es q))) (at_name big q) (get m q))
    [ true ↦ λ t. ap (cond (is_some (at_name es q)) (at_name big q)) (sym (ap (at_name big) (same_name q e.0 t) ∙ All-head (is_found big) e es h)) ∙ either_same (is_some (at_name es q)) (at_name big q) | false ↦ λ t. refl ] refl

found_or_not : {X : Type 0} (x : Option X) → cond (is_some x) x None ≡ x
found_or_not None = refl
found_or_not (Some x) = refl

pub filled_all : {X : Type 0} (es : List (List ℕ × X)) → All (λ (e : List ℕ × X). at_name es e.0 ≡ Some e.1) es → filled empty es ≡ from_entries {R = slice_cmp nat_cmp} es
filled_all es h = same_map nat_list_cmp_total (slice_cmp-IsAntisymmetric nat_cmp-IsAntisymmetric) _ _ (λ q.
    filled_get es es empty q h ∙ ap (cond (is_some (at_name es q)) (at_name es q)) (get-empty (slice_cmp nat_cmp) q) ∙ found_or_not (at_name es q) ∙ sym (get_name es q))
