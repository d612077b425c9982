-- A tree map under names is a finite map.
use Rattle.std.proofs.Common.{◌≡◌, ℕ, List, [], ◌∷◌, Some, refl, sym, ap, ◌∙◌}
use Rattle.std.specs.Prelude.{Option, cond}
use Rattle.std.specs.Ordering.{nat_cmp}
use Rattle.std.specs.Cmp.Lexicographic.{slice_cmp, nat_list_cmp_total}
use Rattle.std.specs.Cmp.{eq_by_cmp_equiv}
use Rattle.std.specs.FinMap.{get, insert, from_entries, find, get-from_entries, get-insert, same_map, slice_cmp-IsAntisymmetric, nat_cmp-IsAntisymmetric}
use Rattle.std.specs.BTreeMap.{is_at}
use Rattle.std.specs.Map.{lookup}

abbrev pub at_name : {X : Type 0} → List (List ℕ × X) → List ℕ → Option X
at_name es q = lookup (is_at (slice_cmp nat_cmp q)) es

find_name : {X : Type 0} (es : List (List ℕ × X)) (q : List ℕ) → find (slice_cmp nat_cmp) q es ≡ at_name es q
find_name [] q = refl
find_name (e ∷ es) q = ap (cond (is_at (slice_cmp nat_cmp q) e.0) (Some e.1)) (find_name es q)

pub get_name : {X : Type 0} (es : List (List ℕ × X)) (q : List ℕ) → get (from_entries {R = slice_cmp nat_cmp} es) q ≡ at_name es q
get_name es q = get-from_entries nat_list_cmp_total es q ∙ find_name es q

pub one_set : {X : Type 0} (es fs : List (List ℕ × X)) (k : List ℕ) (v : X) → ((q : List ℕ) → at_name fs q ≡ cond (is_at (slice_cmp nat_cmp k) q) (Some v) (at_name es q)) → from_entries {R = slice_cmp nat_cmp} fs ≡ insert (from_entries es) k v
one_set es fs k v h = same_map nat_list_cmp_total (slice_cmp-IsAntisymmetric nat_cmp-IsAntisymmetric) _ _ (λ q.
    get_name fs q ∙ h q ∙ ap (λ b. cond b (Some v) (at_name es q)) ((eq_by_cmp_equiv nat_list_cmp_total).symm k q)
    ∙ sym (get-insert nat_list_cmp_total (from_entries es) k v q ∙ ap (cond (is_at (slice_cmp nat_cmp q) k) (Some v)) (get_name es q)))
