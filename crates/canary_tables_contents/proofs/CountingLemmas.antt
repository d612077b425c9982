-- Counting measurements one after another.
use Rattle.std.proofs.Common.{◌≡◌, ℕ, zero, suc, List, [], ◌∷◌, ◌++◌, length, Bool, true, false, Some, None, true≢false, refl, sym, ap, ◌∙◌, subst}
use Rattle.std.specs.Prelude.{Option, ◌==◌, ◌&&◌, cond, filter, map, replicate, option_map, slice_get}
use Rattle.std.proofs.lemmas.Bool.Decides.{Decides-eqb}
use Rattle.std.proofs.lemmas.List.{map-append, append_assoc, append-nil}
use Rattle.canary_metric.specs.Metrics.{MetricValue}
use Rattle.canary_metric.specs.Counts.{Counts, counts, CountsOneMore}
use Rattle.canary_release.specs.declared.effect.Recorded.{Recorded}
use Rattle.canary_release.specs.Order.{is_of}
use Rattle.canary_release.specs.Pasts.{change_at, measurement_of, counts_of}
use Rattle.canary_release.specs.Watching.{counted}
use Rattle.canary_tables_contents.specs.Counting.{at_metric, of_metric, change_run, none_counted, counted_at, counted_all, CountingCounts}

-- One place is changed.

changed_here : {A : Type 0} (k : ℕ) (f : A → A) (xs : List A) → slice_get (change_at k f xs) k ≡ option_map f (slice_get xs k)
changed_here k f [] = refl
changed_here zero f (x ∷ xs) = refl
changed_here (suc k) f (x ∷ xs) = changed_here k f xs

changed_there : {A : Type 0} (k j : ℕ) (f : A → A) (xs : List A) → (k ≡ j → ⊥) → slice_get (change_at k f xs) j ≡ slice_get xs j
changed_there k j f [] other = refl
changed_there zero zero f (x ∷ xs) other = absurd (other refl)
changed_there zero (suc j) f (x ∷ xs) other = refl
changed_there (suc k) zero f (x ∷ xs) other = refl
changed_there (suc k) (suc j) f (x ∷ xs) other = changed_there k j f xs (λ e. other (ap suc e))

in_list : {A : Type 0} (m : ℕ) (f : A → A) (o : Option (List A)) → at_metric m (option_map (change_at m f) o) ≡ option_map f (at_metric m o)
in_list m f None = refl
in_list m f (Some list) = changed_here m f list

in_other : {A : Type 0} (k m : ℕ) (f : A → A) (o : Option (List A)) → (k ≡ m → ⊥) → at_metric m (option_map (change_at k f) o) ≡ at_metric m o
in_other k m f None other = refl
in_other k m f (Some list) other = changed_there k m f list other

of_here : {A : Type 0} (r m : ℕ) (f : A → A) (runs : List (List A)) → of_metric r m (change_run r (change_at m f) runs) ≡ option_map f (of_metric r m runs)
of_here zero m f runs = refl
of_here (suc p) m f runs = ap (at_metric m) (changed_here p (change_at m f) runs) ∙ in_list m f (slice_get runs p)

same_run : {A : Type 0} (p q k m : ℕ) (f : A → A) (runs : List (List A)) → p ≡ q → (k ≡ m → ⊥) → at_metric m (slice_get (change_at p (change_at k f) runs) q) ≡ at_metric m (slice_get runs q)
same_run p q k m f runs same other = subst (λ n. at_metric m (slice_get (change_at n (change_at k f) runs) q) ≡ at_metric m (slice_get runs q)) (sym same) (ap (at_metric m) (changed_here q (change_at k f) runs) ∙ in_other k m f (slice_get runs q) other)

not_equal : (a b : ℕ) → (a == b) ≡ false → a ≡ b → ⊥
not_equal a b e same = true≢false (sym ((Decides-eqb a b).1 same) ∙ e)

of_other : {A : Type 0} (r k q m : ℕ) (f : A → A) (runs : List (List A)) → ((r ≡ q) → (k ≡ m) → ⊥) → of_metric q m (change_run r (change_at k f) runs) ≡ of_metric q m runs
of_other r k zero m f runs other = refl
of_other zero k (suc q) m f runs other = refl
of_other (suc r) k (suc q) m f runs other =
    elim (r == q)
    as (λ b. (r == q) ≡ b → at_metric m (slice_get (change_at r (change_at k f) runs) q) ≡ at_metric m (slice_get runs q)) [
      | true ↦ λ e. let same : r ≡ q = (Decides-eqb r q).0 e in same_run r q k m f runs same (other (ap suc same))
      | false ↦ λ e. ap (at_metric m) (changed_there r q (change_at k f) runs (not_equal r q e))
    ] refl

-- A measurement that is of a metric, or not.

both_hold : (a b : Bool) → a && b ≡ true → (a ≡ true) × (b ≡ true)
both_hold true b e = (refl, e)
both_hold false b e = absurd (cc)

pub is_of_both : (r m : ℕ) (x : Recorded) → is_of r m x ≡ true → (x.run ≡ r) × (x.metric ≡ m)
is_of_both r m x e = let h : ((x.run == r) ≡ true) × ((x.metric == m) ≡ true) = both_hold (x.run == r) (x.metric == m) e in ((Decides-eqb x.run r).0 h.0, (Decides-eqb x.metric m).0 h.1)

is_not_both : (r m : ℕ) (x : Recorded) → is_of r m x ≡ false → x.run ≡ r → x.metric ≡ m → ⊥
is_not_both r m x e a b = true≢false ((λ i. sym ((Decides-eqb x.run r).1 a) i && sym ((Decides-eqb x.metric m).1 b) i) ∙ e)

pub own_of : (x : Recorded) → is_of x.run x.metric x ≡ true
own_of x = λ i. (Decides-eqb x.run x.run).1 refl i && (Decides-eqb x.metric x.metric).1 refl i

pub counted_here : (r m : ℕ) (x : Recorded) (tallies : List (List Counts)) → is_of r m x ≡ true → of_metric r m (counted_at x tallies) ≡ option_map (counted x) (of_metric r m tallies)
counted_here r m x tallies e =
    let h : (x.run ≡ r) × (x.metric ≡ m) = is_of_both r m x e in
    subst (λ q. of_metric q m (counted_at x tallies) ≡ option_map (counted x) (of_metric q m tallies)) h.0 (subst (λ k. of_metric x.run k (counted_at x tallies) ≡ option_map (counted x) (of_metric x.run k tallies)) h.1 (of_here x.run x.metric (counted x) tallies))

pub counted_there : (r m : ℕ) (x : Recorded) (tallies : List (List Counts)) → is_of r m x ≡ false → of_metric r m (counted_at x tallies) ≡ of_metric r m tallies
counted_there r m x tallies e = of_other x.run x.metric r m (counted x) tallies (is_not_both r m x e)

-- The tally of a metric after a list.

pub tally_after : Counts → List Recorded → Counts
tally_after c [] = c
tally_after c (x ∷ xs) = tally_after (counted x c) xs

tally_of_list : CountsOneMore → (ys xs : List Recorded) → tally_after (counts_of ys) xs ≡ counts_of (ys ++ xs)
unfolding tally_after
tally_of_list more ys [] = ap counts_of (sym (append-nil ys))
tally_of_list more ys (x ∷ xs) =
    let one : counts_of (ys ++ x ∷ []) ≡ counted x (counts_of ys) = ap counts (map-append measurement_of ys (x ∷ [])) ∙ more (map measurement_of ys) (measurement_of x) in
    ap (λ c. tally_after c xs) (sym one) ∙ tally_of_list more (ys ++ x ∷ []) xs ∙ ap counts_of (append_assoc ys (x ∷ []) xs)

option_twice : (f : Counts → Counts) (g : Counts → Counts) (o : Option Counts) → option_map g (option_map f o) ≡ option_map (λ c. g (f c)) o
option_twice f g None = refl
option_twice f g (Some c) = refl

same_option : (o : Option Counts) → o ≡ option_map (λ c. c) o
same_option None = refl
same_option (Some c) = refl

pub after_all : (r m : ℕ) (tallies : List (List Counts)) (xs : List Recorded) → of_metric r m (counted_all tallies xs) ≡ option_map (λ c. tally_after c (filter (is_of r m) xs)) (of_metric r m tallies)
unfolding tally_after
after_all r m tallies [] = same_option (of_metric r m tallies)
after_all r m tallies (x ∷ xs) =
    after_all r m (counted_at x tallies) xs
    ∙ elim (is_of r m x)
    as (λ b. is_of r m x ≡ b → option_map (λ c. tally_after c (filter (is_of r m) xs)) (of_metric r m (counted_at x tallies)) ≡ option_map (λ c. tally_after c (cond b (x ∷ filter (is_of r m) xs) (filter (is_of r m) xs))) (of_metric r m tallies)) [
      | true ↦ λ e. ap (option_map (λ c. tally_after c (filter (is_of r m) xs))) (counted_here r m x tallies e) ∙ option_twice (counted x) (λ c. tally_after c (filter (is_of r m) xs)) (of_metric r m tallies)
      | false ↦ λ e. ap (option_map (λ c. tally_after c (filter (is_of r m) xs))) (counted_there r m x tallies e)
    ] refl

-- None counted.

in_replicate : {A B : Type 0} (xs : List A) (c : B) (i : ℕ) (x : A) → slice_get xs i ≡ Some x → slice_get (replicate (length xs) c) i ≡ Some c
in_replicate [] c i x e = absurd (cc)
in_replicate (y ∷ ys) c zero x e = refl
in_replicate (y ∷ ys) c (suc i) x e = in_replicate ys c i x e

none_at_run : (runs : List (List MetricValue)) (place m : ℕ) (metric : MetricValue) → at_metric m (slice_get runs place) ≡ Some metric → at_metric m (slice_get (none_counted runs) place) ≡ Some (counts [])
none_at_run [] place m metric e = absurd (cc)
none_at_run (ms ∷ runs) zero m metric e = in_replicate ms (counts []) m metric e
none_at_run (ms ∷ runs) (suc place) m metric e = none_at_run runs place m metric e

pub none_of : (runs : List (List MetricValue)) (r m : ℕ) (metric : MetricValue) → of_metric r m runs ≡ Some metric → of_metric r m (none_counted runs) ≡ Some (counts [])
none_of runs zero m metric e = absurd (cc)
none_of runs (suc place) m metric e = none_at_run runs place m metric e

pub counting_counts : CountsOneMore → CountingCounts
unfolding tally_after
counting_counts more runs xs r m metric e =
    after_all r m (none_counted runs) xs ∙ ap (option_map (λ c. tally_after c (filter (is_of r m) xs))) (none_of runs r m metric e) ∙ ap Some (tally_of_list more [] (filter (is_of r m) xs))
