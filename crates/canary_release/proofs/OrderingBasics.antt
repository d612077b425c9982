-- Small facts on numbers, tests, lists and phases, of which the proofs on order and soundness make use.
use Rattle.std.proofs.Common.{◌≡◌, ℕ, List, [], ◌∷◌, ◌++◌, Bool, true, false, refl, ap, sym, ◌∙◌, true≢false, eqb-true, eq-eqb, arith}
use Rattle.std.proofs.lemmas.Bool.Decides.{nat_tests}
use Rattle.std.specs.Prelude.{None, ◌==◌, ◌||◌, not, nat_lt, cond, if◌then◌else◌, Option, Some, option_map, map, filter, fold}
use Rattle.std.specs.List.{AllByRecursion, find, list_any, last_or}
use Rattle.canary_condition.specs.declared.outcome.Phase.{Phase}
use Rattle.canary_condition.specs.declared.outcome.Phase.TheVariants.{Pending, Running, Successful, Inconclusive, Error, Failed}
use Rattle.canary_metric.specs.MetricPhases.{is_completed}
use Rattle.canary_metric.specs.Verdicts.{badness, worst}
use Rattle.canary_plan.specs.declared.refusal.Refusal.{Refusal}
use Rattle.canary_plan.specs.Refusals.{first_that_holds, or_refusal}

pub other_number : (a b : ℕ) → (a ≡ b → ⊥) → (a == b) ≡ false
other_number a b differ =
    elim (a == b)
    as (λ t. (a == b) ≡ t → (a == b) ≡ false) [
      | true ↦ λ e. absurd (differ (eqb-true a b e))
      | false ↦ λ e. e
    ] refl

pub not_same : (a b : ℕ) → (a == b) ≡ false → a ≡ b → ⊥
not_same a b e same = true≢false (sym (eq-eqb a b same) ∙ e)

pub some_same : {A : Type 0} (a b : A) → ◌≡◌ {A = Option A} (Some a) (Some b) → a ≡ b
some_same a b h = cc h

pub not_false : (b : Bool) → not b ≡ false → b ≡ true
not_false true h = refl
not_false false h = cc h

-- the last of a list with one element more
pub last_pushed : {A : Type 0} (o : Option A) (xs : List A) (x : A) → last_or o (xs ++ x ∷ []) ≡ Some x
last_pushed o [] x = refl
last_pushed o (y ∷ xs) x = last_pushed (Some y) xs x

-- a test or another that fails
pub neither : (a b : Bool) → (a || b) ≡ false → (a ≡ false) × (b ≡ false)
neither true b e = absurd (true≢false e)
neither false b e = (refl, e)

pub any_neither : {A : Type 0} (test : A → Bool) (x : A) (xs : List A) → list_any test (x ∷ xs) ≡ false → (test x ≡ false) × (list_any test xs ≡ false)
any_neither test x xs e = neither (test x) (list_any test xs) e

-- what holds of each element shows more of each
pub each : {A : Type 0} (P Q : A → Type 0) → ((x : A) → P x → Q x) → (xs : List A) → AllByRecursion P xs → AllByRecursion Q xs
each P Q f [] h = tt
each P Q f (x ∷ xs) h = (f x h.0, each P Q f xs h.1)

pub each_both : {A : Type 0} (P Q R : A → Type 0) → ((x : A) → P x → Q x → R x) → (xs : List A) → AllByRecursion P xs → AllByRecursion Q xs → AllByRecursion R xs
each_both P Q R f [] h k = tt
each_both P Q R f (x ∷ xs) h k = (f x h.0 k.0, each_both P Q R f xs h.1 k.1)

pub each_and_more : {A : Type 0} (P : A → Type 0) (xs : List A) (y : A) → AllByRecursion P xs → P y → AllByRecursion P (xs ++ y ∷ [])
each_and_more P [] y h k = (k, tt)
each_and_more P (x ∷ xs) y h k = (h.0, each_and_more P xs y h.1 k)

pub each_mapped : {A B : Type 0} (P : A → Type 0) (Q : B → Type 0) (f : A → B) → ((x : A) → P x → Q (f x)) → (xs : List A) → AllByRecursion P xs → AllByRecursion Q (map f xs)
each_mapped P Q f g [] h = tt
each_mapped P Q f g (x ∷ xs) h = (g x h.0, each_mapped P Q f g xs h.1)

pub each_filtered : {A : Type 0} (P : A → Type 0) (test : A → Bool) (xs : List A) → AllByRecursion P xs → AllByRecursion P (filter test xs)
each_filtered P test [] h = tt
each_filtered P test (x ∷ xs) h =
    let rest = each_filtered P test xs h.1 in
    elim (test x) as (λ b. AllByRecursion P (cond b (x ∷ filter test xs) (filter test xs))) [ true ↦ (h.0, rest) | false ↦ rest ]

-- a test that fails on the list fails on each element
pub none_passes : {A : Type 0} (test : A → Bool) (xs : List A) → list_any test xs ≡ false → AllByRecursion (λ x. test x ≡ false) xs
none_passes test [] e = tt
none_passes test (x ∷ xs) e = let h = any_neither test x xs e in (h.0, none_passes test xs h.1)

-- what is found passes the test
pub found_passes : {A : Type 0} (test : A → Bool) (xs : List A) (a : A) → find test xs ≡ Some a → test a ≡ true
found_passes test [] a e = cc e
found_passes test (x ∷ xs) a e =
    elim (test x)
    as (λ b. test x ≡ b → ◌≡◌ {A = Option _} (cond b (Some x) (find test xs)) (Some a) → test a ≡ true) [
      | true ↦ λ t f. ap test (sym (some_same x a f)) ∙ t
      | false ↦ λ t f. found_passes test xs a f
    ] refl e

-- an element that fails the test is not what is found
pub found_behind : {A : Type 0} (test : A → Bool) (x : A) (xs : List A) (o : Option A) → test x ≡ false → find test xs ≡ o → find test (x ∷ xs) ≡ o
found_behind test x xs o fails e = ap (λ b. cond b (Some x) (find test xs)) fails ∙ e

pub found_first : {A : Type 0} (test : A → Bool) (x : A) (xs : List A) → test x ≡ true → find test (x ∷ xs) ≡ Some x
found_first test x xs passes = ap (λ b. cond b (Some x) (find test xs)) passes

-- a filter that keeps all that passes
pub found_filtered : {A : Type 0} (test keep : A → Bool) → ((x : A) → keep x ≡ false → test x ≡ false) → (xs : List A) → find test (filter keep xs) ≡ find test xs
found_filtered test keep k [] = refl
found_filtered test keep k (x ∷ xs) =
    let rest = found_filtered test keep k xs in
    elim (keep x)
    as (λ b. keep x ≡ b → find test (cond b (x ∷ filter keep xs) (filter keep xs)) ≡ cond (test x) (Some x) (find test xs)) [
      | true ↦ λ e. ap (λ o. cond (test x) (Some x) o) rest
      | false ↦ λ e. rest ∙ sym (ap (λ b. cond b (Some x) (find test xs)) (k x e))
    ] refl

-- a change that the test doesn't see
pub found_mapped : {A : Type 0} (test : A → Bool) (f : A → A) → ((x : A) → test (f x) ≡ test x) → (xs : List A) → find test (map f xs) ≡ option_map f (find test xs)
found_mapped test f same [] = refl
found_mapped test f same (x ∷ xs) =
    let rest = found_mapped test f same xs in
    ap (λ b. cond b (Some (f x)) (find test (map f xs))) (same x)
    ∙ elim (test x)
    as (λ b. cond b (Some (f x)) (find test (map f xs)) ≡ option_map f (cond b (Some x) (find test xs)))
    [ true ↦ refl | false ↦ rest ]

-- if no row of a table of refusals holds, its first doesn't, nor one of the others
pub row_false : (b : Bool) (r : Refusal) (rows : List (Bool × Refusal)) → first_that_holds ((b, r) ∷ rows) ≡ None → (b ≡ false) × (first_that_holds rows ≡ None)
row_false true r rows e = cc e
row_false false r rows e = (refl, e)

-- if neither of two refusals holds
pub both_none : (a b : Option Refusal) → or_refusal a b ≡ None → (a ≡ None) × (b ≡ None)
both_none None b e = (refl, e)
both_none (Some r) b e = cc e

none_below : (n : ℕ) → nat_lt n 0 ≡ true → ⊥
none_below n h = grind (arith, nat_tests, h)

-- the worse of a completed phase and another is completed
worst_completed : (p q : Phase) → is_completed p ≡ true → is_completed (worst p q) ≡ true
worst_completed p q e =
    elim (nat_lt (badness p) (badness q))
    as (λ b. nat_lt (badness p) (badness q) ≡ b → is_completed (if b then q else p) ≡ true) [
      | true ↦ λ t. worse q t
      | false ↦ λ t. e
    ] refl
  where
    worse : (q : Phase) → nat_lt (badness p) (badness q) ≡ true → is_completed q ≡ true
    worse Failed t = refl
    worse Error t = refl
    worse Inconclusive t = refl
    worse Successful t = refl
    worse Pending t = absurd (none_below (badness p) t)
    worse Running t = absurd (none_below (badness p) t)

-- the worst of a completed phase and others is completed
pub fold_completed : (p : Phase) (ps : List Phase) → is_completed p ≡ true → is_completed (fold worst p ps) ≡ true
fold_completed p [] e = e
fold_completed p (q ∷ ps) e = fold_completed (worst p q) ps (worst_completed p q e)
