-- The open runs among the first of a service.
use Rattle.std.proofs.Common.{◌≡◌, ◌<◌, ◌&&◌, ℕ, zero, suc, List, [], ◌∷◌, length, filter, take, if◌then◌else◌, Bool, true, false, refl, sym, ap, subst, ◌∙◌, arith, IsPermutation}
use Rattle.std.specs.List.{AllByRecursion}
use Rattle.std.proofs.lemmas.List.Sorted.{IsPermutation-trans}
use Rattle.sqlite.specs.Tree.{IsAscending}
use Rattle.sqlite_keyed.proofs.ListLemmas.{IsPermutation-filter, filter_none, all_weaker}
use Rattle.canary_tables_rows.specs.declared.rows.RunRow.{RunRow}
use Rattle.canary_tables_rows.specs.Tables.{is_open_run_of}
use Rattle.canary_tables_read.specs.Sorts.{Sorts, IsFront, is_open, is_run_of, number_of}
use Rattle.canary_tables_read.proofs.Breaking.{all_taken}

module _ {X : Type 0} (p q : X → Bool) where
  both_step : (a b : Bool) (x : X) (inner outer : List X) → filter p inner ≡ outer → p x ≡ b → filter p (if a then x ∷ inner else inner) ≡ (if a && b then x ∷ outer else outer)
  both_step true true x inner outer h e = rw (e, h) refl
  both_step true false x inner outer h e = rw (e, h) refl
  both_step false b x inner outer h e = h

  pub filter_both : (xs : List X) → filter p (filter q xs) ≡ filter (λ x. q x && p x) xs
  filter_both [] = refl
  filter_both (x ∷ xs) = both_step (q x) (p x) x (filter q xs) (filter (λ y. q y && p y) xs) (filter_both xs) refl

-- If fewer than were asked for pass a test, and none that passes comes after one that does not, these are all.
module _ {X : Type 0} (p : X → Bool) where
  abbrev PassFirst : List X → Type 0
  PassFirst = IsAscending (λ x y. p y ≡ true → p x ≡ true)

  fails : (b c : Bool) → c ≡ false → (b ≡ true → c ≡ true) → b ≡ false
  fails true c e h = absurd (let k = h refl in cc)
  fails false c e h = refl

  none_behind : (x : X) (xs : List X) → p x ≡ false → AllByRecursion (λ y. p y ≡ true → p x ≡ true) xs → AllByRecursion (λ y. p y ≡ false) xs
  none_behind x xs e h = all_weaker (λ y. p y ≡ true → p x ≡ true) (λ y. p y ≡ false) (λ y k. fails (p y) (p x) e k) xs h

  front_step : (b : Bool) (n : ℕ) (x : X) (few all : List X) → length (if b then x ∷ few else few) < suc n → (length few < n → few ≡ all) → (b ≡ false → few ≡ all) → (if b then x ∷ few else few) ≡ (if b then x ∷ all else all)
  front_step true n x few all lt h k = ap (λ others. x ∷ others) (h (omega arith))
  front_step false n x few all lt h k = k refl

  pub front_all : (n : ℕ) (xs : List X) → PassFirst xs → length (filter p (take n xs)) < n → filter p (take n xs) ≡ filter p xs
  front_all zero xs up lt = absurd (omega arith)
  front_all (suc n) [] up lt = refl
  front_all (suc n) (x ∷ xs) up lt =
      front_step (p x) n x (filter p (take n xs)) (filter p xs) lt (front_all n xs up.1)
      (λ e. let none = none_behind x xs e up.0 in filter_none p (take n xs) (all_taken (λ y. p y ≡ false) n xs none) ∙ sym (filter_none p xs none))

-- fewer than three open ones among the first three: these are all
pub open_found : (service : List ℕ) (runs front open_ones found : List RunRow) → IsFront 3 (filter (is_run_of service) runs) front → open_ones ≡ filter is_open front → length open_ones < 3 → Sorts number_of open_ones found
    → Sorts number_of (filter (is_open_run_of service) runs) found
open_found service runs front open_ones found f is few sorts =
    let taken : open_ones ≡ filter is_open (take 3 f.ordered) = is ∙ ap (filter is_open) f.front in
    let all : open_ones ≡ filter is_open f.ordered = taken ∙ front_all is_open 3 f.ordered f.open_first (subst (λ xs. length xs < 3) taken few) in
    let moved : IsPermutation (filter (is_open_run_of service) runs) open_ones =
    subst (λ xs. IsPermutation xs open_ones) (filter_both is_open (is_run_of service) runs) (subst (IsPermutation (filter is_open (filter (is_run_of service) runs))) (sym all) (IsPermutation-filter is_open _ _ f.same)) in
    record { same = IsPermutation-trans _ _ _ moved sorts.same; ascend = sorts.ascend }
