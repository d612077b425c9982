-- The last measurements that are successes, counted one after another.
use Rattle.std.proofs.Common.{◌≡◌, ℕ, zero, suc, ◌+◌, ◌-◌, ◌<◌, ◌≤◌, List, [], ◌∷◌, length, map, take, get_or, Bool, true, false, if◌then◌else◌, refl, sym, ap, subst, ◌∙◌, arith}
use Rattle.std.specs.List.{AllByRecursion, suffix_len}
use Rattle.std.proofs.lemmas.List.{take_all}
use Rattle.std.proofs.lemmas.List.Sums.{suffix_len-take_no, suffix_len-take_yes}
use Rattle.canary_tables_rows.specs.declared.rows.TallyRow.{TallyRow}
use Rattle.canary_tables_rows.specs.Limits.{IsTallyWithin}

pub one_within : {X : Type 0} (f : X → TallyRow) (xs : List X) (i : ℕ) (x : X) → i < length xs → x ≡ get_or xs i x → AllByRecursion IsTallyWithin (map f xs) → IsTallyWithin (f x)
one_within f [] i x low is h = absurd (omega arith)
one_within f (y ∷ xs) zero x low is h = subst (λ z. IsTallyWithin (f z)) (sym is) h.0
one_within f (y ∷ xs) (suc i) x low is h = one_within f xs i x (omega arith) is h.1

module _ {X : Type 0} (test : X → Bool) (xs : List X) (i : ℕ) (x : X) (low : i < length xs) (is : x ≡ get_or xs i x) where
  here : (n : ℕ) → n ≡ i + 1 → get_or xs (n - 1) x ≡ x
  here n e = let at : n - 1 ≡ i = omega (arith, e) in ap (λ k. get_or xs k x) at ∙ sym is

  pub passed_more : (passes : ℕ) → passes ≡ suffix_len test (take i xs) → test x ≡ true → passes + 1 ≡ suffix_len test (take (i + 1) xs)
  passed_more passes so passed =
      let last : test (get_or xs ((i + 1) - 1) x) ≡ true = ap test (here (i + 1) (omega arith)) ∙ passed in
      let all = suffix_len-take_yes test xs (i + 1) x (omega arith) (omega (arith, low)) last in
      let at : (i + 1) - 1 ≡ i = omega arith in
      let before : suffix_len test (take ((i + 1) - 1) xs) ≡ passes = ap (λ k. suffix_len test (take k xs)) at ∙ sym so in
      omega (arith, all, before)

  pub failed_more : test x ≡ false → 0 ≡ suffix_len test (take (i + 1) xs)
  failed_more fails =
      let last : test (get_or xs ((i + 1) - 1) x) ≡ false = ap test (here (i + 1) (omega arith)) ∙ fails in
      sym (suffix_len-take_no test xs (i + 1) x (omega arith) (omega (arith, low)) last)

  pub one_counted : (passes more : ℕ) → passes ≡ suffix_len test (take i xs) → more ≡ (if test x then passes + 1 else 0) → more ≡ suffix_len test (take (i + 1) xs)
  one_counted passes more so counted = counted ∙ by_cases (test x) refl
    where
      by_cases : (b : Bool) → test x ≡ b → (if b then passes + 1 else 0) ≡ suffix_len test (take (i + 1) xs)
      by_cases true passed = passed_more passes so passed
      by_cases false fails = failed_more fails

pub all_passed : {X : Type 0} (test : X → Bool) (xs : List X) (i passes : ℕ) → length xs ≤ i → passes ≡ suffix_len test (take i xs) → passes ≡ suffix_len test xs
all_passed test xs i passes all so = so ∙ ap (suffix_len test) (take_all i xs all)
