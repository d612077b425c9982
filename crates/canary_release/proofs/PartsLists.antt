-- Tests on lists, and on lists of runs: a list that grows, shrinks or is changed in its elements.
use Rattle.std.proofs.Common.{◌≡◌, ℕ, suc, ◌≤◌, List, [], ◌∷◌, ◌++◌, length, refl, ap, ◌∙◌, arith, subst}
use Rattle.std.specs.Prelude.{Bool, true, false, cond, not, ◌&&◌, ◌||◌, ◌==◌, map, filter, find, Option, Some, None}
use Rattle.std.specs.List.{list_any}
use Rattle.std.proofs.lemmas.Bool.Decides.{nat_tests}
use Rattle.canary_release.specs.declared.runs.OpenRun.{OpenRun}
use Rattle.canary_release.specs.Watching.{is_other}
use Rattle.canary_release.specs.Evolutions.{has_number}
use Rattle.canary_release.specs.Parts.{repeats_number}

pub or_left : (a b : Bool) → (a || b) ≡ false → a ≡ false
or_left true b h = cc h
or_left false b h = refl

pub or_right : (a b : Bool) → (a || b) ≡ false → b ≡ false
or_right true b h = cc h
or_right false b h = h

pub neither : (a b : Bool) → a ≡ false → b ≡ false → (a || b) ≡ false
neither a b g h = rw g h

pub and_with : (a b : Bool) → (a && b) ≡ false → a ≡ true → b ≡ false
and_with true b h e = h
and_with false b h e = cc e

pub and_false : (a b : Bool) → b ≡ false → (a && b) ≡ false
and_false true b h = h
and_false false b h = refl

some_same : {X : Type 0} (x y : X) → ◌≡◌ {A = Option X} (Some x) (Some y) → x ≡ y
some_same x y h = cc h

-- no element passes a test

pub any_weaker : {X : Type 0} (p q : X → Bool) → ((x : X) → p x ≡ false → q x ≡ false) → (xs : List X) → list_any p xs ≡ false → list_any q xs ≡ false
any_weaker p q w [] h = refl
any_weaker p q w (x ∷ xs) h = neither (q x) (list_any q xs) (w x (or_left (p x) (list_any p xs) h)) (any_weaker p q w xs (or_right (p x) (list_any p xs) h))

pub any_both : {X : Type 0} (p q r : X → Bool) → ((x : X) → p x ≡ false → q x ≡ false → r x ≡ false) → (xs : List X) → list_any p xs ≡ false → list_any q xs ≡ false → list_any r xs ≡ false
any_both p q r w [] g h = refl
any_both p q r w (x ∷ xs) g h =
    neither (r x) (list_any r xs) (w x (or_left (p x) (list_any p xs) g) (or_left (q x) (list_any q xs) h)) (any_both p q r w xs (or_right (p x) (list_any p xs) g) (or_right (q x) (list_any q xs) h))

pub any_push : {X : Type 0} (p : X → Bool) (xs : List X) (x : X) → list_any p xs ≡ false → p x ≡ false → list_any p (xs ++ x ∷ []) ≡ false
any_push p [] x g h = neither (p x) false h refl
any_push p (y ∷ ys) x g h = neither (p y) (list_any p (ys ++ x ∷ [])) (or_left (p y) (list_any p ys) g) (any_push p ys x (or_right (p y) (list_any p ys) g) h)

pub any_push_other : {X : Type 0} (p : X → Bool) (xs : List X) (x : X) → p x ≡ false → list_any p (xs ++ x ∷ []) ≡ list_any p xs
any_push_other p [] x h = rw h refl
any_push_other p (y ∷ ys) x h = ap (λ b. p y || b) (any_push_other p ys x h)

pub any_filtered : {X : Type 0} (t p q : X → Bool) → ((x : X) → t x ≡ true → p x ≡ false → q x ≡ false) → (xs : List X) → list_any p xs ≡ false → list_any q (filter t xs) ≡ false
any_filtered t p q w [] h = refl
any_filtered t p q w (x ∷ xs) h =
    let rest = any_filtered t p q w xs (or_right (p x) (list_any p xs) h) in
    elim (t x)
    as (λ b. t x ≡ b → list_any q (cond b (x ∷ filter t xs) (filter t xs)) ≡ false)
    [ true ↦ λ e. neither (q x) (list_any q (filter t xs)) (w x e (or_left (p x) (list_any p xs) h)) rest | false ↦ λ e. rest ] refl

pub any_filter : {X : Type 0} (t p : X → Bool) (xs : List X) → list_any p xs ≡ false → list_any p (filter t xs) ≡ false
any_filter t p xs h = any_filtered t p p (λ x e g. g) xs h

pub any_map : {X : Type 0} (f : X → X) (p q : X → Bool) → ((x : X) → p x ≡ false → q (f x) ≡ false) → (xs : List X) → list_any p xs ≡ false → list_any q (map f xs) ≡ false
any_map f p q w [] h = refl
any_map f p q w (x ∷ xs) h = neither (q (f x)) (list_any q (map f xs)) (w x (or_left (p x) (list_any p xs) h)) (any_map f p q w xs (or_right (p x) (list_any p xs) h))

pub any_map_same : {X : Type 0} (f : X → X) (p : X → Bool) → ((x : X) → p (f x) ≡ p x) → (xs : List X) → list_any p (map f xs) ≡ list_any p xs
any_map_same f p same [] = refl
any_map_same f p same (x ∷ xs) = rw (same x) (ap (λ b. p x || b) (any_map_same f p same xs))

-- at most one element passes a test

pub few_push_other : {X : Type 0} (p : X → Bool) (xs : List X) (x : X) → p x ≡ false → length (filter p (xs ++ x ∷ [])) ≡ length (filter p xs)
few_push_other p [] x h = rw h refl
few_push_other p (y ∷ ys) x h =
    let rest = few_push_other p ys x h in
    elim (p y) as (λ b. length (cond b (y ∷ filter p (ys ++ x ∷ [])) (filter p (ys ++ x ∷ []))) ≡ length (cond b (y ∷ filter p ys) (filter p ys))) [ true ↦ ap suc rest | false ↦ rest ]

pub few_push_first : {X : Type 0} (p : X → Bool) (xs : List X) (x : X) → list_any p xs ≡ false → length (filter p (xs ++ x ∷ [])) ≤ 1
few_push_first p [] x h = elim (p x) as (λ b. length (cond b (x ∷ []) []) ≤ 1) [ true ↦ omega arith | false ↦ omega arith ]
few_push_first p (y ∷ ys) x h = rw (or_left (p y) (list_any p ys) h) (few_push_first p ys x (or_right (p y) (list_any p ys) h))

pub few_filter : {X : Type 0} (t p : X → Bool) (xs : List X) → length (filter p (filter t xs)) ≤ length (filter p xs)
few_filter t p [] = omega arith
few_filter t p (x ∷ xs) =
    let rest : length (filter p (filter t xs)) ≤ length (filter p xs) = few_filter t p xs in
    elim (t x) as (λ b. length (filter p (cond b (x ∷ filter t xs) (filter t xs))) ≤ length (cond (p x) (x ∷ filter p xs) (filter p xs))) [
      | true ↦ elim (p x) as (λ b. length (cond b (x ∷ filter p (filter t xs)) (filter p (filter t xs))) ≤ length (cond b (x ∷ filter p xs) (filter p xs))) [ true ↦ omega arith | false ↦ rest ]
      | false ↦ elim (p x) as (λ b. length (filter p (filter t xs)) ≤ length (cond b (x ∷ filter p xs) (filter p xs))) [ true ↦ omega arith | false ↦ rest ]
    ]

pub few_map : {X : Type 0} (f : X → X) (p : X → Bool) → ((x : X) → p (f x) ≡ p x) → (xs : List X) → length (filter p (map f xs)) ≡ length (filter p xs)
few_map f p same [] = refl
few_map f p same (x ∷ xs) =
    let rest = few_map f p same xs in
    rw (same x) (elim (p x) as (λ b. length (cond b (f x ∷ filter p (map f xs)) (filter p (map f xs))) ≡ length (cond b (x ∷ filter p xs) (filter p xs))) [ true ↦ ap suc rest | false ↦ rest ])

pub none_filtered : {X : Type 0} (p : X → Bool) (xs : List X) → length (filter p xs) ≤ 0 → list_any p xs ≡ false
none_filtered p [] h = refl
none_filtered p (x ∷ xs) h =
    elim (p x) as (λ b. length (cond b (x ∷ filter p xs) (filter p xs)) ≤ 0 → (b || list_any p xs) ≡ false) [ true ↦ λ e. absurd (omega arith) | false ↦ λ e. none_filtered p xs e ] h

pub few_none : {X : Type 0} (p : X → Bool) (xs : List X) → list_any p xs ≡ false → length (filter p xs) ≤ 1
few_none p [] h = omega arith
few_none p (x ∷ xs) h = rw (or_left (p x) (list_any p xs) h) (few_none p xs (or_right (p x) (list_any p xs) h))

-- an element that is found

pub found_passes : {X : Type 0} (t : X → Bool) (xs : List X) (r : X) → find t xs ≡ Some r → t r ≡ true
found_passes t [] r h = cc h
found_passes t (x ∷ xs) r h =
    elim (t x) as (λ b. t x ≡ b → cond b (Some x) (find t xs) ≡ Some r → t r ≡ true) [
      | true ↦ λ e g. subst (λ y. t y ≡ true) (some_same x r g) e
      | false ↦ λ e g. found_passes t xs r g
    ] refl h

pub found_false : {X : Type 0} (t p : X → Bool) (xs : List X) (r : X) → find t xs ≡ Some r → list_any p xs ≡ false → p r ≡ false
found_false t p [] r h g = cc h
found_false t p (x ∷ xs) r h g =
    elim (t x) as (λ b. cond b (Some x) (find t xs) ≡ Some r → p r ≡ false) [
      | true ↦ λ e. subst (λ y. p y ≡ false) (some_same x r e) (or_left (p x) (list_any p xs) g)
      | false ↦ λ e. found_false t p xs r e (or_right (p x) (list_any p xs) g)
    ] h

pub found_any : {X : Type 0} (t p : X → Bool) (xs : List X) (r : X) → find t xs ≡ Some r → p r ≡ true → list_any p xs ≡ true
found_any t p [] r h g = cc h
found_any t p (x ∷ xs) r h g =
    elim (t x) as (λ b. cond b (Some x) (find t xs) ≡ Some r → (p x || list_any p xs) ≡ true) [
      | true ↦ λ e. rw (ap p (some_same x r e) ∙ g) refl
      | false ↦ λ e. elim (p x) as (λ b. (b || list_any p xs) ≡ true) [ true ↦ refl | false ↦ found_any t p xs r e g ]
    ] h

pub not_found : {X : Type 0} (t : X → Bool) (xs : List X) → find t xs ≡ None → list_any t xs ≡ false
not_found t [] h = refl
not_found t (x ∷ xs) h = elim (t x) as (λ b. cond b (Some x) (find t xs) ≡ None → (b || list_any t xs) ≡ false) [ true ↦ λ e. cc e | false ↦ λ e. not_found t xs e ] h

found_counts : {X : Type 0} (t p : X → Bool) (xs : List X) (r : X) → find t xs ≡ Some r → p r ≡ true → 1 ≤ length (filter p xs)
found_counts t p [] r h g = cc h
found_counts t p (x ∷ xs) r h g =
    elim (t x) as (λ b. cond b (Some x) (find t xs) ≡ Some r → 1 ≤ length (cond (p x) (x ∷ filter p xs) (filter p xs))) [
      | true ↦ λ e. let passes : p x ≡ true = ap p (some_same x r e) ∙ g in rw passes (omega arith)
      | false ↦ λ e.
          let rest : 1 ≤ length (filter p xs) = found_counts t p xs r e g in
          elim (p x) as (λ b. 1 ≤ length (cond b (x ∷ filter p xs) (filter p xs))) [ true ↦ omega arith | false ↦ rest ]
    ] h

-- if one element at most passes, and it is found and taken away, none passes
pub only_one : {X : Type 0} (t p : X → Bool) (xs : List X) (r : X) → find t xs ≡ Some r → p r ≡ true → length (filter p xs) ≤ 1 → list_any p (filter (λ x. not (t x)) xs) ≡ false
only_one t p [] r h g few = refl
only_one t p (x ∷ xs) r h g few =
    elim (t x) as (λ b. cond b (Some x) (find t xs) ≡ Some r → list_any p (cond (not b) (x ∷ filter (λ y. not (t y)) xs) (filter (λ y. not (t y)) xs)) ≡ false) [
      | true ↦ λ e.
          let passes : p x ≡ true = ap p (some_same x r e) ∙ g in
          let none : length (filter p xs) ≤ 0 = (let all = rw passes at few in omega arith) in
          any_filter (λ y. not (t y)) p xs (none_filtered p xs none)
      | false ↦ λ e.
          elim (p x) as (λ b. length (cond b (x ∷ filter p xs) (filter p xs)) ≤ 1 → (b || list_any p (filter (λ y. not (t y)) xs)) ≡ false) [
            | true ↦ λ f. let more : 1 ≤ length (filter p xs) = found_counts t p xs r e g in absurd (omega arith)
            | false ↦ λ f. only_one t p xs r e g f
          ] few
    ] h

-- numbers of runs

other_way : (a b : ℕ) → (a == b) ≡ false → (b == a) ≡ false
other_way a b h = grind (arith, nat_tests)

pub repeats_push : (rs : List OpenRun) (x : OpenRun) → repeats_number rs ≡ false → list_any (has_number x.number) rs ≡ false → repeats_number (rs ++ x ∷ []) ≡ false
repeats_push [] x g h = refl
repeats_push (r ∷ rs) x g h =
    neither (list_any (has_number r.number) (rs ++ x ∷ [])) (repeats_number (rs ++ x ∷ []))
    (any_push (has_number r.number) rs x (or_left (list_any (has_number r.number) rs) (repeats_number rs) g) (other_way r.number x.number (or_left (has_number x.number r) (list_any (has_number x.number) rs) h)))
    (repeats_push rs x (or_right (list_any (has_number r.number) rs) (repeats_number rs) g) (or_right (has_number x.number r) (list_any (has_number x.number) rs) h))

pub repeats_filter : (t : OpenRun → Bool) (rs : List OpenRun) → repeats_number rs ≡ false → repeats_number (filter t rs) ≡ false
repeats_filter t [] h = refl
repeats_filter t (r ∷ rs) h =
    let rest = repeats_filter t rs (or_right (list_any (has_number r.number) rs) (repeats_number rs) h) in
    elim (t r) as (λ b. repeats_number (cond b (r ∷ filter t rs) (filter t rs)) ≡ false) [
      | true ↦ neither (list_any (has_number r.number) (filter t rs)) (repeats_number (filter t rs)) (any_filter t (has_number r.number) rs (or_left (list_any (has_number r.number) rs) (repeats_number rs) h)) rest
      | false ↦ rest
    ]

pub repeats_map : (f : OpenRun → OpenRun) → ((r : OpenRun) → (f r).number ≡ r.number) → (rs : List OpenRun) → repeats_number rs ≡ false → repeats_number (map f rs) ≡ false
repeats_map f same [] h = refl
repeats_map f same (r ∷ rs) h =
    neither (list_any (has_number (f r).number) (map f rs)) (repeats_number (map f rs))
    (rw (same r) (any_map f (has_number r.number) (has_number r.number) (λ q e. rw (same q) e) rs (or_left (list_any (has_number r.number) rs) (repeats_number rs) h)))
    (repeats_map f same rs (or_right (list_any (has_number r.number) rs) (repeats_number rs) h))

-- a test that is of the other runs alone
abbrev pub of_others : ℕ → (OpenRun → Bool) → OpenRun → Bool
of_others n p r = is_other n r && p r

pub of_other : (b c : Bool) → (not b && c) ≡ false → b ≡ false → c ≡ false
of_other b c h e = rw e at h

-- of runs with different numbers, the found one does not pass and the others do not
pub none_of_all : (p : OpenRun → Bool) (n : ℕ) (rs : List OpenRun) (r : OpenRun) → repeats_number rs ≡ false → find (has_number n) rs ≡ Some r → p r ≡ false → list_any (of_others n p) rs ≡ false → list_any p rs ≡ false
none_of_all p n [] r d f h g = refl
none_of_all p n (x ∷ xs) r d f h g =
    elim (x.number == n) as (λ b. (x.number == n) ≡ b → cond b (Some x) (find (has_number n) xs) ≡ Some r → (p x || list_any p xs) ≡ false) [
      | true ↦ λ e found.
          let same : x.number ≡ n = grind (arith, nat_tests, e) in
          let apart : list_any (has_number n) xs ≡ false = subst (λ k. list_any (has_number k) xs ≡ false) same (or_left (list_any (has_number x.number) xs) (repeats_number xs) d) in
          neither (p x) (list_any p xs) (ap p (some_same x r found) ∙ h)
          (any_both (has_number n) (of_others n p) p (λ y a o. of_other (y.number == n) (p y) o a) xs apart (or_right (of_others n p x) (list_any (of_others n p) xs) g))
      | false ↦ λ e found.
          neither (p x) (list_any p xs) (of_other (x.number == n) (p x) (or_left (of_others n p x) (list_any (of_others n p) xs) g) e)
          (none_of_all p n xs r (or_right (list_any (has_number x.number) xs) (repeats_number xs) d) found h (or_right (of_others n p x) (list_any (of_others n p) xs) g))
    ] refl f

-- if no run has that number, the others are all
pub none_without : (p : OpenRun → Bool) (n : ℕ) (rs : List OpenRun) → find (has_number n) rs ≡ None → list_any (of_others n p) rs ≡ false → list_any p rs ≡ false
none_without p n rs f g = any_both (has_number n) (of_others n p) p (λ y a o. of_other (y.number == n) (p y) o a) rs (not_found (has_number n) rs f) g
