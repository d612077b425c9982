-- One name after another, with those that were seen before.
use Rattle.std.proofs.Common.{◌≡◌, ℕ, suc, ◌+◌, ◌<◌, drop, Bool, true, false, List, [], ◌∷◌, length, refl, ap, sym, ◌∙◌, arith}
use Rattle.std.specs.Prelude.{◌||◌, cond}
use Rattle.std.specs.List.{list_any}
use Rattle.std.specs.Str.{bytes_eq}
use Rattle.std.specs.Ordering.{nat_cmp, is_eq}
use Rattle.std.specs.Cmp.Lexicographic.{slice_cmp}
use Rattle.std.specs.BTreeSet.{BTreeSet, contains}
use Rattle.std.proofs.Math.Seq.{drop-cons}
use Rattle.std.proofs.Math.ListN.{get_or}
use Rattle.std.specs.BTreeMap.{is_at}
use Rattle.std.proofs.lemmas.Map.Text.{is_eq-slice_cmp}
use Rattle.canary_plan.specs.PlanRefusals.{has_duplicate}

-- a name that was seen stands among these, or one of these stands twice
abbrev pub repeats : (List ℕ → Bool) → List (List ℕ) → Bool
repeats seen names = list_any seen names || has_duplicate names

abbrev pub is_seen : BTreeSet (List ℕ) → List ℕ → Bool
is_seen seen name = contains (slice_cmp nat_cmp) seen name

none_at : (names : List (List ℕ)) → list_any (λ name. false) names ≡ false
none_at [] = refl
none_at (name ∷ names) = none_at names

at_no_keys : (keys names : List (List ℕ)) → length keys ≡ 0 → repeats (λ name. list_any (is_at (slice_cmp nat_cmp name)) keys) names ≡ has_duplicate names
at_no_keys [] names h = ap (λ b. b || has_duplicate names) (none_at names)
at_no_keys (key ∷ keys) names h = absurd (omega arith)

-- with nothing seen
pub at_first : (seen : BTreeSet (List ℕ)) (names : List (List ℕ)) → length seen.keys ≡ 0 → repeats (is_seen seen) names ≡ has_duplicate names
at_first seen names h = at_no_keys seen.keys names h

turned : (a b c d : Bool) → ((a || b) || (c || d)) ≡ ((a || c) || (b || d))
turned true b c d = refl
turned false true true d = refl
turned false true false d = refl
turned false false c d = refl

shifted : (a b c : Bool) → ((a || b) || c) ≡ (b || (a || c))
shifted true true c = refl
shifted true false c = refl
shifted false b c = refl

any_of_both : (p q r : List ℕ → Bool) (names : List (List ℕ)) → ((name : List ℕ) → r name ≡ (p name || q name)) → list_any r names ≡ (list_any p names || list_any q names)
any_of_both p q r [] h = refl
any_of_both p q r (name ∷ names) h =
    ap (λ b. b || list_any r names) (h name) ∙ ap (λ b. (p name || q name) || b) (any_of_both p q r names h) ∙ turned (p name) (q name) (list_any p names) (list_any q names)

pub chosen : (a b : Bool) → cond a true b ≡ (a || b)
chosen true b = refl
chosen false b = refl

-- one name more, which was not seen
pub one_more : (old new : BTreeSet (List ℕ)) (name : List ℕ) (names : List (List ℕ)) → ((q : List ℕ) → is_seen new q ≡ cond (is_eq (slice_cmp nat_cmp name q)) true (is_seen old q))
    → is_seen old name ≡ false → repeats (is_seen new) names ≡ repeats (is_seen old) (name ∷ names)
one_more old new name names grown fresh =
    ap (λ b. b || has_duplicate names) (any_of_both (bytes_eq name) (is_seen old) (is_seen new) names (λ q.
    grown q ∙ ap (λ b. cond b true (is_seen old q)) (is_eq-slice_cmp name q) ∙ chosen (bytes_eq name q) (is_seen old q)))
    ∙ shifted (list_any (bytes_eq name) names) (list_any (is_seen old) names) (has_duplicate names)
    ∙ sym (ap (λ b. (b || list_any (is_seen old) names) || (list_any (bytes_eq name) names || has_duplicate names)) fresh)

-- one name more, which was seen
pub seen_before : (seen : BTreeSet (List ℕ)) (name : List ℕ) (names : List (List ℕ)) → is_seen seen name ≡ true → repeats (is_seen seen) (name ∷ names) ≡ true
seen_before seen name names again = ap (λ b. (b || list_any (is_seen seen) names) || (list_any (bytes_eq name) names || has_duplicate names)) again

next : (i : ℕ) → suc i ≡ i + 1
next i = omega arith

-- what is left, from the next one on
pub left : {X : Type 0} (xs : List X) (i : ℕ) (x : X) → x ≡ get_or xs i x → i < length xs → x ∷ drop (i + 1) xs ≡ drop i xs
left {X} xs i x is within =
    sym (drop-cons xs i x within ∙ ap (λ (y : X). y ∷ drop (suc i) xs) (sym is) ∙ ap (λ n. x ∷ drop n xs) (next i))
