-- The templates that have one of some names, found one after another.
use Rattle.std.proofs.Common.{◌≡◌, ℕ, ◌+◌, ◌<◌, List, [], ◌∷◌, ◌++◌, length, take, get_or, Bool, true, false, Some, None, refl, sym, ap, ◌∙◌, subst, append_assoc}
use Rattle.std.specs.Prelude.{Option, ◌||◌, cond}
use Rattle.std.specs.List.{list_any, AllByRecursion}
use Rattle.std.specs.Ordering.{nat_cmp}
use Rattle.std.specs.Cmp.Lexicographic.{slice_cmp, nat_list_cmp_total}
use Rattle.std.specs.Str.{bytes_eq}
use Rattle.std.specs.FinMap.{FinMap, get, insert, empty, get-insert, get-empty}
use Rattle.std.proofs.lemmas.Map.Text.{is_eq-slice_cmp}
use Rattle.std.proofs.lemmas.Slice.Eq.{bytes_eq-Decides}
use Rattle.std.proofs.lemmas.List.{take_more}
use Rattle.std.proofs.lemmas.List.Folds.{list_any-append}
use Rattle.canary_plan.specs.declared.template.Template.{Template}
use Rattle.canary_plan.specs.Plans.{Templates, Agree}
use Rattle.canary_tables_adopt.specs.Strategies.{known_among}

abbrev pub Found : Type 0
Found = FinMap (slice_cmp nat_cmp) Template

-- what stands under a name once one more is put
pub got_more : (found : Found) (name : List ℕ) (x : Template) (q : List ℕ) → get (insert found name x) q ≡ cond (bytes_eq q name) (Some x) (get found q)
got_more found name x q = get-insert nat_list_cmp_total found name x q ∙ ap (λ b. cond b (Some x) (get found q)) (is_eq-slice_cmp q name)

one_more : (names : List (List ℕ)) (name q : List ℕ) → list_any (bytes_eq q) (names ++ name ∷ []) ≡ (list_any (bytes_eq q) names || bytes_eq q name)
one_more names name q = list_any-append (bytes_eq q) names (name ∷ []) ∙ last_alone (list_any (bytes_eq q) names) (bytes_eq q name)
  where
    last_alone : (a b : Bool) → (a || (b || false)) ≡ (a || b)
    last_alone true b = refl
    last_alone false true = refl
    last_alone false false = refl

same_or_none : (known : Templates) (name q : List ℕ) (x : Template) (a b : Bool) → known name ≡ Some x → bytes_eq q name ≡ b → cond b (Some x) (cond a (known q) None) ≡ cond (a || b) (known q) None
same_or_none known name q x true true is same = sym (ap known ((bytes_eq-Decides q name).0 same) ∙ is)
same_or_none known name q x false true is same = sym (ap known ((bytes_eq-Decides q name).0 same) ∙ is)
same_or_none known name q x true false is same = refl
same_or_none known name q x false false is same = refl

none_or_none : (known : Templates) (name q : List ℕ) (a b : Bool) → known name ≡ None → bytes_eq q name ≡ b → cond a (known q) None ≡ cond (a || b) (known q) None
none_or_none known name q true b is same = refl
none_or_none known name q false true is same = sym (ap known ((bytes_eq-Decides q name).0 same) ∙ is)
none_or_none known name q false false is same = refl

pub none_among : (known : Templates) (found : Found) → found ≡ empty → get found ≡ known_among known []
none_among known found is = λ i q. (ap (λ (m : Found). get m q) is ∙ get-empty (slice_cmp nat_cmp) q) i

one_found : (known : Templates) (found : Found) (names : List (List ℕ)) (name : List ℕ) (x : Template) → get found ≡ known_among known names → known name ≡ Some x → get (insert found name x) ≡ known_among known (names ++ name ∷ [])
one_found known found names name x before is =
    λ i q.
    (got_more found name x q
    ∙ ap (cond (bytes_eq q name) (Some x)) (λ j. before j q)
    ∙ same_or_none known name q x (list_any (bytes_eq q) names) (bytes_eq q name) is refl
    ∙ ap (λ b. cond b (known q) None) (sym (one_more names name q))) i

none_found : (known : Templates) (found : Found) (names : List (List ℕ)) (name : List ℕ) → get found ≡ known_among known names → known name ≡ None → get found ≡ known_among known (names ++ name ∷ [])
none_found known found names name before is =
    λ i q.
    ((λ j. before j q)
    ∙ none_or_none known name q (list_any (bytes_eq q) names) (bytes_eq q name) is refl
    ∙ ap (λ b. cond b (known q) None) (sym (one_more names name q))) i

-- the steps of a loop over the names

pub found_more : (known : Templates) (found new : Found) (names : List (List ℕ)) (i : ℕ) (name : List ℕ) (x : Template) → i < length names → name ≡ get_or names i name → get found ≡ known_among known (take i names) → Some x ≡ known name → new ≡ insert found name x → get new ≡ known_among known (take (i + 1) names)
found_more known found new names i name x lt at before there is =
    ap (λ (m : Found). get m) is
    ∙ one_found known found (take i names) name x before (sym there)
    ∙ ap (known_among known) (sym (take_more names i name lt ∙ ap (λ (n : List ℕ). take i names ++ n ∷ []) (sym at)))

pub found_none : (known : Templates) (found new : Found) (names : List (List ℕ)) (i : ℕ) (name : List ℕ) → i < length names → name ≡ get_or names i name → get found ≡ known_among known (take i names) → None ≡ known name → new ≡ found → get new ≡ known_among known (take (i + 1) names)
found_none known found new names i name lt at before there is =
    ap (λ (m : Found). get m) is
    ∙ none_found known found (take i names) name before (sym there)
    ∙ ap (known_among known) (sym (take_more names i name lt ∙ ap (λ (n : List ℕ). take i names ++ n ∷ []) (sym at)))

-- they are the same under each of the names

or_true : (a b : Bool) → b ≡ true → (a || b) ≡ true
or_true true b is = refl
or_true false b is = is

is_named : (before rest : List (List ℕ)) (name : List ℕ) → list_any (bytes_eq name) (before ++ name ∷ rest) ≡ true
is_named before rest name =
    list_any-append (bytes_eq name) before (name ∷ rest)
    ∙ or_true (list_any (bytes_eq name) before) (bytes_eq name name || list_any (bytes_eq name) rest) (ap (λ b. b || list_any (bytes_eq name) rest) ((bytes_eq-Decides name name).1 refl))

agree_behind : (known : Templates) (before rest : List (List ℕ)) → Agree (known_among known (before ++ rest)) known rest
agree_behind known before [] = tt
agree_behind known before (name ∷ rest) = (
  ap (λ b. cond b (known name) None) (is_named before rest name),
  subst (λ (names : List (List ℕ)). Agree (known_among known names) known rest) (append_assoc before (name ∷ []) rest) (agree_behind known (before ++ name ∷ []) rest),
)

pub agree_then : (shown known : Templates) (names wanted : List (List ℕ)) → shown ≡ known_among known names → names ≡ wanted → Agree shown known wanted
agree_then shown known names wanted is same = subst (λ (k : Templates). Agree k known wanted) (sym (is ∙ ap (known_among known) same)) (agree_behind known [] wanted)
