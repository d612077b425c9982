-- Of each template the first of some revisions.
use Rattle.std.proofs.Common.{◌≡◌, ℕ, Bool, true, false, List, [], ◌∷◌, ◌++◌, length, map, refl, ap, sym, subst, ◌∙◌, arith}
use Rattle.std.specs.Prelude.{◌||◌, ◌&&◌, not, cond, Option, Some, is_some, slice_get}
use Rattle.std.specs.List.{AllByRecursion, filter, find, list_any}
use Rattle.std.specs.Str.{bytes_eq}
use Rattle.std.specs.Ordering.{nat_cmp, is_eq}
use Rattle.std.specs.Cmp.Lexicographic.{slice_cmp}
use Rattle.std.specs.BTreeSet.{BTreeSet}
use Rattle.std.specs.BTreeMap.{is_at}
use Rattle.std.proofs.lemmas.Slice.Eq.{bytes_eq-Decides}
use Rattle.std.proofs.lemmas.Map.Text.{is_eq-slice_cmp}
use Rattle.canary_plan.specs.declared.analysis_parts.Revision.{Revision}
use Rattle.canary_plan.specs.Plans.{is_of_other, distinct}
use Rattle.canary_plan.specs.PlanRefusals.{has_duplicate}
use Rattle.canary_plan.proofs.Seen.{is_seen, chosen}

-- it is a revision of the template of that name
abbrev pub is_named : List ℕ → Revision → Bool
is_named name r = bytes_eq name r.template

and_true : (a : Bool) → (a && true) ≡ a
and_true true = refl
and_true false = refl

and_false : (a : Bool) → (a && false) ≡ false
and_false true = refl
and_false false = refl

-- what two filters keep
filter_both : {X : Type 0} (p q both : X → Bool) → ((x : X) → both x ≡ (p x && q x)) → (xs : List X) → filter p (filter q xs) ≡ filter both xs
filter_both p q both h [] = refl
filter_both {X} p q both h (x ∷ xs) =
    let rest = filter_both p q both h xs in
    let kept : List X = filter both xs in
    elim (q x)
    as (λ (b : Bool). q x ≡ b → filter p (cond b (x ∷ filter q xs) (filter q xs)) ≡ cond (both x) (x ∷ kept) kept) [
      | true ↦ λ t. ap (λ (ys : List X). cond (p x) (x ∷ ys) ys) rest ∙ ap (λ b. cond b (x ∷ kept) kept) (sym (h x ∙ ap (λ b. p x && b) t ∙ and_true (p x)))
      | false ↦ λ t. rest ∙ ap (λ b. cond b (x ∷ kept) kept) (sym (h x ∙ ap (λ b. p x && b) t ∙ and_false (p x)))
    ] refl

-- One revision more, as they are looked through.

abbrev pub is_unseen : BTreeSet (List ℕ) → Revision → Bool
is_unseen seen r = not (is_seen seen r.template)

neither : (a b : Bool) → not (a || b) ≡ (not b && not a)
neither true true = refl
neither true false = refl
neither false true = refl
neither false false = refl

-- a template is seen besides
abbrev pub SeesOneMore : BTreeSet (List ℕ) → BTreeSet (List ℕ) → List ℕ → Type 0
SeesOneMore old new name = (q : List ℕ) → is_seen new q ≡ cond (is_eq (slice_cmp nat_cmp name q)) true (is_seen old q)

unseen : (old new : BTreeSet (List ℕ)) (r : Revision) → SeesOneMore old new r.template → (x : Revision) → is_unseen new x ≡ (is_unseen old x && is_of_other r x)
unseen old new r grown x =
    ap not (grown x.template ∙ ap (λ b. cond b true (is_seen old x.template)) (is_eq-slice_cmp r.template x.template) ∙ chosen (bytes_eq r.template x.template) (is_seen old x.template))
    ∙ neither (bytes_eq r.template x.template) (is_seen old x.template)

all_at_no_keys : (keys : List (List ℕ)) (rs : List Revision) → length keys ≡ 0 → filter (λ (r : Revision). not (list_any (is_at (slice_cmp nat_cmp r.template)) keys)) rs ≡ rs
all_at_no_keys [] [] h = refl
all_at_no_keys [] (r ∷ rs) h = ap (λ (xs : List Revision). r ∷ xs) (all_at_no_keys [] rs h)
all_at_no_keys (key ∷ keys) rs h = absurd (omega arith)

-- with none seen
pub at_first : (found : List Revision) (seen : BTreeSet (List ℕ)) (rs : List Revision) → found ≡ [] → length seen.keys ≡ 0 → found ++ filter (is_unseen seen) (distinct rs) ≡ distinct rs
at_first found seen rs none h = ap (λ (xs : List Revision). xs ++ filter (is_unseen seen) (distinct rs)) none ∙ all_at_no_keys seen.keys (distinct rs) h

append_one : {X : Type 0} (xs : List X) (x : X) (ys : List X) → (xs ++ (x ∷ [])) ++ ys ≡ xs ++ (x ∷ ys)
append_one [] x ys = refl
append_one (z ∷ xs) x ys = ap (λ zs. z ∷ zs) (append_one xs x ys)

rest_unseen : (old new : BTreeSet (List ℕ)) (r : Revision) (rest : List Revision) → SeesOneMore old new r.template → filter (is_unseen old) (filter (is_of_other r) (distinct rest)) ≡ filter (is_unseen new) (distinct rest)
rest_unseen old new r rest grown = filter_both (is_unseen old) (is_of_other r) (is_unseen new) (unseen old new r grown) (distinct rest)

-- one that is the first of its template
pub first_one : (found : List Revision) (old new : BTreeSet (List ℕ)) (r : Revision) (rest : List Revision) → SeesOneMore old new r.template → is_seen old r.template ≡ false
    → (found ++ (r ∷ [])) ++ filter (is_unseen new) (distinct rest) ≡ found ++ filter (is_unseen old) (distinct (r ∷ rest))
first_one found old new r rest grown fresh =
    append_one found r (filter (is_unseen new) (distinct rest))
    ∙ sym (ap (λ b. found ++ cond b (r ∷ filter (is_unseen old) (filter (is_of_other r) (distinct rest))) (filter (is_unseen old) (filter (is_of_other r) (distinct rest)))) (ap not fresh)
    ∙ ap (λ (rs : List Revision). found ++ (r ∷ rs)) (rest_unseen old new r rest grown))

-- and a later one
pub later_one : (found : List Revision) (old new : BTreeSet (List ℕ)) (r : Revision) (rest : List Revision) → SeesOneMore old new r.template → is_seen old r.template ≡ true
    → found ++ filter (is_unseen new) (distinct rest) ≡ found ++ filter (is_unseen old) (distinct (r ∷ rest))
later_one found old new r rest grown again =
    sym (ap (λ b. found ++ cond b (r ∷ filter (is_unseen old) (filter (is_of_other r) (distinct rest))) (filter (is_unseen old) (filter (is_of_other r) (distinct rest)))) (ap not again)
    ∙ ap (λ (rs : List Revision). found ++ rs) (rest_unseen old new r rest grown))

-- What is found among them.

-- a filter that keeps all that a test finds
find_kept : {X : Type 0} (p q : X → Bool) → ((x : X) → p x ≡ true → q x ≡ true) → (xs : List X) → find p (filter q xs) ≡ find p xs
find_kept p q h [] = refl
find_kept {X} p q h (x ∷ xs) =
    elim (q x)
    as (λ (b : Bool). q x ≡ b → find p (cond b (x ∷ filter q xs) (filter q xs)) ≡ cond (p x) (Some x) (find p xs)) [
      | true ↦ λ t. ap (λ (o : Option X). cond (p x) (Some x) o) (find_kept p q h xs)
      | false ↦ λ t. find_kept p q h xs ∙ passed (p x) (λ s. sym t ∙ h x s) (Some x) (find p xs)
    ] refl
  where
    passed : {A : Type 0} (b : Bool) → (b ≡ true → false ≡ true) → (a c : A) → c ≡ cond b a c
    passed true k a c = cc (k refl)
    passed false k a c = refl

same_text : (a b : List ℕ) → bytes_eq a b ≡ true → a ≡ b
same_text a b h = (bytes_eq-Decides a b).0 h

other_text : (name : List ℕ) (r x : Revision) → is_named name r ≡ false → is_named name x ≡ true → is_of_other r x ≡ true
other_text name r x not_r is_x = ap not (ap (bytes_eq r.template) (sym (same_text name x.template is_x)) ∙ turned (bytes_eq r.template name) (λ t. sym not_r ∙ (ap (bytes_eq name) (same_text r.template name t) ∙ itself name)))
  where
    turned : (b : Bool) → (b ≡ true → false ≡ true) → b ≡ false
    turned true k = cc (k refl)
    turned false k = refl

    itself : (name : List ℕ) → bytes_eq name name ≡ true
    itself name = (bytes_eq-Decides name name).1 refl

-- the first revision of a template is the one among them
pub find_distinct : (name : List ℕ) (rs : List Revision) → find (is_named name) (distinct rs) ≡ find (is_named name) rs
find_distinct name [] = refl
find_distinct name (r ∷ rs) =
    elim (is_named name r)
    as (λ (b : Bool). is_named name r ≡ b → cond b (Some r) (find (is_named name) (filter (is_of_other r) (distinct rs))) ≡ cond b (Some r) (find (is_named name) rs)) [
      | true ↦ λ t. refl
      | false ↦ λ t. find_kept (is_named name) (is_of_other r) (λ x. other_text name r x t) (distinct rs) ∙ find_distinct name rs
    ] refl

-- which is the first row of a filter, too
pub first_of : {X : Type 0} (p : X → Bool) (xs : List X) → slice_get (filter p xs) 0 ≡ find p xs
first_of p [] = refl
first_of {X} p (x ∷ xs) =
    elim (p x)
    as (λ (b : Bool). slice_get (cond b (x ∷ filter p xs) (filter p xs)) 0 ≡ cond b (Some x) (find p xs))
    [ true ↦ refl | false ↦ first_of p xs ]

any_found : {X : Type 0} (p : X → Bool) (xs : List X) → list_any p xs ≡ is_some (find p xs)
any_found p [] = refl
any_found {X} p (x ∷ xs) =
    elim (p x)
    as (λ (b : Bool). (b || list_any p xs) ≡ is_some (cond b (Some x) (find p xs)))
    [ true ↦ refl | false ↦ any_found p xs ]

-- a template has a revision among them if it has one
pub any_distinct : (name : List ℕ) (rs : List Revision) → list_any (is_named name) (distinct rs) ≡ list_any (is_named name) rs
any_distinct name rs = any_found (is_named name) (distinct rs) ∙ ap (λ (o : Option Revision). is_some o) (find_distinct name rs) ∙ sym (any_found (is_named name) rs)

-- What holds of them.

all_kept : {X : Type 0} (P : X → Type 0) (q : X → Bool) (xs : List X) → AllByRecursion P xs → AllByRecursion P (filter q xs)
all_kept P q [] h = tt
all_kept {X} P q (x ∷ xs) h =
    elim (q x)
    as (λ (b : Bool). AllByRecursion P (cond b (x ∷ filter q xs) (filter q xs)))
    [ true ↦ (h.0, all_kept P q xs h.1) | false ↦ all_kept P q xs h.1 ]

-- what holds of all revisions holds of these
pub all_distinct : (P : Revision → Type 0) (rs : List Revision) → AllByRecursion P rs → AllByRecursion P (distinct rs)
all_distinct P [] h = tt
all_distinct P (r ∷ rs) h = (h.0, all_kept P (is_of_other r) (distinct rs) (all_distinct P rs h.1))

-- what holds of the template of each of these holds of that of each
pub all_of_distinct : (P : List ℕ → Type 0) (rs : List Revision) → AllByRecursion (λ (r : Revision). P r.template) (distinct rs) → AllByRecursion (λ (r : Revision). P r.template) rs
all_of_distinct P [] h = tt
all_of_distinct P (r ∷ rs) h = (h.0, all_of_distinct P rs (with_it (distinct rs) h.1))
  where
    with_it : (xs : List Revision) → AllByRecursion (λ (x : Revision). P x.template) (filter (is_of_other r) xs) → AllByRecursion (λ (x : Revision). P x.template) xs
    with_it [] k = tt
    with_it (x ∷ xs) k =
        (elim (bytes_eq r.template x.template)
        as (λ (b : Bool). bytes_eq r.template x.template ≡ b → AllByRecursion (λ (x : Revision). P x.template) (cond (not b) (x ∷ filter (is_of_other r) xs) (filter (is_of_other r) xs)) → AllByRecursion (λ (x : Revision). P x.template) (x ∷ xs))
        [ true ↦ λ t k. (subst P (same_text r.template x.template t) h.0, with_it xs k) | false ↦ λ t k. (k.0, with_it xs k.1) ]) refl k

-- No template stands twice.

abbrev pub templates_in : List Revision → List (List ℕ)
templates_in rs = map (λ (r : Revision). r.template) rs

both_false : (a b : Bool) → (a || b) ≡ false → (a ≡ false) × (b ≡ false)
both_false false b h = (refl, h)
both_false true b h = cc h

none_kept : (p : List ℕ → Bool) (q : Revision → Bool) (rs : List Revision) → list_any p (templates_in rs) ≡ false → list_any p (templates_in (filter q rs)) ≡ false
none_kept p q [] h = refl
none_kept p q (r ∷ rs) h =
    let parts = both_false (p r.template) (list_any p (templates_in rs)) h in
    let rest = none_kept p q rs parts.1 in
    elim (q r)
    as (λ (b : Bool). list_any p (templates_in (cond b (r ∷ filter q rs) (filter q rs))) ≡ false)
    [ true ↦ ap (λ b. b || list_any p (templates_in (filter q rs))) parts.0 ∙ rest | false ↦ rest ]

once_kept : (q : Revision → Bool) (rs : List Revision) → has_duplicate (templates_in rs) ≡ false → has_duplicate (templates_in (filter q rs)) ≡ false
once_kept q [] h = refl
once_kept q (r ∷ rs) h =
    let parts = both_false (list_any (bytes_eq r.template) (templates_in rs)) (has_duplicate (templates_in rs)) h in
    let rest = once_kept q rs parts.1 in
    elim (q r)
    as (λ (b : Bool). has_duplicate (templates_in (cond b (r ∷ filter q rs) (filter q rs))) ≡ false)
    [ true ↦ ap (λ b. b || has_duplicate (templates_in (filter q rs))) (none_kept (bytes_eq r.template) q rs parts.0) ∙ rest | false ↦ rest ]

none_of_it : (r : Revision) (rs : List Revision) → list_any (bytes_eq r.template) (templates_in (filter (is_of_other r) rs)) ≡ false
none_of_it r [] = refl
none_of_it r (x ∷ rs) =
    elim (bytes_eq r.template x.template)
    as (λ (b : Bool). bytes_eq r.template x.template ≡ b → list_any (bytes_eq r.template) (templates_in (cond (not b) (x ∷ filter (is_of_other r) rs) (filter (is_of_other r) rs))) ≡ false) [
      | true ↦ λ t. none_of_it r rs
      | false ↦ λ t. ap (λ b. b || list_any (bytes_eq r.template) (templates_in (filter (is_of_other r) rs))) t ∙ none_of_it r rs
    ] refl

pub once : (rs : List Revision) → has_duplicate (templates_in (distinct rs)) ≡ false
once [] = refl
once (r ∷ rs) =
    ap (λ b. b || has_duplicate (templates_in (filter (is_of_other r) (distinct rs)))) (none_of_it r (distinct rs))
    ∙ once_kept (is_of_other r) (distinct rs) (once rs)
