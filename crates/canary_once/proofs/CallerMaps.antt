-- The map of callers, each of whom keeps at least one receipt.
use Rattle.std.proofs.Common.{◌≡◌, ℕ, ◌+◌, ◌-◌, ◌≤◌, ◌<◌, List, [], ◌∷◌, ◌++◌, length, Bool, true, false, Some, None, sym, ap, ◌∙◌, subst, arith, length-append, refl}
use Rattle.std.specs.Prelude.{Option, Result, Ok, Err, OnOk, OnErr, cond, unwrap_or}
use Rattle.std.specs.Ordering.{nat_cmp}
use Rattle.std.specs.Cmp.Lexicographic.{slice_cmp}
use Rattle.std.specs.Str.{bytes_eq}
use Rattle.std.specs.FinMap.{get, empty, from_entries, get-empty}
use Rattle.std.proofs.lemmas.Slice.Eq.{bytes_eq-Decides}
use Rattle.canary_once.specs.declared.book.Receipt.{Receipt}
use Rattle.canary_once.specs.Contents.{CallerMap, receipts_in, with_receipt, HaveReceipts}
use Rattle.canary_once.proofs.Named.{at_name, get_name}
use Rattle.canary_once.proofs.NameMaps.{IsWith, answers_alike, insert_with, at_itself}

none_is_some : {A : Type 0} (x : A) → ◌≡◌ {A = Option A} None (Some x) → ⊥
none_is_some x e = cc e

pub some_same : {A : Type 0} (x y : A) → ◌≡◌ {A = Option A} (Some x) (Some y) → x ≡ y
some_same x y e = cc e

abbrev pub IsFew : List Receipt → Type 0
IsFew receipts = (1 ≤ length receipts) × (length receipts ≤ 1000000000)

pub none_have : HaveReceipts empty
none_have q l e = absurd (none_is_some l (sym (get-empty (slice_cmp nat_cmp) q) ∙ e))

few_there : (w o : Option (List Receipt)) (b : Bool) (l : List Receipt) → ((x : List Receipt) → w ≡ Some x → IsFew x) → ((x : List Receipt) → o ≡ Some x → IsFew x) → cond b w o ≡ Some l → IsFew l
few_there w o true l f g e = f l e
few_there w o false l f g e = g l e

-- they keep receipts each if the list that changes has some, or is gone
pub keep_receipts : (m n : CallerMap) (k : List ℕ) (w : Option (List Receipt)) → IsWith m n k w → HaveReceipts m → ((x : List Receipt) → w ≡ Some x → IsFew x) → HaveReceipts n
keep_receipts m n k w h all few q l e = few_there w (get m q) (bytes_eq q k) l few (all q) (sym (h q) ∙ e)

pub few_listed : (v : List Receipt) → IsFew v → (x : List Receipt) → ◌≡◌ {A = Option (List Receipt)} (Some v) (Some x) → IsFew x
few_listed v few x e = subst IsFew (some_same v x e) few

pub none_listed : (x : List Receipt) → ◌≡◌ {A = Option (List Receipt)} None (Some x) → IsFew x
none_listed x e = absurd (none_is_some x e)

pub found_few : (es : List (List ℕ × List Receipt)) (k : List ℕ) (r : List Receipt) → HaveReceipts (from_entries es) → Some r ≡ at_name es k → IsFew r
found_few es k r all e = all k r (get_name es k ∙ sym e)

-- one receipt more
pub one_more_few : (r : List Receipt) (x : Receipt) → length r + 1 ≤ 1000000000 → IsFew (r ++ x ∷ [])
one_more_few r x h = (simp length-append (omega arith), simp length-append h)

pub pushed_few : {T E : Type 0} (result : Result T E) (r new : List Receipt) (x : Receipt) → OnOk result (new ≡ r ++ x ∷ []) → OnErr result (new ≡ r) → IsFew r → length r + 1 ≤ 1000000000 → IsFew new
pushed_few (Ok u) r new x ok err few h = subst IsFew (sym ok) (one_more_few r x h)
pushed_few (Err e) r new x ok err few h = subst IsFew (sym err) few

pub one_few : (r : List Receipt) (x : Receipt) → r ≡ x ∷ [] → IsFew r
one_few r x is = subst IsFew (sym is) (omega arith, omega arith)

-- one receipt taken back

before_more : (before m : CallerMap) (k : List ℕ) (x : Receipt) → m ≡ with_receipt before k x → receipts_in m k ≡ receipts_in before k ++ x ∷ []
before_more before m k x is =
    ap (λ (n : CallerMap). receipts_in n k) is
    ∙ ap (λ (o : Option (List Receipt)). unwrap_or o []) (at_itself before (with_receipt before k x) k (Some (receipts_in before k ++ x ∷ [])) (insert_with before k (receipts_in before k ++ x ∷ [])))

back_there : (before m : CallerMap) (k q : List ℕ) (x : Receipt) (w : Option (List Receipt)) (b : Bool) → bytes_eq q k ≡ b → m ≡ with_receipt before k x → w ≡ get before k → cond b w (get m q) ≡ get before q
back_there before m k q x w true e is last = last ∙ ap (get before) (sym ((bytes_eq-Decides q k).0 e))
back_there before m k q x w false e is last =
    ap (λ (n : CallerMap). get n q) is
    ∙ insert_with before k (receipts_in before k ++ x ∷ []) q
    ∙ ap (λ b. cond b (Some (receipts_in before k ++ x ∷ [])) (get before q)) e

back_to : (before m n : CallerMap) (k : List ℕ) (x : Receipt) (w : Option (List Receipt)) → m ≡ with_receipt before k x → IsWith m n k w → w ≡ get before k → n ≡ before
back_to before m n k x w is h last = answers_alike n before (λ q. h q ∙ back_there before m k q x w (bytes_eq q k) refl is last)

some_left : (o : Option (List Receipt)) → 1 ≤ length (unwrap_or o []) → Some (unwrap_or o []) ≡ o
some_left (Some l) h = refl
some_left None h = absurd (omega arith)

none_left : (o : Option (List Receipt)) → ((l : List Receipt) → o ≡ Some l → IsFew l) → length (unwrap_or o []) ≤ 0 → None ≡ o
none_left (Some l) few h = let f = (few l refl).0 in absurd (omega (arith, f))
none_left None few h = refl

pub popped_few : (r new : List Receipt) → length new ≡ length r - 1 → 1 < length r → IsFew r → IsFew new
popped_few r new shorter long few = (omega (arith, shorter, long), omega (arith, shorter, few.1))

pub long_there : (m : CallerMap) (k : List ℕ) (r : List Receipt) (count : ℕ) → count ≡ length (receipts_in m k) → r ≡ receipts_in m k → 1 < count → 1 < length r
long_there m k r count is found more = let same : length r ≡ count = ap length found ∙ sym is in omega (arith, same, more)

pub not_alone : (m : CallerMap) (k : List ℕ) (count : ℕ) → count ≡ length (receipts_in m k) → [] ≡ receipts_in m k → 1 < count → ⊥
not_alone m k count is found more = let none : 0 ≡ count = ap length found ∙ sym is in omega (arith, none, more)

pub shorter_back : (es fs : List (List ℕ × List Receipt)) (m before : CallerMap) (k : List ℕ) (r new : List Receipt) (x : Receipt) → from_entries es ≡ m → r ≡ receipts_in m k → 1 < length r → ((l : List Receipt) (y : Receipt) → r ≡ l ++ y ∷ [] → new ≡ l) → IsWith (from_entries es) (from_entries fs) k (Some new) → m ≡ with_receipt before k x → from_entries fs ≡ before
shorter_back es fs m before k r new x is found long popped h was =
    let more : r ≡ receipts_in before k ++ x ∷ [] = found ∙ before_more before m k x was in
    let long_too : length (receipts_in before k) + 1 ≡ length r = sym (ap length more ∙ length-append (receipts_in before k) (x ∷ [])) in
    back_to before (from_entries es) (from_entries fs) k x (Some new) (is ∙ was) h
    (ap Some (popped (receipts_in before k) x more) ∙ some_left (get before k) (omega (arith, long_too, long)))

pub gone_back : (es fs : List (List ℕ × List Receipt)) (m before : CallerMap) (k : List ℕ) (x : Receipt) → from_entries es ≡ m → length (receipts_in m k) ≤ 1 → HaveReceipts before → IsWith (from_entries es) (from_entries fs) k None → m ≡ with_receipt before k x → from_entries fs ≡ before
gone_back es fs m before k x is short all h was =
    let long_too : length (receipts_in before k) + 1 ≡ length (receipts_in m k) = sym (ap length (before_more before m k x was) ∙ length-append (receipts_in before k) (x ∷ [])) in
    back_to before (from_entries es) (from_entries fs) k x None (is ∙ was) h (none_left (get before k) (all k) (omega (arith, long_too, short)))
