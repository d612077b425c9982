-- Items that are joined by commas.
use Rattle.std.proofs.Common.{◌≡◌, ℕ, zero, suc, ◌+◌, ◌<◌, Bool, true, false, List, [], ◌∷◌, ◌++◌, length, take, get_or, map, refl, sym, ap, ◌∙◌, append_assoc, take_all, arith}
use Rattle.std.specs.Prelude.{nat_lt, min}
use Rattle.std.specs.List.{join_with_byte, zip}
use Rattle.std.proofs.lemmas.List.{take_more, map-append}
use Rattle.std.proofs.lemmas.Slice.Zip.{get_or-zip, length-zip}
use Rattle.std.proofs.lemmas.Bool.Decides.{nat_tests}
use Rattle.canary_once.specs.Showing.{item_words}

-- what an item adds to those before it
abbrev with_separator : List (List ℕ) → List ℕ → List ℕ
with_separator [] item = item
with_separator (x ∷ xs) item = 44 ∷ item

join-push : (xs : List (List ℕ)) (item : List ℕ) → join_with_byte 44 (xs ++ item ∷ []) ≡ join_with_byte 44 xs ++ with_separator xs item
join-push [] item = refl
join-push (x ∷ []) item = refl
join-push (x ∷ y ∷ xs) item = ap (λ (r : List ℕ). x ++ (44 ∷ r)) (join-push (y ∷ xs) item) ∙ sym (append_assoc x (44 ∷ join_with_byte 44 (y ∷ xs)) (44 ∷ item))

separator_is : {A : Type 0} (f : A → List ℕ) (xs : List A) (i : ℕ) (item : List ℕ) → i < length xs → with_separator (map f (take i xs)) item ≡ item_words (nat_lt 0 i) item
separator_is f xs zero item h = refl
separator_is f [] (suc i) item h = absurd (omega arith)
separator_is f (x ∷ xs) (suc i) item h = let later : nat_lt 0 (suc i) ≡ true = grind (arith, nat_tests) in ap (λ (b : Bool). item_words b item) (sym later)

-- the items so far with one more
joined_more : {A : Type 0} (f : A → List ℕ) (xs : List A) (i : ℕ) (d : A) → i < length xs → join_with_byte 44 (map f (take (i + 1) xs)) ≡ join_with_byte 44 (map f (take i xs)) ++ item_words (nat_lt 0 i) (f (get_or xs i d))
joined_more {A = A} f xs i d h =
    ap (λ (ys : List A). join_with_byte 44 (map f ys)) (take_more xs i d h) ∙ ap (join_with_byte 44) (map-append f (take i xs) (get_or xs i d ∷ []))
    ∙ join-push (map f (take i xs)) (f (get_or xs i d)) ∙ ap (λ (r : List ℕ). join_with_byte 44 (map f (take i xs)) ++ r) (separator_is f xs i (f (get_or xs i d)) h)

-- the text of a list with one more item
pub words_more : {A : Type 0} (f : A → List ℕ) (xs : List A) (i : ℕ) (x : A) (item old new : List ℕ) → i < length xs → x ≡ get_or xs i x → item ≡ f x → old ≡ 91 ∷ join_with_byte 44 (map f (take i xs)) → new ≡ old ++ item_words (nat_lt 0 i) item
    → new ≡ 91 ∷ join_with_byte 44 (map f (take (i + 1) xs))
words_more f xs i x item old new h x_is item_is old_is new_is =
    new_is
    ∙ (λ k. old_is k ++ item_words (nat_lt 0 i) ((item_is ∙ ap f x_is) k))
    ∙ ap (λ (r : List ℕ). 91 ∷ r) (sym (joined_more f xs i x h))

-- the same after any text
pub words_more_behind : {A : Type 0} (f : A → List ℕ) (front : List ℕ) (xs : List A) (i : ℕ) (x : A) (old new : List ℕ) → i < length xs → x ≡ get_or xs i x → old ≡ front ++ join_with_byte 44 (map f (take i xs)) → new ≡ old ++ item_words (nat_lt 0 i) (f x)
    → new ≡ front ++ join_with_byte 44 (map f (take (i + 1) xs))
words_more_behind f front xs i x old new h x_is old_is new_is =
    let so_far : List ℕ = join_with_byte 44 (map f (take i xs)) in
    new_is
    ∙ (λ k. old_is k ++ item_words (nat_lt 0 i) (ap f x_is k))
    ∙ append_assoc front so_far (item_words (nat_lt 0 i) (f (get_or xs i x)))
    ∙ ap (λ (r : List ℕ). front ++ r) (sym (joined_more f xs i x h))

-- a line in quotes, piece by piece
pub quoted_behind : (later : Bool) (text moment words : List ℕ) → (((text ++ item_words later (34 ∷ [])) ++ moment) ++ 32 ∷ []) ++ words ++ 34 ∷ [] ≡ text ++ item_words later (34 ∷ ((moment ++ (32 ∷ words)) ++ 34 ∷ []))
quoted_behind true text moment words = simp append_assoc refl
quoted_behind false text moment words = simp append_assoc refl

-- the same over two lists, side by side
pub pairs_more : {A B : Type 0} (f : A × B → List ℕ) (xs : List A) (ys : List B) (i : ℕ) (x : A) (y : B) (item old new : List ℕ) → i < length xs → i < length ys → x ≡ get_or xs i x → y ≡ get_or ys i y → item ≡ f (x, y)
    → old ≡ 91 ∷ join_with_byte 44 (map f (take i (zip xs ys))) → new ≡ old ++ item_words (nat_lt 0 i) item → new ≡ 91 ∷ join_with_byte 44 (map f (take (i + 1) (zip xs ys)))
pairs_more f xs ys i x y item old new h k xis yis item_is old_is new_is =
    let long = length-zip xs ys in
    words_more f (zip xs ys) i (x, y) item old new (omega (arith, long)) ((λ j. (xis j, yis j)) ∙ sym (get_or-zip xs ys i (x, y) h k)) item_is old_is new_is

-- and when all of them stand there
pub pairs_all : {A B : Type 0} (f : A × B → List ℕ) (xs : List A) (ys : List B) (n : ℕ) (text : List ℕ) → n ≡ min (length xs) (length ys) → text ≡ 91 ∷ join_with_byte 44 (map f (take n (zip xs ys))) → text ≡ 91 ∷ join_with_byte 44 (map f (zip xs ys))
pairs_all {A = A} {B = B} f xs ys n text n_is text_is =
    let long = length-zip xs ys in
    text_is ∙ ap (λ (ws : List (A × B)). 91 ∷ join_with_byte 44 (map f ws)) (take_all n (zip xs ys) (omega (arith, long, n_is)))
