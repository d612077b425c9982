-- The last item of a list, by its place.
use Rattle.std.proofs.Common.{◌≡◌, ◌-◌, List, [], ◌∷◌, length, Some, None, refl, ap, ◌∙◌, arith}
use Rattle.std.specs.Prelude.{slice_get}
use Rattle.std.specs.List.{last_or}

last_behind : {A : Type 0} (x : A) (xs : List A) → slice_get (x ∷ xs) (length xs) ≡ last_or (Some x) xs
last_behind x [] = refl
last_behind x (y ∷ ys) = last_behind y ys

pub last_there : {A : Type 0} (xs : List A) → slice_get xs (length xs - 1) ≡ last_or None xs
last_there [] = refl
last_there (x ∷ xs) =
    let place : length (x ∷ xs) - 1 ≡ length xs = omega arith in
    ap (slice_get (x ∷ xs)) place ∙ last_behind x xs
