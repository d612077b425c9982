-- A part of a buffer, and what is written after it.
use Rattle.std.proofs.Common.{◌≡◌, ℕ, ◌+◌, ◌-◌, ◌≤◌, List, [], ◌++◌, take, drop, length, refl, sym, ap, ◌∙◌, arith}
use Rattle.std.specs.Prelude.{slice_range}
use Rattle.std.proofs.lemmas.List.{append-nil, append_assoc, length-take, length-take-le, length-drop, drop-take, drop-drop, drop-append-le, take-append-drop}
use Rattle.std.proofs.Math.Seq.{take-append-add, take-append_seam}

pub slice_drop : (xs : List ℕ) (s e n : ℕ) → n ≤ length (slice_range xs s e) → slice_range xs (s + n) e ≡ drop n (slice_range xs s e)
slice_drop xs s e n h =
    let l = length-take (e - s) (drop s xs) in
    let split : e - s ≡ n + (e - (s + n)) = omega arith in
    sym (ap (λ k. drop n (take k (drop s xs))) split ∙ drop-take n (e - (s + n)) (drop s xs) ∙ ap (take (e - (s + n))) (drop-drop n s xs))

-- a slice, and what was written after it
pub slice_filled : (xs got rest : List ℕ) (s e n : ℕ) → s ≤ e → e ≤ length xs → length got ≡ n
    → slice_range (take e xs ++ (got ++ rest)) s (e + n) ≡ slice_range xs s e ++ got
slice_filled xs got rest s e n se ex nb =
    let le : length (take e xs) ≡ e = length-take-le e xs ex in
    let split : e ≡ s + (e - s) = omega arith in
    let front : drop s (take e xs) ≡ slice_range xs s e = ap (λ k. drop s (take k xs)) split ∙ drop-take s (e - s) xs in
    let lf : length (slice_range xs s e) ≡ e - s = length-take-le (e - s) (drop s xs) (omega (arith, length-drop s xs)) in
    let count : e + n - s ≡ length (slice_range xs s e) + length got = omega arith in
    ap (take (e + n - s)) (drop-append-le s (take e xs) (got ++ rest) (omega arith) ∙ ap (λ t. t ++ (got ++ rest)) front)
    ∙ ap (λ k. take k (slice_range xs s e ++ (got ++ rest))) count
    ∙ take-append-add (slice_range xs s e) (got ++ rest) (length got)
    ∙ ap (λ t. slice_range xs s e ++ t) (take-append_seam got rest)

pub slice_kept : (xs rest : List ℕ) (s e : ℕ) → s ≤ e → e ≤ length xs
    → slice_range (take e xs ++ rest) s e ≡ slice_range xs s e
slice_kept xs rest s e se ex =
    let a = slice_filled xs [] rest s e 0 se ex refl in
    let z : e + 0 ≡ e = omega arith in
    ap (λ k. slice_range (take e xs ++ rest) s k) (sym z) ∙ a ∙ append-nil (slice_range xs s e)

pub split_written : (t buf post : List ℕ) (n : ℕ) → t ++ (buf ++ post) ≡ t ++ (take n buf ++ (drop n buf ++ post))
split_written t buf post n = ap (λ x. t ++ x) (ap (λ x. x ++ post) (sym (take-append-drop n buf)) ∙ append_assoc (take n buf) (drop n buf) post)
