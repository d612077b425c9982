-- The text of a history, line after line.
use Rattle.std.proofs.Common.{◌≡◌, ℕ, suc, ◌+◌, ◌<◌, List, [], ◌∷◌, ◌++◌, length, drop, get_or, sym, ap, ◌∙◌, drop-cons, arith}
use Rattle.std.proofs.lemmas.List.{append_assoc}
use Rattle.canary_plan.specs.declared.line.Line.{Line}
use Rattle.canary_plan.specs.Lines.{history_text, line_text}

-- what is left of a list, with its first element apart
left_more : (xs : List Line) (i : ℕ) (x : Line) → i < length xs → x ≡ get_or xs i x → drop i xs ≡ x ∷ drop (i + 1) xs
left_more xs i x lt is =
    let next : suc i ≡ i + 1 = omega arith in
    drop-cons xs i x lt ∙ (λ k. sym is k ∷ drop (next k) xs)

-- a text with one more line, and the lines that are left
pub lines_more : (old new whole : List ℕ) (xs : List Line) (i : ℕ) (x : Line) → i < length xs → x ≡ get_or xs i x
    → old ++ history_text (drop i xs) ≡ whole → new ≡ old ++ (line_text x ++ 10 ∷ []) → new ++ history_text (drop (i + 1) xs) ≡ whole
lines_more old new whole xs i x lt is so_far one =
    let rest : List ℕ = history_text (drop (i + 1) xs) in
    ap (λ t. t ++ rest) one
    ∙ append_assoc old (line_text x ++ 10 ∷ []) rest
    ∙ ap (λ t. old ++ t) (append_assoc (line_text x) (10 ∷ []) rest)
    ∙ sym (ap (λ (ls : List Line). old ++ history_text ls) (left_more xs i x lt is))
    ∙ so_far
