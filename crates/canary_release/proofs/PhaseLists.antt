-- Phases that are joined by commas.
use Rattle.std.proofs.Common.{◌≡◌, ℕ, zero, suc, ◌+◌, ◌<◌, Bool, true, List, [], ◌∷◌, ◌++◌, length, take, get_or, map, refl, sym, ap, ◌∙◌, append_assoc, arith}
use Rattle.std.specs.Prelude.{nat_lt}
use Rattle.std.specs.List.{join_with_byte}
use Rattle.std.proofs.lemmas.List.{take_more, map-append}
use Rattle.std.proofs.lemmas.Bool.Decides.{nat_tests}
use Rattle.canary_condition.specs.declared.outcome.Phase.{Phase}
use Rattle.canary_release.specs.Replies.{quoted_phase}
use Rattle.canary_release.specs.Rules.Reporting.{phase_words}

-- what a piece adds
abbrev with_separator : List (List ℕ) → List ℕ → List ℕ
with_separator [] piece = piece
with_separator (x ∷ xs) piece = 44 ∷ piece

join-push : (xs : List (List ℕ)) (piece : List ℕ) → join_with_byte 44 (xs ++ piece ∷ []) ≡ join_with_byte 44 xs ++ with_separator xs piece
join-push [] piece = refl
join-push (x ∷ []) piece = refl
join-push (x ∷ y ∷ xs) piece = ap (λ (r : List ℕ). x ++ (44 ∷ r)) (join-push (y ∷ xs) piece) ∙ sym (append_assoc x (44 ∷ join_with_byte 44 (y ∷ xs)) (44 ∷ piece))

separator_is : (ps : List Phase) (i : ℕ) (p : Phase) → i < length ps → with_separator (map quoted_phase (take i ps)) (quoted_phase p) ≡ phase_words (nat_lt 0 i) p
separator_is ps zero p h = refl
separator_is [] (suc i) p h = absurd (omega arith)
separator_is (q ∷ ps) (suc i) p h = let later : nat_lt 0 (suc i) ≡ true = grind (arith, nat_tests) in ap (λ (b : Bool). phase_words b p) (sym later)

-- the phases so far with one more
joined_more : (ps : List Phase) (i : ℕ) (d : Phase) → i < length ps → join_with_byte 44 (map quoted_phase (take (i + 1) ps)) ≡ join_with_byte 44 (map quoted_phase (take i ps)) ++ phase_words (nat_lt 0 i) (get_or ps i d)
joined_more ps i d h =
    ap (λ qs. join_with_byte 44 (map quoted_phase qs)) (take_more ps i d h) ∙ ap (join_with_byte 44) (map-append quoted_phase (take i ps) (get_or ps i d ∷ []))
    ∙ join-push (map quoted_phase (take i ps)) (quoted_phase (get_or ps i d)) ∙ ap (λ (r : List ℕ). join_with_byte 44 (map quoted_phase (take i ps)) ++ r) (separator_is ps i (get_or ps i d) h)

-- a text with a list after it, and with one more phase
pub words_more : (front : List ℕ) (ps : List Phase) (i : ℕ) (d : Phase) (old new : List ℕ) → i < length ps → old ≡ front ++ 91 ∷ join_with_byte 44 (map quoted_phase (take i ps)) → new ≡ old ++ phase_words (nat_lt 0 i) (get_or ps i d) → new ≡ front ++ 91 ∷ join_with_byte 44 (map quoted_phase (take (i + 1) ps))
words_more front ps i d old new h old_is new_is =
    new_is ∙ ap (λ (r : List ℕ). r ++ phase_words (nat_lt 0 i) (get_or ps i d)) old_is ∙ append_assoc front (91 ∷ join_with_byte 44 (map quoted_phase (take i ps))) (phase_words (nat_lt 0 i) (get_or ps i d))
    ∙ ap (λ (r : List ℕ). front ++ 91 ∷ r) (sym (joined_more ps i d h))
