-- A message is read in one way.
use Rattle.std.proofs.Common.{◌≡◌, ◌&&◌, ℕ, Bool, true, false, List, [], ◌∷◌, ◌++◌, length, get_or, drop, refl, sym, ap, ap₂, ◌∙◌, append_assoc, true≢false}
use Rattle.std.specs.List.{list_all}
use Rattle.std.specs.Prelude.{flat_map, nat_lt}
use Rattle.canary_provider.specs.Lines.{is_line, is_line_byte}
use Rattle.canary_provider.specs.Messages.{ended, message, OneReading}

parts : (a b : Bool) → a && b ≡ true → (a ≡ true) × (b ≡ true)
parts true b e = (refl, e)
parts false b e = absurd (true≢false (sym e))

-- what stands before the first end of a line
cut : (a b x y : List ℕ) → list_all is_line_byte a ≡ true → list_all is_line_byte b ≡ true → a ++ 13 ∷ x ≡ b ++ 13 ∷ y → (a ≡ b) × (x ≡ y)
cut [] [] x y p q e = (refl, ap (drop 1) e)
cut [] (d ∷ b) x y p q e = absurd (true≢false (sym (parts (is_line_byte d) (list_all is_line_byte b) q).0 ∙ sym (ap (λ (t : List ℕ). is_line_byte (get_or t 0 0)) e)))
cut (c ∷ a) [] x y p q e = absurd (true≢false (sym (parts (is_line_byte c) (list_all is_line_byte a) p).0 ∙ ap (λ (t : List ℕ). is_line_byte (get_or t 0 0)) e))
cut (c ∷ a) (d ∷ b) x y p q e =
    let rest = cut a b x y (parts (is_line_byte c) (list_all is_line_byte a) p).1 (parts (is_line_byte d) (list_all is_line_byte b) q).1 (ap (drop 1) e) in
    (ap₂ (λ (h : ℕ) (t : List ℕ). h ∷ t) (ap (λ (t : List ℕ). get_or t 0 0) e) rest.0, rest.1)

-- a line is not empty, and does not begin with its end
not_ended : (line x y : List ℕ) → is_line line ≡ true → 13 ∷ x ≡ line ++ y → ⊥
not_ended [] x y p e = true≢false (sym p)
not_ended (c ∷ line) x y p e = true≢false (sym (parts (is_line_byte c) (list_all is_line_byte line) (parts (nat_lt 0 (length (c ∷ line))) (list_all is_line_byte (c ∷ line)) p).1).0 ∙ sym (ap (λ (t : List ℕ). is_line_byte (get_or t 0 0)) e))

line_bytes : (line : List ℕ) → is_line line ≡ true → list_all is_line_byte line ≡ true
line_bytes line p = (parts (nat_lt 0 (length line)) (list_all is_line_byte line) p).1

-- a message after its first line
first_line : (line : List ℕ) (lines : List (List ℕ)) (body : List ℕ) → message (line ∷ lines) body ≡ line ++ 13 ∷ 10 ∷ message lines body
first_line line lines body =
    append_assoc (line ++ 13 ∷ 10 ∷ []) (flat_map ended lines) (13 ∷ 10 ∷ body)
    ∙ append_assoc line (13 ∷ 10 ∷ []) (flat_map ended lines ++ 13 ∷ 10 ∷ body)

pub one_reading : OneReading
one_reading [] [] body other p q e = (refl, ap (drop 2) e)
one_reading [] (m ∷ ms) body other p q e =
    absurd (not_ended m (10 ∷ body) (13 ∷ 10 ∷ message ms other) (parts (is_line m) (list_all is_line ms) q).0 (e ∙ first_line m ms other))
one_reading (l ∷ ls) [] body other p q e =
    absurd (not_ended l (10 ∷ other) (13 ∷ 10 ∷ message ls body) (parts (is_line l) (list_all is_line ls) p).0 (sym e ∙ first_line l ls body))
one_reading (l ∷ ls) (m ∷ ms) body other p q e =
    let ls_are = parts (is_line l) (list_all is_line ls) p in
    let ms_are = parts (is_line m) (list_all is_line ms) q in
    let front = cut l m (10 ∷ message ls body) (10 ∷ message ms other) (line_bytes l ls_are.0) (line_bytes m ms_are.0) (sym (first_line l ls body) ∙ e ∙ first_line m ms other) in
    let rest = one_reading ls ms body other ls_are.1 ms_are.1 (ap (drop 1) front.1) in
    (ap₂ (λ (h : List ℕ) (t : List (List ℕ)). h ∷ t) front.0 rest.0, rest.1)
