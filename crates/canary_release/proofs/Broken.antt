-- Causes in groups: one holds in the list exactly if one holds in a group.
use Rattle.std.proofs.Common.{◌≡◌, refl, ap, ◌∙◌, Bool, true, false, ◌||◌, List, [], ◌∷◌, ◌++◌}
use Rattle.std.specs.List.{list_any}
use Rattle.std.proofs.lemmas.List.Folds.{list_any-append}

abbrev pub some_of : List Bool → Bool
some_of bs = list_any (λ (b : Bool). b) bs

-- four
pub some_of_four : (a b c d : Bool) → some_of (a ∷ b ∷ c ∷ d ∷ []) ≡ (a || (b || (c || d)))
some_of_four true b c d = refl
some_of_four false true c d = refl
some_of_four false false true d = refl
some_of_four false false false true = refl
some_of_four false false false false = refl

-- the second group asked after the third
pub later_first : (p q r s : Bool) → (p || (q || (r || s))) ≡ (p || (r || (q || s)))
later_first true q r s = refl
later_first false true true s = refl
later_first false true false s = refl
later_first false false true s = refl
later_first false false false s = refl

pub four_groups : (ps qs rs ts : List Bool) → some_of (ps ++ (qs ++ (rs ++ ts))) ≡ (some_of ps || (some_of qs || (some_of rs || some_of ts)))
four_groups ps qs rs ts =
    list_any-append (λ (b : Bool). b) ps (qs ++ (rs ++ ts))
    ∙ ap (λ x. some_of ps || x) (list_any-append (λ (b : Bool). b) qs (rs ++ ts) ∙ ap (λ x. some_of qs || x) (list_any-append (λ (b : Bool). b) rs ts))

pub some_of_seven : (a b c d e f g : Bool) → some_of (a ∷ b ∷ c ∷ d ∷ e ∷ f ∷ g ∷ []) ≡ ((a || (b || (c || (d || e)))) || (f || g))
some_of_seven true b c d e f g = refl
some_of_seven false true c d e f g = refl
some_of_seven false false true d e f g = refl
some_of_seven false false false true e f g = refl
some_of_seven false false false false true f g = refl
some_of_seven false false false false false true g = refl
some_of_seven false false false false false false true = refl
some_of_seven false false false false false false false = refl

-- the nineteen causes, in the groups in which they are asked
pub in_groups : (a1 a2 a3 a4 b1 b2 b3 b4 c1 c2 c3 c4 d1 d2 d3 d4 d5 e1 e2 : Bool) → some_of (a1 ∷ a2 ∷ a3 ∷ a4 ∷ b1 ∷ b2 ∷ b3 ∷ b4 ∷ c1 ∷ c2 ∷ c3 ∷ c4 ∷ d1 ∷ d2 ∷ d3 ∷ d4 ∷ d5 ∷ e1 ∷ e2 ∷ []) ≡ ((a1 || (a2 || (a3 || a4))) || ((c1 || (c2 || (c3 || c4))) || ((b1 || (b2 || (b3 || b4))) || ((d1 || (d2 || (d3 || (d4 || d5)))) || (e1 || e2)))))
in_groups a1 a2 a3 a4 b1 b2 b3 b4 c1 c2 c3 c4 d1 d2 d3 d4 d5 e1 e2 =
    let last = some_of (d1 ∷ d2 ∷ d3 ∷ d4 ∷ d5 ∷ e1 ∷ e2 ∷ []) in
    four_groups (a1 ∷ a2 ∷ a3 ∷ a4 ∷ []) (b1 ∷ b2 ∷ b3 ∷ b4 ∷ []) (c1 ∷ c2 ∷ c3 ∷ c4 ∷ []) (d1 ∷ d2 ∷ d3 ∷ d4 ∷ d5 ∷ e1 ∷ e2 ∷ [])
    ∙ ap (λ x. x || (some_of (b1 ∷ b2 ∷ b3 ∷ b4 ∷ []) || (some_of (c1 ∷ c2 ∷ c3 ∷ c4 ∷ []) || last))) (some_of_four a1 a2 a3 a4)
    ∙ ap (λ x. (a1 || (a2 || (a3 || a4))) || (x || (some_of (c1 ∷ c2 ∷ c3 ∷ c4 ∷ []) || last))) (some_of_four b1 b2 b3 b4)
    ∙ ap (λ x. (a1 || (a2 || (a3 || a4))) || ((b1 || (b2 || (b3 || b4))) || (x || last))) (some_of_four c1 c2 c3 c4)
    ∙ ap (λ x. (a1 || (a2 || (a3 || a4))) || ((b1 || (b2 || (b3 || b4))) || ((c1 || (c2 || (c3 || c4))) || x))) (some_of_seven d1 d2 d3 d4 d5 e1 e2)
    ∙ later_first (a1 || (a2 || (a3 || a4))) (b1 || (b2 || (b3 || b4))) (c1 || (c2 || (c3 || c4))) ((d1 || (d2 || (d3 || (d4 || d5)))) || (e1 || e2))
