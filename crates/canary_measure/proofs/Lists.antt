-- Numbers that stand for the values of a list.
use Rattle.std.proofs.Common.{◌≡◌, ℕ, zero, suc, ◌+◌, ◌<◌, ℤ, List, [], ◌∷◌, ◌++◌, length, get_or, take, map, refl, sym, ap, ◌∙◌, subst, arith}
use Rattle.std.proofs.lemmas.List.{take_more, map-append}
use Rattle.canary_decimal.specs.declared.shown.Beside.{Beside}
use Rattle.canary_argo.specs.Meaning.{Given as GivenTo}
use Rattle.canary_argo.specs.Reporting.{Stands, AllStand}
use Rattle.canary_measure.specs.declared.measured.Given.{Given}
use Rattle.canary_measure.specs.Measures.{seen}

-- as many numbers as values
pub all_len : (b : Beside) (n : ℕ) (gs : List GivenTo) (zs : List ℤ) → AllStand b n gs zs → length gs ≡ length zs
all_len b n [] [] h = refl
all_len b n [] (z ∷ zs) h = absurd h
all_len b n (g ∷ gs) [] h = absurd h
all_len b n (g ∷ gs) (z ∷ zs) (one, rest) = ap suc (all_len b n gs zs rest)

all_more : (b : Beside) (n : ℕ) (gs : List GivenTo) (zs : List ℤ) (g : GivenTo) (z : ℤ) → AllStand b n gs zs → Stands b n g z → AllStand b n (gs ++ g ∷ []) (zs ++ z ∷ [])
all_more b n [] [] g z h s = (s, tt)
all_more b n [] (y ∷ zs) g z h s = absurd h
all_more b n (x ∷ gs) [] g z h s = absurd h
all_more b n (x ∷ gs) (y ∷ zs) g z (one, rest) s = (one, all_more b n gs zs g z rest s)

-- one more value and its number
pub one_more : (b : Beside) (n : ℕ) (vs : List Given) (i : ℕ) (v : Given) (zs more : List ℤ) (z : ℤ) → i < length vs → v ≡ get_or vs i v → AllStand b n (map seen (take i vs)) zs → Stands b n (seen v) z → more ≡ zs ++ z ∷ [] → AllStand b n (map seen (take (i + 1) vs)) more
one_more b n vs i v zs more z within is h s e =
    let front : take (i + 1) vs ≡ take i vs ++ v ∷ [] = take_more vs i v within ∙ ap (λ (x : Given). take i vs ++ x ∷ []) (sym is) in
    let whole : map seen (take (i + 1) vs) ≡ map seen (take i vs) ++ seen v ∷ [] = ap (map seen) front ∙ map-append seen (take i vs) (v ∷ []) in
    subst (λ (ys : List ℤ). AllStand b n (map seen (take (i + 1) vs)) ys) (sym e)
    (subst (λ (gs : List GivenTo). AllStand b n gs (zs ++ z ∷ [])) (sym whole) (all_more b n (map seen (take i vs)) zs (seen v) z h s))

-- no list of numbers, if no number stands for one of the values
pub none_at : (b : Beside) (n : ℕ) (vs : List Given) (i : ℕ) (v : Given) → i < length vs → v ≡ get_or vs i v → ((z : ℤ) → Stands b n (seen v) z → ⊥) → (zs : List ℤ) → AllStand b n (map seen vs) zs → ⊥
none_at b n [] i v within is none zs h = absurd (omega arith)
none_at b n (x ∷ vs) i v within is none [] h = h
none_at b n (x ∷ vs) zero v within is none (z ∷ zs) (one, rest) = none z (subst (λ (g : Given). Stands b n (seen g) z) (sym is) one)
none_at b n (x ∷ vs) (suc i) v within is none (z ∷ zs) (one, rest) = none_at b n vs i v (omega arith) is none zs rest
