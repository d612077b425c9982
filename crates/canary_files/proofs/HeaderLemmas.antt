-- The first record of a file.
use Rattle.std.proofs.Common.{◌≡◌, ◌≢◌, ◌∙◌, ◌&&◌, ℕ, List, [], ◌∷◌, Bool, true, false, length, refl, sym, ap, arith}
use Rattle.std.specs.Prelude.{codes, ◌==◌}
use Rattle.std.specs.Str.{bytes_eq}
use Rattle.std.proofs.lemmas.Slice.Eq.{bytes_eq-Decides}
use Rattle.std.proofs.lemmas.Bool.{eqb-true, false≢true}
use Rattle.csv.specs.Records.{field_at}
use Rattle.canary_files.specs.Rows.{header, field, is_at, says_who, says_where, says_what, is_header}

both : (a b : Bool) → (a && b) ≡ true → (a ≡ true) × (b ≡ true)
both true b e = (refl, e)
both false b e = absurd (false≢true e)

nine : (fields : List (List ℕ)) → length fields ≡ 9 → field fields 0 ≡ codes "caller" → field fields 1 ≡ codes "number" → field fields 2 ≡ codes "service" → field fields 3 ≡ codes "run" → field fields 4 ≡ codes "metric" → field fields 5 ≡ codes "ordinal" → field fields 6 ≡ codes "taken" → field fields 7 ≡ codes "result" → field fields 8 ≡ codes "failure" → fields ≡ header
unfolding header field_at
nine [] l e0 e1 e2 e3 e4 e5 e6 e7 e8 = absurd (omega (arith, l))
nine (a ∷ []) l e0 e1 e2 e3 e4 e5 e6 e7 e8 = absurd (omega (arith, l))
nine (a ∷ b ∷ []) l e0 e1 e2 e3 e4 e5 e6 e7 e8 = absurd (omega (arith, l))
nine (a ∷ b ∷ c ∷ []) l e0 e1 e2 e3 e4 e5 e6 e7 e8 = absurd (omega (arith, l))
nine (a ∷ b ∷ c ∷ d ∷ []) l e0 e1 e2 e3 e4 e5 e6 e7 e8 = absurd (omega (arith, l))
nine (a ∷ b ∷ c ∷ d ∷ e ∷ []) l e0 e1 e2 e3 e4 e5 e6 e7 e8 = absurd (omega (arith, l))
nine (a ∷ b ∷ c ∷ d ∷ e ∷ f ∷ []) l e0 e1 e2 e3 e4 e5 e6 e7 e8 = absurd (omega (arith, l))
nine (a ∷ b ∷ c ∷ d ∷ e ∷ f ∷ g ∷ []) l e0 e1 e2 e3 e4 e5 e6 e7 e8 = absurd (omega (arith, l))
nine (a ∷ b ∷ c ∷ d ∷ e ∷ f ∷ g ∷ h ∷ []) l e0 e1 e2 e3 e4 e5 e6 e7 e8 = absurd (omega (arith, l))
nine (a ∷ b ∷ c ∷ d ∷ e ∷ f ∷ g ∷ h ∷ i ∷ []) l e0 e1 e2 e3 e4 e5 e6 e7 e8 = λ k. e0 k ∷ e1 k ∷ e2 k ∷ e3 k ∷ e4 k ∷ e5 k ∷ e6 k ∷ e7 k ∷ e8 k ∷ []
nine (a ∷ b ∷ c ∷ d ∷ e ∷ f ∷ g ∷ h ∷ i ∷ j ∷ rest) l e0 e1 e2 e3 e4 e5 e6 e7 e8 = absurd (omega (arith, l))

alike : (xs ys : List ℕ) → bytes_eq xs ys ≡ true → xs ≡ ys
alike xs ys e = (bytes_eq-Decides xs ys).0 e

pub header_is : (fields : List (List ℕ)) → is_header fields ≡ true → fields ≡ header
unfolding is_header says_who says_where says_what
header_is fields e =
    let n = both (length fields == 9) _ e in
    let m = both (says_who fields) _ n.1 in
    let o = both (says_where fields) (says_what fields) m.1 in
    let p0 = both (is_at fields 0 (codes "caller")) _ m.0 in
    let p1 = both (is_at fields 1 (codes "number")) _ p0.1 in
    let p3 = both (is_at fields 3 (codes "run")) _ o.0 in
    let p4 = both (is_at fields 4 (codes "metric")) _ p3.1 in
    let p6 = both (is_at fields 6 (codes "taken")) _ o.1 in
    let p7 = both (is_at fields 7 (codes "result")) _ p6.1 in
    nine fields (eqb-true (length fields) 9 n.0) (alike (field fields 0) (codes "caller") p0.0) (alike (field fields 1) (codes "number") p1.0) (alike (field fields 2) (codes "service") p1.1) (alike (field fields 3) (codes "run") p3.0) (alike (field fields 4) (codes "metric") p4.0) (alike (field fields 5) (codes "ordinal") p4.1) (alike (field fields 6) (codes "taken") p6.0) (alike (field fields 7) (codes "result") p7.0) (alike (field fields 8) (codes "failure") p7.1)

header_true : is_header header ≡ true
unfolding is_header says_who says_where says_what header field_at
header_true = refl

pub header_not : (fields : List (List ℕ)) → is_header fields ≡ false → fields ≢ header
header_not fields off e = false≢true (sym off ∙ ap is_header e ∙ header_true)
