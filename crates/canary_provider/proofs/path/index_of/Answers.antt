use Rattle.std.proofs.Common.{◌≡◌, ◌≤◌, ℕ, List, [], ◌∷◌, length, get_or, refl, ap, ◌∙◌, arith, rules}
use Rattle.std.specs.Fmt.{decimal, digits}
use Rattle.canary_provider.proofs.path.index_of.Goals as goal

zero : 48 ∷ [] ≡ decimal 0
unfolding digits
zero = refl

one_byte : (ds : List ℕ) → length ds ≤ 1 → get_or ds 0 0 ≡ 48 → ds ≡ 48 ∷ []
one_byte [] few e = absurd (omega (arith, e))
one_byte (d ∷ []) few e = ap (λ (x : ℕ). x ∷ []) e
one_byte (d ∷ e ∷ ds) few is = absurd (omega (arith, few))

pub returns-in-48 : goal.returns-in-48
returns-in-48 c = one_byte c.args.digits.now (omega arith) (search rules) ∙ zero
