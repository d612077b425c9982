-- From what was warned of to whom the steps wait for.
use Rattle.std.proofs.Common.{◌≡◌, ◌<◌, ℕ, Bool, true, false, IsTrue, arith, refl}

-- if something is reported whenever nobody is waited for, and nothing was reported
pub attended_so : (attended : Bool) (told : ℕ) → (attended ≡ false → 0 < told) → told ≡ 0 → IsTrue attended
attended_so true told warned none = refl
attended_so false told warned none = let some : 0 < told = warned refl in absurd (omega (arith, some, none))
