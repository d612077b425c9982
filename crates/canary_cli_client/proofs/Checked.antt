-- Both of two tests.
use Rattle.std.proofs.Common.{◌≡◌, Bool, true, false, refl}
use Rattle.std.specs.Prelude.{◌&&◌, IsTrue}

pub first_so : (a b : Bool) → IsTrue (a && b) → IsTrue a
first_so true b is = refl
first_so false b is = is

pub second_so : (a b : Bool) → IsTrue (a && b) → IsTrue b
second_so true b is = is
second_so false b is = let bad : false ≡ true = is in cc
