use Rattle.std.proofs.Common.{◌≡◌, ◌*◌, ◌≤◌, ◌/◌, ◌%◌, ℕ, ⊎_elim, arith}
use Rattle.std.specs.Prelude.{◌^◌, min}
use Rattle.std.proofs.lemmas.Bool.{cases_lt}
use Rattle.std.proofs.Math.Nat.{min-eq_left, min-eq_right}
use Rattle.std.proofs.Math.Pow.{pow_mono}
use Rattle.canary_client.proofs.clock.pause_after.Goals as goal

-- half of so many tenths of a second, twice as many each time
few : (x : ℕ) → x ≤ 1024 → min (100 * (1 * x % 18446744073709551616) / 2) 5000 ≡ min 5000 (50 * x)
few x most = omega (arith, most)

many : (x : ℕ) → 1024 ≤ x → 5000 ≡ min 5000 (50 * x)
many x least = omega (arith, least)

-- from the tenth time on the pause is the longest
pause_is : (tried : ℕ) → min (100 * (1 * 2 ^ min tried 10 % 18446744073709551616) / 2) 5000 ≡ min 5000 (50 * 2 ^ tried)
pause_is tried =
    ⊎_elim (λ less. let le : tried ≤ 10 = omega (arith, less) in
    let e : min tried 10 ≡ tried = min-eq_left le in
    rw e (few (2 ^ tried) (pow_mono le)))
    (λ more. let e : min tried 10 ≡ 10 = min-eq_right more in
    rw e (many (2 ^ tried) (pow_mono more)))
    (cases_lt tried 10)

pub returns : goal.returns
returns c = rw (c.min-2.ensures, c.min.ensures) (pause_is c.args.tried)
