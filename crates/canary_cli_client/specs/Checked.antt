-- What a check of a manifest, or of a request's body, writes.
use Rattle.std.specs.Prelude.{◌≡◌, ◌⊎◌, ℕ, ◌<◌, length, Bool, true, false, List, Result, Ok, Err, codes}
use Rattle.std.specs.Io.KnownBytes.{Appends}
use Rattle.canary_base.specs.Writes.{Known}
use Rattle.canary_programs.specs.declared.fault.Fault.{Fault}
use Rattle.canary_programs.specs.declared.fault.Fault.TheVariants as fault
use Rattle.canary_cli_client.specs.declared.exit.ManifestExit.{ManifestExit}
use Rattle.canary_cli_client.specs.declared.exit.ManifestExit.TheVariants.{Done, Findings}

-- (here the `Bool`s are whether warnings are findings, whether the desk takes the manifest or the
-- body, and whether it registers no service that time alone brings to 100 percent; `w` is what the
-- output holds)
-- it was judged so: `ok` was written if the desk takes it and, if warnings are findings, no such
-- service is registered; something longer if the desk does not take it, or if warnings are
-- findings; or memory ran out, or the output failed
abbrev pub IsCheckShown : Bool → Bool → Bool → Known → Known → Result ManifestExit Fault → Type 0
IsCheckShown strict taken attended w new_w (Ok Done) =
    (taken ≡ true) × (strict ≡ true → attended ≡ true) × Appends w new_w (codes "ok\n")
IsCheckShown strict taken attended w new_w (Ok Findings) = (strict ≡ false → taken ≡ false)
    × (text : List ℕ) × (3 < length text) × Appends w new_w text
IsCheckShown strict taken attended w new_w (Err f) = (f ≡ fault.Memory) ⊎ (f ≡ fault.Write)
