-- What a check that ended with status 0 wrote.
use Rattle.std.proofs.Common.{◌≡◌, ℕ, List, Bool, true, false, Option, Result, Ok, Err, arith, refl, sym, ◌∙◌, codes}
use Rattle.std.specs.Io.KnownBytes.{Appends}
use Rattle.canary_base.specs.Writes.{Known}
use Rattle.canary_programs.specs.declared.fault.Fault.{Fault}
use Rattle.canary_cli_words.specs.declared.words.Program.TheVariants.{Check}
use Rattle.canary_cli.specs.declared.perform.ProgramExit.{ProgramExit}
use Rattle.canary_cli.specs.declared.perform.ProgramExit.TheVariants.{Done, Findings, Unclear, Asked}
use Rattle.canary_cli.specs.Performed.{status_of, IsNoClient, IsRun, IsRunTo}

-- of what is no client, status 0 is that it was done
only_done : (done : Result ProgramExit Fault) → 0 ≡ status_of done → IsNoClient done → done ≡ Ok Done
only_done (Ok Done) is none = refl
only_done (Ok Findings) is none = let one : 0 ≡ 1 = is in absurd (omega arith)
only_done (Ok (Unclear what)) is none = let two : 0 ≡ 2 = is in absurd (omega arith)
only_done (Ok (Asked outcome)) is none = absurd (none outcome refl)
only_done (Err f) is none = let one : 0 ≡ 1 = is in absurd (omega arith)

pub written : (r new_r w new_w : Known) (file request : Option (List ℕ)) (strict : Bool) (status : ℕ) → IsRunTo r new_r w new_w (Check file request strict) status → status ≡ 0 → Appends w new_w (codes "ok\n")
written r new_r w new_w file request strict status ran zero =
    let run : IsRun r new_r w new_w (Check file request strict) ran.0 = ran.2 in
    run.1 (only_done ran.0 (sym zero ∙ ran.1) run.2)
