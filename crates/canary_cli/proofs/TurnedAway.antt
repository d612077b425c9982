-- What comes of words that have no program, and of those for which no file may be opened.
use Rattle.std.proofs.Common.{◌≡◌, ℕ, [], Option, Some, None, Result, Ok, Err, true, subst, sym, inl, inr}
use Rattle.std.specs.Prelude.{is_some, IfErr, IfOk}
use Rattle.clap.specs.Words.{IsAmong, Kinds}
use Rattle.clap.specs.declared.error.kind.ErrorKind.TheVariants.{DisplayHelp, DisplayVersion}
use Rattle.canary_base.specs.Writes.{Known}
use Rattle.canary_cli_words.specs.declared.words.Program.{Program}
use Rattle.canary_cli_words.specs.declared.words.WordsFault.{WordsFault}
use Rattle.canary_cli_words.specs.declared.words.WordsFault.TheVariants.{Help, Usage, Memory}
use Rattle.canary_cli_words.specs.CommandLine.{IsFor}
use Rattle.canary_cli.specs.Performed.{unopened_status, IsGivenUp, IsTold, IsTurnedAway}

-- why words in which clap finds nothing have no program:
-- only since memory ran out, as they neither ask for help or for the version nor have a mistake
pub only_memory : (kinds : Kinds) (fault : WordsFault) (w new_w : Known) (status : ℕ) → kinds ≡ [] → IsFor kinds fault → IsTold fault w new_w status
    → (status ≡ 1) × (new_w ≡ w)
only_memory kinds (Help text) w new_w status none is told = absurd (elim is as (λ _. ⊥) [ inl help ↦ subst (IsAmong DisplayHelp) none help | inr version ↦ subst (IsAmong DisplayVersion) none version ])
only_memory kinds (Usage text) w new_w status none is told = absurd (subst (IsAmong is.0) none is.1)
only_memory kinds Memory w new_w status none is told = told

-- a program for which no file may be opened is given up so, if memory ran out
no_memory : (program : Option Program) (status : ℕ) → is_some program ≡ true → status ≡ 1 → IsGivenUp program status
no_memory None status is one = cc
no_memory (Some program) status is one = inr one

-- words in which clap finds nothing are given up, and nothing is shown
pub given_up : (kinds : Kinds) (program : Option Program) (asked : Result Program WordsFault) (w new_w : Known) (status : ℕ) → kinds ≡ [] → IfOk asked (λ p. program ≡ Some p)
    → IfErr asked (IsFor kinds) → is_some program ≡ true → IfOk asked (λ p. (status ≡ unopened_status p) × (new_w ≡ w))
    → IfErr asked (λ fault. IsTold fault w new_w status)
    → IsGivenUp program status × (new_w ≡ w)
given_up kinds program (Ok p) w new_w status none is why some ended told = (subst (λ (o : Option Program). IsGivenUp o status) (sym is) (inl ended.0), ended.1)
given_up kinds program (Err fault) w new_w status none is why some ended told =
    let only = only_memory kinds fault w new_w status none why told in
    (no_memory program status some only.0, only.1)

-- and others are turned away
pub turned_away : (kinds : Kinds) (asked : Result Program WordsFault) (w new_w : Known) (status : ℕ) → (kinds ≡ [] → ⊥) → IfOk asked (λ p. kinds ≡ []) → IfErr asked (IsFor kinds)
    → IfErr asked (λ fault. IsTold fault w new_w status)
    → IsTurnedAway kinds w new_w status
turned_away kinds (Ok p) w new_w status some none why told = absurd (some none)
turned_away kinds (Err fault) w new_w status some none why told = (fault, why, told)
