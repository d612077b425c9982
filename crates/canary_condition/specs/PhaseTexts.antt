-- How a phase is written: its word in a text, and its number in a store.
use Rattle.std.specs.Prelude.{ℕ, ◌==◌, if◌then◌else◌, List, Option, Some, None, codes}
use Rattle.std.specs.Str.{bytes_eq}
use Rattle.canary_condition.specs.declared.outcome.Phase.{Phase}
use Rattle.canary_condition.specs.declared.outcome.Phase.TheVariants.{Pending, Running, Successful, Inconclusive, Error, Failed}

-- the word of a phase
abbrev pub phase_text : Phase → List ℕ
phase_text Pending = codes "Pending"
phase_text Running = codes "Running"
phase_text Successful = codes "Successful"
phase_text Inconclusive = codes "Inconclusive"
phase_text Error = codes "Error"
phase_text Failed = codes "Failed"

-- the phase with this word
abbrev pub phase_read : List ℕ → Option Phase
phase_read text =
    if bytes_eq text (phase_text Pending) then Some Pending
    else (if bytes_eq text (phase_text Running) then Some Running
    else (if bytes_eq text (phase_text Successful) then Some Successful
    else (if bytes_eq text (phase_text Inconclusive) then Some Inconclusive
    else (if bytes_eq text (phase_text Error) then Some Error
    else (if bytes_eq text (phase_text Failed) then Some Failed else None)))))

-- the number of a phase in a store, which keeps nothing that is pending
abbrev pub phase_number : Phase → Option ℕ
phase_number Pending = None
phase_number Running = Some 0
phase_number Successful = Some 1
phase_number Inconclusive = Some 2
phase_number Error = Some 3
phase_number Failed = Some 4

-- the phase with this number
abbrev pub phase_of_number : ℕ → Option Phase
phase_of_number n =
    if n == 0 then Some Running
    else (if n == 1 then Some Successful
    else (if n == 2 then Some Inconclusive
    else (if n == 3 then Some Error
    else (if n == 4 then Some Failed else None))))
