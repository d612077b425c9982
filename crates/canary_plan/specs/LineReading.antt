-- How the words of a history's line are read, from the left.
use Rattle.std.specs.Prelude.{ℕ, ◌^◌, ◌==◌, nat_lt, nat_le, ◌&&◌, if◌then◌else◌, List, [], ◌∷◌, Option, Some, None, option_map, codes, decimal}
use Rattle.std.specs.Str.{bytes_eq}
use Rattle.std.specs.Str.Parse.{digits_value}
use Rattle.canary_base.specs.Names.{is_label}
use Rattle.canary_condition.specs.PhaseTexts.{phase_read}
use Rattle.canary_plan.specs.declared.line.LineEvent.{LineEvent}
use Rattle.canary_plan.specs.declared.line.LineEvent.TheVariants.{Created, Started, Retried, BackgroundOpened, WeightEntered, PauseEntered, TimedPauseEntered, AnalysisEntered, Completed, Ended, StepHeld, BackgroundHeld, Promoted, PromotedFull, Aborted, AbortedBy, Finished}

-- parts whose first has one byte more in front
abbrev pub with_front : ℕ → Option (List ℕ × List ℕ) → Option (List ℕ × List ℕ)
with_front b None = None
with_front b (Some parts) = Some (b ∷ parts.0, parts.1)

-- what stands before the first space, and what stands after it
abbrev pub cut : List ℕ → Option (List ℕ × List ℕ)
cut [] = None
cut (b ∷ text) = if b == 32 then Some ([], text) else with_front b (cut text)

-- the version with this text
abbrev pub version_of : List ℕ → Option (List ℕ)
version_of text = if is_label text then Some text else None

-- the number, if it has 32 bits and is printed so
abbrev pub number_if_printed : List ℕ → ℕ → Option ℕ
number_if_printed text n = if nat_lt n (2 ^ 32) && bytes_eq (decimal n) text then Some n else None

-- the number of 32 bits that is printed so
abbrev pub number_of : List ℕ → Option ℕ
number_of text = number_if_printed text (digits_value 10 text)

-- the text before an `s` at the end
abbrev pub before_s : List ℕ → Option (List ℕ)
before_s [] = None
before_s (b ∷ []) = if b == 115 then Some [] else None
before_s (b ∷ c ∷ text) = option_map (λ (front : List ℕ). b ∷ front) (before_s (c ∷ text))

-- seconds, up to 365 days
abbrev pub within_a_year : Option ℕ → Option ℕ
within_a_year None = None
within_a_year (Some seconds) = if nat_le seconds 31536000 then Some seconds else None

-- the seconds of digits, if there are any
abbrev pub seconds_if : Option (List ℕ) → Option ℕ
seconds_if None = None
seconds_if (Some digits) = within_a_year (number_of digits)

-- the seconds before an `s` at the end
abbrev pub seconds_of : List ℕ → Option ℕ
seconds_of text = seconds_if (before_s text)

-- the number of a text that was cut, if the word stands first
abbrev pub numbered_at : List ℕ → Option (List ℕ × List ℕ) → Option ℕ
numbered_at word None = None
numbered_at word (Some parts) = if bytes_eq parts.0 word then number_of parts.1 else None

-- the number after this word
abbrev pub numbered : List ℕ → List ℕ → Option ℕ
numbered word text = numbered_at word (cut text)

-- the event of a text without spaces
abbrev pub event_alone : List ℕ → Option LineEvent
event_alone text =
    if bytes_eq text (codes "promote") then Some Promoted
    else (if bytes_eq text (codes "abort") then Some Aborted else None)

-- what was entered, by its kind and the words after that
abbrev pub entered_as : ℕ → List ℕ → List ℕ → Option LineEvent
entered_as step kind rest =
    if bytes_eq kind (codes "setWeight")
    then option_map (λ weight. WeightEntered step weight) (number_of rest)
    else (if bytes_eq kind (codes "pause")
    then option_map (λ seconds. TimedPauseEntered step seconds) (seconds_of rest)
    else (if bytes_eq kind (codes "analysis")
    then option_map (λ run. AnalysisEntered step run) (numbered (codes "run") rest) else None))

-- what was entered, by the words after the step's number as they were cut
abbrev pub entered_at : ℕ → List ℕ → Option (List ℕ × List ℕ) → Option LineEvent
entered_at step text None = if bytes_eq text (codes "pause") then Some (PauseEntered step) else None
entered_at step text (Some parts) = entered_as step parts.0 parts.1

-- what was entered, by the words after the step's number
abbrev pub entered : ℕ → List ℕ → Option LineEvent
entered step text = entered_at step text (cut text)

-- how a run was closed, by the words after its number as they were cut
abbrev pub closed_at : ℕ → List ℕ → Option (List ℕ × List ℕ) → Option LineEvent
closed_at run text None = option_map (λ phase. Completed run phase) (phase_read text)
closed_at run text (Some parts) =
    if bytes_eq parts.1 (codes "ended")
    then option_map (λ phase. Ended run phase) (phase_read parts.0) else None

-- how a run was closed, by the words after its number
abbrev pub closed : ℕ → List ℕ → Option LineEvent
closed run text = closed_at run text (cut text)

-- what words make of a number, if there is one
abbrev pub with_number : (ℕ → List ℕ → Option LineEvent) → Option ℕ → List ℕ → Option LineEvent
with_number event None text = None
with_number event (Some number) text = event number text

-- the same of a text that was cut
abbrev pub after_number_at : (ℕ → List ℕ → Option LineEvent) → Option (List ℕ × List ℕ)
    → Option LineEvent
after_number_at event None = None
after_number_at event (Some parts) = with_number event (number_of parts.0) parts.1

-- a number, and what the words after it make of it
abbrev pub after_number : (ℕ → List ℕ → Option LineEvent) → List ℕ → Option LineEvent
after_number event text = after_number_at event (cut text)

-- where the release is held
abbrev pub held : List ℕ → Option LineEvent
held text =
    if bytes_eq text (codes "background") then Some BackgroundHeld
    else option_map (λ step. StepHeld step) (numbered (codes "step") text)

-- how far the release was promoted, by the words after `promote`
abbrev pub promoted : List ℕ → Option LineEvent
promoted text = if bytes_eq text (codes "full") then Some PromotedFull else None

-- the event of a first word that no version follows, and what stands after it
abbrev pub event_without_version : List ℕ → List ℕ → Option LineEvent
event_without_version word rest =
    if bytes_eq word (codes "background")
    then option_map (λ run. BackgroundOpened run) (numbered (codes "run") rest)
    else (if bytes_eq word (codes "abort")
    then option_map (λ run. AbortedBy run) (numbered (codes "run") rest)
    else (if bytes_eq word (codes "step") then after_number entered rest
    else (if bytes_eq word (codes "run") then after_number closed rest
    else (if bytes_eq word (codes "hold") then held rest
    else (if bytes_eq word (codes "promote") then promoted rest
    else None)))))

-- the event of a first word, and what stands after it
abbrev pub event_with : List ℕ → List ℕ → Option LineEvent
event_with word rest =
    if bytes_eq word (codes "created")
    then option_map (λ version. Created version) (version_of rest)
    else (if bytes_eq word (codes "start")
    then option_map (λ version. Started version) (version_of rest)
    else (if bytes_eq word (codes "retry")
    then option_map (λ version. Retried version) (version_of rest)
    else (if bytes_eq word (codes "done")
    then option_map (λ version. Finished version) (version_of rest)
    else event_without_version word rest)))

-- the event of a text that was cut
abbrev pub event_at : List ℕ → Option (List ℕ × List ℕ) → Option LineEvent
event_at text None = event_alone text
event_at text (Some parts) = event_with parts.0 parts.1

-- the event that a line's words report
abbrev pub event_of : List ℕ → Option LineEvent
event_of text = event_at text (cut text)
