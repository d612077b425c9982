-- Worked lines, computed on the definitions, so that a wrong word in a definition does not check.
use Rattle.std.proofs.Common.{◌≡◌, [], ◌∷◌, ◌++◌, refl}
use Rattle.std.specs.Prelude.{Some, None, codes}
use Rattle.std.specs.Fmt.{digits}
use Rattle.canary_base.specs.Moments.{moment_text}
use Rattle.canary_condition.specs.declared.outcome.Phase.TheVariants.{Successful, Inconclusive, Error}
use Rattle.canary_plan.specs.declared.line.LineEvent.TheVariants.{Created, Started, Retried, BackgroundOpened, WeightEntered, PauseEntered, TimedPauseEntered, AnalysisEntered, Completed, Ended, StepHeld, BackgroundHeld, Promoted, PromotedFull, Aborted, AbortedBy, Finished}
use Rattle.canary_plan.specs.Lines.{words, line_at, line_text, history_text}
use Rattle.canary_plan.specs.LineReading.{event_of}

-- The words of each kind of line.

created : words (Created (codes "v1")) ≡ codes "created v1"
created = refl

started : words (Started (codes "v2")) ≡ codes "start v2"
started = refl

retried : words (Retried (codes "v2")) ≡ codes "retry v2"
retried = refl

background_opened : words (BackgroundOpened 1) ≡ codes "background run 1"
unfolding digits
background_opened = refl

weight_entered : words (WeightEntered 2 50) ≡ codes "step 2 setWeight 50"
unfolding digits
weight_entered = refl

pause_entered : words (PauseEntered 1) ≡ codes "step 1 pause"
unfolding digits
pause_entered = refl

timed_pause_entered : words (TimedPauseEntered 3 31536000) ≡ codes "step 3 pause 31536000s"
unfolding digits
timed_pause_entered = refl

analysis_entered : words (AnalysisEntered 10 4) ≡ codes "step 10 analysis run 4"
unfolding digits
analysis_entered = refl

completed : words (Completed 4 Inconclusive) ≡ codes "run 4 Inconclusive"
unfolding digits
completed = refl

ended : words (Ended 5 Successful) ≡ codes "run 5 Successful ended"
unfolding digits
ended = refl

step_held : words (StepHeld 10) ≡ codes "hold step 10"
unfolding digits
step_held = refl

background_held : words BackgroundHeld ≡ codes "hold background"
background_held = refl

promoted : words Promoted ≡ codes "promote"
promoted = refl

promoted_full : words PromotedFull ≡ codes "promote full"
promoted_full = refl

aborted : words Aborted ≡ codes "abort"
aborted = refl

aborted_by : words (AbortedBy 4294967295) ≡ codes "abort run 4294967295"
unfolding digits
aborted_by = refl

finished : words (Finished (codes "v2")) ≡ codes "done v2"
finished = refl

-- A line, and a history.

line : line_text (line_at 1767225601 (Started (codes "v2"))) ≡ codes "2026-01-01T00:00:01Z start v2"
unfolding moment_text
line = refl

history : history_text (line_at 1767225600 (Created (codes "v1")) ∷ line_at 1767225601 (WeightEntered 0 20) ∷ []) ≡ codes "2026-01-01T00:00:00Z created v1" ++ (10 ∷ (codes "2026-01-01T00:00:01Z step 0 setWeight 20" ++ (10 ∷ [])))
unfolding moment_text digits
history = refl

empty_history : history_text [] ≡ []
empty_history = refl

-- What is read, and what is not.

reads_a_pause : event_of (codes "step 0 pause 0s") ≡ Some (TimedPauseEntered 0 0)
unfolding digits
reads_a_pause = refl

reads_an_end : event_of (codes "run 7 Error ended") ≡ Some (Ended 7 Error)
unfolding digits
reads_an_end = refl

leading_zero : event_of (codes "step 01 pause") ≡ None
unfolding digits
leading_zero = refl

no_step : event_of (codes "pause 5") ≡ None
no_step = refl

leading_zero_of_a_run : event_of (codes "run 07 Failed") ≡ None
unfolding digits
leading_zero_of_a_run = refl

plus : event_of (codes "hold step +1") ≡ None
unfolding digits
plus = refl

beyond_32_bits : event_of (codes "abort run 4294967296") ≡ None
unfolding digits
beyond_32_bits = refl

beyond_a_year : event_of (codes "step 1 pause 31536001s") ≡ None
unfolding digits
beyond_a_year = refl

no_unit : event_of (codes "step 1 pause 5") ≡ None
unfolding digits
no_unit = refl

unknown_phase : event_of (codes "run 1 Skipped") ≡ None
unfolding digits
unknown_phase = refl

space_at_the_end : event_of (codes "promote ") ≡ None
space_at_the_end = refl

two_spaces : event_of (codes "start  v2") ≡ None
two_spaces = refl

no_words : event_of [] ≡ None
no_words = refl
