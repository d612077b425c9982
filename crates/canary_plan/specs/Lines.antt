-- The texts of a history's lines.
use Rattle.std.specs.Prelude.{◌≡◌, ◌<◌, ◌≤◌, ◌^◌, ℕ, IsTrue, List, [], ◌∷◌, ◌++◌, codes, decimal}
use Rattle.canary_base.specs.Moments.{moment_text}
use Rattle.canary_base.specs.Names.{is_label}
use Rattle.canary_plan.specs.declared.line.LineEvent.{LineEvent}
use Rattle.canary_plan.specs.declared.line.LineEvent.TheVariants.{Created, Started, Retried, BackgroundOpened, WeightEntered, PauseEntered, TimedPauseEntered, AnalysisEntered, Completed, Ended, StepHeld, BackgroundHeld, Promoted, PromotedFull, Aborted, AbortedBy, Finished}
use Rattle.canary_plan.specs.declared.line.Line.{Line}
use Rattle.canary_condition.specs.PhaseTexts.{phase_text}

-- a line's words, without the moment
abbrev pub words : LineEvent → List ℕ
words (Created version) = codes "created " ++ version
words (Started version) = codes "start " ++ version
words (Retried version) = codes "retry " ++ version
words (BackgroundOpened run) = codes "background run " ++ decimal run
words (WeightEntered step weight) =
    codes "step " ++ (decimal step ++ (codes " setWeight " ++ decimal weight))
words (PauseEntered step) = codes "step " ++ (decimal step ++ codes " pause")
words (TimedPauseEntered step seconds) =
    codes "step " ++ (decimal step ++ (codes " pause " ++ (decimal seconds ++ codes "s")))
words (AnalysisEntered step run) =
    codes "step " ++ (decimal step ++ (codes " analysis run " ++ decimal run))
words (Completed run phase) = codes "run " ++ (decimal run ++ (codes " " ++ phase_text phase))
words (Ended run phase) =
    codes "run " ++ (decimal run ++ (codes " " ++ (phase_text phase ++ codes " ended")))
words (StepHeld step) = codes "hold step " ++ decimal step
words BackgroundHeld = codes "hold background"
words Promoted = codes "promote"
words PromotedFull = codes "promote full"
words Aborted = codes "abort"
words (AbortedBy run) = codes "abort run " ++ decimal run
words (Finished version) = codes "done " ++ version

-- a line of that moment and event
abbrev pub line_at : ℕ → LineEvent → Line
line_at moment event = record { moment = moment; event = event }

-- the moment's text, a space and the words
abbrev pub line_text : Line → List ℕ
line_text line = moment_text line.moment ++ (32 ∷ words line.event)

-- each line's text, ended with LF
abbrev pub history_text : List Line → List ℕ
history_text [] = []
history_text (line ∷ lines) = line_text line ++ (10 ∷ history_text lines)

-- a version is a label
abbrev pub IsVersion : List ℕ → Type 0
IsVersion version = IsTrue (is_label version)

-- a number of 32 bits
abbrev pub IsCount : ℕ → Type 0
IsCount n = n < 2 ^ 32

-- what a line can say: labels, numbers of 32 bits, and durations of a year at most
abbrev pub IsLineEvent : LineEvent → Type 0
IsLineEvent (Created version) = IsVersion version
IsLineEvent (Started version) = IsVersion version
IsLineEvent (Retried version) = IsVersion version
IsLineEvent (BackgroundOpened run) = IsCount run
IsLineEvent (WeightEntered step weight) = IsCount step × IsCount weight
IsLineEvent (PauseEntered step) = IsCount step
IsLineEvent (TimedPauseEntered step seconds) = IsCount step × (seconds ≤ 31536000)
IsLineEvent (AnalysisEntered step run) = IsCount step × IsCount run
IsLineEvent (Completed run phase) = IsCount run
IsLineEvent (Ended run phase) = IsCount run
IsLineEvent (StepHeld step) = IsCount step
IsLineEvent BackgroundHeld = Unit {0}
IsLineEvent Promoted = Unit {0}
IsLineEvent PromotedFull = Unit {0}
IsLineEvent Aborted = Unit {0}
IsLineEvent (AbortedBy run) = IsCount run
IsLineEvent (Finished version) = IsVersion version

-- the law: words stand for one event at most, so they can be read back
abbrev pub WordsReadBack : Type 0
WordsReadBack = (e f : LineEvent) → IsLineEvent e → IsLineEvent f → words e ≡ words f → e ≡ f
