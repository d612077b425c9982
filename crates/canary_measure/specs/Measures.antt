-- What was measured, as a condition of Argo Rollouts looks at it, and results that stand for it.
use Rattle.std.specs.Prelude.{◌≡◌, ℕ, pos, List, [], ◌∷◌, map, Result, MatchResult}
use Rattle.canary_condition.specs.declared.outcome.Value.{Value}
use Rattle.canary_condition.specs.declared.outcome.Value.TheVariants.{Whole, List as ListResult}
use Rattle.canary_condition.specs.Results.{IsResult}
use Rattle.canary_decimal.specs.declared.shown.Beside.{Beside}
use Rattle.canary_argo.specs.Meaning.{Given as GivenTo, Measured as MeasuredFor, given_of}
use Rattle.canary_argo.specs.Meaning.Given.{Nothing, Text as TextTo}
use Rattle.canary_argo.specs.Meaning.Measured.{One as OneValue, Several as SeveralValues}
use Rattle.canary_argo.specs.Reporting.{Stands, AllStand}
use Rattle.canary_measure.specs.declared.measured.Given.{Given}
use Rattle.canary_measure.specs.declared.measured.Given.TheVariants.{Read, Text, Null}
use Rattle.canary_measure.specs.declared.measured.Measured.{Measured}
use Rattle.canary_measure.specs.declared.measured.Measured.TheVariants.{One, Several}
use Rattle.canary_measure.specs.declared.why.NotReported.{NotReported}

-- a value as a condition looks at it
abbrev pub seen : Given → GivenTo
seen (Read reading) = given_of reading
seen (Text number) = TextTo number
seen Null = Nothing

abbrev pub measured_of : Measured → MeasuredFor
measured_of (One given) = OneValue (seen given)
measured_of (Several values) = SeveralValues (map seen values.items)

-- the result is a number that stands for the value
abbrev pub IsOf : Beside → ℕ → GivenTo → Value → Type 0
IsOf beside n g (Whole z) = Stands beside n g z
IsOf beside n g (ListResult zs) = ⊥

-- the same of the first value of a list
abbrev pub IsFirstOf : Beside → ℕ → List GivenTo → Value → Type 0
IsFirstOf beside n [] v = ⊥
IsFirstOf beside n (g ∷ gs) v = IsOf beside n g v

-- the numbers of a list stand for these values, in their order
abbrev pub IsListOf : Beside → ℕ → List GivenTo → Value → Type 0
IsListOf beside n gs (Whole z) = ⊥
IsListOf beside n gs (ListResult zs) = AllStand beside n gs zs

-- the same after a length
abbrev pub IsListAfter : Beside → ℕ → ℕ → List GivenTo → Value → Type 0
IsListAfter beside n count gs (Whole z) = ⊥
IsListAfter beside n count gs (ListResult []) = ⊥
IsListAfter beside n count gs (ListResult (z ∷ zs)) = (z ≡ pos count) × AllStand beside n gs zs

-- what is answered is such a result; or there is none that a program can hold
abbrev pub IsAnswer : Result Value NotReported → (Value → Type 0) → Type 0
IsAnswer answer IsSuch =
    MatchResult answer IsSuch (λ _. (v : Value) → IsResult v → IsSuch v → ⊥)
