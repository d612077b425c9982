-- Why a text is no condition, and at which byte.
use Rattle.std.specs.Prelude.{◌≡◌, ℕ, ◌<◌, ◌≤◌, List, [], ◌∷◌, ◌++◌, length, slice_index, Some, None}
use Rattle.canary_condition.specs.declared.condition.ConditionFault.{ConditionFault}
use Rattle.canary_condition.specs.declared.condition.ConditionFault.TheVariants.{Syntax as SyntaxFault, TooDeep as TooDeepFault, NumberRange as NumberRangeFault, TooLong as TooLongFault}
use Rattle.canary_condition.specs.declared.explanation.Explained.{Explained}
use Rattle.canary_condition.specs.declared.explanation.Why.{Why}
use Rattle.canary_condition.specs.declared.explanation.Why.TheVariants.{TooLong, NoToken, NumberRange, TooDeep, Syntax}
use Rattle.canary_condition.specs.declared.token.Token.{Token}
use Rattle.canary_condition.specs.declared.token.Token.TheVariants.{OutOfRange}
use Rattle.canary_condition.specs.Trees.{Tree}
use Rattle.canary_condition.specs.Tokens.{tokens_of}
use Rattle.canary_condition.specs.Spelling.{depth}
use Rattle.canary_condition.specs.Reading.{IsInRange, IsConditionText, IsFaultOf}
use Rattle.canary_condition.specs.Fronts.{IsLongestFront, IsExpectedAfter, begins, last_of}

-- the fault that reading the text answers
abbrev pub fault_of : Why → ConditionFault
fault_of TooLong = TooLongFault
fault_of NoToken = SyntaxFault
fault_of NumberRange = NumberRangeFault
fault_of TooDeep = TooDeepFault
fault_of (Syntax expected) = SyntaxFault

-- the tokens of the text fall into those before this byte and those from it on, and have the
-- property
abbrev pub HasFront : List ℕ → ℕ → (List Token → List Token → Type 0) → Type 0
HasFront text at P =
    (front : List Token) × (rest : List Token) × (tokens_of text ≡ Some (front ++ rest))
    × (at ≡ slice_index (begins text) (length front)) × P front rest

-- the first of these tokens, after those before it, is out of range and none before it is
abbrev pub IsFirstOutOfRange : List Token → List Token → Type 0
IsFirstOutOfRange front rest = IsInRange front × (more : List Token) × (rest ≡ OutOfRange ∷ more)

-- with the first of these tokens, and not before, more than 32 brackets are open at some place
abbrev pub IsFirstTooDeep : List Token → List Token → Type 0
IsFirstTooDeep front rest =
    (depth front ≤ 32) × (t : Token) × (more : List Token) × (rest ≡ t ∷ more)
    × (32 < depth (front ++ t ∷ []))

-- at this byte lies the cause
abbrev pub IsCauseAt : List ℕ → ℕ → Why → Type 0
IsCauseAt text at TooLong = at ≡ 1024
IsCauseAt text at NoToken = (tokens_of text ≡ None) × (at ≡ last_of 0 (begins text))
IsCauseAt text at NumberRange = HasFront text at IsFirstOutOfRange
IsCauseAt text at TooDeep = HasFront text at IsFirstTooDeep
IsCauseAt text at (Syntax expected) =
    HasFront text at
    (λ front rest. IsLongestFront front (front ++ rest) × IsExpectedAfter front expected)

-- the fault of the text, and its cause at that byte
abbrev pub IsExplained : List ℕ → Explained → Type 0
IsExplained text explained =
    IsFaultOf text (fault_of explained.why) × IsCauseAt text explained.at explained.why

abbrev pub IsACondition : List ℕ → Type 0
IsACondition text = (tree : Tree) × IsConditionText text tree
