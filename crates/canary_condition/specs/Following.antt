-- From token to token without the tree: which token may stand at a place of a condition, and what
-- is noted on the way. No public contract cites this: what comes out is said by the grammar.
use Rattle.std.specs.Prelude.{ℕ, zero, suc, ◌-◌, Bool, true, false, if◌then◌else◌, nat_lt, List, [], ◌∷◌, Option, Some, None, pos}
use Rattle.canary_condition.specs.declared.token.Token.{Token}
use Rattle.canary_condition.specs.declared.token.Token.TheVariants.{Compares, OrSign, AndSign, NotSign, Open, Close, OpenItem, CloseItem, ResultWord, Digits, Minus}
use Rattle.canary_condition.specs.declared.token_place.Side.{Side}
use Rattle.canary_condition.specs.declared.token_place.Side.TheVariants.{Left, Right}
use Rattle.canary_condition.specs.declared.token_place.TokenPlace.{TokenPlace}
use Rattle.canary_condition.specs.declared.token_place.TokenPlace.TheVariants.{Term, Result as ResultPlace, Item, Index, Comparison, Operand, End}
use Rattle.canary_condition.specs.declared.explanation.Expected.{Expected}
use Rattle.canary_condition.specs.declared.explanation.Expected.TheVariants.{Term as TermExpected, Operand as OperandExpected, Comparison as ComparisonExpected, ItemOrComparison, Index as IndexExpected, CloseItem as CloseItemExpected, SignOrEnd, SignOrClose, ItemSignOrEnd, ItemSignOrClose}
use Rattle.canary_condition.specs.declared.explanation.Why.TheVariants.{NoToken, NumberRange, TooDeep, Syntax}
use Rattle.canary_condition.specs.declared.explanation.Explained.{Explained}
use Rattle.canary_condition.specs.declared.explanation.TokenProgress.{TokenProgress}
use Rattle.canary_condition.specs.declared.explanation.TokenProgress.TheVariants.{At, Stopped}
use Rattle.canary_condition.specs.declared.explanation.TokenNotes.{TokenNotes}
use Rattle.canary_condition.specs.Reading.{is_out_of_range}
use Rattle.canary_condition.specs.Spelling.{with_token}
use Rattle.canary_condition.specs.Tokens.{is_blank, front_token}
use Rattle.canary_condition.specs.Fronts.{may_end}

abbrev pub after_operand : Side → TokenPlace
after_operand Left = Comparison
after_operand Right = End

-- the place after a token where a comparison, a bracket or a `not` begins
abbrev pub begun : Token → Option TokenPlace
begun NotSign = Some Term
begun Open = Some Term
begun ResultWord = Some (ResultPlace Left)
begun (Digits z) = Some Comparison
begun (Minus z) = Some Comparison
begun t = None

-- after one that follows an operand on the left
abbrev pub compared : Token → Option TokenPlace
compared (Compares c) = Some Operand
compared t = None

-- after one that follows a comparison sign
abbrev pub operand_begun : Token → Option TokenPlace
operand_begun ResultWord = Some (ResultPlace Right)
operand_begun (Digits z) = Some End
operand_begun (Minus z) = Some End
operand_begun t = None

-- after one that follows a comparison or a bracket, with so many brackets open
abbrev pub joined : ℕ → Token → Option TokenPlace
joined n AndSign = Some Term
joined n OrSign = Some Term
joined (suc n) Close = Some End
joined n t = None

-- after one that follows a whole operand
abbrev pub ended : Side → ℕ → Token → Option TokenPlace
ended Left n t = compared t
ended Right n t = joined n t

abbrev pub after_result : Side → ℕ → Token → Option TokenPlace
after_result side n OpenItem = Some (Item side)
after_result side n t = ended side n t

abbrev pub after_item : Side → Token → Option TokenPlace
after_item side (Digits (pos i)) = Some (Index side)
after_item side t = None

abbrev pub after_index : Side → Token → Option TokenPlace
after_index side CloseItem = Some (after_operand side)
after_index side t = None

-- the place after a token, or none if it may not stand, with so many brackets open before it
abbrev pub next : TokenPlace → ℕ → Token → Option TokenPlace
next Term n t = begun t
next (ResultPlace side) n t = after_result side n t
next (Item side) n t = after_item side t
next (Index side) n t = after_index side t
next Comparison n t = compared t
next Operand n t = operand_begun t
next End n t = joined n t

-- what may stand at a place, with so many brackets open
abbrev pub expected : TokenPlace → ℕ → Expected
expected Term n = TermExpected
expected (ResultPlace Left) n = ItemOrComparison
expected (ResultPlace Right) zero = ItemSignOrEnd
expected (ResultPlace Right) (suc n) = ItemSignOrClose
expected (Item side) n = IndexExpected
expected (Index side) n = CloseItemExpected
expected Comparison n = ComparisonExpected
expected Operand n = OperandExpected
expected End zero = SignOrEnd
expected End (suc n) = SignOrClose

-- how far the tokens are those of a condition, with one more at this byte
abbrev pub course_after : TokenProgress → ℕ → ℕ → Token → TokenProgress
course_after (Stopped byte e) n at t = Stopped byte e
course_after (At place) n at t =
    elim (next place n t) [ None ↦ Stopped at (expected place n) | Some after ↦ At after ]

-- the byte where something holds for the first time
abbrev pub first_of : Option ℕ → Bool → ℕ → Option ℕ
first_of (Some byte) holds at = Some byte
first_of None holds at = if holds then Some at else None

abbrev pub start : TokenNotes
start = record { number = None; bracket = None; opened = 0; course = At Term }

-- with one more token, at this byte
abbrev pub noted : TokenNotes → ℕ → Token → TokenNotes
noted s at t =
    record {
      number = first_of s.number (is_out_of_range t) at;
      bracket = first_of s.bracket (nat_lt 32 (with_token s.opened t)) at;
      opened = with_token s.opened t;
      course = course_after s.course s.opened at t;
    }

abbrev pub syntax : ℕ → Expected → Explained
syntax at e = record { at = at; why = Syntax e }

abbrev pub end_at : Expected → ℕ → Option Explained
end_at e at = if may_end e then None else Some (syntax at e)

abbrev pub course_end : TokenProgress → ℕ → ℕ → Option Explained
course_end (Stopped byte e) n at = Some (syntax byte e)
course_end (At place) n at = end_at (expected place n) at

-- what the notes of all tokens say, of a text that ends at this byte
abbrev pub finished : TokenNotes → ℕ → Option Explained
finished s end = elim s.number [
  | Some at ↦ Some (record { at = at; why = NumberRange })
  | None ↦ elim s.bracket [
    | Some at ↦ Some
        (record { at = at; why = TooDeep })
    | None ↦ course_end s.course s.opened end
  ]
]

-- what the rest of a text comes to after these notes, from this byte, after so many bytes that
-- belong to the token before
abbrev pub explain_after : TokenNotes → ℕ → ℕ → List ℕ → Option Explained
explain_after s at n [] = finished s at
explain_after s at (suc n) (b ∷ text) = explain_after s (suc at) n text
explain_after s at zero (b ∷ text) =
    elim (is_blank b) [
      | true ↦ explain_after s (suc at) zero text
      | false ↦ elim
          (front_token (b ∷ text)) [
            | None ↦ Some (record { at = at; why = NoToken })
            | Some front ↦ explain_after
                (noted s at front.0) (suc at) (front.1 - 1) text
          ]
    ]
