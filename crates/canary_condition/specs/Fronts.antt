-- How far tokens are those of a condition, and what may stand where they end.
use Rattle.std.specs.Prelude.{◌≡◌, ℕ, zero, suc, ◌-◌, ◌≤◌, ◌↔◌, Bool, true, false, IsTrue, List, [], ◌∷◌, ◌++◌, length, Some, None, pos}
use Rattle.canary_condition.specs.declared.explanation.Expected.{Expected}
use Rattle.canary_condition.specs.declared.explanation.Expected.TheVariants.{Term, Operand, Comparison, ItemOrComparison, Index, CloseItem as CloseItemExpected, SignOrEnd, SignOrClose, ItemSignOrEnd, ItemSignOrClose}
use Rattle.canary_condition.specs.declared.token.Token.{Token}
use Rattle.canary_condition.specs.declared.token.Token.TheVariants.{Compares, OrSign, AndSign, NotSign, Open, Close, OpenItem, CloseItem, ResultWord, Digits, Minus}
use Rattle.canary_condition.specs.Trees.{Tree}
use Rattle.canary_condition.specs.Tokens.{is_blank, front_token}
use Rattle.canary_condition.specs.Spelling.{Spells}
use Rattle.canary_condition.specs.Spelling.Level.{AtOr}

-- the tokens spell a tree
abbrev pub IsWhole : List Token → Type 0
IsWhole ts = (tree : Tree) × Spells tree AtOr ts

-- with some tokens after them the tokens spell a tree
abbrev pub IsFront : List Token → Type 0
IsFront ts = (more : List Token) × IsWhole (ts ++ more)

-- no longer front of these tokens is one with which a tree may begin
abbrev pub IsLongestFront : List Token → List Token → Type 0
IsLongestFront front ts =
    IsFront front
    × ((other : List Token) → (rest : List Token) → ts ≡ other ++ rest → IsFront other
    → length other ≤ length front)

-- the tokens that may stand where this is expected
abbrev pub may_stand : Expected → Token → Bool
may_stand Term NotSign = true
may_stand Term Open = true
may_stand Term ResultWord = true
may_stand Term (Digits z) = true
may_stand Term (Minus z) = true
may_stand Operand ResultWord = true
may_stand Operand (Digits z) = true
may_stand Operand (Minus z) = true
may_stand Comparison (Compares c) = true
may_stand ItemOrComparison (Compares c) = true
may_stand ItemOrComparison OpenItem = true
may_stand Index (Digits (pos i)) = true
may_stand CloseItemExpected CloseItem = true
may_stand SignOrEnd AndSign = true
may_stand SignOrEnd OrSign = true
may_stand SignOrClose AndSign = true
may_stand SignOrClose OrSign = true
may_stand SignOrClose Close = true
may_stand ItemSignOrEnd OpenItem = true
may_stand ItemSignOrEnd AndSign = true
may_stand ItemSignOrEnd OrSign = true
may_stand ItemSignOrClose OpenItem = true
may_stand ItemSignOrClose AndSign = true
may_stand ItemSignOrClose OrSign = true
may_stand ItemSignOrClose Close = true
may_stand expected t = false

-- whether a condition may end where this is expected
abbrev pub may_end : Expected → Bool
may_end SignOrEnd = true
may_end ItemSignOrEnd = true
may_end expected = false

-- after these tokens, those that this allows are exactly those with which a tree may go on, and it
-- allows the end exactly if they spell one
abbrev pub IsExpectedAfter : List Token → Expected → Type 0
IsExpectedAfter front expected =
    ((t : Token) → IsFront (front ++ t ∷ []) ↔ IsTrue (may_stand expected t))
    × (IsWhole front ↔ IsTrue (may_end expected))

-- The bytes at which the tokens of a text begin, and last the one at which they stop: the text's
-- end, or one where no token begins. Counted from this byte, after so many bytes that belong to the
-- token before.
abbrev pub begins_after : ℕ → ℕ → List ℕ → List ℕ
begins_after at n [] = at ∷ []
begins_after at (suc n) (b ∷ text) = begins_after (suc at) n text
begins_after at zero (b ∷ text) =
    elim (is_blank b) [
      | true ↦ begins_after (suc at) zero text
      | false ↦ elim
          (front_token (b ∷ text))
          [ None ↦ at ∷ [] | Some front ↦ at ∷ begins_after (suc at) (front.1 - 1) text ]
    ]

abbrev pub begins : List ℕ → List ℕ
begins text = begins_after 0 0 text

-- the last of some bytes, if this one stands before them
abbrev pub last_of : ℕ → List ℕ → ℕ
last_of byte [] = byte
last_of byte (b ∷ bytes) = last_of b bytes
