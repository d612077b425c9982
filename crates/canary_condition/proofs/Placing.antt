-- Tokens go from place to place exactly as far as a tree may begin with them.
use Rattle.std.proofs.Common.{◌≡◌, ℕ, zero, suc, ◌+◌, ◌-◌, List, [], ◌∷◌, ◌++◌, Option, Some, None, refl, sym, ap, ◌∙◌, subst, append_assoc, arith, pos, inl, inr}
use Rattle.std.proofs.lemmas.List.{append-nil}
use Rattle.canary_condition.specs.declared.condition.Comparison.{Comparison}
use Rattle.canary_condition.specs.declared.condition.Comparison.TheVariants.{Equal}
use Rattle.canary_condition.specs.declared.condition.Operand.{Operand}
use Rattle.canary_condition.specs.declared.condition.Operand.TheVariants.{Whole, Item as ItemOperand, Number}
use Rattle.canary_condition.specs.declared.token.Token.{Token}
use Rattle.canary_condition.specs.declared.token.Token.TheVariants.{Compares, OrSign, AndSign, NotSign, Open, Close, OpenItem, CloseItem, ResultWord, Digits, Minus}
use Rattle.canary_condition.specs.declared.token_place.Side.{Side}
use Rattle.canary_condition.specs.declared.token_place.Side.TheVariants.{Left, Right}
use Rattle.canary_condition.specs.declared.token_place.TokenPlace.{TokenPlace}
use Rattle.canary_condition.specs.declared.token_place.TokenPlace.TheVariants.{Term, Result as ResultPlace, Item, Index, Comparison as ComparisonPlace, Operand as OperandPlace, End}
use Rattle.canary_condition.specs.Trees.{Tree}
use Rattle.canary_condition.specs.Trees.Tree.{Or as OrTree, And as AndTree, Not as NotTree, Bracket as BracketTree, Compare as CompareTree}
use Rattle.canary_condition.specs.Spelling.{Spells, IsOperand, with_token}
use Rattle.canary_condition.specs.Spelling.Level.{AtOr, AtNot}
use Rattle.canary_condition.specs.Fronts.{IsWhole, IsFront}
use Rattle.canary_condition.specs.Following.{after_operand, joined, next}
use Rattle.canary_condition.proofs.ParsesSoundly.{at_and, at_or}

-- ---- what holds of the tokens after the innermost open bracket

-- a comparison, a bracket or a `not` of these
abbrev Tight : List Token → Type 0
Tight ts = (tree : Tree) × Spells tree AtNot ts

-- with one of these after them, the tokens spell a tree
abbrev Head : List Token → Type 0
Head ts = (more : List Token) → Tight more → IsWhole (ts ++ more)

-- after an operand on this side
abbrev Ended : Side → List Token → Type 0
Ended Left ts = (c : Comparison) → (y : Operand) → (more : List Token) → IsOperand y more → IsWhole (ts ++ Compares c ∷ more)
Ended Right ts = IsWhole ts

abbrev Has : TokenPlace → List Token → Type 0
Has Term ts = Head ts
Has (ResultPlace side) ts = Ended side ts × ((i : ℕ) → Ended side (ts ++ OpenItem ∷ Digits (pos i) ∷ CloseItem ∷ []))
Has (Item side) ts = (i : ℕ) → Ended side (ts ++ Digits (pos i) ∷ CloseItem ∷ [])
Has (Index side) ts = Ended side (ts ++ CloseItem ∷ [])
Has ComparisonPlace ts = Ended Left ts
Has OperandPlace ts = (y : Operand) → (more : List Token) → IsOperand y more → IsWhole (ts ++ more)
Has End ts = Ended Right ts

has_after : (side : Side) (ts : List Token) → Ended side ts → Has (after_operand side) ts
has_after Left ts h = h
has_after Right ts h = h

-- one more token, and what comes after it
onto : (ts : List Token) (t : Token) (more : List Token) → (ts ++ t ∷ []) ++ more ≡ ts ++ t ∷ more
onto ts t more = append_assoc ts (t ∷ []) more

ended_moved : (side : Side) (a b : List Token) → a ≡ b → Ended side a → Ended side b
ended_moved side a b e h = subst (Ended side) e h

whole_moved : (a b : List Token) → a ≡ b → IsWhole a → IsWhole b
whole_moved a b e h = subst IsWhole e h

-- `and` and a tight text after a whole one
and_more : (tree : Tree) (ts : List Token) → Spells tree AtOr ts → Head (ts ++ AndSign ∷ [])
and_more (OrTree a b) ts h more k =
    (OrTree a (AndTree b k.0), (refl, h.1, h.2 ++ AndSign ∷ more, onto ts AndSign more ∙ ap (λ (r : List Token). r ++ AndSign ∷ more) h.3 ∙ append_assoc h.1 (OrSign ∷ h.2) (AndSign ∷ more), h.4, (refl, h.2, more, refl, h.5, k.1)))
and_more (AndTree a b) ts h more k = (AndTree (AndTree a b) k.0, (refl, ts, more, onto ts AndSign more, (refl, h.1, h.2, h.3, h.4, h.5), k.1))
and_more (NotTree a) ts h more k = (AndTree (NotTree a) k.0, (refl, ts, more, onto ts AndSign more, h, k.1))
and_more (BracketTree a) ts h more k = (AndTree (BracketTree a) k.0, (refl, ts, more, onto ts AndSign more, h, k.1))
and_more (CompareTree x c y) ts h more k = (AndTree (CompareTree x c y) k.0, (refl, ts, more, onto ts AndSign more, h, k.1))

or_more : (tree : Tree) (ts : List Token) → Spells tree AtOr ts → Head (ts ++ OrSign ∷ [])
or_more tree ts h more k = (OrTree tree k.0, (refl, ts, more, onto ts OrSign more, h, at_and k.0 more k.1))

pub no_head : Head []
no_head more k = (k.0, at_or k.0 more (at_and k.0 more k.1))

-- a comparison whose left side is after a head
compare_more : (x : Operand) (front ts : List Token) → IsOperand x front → Head ts → Ended Left (ts ++ front)
compare_more x front ts i head c y more k = whole_moved (ts ++ (front ++ Compares c ∷ more)) ((ts ++ front) ++ Compares c ∷ more) (sym (append_assoc ts front (Compares c ∷ more))) (head (front ++ Compares c ∷ more) (CompareTree x c y, (front, more, refl, i, k)))

-- the tokens of an item, after a head or after a comparison sign
item_left : (ts : List Token) (i : ℕ) → Head ts → Ended Left ((ts ++ ResultWord ∷ []) ++ OpenItem ∷ Digits (pos i) ∷ CloseItem ∷ [])
item_left ts i head = ended_moved Left _ _ (sym (onto ts ResultWord (OpenItem ∷ Digits (pos i) ∷ CloseItem ∷ []))) (compare_more (ItemOperand i) (ResultWord ∷ OpenItem ∷ Digits (pos i) ∷ CloseItem ∷ []) ts refl head)

-- ---- nested in brackets

abbrev pub Nested : ℕ → (List Token → Type 0) → List Token → Type 0
Nested zero P ts = P ts
Nested (suc n) P ts = (before : List Token) × (inside : List Token) × (ts ≡ before ++ Open ∷ inside) × Nested n Head before × P inside

nested_more : (n : ℕ) (P Q : List Token → Type 0) (more : List Token) → ((ts : List Token) → P ts → Q (ts ++ more)) → (ts : List Token) → Nested n P ts → Nested n Q (ts ++ more)
nested_more zero P Q more f ts h = f ts h
nested_more (suc n) P Q more f ts h = (h.0, h.1 ++ more, ap (λ (r : List Token). r ++ more) h.2 ∙ append_assoc h.0 (Open ∷ h.1) more, h.3, f h.1 h.4)

bracket_tight : (inside : List Token) → IsWhole inside → Tight (Open ∷ inside ++ Close ∷ [])
bracket_tight inside h = (BracketTree h.0, (inside, refl, h.1))

closed : (n : ℕ) (ts : List Token) → Nested (suc n) IsWhole ts → Nested n IsWhole (ts ++ Close ∷ [])
closed n ts h =
    subst (Nested n IsWhole) (sym (ap (λ (r : List Token). r ++ Close ∷ []) h.2 ∙ append_assoc h.0 (Open ∷ h.1) (Close ∷ [])))
    (nested_more n Head IsWhole (Open ∷ h.1 ++ Close ∷ []) (λ ts head. head _ (bracket_tight h.1 h.4)) h.0 h.3)

-- what holds of the tokens before a place
abbrev pub Stands : TokenPlace → ℕ → List Token → Type 0
Stands place n ts = Nested n (Has place) ts

-- ---- one step

abbrev pub StandsBy : Option TokenPlace → ℕ → List Token → Type 0
StandsBy None n ts = Unit {0}
StandsBy (Some place) n ts = Stands place n ts

more_than : (n : ℕ) → suc n ≡ n + 1
more_than n = omega arith

less_than : (n : ℕ) → n ≡ suc n - 1
less_than n = omega arith

opens : (n : ℕ) (ts : List Token) → Stands Term n ts → Stands Term (n + 1) (ts ++ Open ∷ [])
opens n ts h = subst (λ (k : ℕ). Stands Term k (ts ++ Open ∷ [])) (more_than n) (ts, [], refl, h, no_head)

not_more : (ts : List Token) → Head ts → Head (ts ++ NotSign ∷ [])
not_more ts head more k = whole_moved _ _ (sym (onto ts NotSign more)) (head (NotSign ∷ more) (NotTree k.0, (refl, more, refl, k.1)))

result_more : (ts : List Token) → Head ts → Has (ResultPlace Left) (ts ++ ResultWord ∷ [])
result_more ts head = (compare_more Whole (ResultWord ∷ []) ts refl head, λ i. item_left ts i head)

term_stands : (n : ℕ) (t : Token) (ts : List Token) → Stands Term n ts → StandsBy (next Term n t) (with_token n t) (ts ++ t ∷ [])
term_stands n NotSign ts h = nested_more n Head Head (NotSign ∷ []) not_more ts h
term_stands n Open ts h = opens n ts h
term_stands n ResultWord ts h = nested_more n Head (Has (ResultPlace Left)) (ResultWord ∷ []) result_more ts h
term_stands n (Digits z) ts h = nested_more n Head (Ended Left) (Digits z ∷ []) (λ ts head. compare_more (Number z) (Digits z ∷ []) ts (inl refl) head) ts h
term_stands n (Minus z) ts h = nested_more n Head (Ended Left) (Minus z ∷ []) (λ ts head. compare_more (Number z) (Minus z ∷ []) ts (inr refl) head) ts h
term_stands n t ts h = tt

compared_more : (c : Comparison) (ts : List Token) → Ended Left ts → Has OperandPlace (ts ++ Compares c ∷ [])
compared_more c ts h y more k = whole_moved _ _ (sym (onto ts (Compares c) more)) (h c y more k)

comparison_stands : (n : ℕ) (t : Token) (ts : List Token) → Nested n (Ended Left) ts → StandsBy (next ComparisonPlace n t) (with_token n t) (ts ++ t ∷ [])
comparison_stands n (Compares c) ts h = nested_more n (Ended Left) (Has OperandPlace) (Compares c ∷ []) (compared_more c) ts h
comparison_stands n t ts h = tt

right_result : (ts : List Token) → Has OperandPlace ts → Has (ResultPlace Right) (ts ++ ResultWord ∷ [])
right_result ts h = (h Whole (ResultWord ∷ []) refl, λ i. whole_moved _ _ (sym (onto ts ResultWord (OpenItem ∷ Digits (pos i) ∷ CloseItem ∷ []))) (h (ItemOperand i) (ResultWord ∷ OpenItem ∷ Digits (pos i) ∷ CloseItem ∷ []) refl))

operand_stands : (n : ℕ) (t : Token) (ts : List Token) → Stands OperandPlace n ts → StandsBy (next OperandPlace n t) (with_token n t) (ts ++ t ∷ [])
operand_stands n ResultWord ts h = nested_more n (Has OperandPlace) (Has (ResultPlace Right)) (ResultWord ∷ []) right_result ts h
operand_stands n (Digits z) ts h = nested_more n (Has OperandPlace) IsWhole (Digits z ∷ []) (λ ts k. k (Number z) (Digits z ∷ []) (inl refl)) ts h
operand_stands n (Minus z) ts h = nested_more n (Has OperandPlace) IsWhole (Minus z ∷ []) (λ ts k. k (Number z) (Minus z ∷ []) (inr refl)) ts h
operand_stands n t ts h = tt

end_stands : (n : ℕ) (t : Token) (ts : List Token) → Nested n IsWhole ts → StandsBy (joined n t) (with_token n t) (ts ++ t ∷ [])
end_stands n AndSign ts h = nested_more n IsWhole Head (AndSign ∷ []) (λ ts k. and_more k.0 ts k.1) ts h
end_stands n OrSign ts h = nested_more n IsWhole Head (OrSign ∷ []) (λ ts k. or_more k.0 ts k.1) ts h
end_stands (suc n) Close ts h = subst (λ (k : ℕ). Nested k IsWhole (ts ++ Close ∷ [])) (less_than n) (closed n ts h)
end_stands n t ts h = tt

-- the first of two facts in brackets
nested_first : (n : ℕ) (P Q : List Token → Type 0) → ((ts : List Token) → P ts → Q ts) → (ts : List Token) → Nested n P ts → Nested n Q ts
nested_first zero P Q f ts h = f ts h
nested_first (suc n) P Q f ts h = (h.0, h.1, h.2, h.3, f h.1 h.4)

opened_item : (side : Side) (ts : List Token) → Has (ResultPlace side) ts → Has (Item side) (ts ++ OpenItem ∷ [])
opened_item side ts h i = ended_moved side _ _ (sym (onto ts OpenItem (Digits (pos i) ∷ CloseItem ∷ []))) (h.1 i)

result_stands : (side : Side) (n : ℕ) (t : Token) (ts : List Token) → Stands (ResultPlace side) n ts → StandsBy (next (ResultPlace side) n t) (with_token n t) (ts ++ t ∷ [])
result_stands side n OpenItem ts h = nested_more n (Has (ResultPlace side)) (Has (Item side)) (OpenItem ∷ []) (opened_item side) ts h
result_stands Left n t ts h = comparison_stands n t ts (nested_first n (Has (ResultPlace Left)) (Ended Left) (λ ts k. k.0) ts h)
result_stands Right n t ts h = end_stands n t ts (nested_first n (Has (ResultPlace Right)) IsWhole (λ ts k. k.0) ts h)

indexed : (side : Side) (i : ℕ) (ts : List Token) → Has (Item side) ts → Has (Index side) (ts ++ Digits (pos i) ∷ [])
indexed side i ts h = ended_moved side _ _ (sym (onto ts (Digits (pos i)) (CloseItem ∷ []))) (h i)

item_stands : (side : Side) (n : ℕ) (t : Token) (ts : List Token) → Stands (Item side) n ts → StandsBy (next (Item side) n t) (with_token n t) (ts ++ t ∷ [])
item_stands side n (Digits (pos i)) ts h = nested_more n (Has (Item side)) (Has (Index side)) (Digits (pos i) ∷ []) (indexed side i) ts h
item_stands side n t ts h = tt

index_stands : (side : Side) (n : ℕ) (t : Token) (ts : List Token) → Stands (Index side) n ts → StandsBy (next (Index side) n t) (with_token n t) (ts ++ t ∷ [])
index_stands side n CloseItem ts h = nested_more n (Has (Index side)) (Has (after_operand side)) (CloseItem ∷ []) (λ ts k. has_after side (ts ++ CloseItem ∷ []) k) ts h
index_stands side n t ts h = tt

pub step_stands : (place : TokenPlace) (n : ℕ) (t : Token) (ts : List Token) → Stands place n ts → StandsBy (next place n t) (with_token n t) (ts ++ t ∷ [])
step_stands Term n t ts h = term_stands n t ts h
step_stands (ResultPlace side) n t ts h = result_stands side n t ts h
step_stands (Item side) n t ts h = item_stands side n t ts h
step_stands (Index side) n t ts h = index_stands side n t ts h
step_stands ComparisonPlace n t ts h = comparison_stands n t ts h
step_stands OperandPlace n t ts h = operand_stands n t ts h
step_stands End n t ts h = end_stands n t ts h

-- ---- what stands can be completed

-- some tokens that complete any tokens before the place
record Completed (place : TokenPlace) : Type 0 where
  more : List Token
  completes : (ts : List Token) → Has place ts → IsWhole (ts ++ more)

shown : List Token
shown = ResultWord ∷ Compares Equal ∷ ResultWord ∷ []

ended_completed : (side : Side) → (more : List Token) × ((ts : List Token) → Ended side ts → IsWhole (ts ++ more))
ended_completed Left = (Compares Equal ∷ ResultWord ∷ [], λ ts h. h Equal Whole (ResultWord ∷ []) refl)
ended_completed Right = ([], λ ts h. whole_moved _ _ (sym (append-nil ts)) h)

completed : (place : TokenPlace) → Completed place
unfolding shown
completed Term = record { more = shown; completes = λ ts h. h shown (CompareTree Whole Equal Whole, (ResultWord ∷ [], ResultWord ∷ [], refl, refl, refl)) }
completed (ResultPlace side) = let e = ended_completed side in record { more = e.0; completes = λ ts h. e.1 ts h.0 }
completed (Item side) =
    let e = ended_completed side in
    record { more = Digits (pos 0) ∷ CloseItem ∷ e.0; completes = λ ts h. whole_moved _ _ (append_assoc ts (Digits (pos 0) ∷ CloseItem ∷ []) e.0) (e.1 (ts ++ Digits (pos 0) ∷ CloseItem ∷ []) (h 0)) }
completed (Index side) = let e = ended_completed side in record { more = CloseItem ∷ e.0; completes = λ ts h. whole_moved _ _ (onto ts CloseItem e.0) (e.1 (ts ++ CloseItem ∷ []) h) }
completed ComparisonPlace = let e = ended_completed Left in record { more = e.0; completes = λ ts h. e.1 ts h }
completed OperandPlace = record { more = ResultWord ∷ []; completes = λ ts h. h Whole (ResultWord ∷ []) refl }
completed End = let e = ended_completed Right in record { more = e.0; completes = λ ts h. e.1 ts h }

-- the brackets close
front_nested : (n : ℕ) (ts : List Token) → Nested n IsWhole ts → IsFront ts
front_nested zero ts h = ([], whole_moved _ _ (sym (append-nil ts)) h)
front_nested (suc n) ts h = let k = front_nested n (ts ++ Close ∷ []) (closed n ts h) in (Close ∷ k.0, whole_moved _ _ (onto ts Close k.0) k.1)

pub stands_front : (place : TokenPlace) (n : ℕ) (ts : List Token) → Stands place n ts → IsFront ts
stands_front place n ts h =
    let c = completed place in
    let k = front_nested n (ts ++ c.more) (nested_more n (Has place) IsWhole c.more c.completes ts h) in
    (c.more ++ k.0, whole_moved _ _ (append_assoc ts c.more k.0) k.1)
