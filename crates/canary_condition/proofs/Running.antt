-- Running over tokens from place to place, against the grammar.
use Rattle.std.proofs.Common.{◌≡◌, ℕ, zero, suc, ◌+◌, ◌-◌, Bool, true, false, List, [], ◌∷◌, ◌++◌, Option, Some, None, refl, sym, ap, ◌∙◌, subst, append_assoc, arith, pos, negsuc, inl, inr, ◌⊎◌}
use Rattle.std.proofs.lemmas.Bool.{false≢true}
use Rattle.std.proofs.lemmas.List.{append-nil}
use Rattle.canary_condition.specs.declared.condition.Comparison.{Comparison}
use Rattle.canary_condition.specs.declared.condition.Operand.{Operand}
use Rattle.canary_condition.specs.declared.condition.Operand.TheVariants.{Whole, Item as ItemOperand, Number}
use Rattle.canary_condition.specs.declared.token.Token.{Token}
use Rattle.canary_condition.specs.declared.token.Token.TheVariants.{Compares, OrSign, AndSign, NotSign, Open, Close, OpenItem, CloseItem, ResultWord, Digits, Minus}
use Rattle.canary_condition.specs.declared.token_place.Side.{Side}
use Rattle.canary_condition.specs.declared.token_place.Side.TheVariants.{Left, Right}
use Rattle.canary_condition.specs.declared.token_place.TokenPlace.{TokenPlace}
use Rattle.canary_condition.specs.declared.token_place.TokenPlace.TheVariants.{Term, Result as ResultPlace, Item, Index, Comparison as ComparisonPlace, Operand as OperandPlace, End}
use Rattle.canary_condition.specs.Trees.{Tree}
use Rattle.canary_condition.specs.Trees.Tree.{Or as OrTree, And as AndTree, Not as NotTree, Bracket as BracketTree, Compare as CompareTree}
use Rattle.canary_condition.specs.Spelling.{Level, Spells, IsOperand, with_token}
use Rattle.canary_condition.specs.Spelling.Level.{AtOr}
use Rattle.canary_condition.specs.Fronts.{IsWhole, IsFront, IsExpectedAfter, may_stand, may_end}
use Rattle.canary_condition.specs.Following.{after_operand, next, expected}
use Rattle.canary_condition.proofs.Placing.{Stands, step_stands, stands_front, StandsBy, no_head}

-- the place after tokens, with the brackets that are open there
abbrev pub run : TokenPlace → ℕ → List Token → Option (TokenPlace × ℕ)
run place n [] = Some (place, n)
run place n (t ∷ ts) = elim (next place n t) [ None ↦ None | Some after ↦ run after (with_token n t) ts ]

-- ---- what is run over stands

abbrev RunStands : List Token → Option (TokenPlace × ℕ) → Type 0
RunStands ts None = Unit {0}
RunStands ts (Some p) = Stands p.0 p.1 ts

run_stands : (more : List Token) (place : TokenPlace) (n : ℕ) (ts : List Token) → Stands place n ts → RunStands (ts ++ more) (run place n more)
run_stands [] place n ts h = subst (Stands place n) (sym (append-nil ts)) h
run_stands (t ∷ more) place n ts h =
    elim (next place n t) as (λ r. StandsBy r (with_token n t) (ts ++ t ∷ []) → RunStands (ts ++ t ∷ more) (elim r [ None ↦ None | Some after ↦ run after (with_token n t) more ])) [
      | None ↦ λ _. tt
      | Some after ↦ λ k. subst (λ (r : List Token). RunStands r (run after (with_token n t) more)) (append_assoc ts (t ∷ []) more) (run_stands more after (with_token n t) (ts ++ t ∷ []) k)
    ] (step_stands place n t ts h)

stands_run : (ts : List Token) (place : TokenPlace) (n : ℕ) → run Term 0 ts ≡ Some (place, n) → Stands place n ts
stands_run ts place n e = subst (RunStands ts) e (run_stands ts Term 0 [] no_head)

pub run_front : (ts : List Token) (place : TokenPlace) (n : ℕ) → run Term 0 ts ≡ Some (place, n) → IsFront ts
run_front ts place n e = stands_front place n ts (stands_run ts place n e)

-- where a condition may end it has ended
whole_there : (place : TokenPlace) (n : ℕ) (ts : List Token) → Stands place n ts → may_end (expected place n) ≡ true → IsWhole ts
whole_there (ResultPlace Right) zero ts h e = h.0
whole_there End zero ts h e = h
whole_there (ResultPlace Right) (suc n) ts h e = absurd (false≢true e)
whole_there End (suc n) ts h e = absurd (false≢true e)
whole_there (ResultPlace Left) n ts h e = absurd (false≢true e)
whole_there Term n ts h e = absurd (false≢true e)
whole_there (Item side) n ts h e = absurd (false≢true e)
whole_there (Index side) n ts h e = absurd (false≢true e)
whole_there ComparisonPlace n ts h e = absurd (false≢true e)
whole_there OperandPlace n ts h e = absurd (false≢true e)

pub run_whole : (ts : List Token) (place : TokenPlace) (n : ℕ) → run Term 0 ts ≡ Some (place, n) → may_end (expected place n) ≡ true → IsWhole ts
run_whole ts place n e may = whole_there place n ts (stands_run ts place n e) may

-- ---- what spells a tree is run over

-- after an operand on this side
abbrev IsBehind : Side → TokenPlace → Type 0
IsBehind side place = (place ≡ after_operand side) ⊎ (place ≡ ResultPlace side)

record Reaches (side : Side) (from : TokenPlace) (n : ℕ) (ts rest : List Token) : Type 0 where
  place : TokenPlace
  behind : IsBehind side place
  goes : run from n (ts ++ rest) ≡ run place n rest

operand_left : (x : Operand) (n : ℕ) (ts rest : List Token) → IsOperand x ts → Reaches Left Term n ts rest
operand_left Whole n ts rest h = record { place = ResultPlace Left; behind = inr refl; goes = ap (λ (r : List Token). run Term n (r ++ rest)) h }
operand_left (ItemOperand i) n ts rest h = record { place = ComparisonPlace; behind = inl refl; goes = ap (λ (r : List Token). run Term n (r ++ rest)) h }
operand_left (Number z) n ts rest (inl h) = record { place = ComparisonPlace; behind = inl refl; goes = ap (λ (r : List Token). run Term n (r ++ rest)) h }
operand_left (Number z) n ts rest (inr h) = record { place = ComparisonPlace; behind = inl refl; goes = ap (λ (r : List Token). run Term n (r ++ rest)) h }

operand_right : (y : Operand) (n : ℕ) (ts rest : List Token) → IsOperand y ts → Reaches Right OperandPlace n ts rest
operand_right Whole n ts rest h = record { place = ResultPlace Right; behind = inr refl; goes = ap (λ (r : List Token). run OperandPlace n (r ++ rest)) h }
operand_right (ItemOperand i) n ts rest h = record { place = End; behind = inl refl; goes = ap (λ (r : List Token). run OperandPlace n (r ++ rest)) h }
operand_right (Number z) n ts rest (inl h) = record { place = End; behind = inl refl; goes = ap (λ (r : List Token). run OperandPlace n (r ++ rest)) h }
operand_right (Number z) n ts rest (inr h) = record { place = End; behind = inl refl; goes = ap (λ (r : List Token). run OperandPlace n (r ++ rest)) h }

compares_goes : (place : TokenPlace) (n : ℕ) (c : Comparison) (rest : List Token) → IsBehind Left place → run place n (Compares c ∷ rest) ≡ run OperandPlace n rest
compares_goes place n c rest (inl e) = ap (λ (p : TokenPlace). run p n (Compares c ∷ rest)) e
compares_goes place n c rest (inr e) = ap (λ (p : TokenPlace). run p n (Compares c ∷ rest)) e

and_goes : (place : TokenPlace) (n : ℕ) (rest : List Token) → IsBehind Right place → run place n (AndSign ∷ rest) ≡ run Term n rest
and_goes place n rest (inl e) = ap (λ (p : TokenPlace). run p n (AndSign ∷ rest)) e
and_goes place n rest (inr e) = ap (λ (p : TokenPlace). run p n (AndSign ∷ rest)) e

or_goes : (place : TokenPlace) (n : ℕ) (rest : List Token) → IsBehind Right place → run place n (OrSign ∷ rest) ≡ run Term n rest
or_goes place n rest (inl e) = ap (λ (p : TokenPlace). run p n (OrSign ∷ rest)) e
or_goes place n rest (inr e) = ap (λ (p : TokenPlace). run p n (OrSign ∷ rest)) e

close_goes : (place : TokenPlace) (n : ℕ) (rest : List Token) → IsBehind Right place → run place (suc n) (Close ∷ rest) ≡ run End n rest
close_goes place n rest (inl e) = let less : suc n - 1 ≡ n = omega arith in ap (λ (p : TokenPlace). run p (suc n) (Close ∷ rest)) e ∙ ap (λ (k : ℕ). run End k rest) less
close_goes place n rest (inr e) = let less : suc n - 1 ≡ n = omega arith in ap (λ (p : TokenPlace). run p (suc n) (Close ∷ rest)) e ∙ ap (λ (k : ℕ). run End k rest) less

open_goes : (n : ℕ) (rest : List Token) → run Term n (Open ∷ rest) ≡ run Term (suc n) rest
open_goes n rest = let more : n + 1 ≡ suc n = omega arith in ap (λ (k : ℕ). run Term k rest) more

split : (place : TokenPlace) (n : ℕ) (ts before after rest : List Token) (t : Token) → ts ≡ before ++ t ∷ after → run place n (ts ++ rest) ≡ run place n (before ++ t ∷ (after ++ rest))
split place n ts before after rest t e = ap (run place n) (ap (λ (r : List Token). r ++ rest) e ∙ append_assoc before (t ∷ after) rest)

tree_runs : (tree : Tree) (level : Level) (n : ℕ) (ts rest : List Token) → Spells tree level ts → Reaches Right Term n ts rest
tree_runs (OrTree a b) level n ts rest h =
    let l = tree_runs a _ n h.1 (OrSign ∷ (h.2 ++ rest)) h.4 in
    let r = tree_runs b _ n h.2 rest h.5 in
    record { place = r.place; behind = r.behind; goes = split Term n ts h.1 h.2 rest OrSign h.3 ∙ l.goes ∙ or_goes l.place n (h.2 ++ rest) l.behind ∙ r.goes }
tree_runs (AndTree a b) level n ts rest h =
    let l = tree_runs a _ n h.1 (AndSign ∷ (h.2 ++ rest)) h.4 in
    let r = tree_runs b _ n h.2 rest h.5 in
    record { place = r.place; behind = r.behind; goes = split Term n ts h.1 h.2 rest AndSign h.3 ∙ l.goes ∙ and_goes l.place n (h.2 ++ rest) l.behind ∙ r.goes }
tree_runs (NotTree a) level n ts rest h =
    let r = tree_runs a _ n h.1 rest h.3 in
    record { place = r.place; behind = r.behind; goes = ap (λ (r : List Token). run Term n (r ++ rest)) h.2 ∙ r.goes }
tree_runs (BracketTree a) level n ts rest h =
    let r = tree_runs a _ (suc n) h.0 (Close ∷ rest) h.2 in
    record {
      place = End;
      behind = inl refl;
      goes =
          ap (λ (r : List Token). run Term n (r ++ rest)) h.1 ∙ open_goes n ((h.0 ++ Close ∷ []) ++ rest) ∙ ap (run Term (suc n)) (append_assoc h.0 (Close ∷ []) rest) ∙ r.goes
          ∙ close_goes r.place n rest r.behind;
    }
tree_runs (CompareTree x c y) level n ts rest h =
    let l = operand_left x n h.0 (Compares c ∷ (h.1 ++ rest)) h.3 in
    let r = operand_right y n h.1 rest h.4 in
    record { place = r.place; behind = r.behind; goes = split Term n ts h.0 h.1 rest (Compares c) h.2 ∙ l.goes ∙ compares_goes l.place n c (h.1 ++ rest) l.behind ∙ r.goes }

-- if tokens spell a tree, they lead to a place where a condition may end
record Ends (ts : List Token) : Type 0 where
  place : TokenPlace
  behind : IsBehind Right place
  runs : run Term 0 ts ≡ Some (place, 0)

whole_runs : (ts : List Token) → IsWhole ts → Ends ts
whole_runs ts h = let r = tree_runs h.0 AtOr 0 ts [] h.1 in record { place = r.place; behind = r.behind; runs = ap (run Term 0) (sym (append-nil ts)) ∙ r.goes }

-- ---- fronts

abbrev pub run_on : Option (TokenPlace × ℕ) → List Token → Option (TokenPlace × ℕ)
run_on None ts = None
run_on (Some p) ts = run p.0 p.1 ts

pub run_append : (ts more : List Token) (place : TokenPlace) (n : ℕ) → run place n (ts ++ more) ≡ run_on (run place n ts) more
run_append [] more place n = refl
run_append (t ∷ ts) more place n =
    elim (next place n t) as (λ r. elim r [ None ↦ None | Some after ↦ run after (with_token n t) (ts ++ more) ] ≡ run_on (elim r [ None ↦ None | Some after ↦ run after (with_token n t) ts ]) more) [
      | None ↦ refl
      | Some after ↦ run_append ts more after (with_token n t)
    ]

-- the tokens lead to a place
pub record Leads (ts : List Token) : Type 0 where
  pub place : TokenPlace
  pub opened : ℕ
  pub runs : run Term 0 ts ≡ Some (place, opened)

none_on : (r : Option (TokenPlace × ℕ)) (more : List Token) (p : TokenPlace × ℕ) → run_on r more ≡ Some p → r ≡ None → ⊥
none_on None more p e k = let f : None ≡ Some p = e in cc
none_on (Some q) more p e k = cc

pub not_both : (r : Option (TokenPlace × ℕ)) (p : TokenPlace × ℕ) → r ≡ None → r ≡ Some p → ⊥
not_both r p e k = let f : None ≡ Some p = sym e ∙ k in cc

leads_from : (ts : List Token) (r : Option (TokenPlace × ℕ)) → run Term 0 ts ≡ r → (r ≡ None → ⊥) → Leads ts
leads_from ts None e k = absurd (k refl)
leads_from ts (Some p) e k = record { place = p.0; opened = p.1; runs = e }

-- a front leads to a place
pub front_leads : (ts : List Token) → IsFront ts → Leads ts
front_leads ts h =
    let w = whole_runs (ts ++ h.0) h.1 in
    leads_from ts (run Term 0 ts) refl (none_on (run Term 0 ts) h.0 (w.place, 0) (sym (run_append ts h.0 Term 0) ∙ w.runs))

-- ---- what is expected

abbrev is_place : Option TokenPlace → Bool
is_place None = false
is_place (Some place) = true

agrees_begun : (t : Token) → may_stand (expected Term 0) t ≡ is_place (next Term 0 t)
agrees_begun NotSign = refl
agrees_begun Open = refl
agrees_begun ResultWord = refl
agrees_begun (Digits z) = refl
agrees_begun (Minus z) = refl
agrees_begun t = refl

agrees_compared : (t : Token) → may_stand (expected ComparisonPlace 0) t ≡ is_place (next ComparisonPlace 0 t)
agrees_compared (Compares c) = refl
agrees_compared t = refl

agrees_operand : (t : Token) → may_stand (expected OperandPlace 0) t ≡ is_place (next OperandPlace 0 t)
agrees_operand ResultWord = refl
agrees_operand (Digits z) = refl
agrees_operand (Minus z) = refl
agrees_operand t = refl

agrees_end : (n : ℕ) (t : Token) → may_stand (expected End n) t ≡ is_place (next End n t)
agrees_end zero AndSign = refl
agrees_end zero OrSign = refl
agrees_end zero Close = refl
agrees_end zero t = refl
agrees_end (suc n) AndSign = refl
agrees_end (suc n) OrSign = refl
agrees_end (suc n) Close = refl
agrees_end (suc n) t = refl

agrees_left : (n : ℕ) (t : Token) → may_stand (expected (ResultPlace Left) n) t ≡ is_place (next (ResultPlace Left) n t)
agrees_left n OpenItem = refl
agrees_left n (Compares c) = refl
agrees_left n t = refl

agrees_right : (n : ℕ) (t : Token) → may_stand (expected (ResultPlace Right) n) t ≡ is_place (next (ResultPlace Right) n t)
agrees_right zero OpenItem = refl
agrees_right zero AndSign = refl
agrees_right zero OrSign = refl
agrees_right zero Close = refl
agrees_right zero t = refl
agrees_right (suc n) OpenItem = refl
agrees_right (suc n) AndSign = refl
agrees_right (suc n) OrSign = refl
agrees_right (suc n) Close = refl
agrees_right (suc n) t = refl

agrees_item : (side : Side) (n : ℕ) (t : Token) → may_stand (expected (Item side) n) t ≡ is_place (next (Item side) n t)
agrees_item side n (Digits (pos i)) = refl
agrees_item side n (Digits (negsuc i)) = refl
agrees_item side n t = refl

agrees_index : (side : Side) (n : ℕ) (t : Token) → may_stand (expected (Index side) n) t ≡ is_place (next (Index side) n t)
agrees_index side n CloseItem = refl
agrees_index side n t = refl

-- what is expected is what has a place after it
agrees : (place : TokenPlace) (n : ℕ) (t : Token) → may_stand (expected place n) t ≡ is_place (next place n t)
agrees Term n t = agrees_begun t
agrees (ResultPlace Left) n t = agrees_left n t
agrees (ResultPlace Right) n t = agrees_right n t
agrees (Item side) n t = agrees_item side n t
agrees (Index side) n t = agrees_index side n t
agrees ComparisonPlace n t = agrees_compared t
agrees OperandPlace n t = agrees_operand t
agrees End n t = agrees_end n t

run_one : (ts : List Token) (place : TokenPlace) (n : ℕ) (t : Token) → run Term 0 ts ≡ Some (place, n) → run Term 0 (ts ++ t ∷ []) ≡ run place n (t ∷ [])
run_one ts place n t e = run_append ts (t ∷ []) Term 0 ∙ ap (λ (r : Option (TokenPlace × ℕ)). run_on r (t ∷ [])) e

one_stands : (ts : List Token) (place : TokenPlace) (n : ℕ) (t : Token) (r : Option TokenPlace) → next place n t ≡ r → run Term 0 ts ≡ Some (place, n) → Leads (ts ++ t ∷ []) → is_place r ≡ true
one_stands ts place n t None r_is e h =
    let stuck : run place n (t ∷ []) ≡ None = ap (λ (r : Option TokenPlace). elim r [ None ↦ None | Some after ↦ run after (with_token n t) [] ]) r_is in
    absurd (not_both (run place n (t ∷ [])) (h.place, h.opened) stuck (sym (run_one ts place n t e) ∙ h.runs))
one_stands ts place n t (Some after) r_is e h = refl

stands_one : (ts : List Token) (place : TokenPlace) (n : ℕ) (t : Token) (r : Option TokenPlace) → next place n t ≡ r → run Term 0 ts ≡ Some (place, n) → is_place r ≡ true → IsFront (ts ++ t ∷ [])
stands_one ts place n t None r_is e h = absurd (false≢true h)
stands_one ts place n t (Some after) r_is e h =
    run_front (ts ++ t ∷ []) after (with_token n t)
    (run_one ts place n t e ∙ ap (λ (r : Option TokenPlace). elim r [ None ↦ None | Some after ↦ run after (with_token n t) [] ]) r_is)

behind_ends : (place : TokenPlace) → IsBehind Right place → may_end (expected place 0) ≡ true
behind_ends place (inl e) = ap (λ (p : TokenPlace). may_end (expected p 0)) e
behind_ends place (inr e) = ap (λ (p : TokenPlace). may_end (expected p 0)) e

same_end : (p q : TokenPlace × ℕ) → Some p ≡ Some q → may_end (expected p.0 p.1) ≡ may_end (expected q.0 q.1)
same_end p q e = ap (λ (r : Option (TokenPlace × ℕ)). elim r [ None ↦ false | Some p ↦ may_end (expected p.0 p.1) ]) e

pub ended_there : (ts : List Token) (place : TokenPlace) (n : ℕ) → run Term 0 ts ≡ Some (place, n) → IsWhole ts → may_end (expected place n) ≡ true
ended_there ts place n e h = let w = whole_runs ts h in same_end (place, n) (w.place, 0) (sym e ∙ w.runs) ∙ behind_ends w.place w.behind

-- what is expected at the place that tokens lead to
pub expected_there : (ts : List Token) (place : TokenPlace) (n : ℕ) → run Term 0 ts ≡ Some (place, n) → IsExpectedAfter ts (expected place n)
expected_there ts place n e = (
  λ t. (
    λ front. agrees place n t ∙ one_stands ts place n t (next place n t) refl e (front_leads (ts ++ t ∷ []) front),
    λ may. stands_one ts place n t (next place n t) refl e (sym (agrees place n t) ∙ may),
  ),
  (λ h. ended_there ts place n e h, λ may. run_whole ts place n e may),
)
