-- The signs of a condition: the desk's condition of signs alone is spelled exactly as the groups
-- are.
use Rattle.std.proofs.Common.{◌≡◌, ◌≤◌, Bool, true, false, pos, List, [], ◌∷◌, ◌++◌, length, drop, Option, Some, IsTrue, refl, sym, ap, ◌∙◌, subst, arith, inl, inr}
use Rattle.std.specs.Prelude.{◌&&◌, if◌then◌else◌, option_map}
use Rattle.std.specs.List.{flat_map}
use Rattle.std.proofs.lemmas.Bool.{false≢true}
use Rattle.std.proofs.lemmas.List.{length-append}
use Rattle.canary_condition.specs.declared.condition.Comparison.{Comparison}
use Rattle.canary_condition.specs.declared.condition.Comparison.TheVariants.{Less}
use Rattle.canary_condition.specs.declared.condition.Operand.{Operand}
use Rattle.canary_condition.specs.declared.condition.Operand.TheVariants.{Whole, Item as ItemOperand, Number as NumberOperand}
use Rattle.canary_condition.specs.declared.token.Token.{Token}
use Rattle.canary_condition.specs.declared.token.Token.TheVariants.{Compares, OrSign, AndSign, NotSign, Open, Close, Digits, OutOfRange}
use Rattle.canary_condition.specs.Tokens.{tokens_after, tokens_of}
use Rattle.canary_condition.specs.Spelling.{Level, IsOperand, Spells}
use Rattle.canary_condition.specs.Spelling.Level.{AtOr, AtAnd, AtNot}
use Rattle.canary_condition.specs.Trees.{Tree as DeskTree}
use Rattle.canary_condition.specs.Trees.Tree.{Or as DeskOr, And as DeskAnd, Not as DeskNot, Bracket as DeskBracket, Compare as DeskCompare}
use Rattle.canary_argo.specs.declared.condition.Item.{Item}
use Rattle.canary_argo.specs.declared.condition.Item.TheVariants.{Or as OrItem, And as AndItem, Not as NotItem, Open as OpenGroup, Close as CloseGroup, Compare as CompareItem, NaN as NaNItem, Inf as InfItem}
use Rattle.canary_argo.specs.Grouping.{is_not, is_test, are_closed, SpellsItems}
use Rattle.canary_argo.specs.Spelling.{IsClosed}
use Rattle.canary_argo.specs.Translating.{skeleton_of}
use Rattle.canary_argo.specs.Trees.{Tree}
use Rattle.canary_argo.specs.Trees.Tree.{Or, And, Not, Bracket, Compare, IsNaN, IsInf}

abbrev sign_tokens : Item → List Token
sign_tokens OrItem = OrSign ∷ []
sign_tokens AndItem = AndSign ∷ []
sign_tokens NotItem = NotSign ∷ []
sign_tokens OpenGroup = Open ∷ []
sign_tokens CloseGroup = Close ∷ []
sign_tokens (CompareItem test) = Digits (pos 1) ∷ Compares Less ∷ Digits (pos 1) ∷ []
sign_tokens (NaNItem place) = Digits (pos 1) ∷ Compares Less ∷ Digits (pos 1) ∷ []
sign_tokens (InfItem place) = Digits (pos 1) ∷ Compares Less ∷ Digits (pos 1) ∷ []

abbrev all_signs : List Item → List Token
all_signs items = flat_map sign_tokens items

-- ---- the tokens of the text

signs_after : (items : List Item) → tokens_after 0 (skeleton_of items) ≡ Some (all_signs items)
signs_after [] = refl
signs_after (OrItem ∷ items) = ap (option_map (λ (ts : List Token). OrSign ∷ ts)) (signs_after items)
signs_after (AndItem ∷ items) = ap (option_map (λ (ts : List Token). AndSign ∷ ts)) (signs_after items)
signs_after (NotItem ∷ items) = ap (option_map (λ (ts : List Token). NotSign ∷ ts)) (signs_after items)
signs_after (OpenGroup ∷ items) = ap (option_map (λ (ts : List Token). Open ∷ ts)) (signs_after items)
signs_after (CloseGroup ∷ items) = ap (option_map (λ (ts : List Token). Close ∷ ts)) (signs_after items)
signs_after (CompareItem test ∷ items) =
    ap (λ (r : Option (List Token)). option_map (λ (ts : List Token). Digits (pos 1) ∷ ts) (option_map (λ (ts : List Token). Compares Less ∷ ts) (option_map (λ (ts : List Token). Digits (pos 1) ∷ ts) r))) (signs_after items)
signs_after (NaNItem place ∷ items) =
    ap (λ (r : Option (List Token)). option_map (λ (ts : List Token). Digits (pos 1) ∷ ts) (option_map (λ (ts : List Token). Compares Less ∷ ts) (option_map (λ (ts : List Token). Digits (pos 1) ∷ ts) r))) (signs_after items)
signs_after (InfItem place ∷ items) =
    ap (λ (r : Option (List Token)). option_map (λ (ts : List Token). Digits (pos 1) ∷ ts) (option_map (λ (ts : List Token). Compares Less ∷ ts) (option_map (λ (ts : List Token). Digits (pos 1) ∷ ts) r))) (signs_after items)

pub signs_of : (items : List Item) → tokens_of (skeleton_of items) ≡ Some (all_signs items)
signs_of items = signs_after items

-- ---- where a sign stands

abbrev is_sign : Token → Bool
is_sign OrSign = true
is_sign AndSign = true
is_sign NotSign = true
is_sign Open = true
is_sign Close = true
is_sign token = false

abbrev is_digits_token : Token → Bool
is_digits_token (Digits z) = true
is_digits_token token = false

abbrev item_of : Token → Item
item_of OrSign = OrItem
item_of AndSign = AndItem
item_of NotSign = NotItem
item_of Open = OpenGroup
item_of token = CloseGroup

abbrev first : List Token → Token
first [] = OutOfRange
first (t ∷ ts) = t

abbrev second : List Token → Token
second ts = first (drop 1 ts)

-- a group of one sign
abbrev IsSignOf : Token → Item → Type 0
IsSignOf s x = (sign_tokens x ≡ s ∷ []) × IsTrue (is_sign s) × (x ≡ item_of s)

some_signs : (x : Item) → 1 ≤ length (sign_tokens x)
some_signs OrItem = omega arith
some_signs AndItem = omega arith
some_signs NotItem = omega arith
some_signs OpenGroup = omega arith
some_signs CloseGroup = omega arith
some_signs (CompareItem test) = omega arith
some_signs (NaNItem place) = omega arith
some_signs (InfItem place) = omega arith

none_left : (items : List Item) → all_signs items ≡ [] → items ≡ []
none_left [] e = refl
none_left (x ∷ xs) e = absurd (omega (arith, ap length e, length-append (sign_tokens x) (all_signs xs), some_signs x))

-- the groups before a sign, and those after it
abbrev IsSplit : Item → List Item → List Token → List Token → Type 0
IsSplit x items front rest =
    (before : List Item) × (after : List Item) × (items ≡ before ++ x ∷ after) × (front ≡ all_signs before) × (rest ≡ all_signs after)

further : (x y : Item) (ys : List Item) (tokens front rest : List Token) → tokens ≡ sign_tokens y → IsSplit x ys front rest → IsSplit x (y ∷ ys) (tokens ++ front) rest
further x y ys tokens front rest own (before, after, e, f, r) =
    (y ∷ before, after, ap (λ (l : List Item). y ∷ l) e, ap (λ (l : List Token). l ++ front) own ∙ ap (λ (l : List Token). sign_tokens y ++ l) f, r)

not_sign : (t s : Token) → is_sign t ≡ false → is_sign s ≡ true → t ≡ s → ⊥
not_sign t s without has e = false≢true (sym without ∙ ap is_sign e ∙ has)

-- a group of one token
at_one : (x y : Item) (s t : Token) (ys : List Item) (front rest : List Token) → IsSignOf s x → sign_tokens y ≡ t ∷ [] → y ≡ item_of t → t ∷ all_signs ys ≡ front ++ s ∷ rest → ((front' : List Token) → all_signs ys ≡ front' ++ s ∷ rest → IsSplit x ys front' rest) → IsSplit x (y ∷ ys) front rest
at_one x y s t ys [] rest is own back e more =
    let same : t ≡ s = ap first e in
    let item : y ≡ x = back ∙ ap item_of same ∙ sym is.2 in
    ([], ys, ap (λ (z : Item). z ∷ ys) item, refl, sym (ap (drop 1) e))
at_one x y s t ys (b ∷ front) rest is own back e more =
    let same : b ∷ [] ≡ sign_tokens y = ap (λ (u : Token). u ∷ []) (sym (ap first e)) ∙ sym own in
    further x y ys (b ∷ []) front rest same (more front (ap (drop 1) e))

-- a group of three tokens
at_test : (x y : Item) (s : Token) (ys : List Item) (front rest : List Token) → IsSignOf s x → sign_tokens y ≡ Digits (pos 1) ∷ Compares Less ∷ Digits (pos 1) ∷ [] → Digits (pos 1) ∷ Compares Less ∷ Digits (pos 1) ∷ all_signs ys ≡ front ++ s ∷ rest → ((front' : List Token) → all_signs ys ≡ front' ++ s ∷ rest → IsSplit x ys front' rest) → IsSplit x (y ∷ ys) front rest
at_test x y s ys [] rest is own e more = absurd (not_sign (Digits (pos 1)) s refl is.1 (ap first e))
at_test x y s ys (a ∷ []) rest is own e more = absurd (not_sign (Compares Less) s refl is.1 (ap second e))
at_test x y s ys (a ∷ b ∷ []) rest is own e more = absurd (not_sign (Digits (pos 1)) s refl is.1 (ap (λ (l : List Token). first (drop 2 l)) e))
at_test x y s ys (a ∷ b ∷ c ∷ front) rest is own e more =
    let same : a ∷ b ∷ c ∷ [] ≡ sign_tokens y = ap (λ (u : Token). u ∷ b ∷ c ∷ []) (sym (ap first e)) ∙ ap (λ (u : Token). Digits (pos 1) ∷ u ∷ c ∷ []) (sym (ap second e)) ∙ ap (λ (u : Token). Digits (pos 1) ∷ Compares Less ∷ u ∷ []) (sym (ap (λ (l : List Token). first (drop 2 l)) e)) ∙ sym own in
    further x y ys (a ∷ b ∷ c ∷ []) front rest same (more front (ap (drop 3) e))

split_at : (x : Item) (s : Token) (items : List Item) (front rest : List Token) → IsSignOf s x → all_signs items ≡ front ++ s ∷ rest → IsSplit x items front rest
split_at x s [] front rest is e = absurd (omega (arith, ap length e, length-append front (s ∷ rest)))
split_at x s (OrItem ∷ ys) front rest is e = at_one x OrItem s OrSign ys front rest is refl refl e (λ f d. split_at x s ys f rest is d)
split_at x s (AndItem ∷ ys) front rest is e = at_one x AndItem s AndSign ys front rest is refl refl e (λ f d. split_at x s ys f rest is d)
split_at x s (NotItem ∷ ys) front rest is e = at_one x NotItem s NotSign ys front rest is refl refl e (λ f d. split_at x s ys f rest is d)
split_at x s (OpenGroup ∷ ys) front rest is e = at_one x OpenGroup s Open ys front rest is refl refl e (λ f d. split_at x s ys f rest is d)
split_at x s (CloseGroup ∷ ys) front rest is e = at_one x CloseGroup s Close ys front rest is refl refl e (λ f d. split_at x s ys f rest is d)
split_at x s (NaNItem p ∷ ys) front rest is e = at_test x (NaNItem p) s ys front rest is refl e (λ f d. split_at x s ys f rest is d)
split_at x s (InfItem p ∷ ys) front rest is e = at_test x (InfItem p) s ys front rest is refl e (λ f d. split_at x s ys f rest is d)
split_at x s (CompareItem t ∷ ys) front rest is e = at_test x (CompareItem t) s ys front rest is refl e (λ f d. split_at x s ys f rest is d)

-- the same of a sign that stands first
split_first : (x : Item) (s : Token) (items : List Item) (rest : List Token) → IsSignOf s x → all_signs items ≡ s ∷ rest → (after : List Item) × (items ≡ x ∷ after) × (rest ≡ all_signs after)
split_first x s items rest is e =
    let (before, after, f, none, r) = split_at x s items [] rest is e in
    (after, f ∙ ap (λ (l : List Item). l ++ x ∷ after) (none_left before (sym none)), r)

-- and of one that stands last
split_last : (x : Item) (s : Token) (items : List Item) (front : List Token) → IsSignOf s x → all_signs items ≡ front ++ s ∷ [] → (before : List Item) × (items ≡ before ++ x ∷ []) × (front ≡ all_signs before)
split_last x s items front is e =
    let (before, after, f, g, none) = split_at x s items front [] is e in
    (before, f ∙ ap (λ (l : List Item). before ++ x ∷ l) (none_left after (sym none)), g)

-- ---- a `not` and what follows it

closed_by : (b : Bool) (r : Bool) → (if b then false else r) ≡ true → r ≡ true
closed_by true r e = absurd (false≢true e)
closed_by false r e = e

closed_again : (b : Bool) (r q : Bool) → (if b then false else r) ≡ true → q ≡ true → (if b then false else q) ≡ true
closed_again true r q e f = absurd (false≢true e)
closed_again false r q e f = f

closed_parts : (n : Bool) (before : List Item) (x : Item) (after : List Item) → are_closed n (before ++ x ∷ after) ≡ true → (are_closed n before ≡ true) × (are_closed (is_not x) after ≡ true)
closed_parts n [] x after h = (refl, closed_by (n && is_test x) (are_closed (is_not x) after) h)
closed_parts n (y ∷ before) x after h =
    let rest = closed_by (n && is_test y) (are_closed (is_not y) (before ++ x ∷ after)) h in
    let parts = closed_parts (is_not y) before x after rest in
    (closed_again (n && is_test y) (are_closed (is_not y) (before ++ x ∷ after)) (are_closed (is_not y) before) h parts.0, parts.1)

-- ---- comparisons

-- an operand begins with no sign
operand_first : (x : Operand) (front rest : List Token) → IsOperand x front → is_sign (first (front ++ rest)) ≡ false
operand_first Whole front rest h = ap (λ (l : List Token). is_sign (first (l ++ rest))) h
operand_first (ItemOperand i) front rest h = ap (λ (l : List Token). is_sign (first (l ++ rest))) h
operand_first (NumberOperand z) front rest (inl h) = ap (λ (l : List Token). is_sign (first (l ++ rest))) h
operand_first (NumberOperand z) front rest (inr h) = ap (λ (l : List Token). is_sign (first (l ++ rest))) h

-- one that begins with digits is one token
digits_alone : (x : Operand) (front : List Token) → IsOperand x front → is_digits_token (first front) ≡ true → length front ≡ 1
digits_alone Whole front h d = absurd (false≢true (sym (ap (λ (l : List Token). is_digits_token (first l)) h) ∙ d))
digits_alone (ItemOperand i) front h d = absurd (false≢true (sym (ap (λ (l : List Token). is_digits_token (first l)) h) ∙ d))
digits_alone (NumberOperand z) front (inl h) d = ap length h
digits_alone (NumberOperand z) front (inr h) d = ap length h

first_kept : (x : Operand) (front rest : List Token) → IsOperand x front → first (front ++ rest) ≡ first front
first_kept Whole front rest h = ap (λ (l : List Token). first (l ++ rest)) h ∙ sym (ap first h)
first_kept (ItemOperand i) front rest h = ap (λ (l : List Token). first (l ++ rest)) h ∙ sym (ap first h)
first_kept (NumberOperand z) front rest (inl h) = ap (λ (l : List Token). first (l ++ rest)) h ∙ sym (ap first h)
first_kept (NumberOperand z) front rest (inr h) = ap (λ (l : List Token). first (l ++ rest)) h ∙ sym (ap first h)

no_sign_there : (s : Token) (ys : List Item) (x : Operand) (front rest : List Token) → is_sign s ≡ true → IsOperand x front → s ∷ all_signs ys ≡ front ++ rest → ⊥
no_sign_there s ys x front rest has h e = false≢true (sym (operand_first x front rest h) ∙ ap (λ (l : List Token). is_sign (first l)) (sym e) ∙ has)

drop_one : (front rest : List Token) → length front ≡ 1 → drop 1 (front ++ rest) ≡ rest
drop_one [] rest e = absurd (omega arith)
drop_one (t ∷ []) rest e = refl
drop_one (t ∷ u ∷ front) rest e = absurd (omega arith)

none_of_length : (ys : List Item) → length (all_signs ys) ≡ 0 → ys ≡ []
none_of_length [] e = refl
none_of_length (x ∷ xs) e = absurd (omega (arith, length-append (sign_tokens x) (all_signs xs), some_signs x))

alone_by : (t : Item) (ys : List Item) (x y : Operand) (c : Comparison) (front rest : List Token) → IsOperand x front → IsOperand y rest → Digits (pos 1) ∷ Compares Less ∷ Digits (pos 1) ∷ all_signs ys ≡ front ++ Compares c ∷ rest → ys ≡ []
alone_by t ys x y c front rest hx hy e =
    let begins : is_digits_token (first front) ≡ true = ap is_digits_token (sym (first_kept x front (Compares c ∷ rest) hx) ∙ sym (ap first e)) in
    let one = digits_alone x front hx begins in
    let behind : Compares Less ∷ Digits (pos 1) ∷ all_signs ys ≡ Compares c ∷ rest = ap (drop 1) e ∙ drop_one front (Compares c ∷ rest) one in
    let right : Digits (pos 1) ∷ all_signs ys ≡ rest = ap (drop 1) behind in
    let last = digits_alone y rest hy (ap (λ (l : List Token). is_digits_token (first l)) (sym right)) in
    none_of_length ys (omega (arith, ap length right, last))

abbrev Unspelled : Bool → Level → List Item → Type 0
Unspelled n level items = (T : Tree) × SpellsItems T level items × (n ≡ true → IsClosed T)

compare_unspelled : (n : Bool) (level : Level) (items : List Item) (x y : Operand) (c : Comparison) (front rest : List Token) → are_closed n items ≡ true → IsOperand x front → IsOperand y rest → all_signs items ≡ front ++ Compares c ∷ rest → Unspelled n level items
compare_unspelled n level [] x y c front rest closed hx hy e = absurd (omega (arith, ap length e, length-append front (Compares c ∷ rest)))
compare_unspelled n level (OrItem ∷ ys) x y c front rest closed hx hy e = absurd (no_sign_there OrSign ys x front (Compares c ∷ rest) refl hx e)
compare_unspelled n level (AndItem ∷ ys) x y c front rest closed hx hy e = absurd (no_sign_there AndSign ys x front (Compares c ∷ rest) refl hx e)
compare_unspelled n level (NotItem ∷ ys) x y c front rest closed hx hy e = absurd (no_sign_there NotSign ys x front (Compares c ∷ rest) refl hx e)
compare_unspelled n level (OpenGroup ∷ ys) x y c front rest closed hx hy e = absurd (no_sign_there Open ys x front (Compares c ∷ rest) refl hx e)
compare_unspelled n level (CloseGroup ∷ ys) x y c front rest closed hx hy e = absurd (no_sign_there Close ys x front (Compares c ∷ rest) refl hx e)
compare_unspelled n level (NaNItem p ∷ ys) x y c front rest closed hx hy e =
    let alone = alone_by (NaNItem p) ys x y c front rest hx hy e in
    (IsNaN p, ap (λ (l : List Item). NaNItem p ∷ l) alone, λ _. tt)
compare_unspelled n level (InfItem p ∷ ys) x y c front rest closed hx hy e =
    let alone = alone_by (InfItem p) ys x y c front rest hx hy e in
    (IsInf p, ap (λ (l : List Item). InfItem p ∷ l) alone, λ _. tt)
compare_unspelled n level (CompareItem t ∷ ys) x y c front rest closed hx hy e =
    let alone = alone_by (CompareItem t) ys x y c front rest hx hy e in
    (Compare t, ap (λ (l : List Item). CompareItem t ∷ l) alone, λ after. false≢true (sym (ap (λ (b : Bool). if b && true then false else are_closed false ys) after) ∙ closed))

-- ---- trees

-- what the signs spell, the groups spell
pub unspelled : (D : DeskTree) (level : Level) (items : List Item) (n : Bool) → are_closed n items ≡ true → Spells D level (all_signs items) → Unspelled n level items
unspelled (DeskOr a b) level items n closed (h, front, rest, e, ha, hb) =
    let (before, after, f, g, r) = split_at OrItem OrSign items front rest (refl, refl, refl) e in
    let parts = closed_parts n before OrItem after (ap (are_closed n) (sym f) ∙ closed) in
    let (ta, sa, _) = unspelled a AtOr before n parts.0 (subst (Spells a AtOr) g ha) in
    let (tb, sb, _) = unspelled b AtAnd after false parts.1 (subst (Spells b AtAnd) r hb) in
    (Or ta tb, (h, before, after, f, sa, sb), λ _. tt)
unspelled (DeskAnd a b) level items n closed (h, front, rest, e, ha, hb) =
    let (before, after, f, g, r) = split_at AndItem AndSign items front rest (refl, refl, refl) e in
    let parts = closed_parts n before AndItem after (ap (are_closed n) (sym f) ∙ closed) in
    let (ta, sa, _) = unspelled a AtAnd before n parts.0 (subst (Spells a AtAnd) g ha) in
    let (tb, sb, _) = unspelled b AtNot after false parts.1 (subst (Spells b AtNot) r hb) in
    (And ta tb, (h, before, after, f, sa, sb), λ _. tt)
unspelled (DeskNot a) level items n closed (h, rest, e, ha) =
    let (after, f, r) = split_first NotItem NotSign items rest (refl, refl, refl) e in
    let parts = closed_parts n [] NotItem after (ap (are_closed n) (sym f) ∙ closed) in
    let (ta, sa, ca) = unspelled a AtNot after true parts.1 (subst (Spells a AtNot) r ha) in
    (Not ta, (h, after, f, ca refl, sa), λ _. tt)
unspelled (DeskBracket a) level items n closed (inside, e, ha) =
    let (after, f, r) = split_first OpenGroup Open items (inside ++ Close ∷ []) (refl, refl, refl) e in
    let parts = closed_parts n [] OpenGroup after (ap (are_closed n) (sym f) ∙ closed) in
    let (before, g, i) = split_last CloseGroup Close after inside (refl, refl, refl) (sym r) in
    let more = closed_parts false before CloseGroup [] (ap (are_closed false) (sym g) ∙ parts.1) in
    let (ta, sa, _) = unspelled a AtOr before false more.0 (subst (Spells a AtOr) i ha) in
    (Bracket ta, (before, f ∙ ap (λ (l : List Item). OpenGroup ∷ l) g, sa), λ _. tt)
unspelled (DeskCompare x c y) level items n closed (front, rest, e, hx, hy) = compare_unspelled n level items x y c front rest closed hx hy e
