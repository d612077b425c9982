-- The text of the desk's condition is read as the tokens that it is made of.
use Rattle.std.proofs.Common.{◌≡◌, ℕ, ◌^◌, ℤ, Bool, true, false, not, pos, negsuc, List, [], ◌∷◌, ◌++◌, Option, Some, None, refl, sym, ap, ◌∙◌, subst, append_assoc, append-nil, arith, inl, inr}
use Rattle.std.specs.Prelude.{◌&&◌, if◌then◌else◌, option_map, codes, is_some}
use Rattle.std.specs.List.{flat_map, list_all}
use Rattle.std.proofs.lemmas.Bool.{false≢true, and_parts}
use Rattle.std.proofs.lemmas.List.Concat.{flat_map-append}
use Rattle.std.proofs.lemmas.List.Folds.{list_all-append}
use Rattle.std.proofs.lemmas.Option.{none-some, same_Some}
use Rattle.canary_condition.specs.declared.condition.Comparison.{Comparison}
use Rattle.canary_condition.specs.declared.condition.Comparison.TheVariants.{Equal, NotEqual, Less, AtMost, Greater, AtLeast}
use Rattle.canary_condition.specs.declared.condition.Operand.{Operand}
use Rattle.canary_condition.specs.declared.condition.Operand.TheVariants.{Whole as WholeOperand, Item as ItemOperand, Number as NumberOperand}
use Rattle.canary_condition.specs.declared.token.Token.{Token}
use Rattle.canary_condition.specs.declared.token.Token.TheVariants.{OrSign, AndSign, NotSign, Open, Close}
use Rattle.canary_condition.specs.Meaning.{compares}
use Rattle.canary_condition.specs.Tokens.{tokens_after, tokens_of}
use Rattle.canary_condition.specs.Spelling.{Level, IsOperand, Spells}
use Rattle.canary_condition.specs.Spelling.Level.{AtOr, AtAnd, AtNot}
use Rattle.canary_condition.specs.Trees.{Tree as DeskTree}
use Rattle.canary_condition.specs.Trees.Tree.{Or as DeskOr, And as DeskAnd, Not as DeskNot, Bracket as DeskBracket, Compare as DeskCompare}
use Rattle.canary_decimal.specs.declared.decimal.ShortDecimal.{ShortDecimal}
use Rattle.canary_decimal.specs.Short.{fraction_of, ShortConstants}
use Rattle.canary_argo.specs.declared.condition.Item.{Item}
use Rattle.canary_argo.specs.declared.condition.Item.TheVariants.{Or as OrItem, And as AndItem, Not as NotItem, Open as OpenGroup, Close as CloseGroup, Compare as CompareItem, NaN as NaNItem, Inf as InfItem}
use Rattle.canary_argo.specs.declared.condition.Function.{Function}
use Rattle.canary_argo.specs.declared.condition.Function.TheVariants.{Plain, AsFloat, AsInt, Default}
use Rattle.canary_argo.specs.declared.condition.ResultPart.{ResultPart}
use Rattle.canary_argo.specs.declared.condition.ResultPart.TheVariants.{Whole, Item as ItemPlace, Length as LengthPlace}
use Rattle.canary_argo.specs.declared.condition.Test.{Test}
use Rattle.canary_argo.specs.declared.form.Form.{Form}
use Rattle.canary_argo.specs.declared.form.Shape.{Shape}
use Rattle.canary_argo.specs.declared.translating.DeskAtom.{DeskAtom}
use Rattle.canary_argo.specs.declared.translating.DeskAtom.TheVariants.{One as OneTest, Both, Either, All}
use Rattle.canary_argo.specs.declared.translating.DeskTest.{DeskTest}
use Rattle.canary_argo.specs.Reporting.{nan, infinite, minus_infinite, null, has_nan, has_infinite, has_null, is_plain}
use Rattle.canary_argo.specs.Grouping.{SpellsItems}
use Rattle.canary_argo.specs.Translating.{in_turn, constant_of, desk_test, test_text, item_text, fits, text_of, guard, is_below, guarded_by, guarded, float_atom, plain_atom, least_from, least_above, edge_test, one_test, both_tests, either_test, int_asked, int_atom, function_atom, compare_atom, is_value, at_null, except_null, null_by, takes_null, with_null, value_test, default_atom, desk_value, nan_at, nan_atom, inf_at, inf_atom, joined_text, all_text, atom_words, atom_text}
use Rattle.canary_argo.specs.Tokens.{is_held}
use Rattle.canary_argo.specs.Trees.{Tree}
use Rattle.canary_argo.specs.Trees.Tree.{Or, And, Not, Bracket, Compare, IsNaN, IsInf}
use Rattle.canary_argo.proofs.PrintedTests.{EndsWord, IsLexed, IsSmall, Small, SmallOperand, close_lexed, constant_is, constant_small, desk_small, made_is, number_token, open_lexed, operand_tokens, place_small, test_lexed, test_tokens}

-- ---- what the desk asks

abbrev joined_signs : DeskTest → Token → DeskTest → List Token
joined_signs t s u = Open ∷ (test_tokens (Some t) ++ s ∷ (test_tokens (Some u) ++ Close ∷ []))

abbrev all_signs : DeskTest → DeskTest → DeskTest → List Token
all_signs t u w =
    Open ∷ (test_tokens (Some t) ++ AndSign ∷ (test_tokens (Some u) ++ AndSign ∷ (test_tokens (Some w) ++ Close ∷ [])))

abbrev pub atom_signs : DeskAtom → List Token
atom_signs (OneTest t) = test_tokens (Some t)
atom_signs (Both t u) = joined_signs t AndSign u
atom_signs (Either t u) = joined_signs t OrSign u
atom_signs (All t u w) = all_signs t u w

abbrev pub atom_tokens : Option DeskAtom → List Token
atom_tokens None = []
atom_tokens (Some a) = atom_signs a

abbrev SmallAtom : DeskAtom → Type 0
SmallAtom (OneTest t) = IsSmall t
SmallAtom (Both t u) = IsSmall t × IsSmall u
SmallAtom (Either t u) = IsSmall t × IsSmall u
SmallAtom (All t u w) = IsSmall t × (IsSmall u × IsSmall w)

guard_small : (t : DeskTest) → IsSmall t → IsSmall (guard t)
guard_small t h = let small : Small nan = omega arith in (h.0, small)

and_lexed : (rest : List ℕ) (us : List Token) → IsLexed rest us → IsLexed (codes " && " ++ rest) (AndSign ∷ us)
and_lexed rest us h = ap (option_map (λ (ts : List Token). AndSign ∷ ts)) h

or_lexed : (rest : List ℕ) (us : List Token) → IsLexed rest us → IsLexed (codes " || " ++ rest) (OrSign ∷ us)
or_lexed rest us h = ap (option_map (λ (ts : List Token). OrSign ∷ ts)) h

joined_lexed : (t : DeskTest) (sign : List ℕ) (s : Token) (u : DeskTest) → ((rest : List ℕ) (us : List Token) → IsLexed rest us → IsLexed (sign ++ rest) (s ∷ us)) → ((rest : List ℕ) → EndsWord (sign ++ rest)) → (rest : List ℕ) (us : List Token) → IsSmall t → IsSmall u → IsLexed rest us → IsLexed (joined_text t sign u ++ rest) (joined_signs t s u ++ us)
joined_lexed t sign s u lexed ends rest us small more h =
    let first : List ℕ = test_text (Some t) in
    let second : List ℕ = test_text (Some u) in
    let behind : List Token = test_tokens (Some u) ++ Close ∷ us in
    let last : IsLexed (second ++ (41 ∷ rest)) behind = test_lexed u (41 ∷ rest) (Close ∷ us) more refl (close_lexed rest us h) in
    let joined : IsLexed ((second ++ codes ")") ++ rest) behind = ap (tokens_after 0) (append_assoc second (codes ")") rest) ∙ last in
    let both = test_lexed t (sign ++ ((second ++ codes ")") ++ rest)) (s ∷ behind) small (ends ((second ++ codes ")") ++ rest)) (lexed ((second ++ codes ")") ++ rest) behind joined) in
    let inside : IsLexed ((first ++ (sign ++ (second ++ codes ")"))) ++ rest) (test_tokens (Some t) ++ s ∷ behind) =
    ap (tokens_after 0) (append_assoc first (sign ++ (second ++ codes ")")) rest ∙ ap (λ (r : List ℕ). first ++ r) (append_assoc sign (second ++ codes ")") rest)) ∙ both in
    let tokens : test_tokens (Some t) ++ s ∷ behind ≡ (test_tokens (Some t) ++ s ∷ (test_tokens (Some u) ++ Close ∷ [])) ++ us =
    ap (λ (r : List Token). test_tokens (Some t) ++ s ∷ r) (sym (append_assoc (test_tokens (Some u)) (Close ∷ []) us)) ∙ sym (append_assoc (test_tokens (Some t)) (s ∷ (test_tokens (Some u) ++ Close ∷ [])) us) in
    open_lexed ((first ++ (sign ++ (second ++ codes ")"))) ++ rest) ((test_tokens (Some t) ++ s ∷ (test_tokens (Some u) ++ Close ∷ [])) ++ us) (inside ∙ ap (λ (r : List Token). Some r) tokens)

-- a comparison, `&&`, and what follows
part_lexed : (t : DeskTest) (tail rest : List ℕ) (us : List Token) → IsSmall t → IsLexed (tail ++ rest) us → IsLexed ((test_text (Some t) ++ (codes " && " ++ tail)) ++ rest) (test_tokens (Some t) ++ AndSign ∷ us)
part_lexed t tail rest us small h =
    ap (tokens_after 0) (append_assoc (test_text (Some t)) (codes " && " ++ tail) rest) ∙ test_lexed t (codes " && " ++ (tail ++ rest)) (AndSign ∷ us) small refl (and_lexed (tail ++ rest) us h)

all_lexed : (t u w : DeskTest) (rest : List ℕ) (us : List Token) → IsSmall t → IsSmall u → IsSmall w → IsLexed rest us → IsLexed (all_text t u w ++ rest) (all_signs t u w ++ us)
all_lexed t u w rest us small more most h =
    let ta : List Token = test_tokens (Some t) in
    let tu : List Token = test_tokens (Some u) in
    let tw : List Token = test_tokens (Some w) in
    let last : List ℕ = test_text (Some w) ++ codes ")" in
    let middle : List ℕ = test_text (Some u) ++ (codes " && " ++ last) in
    let first : List ℕ = test_text (Some t) ++ (codes " && " ++ middle) in
    let end : IsLexed (last ++ rest) (tw ++ Close ∷ us) = ap (tokens_after 0) (append_assoc (test_text (Some w)) (codes ")") rest) ∙ test_lexed w (41 ∷ rest) (Close ∷ us) most refl (close_lexed rest us h) in
    let inner = part_lexed u last rest (tw ++ Close ∷ us) more end in
    let outer = part_lexed t middle rest (tu ++ AndSign ∷ (tw ++ Close ∷ us)) small inner in
    let behind : tw ++ Close ∷ us ≡ (tw ++ Close ∷ []) ++ us = sym (append_assoc tw (Close ∷ []) us) in
    let further : tu ++ AndSign ∷ (tw ++ Close ∷ us) ≡ (tu ++ AndSign ∷ (tw ++ Close ∷ [])) ++ us = ap (λ (r : List Token). tu ++ AndSign ∷ r) behind ∙ sym (append_assoc tu (AndSign ∷ (tw ++ Close ∷ [])) us) in
    let tokens : ta ++ AndSign ∷ (tu ++ AndSign ∷ (tw ++ Close ∷ us)) ≡ (ta ++ AndSign ∷ (tu ++ AndSign ∷ (tw ++ Close ∷ []))) ++ us = ap (λ (r : List Token). ta ++ AndSign ∷ r) further ∙ sym (append_assoc ta (AndSign ∷ (tu ++ AndSign ∷ (tw ++ Close ∷ []))) us) in
    open_lexed (first ++ rest) ((ta ++ AndSign ∷ (tu ++ AndSign ∷ (tw ++ Close ∷ []))) ++ us) (outer ∙ ap (λ (r : List Token). Some r) tokens)

atom_lexed : (a : DeskAtom) (rest : List ℕ) (us : List Token) → SmallAtom a → EndsWord rest → IsLexed rest us → IsLexed (atom_words a ++ rest) (atom_signs a ++ us)
atom_lexed (OneTest t) rest us small ends h = test_lexed t rest us small ends h
atom_lexed (Both t u) rest us small ends h = joined_lexed t (codes " && ") AndSign u and_lexed (λ _. refl) rest us small.0 small.1 h
atom_lexed (Either t u) rest us small ends h = joined_lexed t (codes " || ") OrSign u or_lexed (λ _. refl) rest us small.0 small.1 h
atom_lexed (All t u w) rest us small ends h = all_lexed t u w rest us small.0 small.1.0 small.1.1 h

pub guarded_is : (b : Bool) (o : Option DeskTest) (a : DeskAtom) → guarded b o ≡ Some a → (d : DeskTest) × ((o ≡ Some d) × (guarded_by (b && is_below d.comparison) d ≡ a))
guarded_is b None a e = absurd (none-some a e)
guarded_is b (Some t) a e = (t, (refl, same_Some (guarded_by (b && is_below t.comparison) t) a e))

pub one_is : (o : Option DeskTest) (a : DeskAtom) → one_test o ≡ Some a → (t : DeskTest) × ((o ≡ Some t) × (OneTest t ≡ a))
one_is None a e = absurd (none-some a e)
one_is (Some t) a e = (t, (refl, same_Some (OneTest t) a e))

pub both_are : (o p : Option DeskTest) (a : DeskAtom) → both_tests o p ≡ Some a → (t : DeskTest) × ((u : DeskTest) × ((o ≡ Some t) × ((p ≡ Some u) × (Both t u ≡ a))))
both_are None p a e = absurd (none-some a e)
both_are (Some t) None a e = absurd (none-some a e)
both_are (Some t) (Some u) a e = (t, (u, (refl, (refl, same_Some (Both t u) a e))))

pub either_are : (o p : Option DeskTest) (a : DeskAtom) → either_test o p ≡ Some a → (t : DeskTest) × ((u : DeskTest) × ((o ≡ Some t) × ((p ≡ Some u) × (Either t u ≡ a))))
either_are None p a e = absurd (none-some a e)
either_are (Some t) None a e = absurd (none-some a e)
either_are (Some t) (Some u) a e = (t, (u, (refl, (refl, same_Some (Either t u) a e))))

nan_made : (o : Option Operand) (a : DeskAtom) → nan_at o ≡ Some a → (x : Operand) × ((o ≡ Some x) × (a ≡ OneTest (record { operand = x; comparison = Equal; constant = nan })))
nan_made None a e = absurd (none-some a e)
nan_made (Some x) a e = (x, (refl, sym (same_Some (OneTest (record { operand = x; comparison = Equal; constant = nan })) a e)))

pub atom_by : (b : Bool) (o : Option DeskAtom) (a : DeskAtom) → (if b then o else None) ≡ Some a → (b ≡ true) × (o ≡ Some a)
atom_by true o a e = (refl, e)
atom_by false o a e = absurd (none-some a e)

pub none_by : (b : Bool) (o : Option DeskAtom) (a : DeskAtom) → (if b then None else o) ≡ Some a → (b ≡ false) × (o ≡ Some a)
none_by true o a e = absurd (none-some a e)
none_by false o a e = (refl, e)

-- what the desk asks for `isNaN`
pub nan_is : (form : Form) (p : ResultPart) (a : DeskAtom) → nan_atom form p ≡ Some a → ((has_nan form.beside && is_plain form.beside) ≡ true) × ((x : Operand) × ((desk_value form.shape p ≡ Some x) × (a ≡ OneTest (record { operand = x; comparison = Equal; constant = nan }))))
nan_is form p a e = let found = atom_by (has_nan form.beside && is_plain form.beside) (nan_at (desk_value form.shape p)) a e in (found.0, nan_made (desk_value form.shape p) a found.1)

inf_made : (o : Option Operand) (a : DeskAtom) → inf_at o ≡ Some a → (x : Operand) × ((o ≡ Some x) × (a ≡ Either (record { operand = x; comparison = Equal; constant = infinite }) (record { operand = x; comparison = Equal; constant = minus_infinite })))
inf_made None a e = absurd (none-some a e)
inf_made (Some x) a e = (x, (refl, sym (same_Some (Either (record { operand = x; comparison = Equal; constant = infinite }) (record { operand = x; comparison = Equal; constant = minus_infinite })) a e)))

-- and for `isInf`
pub inf_is : (form : Form) (p : ResultPart) (a : DeskAtom) → inf_atom form p ≡ Some a → ((has_infinite form.beside && is_plain form.beside) ≡ true) × ((x : Operand) × ((desk_value form.shape p ≡ Some x) × (a ≡ Either (record { operand = x; comparison = Equal; constant = infinite }) (record { operand = x; comparison = Equal; constant = minus_infinite }))))
inf_is form p a e = let found = atom_by (has_infinite form.beside && is_plain form.beside) (inf_at (desk_value form.shape p)) a e in (found.0, inf_made (desk_value form.shape p) a found.1)

value_small : (shape : Shape) (p : ResultPart) (o : Operand) → desk_value shape p ≡ Some o → SmallOperand o
value_small shape LengthPlace o e = absurd (none-some o e)
value_small shape Whole o e = place_small shape Whole o e
value_small shape (ItemPlace i) o e = place_small shape (ItemPlace i) o e

guarded_small : (b : Bool) (t : DeskTest) → IsSmall t → SmallAtom (guarded_by b t)
guarded_small true t h = (h, guard_small t h)
guarded_small false t h = h

float_small : ShortConstants → (form : Form) (t : Test) (a : DeskAtom) → float_atom form t ≡ Some a → SmallAtom a
float_small law form t a e =
    let (d, (found, is)) = guarded_is (has_nan form.beside) (desk_test form t) a (none_by (has_null form.beside && is_value t.look.place) (guarded (has_nan form.beside) (desk_test form t)) a e).1 in
    subst SmallAtom is (guarded_small (has_nan form.beside && is_below d.comparison) d (desk_small law form t d found))

plain_small : ShortConstants → (form : Form) (t : Test) (a : DeskAtom) → plain_atom form t ≡ Some a → SmallAtom a
plain_small law form t a e =
    float_small law form t a (none_by (not (is_plain form.beside) && is_value t.look.place) (float_atom form t) a e).1

one_small : ShortConstants → (form : Form) (x : Test) (a : DeskAtom) → one_test (desk_test form x) ≡ Some a → SmallAtom a
one_small law form x a e =
    let (t, (found, is)) = one_is (desk_test form x) a e in
    subst SmallAtom is (desk_small law form x t found)

both_small : ShortConstants → (form : Form) (x y : Test) (a : DeskAtom) → both_tests (desk_test form x) (desk_test form y) ≡ Some a → SmallAtom a
both_small law form x y a e =
    let (t, (u, (found, (more, is)))) = both_are (desk_test form x) (desk_test form y) a e in
    subst SmallAtom is (desk_small law form x t found, desk_small law form y u more)

either_small : ShortConstants → (form : Form) (x y : Test) (a : DeskAtom) → either_test (desk_test form x) (desk_test form y) ≡ Some a → SmallAtom a
either_small law form x y a e =
    let (t, (u, (found, (more, is)))) = either_are (desk_test form x) (desk_test form y) a e in
    subst SmallAtom is (desk_small law form x t found, desk_small law form y u more)

asked_small : ShortConstants → (form : Form) (p : ResultPart) (c : Comparison) (from above : ℤ) (a : DeskAtom) → int_asked form p c from above ≡ Some a → SmallAtom a
asked_small law form p Equal from above a e = both_small law form (edge_test true p from) (edge_test false p above) a e
asked_small law form p NotEqual from above a e = either_small law form (edge_test false p from) (edge_test true p above) a e
asked_small law form p Less from above a e = one_small law form (edge_test false p from) a e
asked_small law form p AtMost from above a e = one_small law form (edge_test false p above) a e
asked_small law form p Greater from above a e = one_small law form (edge_test true p above) a e
asked_small law form p AtLeast from above a e = one_small law form (edge_test true p from) a e

abbrev pub int_found : Form → Test → Option DeskAtom
int_found form t =
    int_asked form t.look.place (in_turn t.turned t.comparison)
    (least_from t.amount.number.whole (10 ^ t.amount.number.places))
    (least_above t.amount.number.whole (10 ^ t.amount.number.places))

pub int_is : (form : Form) (t : Test) (a : DeskAtom) → int_atom form t ≡ Some a → ((not (has_nan form.beside) && is_held t.amount.number) ≡ true) × (int_found form t ≡ Some a)
int_is form t a e = atom_by (not (has_nan form.beside) && is_held t.amount.number) (int_found form t) a e

null_small : (t : DeskTest) (c : Comparison) → IsSmall t → IsSmall (at_null c t)
null_small t c h = let small : Small null = omega arith in (h.0, small)

except_small : (b : Bool) (t : DeskTest) → IsSmall t → SmallAtom (except_null b t)
except_small true t h = (h, (guard_small t h, null_small t NotEqual h))
except_small false t h = (h, null_small t NotEqual h)

null_by_small : (takes wanted : Bool) (t : DeskTest) → IsSmall t → SmallAtom (null_by takes wanted t)
null_by_small true true t h = guarded_small (is_below t.comparison) t h
null_by_small true false t h = except_small (is_below t.comparison) t h
null_by_small false true t h = (h, null_small t Equal h)
null_by_small false false t h = guarded_small (is_below t.comparison) t h

pub null_is : (o : Option ℤ) (p : Option DeskTest) (a : DeskAtom) → with_null o p ≡ Some a → (z : ℤ) × ((t : DeskTest) × ((o ≡ Some z) × ((p ≡ Some t) × (null_by (takes_null t.comparison) (compares t.comparison z t.constant) t ≡ a))))
null_is None p a e = absurd (none-some a e)
null_is (Some z) None a e = absurd (none-some a e)
null_is (Some z) (Some t) a e = (z, (t, (refl, (refl, same_Some (null_by (takes_null t.comparison) (compares t.comparison z t.constant) t) a e))))

pub default_is : (form : Form) (d : ShortDecimal) (t : Test) (a : DeskAtom) → default_atom form d t ≡ Some a → (has_null form.beside ≡ true) × (with_null (constant_of d form.places) (value_test form t) ≡ Some a)
default_is form d t a e = atom_by (has_null form.beside) (with_null (constant_of d form.places) (value_test form t)) a e

pub value_is : (form : Form) (t : Test) (d : DeskTest) → value_test form t ≡ Some d → (desk_value form.shape t.look.place ≡ Some d.operand) × ((in_turn t.turned t.comparison ≡ d.comparison) × (constant_of t.amount.number form.places ≡ Some d.constant))
value_is form t d e = made_is (in_turn t.turned t.comparison) (desk_value form.shape t.look.place) (constant_of t.amount.number form.places) d e

default_small : ShortConstants → (form : Form) (d : ShortDecimal) (t : Test) (a : DeskAtom) → default_atom form d t ≡ Some a → SmallAtom a
default_small law form d t a e =
    let (z, (u, (number, (found, is)))) = null_is (constant_of d form.places) (value_test form t) a (default_is form d t a e).1 in
    let parts = value_is form t u found in
    let small : IsSmall u = (value_small form.shape t.look.place u.operand parts.0, constant_small u.constant (fraction_of t.amount.number) form.places (constant_is law t.amount.number form.places u.constant parts.1.1)) in
    subst SmallAtom is (null_by_small (takes_null u.comparison) (compares u.comparison z u.constant) u small)

function_small : ShortConstants → (f : Function) (form : Form) (t : Test) (a : DeskAtom) → function_atom f form t ≡ Some a → SmallAtom a
function_small law Plain form t a e = plain_small law form t a e
function_small law AsFloat form t a e = float_small law form t a e
function_small law AsInt form t a e =
    asked_small law form t.look.place (in_turn t.turned t.comparison) (least_from t.amount.number.whole (10 ^ t.amount.number.places)) (least_above t.amount.number.whole (10 ^ t.amount.number.places)) a (int_is form t a e).1
function_small law (Default d) form t a e = default_small law form d t a e

compare_small : ShortConstants → (form : Form) (t : Test) (a : DeskAtom) → compare_atom form t ≡ Some a → SmallAtom a
compare_small law form t a e = function_small law t.look.function form t a e

nan_small : (form : Form) (p : ResultPart) (a : DeskAtom) → nan_atom form p ≡ Some a → SmallAtom a
nan_small form p a e =
    let it = nan_is form p a e in
    let small : Small nan = omega arith in
    subst SmallAtom (sym it.1.1.1) (value_small form.shape p it.1.0 it.1.1.0, small)

inf_small : (form : Form) (p : ResultPart) (a : DeskAtom) → inf_atom form p ≡ Some a → SmallAtom a
inf_small form p a e =
    let it = inf_is form p a e in
    let high : Small infinite = omega arith in
    let low : Small minus_infinite = omega arith in
    let operand = value_small form.shape p it.1.0 it.1.1.0 in
    subst SmallAtom (sym it.1.1.1) ((operand, high), (operand, low))

-- ---- groups

abbrev sign_tokens : Item → List Token
sign_tokens OrItem = OrSign ∷ []
sign_tokens AndItem = AndSign ∷ []
sign_tokens NotItem = NotSign ∷ []
sign_tokens OpenGroup = Open ∷ []
sign_tokens CloseGroup = Close ∷ []
sign_tokens (CompareItem t) = []
sign_tokens (NaNItem p) = []
sign_tokens (InfItem p) = []

abbrev item_tokens : Form → Item → List Token
item_tokens form (CompareItem t) = atom_tokens (compare_atom form t)
item_tokens form (NaNItem p) = atom_tokens (nan_atom form p)
item_tokens form (InfItem p) = atom_tokens (inf_atom form p)
item_tokens form item = sign_tokens item

abbrev pub desk_tokens : Form → List Item → List Token
desk_tokens form items = flat_map (item_tokens form) items

abbrev Prints : Form → List Item → Type 0
Prints form items =
    (rest : List ℕ) (us : List Token) → EndsWord rest → IsLexed rest us → IsLexed (text_of form items ++ rest) (desk_tokens form items ++ us)

-- a group is read before whatever follows it
abbrev Begins : Form → Item → Type 0
Begins form x = (rest : List ℕ) (us : List Token) → IsLexed rest us → IsLexed (item_text form x ++ rest) (item_tokens form x ++ us)

nothing_prints : (form : Form) → Prints form []
nothing_prints form rest us ends h = h

first_prints : (form : Form) (x : Item) (after : List Item) → Begins form x → Prints form after → Prints form (x ∷ after)
first_prints form x after begins more rest us ends h =
    ap (tokens_after 0) (append_assoc (item_text form x) (text_of form after) rest)
    ∙ begins (text_of form after ++ rest) (desk_tokens form after ++ us) (more rest us ends h)
    ∙ ap (λ (r : List Token). Some r) (sym (append_assoc (item_tokens form x) (desk_tokens form after) us))

joined_prints : (form : Form) (front : List Item) (x : Item) (after : List Item) → ((rest : List ℕ) → EndsWord (item_text form x ++ rest)) → Prints form front → Begins form x → Prints form after → Prints form (front ++ x ∷ after)
joined_prints form front x after ends_there some begins more rest us ends h =
    let behind = begins (text_of form after ++ rest) (desk_tokens form after ++ us) (more rest us ends h) in
    let all = some (item_text form x ++ (text_of form after ++ rest)) (item_tokens form x ++ (desk_tokens form after ++ us)) (ends_there (text_of form after ++ rest)) behind in
    ap (λ (r : List ℕ). tokens_after 0 (r ++ rest)) (flat_map-append (item_text form) front (x ∷ after))
    ∙ ap (tokens_after 0) (append_assoc (text_of form front) (item_text form x ++ text_of form after) rest ∙ ap (λ (r : List ℕ). text_of form front ++ r) (append_assoc (item_text form x) (text_of form after) rest))
    ∙ all
    ∙ ap (λ (r : List Token). Some r) (ap (λ (r : List Token). desk_tokens form front ++ r) (sym (append_assoc (item_tokens form x) (desk_tokens form after) us)) ∙ sym (append_assoc (desk_tokens form front) (item_tokens form x ++ desk_tokens form after) us) ∙ ap (λ (r : List Token). r ++ us) (sym (flat_map-append (item_tokens form) front (x ∷ after))))

or_begins : (form : Form) → Begins form OrItem
or_begins form rest us h = ap (option_map (λ (ts : List Token). OrSign ∷ ts)) h

and_begins : (form : Form) → Begins form AndItem
and_begins form rest us h = ap (option_map (λ (ts : List Token). AndSign ∷ ts)) h

not_begins : (form : Form) → Begins form NotItem
not_begins form rest us h = ap (option_map (λ (ts : List Token). NotSign ∷ ts)) h

abbrev Fit : Form → List Item → Type 0
Fit form items = list_all (fits form) items ≡ true

fit_parts : (form : Form) (front rest : List Item) → Fit form (front ++ rest) → Fit form front × Fit form rest
fit_parts form front rest h = and_parts (list_all (fits form) front) (list_all (fits form) rest) (sym (list_all-append (fits form) front rest) ∙ h)

fit_after : (form : Form) (x : Item) (rest : List Item) → Fit form (x ∷ rest) → Fit form rest
fit_after form x rest h = (and_parts (fits form x) (list_all (fits form) rest) h).1

some_is : (o : Option DeskAtom) → is_some o ≡ true → (a : DeskAtom) × (o ≡ Some a)
some_is None h = absurd (false≢true h)
some_is (Some a) h = (a, refl)

pub fit_is : (form : Form) (t : Test) → Fit form (CompareItem t ∷ []) → (a : DeskAtom) × (compare_atom form t ≡ Some a)
fit_is form t h = some_is (compare_atom form t) (and_parts (is_some (compare_atom form t)) true h).0

pub nan_fit : (form : Form) (p : ResultPart) → Fit form (NaNItem p ∷ []) → (a : DeskAtom) × (nan_atom form p ≡ Some a)
nan_fit form p h = some_is (nan_atom form p) (and_parts (is_some (nan_atom form p)) true h).0

pub inf_fit : (form : Form) (p : ResultPart) → Fit form (InfItem p ∷ []) → (a : DeskAtom) × (inf_atom form p ≡ Some a)
inf_fit form p h = some_is (inf_atom form p) (and_parts (is_some (inf_atom form p)) true h).0

abbrev AtomPrints : Option DeskAtom → Type 0
AtomPrints o = (rest : List ℕ) (us : List Token) → EndsWord rest → IsLexed rest us → IsLexed ((atom_text o ++ []) ++ rest) ((atom_tokens o ++ []) ++ us)

atom_prints : (o : Option DeskAtom) (a : DeskAtom) → o ≡ Some a → SmallAtom a → AtomPrints o
atom_prints o a e small rest us ends h =
    let all = atom_lexed a rest us small ends h in
    ap (λ (x : Option DeskAtom). tokens_after 0 ((atom_text x ++ []) ++ rest)) e
    ∙ ap (λ (r : List ℕ). tokens_after 0 (r ++ rest)) (append-nil (atom_text (Some a))) ∙ all
    ∙ ap (λ (r : List Token). Some (r ++ us)) (sym (append-nil (atom_tokens (Some a))))
    ∙ ap (λ (x : Option DeskAtom). Some ((atom_tokens x ++ []) ++ us)) (sym e)

test_prints : ShortConstants → (form : Form) (t : Test) → Fit form (CompareItem t ∷ []) → Prints form (CompareItem t ∷ [])
test_prints law form t fit = let (a, e) = fit_is form t fit in atom_prints (compare_atom form t) a e (compare_small law form t a e)

nan_prints : (form : Form) (p : ResultPart) → Fit form (NaNItem p ∷ []) → Prints form (NaNItem p ∷ [])
nan_prints form p fit = let (a, e) = nan_fit form p fit in atom_prints (nan_atom form p) a e (nan_small form p a e)

inf_prints : (form : Form) (p : ResultPart) → Fit form (InfItem p ∷ []) → Prints form (InfItem p ∷ [])
inf_prints form p fit = let (a, e) = inf_fit form p fit in atom_prints (inf_atom form p) a e (inf_small form p a e)

prints : ShortConstants → (form : Form) (T : Tree) (level : Level) (items : List Item) → SpellsItems T level items → Fit form items → Prints form items
prints law form (Or a b) level items (h, front, rest, e, ha, hb) fit =
    let parts = fit_parts form front (OrItem ∷ rest) (ap (list_all (fits form)) (sym e) ∙ fit) in
    subst (Prints form) (sym e) (joined_prints form front OrItem rest (λ _. refl) (prints law form a _ front ha parts.0) (or_begins form) (prints law form b _ rest hb (fit_after form OrItem rest parts.1)))
prints law form (And a b) level items (h, front, rest, e, ha, hb) fit =
    let parts = fit_parts form front (AndItem ∷ rest) (ap (list_all (fits form)) (sym e) ∙ fit) in
    subst (Prints form) (sym e) (joined_prints form front AndItem rest (λ _. refl) (prints law form a _ front ha parts.0) (and_begins form) (prints law form b _ rest hb (fit_after form AndItem rest parts.1)))
prints law form (Not a) level items (h, rest, e, closed, ha) fit =
    let after = fit_after form NotItem rest (ap (list_all (fits form)) (sym e) ∙ fit) in
    subst (Prints form) (sym e) (first_prints form NotItem rest (not_begins form) (prints law form a _ rest ha after))
prints law form (Bracket a) level items (inside, e, ha) fit =
    let after = fit_after form OpenGroup (inside ++ CloseGroup ∷ []) (ap (list_all (fits form)) (sym e) ∙ fit) in
    let parts = fit_parts form inside (CloseGroup ∷ []) after in
    let most = joined_prints form inside CloseGroup [] (λ _. refl) (prints law form a _ inside ha parts.0) (λ rest us h. close_lexed rest us h) (nothing_prints form) in
    subst (Prints form) (sym e) (first_prints form OpenGroup (inside ++ CloseGroup ∷ []) (λ rest us h. open_lexed rest us h) most)
prints law form (IsNaN p) level items e fit =
    subst (Prints form) (sym e) (nan_prints form p (ap (list_all (fits form)) (sym e) ∙ fit))
prints law form (IsInf p) level items e fit =
    subst (Prints form) (sym e) (inf_prints form p (ap (list_all (fits form)) (sym e) ∙ fit))
prints law form (Compare t) level items e fit =
    subst (Prints form) (sym e) (test_prints law form t (ap (list_all (fits form)) (sym e) ∙ fit))

-- the tokens of the text
pub printed : ShortConstants → (form : Form) (T : Tree) (level : Level) (items : List Item) → SpellsItems T level items → Fit form items → tokens_of (text_of form items) ≡ Some (desk_tokens form items)
printed law form T level items h fit =
    ap (tokens_after 0) (sym (append-nil (text_of form items))) ∙ prints law form T level items h fit [] [] tt refl ∙ ap (λ (r : List Token). Some r) (append-nil (desk_tokens form items))

-- ---- the desk's tree

abbrev pub compare_of : Option DeskTest → DeskTree
compare_of None = DeskCompare WholeOperand Equal WholeOperand
compare_of (Some d) = DeskCompare d.operand d.comparison (NumberOperand d.constant)

abbrev pub atom_shape : DeskAtom → DeskTree
atom_shape (OneTest t) = compare_of (Some t)
atom_shape (Both t u) = DeskBracket (DeskAnd (compare_of (Some t)) (compare_of (Some u)))
atom_shape (Either t u) = DeskBracket (DeskOr (compare_of (Some t)) (compare_of (Some u)))
atom_shape (All t u w) = DeskBracket (DeskAnd (DeskAnd (compare_of (Some t)) (compare_of (Some u))) (compare_of (Some w)))

abbrev pub atom_tree : Option DeskAtom → DeskTree
atom_tree None = compare_of None
atom_tree (Some a) = atom_shape a

abbrev pub desk_tree : Form → Tree → DeskTree
desk_tree form (Or a b) = DeskOr (desk_tree form a) (desk_tree form b)
desk_tree form (And a b) = DeskAnd (desk_tree form a) (desk_tree form b)
desk_tree form (Not a) = DeskNot (desk_tree form a)
desk_tree form (Bracket a) = DeskBracket (desk_tree form a)
desk_tree form (Compare t) = atom_tree (compare_atom form t)
desk_tree form (IsNaN p) = atom_tree (nan_atom form p)
desk_tree form (IsInf p) = atom_tree (inf_atom form p)

number_spelled : (z : ℤ) → IsOperand (NumberOperand z) (number_token z ∷ [])
number_spelled (pos n) = inl refl
number_spelled (negsuc n) = inr refl

operand_spelled : (o : Operand) → IsOperand o (operand_tokens o)
operand_spelled WholeOperand = refl
operand_spelled (ItemOperand i) = refl
operand_spelled (NumberOperand z) = number_spelled z

test_spelled : (level : Level) (d : DeskTest) → Spells (compare_of (Some d)) level (test_tokens (Some d))
test_spelled level d = (operand_tokens d.operand, number_token d.constant ∷ [], refl, operand_spelled d.operand, number_spelled d.constant)

shape_spelled : (level : Level) (a : DeskAtom) → Spells (atom_shape a) level (atom_signs a)
shape_spelled level (OneTest t) = test_spelled level t
shape_spelled level (Both t u) =
    let first : List Token = test_tokens (Some t) in
    let second : List Token = test_tokens (Some u) in
    (first ++ AndSign ∷ second, ap (λ (r : List Token). Open ∷ r) (sym (append_assoc first (AndSign ∷ second) (Close ∷ []))), (refl, first, second, refl, test_spelled AtAnd t, test_spelled AtNot u))
shape_spelled level (Either t u) =
    let first : List Token = test_tokens (Some t) in
    let second : List Token = test_tokens (Some u) in
    (first ++ OrSign ∷ second, ap (λ (r : List Token). Open ∷ r) (sym (append_assoc first (OrSign ∷ second) (Close ∷ []))), (refl, first, second, refl, test_spelled AtOr t, test_spelled AtAnd u))
shape_spelled level (All t u w) =
    let first : List Token = test_tokens (Some t) in
    let second : List Token = test_tokens (Some u) in
    let third : List Token = test_tokens (Some w) in
    let front : List Token = first ++ AndSign ∷ second in
    let whole : first ++ AndSign ∷ (second ++ AndSign ∷ (third ++ Close ∷ [])) ≡ (front ++ AndSign ∷ third) ++ Close ∷ [] =
    sym (append_assoc first (AndSign ∷ second) (AndSign ∷ (third ++ Close ∷ []))) ∙ sym (append_assoc front (AndSign ∷ third) (Close ∷ [])) in
    (front ++ AndSign ∷ third, ap (λ (r : List Token). Open ∷ r) whole, (refl, front, third, refl, (refl, first, second, refl, test_spelled AtAnd t, test_spelled AtNot u), test_spelled AtNot w))

atom_spelled : (level : Level) (o : Option DeskAtom) (a : DeskAtom) → o ≡ Some a → Spells (atom_tree o) level (atom_tokens o ++ [])
atom_spelled level o a e =
    subst (λ (x : Option DeskAtom). Spells (atom_tree x) level (atom_tokens x ++ [])) (sym e)
    (subst (Spells (atom_tree (Some a)) level) (sym (append-nil (atom_tokens (Some a)))) (shape_spelled level a))

pub desk_spelled : (form : Form) (T : Tree) (level : Level) (items : List Item) → SpellsItems T level items → Fit form items → Spells (desk_tree form T) level (desk_tokens form items)
desk_spelled form (Or a b) level items (h, front, rest, e, ha, hb) fit =
    let parts = fit_parts form front (OrItem ∷ rest) (ap (list_all (fits form)) (sym e) ∙ fit) in
    (h, desk_tokens form front, desk_tokens form rest, ap (desk_tokens form) e ∙ flat_map-append (item_tokens form) front (OrItem ∷ rest), desk_spelled form a _ front ha parts.0, desk_spelled form b _ rest hb (fit_after form OrItem rest parts.1))
desk_spelled form (And a b) level items (h, front, rest, e, ha, hb) fit =
    let parts = fit_parts form front (AndItem ∷ rest) (ap (list_all (fits form)) (sym e) ∙ fit) in
    (h, desk_tokens form front, desk_tokens form rest, ap (desk_tokens form) e ∙ flat_map-append (item_tokens form) front (AndItem ∷ rest), desk_spelled form a _ front ha parts.0, desk_spelled form b _ rest hb (fit_after form AndItem rest parts.1))
desk_spelled form (Not a) level items (h, rest, e, closed, ha) fit =
    let after = fit_after form NotItem rest (ap (list_all (fits form)) (sym e) ∙ fit) in
    (h, desk_tokens form rest, ap (desk_tokens form) e, desk_spelled form a _ rest ha after)
desk_spelled form (Bracket a) level items (inside, e, ha) fit =
    let after = fit_after form OpenGroup (inside ++ CloseGroup ∷ []) (ap (list_all (fits form)) (sym e) ∙ fit) in
    let parts = fit_parts form inside (CloseGroup ∷ []) after in
    (desk_tokens form inside, ap (desk_tokens form) e ∙ ap (λ (r : List Token). Open ∷ r) (flat_map-append (item_tokens form) inside (CloseGroup ∷ [])), desk_spelled form a _ inside ha parts.0)
desk_spelled form (Compare t) level items e fit =
    let (a, is) = fit_is form t (ap (list_all (fits form)) (sym e) ∙ fit) in
    subst (λ (r : List Item). Spells (atom_tree (compare_atom form t)) level (desk_tokens form r)) (sym e) (atom_spelled level (compare_atom form t) a is)
desk_spelled form (IsNaN p) level items e fit =
    let (a, is) = nan_fit form p (ap (list_all (fits form)) (sym e) ∙ fit) in
    subst (λ (r : List Item). Spells (atom_tree (nan_atom form p)) level (desk_tokens form r)) (sym e) (atom_spelled level (nan_atom form p) a is)
desk_spelled form (IsInf p) level items e fit =
    let (a, is) = inf_fit form p (ap (list_all (fits form)) (sym e) ∙ fit) in
    subst (λ (r : List Item). Spells (atom_tree (inf_atom form p)) level (desk_tokens form r)) (sym e) (atom_spelled level (inf_atom form p) a is)
