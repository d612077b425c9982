-- Groups are the tokens that they were made of.
use Rattle.std.proofs.Common.{◌≡◌, ℕ, Bool, true, false, ℤ, pos, negsuc, List, [], ◌∷◌, ◌++◌, length, Option, Some, None, refl, sym, ap, ◌∙◌, subst, append_assoc, append-nil, arith, ◌<◌, ◌≤◌}
use Rattle.std.specs.Prelude.{◌==◌, if◌then◌else◌, option_map}
use Rattle.std.proofs.lemmas.Bool.Decides.{nat_tests}
use Rattle.std.proofs.lemmas.List.{length-append}
use Rattle.std.proofs.lemmas.List.Concat.{flat_map-append}
use Rattle.std.proofs.lemmas.Option.{none-some, same_Some}
use Rattle.canary_condition.specs.declared.condition.Comparison.{Comparison}
use Rattle.canary_condition.specs.Spelling.{Level}
use Rattle.canary_decimal.specs.declared.decimal.ShortDecimal.{ShortDecimal}
use Rattle.canary_argo.specs.declared.condition.Item.{Item}
use Rattle.canary_argo.specs.declared.condition.Item.TheVariants.{Or as OrItem, And as AndItem, Not as NotItem, Open as OpenGroup, Close as CloseGroup, Compare as CompareItem, NaN as NaNItem, Inf as InfItem}
use Rattle.canary_argo.specs.declared.condition.Amount.{Amount}
use Rattle.canary_argo.specs.declared.condition.Function.TheVariants.{AsFloat, AsInt}
use Rattle.canary_argo.specs.declared.condition.Look.{Look}
use Rattle.canary_argo.specs.declared.condition.ResultPart.{ResultPart}
use Rattle.canary_argo.specs.declared.condition.Test.{Test}
use Rattle.canary_argo.specs.declared.condition.ArgoToken.{ArgoToken}
use Rattle.canary_argo.specs.declared.condition.ArgoToken.TheVariants.{Compares, OrSign, AndSign, NotSign, Open, Close, OpenItem, CloseItem, ResultWord, AsFloatWord, AsIntWord, DefaultWord, LenWord, NaNWord, InfWord, Comma, Number}
use Rattle.canary_argo.specs.Spelling.{place_tokens, value_tokens, bracketed, look_tokens, amount_tokens, test_tokens, nan_tokens, inf_tokens, Spells}
use Rattle.canary_argo.specs.Grouping.{natural, index_of, place_at, after_result, closed, defaulted, front_value, within, in_brackets, front_look, front_amount, with_amount, after_look, with_look, after_amount, look_first, amount_first, front_test, nan_item, inf_item, test_or_open, front_item, item_tokens, all_tokens, SpellsItems}
use Rattle.canary_argo.specs.Trees.{Tree}
use Rattle.canary_argo.specs.Trees.Tree.{Or, And, Not, Bracket, Compare, IsNaN, IsInf}

-- ---- places

natural_is : (z : ℤ) (i : ℕ) → natural z ≡ Some i → z ≡ pos i
natural_is (pos n) i e = ap pos (same_Some n i e)
natural_is (negsuc n) i e = absurd (none-some i e)

index_by : (d : ShortDecimal) (i : ℕ) (b : Bool) → (b ≡ true → d.places ≡ 0) → (if b then natural d.whole else None) ≡ Some i → d ≡ record { whole = pos i; places = 0 }
index_by d i true p e =
    let whole = natural_is d.whole i e in
    ap (λ (z : ℤ). let r : ShortDecimal = record { whole = z; places = d.places } in r) whole ∙ ap (λ (k : ℕ). let r : ShortDecimal = record { whole = pos i; places = k } in r) (p refl)
index_by d i false p e = absurd (none-some i e)

index_is : (d : ShortDecimal) (i : ℕ) → index_of d ≡ Some i → d ≡ record { whole = pos i; places = 0 }
index_is d i e = index_by d i (d.places == 0) (λ b. grind (arith, nat_tests)) e

abbrev PlaceAt : List ArgoToken → ResultPart × List ArgoToken → Type 0
PlaceAt ts p = ResultWord ∷ ts ≡ place_tokens p.0 ++ p.1

place_holds : (d : ShortDecimal) (ts : List ArgoToken) (index : Option ℕ) → index_of d ≡ index → PlaceAt (OpenItem ∷ Number d ∷ CloseItem ∷ ts) (place_at (OpenItem ∷ Number d ∷ CloseItem ∷ ts) index ts)
place_holds d ts None e = refl
place_holds d ts (Some i) e = ap (λ (r : ShortDecimal). ResultWord ∷ OpenItem ∷ Number r ∷ CloseItem ∷ ts) (index_is d i e)

after_holds : (ts : List ArgoToken) → PlaceAt ts (after_result ts)
after_holds (OpenItem ∷ Number d ∷ CloseItem ∷ ts) = place_holds d ts (index_of d) refl
after_holds ts = refl

-- ---- values

abbrev ValueAt : List ArgoToken → Option (Look × List ArgoToken) → Type 0
ValueAt ts None = Unit {0}
ValueAt ts (Some v) = (v.0.bracketed ≡ false) × (ts ≡ value_tokens v.0.function v.0.place ++ v.1)

float_holds : (place : ResultPart) (ts rest : List ArgoToken) → ResultWord ∷ ts ≡ place_tokens place ++ rest → ValueAt (AsFloatWord ∷ Open ∷ ResultWord ∷ ts) (closed AsFloat place rest)
float_holds place ts (Close ∷ rest) e =
    (refl, ap (λ (r : List ArgoToken). AsFloatWord ∷ Open ∷ r) (e ∙ sym (append_assoc (place_tokens place) (Close ∷ []) rest)))
float_holds place ts rest e = tt

int_holds : (place : ResultPart) (ts rest : List ArgoToken) → ResultWord ∷ ts ≡ place_tokens place ++ rest → ValueAt (AsIntWord ∷ Open ∷ ResultWord ∷ ts) (closed AsInt place rest)
int_holds place ts (Close ∷ rest) e =
    (refl, ap (λ (r : List ArgoToken). AsIntWord ∷ Open ∷ r) (e ∙ sym (append_assoc (place_tokens place) (Close ∷ []) rest)))
int_holds place ts rest e = tt

default_holds : (ts : List ArgoToken) → ValueAt (DefaultWord ∷ Open ∷ ResultWord ∷ ts) (defaulted ts)
default_holds (Comma ∷ Number d ∷ Close ∷ rest) = (refl, refl)
default_holds ts = tt

value_holds : (ts : List ArgoToken) → ValueAt ts (front_value ts)
value_holds (ResultWord ∷ ts) = (refl, after_holds ts)
value_holds (AsFloatWord ∷ Open ∷ ResultWord ∷ ts) = float_holds (after_result ts).0 ts (after_result ts).1 (after_holds ts)
value_holds (AsIntWord ∷ Open ∷ ResultWord ∷ ts) = int_holds (after_result ts).0 ts (after_result ts).1 (after_holds ts)
value_holds (DefaultWord ∷ Open ∷ ResultWord ∷ ts) = default_holds ts
value_holds (LenWord ∷ Open ∷ ResultWord ∷ Close ∷ ts) = (refl, refl)
value_holds ts = tt

-- ---- operands, in brackets or not

abbrev LookAt : List ArgoToken → Option (Look × List ArgoToken) → Type 0
LookAt ts None = Unit {0}
LookAt ts (Some v) = ts ≡ look_tokens v.0 ++ v.1

within_holds : (ts : List ArgoToken) (v : Look) (rest : List ArgoToken) → ts ≡ value_tokens v.function v.place ++ rest → LookAt (Open ∷ ts) (within v rest)
within_holds ts v (Close ∷ rest) e =
    ap (λ (r : List ArgoToken). Open ∷ r) (e ∙ sym (append_assoc (value_tokens v.function v.place) (Close ∷ []) rest))
within_holds ts v rest e = tt

brackets_hold : (ts : List ArgoToken) (v : Option (Look × List ArgoToken)) → ValueAt ts v → LookAt (Open ∷ ts) (in_brackets v)
brackets_hold ts None h = tt
brackets_hold ts (Some v) h = within_holds ts v.0 v.1 h.1

plain_holds : (ts : List ArgoToken) (v : Option (Look × List ArgoToken)) → ValueAt ts v → LookAt ts v
plain_holds ts None h = tt
plain_holds ts (Some v) h = h.1 ∙ ap (λ (b : Bool). bracketed b (value_tokens v.0.function v.0.place) ++ v.1) (sym h.0)

look_holds : (ts : List ArgoToken) → LookAt ts (front_look ts)
look_holds (Open ∷ ts) = brackets_hold ts (front_value ts) (value_holds ts)
look_holds ts = plain_holds ts (front_value ts) (value_holds ts)

abbrev AmountAt : List ArgoToken → Option (Amount × List ArgoToken) → Type 0
AmountAt ts None = Unit {0}
AmountAt ts (Some n) = ts ≡ amount_tokens n.0 ++ n.1

amount_holds : (ts : List ArgoToken) → AmountAt ts (front_amount ts)
amount_holds (Number d ∷ ts) = refl
amount_holds (Open ∷ Number d ∷ Close ∷ ts) = refl
amount_holds ts = tt

-- ---- comparisons

abbrev TestAt : List ArgoToken → Option (Test × List ArgoToken) → Type 0
TestAt ts None = Unit {0}
TestAt ts (Some t) = ts ≡ test_tokens t.0 ++ t.1

-- a value or a number, the sign, and the other one
joined : (ts front sign back rest behind : List ArgoToken) → ts ≡ front ++ rest → rest ≡ sign ++ behind → (end : List ArgoToken) → behind ≡ back ++ end → ts ≡ (front ++ (sign ++ back)) ++ end
joined ts front sign back rest behind e f end g =
    e ∙ ap (λ (r : List ArgoToken). front ++ r) (f ∙ ap (λ (r : List ArgoToken). sign ++ r) g ∙ sym (append_assoc sign back end)) ∙ sym (append_assoc front (sign ++ back) end)

with_amount_holds : (ts : List ArgoToken) (v : Look) (c : Comparison) (behind : List ArgoToken) (n : Option (Amount × List ArgoToken)) → ts ≡ look_tokens v ++ Compares c ∷ behind → AmountAt behind n → TestAt ts (with_amount v c n)
with_amount_holds ts v c behind None e h = tt
with_amount_holds ts v c behind (Some n) e h = joined ts (look_tokens v) (Compares c ∷ []) (amount_tokens n.0) (Compares c ∷ behind) behind e refl n.1 h

after_look_holds : (ts : List ArgoToken) (v : Look) (rest : List ArgoToken) → ts ≡ look_tokens v ++ rest → TestAt ts (after_look v rest)
after_look_holds ts v (Compares c ∷ behind) e = with_amount_holds ts v c behind (front_amount behind) e (amount_holds behind)
after_look_holds ts v rest e = tt

with_look_holds : (ts : List ArgoToken) (n : Amount) (c : Comparison) (behind : List ArgoToken) (v : Option (Look × List ArgoToken)) → ts ≡ amount_tokens n ++ Compares c ∷ behind → LookAt behind v → TestAt ts (with_look n c v)
with_look_holds ts n c behind None e h = tt
with_look_holds ts n c behind (Some v) e h = joined ts (amount_tokens n) (Compares c ∷ []) (look_tokens v.0) (Compares c ∷ behind) behind e refl v.1 h

after_amount_holds : (ts : List ArgoToken) (n : Amount) (rest : List ArgoToken) → ts ≡ amount_tokens n ++ rest → TestAt ts (after_amount n rest)
after_amount_holds ts n (Compares c ∷ behind) e = with_look_holds ts n c behind (front_look behind) e (look_holds behind)
after_amount_holds ts n rest e = tt

look_first_holds : (ts : List ArgoToken) (v : Option (Look × List ArgoToken)) → LookAt ts v → TestAt ts (look_first v)
look_first_holds ts None h = tt
look_first_holds ts (Some v) h = after_look_holds ts v.0 v.1 h

amount_first_holds : (ts : List ArgoToken) (n : Option (Amount × List ArgoToken)) → AmountAt ts n → TestAt ts (amount_first n ts)
amount_first_holds ts None h = look_first_holds ts (front_look ts) (look_holds ts)
amount_first_holds ts (Some n) h = after_amount_holds ts n.0 n.1 h

test_holds : (ts : List ArgoToken) → TestAt ts (front_test ts)
test_holds ts = amount_first_holds ts (front_amount ts) (amount_holds ts)

-- ---- groups

abbrev ItemAt : List ArgoToken → Option (Item × List ArgoToken) → Type 0
ItemAt ts None = Unit {0}
ItemAt ts (Some r) = ts ≡ item_tokens r.0 ++ r.1

as_item : (ts : List ArgoToken) (t : Option (Test × List ArgoToken)) → TestAt ts t → ItemAt ts (option_map (λ (r : Test × List ArgoToken). (CompareItem r.0, r.1)) t)
as_item ts None h = tt
as_item ts (Some t) h = h

nan_holds : (place : ResultPart) (ts rest : List ArgoToken) → ResultWord ∷ ts ≡ place_tokens place ++ rest → ItemAt (NaNWord ∷ Open ∷ ResultWord ∷ ts) (nan_item place rest)
nan_holds place ts (Close ∷ rest) e =
    ap (λ (r : List ArgoToken). NaNWord ∷ Open ∷ r) (e ∙ sym (append_assoc (place_tokens place) (Close ∷ []) rest))
nan_holds place ts rest e = tt

inf_holds : (place : ResultPart) (ts rest : List ArgoToken) → ResultWord ∷ ts ≡ place_tokens place ++ rest → ItemAt (InfWord ∷ Open ∷ ResultWord ∷ ts) (inf_item place rest)
inf_holds place ts (Close ∷ rest) e =
    (ap (λ (r : List ArgoToken). InfWord ∷ Open ∷ r) (e ∙ sym (append_assoc (place_tokens place) (Close ∷ []) rest)))
inf_holds place ts rest e = tt

or_open : (ts : List ArgoToken) (t : Option (Test × List ArgoToken)) → TestAt (Open ∷ ts) t → ItemAt (Open ∷ ts) (test_or_open t ts)
or_open ts None h = refl
or_open ts (Some t) h = h

item_holds : (ts : List ArgoToken) → ItemAt ts (front_item ts)
item_holds (OrSign ∷ ts) = refl
item_holds (AndSign ∷ ts) = refl
item_holds (NotSign ∷ ts) = refl
item_holds (Open ∷ ts) = or_open ts (front_test (Open ∷ ts)) (test_holds (Open ∷ ts))
item_holds (Close ∷ ts) = refl
item_holds (NaNWord ∷ Open ∷ ResultWord ∷ ts) = nan_holds (after_result ts).0 ts (after_result ts).1 (after_holds ts)
item_holds (InfWord ∷ Open ∷ ResultWord ∷ ts) = inf_holds (after_result ts).0 ts (after_result ts).1 (after_holds ts)
item_holds ts = as_item ts (front_test ts) (test_holds ts)

pub item_is : (ts rest : List ArgoToken) (item : Item) → Some (item, rest) ≡ front_item ts → ts ≡ item_tokens item ++ rest
item_is ts rest item e = subst (ItemAt ts) (sym e) (item_holds ts)

some_test : (b : Bool) (v : Look) (c : Comparison) (n : Amount) → 1 ≤ length (test_tokens (record { look = v; comparison = c; amount = n; turned = b }))
some_test true v c n = omega (arith, length-append (amount_tokens n) (Compares c ∷ look_tokens v))
some_test false v c n = omega (arith, length-append (look_tokens v) (Compares c ∷ amount_tokens n))

some_tokens : (item : Item) → 1 ≤ length (item_tokens item)
some_tokens OrItem = omega arith
some_tokens AndItem = omega arith
some_tokens NotItem = omega arith
some_tokens OpenGroup = omega arith
some_tokens CloseGroup = omega arith
some_tokens (NaNItem place) = omega arith
some_tokens (InfItem place) = omega arith
some_tokens (CompareItem t) = some_test t.turned t.look t.comparison t.amount

-- a group takes a token at least
pub item_shorter : (ts rest : List ArgoToken) (item : Item) → Some (item, rest) ≡ front_item ts → length rest < length ts
item_shorter ts rest item e = omega (arith, ap length (item_is ts rest item e), length-append (item_tokens item) rest, some_tokens item)

-- one more group
pub one_more_item : (tokens : List ArgoToken) (items more : List Item) (ts rest : List ArgoToken) (item : Item) → tokens ≡ all_tokens items ++ ts → Some (item, rest) ≡ front_item ts → more ≡ items ++ item ∷ [] → tokens ≡ all_tokens more ++ rest
one_more_item tokens items more ts rest item so_far e is =
    so_far ∙ ap (λ (r : List ArgoToken). all_tokens items ++ r) (item_is ts rest item e) ∙ sym (append_assoc (all_tokens items) (item_tokens item) rest)
    ∙ ap (λ (r : List ArgoToken). r ++ rest) (ap (λ (r : List ArgoToken). all_tokens items ++ r) (sym (append-nil (item_tokens item))) ∙ sym (flat_map-append item_tokens items (item ∷ [])) ∙ ap all_tokens (sym is))

-- ---- trees

-- what groups spell, their tokens spell
pub spelled_tokens : (T : Tree) (level : Level) (items : List Item) → SpellsItems T level items → Spells T level (all_tokens items)
spelled_tokens (Or a b) level items (h, front, rest, e, ha, hb) =
    (h, all_tokens front, all_tokens rest, ap all_tokens e ∙ flat_map-append item_tokens front (OrItem ∷ rest), spelled_tokens a _ front ha, spelled_tokens b _ rest hb)
spelled_tokens (And a b) level items (h, front, rest, e, ha, hb) =
    (h, all_tokens front, all_tokens rest, ap all_tokens e ∙ flat_map-append item_tokens front (AndItem ∷ rest), spelled_tokens a _ front ha, spelled_tokens b _ rest hb)
spelled_tokens (Not a) level items (h, rest, e, closed, ha) =
    (h, all_tokens rest, ap all_tokens e, closed, spelled_tokens a _ rest ha)
spelled_tokens (Bracket a) level items (inside, e, ha) =
    (all_tokens inside, ap all_tokens e ∙ ap (λ (r : List ArgoToken). Open ∷ r) (flat_map-append item_tokens inside (CloseGroup ∷ [])), spelled_tokens a _ inside ha)
spelled_tokens (Compare test) level items e = ap all_tokens e ∙ append-nil (test_tokens test)
spelled_tokens (IsNaN place) level items e = ap all_tokens e ∙ append-nil (nan_tokens place)
spelled_tokens (IsInf place) level items e = ap all_tokens e ∙ append-nil (inf_tokens place)
