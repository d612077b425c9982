-- What rows of a STRICT table hold: texts, whole numbers, and whole numbers or none.
use Rattle.std.proofs.Common.{◌≡◌, ◌+◌, ◌||◌, ◌&&◌, ℕ, ℤ, suc, pos, negsuc, List, [], ◌∷◌, Bool, true, false, Option, Some, None, unwrap_or, refl, sym, ap, ap₂, ◌∙◌, arith}
use Rattle.std.specs.List.{list_any}
use Rattle.std.specs.Ordering.{is_lt, int_cmp}
use Rattle.std.proofs.lemmas.Int.{ints}
use Rattle.std.proofs.lemmas.Bool.Decides.{nat_tests}
use Rattle.sqlite.specs.declared.types.Value.{Value}
use Rattle.sqlite.specs.declared.types.Value.TheVariants.{Null, Int, Text as Words}
use Rattle.sqlite.specs.Order.{Row, column, value_cmp}
use Rattle.sqlite.specs.Term.{Term, holds}
use Rattle.sqlite.specs.Ops.{binary, is_true, from_truth}
use Rattle.sqlite_sql.specs.Ops.{or3}
use Rattle.sqlite_sql.specs.declared.ops.BinaryOp.TheVariants.{Compare, Or}
use Rattle.sqlite_sql.specs.declared.ops.CompareOp.TheVariants.{Lt}
use Rattle.sqlite_schema.specs.declared.schema.Column.{Column}
use Rattle.sqlite_value.specs.declared.keys.Collation.TheVariants.{Binary}
use Rattle.sqlite_value.proofs.OrderLemmas.{value_cmp-Int}
use Rattle.canary_tables_schema.specs.Schema.{words, integer_column as whole_column, maybe}
use Rattle.canary_tables_schema.specs.Cells.{integer, whole_or_null}
use Rattle.canary_tables_read.proofs.Seeking.{or_below}
use Rattle.canary_tables_read.proofs.Tests.{as_truth}

-- a column of this name
pub data Holding : Type 0 where
  text : List ℕ → Holding
  number : List ℕ → Holding
  number_or_none : List ℕ → Holding

abbrev pub column_of : Holding → Column
column_of (text name) = words name
column_of (number name) = whole_column name
column_of (number_or_none name) = maybe name

abbrev pub columns_of : List Holding → List Column
columns_of [] = []
columns_of (k ∷ ks) = column_of k ∷ columns_of ks

-- The values of a row, if a number may be negative.
abbrev pub Raw : List Holding → Type 0
Raw [] = Unit {0}
Raw (text name ∷ ks) = List ℕ × Raw ks
Raw (number name ∷ ks) = ℤ × Raw ks
Raw (number_or_none name ∷ ks) = Option ℤ × Raw ks

abbrev pub int_or_null : Option ℤ → Value
int_or_null None = Null
int_or_null (Some z) = Int z

abbrev pub raw_cells : (ks : List Holding) → Raw ks → Row
raw_cells [] r = []
raw_cells (text name ∷ ks) r = Words r.0 ∷ raw_cells ks r.1
raw_cells (number name ∷ ks) r = Int r.0 ∷ raw_cells ks r.1
raw_cells (number_or_none name ∷ ks) r = int_or_null r.0 ∷ raw_cells ks r.1

-- And if none is.
abbrev pub FromFirstRow : List Holding → Type 0
FromFirstRow [] = Unit {0}
FromFirstRow (text name ∷ ks) = List ℕ × FromFirstRow ks
FromFirstRow (number name ∷ ks) = ℕ × FromFirstRow ks
FromFirstRow (number_or_none name ∷ ks) = Option ℕ × FromFirstRow ks

abbrev pub told_cells : (ks : List Holding) → FromFirstRow ks → Row
told_cells [] v = []
told_cells (text name ∷ ks) v = Words v.0 ∷ told_cells ks v.1
told_cells (number name ∷ ks) v = integer v.0 ∷ told_cells ks v.1
told_cells (number_or_none name ∷ ks) v = whole_or_null v.0 ∷ told_cells ks v.1

-- the places of the numbers, from one on
abbrev pub numbers_at : ℕ → List Holding → List ℕ
numbers_at at [] = []
numbers_at at (text name ∷ ks) = numbers_at (suc at) ks
numbers_at at (number name ∷ ks) = at ∷ numbers_at (suc at) ks
numbers_at at (number_or_none name ∷ ks) = at ∷ numbers_at (suc at) ks

abbrev pub is_negative : Value → Bool
is_negative v = is_true (binary (Compare Lt Binary) v (Int (pos 0)))

abbrev pub has_negative : Row → List ℕ → Bool
has_negative row places = list_any (λ at. is_negative (column row at)) places

not_lower : (n : ℕ) → is_lt (int_cmp (pos n) (pos 0)) ≡ false
not_lower n = grind (arith, ints, nat_tests)

lower : (n : ℕ) → is_lt (int_cmp (negsuc n) (pos 0)) ≡ true
lower n = grind (arith, ints, nat_tests)

not_negative : (n : ℕ) → is_negative (integer n) ≡ false
unfolding binary
not_negative n = as_truth (is_lt (value_cmp (Int (pos n)) (Int (pos 0)))) ∙ ap is_lt (value_cmp-Int (pos n) (pos 0)) ∙ not_lower n

negative : (n : ℕ) → is_negative (Int (negsuc n)) ≡ true
unfolding binary
negative n = as_truth (is_lt (value_cmp (Int (negsuc n)) (Int (pos 0)))) ∙ ap is_lt (value_cmp-Int (negsuc n) (pos 0)) ∙ lower n

null_not_negative : is_negative Null ≡ false
unfolding binary
null_not_negative = refl

none_not_negative : (o : Option ℕ) → is_negative (whole_or_null o) ≡ false
none_not_negative None = null_not_negative
none_not_negative (Some n) = not_negative n

or_first : (a b : Bool) → (a || b) ≡ false → a ≡ false
or_first true b h = absurd (cc)
or_first false b h = refl

or_second : (a b : Bool) → (a || b) ≡ false → b ≡ false
or_second true b h = absurd (cc)
or_second false b h = h

or_of : (a b : Bool) → a ≡ false → b ≡ false → (a || b) ≡ false
or_of a b h k = rw (h, k) refl

pub and_second : (a b : Bool) → (a && b) ≡ true → b ≡ true
and_second true b h = h
and_second false b h = absurd (cc)

-- the test of the text is that one of the numbers is negative
or_step : (a b : Option Bool) → is_true (from_truth (or3 a b)) ≡ (unwrap_or a false || unwrap_or b false)
or_step None None = refl
or_step None (Some true) = refl
or_step None (Some false) = refl
or_step (Some true) None = refl
or_step (Some true) (Some true) = refl
or_step (Some true) (Some false) = refl
or_step (Some false) None = refl
or_step (Some false) (Some true) = refl
or_step (Some false) (Some false) = refl

or_assoc : (a b c : Bool) → ((a || b) || c) ≡ (a || (b || c))
or_assoc true b c = refl
or_assoc false b c = refl

or_none : (a : Bool) → a ≡ (a || false)
or_none true = refl
or_none false = refl

one_or : (a b : Value) → is_true (binary Or a b) ≡ (is_true a || is_true b)
unfolding binary
one_or a b = or_step _ _

pub or_below_is : (params row : Row) (test : Term) (places : List ℕ) → holds (params ∷ row ∷ []) (or_below test places) ≡ (holds (params ∷ row ∷ []) test || has_negative row places)
or_below_is params row test [] = or_none _
or_below_is params row test (at ∷ places) =
    or_below_is params row _ places ∙ ap (λ b. b || has_negative row places) (one_or _ _) ∙ or_assoc (holds (params ∷ row ∷ []) test) (is_negative (column row at)) (has_negative row places)

-- the cells stand in the row from this place on
abbrev pub StandFrom : ℕ → Row → Row → Type 0
StandFrom at row cells = (i k : ℕ) → k ≡ i + at → column row k ≡ column cells i

pub next : (at : ℕ) (row cells : Row) (v : Value) → StandFrom at row (v ∷ cells) → StandFrom (suc at) row cells
next at row cells v h i k e = h (suc i) k (omega (arith, e))

number_whole : (z : ℤ) → is_negative (Int z) ≡ false → (n : ℕ) × (Int z ≡ integer n)
number_whole (pos n) h = (n, refl)
number_whole (negsuc n) h = absurd (let k : is_negative (Int (negsuc n)) ≡ true = negative n in cc)

maybe_whole : (o : Option ℤ) → is_negative (int_or_null o) ≡ false → (n : Option ℕ) × (int_or_null o ≡ whole_or_null n)
maybe_whole None h = (None, refl)
maybe_whole (Some z) h = let n = number_whole z h in (Some n.0, n.1)

-- if no number is negative, all are whole
pub all_whole : (ks : List Holding) (r : Raw ks) (at : ℕ) (row : Row) → StandFrom at row (raw_cells ks r) → has_negative row (numbers_at at ks) ≡ false → (v : FromFirstRow ks) × (raw_cells ks r ≡ told_cells ks v)
all_whole [] r at row h e = (tt, refl)
all_whole (text name ∷ ks) r at row h e =
    let rest = all_whole ks r.1 (suc at) row (next at row (raw_cells ks r.1) (Words r.0) h) e in
    ((r.0, rest.0), ap (λ (cells : Row). Words r.0 ∷ cells) rest.1)
all_whole (number name ∷ ks) r at row h e =
    let here : column row at ≡ Int r.0 = h 0 at (omega arith) in
    let rest = all_whole ks r.1 (suc at) row (next at row (raw_cells ks r.1) (Int r.0) h) (or_second (is_negative (column row at)) (has_negative row (numbers_at (suc at) ks)) e) in
    let first = number_whole r.0 (ap is_negative (sym here) ∙ or_first (is_negative (column row at)) (has_negative row (numbers_at (suc at) ks)) e) in
    ((first.0, rest.0), ap₂ (λ a others. a ∷ others) first.1 rest.1)
all_whole (number_or_none name ∷ ks) r at row h e =
    let here : column row at ≡ int_or_null r.0 = h 0 at (omega arith) in
    let rest = all_whole ks r.1 (suc at) row (next at row (raw_cells ks r.1) (int_or_null r.0) h) (or_second (is_negative (column row at)) (has_negative row (numbers_at (suc at) ks)) e) in
    let first = maybe_whole r.0 (ap is_negative (sym here) ∙ or_first (is_negative (column row at)) (has_negative row (numbers_at (suc at) ks)) e) in
    ((first.0, rest.0), ap₂ (λ a others. a ∷ others) first.1 rest.1)

-- whole numbers are not negative
pub none_negative : (ks : List Holding) (v : FromFirstRow ks) (at : ℕ) (row : Row) → StandFrom at row (told_cells ks v) → has_negative row (numbers_at at ks) ≡ false
none_negative [] v at row h = refl
none_negative (text name ∷ ks) v at row h = none_negative ks v.1 (suc at) row (next at row (told_cells ks v.1) (Words v.0) h)
none_negative (number name ∷ ks) v at row h =
    let here : column row at ≡ integer v.0 = h 0 at (omega arith) in
    or_of _ _ (ap is_negative here ∙ not_negative v.0) (none_negative ks v.1 (suc at) row (next at row (told_cells ks v.1) (integer v.0) h))
none_negative (number_or_none name ∷ ks) v at row h =
    let here : column row at ≡ whole_or_null v.0 = h 0 at (omega arith) in
    or_of _ _ (ap is_negative here ∙ none_not_negative v.0) (none_negative ks v.1 (suc at) row (next at row (told_cells ks v.1) (whole_or_null v.0) h))
