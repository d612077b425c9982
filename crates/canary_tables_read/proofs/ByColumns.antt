-- A row by its columns.
use Rattle.std.proofs.Common.{◌≡◌, ℕ, suc, [], ◌∷◌, length, Option, Some, None, refl, sym, ap, ap₂, ◌∙◌, arith}
use Rattle.sqlite.specs.declared.types.Value.{Value}
use Rattle.sqlite.specs.Order.{Row, column}
use Rattle.canary_metric.specs.Counts.{Counts}
use Rattle.canary_tables_schema.specs.Cells.{integer, whole_or_null, number_or_null}
use Rattle.canary_tables_read.specs.Parts.{counts_cells}

-- the columns from one on are these cells
abbrev pub AreFrom : ℕ → Row → Row → Type 0
AreFrom at row [] = Unit {0}
AreFrom at row (cell ∷ cells) = (column row at ≡ cell) × AreFrom (suc at) row cells

shifted : (at : ℕ) (first : _) (row cells : Row) → AreFrom (suc at) (first ∷ row) cells → AreFrom at row cells
shifted at first row [] h = tt
shifted at first row (cell ∷ cells) h = (h.0, shifted (suc at) first row cells h.1)

-- as many cells as columns, one after another
pub columns_are : (row cells : Row) → length row ≡ length cells → AreFrom 0 row cells → cells ≡ row
columns_are [] [] same h = refl
columns_are [] (cell ∷ cells) same h = absurd (omega arith)
columns_are (first ∷ row) [] same h = absurd (omega arith)
columns_are (first ∷ row) (cell ∷ cells) same h = ap₂ (λ a others. a ∷ others) (sym h.0) (columns_are row cells (omega arith) (shifted 0 first row cells h.1))

pub number_back : (n : Option ℕ) → number_or_null (whole_or_null n) ≡ Some n
number_back None = refl
number_back (Some n) = refl

same_number : (m n : Option ℕ) → whole_or_null m ≡ whole_or_null n → m ≡ n
same_number m n e = let some : Some m ≡ Some n = sym (number_back m) ∙ ap number_or_null e ∙ number_back n in cc

same_whole : (m n : ℕ) → integer m ≡ integer n → m ≡ n
same_whole m n e = cc

-- counts are given by the columns after the first two
pub counts_same : (row : Row) (c d : Counts) (first second : Value) → row ≡ first ∷ second ∷ counts_cells c → column row 2 ≡ integer d.counted → column row 3 ≡ integer d.failed → column row 4 ≡ integer d.inconclusive → column row 5 ≡ integer d.errors
    → column row 6 ≡ integer d.consecutive → column row 7 ≡ integer d.passes → column row 8 ≡ whole_or_null d.last → c ≡ d
counts_same row c d first second is counted failed inconclusive errors consecutive passes last =
    let cell : (at : ℕ) → column (first ∷ second ∷ counts_cells c) at ≡ column row at = λ at. ap (λ (r : Row). column r at) (sym is) in
    λ j. record {
      counted = same_whole c.counted d.counted (cell 2 ∙ counted) j;
      failed = same_whole c.failed d.failed (cell 3 ∙ failed) j;
      inconclusive = same_whole c.inconclusive d.inconclusive (cell 4 ∙ inconclusive) j;
      errors = same_whole c.errors d.errors (cell 5 ∙ errors) j;
      consecutive = same_whole c.consecutive d.consecutive (cell 6 ∙ consecutive) j;
      passes = same_whole c.passes d.passes (cell 7 ∙ passes) j;
      last = same_number c.last d.last (cell 8 ∙ last) j;
    }
