-- What one effect makes of the rows of a past.
use Rattle.std.proofs.Common.{◌≡◌, List, [], ◌∷◌, ◌++◌, false, refl, ap, sym, ◌∙◌}
use Rattle.std.specs.Prelude.{ℕ, map}
use Rattle.std.specs.Str.{bytes_eq}
use Rattle.canary_plan.specs.declared.line.Line.{Line}
use Rattle.canary_release.specs.declared.effect.Effect.{Effect}
use Rattle.canary_release.specs.declared.effect.Effect.TheVariants.{LineAdded}
use Rattle.canary_release.specs.Order.{AreNumbered}
use Rattle.canary_release.specs.Pasts.{Past, past_with}
use Rattle.canary_tables_rows.specs.Tables.{Tables, is_line_of}
use Rattle.canary_tables_contents.specs.Values.{history_row}
use Rattle.canary_tables_contents.specs.Settling.{happened, Asks}
use Rattle.canary_tables_contents.proofs.PastRows.{ArePastRows, AreOthersRows, AreElseSame}
use Rattle.canary_tables_contents.proofs.Filters.{own_name, passes_more, fails_more}

-- one effect that may happen
pub record OneHappens (name : List ℕ) (x : Effect) (t : Tables) (p : Past) : Type 0 where
  pub rows : ArePastRows (happened name x t) name (past_with p x)
  pub asks : Asks name x t
  pub others : (q : List ℕ) → bytes_eq q name ≡ false → AreOthersRows t (happened name x t) q
  pub rest : AreElseSame t (happened name x t)
  pub numbered : AreNumbered 1 (past_with p x).runs

pub map_more : {A B : Type 0} (f : A → B) (xs : List A) (x : A) → map f (xs ++ x ∷ []) ≡ map f xs ++ f x ∷ []
map_more f [] x = refl
map_more {B = B} f (y ∷ xs) x = ap (λ (ys : List B). f y ∷ ys) (map_more f xs x)

-- a line is added

pub told_happens : (name : List ℕ) (line : Line) (t : Tables) (p : Past) → ArePastRows t name p → AreNumbered 1 p.runs → OneHappens name (LineAdded line) t p
told_happens name line t p are numbered = record {
  rows = record {
    runs = are.runs;
    bindings = are.bindings;
    tallies = are.tallies;
    measurements = are.measurements;
    history = passes_more (is_line_of name) t.history (history_row name line) (own_name name) ∙ ap (λ rows. rows ++ history_row name line ∷ []) are.history ∙ sym (map_more (history_row name) p.history line);
  };
  asks = tt;
  others = λ q differ. record {
    runs = λ number. refl;
    bindings = λ place template. refl;
    tallies = λ number metric. refl;
    measurements = refl;
    history = fails_more (is_line_of q) t.history (history_row name line) differ;
  };
  rest = record { callers = refl; kept = refl; revisions = refl; services = refl; attempts = λ q template. refl };
  numbered = numbered;
}
