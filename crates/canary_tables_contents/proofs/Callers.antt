-- One receipt more: the rows of callers and of kept requests.
use Rattle.std.proofs.Common.{◌≡◌, ℕ, zero, suc, ◌+◌, ◌≤◌, List, [], ◌∷◌, ◌++◌, length, Bool, true, false, Some, None, refl, sym, ap, ◌∙◌, arith, append-nil, length-append, true≢false}
use Rattle.std.specs.Prelude.{Option, cond, if◌then◌else◌, ◌==◌, ◌&&◌, filter, unwrap_or}
use Rattle.std.specs.Str.{bytes_eq}
use Rattle.std.specs.FinMap.{get}
use Rattle.std.proofs.lemmas.List.Elements.{filter-append}
use Rattle.std.proofs.lemmas.Bool.Decides.{Decides-eqb}
use Rattle.canary_once.specs.declared.book.Receipt.{Receipt}
use Rattle.canary_once.specs.Contents.{CallerMap, receipts_in, with_receipt, HaveReceipts}
use Rattle.canary_tables_rows.specs.declared.rows.CallerRow.{CallerRow}
use Rattle.canary_tables_rows.specs.declared.rows.KeptRow.{KeptRow}
use Rattle.canary_tables_rows.specs.Tables.{Tables, is_caller, is_kept}
use Rattle.canary_tables_rows.specs.Changes.{with_caller, with_settled, with_kept, change_where, HasCaller}
use Rattle.canary_tables_contents.specs.Values.{caller_row, kept_row}
use Rattle.canary_tables_contents.specs.Tables.{row_if, kept_rows}
use Rattle.canary_tables_contents.specs.Settling.{caller_settled}
use Rattle.canary_tables_contents.proofs.SettledKeys.{equal_names, own_name, other_name, at_name, same_value, changed_under}
use Rattle.canary_tables_contents.proofs.Pushed.{rows_at, pushed}
use Rattle.canary_tables_contents.proofs.SettledPasts.{HaveSamePasts}

-- how many requests of a caller are settled, as its row says it
abbrev pub counted_row : List ℕ → List Receipt → CallerRow
counted_row name receipts = caller_row name (length receipts)

pub record AreCallerRows (t : Tables) (lists : CallerMap) : Type 0 where
  pub callers : (name : List ℕ) → filter (is_caller name) t.callers ≡ row_if (counted_row name) (get lists name)
  pub kept : (caller : List ℕ) (number : ℕ) → filter (is_kept caller number) t.kept ≡ kept_rows caller number (receipts_in lists caller)

-- The list of a caller.

one_more : (receipts : List Receipt) (x : Receipt) → length (receipts ++ x ∷ []) ≡ length receipts + 1
one_more receipts x = length-append receipts (x ∷ [])

-- a caller's first request is its first receipt
none_before : (n : ℕ) (o : Option (List Receipt)) → (n == 1) ≡ true → n ≡ length (unwrap_or o []) + 1 → ((l : List Receipt) → o ≡ Some l → 1 ≤ length l) → o ≡ None
none_before n None first last some = refl
none_before n (Some l) first last some = let one : n ≡ 1 = (Decides-eqb n 1).0 first in let long : 1 ≤ length l = some l refl in absurd (omega (arith, one, long, last))

-- and later ones are not
some_before : (n : ℕ) (o : Option (List Receipt)) → (n == 1) ≡ false → n ≡ length (unwrap_or o []) + 1 → (l : List Receipt) × (o ≡ Some l)
some_before n None later last = absurd (true≢false (sym ((Decides-eqb n 1).1 last) ∙ later))
some_before n (Some l) later last = (l, refl)

-- The row of a caller.

first_row : (k q : List ℕ) (x : Receipt) (o there : Option (List Receipt)) (b : Bool) → bytes_eq q k ≡ b → (b ≡ true → o ≡ there) → there ≡ None
    → row_if (counted_row q) o ++ cond b (caller_row k 1 ∷ []) [] ≡ row_if (counted_row q) (cond b (Some (unwrap_or there [] ++ x ∷ [])) o)
first_row k q x o there true e at none =
    (λ i. row_if (counted_row q) ((at refl ∙ none) i) ++ caller_row (sym (equal_names q k e) i) 1 ∷ [])
    ∙ ap (λ (l : Option (List Receipt)). caller_row q (length (unwrap_or l [] ++ x ∷ [])) ∷ []) (sym none)
first_row k q x o there false e at none = append-nil _

-- the row of a caller, with so many settled, if its name passes
abbrev recounted : List ℕ → ℕ → List CallerRow → List CallerRow
recounted k n rows = change_where (is_caller k) (λ (row : CallerRow). record row { settled = n }) rows

recounted_row : (k q : List ℕ) (n : ℕ) (l : List Receipt) (b : Bool) → bytes_eq k q ≡ b → recounted k n (counted_row q l ∷ []) ≡ cond b (caller_row q n ∷ []) (counted_row q l ∷ [])
recounted_row k q n l true e = λ i. (if e i then caller_row q n else counted_row q l) ∷ []
recounted_row k q n l false e = λ i. (if e i then caller_row q n else counted_row q l) ∷ []

next_own : (q : List ℕ) (n : ℕ) (x : Receipt) (l : List Receipt) (o there : Option (List Receipt)) → o ≡ Some l → there ≡ Some l → n ≡ length (unwrap_or there []) + 1
    → recounted q n (row_if (counted_row q) o) ≡ counted_row q (unwrap_or there [] ++ x ∷ []) ∷ []
next_own q n x l o there at is last =
    ap (λ (o : Option (List Receipt)). recounted q n (row_if (counted_row q) o)) at
    ∙ recounted_row q q n l true (own_name q)
    ∙ ap (λ (m : ℕ). caller_row q m ∷ []) (last ∙ sym (one_more (unwrap_or there []) x))

next_other : (k q : List ℕ) (n : ℕ) (o : Option (List Receipt)) → bytes_eq q k ≡ false → recounted k n (row_if (counted_row q) o) ≡ row_if (counted_row q) o
next_other k q n None apart = refl
next_other k q n (Some l) apart = recounted_row k q n l false (other_name q k (bytes_eq k q) refl apart)

next_row : (k q : List ℕ) (n : ℕ) (x : Receipt) (o there : Option (List Receipt)) (l : List Receipt) (b : Bool) → bytes_eq q k ≡ b → (b ≡ true → o ≡ there) → there ≡ Some l → n ≡ length (unwrap_or there []) + 1
    → recounted k n (row_if (counted_row q) o) ≡ row_if (counted_row q) (cond b (Some (unwrap_or there [] ++ x ∷ [])) o)
next_row k q n x o there l true e at is last =
    ap (λ (k : List ℕ). recounted k n (row_if (counted_row q) o)) (sym (equal_names q k e))
    ∙ next_own q n x l o there (at refl ∙ is) is last
next_row k q n x o there l false e at is last = next_other k q n o e

caller_put : (t : Tables) (callers : CallerMap) (k q : List ℕ) (x : Receipt) (n : ℕ) (first : Bool) → (n == 1) ≡ first → HaveReceipts callers → n ≡ length (receipts_in callers k) + 1
    → filter (is_caller q) t.callers ≡ row_if (counted_row q) (get callers q)
    → filter (is_caller q) (if first then with_caller (caller_row k 1) t else with_settled k n t).callers ≡ row_if (counted_row q) (cond (bytes_eq q k) (Some (receipts_in callers k ++ x ∷ [])) (get callers q))
caller_put t callers k q x n true e have last are =
    filter-append (is_caller q) t.callers (caller_row k 1 ∷ [])
    ∙ ap (λ (rows : List CallerRow). rows ++ cond (bytes_eq q k) (caller_row k 1 ∷ []) []) are
    ∙ first_row k q x (get callers q) (get callers k) (bytes_eq q k) refl (same_value callers q k (bytes_eq q k) refl) (none_before n (get callers k) e last (λ l h. (have k l h).0))
caller_put t callers k q x n false e have last are =
    let some = some_before n (get callers k) e last in
    changed_under (is_caller q) (is_caller k) (λ (row : CallerRow). record row { settled = n }) (λ row. refl) t.callers
    ∙ ap (recounted k n) are
    ∙ next_row k q n x (get callers q) (get callers k) some.0 (bytes_eq q k) refl (same_value callers q k (bytes_eq q k) refl) some.1 last

-- Rows of kept requests.

kept_as : (q : List ℕ) (number : ℕ) (receipts : List Receipt) → kept_rows q number receipts ≡ rows_at (kept_row q) number receipts
kept_as q zero receipts = refl
kept_as q (suc place) receipts = refl

kept_pushed : (receipts : List Receipt) (x : Receipt) (q : List ℕ) (number n : ℕ) → n ≡ length receipts + 1
    → kept_rows q number receipts ++ cond (number == n) (kept_row q n x ∷ []) [] ≡ kept_rows q number (receipts ++ x ∷ [])
kept_pushed receipts x q number n last =
    ap (λ (rows : List KeptRow). rows ++ cond (number == n) (kept_row q n x ∷ []) []) (kept_as q number receipts)
    ∙ pushed (kept_row q) receipts x number n last
    ∙ sym (kept_as q number (receipts ++ x ∷ []))

kept_put : (callers : CallerMap) (k q : List ℕ) (x : Receipt) (n number : ℕ) (b : Bool) → bytes_eq q k ≡ b → n ≡ length (receipts_in callers k) + 1
    → kept_rows q number (receipts_in callers q) ++ cond (b && (number == n)) (kept_row k n x ∷ []) [] ≡ kept_rows q number (unwrap_or (cond b (Some (receipts_in callers k ++ x ∷ [])) (get callers q)) [])
kept_put callers k q x n number true e last =
    let same : q ≡ k = equal_names q k e in
    (λ i. kept_rows q number (receipts_in callers (same i)) ++ cond (number == n) (kept_row (sym same i) n x ∷ []) [])
    ∙ kept_pushed (receipts_in callers k) x q number n last
kept_put callers k q x n number false e last = append-nil _

-- Both.

-- the tables apart from those two
pub record HaveSameDesk (old new : Tables) : Type 0 where
  pub revisions : new.revisions ≡ old.revisions
  pub services : new.services ≡ old.services
  pub pasts : HaveSamePasts old new

pub record CallerSettles (t new : Tables) (callers : CallerMap) : Type 0 where
  pub rows : AreCallerRows new callers
  pub rest : HaveSameDesk t new

kept_same : (t : Tables) (k : List ℕ) (n : ℕ) (first : Bool) → (if first then with_caller (caller_row k 1) t else with_settled k n t).kept ≡ t.kept
kept_same t k n true = refl
kept_same t k n false = refl

rest_same : (t : Tables) (k : List ℕ) (n : ℕ) (row : KeptRow) (first : Bool) → HaveSameDesk t (with_kept row (if first then with_caller (caller_row k 1) t else with_settled k n t))
rest_same t k n row true = record { revisions = refl; services = refl; pasts = record { bindings = refl; runs = refl; tallies = refl; measurements = refl; history = refl } }
rest_same t k n row false = record { revisions = refl; services = refl; pasts = record { bindings = refl; runs = refl; tallies = refl; measurements = refl; history = refl } }

-- with one more receipt of a caller
pub caller_settles : (t : Tables) (callers : CallerMap) (k : List ℕ) (n : ℕ) (x : Receipt) → AreCallerRows t callers → HaveReceipts callers → n ≡ length (receipts_in callers k) + 1
    → CallerSettles t (with_kept (kept_row k n x) (caller_settled k n t)) (with_receipt callers k x)
caller_settles t callers k n x are have last = record {
  rows = record {
    callers = λ q.
        caller_put t callers k q x n (n == 1) refl have last (are.callers q)
        ∙ ap (row_if (counted_row q)) (sym (at_name callers k (receipts_in callers k ++ x ∷ []) q));
    kept = λ q number.
        ap (λ (rows : List KeptRow). filter (is_kept q number) (rows ++ kept_row k n x ∷ [])) (kept_same t k n (n == 1))
        ∙ filter-append (is_kept q number) t.kept (kept_row k n x ∷ [])
        ∙ ap (λ (rows : List KeptRow). rows ++ filter (is_kept q number) (kept_row k n x ∷ [])) (are.kept q number)
        ∙ kept_put callers k q x n number (bytes_eq q k) refl last
        ∙ ap (λ (o : Option (List Receipt)). kept_rows q number (unwrap_or o [])) (sym (at_name callers k (receipts_in callers k ++ x ∷ []) q));
  };
  rest = rest_same t k n (kept_row k n x) (n == 1);
}

-- What the statements ask.

-- a caller that has settled requests has its row
pub caller_asks : (t : Tables) (callers : CallerMap) (k : List ℕ) (n : ℕ) → AreCallerRows t callers → n ≡ length (receipts_in callers k) + 1 → (n == 1) ≡ false → HasCaller k t
caller_asks t callers k n are last later =
    let some = some_before n (get callers k) later last in (counted_row k some.0, are.callers k ∙ ap (row_if (counted_row k)) some.1)
