-- If callers are judged, their rows are those of contents.
use Rattle.std.proofs.Common.{◌≡◌, ◌⊎◌, inl, inr, ℕ, zero, suc, ◌+◌, ◌-◌, ◌≤◌, ◌<◌, List, [], ◌∷◌, length, Bool, true, false, Some, None, refl, sym, ap, ◌∙◌, subst, arith}
use Rattle.std.specs.Prelude.{Option, cond, filter, slice_get, unwrap_or}
use Rattle.std.specs.Ordering.{nat_cmp}
use Rattle.std.specs.Cmp.Lexicographic.{slice_cmp}
use Rattle.std.specs.Str.{bytes_eq}
use Rattle.std.specs.List.{AllByRecursion, sum_by}
use Rattle.std.specs.FinMap.{get, get-empty}
use Rattle.canary_once.specs.declared.book.Receipt.{Receipt}
use Rattle.canary_once.specs.Contents.{IsSettledStatus, receipts_of, receipt_at}
use Rattle.canary_tables_rows.specs.declared.rows.CallerRow.{CallerRow}
use Rattle.canary_tables_rows.specs.declared.rows.KeptRow.{KeptRow}
use Rattle.canary_tables_rows.specs.Tables.{Tables, is_caller, is_kept}
use Rattle.canary_tables_contents.specs.Values.{caller_row, kept_row}
use Rattle.canary_tables_contents.specs.Tables.{row_if, kept_rows, IsReadableCommand}
use Rattle.canary_tables_contents.specs.Reading.{receipts_to, callers_of, contents_of}
use Rattle.canary_tables_contents.specs.Judged.{IsCallerJudged, AreCallersJudged, HoldCallers}
use Rattle.canary_tables_contents.proofs.Strays.{AreApart, HaveAtLeast, no_strays, just_so_many}
use Rattle.canary_tables_contents.proofs.Numbers.{is_numbered, numbers_together, no_other_number}
use Rattle.canary_tables_contents.proofs.Named.{at_key, filter_twice, none_or_one, both, weaker, distinct, unnamed}
use Rattle.canary_tables_contents.proofs.JudgedCallers.{AreKept, so_many, StandsKept, stands, none_behind}

-- What is read under a name.

first_caller : List KeptRow → List CallerRow → Option (List Receipt)
first_caller kept [] = None
first_caller kept (row ∷ rows) = Some (receipts_to kept row.name row.settled)

caller_pulled : (kept : List KeptRow) (row : CallerRow) (rows : List CallerRow) (b : Bool) → cond b (Some (receipts_to kept row.name row.settled)) (first_caller kept rows) ≡ first_caller kept (cond b (row ∷ rows) rows)
unfolding first_caller
caller_pulled kept row rows true = refl
caller_pulled kept row rows false = refl

get-callers : (kept : List KeptRow) (rows : List CallerRow) (q : List ℕ) → get (callers_of kept rows) q ≡ first_caller kept (filter (is_caller q) rows)
unfolding first_caller
get-callers kept [] q = get-empty (slice_cmp nat_cmp) q
get-callers kept (row ∷ rows) q =
    let v : List Receipt = receipts_to kept row.name row.settled in
    at_key (callers_of kept rows) row.name v q
    ∙ ap (cond (bytes_eq q row.name) (Some v)) (get-callers kept rows q)
    ∙ caller_pulled kept row (filter (is_caller q) rows) (bytes_eq q row.name)

pub get_none : (t : Tables) (q : List ℕ) → filter (is_caller q) t.callers ≡ [] → get (contents_of t).callers q ≡ None
unfolding first_caller
get_none t q none = get-callers t.kept t.callers q ∙ ap (first_caller t.kept) none

get_one : (t : Tables) (row : CallerRow) → filter (is_caller row.name) t.callers ≡ row ∷ [] → get (contents_of t).callers row.name ≡ Some (receipts_to t.kept row.name row.settled)
unfolding first_caller
get_one t row one = get-callers t.kept t.callers row.name ∙ ap (first_caller t.kept) one

-- How many rows are kept of a caller.

abbrev pub of_caller : List ℕ → KeptRow → Bool
of_caller q row = bytes_eq q row.caller

abbrev pub kept_number : KeptRow → ℕ
kept_number row = row.number

pub numbered_of : (t : Tables) (q : List ℕ) (number : ℕ) → filter (is_numbered kept_number number) (filter (of_caller q) t.kept) ≡ filter (is_kept q number) t.kept
numbered_of t q number = filter_twice (is_numbered kept_number number) (of_caller q) t.kept

one_each : (t : Tables) (q : List ℕ) (n : ℕ) → AreKept t q n → (k : ℕ) → 1 ≤ k → k < 1 + n → 1 ≤ length (filter (is_numbered kept_number k) (filter (of_caller q) t.kept))
one_each t q n kept k a b =
    let one : length (filter (is_numbered kept_number k) (filter (of_caller q) t.kept)) ≡ 1 = ap length (numbered_of t q k ∙ (kept k a (omega arith)).one) in
    omega arith

pub at_least_kept : (t : Tables) (q : List ℕ) (n : ℕ) → AreKept t q n → n ≤ length (filter (of_caller q) t.kept)
at_least_kept t q n kept = numbers_together kept_number (filter (of_caller q) t.kept) 1 n (one_each t q n kept)

abbrev pub caller_name : CallerRow → List ℕ
caller_name row = row.name

abbrev pub kept_caller : KeptRow → List ℕ
kept_caller row = row.caller

abbrev pub settled_in : CallerRow → ℕ
settled_in row = row.settled

abbrev pub names_caller : CallerRow → KeptRow → Bool
names_caller row kept = bytes_eq row.name kept.caller

pub callers_apart : (t : Tables) → AllByRecursion (IsCallerJudged t) t.callers → AreApart names_caller t.callers
callers_apart t each =
    distinct caller_name kept_caller t.callers (weaker (IsCallerJudged t) (λ row. length (filter (is_caller row.name) t.callers) ≤ 1) (λ row h. (let one : length (filter (is_caller row.name) t.callers) ≡ 1 = ap length h.one in omega arith)) t.callers each)

pub callers_have : (t : Tables) → AllByRecursion (IsCallerJudged t) t.callers → HaveAtLeast names_caller settled_in t.kept t.callers
callers_have t each = weaker (IsCallerJudged t) (λ row. settled_in row ≤ length (filter (names_caller row) t.kept)) (λ row h. at_least_kept t row.name row.settled h.kept) t.callers each

no_more : (t : Tables) → AreCallersJudged t → length t.kept ≤ sum_by settled_in t.callers
no_more t judged = let all : sum_by settled_in t.callers ≡ length t.kept = judged.all in omega arith

just_kept : (t : Tables) → AreCallersJudged t → AllByRecursion (λ row. length (filter (names_caller row) t.kept) ≡ settled_in row) t.callers
just_kept t judged = just_so_many names_caller settled_in t.callers t.kept (callers_apart t judged.each) (callers_have t judged.each) (no_more t judged)

none_kept : (t : Tables) → AreCallersJudged t → (q : List ℕ) → filter (is_caller q) t.callers ≡ [] → filter (of_caller q) t.kept ≡ []
none_kept t judged q none = no_strays names_caller settled_in t.callers t.kept (callers_apart t judged.each) (callers_have t judged.each) (no_more t judged) (of_caller q) (unnamed caller_name kept_caller t.callers q none)

-- Under a name.

record AtCaller (t : Tables) (q : List ℕ) : Type 0 where
  callers : filter (is_caller q) t.callers ≡ row_if (λ receipts. caller_row q (length receipts)) (get (contents_of t).callers q)
  kept : (number : ℕ) → filter (is_kept q number) t.kept ≡ kept_rows q number (receipts_of (contents_of t) q)
  good : (number : ℕ) (receipt : Receipt) → receipt_at (contents_of t) q number ≡ Some receipt → IsReadableCommand receipt.command × IsSettledStatus receipt.reply.status
  numbers : (receipts : List Receipt) → get (contents_of t).callers q ≡ Some receipts → (1 ≤ length receipts) × (length receipts ≤ 1000000000)

no_rows : (q : List ℕ) (number : ℕ) → kept_rows q number [] ≡ []
no_rows q zero = refl
no_rows q (suc place) = refl

none_at : (t : Tables) (q : List ℕ) → filter (is_caller q) t.callers ≡ [] → filter (of_caller q) t.kept ≡ [] → AtCaller t q
none_at t q none stray =
    let gone : get (contents_of t).callers q ≡ None = get_none t q none in
    let nothing : receipts_of (contents_of t) q ≡ [] = ap (λ (o : Option (List Receipt)). unwrap_or o []) gone in
    record {
      callers = none ∙ ap (row_if (λ receipts. caller_row q (length receipts))) (sym gone);
      kept = λ number. sym (numbered_of t q number) ∙ ap (filter (is_numbered kept_number number)) stray ∙ sym (no_rows q number) ∙ ap (kept_rows q number) (sym nothing);
      good = λ number receipt e. (let no_receipt : slice_get (receipts_of (contents_of t) q) (number - 1) ≡ None = ap (λ (rs : List Receipt). slice_get rs (number - 1)) nothing in absurd (cc));
      numbers = λ receipts e. absurd (cc);
    }

pub below_or : (a b : ℕ) → (a < b) ⊎ (b ≤ a)
below_or zero zero = inr (omega arith)
below_or zero (suc b) = inl (omega arith)
below_or (suc a) zero = inr (omega arith)
below_or (suc a) (suc b) = elim (below_or a b) [ inl below ↦ inl (omega arith) | inr above ↦ inr (omega arith) ]

kept_under : (t : Tables) (row : CallerRow) → AreKept t row.name row.settled → length (filter (of_caller row.name) t.kept) ≡ row.settled → (number : ℕ)
    → filter (is_kept row.name number) t.kept ≡ kept_rows row.name number (receipts_to t.kept row.name row.settled)
kept_under t row kept just zero =
    sym (numbered_of t row.name 0) ∙ no_other_number kept_number (filter (of_caller row.name) t.kept) 1 row.settled (one_each t row.name row.settled kept) (omega arith) 0 (inl (omega arith))
kept_under t row kept just (suc place) =
    elim (below_or place row.settled) as (λ x. filter (is_kept row.name (suc place)) t.kept ≡ row_if (kept_row row.name (suc place)) (slice_get (receipts_to t.kept row.name row.settled) place)) [
      | inl below ↦
          let s : StandsKept t row.name row.settled place = stands t row.name row.settled place kept below in
          s.kept.rows ∙ ap (row_if (kept_row row.name (suc place))) (sym s.there)
      | inr above ↦
          let many : length (receipts_to t.kept row.name row.settled) ≡ row.settled = so_many t row.name row.settled kept in
          sym (numbered_of t row.name (suc place))
          ∙ no_other_number kept_number (filter (of_caller row.name) t.kept) 1 row.settled (one_each t row.name row.settled kept) (omega arith) (suc place) (inr (omega arith))
          ∙ ap (row_if (kept_row row.name (suc place))) (sym (none_behind (receipts_to t.kept row.name row.settled) place (omega arith)))
    ]

good_at : (t : Tables) (row : CallerRow) → AreKept t row.name row.settled → (place : ℕ) (receipt : Receipt) → slice_get (receipts_to t.kept row.name row.settled) place ≡ Some receipt
    → IsReadableCommand receipt.command × IsSettledStatus receipt.reply.status
good_at t row kept place receipt e =
    elim (below_or place row.settled) as (λ x. IsReadableCommand receipt.command × IsSettledStatus receipt.reply.status) [
      | inl below ↦
          let s : StandsKept t row.name row.settled place = stands t row.name row.settled place kept below in
          let there : slice_get (receipts_to t.kept row.name row.settled) place ≡ Some s.receipt = s.there in
          let same : s.receipt ≡ receipt = cc in
          subst (λ (r : Receipt). IsReadableCommand r.command × IsSettledStatus r.reply.status) same (s.kept.readable, s.kept.settled)
      | inr above ↦
          let many : length (receipts_to t.kept row.name row.settled) ≡ row.settled = so_many t row.name row.settled kept in
          let behind : slice_get (receipts_to t.kept row.name row.settled) place ≡ None = none_behind (receipts_to t.kept row.name row.settled) place (omega arith) in
          absurd (cc)
    ]

one_at : (t : Tables) (row : CallerRow) → IsCallerJudged t row → length (filter (of_caller row.name) t.kept) ≡ row.settled → AtCaller t row.name
one_at t row judged just =
    let rs : List Receipt = receipts_to t.kept row.name row.settled in
    let there : get (contents_of t).callers row.name ≡ Some rs = get_one t row judged.one in
    let are : receipts_of (contents_of t) row.name ≡ rs = ap (λ (o : Option (List Receipt)). unwrap_or o []) there in
    let many : length rs ≡ row.settled = so_many t row.name row.settled judged.kept in
    record {
      callers = judged.one ∙ ap (λ n. caller_row row.name n ∷ []) (sym many) ∙ ap (row_if (λ receipts. caller_row row.name (length receipts))) (sym there);
      kept = λ number. kept_under t row judged.kept just number ∙ ap (kept_rows row.name number) (sym are);
      good = λ number receipt e. good_at t row judged.kept (number - 1) receipt (ap (λ (l : List Receipt). slice_get l (number - 1)) (sym are) ∙ e);
      numbers = λ receipts e.
          let same : rs ≡ receipts = cc in
          subst (λ (l : List Receipt). (1 ≤ length l) × (length l ≤ 1000000000)) same (subst (λ n. (1 ≤ n) × (n ≤ 1000000000)) (sym many) (judged.some, judged.within));
    }

at_caller : (t : Tables) → AreCallersJudged t → (q : List ℕ) → AtCaller t q
at_caller t judged q =
    elim (none_or_one caller_name (λ row. IsCallerJudged t row × (length (filter (names_caller row) t.kept) ≡ settled_in row)) t.callers (λ row h. h.0.one)
    (both (IsCallerJudged t) (λ row. length (filter (names_caller row) t.kept) ≡ settled_in row) t.callers judged.each (just_kept t judged)) q) as (λ x. AtCaller t q) [
      | inl none ↦ none_at t q none (none_kept t judged q none)
      | inr one ↦ subst (AtCaller t) one.named (one_at t one.row one.has.0 one.has.1)
    ]

pub hold_callers : (t : Tables) → AreCallersJudged t → HoldCallers t
hold_callers t judged = record {
  callers = λ q. (at_caller t judged q).callers;
  kept = λ q. (at_caller t judged q).kept;
  readable = λ q number receipt e. ((at_caller t judged q).good number receipt e).0;
  numbers = λ q. (at_caller t judged q).numbers;
  statuses = λ q number receipt e. ((at_caller t judged q).good number receipt e).1;
}
