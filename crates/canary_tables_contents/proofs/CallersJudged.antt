-- Callers and receipts of contents pass each test by key.
use Rattle.std.proofs.Common.{◌≡◌, ◌⊎◌, inl, inr, ℕ, zero, suc, ◌+◌, ◌-◌, ◌≤◌, ◌<◌, List, [], ◌∷◌, length, Bool, true, false, Some, None, refl, sym, ap, ◌∙◌, subst, arith}
use Rattle.std.specs.Prelude.{Option, ◌&&◌, cond, filter, slice_get, unwrap_or}
use Rattle.std.specs.Str.{bytes_eq}
use Rattle.std.specs.List.{AllByRecursion, sum_by}
use Rattle.std.specs.FinMap.{get}
use Rattle.std.proofs.lemmas.Bool.Decides.{Decides-eqb}
use Rattle.canary_release.specs.declared.reply.ReplyStatus.{ReplyStatus}
use Rattle.canary_release.specs.Replies.{status_code}
use Rattle.canary_once.specs.declared.book.Receipt.{Receipt}
use Rattle.canary_once.specs.Contents.{IsSettledStatus, receipts_of, receipt_at}
use Rattle.canary_tables_rows.specs.declared.rows.CallerRow.{CallerRow}
use Rattle.canary_tables_rows.specs.declared.rows.KeptRow.{KeptRow}
use Rattle.canary_tables_rows.specs.Tables.{Tables, is_caller, is_kept}
use Rattle.canary_tables_contents.specs.Numbers.{status_of}
use Rattle.canary_tables_contents.specs.Values.{caller_row, kept_row, receipt_from, receipt_of_row}
use Rattle.canary_tables_contents.specs.Tables.{row_if, kept_rows, IsReadableCommand}
use Rattle.canary_tables_contents.specs.Reading.{contents_of}
use Rattle.canary_tables_contents.specs.Judged.{IsOneRead, IsCallerJudged, AreCallersJudged, HoldCallers, CallersAreJudged}
use Rattle.canary_tables_contents.proofs.Strays.{HasKey, together, at_most}
use Rattle.canary_tables_contents.proofs.Numbers.{is_numbered, numbers_at_most}
use Rattle.canary_tables_contents.proofs.Named.{own_key, equal_keys, IsIn, each_in, in_filter, OwnRow, own_row, own_alone, passing}
use Rattle.canary_tables_contents.proofs.CallersHold.{get_none, of_caller, kept_number, numbered_of, settled_in, names_caller, callers_apart, callers_have, hold_callers}

status_back : (s : ReplyStatus) → IsSettledStatus s → status_of (status_code s) ≡ Some s
status_back s (inl e) = subst (λ (x : ReplyStatus). status_of (status_code x) ≡ Some x) (sym e) refl
status_back s (inr e) = subst (λ (x : ReplyStatus). status_of (status_code x) ≡ Some x) (sym e) refl

receipt_back : (caller : List ℕ) (number : ℕ) (r : Receipt) → IsReadableCommand r.command → IsSettledStatus r.reply.status → receipt_of_row (kept_row caller number r) ≡ Some r
receipt_back caller number r command status = λ i. receipt_from (kept_row caller number r) (command i) (status_back r.reply.status status i)

pub record HasPlace {A : Type 0} (xs : List A) (place : ℕ) : Type 0 where
  pub value : A
  pub there : slice_get xs place ≡ Some value

pub has_place : {A : Type 0} (xs : List A) (place : ℕ) → place < length xs → HasPlace xs place
has_place [] place below = absurd (omega arith)
has_place (x ∷ xs) zero below = record { value = x; there = refl }
has_place (x ∷ xs) (suc place) below = let h : HasPlace xs place = has_place xs place (omega arith) in record { value = h.value; there = h.there }

-- A caller's row.

abbrev row_of : List ℕ → List Receipt → CallerRow
row_of q receipts = caller_row q (length receipts)

owns : (t : Tables) → HoldCallers t → (row : CallerRow) → IsIn row t.callers → OwnRow (row_of row.name) (get (contents_of t).callers row.name) row
owns t hold row at = own_row (is_caller row.name) (row_of row.name) (get (contents_of t).callers row.name) row t.callers at (own_key row.name) (hold.callers row.name)

kept_one : (t : Tables) → HoldCallers t → (q : List ℕ) (rs : List Receipt) → receipts_of (contents_of t) q ≡ rs → (number : ℕ) → 1 ≤ number → number ≤ length rs → IsOneRead (is_kept q number) receipt_of_row t.kept
kept_one t hold q rs are zero some within = absurd (omega arith)
kept_one t hold q rs are (suc place) some within =
    let h : HasPlace rs place = has_place rs place (omega arith) in
    let at : receipt_at (contents_of t) q (suc place) ≡ Some h.value = ap (slice_get (receipts_of (contents_of t) q)) (let e : suc place - 1 ≡ place = omega arith in e) ∙ ap (λ (l : List Receipt). slice_get l place) are ∙ h.there in
    record {
      row = kept_row q (suc place) h.value;
      one = hold.kept q (suc place) ∙ ap (λ (l : List Receipt). row_if (kept_row q (suc place)) (slice_get l place)) are ∙ ap (row_if (kept_row q (suc place))) h.there;
      read = h.value;
      is = receipt_back q (suc place) h.value (hold.readable q (suc place) h.value at) (hold.statuses q (suc place) h.value at);
    }

judge : (t : Tables) → HoldCallers t → (row : CallerRow) → IsIn row t.callers → IsCallerJudged t row
judge t hold row at =
    let own : OwnRow (row_of row.name) (get (contents_of t).callers row.name) row = owns t hold row at in
    let settled : length own.value ≡ row.settled = ap (λ (r : CallerRow). r.settled) own.is in
    let are : receipts_of (contents_of t) row.name ≡ own.value = ap (λ (o : Option (List Receipt)). unwrap_or o []) own.there in
    let limits : (1 ≤ length own.value) × (length own.value ≤ 1000000000) = hold.numbers row.name own.value own.there in
    record {
      one = own_alone (is_caller row.name) (row_of row.name) (get (contents_of t).callers row.name) row t.callers (hold.callers row.name) own;
      some = subst (λ n. 1 ≤ n) settled limits.0;
      within = subst (λ n. n ≤ 1000000000) settled limits.1;
      kept = λ number a b. kept_one t hold row.name own.value are number a (omega arith);
    }

-- Each kept row is of a caller, and of a number of it.

passes_own : (row : KeptRow) → is_kept row.caller row.number row ≡ true
passes_own row = λ i. own_key row.caller i && (Decides-eqb row.number row.number).1 refl i

there_is : (t : Tables) → HoldCallers t → (row : KeptRow) → IsIn row t.kept → IsIn row (kept_rows row.caller row.number (receipts_of (contents_of t) row.caller))
there_is t hold row at = subst (IsIn row) (hold.kept row.caller row.number) (in_filter (is_kept row.caller row.number) row t.kept at (passes_own row))

pub below_length : {A : Type 0} (xs : List A) (place : ℕ) (x : A) → slice_get xs place ≡ Some x → place < length xs
below_length [] place x e = absurd (cc)
below_length (y ∷ xs) zero x e = omega arith
below_length (y ∷ xs) (suc place) x e = let behind : place < length xs = below_length xs place x e in omega arith

some_of : {A R : Type 0} (f : A → R) (row : R) (xs : List A) (place : ℕ) (o : Option A) → slice_get xs place ≡ o → IsIn row (row_if f o) → place < length xs
some_of f row xs place None e at = absurd at
some_of f row xs place (Some x) e at = below_length xs place x e

in_place : (q : List ℕ) (number : ℕ) (rs : List Receipt) (row : KeptRow) → IsIn row (kept_rows q number rs) → (1 ≤ number) × (number < 1 + length rs)
in_place q zero rs row at = absurd at
in_place q (suc place) rs row at = let below : place < length rs = some_of (kept_row q (suc place)) row rs place (slice_get rs place) refl at in (omega arith, omega arith)

-- the number of a kept row of a caller
within : (t : Tables) → HoldCallers t → (q : List ℕ) (rs : List Receipt) → receipts_of (contents_of t) q ≡ rs → (row : KeptRow) → IsIn row t.kept → q ≡ row.caller → (1 ≤ row.number) × (row.number < 1 + length rs)
within t hold q rs are row at own =
    let there : IsIn row (kept_rows q row.number rs) = subst (λ (l : List Receipt). IsIn row (kept_rows q row.number l)) are (subst (λ (n : List ℕ). IsIn row (kept_rows n row.number (receipts_of (contents_of t) n))) (sym own) (there_is t hold row at)) in
    in_place q row.number rs row there

once : (q : List ℕ) (number : ℕ) (rs : List Receipt) → length (kept_rows q number rs) ≤ 1
once q zero rs = omega arith
once q (suc place) rs = elim (slice_get rs place) as (λ o. length (row_if (kept_row q (suc place)) o) ≤ 1) [ None ↦ omega arith | Some r ↦ omega arith ]

by_test : {X : Type 0} (p : X → Bool) (P Q : X → Type 0) → ((x : X) → p x ≡ true → P x → Q x) → (xs : List X) → AllByRecursion (λ x. (p x ≡ true) × P x) xs → AllByRecursion Q xs
by_test p P Q so [] all = tt
by_test p P Q so (x ∷ xs) all = (so x all.0.0 all.0.1, by_test p P Q so xs all.1)

few_kept : (t : Tables) → HoldCallers t → (row : CallerRow) → IsIn row t.callers → length (filter (names_caller row) t.kept) ≤ settled_in row
few_kept t hold row at =
    let own : OwnRow (row_of row.name) (get (contents_of t).callers row.name) row = owns t hold row at in
    let settled : length own.value ≡ row.settled = ap (λ (r : CallerRow). r.settled) own.is in
    let are : receipts_of (contents_of t) row.name ≡ own.value = ap (λ (o : Option (List Receipt)). unwrap_or o []) own.there in
    let P : KeptRow → Type 0 = λ k. (row.name ≡ k.caller) → (1 ≤ k.number) × (k.number < 1 + length own.value) in
    let all : AllByRecursion P t.kept = each_in P t.kept (λ k i e. within t hold row.name own.value are k i e) in
    let numbers : AllByRecursion (λ k. (1 ≤ kept_number k) × (kept_number k < 1 + length own.value)) (filter (of_caller row.name) t.kept) =
    by_test (of_caller row.name) P (λ k. (1 ≤ kept_number k) × (kept_number k < 1 + length own.value)) (λ k passes h. h (equal_keys row.name k.caller passes)) (filter (of_caller row.name) t.kept) (passing (of_caller row.name) P t.kept all) in
    let few : length (filter (of_caller row.name) t.kept) ≤ length own.value = numbers_at_most kept_number (filter (of_caller row.name) t.kept) 1 (length own.value) numbers (λ k.
    let same : length (filter (is_numbered kept_number k) (filter (of_caller row.name) t.kept)) ≡ length (kept_rows row.name k (receipts_of (contents_of t) row.name)) = ap length (numbered_of t row.name k ∙ hold.kept row.name k) in
    let one : length (kept_rows row.name k (receipts_of (contents_of t) row.name)) ≤ 1 = once row.name k (receipts_of (contents_of t) row.name) in
    omega arith) in
    omega arith

has_named : (rows : List CallerRow) (row : KeptRow) → (filter (is_caller row.caller) rows ≡ [] → ⊥) → HasKey names_caller rows row
has_named [] row some = some refl
has_named (r ∷ rows) row some =
    elim (bytes_eq row.caller r.name)
    as (λ b. bytes_eq row.caller r.name ≡ b → (cond b (r ∷ filter (is_caller row.caller) rows) (filter (is_caller row.caller) rows) ≡ [] → ⊥) → (bytes_eq r.name row.caller ≡ true) ⊎ HasKey names_caller rows row) [
      | true ↦ λ e some. inl (ap (bytes_eq r.name) (equal_keys row.caller r.name e) ∙ own_key r.name)
      | false ↦ λ e some. inr (has_named rows row some)
    ] refl some

no_rows : (q : List ℕ) (number : ℕ) → kept_rows q number [] ≡ []
no_rows q zero = refl
no_rows q (suc place) = refl

of_some_caller : (t : Tables) → HoldCallers t → (row : KeptRow) → IsIn row t.kept → HasKey names_caller t.callers row
of_some_caller t hold row at =
    has_named t.callers row (λ none.
    let nothing : receipts_of (contents_of t) row.caller ≡ [] = ap (λ (o : Option (List Receipt)). unwrap_or o []) (get_none t row.caller none) in
    subst (IsIn row) (ap (kept_rows row.caller row.number) nothing ∙ no_rows row.caller row.number) (there_is t hold row at))

equal_by : (a b : ℕ) → a ≤ b → b ≤ a → a ≡ b
equal_by a b x y = omega arith

judge_callers : (t : Tables) → HoldCallers t → AreCallersJudged t
judge_callers t hold =
    let each : AllByRecursion (IsCallerJudged t) t.callers = each_in (IsCallerJudged t) t.callers (judge t hold) in
    let low : sum_by settled_in t.callers ≤ length t.kept = together names_caller settled_in t.callers t.kept (callers_apart t each) (callers_have t each) in
    let high : length t.kept ≤ sum_by settled_in t.callers =
    at_most names_caller settled_in t.callers t.kept (each_in (HasKey names_caller t.callers) t.kept (of_some_caller t hold)) (each_in (λ row. length (filter (names_caller row) t.kept) ≤ settled_in row) t.callers (few_kept t hold)) in
    record { each = each; all = equal_by (sum_by settled_in t.callers) (length t.kept) low high }

pub callers_are_judged : CallersAreJudged
callers_are_judged t = (hold_callers t, judge_callers t)
