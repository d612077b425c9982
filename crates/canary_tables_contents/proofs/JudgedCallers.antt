-- Callers and receipts that are judged key by key are those of contents.
use Rattle.std.proofs.Common.{◌≡◌, inl, inr, ℕ, zero, suc, ◌+◌, ◌≤◌, ◌<◌, List, [], ◌∷◌, ◌++◌, length, Bool, true, false, Some, None, refl, sym, ap, ◌∙◌, subst, arith}
use Rattle.std.specs.Prelude.{Option, ◌==◌, ◌&&◌, cond, filter, slice_get}
use Rattle.std.specs.Str.{bytes_eq}
use Rattle.std.specs.List.{AllByRecursion, filter_map, cons_option}
use Rattle.std.proofs.lemmas.List.{length-append}
use Rattle.std.proofs.lemmas.Bool.Decides.{Decides-eqb}
use Rattle.canary_plan.specs.declared.command.Command.{Command}
use Rattle.canary_canonical.specs.Readings.{canonical_in}
use Rattle.canary_release.specs.declared.reply.ReplyStatus.{ReplyStatus}
use Rattle.canary_release.specs.declared.reply.ReplyStatus.TheVariants.{Accepted, Refused}
use Rattle.canary_release.specs.Replies.{status_code}
use Rattle.canary_once.specs.declared.book.Receipt.{Receipt}
use Rattle.canary_once.specs.Contents.{IsSettledStatus}
use Rattle.canary_tables_rows.specs.declared.rows.KeptRow.{KeptRow}
use Rattle.canary_tables_rows.specs.Tables.{Tables, is_kept}
use Rattle.canary_tables_contents.specs.Numbers.{status_of}
use Rattle.canary_tables_contents.specs.Values.{kept_row, receipt_from, receipt_of_row}
use Rattle.canary_tables_contents.specs.Tables.{IsReadableCommand}
use Rattle.canary_tables_contents.specs.Reading.{receipts_to}
use Rattle.canary_tables_contents.specs.Judged.{IsOneRead}
use Rattle.canary_tables_contents.proofs.Named.{equal_keys}
use Rattle.canary_tables_contents.proofs.CommandTexts.{canonical_text, still_canonical}

-- A kept row.

record IsOfReceipt (row : KeptRow) (c : Option Command) (s : Option ReplyStatus) (r : Receipt) : Type 0 where
  command : c ≡ Some r.command
  status : s ≡ Some r.reply.status
  body : r.reply.body ≡ row.body

of_receipt : (row : KeptRow) (c : Option Command) (s : Option ReplyStatus) (r : Receipt) → receipt_from row c s ≡ Some r → IsOfReceipt row c s r
of_receipt row None s r e = absurd (cc)
of_receipt row (Some command) None r e = absurd (cc)
of_receipt row (Some command) (Some status) r e =
    let made : Receipt = record { command = command; reply = record { status = status; body = row.body } } in
    let same : made ≡ r = cc e in
    subst (IsOfReceipt row (Some command) (Some status)) same (record { command = refl; status = refl; body = refl })

record IsOfStatus (n : ℕ) (s : ReplyStatus) : Type 0 where
  code : status_code s ≡ n
  settled : IsSettledStatus s

accepted_one : (n : ℕ) (s : ReplyStatus) → n ≡ 200 → Some Accepted ≡ Some s → IsOfStatus n s
accepted_one n s is e = let same : Accepted ≡ s = cc e in subst (IsOfStatus n) same (record { code = sym is; settled = inl refl })

refused_one : (n : ℕ) (s : ReplyStatus) → n ≡ 422 → Some Refused ≡ Some s → IsOfStatus n s
refused_one n s is e = let same : Refused ≡ s = cc e in subst (IsOfStatus n) same (record { code = sym is; settled = inr refl })

of_status : (n : ℕ) (s : ReplyStatus) → status_of n ≡ Some s → IsOfStatus n s
of_status n s e =
    elim (n == 200)
    as (λ b. (n == 200) ≡ b → cond b (Some Accepted) (cond (n == 422) (Some Refused) None) ≡ Some s → IsOfStatus n s) [
      | true ↦ λ is e. accepted_one n s ((Decides-eqb n 200).0 is) e
      | false ↦ λ is e.
          elim (n == 422)
          as (λ b. (n == 422) ≡ b → cond b (Some Refused) None ≡ Some s → IsOfStatus n s) [
            | true ↦ λ is e. refused_one n s ((Decides-eqb n 422).0 is) e
            | false ↦ λ is e. absurd (cc)
          ] refl e
    ] refl e

-- a kept row under a key, read
pub record IsKeptAt (t : Tables) (q : List ℕ) (number : ℕ) (r : Receipt) : Type 0 where
  pub rows : filter (is_kept q number) t.kept ≡ kept_row q number r ∷ []
  pub values : filter_map receipt_of_row (filter (is_kept q number) t.kept) ≡ r ∷ []
  pub readable : IsReadableCommand r.command
  pub settled : IsSettledStatus r.reply.status

both_hold : (a b : Bool) → a && b ≡ true → (a ≡ true) × (b ≡ true)
both_hold true b e = (refl, e)
both_hold false b e = absurd (cc)

kept_first : {X : Type 0} (p : X → Bool) (xs : List X) → AllByRecursion (λ x. p x ≡ true) (filter p xs)
kept_first p [] = tt
kept_first p (x ∷ xs) =
    elim (p x)
    as (λ b. p x ≡ b → AllByRecursion (λ x. p x ≡ true) (cond b (x ∷ filter p xs) (filter p xs))) [
      | true ↦ λ e. (e, kept_first p xs)
      | false ↦ λ e. kept_first p xs
    ] refl

-- the first that passes passes
first_passes : {X : Type 0} (p : X → Bool) (xs : List X) (x : X) (rest : List X) → filter p xs ≡ x ∷ rest → p x ≡ true
first_passes p xs x rest is = (subst (AllByRecursion (λ y. p y ≡ true)) is (kept_first p xs)).0

-- the row of a key has this key
own_kept : (q : List ℕ) (number : ℕ) (row : KeptRow) → is_kept q number row ≡ true → (q ≡ row.caller) × (number ≡ row.number)
own_kept q number row is =
    let parts : (bytes_eq q row.caller ≡ true) × ((number == row.number) ≡ true) = both_hold (bytes_eq q row.caller) (number == row.number) is in
    (equal_keys q row.caller parts.0, (Decides-eqb number row.number).0 parts.1)

kept_at : (t : Tables) (q : List ℕ) (number : ℕ) (h : IsOneRead (is_kept q number) receipt_of_row t.kept) → IsKeptAt t q number h.read
kept_at t q number h =
    let of : IsOfReceipt h.row (canonical_in h.row.command) (status_of h.row.status) h.read = of_receipt h.row (canonical_in h.row.command) (status_of h.row.status) h.read h.is in
    let status : IsOfStatus h.row.status h.read.reply.status = of_status h.row.status h.read.reply.status of.status in
    let own : (q ≡ h.row.caller) × (number ≡ h.row.number) = own_kept q number h.row (first_passes (is_kept q number) t.kept h.row [] h.one) in
    let again : kept_row q number h.read ≡ h.row = λ i. record { caller = own.0 i; number = own.1 i; command = canonical_text h.row.command h.read.command of.command i; status = status.code i; body = of.body i } in
    record {
      rows = h.one ∙ ap (λ r. r ∷ []) (sym again);
      values = ap (filter_map receipt_of_row) h.one ∙ ap (λ o. cons_option o []) h.is;
      readable = still_canonical h.row.command h.read.command of.command;
      settled = status.settled;
    }

-- The receipts of a caller.

at_last : {A : Type 0} (xs : List A) (x : A) → slice_get (xs ++ x ∷ []) (length xs) ≡ Some x
at_last [] x = refl
at_last (y ∷ xs) x = at_last xs x

pub at_front : {A : Type 0} (xs : List A) (x : A) (i : ℕ) → i < length xs → slice_get (xs ++ x ∷ []) i ≡ slice_get xs i
at_front [] x i below = absurd (omega arith)
at_front (y ∷ xs) x zero below = refl
at_front (y ∷ xs) x (suc i) below = at_front xs x i (omega arith)

pub none_behind : {A : Type 0} (xs : List A) (i : ℕ) → length xs ≤ i → slice_get xs i ≡ None
none_behind [] i behind = refl
none_behind (x ∷ xs) zero behind = absurd (omega arith)
none_behind (x ∷ xs) (suc i) behind = none_behind xs i (omega arith)

-- each of the numbers 1 to n is kept and read
abbrev pub AreKept : Tables → List ℕ → ℕ → Type 0
AreKept t q n = (number : ℕ) → 1 ≤ number → number ≤ n → IsOneRead (is_kept q number) receipt_of_row t.kept

pub so_many : (t : Tables) (q : List ℕ) (n : ℕ) → AreKept t q n → length (receipts_to t.kept q n) ≡ n
so_many t q zero kept = refl
so_many t q (suc n) kept =
    let last : IsOneRead (is_kept q (suc n)) receipt_of_row t.kept = kept (suc n) (omega arith) (omega arith) in
    let one : filter_map receipt_of_row (filter (is_kept q (suc n)) t.kept) ≡ last.read ∷ [] = (kept_at t q (suc n) last).values in
    let before : length (receipts_to t.kept q n) ≡ n = so_many t q n (λ number a b. kept number a (omega arith)) in
    let all : length (receipts_to t.kept q (suc n)) ≡ length (receipts_to t.kept q n ++ last.read ∷ []) = ap (λ (rs : List Receipt). length (receipts_to t.kept q n ++ rs)) one in
    let grown : length (receipts_to t.kept q n ++ last.read ∷ []) ≡ length (receipts_to t.kept q n) + 1 = length-append (receipts_to t.kept q n) (last.read ∷ []) in
    omega arith

-- what is kept under a number stands in its place
pub record StandsKept (t : Tables) (q : List ℕ) (n place : ℕ) : Type 0 where
  pub receipt : Receipt
  pub there : slice_get (receipts_to t.kept q n) place ≡ Some receipt
  pub kept : IsKeptAt t q (suc place) receipt

pub stands : (t : Tables) (q : List ℕ) (n place : ℕ) → AreKept t q n → place < n → StandsKept t q n place
stands t q zero place kept below = absurd (omega arith)
stands t q (suc n) place kept below =
    let front : AreKept t q n = λ number a b. kept number a (omega arith) in
    let last : IsOneRead (is_kept q (suc n)) receipt_of_row t.kept = kept (suc n) (omega arith) (omega arith) in
    let one : filter_map receipt_of_row (filter (is_kept q (suc n)) t.kept) ≡ last.read ∷ [] = (kept_at t q (suc n) last).values in
    let rs : List Receipt = receipts_to t.kept q n in
    let many : length rs ≡ n = so_many t q n front in
    let is : slice_get (receipts_to t.kept q (suc n)) place ≡ slice_get (rs ++ last.read ∷ []) place = ap (λ (more : List Receipt). slice_get (rs ++ more) place) one in
    elim (place == n)
    as (λ b. (place == n) ≡ b → StandsKept t q (suc n) place) [
      | true ↦ λ e.
          let same : place ≡ n = (Decides-eqb place n).0 e in
          record {
            receipt = last.read;
            there = is ∙ ap (slice_get (rs ++ last.read ∷ [])) (same ∙ sym many) ∙ at_last rs last.read;
            kept = subst (λ m. IsKeptAt t q (suc m) last.read) (sym same) (kept_at t q (suc n) last);
          }
      | false ↦ λ e.
          let other : place ≡ n → ⊥ = λ same. (let yes : (place == n) ≡ true = (Decides-eqb place n).1 same in let wrong : true ≡ false = sym yes ∙ e in cc) in
          let before : StandsKept t q n place = stands t q n place front (let b : place < n = omega arith in b) in
          record { receipt = before.receipt; there = is ∙ at_front rs last.read place (omega arith) ∙ before.there; kept = before.kept }
    ] refl
