-- Rows that have their lines for good, and rows that are answered once more.
use Rattle.std.proofs.Common.{◌≡◌, ◌∙◌, ℕ, zero, suc, ◌+◌, ◌-◌, ◌<◌, ◌≤◌, Bool, true, false, cond, List, [], ◌∷◌, ◌++◌, length, Some, None, refl, sym, ap, subst, arith}
use Rattle.std.specs.Prelude.{◌==◌, ◌&&◌, nat_le, nat_lt, not, if◌then◌else◌, Option, unwrap_or, option_and_then, slice_get, Result, Ok, Err}
use Rattle.std.specs.List.{AllByRecursion}
use Rattle.std.specs.Ordering.{nat_cmp}
use Rattle.std.specs.Cmp.Lexicographic.{slice_cmp, nat_list_cmp_total}
use Rattle.std.specs.FinMap.{FinMap, get, get-insert}
use Rattle.std.specs.Str.{bytes_eq}
use Rattle.std.proofs.lemmas.Bool.Decides.{nat_tests}
use Rattle.std.proofs.lemmas.Map.Text.{is_eq-slice_cmp}
use Rattle.std.proofs.lemmas.Option.{none-some, same_Some, slice_get_within}
use Rattle.std.proofs.lemmas.Slice.Eq.{bytes_eq-Decides}
use Rattle.csv.specs.Machine.{Read, next_record}
use Rattle.csv.specs.declared.parser.Config.{Config}
use Rattle.csv.specs.declared.parser.State.{State}
use Rattle.csv.specs.Reading.{Reached, AreRecords}
use Rattle.canary_base.specs.Names.{is_name}
use Rattle.canary_plan.specs.Commands.{SameWhereEqual}
use Rattle.canary_plan.specs.declared.command.Command.TheVariants.{Report}
use Rattle.canary_plan.specs.declared.report.Report.{Report as ReportRecord}
use Rattle.canary_release.specs.declared.reply.Reply.{Reply}
use Rattle.canary_once.specs.declared.book.Receipt.{Receipt}
use Rattle.canary_once.specs.declared.event.Request.{Request}
use Rattle.canary_once.specs.declared.event.Event.TheVariants as event
use Rattle.canary_once.specs.declared.event.Answer.TheVariants.{Replied, Unavailable}
use Rattle.canary_once.specs.Contents.{Contents, count_of, receipts_of, receipt_at, with_receipt, KeepsReceipts}
use Rattle.canary_once.specs.Answers.{receipt_of, repeat_reply, reused_reply, ahead_reply}
use Rattle.canary_once.specs.Single.{request_of, new_reply, settle, reply_to, after_one}
use Rattle.canary_once.specs.Laws.{RunsOn, OneRequest}
use Rattle.canary_files.specs.declared.row.RowRefusal.{RowRefusal}
use Rattle.canary_files.specs.declared.row.RowRefusal.TheVariants.{Unreadable, BadName}
use Rattle.canary_files.specs.declared.row.Row.{Row}
use Rattle.canary_files.specs.declared.answer.RowReply.{RowReply}
use Rattle.canary_files.specs.declared.answer.RowReply.TheVariants.{Answered}
use Rattle.canary_files.specs.Lines.{line_of, told_status, told_body}
use Rattle.canary_files.specs.Rows.{if_number, number_in, word_in, row_with, row_of, report_of, field}
use Rattle.canary_once.specs.Messages.{rejected, no_memory, answered, DeskState, IsHandled, AreHandled}
use Rattle.canary_once.proofs.MessageLemmas.{handled_in}
use Rattle.canary_files.specs.RowExchanges.{RowDisposition, told_of, IsDisposition, RowExchange, IsExchange, rows_of, lines_from}
use Rattle.canary_files.specs.Taking.{Fields}
use Rattle.canary_files.specs.Importing.{AreDataRows}
use Rattle.canary_files.specs.Again.{IsAhead, IsLasting, IsHeard, AllLasting, AllHeard, told_by, told_in, IsSettledBy, IsSettledRow, AreTold, TellsAfterwards, TellsSettled, SameLines, ImportsAgain}

-- ---- lists

last_of : {X : Type 0} (xs : List X) (x : X) → slice_get (xs ++ x ∷ []) (length xs) ≡ Some x
last_of [] x = refl
last_of (y ∷ xs) x = last_of xs x

there : {X : Type 0} (xs : List X) (i : ℕ) → i < length xs → (x : X) × (slice_get xs i ≡ Some x)
there [] i h = absurd (omega arith)
there (x ∷ xs) zero h = (x, refl)
there (x ∷ xs) (suc i) h = there xs i (omega arith)

before : {X : Type 0} (xs : List X) (x y : X) (i : ℕ) → slice_get xs i ≡ Some y → slice_get (xs ++ x ∷ []) i ≡ Some y
before [] x y i e = absurd (none-some _ e)
before (z ∷ xs) x y zero e = e
before (z ∷ xs) x y (suc i) e = before xs x y i e

abbrev head_or : {X : Type 0} → X → List X → X
head_or x [] = x
head_or x (y ∷ ys) = y

abbrev tail_of : {X : Type 0} → List X → List X
tail_of [] = []
tail_of (y ∷ ys) = ys

-- ---- receipts

abbrev Callers : Type 0
Callers = FinMap (slice_cmp nat_cmp) (List Receipt)

abbrev list_at : Callers → List ℕ → List Receipt
list_at callers caller = unwrap_or (get callers caller) []

-- with one more receipt for a caller
got : (callers : Callers) (k q : List ℕ) (x : Receipt) → list_at (with_receipt callers k x) q ≡ unwrap_or (cond (bytes_eq q k) (Some (list_at callers k ++ x ∷ [])) (get callers q)) []
got callers k q x =
    ap (λ (o : Option (List Receipt)). unwrap_or o []) (get-insert nat_list_cmp_total callers k (list_at callers k ++ x ∷ []) q)
    ∙ ap (λ b. unwrap_or (cond b (Some (list_at callers k ++ x ∷ [])) (get callers q)) []) (is_eq-slice_cmp q k)

got_own : (callers : Callers) (k : List ℕ) (x : Receipt) → list_at (with_receipt callers k x) k ≡ list_at callers k ++ x ∷ []
got_own callers k x = got callers k k x ∙ ap (λ b. unwrap_or (cond b (Some (list_at callers k ++ x ∷ [])) (get callers k)) []) ((bytes_eq-Decides k k).1 refl)

kept_on : (callers : Callers) (caller q : List ℕ) (x k : Receipt) (i : ℕ) (b : Bool) → bytes_eq q caller ≡ b → slice_get (list_at callers q) i ≡ Some k
    → slice_get (unwrap_or (cond b (Some (list_at callers caller ++ x ∷ [])) (get callers q)) []) i ≡ Some k
kept_on callers caller q x k i true same e = before (list_at callers caller) x k i (ap (λ n. slice_get (list_at callers n) i) (sym ((bytes_eq-Decides q caller).0 same)) ∙ e)
kept_on callers caller q x k i false same e = e

settle_keeps : (c : Contents) (r : Request) (b : Bool) → KeepsReceipts c (if b then settle c r else c)
settle_keeps c r true q n k e =
    let x = receipt_of r (new_reply c r) in
    ap (λ l. slice_get l (n - 1)) (got c.callers r.caller q x) ∙ kept_on c.callers r.caller q x k (n - 1) (bytes_eq q r.caller) refl e
settle_keeps c r false q n k e = e

one_keeps : (c : Contents) (r : Request) → KeepsReceipts c (after_one c r)
one_keeps c r = settle_keeps c r (r.number == count_of c r.caller + 1)

-- ---- one request

abbrev by_number : Contents → Request → Bool → Bool → Reply
by_number c r new old = if new then new_reply c r else (if old then repeat_reply (receipt_at c r.caller r.number) r.command else ahead_reply (count_of c r.caller + 1))

-- a receipt of the same command
repeats : SameWhereEqual → (r : Request) (reply : Reply) (o : Option Receipt) → o ≡ Some (receipt_of r reply) → reply ≡ repeat_reply o r.command
repeats same r reply o e = sym (ap (λ t. repeat_reply t r.command) e ∙ ap (λ b. if b then reply else reused_reply) ((same r.command r.command).1 refl))

-- a request that is not ahead has the reply that is kept from then on
lasts : SameWhereEqual → (c new : Contents) (r : Request) (b d : Bool) → (r.number == count_of c r.caller + 1) ≡ b → nat_lt r.number (count_of c r.caller + 1) ≡ d → 1 ≤ r.number
    → KeepsReceipts (if b then settle c r else c) new → (IsAhead (by_number c r b d) → ⊥)
    → (by_number c r b d ≡ repeat_reply (receipt_at new r.caller r.number) r.command) × (r.number ≤ count_of new r.caller)
lasts same c new r true d e f some keeps lasting =
    let number : r.number ≡ count_of c r.caller + 1 = grind (arith, nat_tests, e) in
    let place : r.number - 1 ≡ count_of c r.caller = omega (arith, number) in
    let x = receipt_of r (new_reply c r) in
    let here : receipt_at (settle c r) r.caller r.number ≡ Some x =
    ap (λ l. slice_get l (r.number - 1)) (got_own c.callers r.caller x) ∙ ap (slice_get (receipts_of c r.caller ++ x ∷ [])) place ∙ last_of (receipts_of c r.caller) x in
    let kept : receipt_at new r.caller r.number ≡ Some x = keeps r.caller r.number x here in
    let within : r.number - 1 < count_of new r.caller = slice_get_within (receipts_of new r.caller) (r.number - 1) x kept in
    (repeats same r (new_reply c r) (receipt_at new r.caller r.number) kept, omega (arith, within, some))
lasts same c new r false true e f some keeps lasting =
    let lower : r.number < count_of c r.caller + 1 = grind (arith, nat_tests, f) in
    let place : r.number - 1 < count_of c r.caller = omega (arith, lower, some) in
    let x = there (receipts_of c r.caller) (r.number - 1) place in
    let kept : receipt_at new r.caller r.number ≡ Some x.0 = keeps r.caller r.number x.0 x.1 in
    let within : r.number - 1 < count_of new r.caller = slice_get_within (receipts_of new r.caller) (r.number - 1) x.0 kept in
    (ap (λ o. repeat_reply o r.command) (x.1 ∙ sym kept), omega (arith, within, some))
lasts same c new r false false e f some keeps lasting = absurd (lasting (count_of c r.caller + 1, refl))

-- a request whose number is settled changes nothing, and has the reply that is kept
is_repeat : (c : Contents) (r : Request) → r.number ≤ count_of c r.caller → (reply_to c r ≡ repeat_reply (receipt_at c r.caller r.number) r.command) × (after_one c r ≡ c)
is_repeat c r le =
    let new : (r.number == count_of c r.caller + 1) ≡ false = grind (arith, nat_tests, le) in
    let old : nat_lt r.number (count_of c r.caller + 1) ≡ true = grind (arith, nat_tests, le) in (
      ap (λ b. by_number c r b (nat_lt r.number (count_of c r.caller + 1))) new ∙ ap (by_number c r false) old,
      ap (λ b. if b then settle c r else c) new,
    )

-- ---- rows that read

numbered_if : (k n : ℕ) (b : Bool) → (nat_le 1 k && nat_le k 1000000000) ≡ b → (if b then Some k else None) ≡ Some n → 1 ≤ n
numbered_if k n true e f = let same : k ≡ n = same_Some _ _ f in grind (arith, nat_tests, e, same)
numbered_if k n false e f = absurd (none-some _ f)

numbered_by : (o : Option ℕ) (n : ℕ) → option_and_then if_number o ≡ Some n → 1 ≤ n
numbered_by None n e = absurd (none-some _ e)
numbered_by (Some k) n e = numbered_if k n (nat_le 1 k && nat_le k 1000000000) refl e

abbrev number_at : Result Row RowRefusal → ℕ
number_at (Ok row) = row.number
number_at (Err refusal) = 1

numbered_with : (caller : List ℕ) (number : Option ℕ) (report : Option ReportRecord) → ((n : ℕ) → number ≡ Some n → 1 ≤ n) → 1 ≤ number_at (row_with caller number report)
numbered_with caller None report h = omega arith
numbered_with caller (Some n) None h = omega arith
numbered_with caller (Some n) (Some report) h = h n refl

numbered_where : (a b : Bool) (o : Result Row RowRefusal) → 1 ≤ number_at o → 1 ≤ number_at (if not a then Err Unreadable else (if not b then Err BadName else o))
numbered_where false b o h = omega arith
numbered_where true false o h = omega arith
numbered_where true true o h = h

-- the number of a row is at least 1
numbered : (fields : Fields) → 1 ≤ number_at (row_of fields)
numbered fields = numbered_where (length fields == 9) (is_name (field fields 0)) (row_with (field fields 0) (number_in (field fields 1)) (report_of fields)) (numbered_with (field fields 0) (number_in (field fields 1)) (report_of fields) (numbered_by (word_in (field fields 1))))

-- ---- what the register says of a row, in contents that keep receipts

told_kept : (c new : Contents) → KeepsReceipts c new → (o : Result Row RowRefusal) → 1 ≤ number_at o → IsSettledBy c o → (told_by new o ≡ told_by c o) × IsSettledBy new o
told_kept c new keeps (Err refusal) some h = (refl, tt)
told_kept c new keeps (Ok row) some h =
    let place : row.number - 1 < count_of c row.caller = omega (arith, h, some) in
    let x = there (receipts_of c row.caller) (row.number - 1) place in
    let kept : receipt_at new row.caller row.number ≡ Some x.0 = keeps row.caller row.number x.0 x.1 in
    let within : row.number - 1 < count_of new row.caller = slice_get_within (receipts_of new row.caller) (row.number - 1) x.0 kept in
    (ap (λ t. Answered (Replied (repeat_reply t (Report row.report)))) (kept ∙ sym x.1), omega (arith, within, some))

-- ---- one row

module _ (one : OneRequest) where
  handled_keeps : (c mid : Contents) (o : RowDisposition) → IsHandled c o mid → KeepsReceipts c mid
  handled_keeps c mid (rejected refusal) h = λ q n k e. ap (λ t. receipt_at t q n) h ∙ e
  handled_keeps c mid no_memory h = λ q n k e. ap (λ t. receipt_at t q n) h ∙ e
  handled_keeps c mid (answered (event.Query at query) (Replied reply)) h = λ q n k e. ap (λ t. receipt_at t q n) h.1 ∙ e
  handled_keeps c mid (answered (event.Request r) (Replied reply)) h = subst (KeepsReceipts c) (sym (h.1 ∙ (one c r).1)) (one_keeps c r)
  handled_keeps c mid (answered it (Unavailable fault)) h = λ q n k e. ap (λ t. receipt_at t q n) h ∙ e

  all_keep : (c new : Contents) (xs : List RowExchange) → AreHandled c xs new → KeepsReceipts c new
  all_keep c new [] h = λ q n k e. ap (λ t. receipt_at t q n) h ∙ e
  all_keep c new (x ∷ xs) h = λ q n k e. all_keep h.0 new xs h.2 q n k (handled_keeps c h.0 x.disposition h.1 q n k e)

  -- a row that has its line for good has that of the register from then on
  told_one : SameWhereEqual → (c mid new : Contents) (fields : Fields) (moment : ℕ) (o : RowDisposition) → IsDisposition fields moment o → IsHandled c o mid → KeepsReceipts mid new
      → IsLasting o → (told_of o ≡ told_in new fields) × IsSettledRow new fields
  told_one same c mid new fields moment (rejected refusal) is h keeps lasting = (sym (ap (told_by new) is), subst (IsSettledBy new) (sym is) tt)
  told_one same c mid new fields moment no_memory is h keeps lasting = absurd lasting
  told_one same c mid new fields moment (answered (event.Query at query) answer) is h keeps lasting = absurd is
  told_one same c mid new fields moment (answered (event.Request r) (Unavailable fault)) is h keeps lasting = absurd lasting
  told_one same c mid new fields moment (answered (event.Request r) (Replied reply)) is h keeps lasting =
      let row = is.0 in
      let asked = request_of moment row.caller row.number (Report row.report) in
      let some : 1 ≤ row.number = subst (λ t. 1 ≤ number_at t) is.1 (numbered fields) in
      let number : 1 ≤ r.number = subst (λ (t : Request). 1 ≤ t.number) (sym is.2) some in
      let reply_is : reply ≡ reply_to c r = h.0 ∙ (one c r).0 in
      let ends : KeepsReceipts (after_one c r) new = subst (λ t. KeepsReceipts t new) (h.1 ∙ (one c r).1) keeps in
      let lasting_is : IsAhead (reply_to c r) → ⊥ = subst (λ t. IsAhead t → ⊥) reply_is lasting in
      let is_kept = lasts same c new r (r.number == count_of c r.caller + 1) (nat_lt r.number (count_of c r.caller + 1)) refl refl number ends lasting_is in
      let P : Request → Type 0 = λ t. t.number ≤ count_of new t.caller in (
        ap (λ t. Answered (Replied t)) (reply_is ∙ is_kept.0 ∙ ap (λ (t : Request). repeat_reply (receipt_at new t.caller t.number) t.command) is.2) ∙ sym (ap (told_by new) is.1),
        subst (IsSettledBy new) (sym is.1) (subst P is.2 is_kept.1),
      )

  -- a row whose number is settled changes nothing
  again_one : (c mid : Contents) (fields : Fields) (moment : ℕ) (o : RowDisposition) → IsDisposition fields moment o → IsHandled c o mid → IsSettledRow c fields
      → (mid ≡ c) × (IsHeard o → told_of o ≡ told_in c fields)
  again_one c mid fields moment (rejected refusal) is h known = (h, λ hears. sym (ap (told_by c) is))
  again_one c mid fields moment no_memory is h known = (h, λ hears. absurd hears)
  again_one c mid fields moment (answered (event.Query at query) answer) is h known = absurd is
  again_one c mid fields moment (answered (event.Request r) (Unavailable fault)) is h known = (h, λ hears. absurd hears)
  again_one c mid fields moment (answered (event.Request r) (Replied reply)) is h known =
      let P : Request → Type 0 = λ t. t.number ≤ count_of c t.caller in
      let low : r.number ≤ count_of c r.caller = subst P (sym is.2) (subst (IsSettledBy c) is.1 known) in
      let repeated = is_repeat c r low in (
        h.1 ∙ (one c r).1 ∙ repeated.1,
        λ hears. ap (λ t. Answered (Replied t)) (h.0 ∙ (one c r).0 ∙ repeated.0 ∙ ap (λ (t : Request). repeat_reply (receipt_at c t.caller t.number) t.command) is.2) ∙ sym (ap (told_by c) is.1),
      )

  -- ---- row after row

  all_told : SameWhereEqual → (c new : Contents) (xs : List RowExchange) → AllByRecursion IsExchange xs → AreHandled c xs new → AreTold new xs
  all_told same c new [] each h = tt
  all_told same c new (x ∷ xs) each h =
      (told_one same c h.0 new x.message x.moment x.disposition each.0 h.1 (all_keep h.0 new xs h.2), all_told same h.0 new xs each.1 h.2)

  all_again : (c new : Contents) (xs : List RowExchange) → AllByRecursion IsExchange xs → AreHandled c xs new → AllByRecursion (λ x. IsSettledRow c x.message) xs
      → (new ≡ c) × AllByRecursion (λ x. IsHeard x.disposition → told_of x.disposition ≡ told_in c x.message) xs
  all_again c new [] each h known = (h, tt)
  all_again c new (x ∷ xs) each h known =
      let first = again_one c h.0 x.message x.moment x.disposition each.0 h.1 known.0 in
      let rest = all_again c new xs each.1 (subst (λ t. AreHandled t xs new) first.0 h.2) known.1 in
      (rest.0, (first.1, rest.1))

  same_lines : (q c new : Contents) (xs ys : List RowExchange) → rows_of ys ≡ rows_of xs → AreTold q xs → AllByRecursion IsExchange ys → AreHandled c ys new → KeepsReceipts q c → SameLines xs ys
  same_lines q c new [] ys e told each h keeps = tt
  same_lines q c new (x ∷ xs) [] e told each h keeps = absurd (let n : 0 ≡ suc (length (rows_of xs)) = ap length e in omega (arith, n))
  same_lines q c new (x ∷ xs) (y ∷ ys) e told each h keeps =
      let fields : y.message ≡ x.message = ap (head_or []) e in
      let next : KeepsReceipts q h.0 = λ p n k f. handled_keeps c h.0 y.disposition h.1 p n k (keeps p n k f) in (
        λ lasting hears.
            let was = told.0 lasting in
            let kept = told_kept q c keeps (row_of x.message) (numbered x.message) was.1 in
            let now = again_one c h.0 y.message y.moment y.disposition each.0 h.1 (subst (IsSettledRow c) (sym fields) kept.1) in
            now.1 hears ∙ ap (told_in c) fields ∙ kept.0 ∙ sym was.0,
        same_lines q h.0 new xs ys (ap tail_of e) told.1 each.1 h.2 next,
      )

-- each row's number is settled, of rows that have their lines for good
all_known : (q c : Contents) → KeepsReceipts q c → (xs ys : List RowExchange) → rows_of ys ≡ rows_of xs → AreTold q xs → AllLasting xs → AllByRecursion (λ y. IsSettledRow c y.message) ys
all_known q c keeps xs [] e told lasting = tt
all_known q c keeps [] (y ∷ ys) e told lasting = absurd (let n : suc (length (rows_of ys)) ≡ 0 = ap length e in omega (arith, n))
all_known q c keeps (x ∷ xs) (y ∷ ys) e told lasting =
    let fields : y.message ≡ x.message = ap (head_or []) e in
    (subst (IsSettledRow c) (sym fields) (told_kept q c keeps (row_of x.message) (numbered x.message) (told.0 lasting.0).1).1, all_known q c keeps xs ys (ap tail_of e) told.1 lasting.1)

-- then all lines are the same
same_text : (k : ℕ) (xs ys : List RowExchange) → rows_of ys ≡ rows_of xs → SameLines xs ys → AllLasting xs → AllHeard ys → lines_from k ys ≡ lines_from k xs
same_text k [] [] e each lasting hears = refl
same_text k [] (y ∷ ys) e each lasting hears = absurd (let n : suc (length (rows_of ys)) ≡ 0 = ap length e in omega (arith, n))
same_text k (x ∷ xs) [] e each lasting hears = absurd each
same_text k (x ∷ xs) (y ∷ ys) e each lasting hears =
    let line = ap (λ (t : RowReply). line_of k (told_status t) (told_body t)) (each.0 lasting.0 hears.0) in
    let rest = same_text (k + 1) xs ys (ap tail_of e) each.1 lasting.1 hears.1 in
    λ i. line i ++ rest i

-- ---- the records of a file

one_reach : (cfg : Config) (s : State) (xs : List ℕ) (ps qs : List Fields) (s1 s2 : State) (ys zs : List ℕ)
    → Reached cfg s xs ps s1 ys → next_record cfg s1 [] [] ys ≡ None → Reached cfg s xs qs s2 zs → next_record cfg s2 [] [] zs ≡ None → ps ≡ qs
unfolding Reached
one_reach cfg s xs [] [] s1 s2 ys zs a ends b stops = refl
one_reach cfg s xs [] (q ∷ qs) s1 s2 ys zs a ends b stops = absurd (none-some _ (sym ends ∙ sym (λ i. next_record cfg (a.0 i) [] [] (a.1 i)) ∙ b.1))
one_reach cfg s xs (p ∷ ps) [] s1 s2 ys zs a ends b stops = absurd (none-some _ (sym stops ∙ sym (λ i. next_record cfg (b.0 i) [] [] (b.1 i)) ∙ a.1))
one_reach cfg s xs (p ∷ ps) (q ∷ qs) s1 s2 ys zs a ends b stops =
    let same : b.0 ≡ a.0 = same_Some _ _ (sym b.1 ∙ a.1) in
    let rest = one_reach cfg a.0.1 a.0.2 ps qs s1 s2 ys zs a.3 ends (subst (λ (t : Read). Reached cfg t.1 t.2 qs s2 zs) same b.3) stops in
    let first : p ≡ q = a.2 ∙ ap (λ (t : Read). t.0) (sym same) ∙ sym b.2 in
    λ i. first i ∷ rest i

one_list : (cfg : Config) (s : State) (xs : List ℕ) (ps qs : List Fields) → AreRecords cfg s xs ps → AreRecords cfg s xs qs → ps ≡ qs
one_list cfg s xs ps qs a b = one_reach cfg s xs ps qs a.0 b.0 a.1 b.1 a.2 a.3 b.2 b.3

one_rows : (records ps qs : List Fields) → AreDataRows records ps → AreDataRows records qs → ps ≡ qs
one_rows [] ps qs a b = a ∙ sym b
one_rows (first ∷ rest) ps qs a b = a.1 ∙ sym b.1

-- ---- the laws

pub afterwards : OneRequest → RunsOn → SameWhereEqual → (p q : DeskState) → TellsAfterwards p q
afterwards one goes same p q xs holds honest = all_told one same p.book.contents q.book.contents xs holds.each (handled_in goes p q xs holds honest)

pub settled : OneRequest → RunsOn → (p q : DeskState) → TellsSettled p q
settled one goes p q xs holds honest known = all_again one p.book.contents q.book.contents xs holds.each (handled_in goes p q xs holds honest) known

pub again : OneRequest → RunsOn → SameWhereEqual → (p q r s : DeskState) → ImportsAgain p q r s
again one goes same p q r s bytes u v w x m n first second honest honest2 keeps =
    let xs = first.5.exchanges in
    let ys = second.5.exchanges in
    let records = one_list _ _ _ second.0 first.0 second.2 first.2 in
    let rows : rows_of ys ≡ rows_of xs =
    sym second.5.are ∙ one_rows first.0 second.1 first.1 (subst (λ t. AreDataRows t second.1) records second.3) first.3 ∙ first.5.are in
    let told = afterwards one goes same p q xs first.5.holds honest in
    let handled = handled_in goes r s ys second.5.holds honest2 in
    let each = same_lines one q.book.contents r.book.contents s.book.contents xs ys rows told second.5.holds.each handled keeps in
    record {
      rows = rows;
      each = each;
      unchanged = λ lasting. (all_again one r.book.contents s.book.contents ys second.5.holds.each handled (all_known q.book.contents r.book.contents keeps xs ys rows told lasting)).0;
      lines = λ lasting hears. same_text 1 xs ys rows each lasting hears;
    }
