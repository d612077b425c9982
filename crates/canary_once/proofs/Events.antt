-- Event after event, the answers and the contents are those of the whole list.
use Rattle.std.proofs.Common.{◌≡◌, ℕ, zero, suc, ◌+◌, ◌-◌, List, [], ◌∷◌, ◌++◌, length, Bool, true, false, Some, refl, sym, ap, ◌∙◌, subst, arith, add-zero, length-append}
use Rattle.std.specs.Prelude.{if◌then◌else◌, ◌==◌, nat_lt, map, filter, Option, unwrap_or, cond, slice_get}
use Rattle.std.specs.Ordering.{nat_cmp}
use Rattle.std.specs.Cmp.Lexicographic.{slice_cmp, nat_list_cmp_total}
use Rattle.std.specs.Str.{bytes_eq}
use Rattle.std.specs.FinMap.{FinMap, get, get-insert}
use Rattle.std.proofs.lemmas.Map.Text.{is_eq-slice_cmp}
use Rattle.std.proofs.lemmas.Slice.Eq.{bytes_eq-Decides}
use Rattle.canary_plan.specs.declared.command.Command.{Command}
use Rattle.canary_release.specs.declared.reply.Reply.{Reply}
use Rattle.canary_release.specs.Desks.{Desk, apply, machine}
use Rattle.canary_once.specs.declared.book.Receipt.{Receipt}
use Rattle.canary_once.specs.declared.event.Request.{Request}
use Rattle.canary_once.specs.declared.event.Query.{Query}
use Rattle.canary_once.specs.declared.event.Event.{Event}
use Rattle.canary_once.specs.declared.event.Event.TheVariants as event
use Rattle.canary_once.specs.declared.event.Answer.{Answer}
use Rattle.canary_once.specs.declared.event.Answer.TheVariants.{Replied, Unavailable}
use Rattle.canary_once.specs.Contents.{Contents, count_of, receipt_at, with_receipt, KeepsReceipts}
use Rattle.canary_once.specs.Answers.{requests_of, is_of, next_number, is_new, news_after, news_of, bare, settled_requests, receipt_of, with_receipts, after, answer, answer_request, repeat_reply, ahead_reply}
use Rattle.canary_once.specs.Single.{settle, reply_to, after_one, IsAnswer}

-- a machine goes on where it stopped
pub machine-push : (desk : Desk) (xs : List (ℕ × Command)) (x : ℕ × Command) → let run = machine desk xs in let a = apply run.desk x.0 x.1 in ((machine desk (xs ++ x ∷ [])).desk ≡ a.desk) × ((machine desk (xs ++ x ∷ [])).replies ≡ run.replies ++ a.reply ∷ [])
machine-push desk [] x = (refl, refl)
machine-push desk (y ∷ ys) x = let rest = machine-push (apply desk y.0 y.1).desk ys x in (rest.0, ap (λ (rs : List Reply). (apply desk y.0 y.1).reply ∷ rs) rest.1)

pub requests-push : (es : List Event) (r : Request) → requests_of (es ++ event.Request r ∷ []) ≡ requests_of es ++ r ∷ []
requests-push [] r = refl
requests-push (event.Request x ∷ es) r = ap (λ (rs : List Request). x ∷ rs) (requests-push es r)
requests-push (event.Query moment query ∷ es) r = requests-push es r

pub requests-skip : (es : List Event) (moment : ℕ) (query : Query) → requests_of (es ++ event.Query moment query ∷ []) ≡ requests_of es
requests-skip [] moment query = refl
requests-skip (event.Request x ∷ es) moment query = ap (λ (rs : List Request). x ∷ rs) (requests-skip es moment query)
requests-skip (event.Query m q ∷ es) moment query = requests-skip es moment query

-- one more request, new or not
pub news-push : (c : Contents) (news : List Request) (rs : List Request) (r : Request) → news_after c news (rs ++ r ∷ []) ≡ (if is_new c (news_after c news rs) r then news_after c news rs ++ r ∷ [] else news_after c news rs)
news-push c news [] r = refl
news-push c news (x ∷ rs) r = news-push c (if is_new c news x then news ++ x ∷ [] else news) rs r

pub map-push : (es : List Request) (e : Request) → map bare (es ++ e ∷ []) ≡ map bare es ++ bare e ∷ []
map-push [] e = refl
map-push (x ∷ es) e = ap (λ (xs : List (ℕ × Command)). bare x ∷ xs) (map-push es e)

-- each new request has a reply
replies-long : (desk : Desk) (es : List Request) → length (machine desk (map bare es)).replies ≡ length es
replies-long desk [] = refl
replies-long desk (e ∷ es) = ap suc (replies-long (apply desk e.moment e.command).desk es)

with_receipts-push : (callers : FinMap (slice_cmp nat_cmp) (List Receipt)) (es : List Request) (rs : List Reply) (e : Request) (r : Reply) → length rs ≡ length es → with_receipts callers (es ++ e ∷ []) (rs ++ r ∷ []) ≡ with_receipt (with_receipts callers es rs) e.caller (receipt_of e r)
with_receipts-push callers [] [] e r n = refl
with_receipts-push callers [] (x ∷ rs) e r n = absurd (omega arith)
with_receipts-push callers (y ∷ es) [] e r n = absurd (omega arith)
with_receipts-push callers (y ∷ es) (x ∷ rs) e r n = with_receipts-push (with_receipt callers y.caller (receipt_of y x)) es rs e r (omega arith)

abbrev pub list_at : FinMap (slice_cmp nat_cmp) (List Receipt) → List ℕ → List Receipt
list_at callers caller = unwrap_or (get callers caller) []

-- one more receipt for one caller
pub got : (callers : FinMap (slice_cmp nat_cmp) (List Receipt)) (k q : List ℕ) (x : Receipt) → list_at (with_receipt callers k x) q ≡ unwrap_or (cond (bytes_eq q k) (Some (list_at callers k ++ x ∷ [])) (get callers q)) []
got callers k q x = ap (λ (o : Option (List Receipt)). unwrap_or o []) (get-insert nat_list_cmp_total callers k (list_at callers k ++ x ∷ []) q) ∙ ap (λ b. unwrap_or (cond b (Some (list_at callers k ++ x ∷ [])) (get callers q)) []) (is_eq-slice_cmp q k)

pub one_longer : (callers : FinMap (slice_cmp nat_cmp) (List Receipt)) (k q : List ℕ) (x : Receipt) (b : Bool) → bytes_eq q k ≡ b → length (unwrap_or (cond b (Some (list_at callers k ++ x ∷ [])) (get callers q)) []) ≡ length (list_at callers q) + cond b 1 0
one_longer callers k q x true e =
    let same : q ≡ k = (bytes_eq-Decides q k).0 e in
    simp length-append (ap (λ (n : List ℕ). length (list_at callers n) + 1) (sym same))
one_longer callers k q x false e = sym (add-zero _)

counted : (b : Bool) (e : Request) (es : List Request) → length (cond b (e ∷ es) es) ≡ cond b 1 0 + length es
counted true e es = omega arith
counted false e es = omega arith

-- the settled requests of a caller are those before, and the new ones
count-after : (callers : FinMap (slice_cmp nat_cmp) (List Receipt)) (es : List Request) (rs : List Reply) (caller : List ℕ) → length rs ≡ length es → length (list_at (with_receipts callers es rs) caller) ≡ length (list_at callers caller) + length (filter (is_of caller) es)
count-after callers [] rs caller n = sym (add-zero _)
count-after callers (e ∷ es) [] caller n = absurd (omega arith)
count-after callers (e ∷ es) (r ∷ rs) caller n =
    let ih = count-after (with_receipt callers e.caller (receipt_of e r)) es rs caller (omega arith) in
    let one = ap length (got callers e.caller caller (receipt_of e r)) ∙ one_longer callers e.caller caller (receipt_of e r) (bytes_eq caller e.caller) refl in
    let here = counted (bytes_eq caller e.caller) e (filter (is_of caller) es) in
    omega (arith, ih, one, here)

-- the number that a caller's next new request has
pub next_is : (c : Contents) (es : List Event) (caller : List ℕ) → next_number c (news_of c es) caller ≡ count_of (after c es) caller + 1
next_is c es caller = ap (λ n. n + 1) (sym (count-after c.callers (news_of c es) (machine c.desk (settled_requests c es)).replies caller (replies-long c.desk (news_of c es))))

-- the answer after some events is that to one request
pub request_is : (c : Contents) (before : List Event) (r : Request) → answer_request c before r ≡ reply_to (after c before) r
request_is c before r =
    ap (λ next. if r.number == next then (apply (machine c.desk (settled_requests c before)).desk r.moment r.command).reply else (if nat_lt r.number next then repeat_reply (receipt_at (after c before) r.caller r.number) r.command else ahead_reply next))
    (next_is c before r.caller)

-- contents after a new request
settled_more : (c : Contents) (before : List Event) (e : Request) (b : Bool)
    → (let news = (if b then news_of c before ++ e ∷ [] else news_of c before) in
    let run = machine c.desk (map bare news) in
    let new : Contents = record { callers = with_receipts c.callers news run.replies; desk = run.desk } in
    new ≡ (if b then settle (after c before) e else after c before))
settled_more c before e true =
    let news = news_of c before in
    let run = machine c.desk (map bare news) in
    let m = machine-push c.desk (map bare news) (bare e) in
    let r = (apply run.desk e.moment e.command).reply in
    rw (map-push news e, m.0, m.1)
    (ap (λ (callers : FinMap (slice_cmp nat_cmp) (List Receipt)). record { callers = callers; desk = (apply run.desk e.moment e.command).desk }) (with_receipts-push c.callers news run.replies e r (replies-long c.desk news)))
settled_more c before e false = refl

-- the contents after some events and a request are those after one request
pub after_is : (c : Contents) (before : List Event) (r : Request) → after c (before ++ event.Request r ∷ []) ≡ after_one (after c before) r
after_is c before r =
    ap (λ (news : List Request). (let run = machine c.desk (map bare news) in record { callers = with_receipts c.callers news run.replies; desk = run.desk }))
    (ap (news_after c []) (requests-push before r) ∙ news-push c [] (requests_of before) r)
    ∙ settled_more c before r (is_new c (news_of c before) r)
    ∙ ap (λ next. if r.number == next then settle (after c before) r else after c before) (next_is c before r.caller)

-- a query changes nothing
pub after_query : (c : Contents) (before : List Event) (moment : ℕ) (query : Query) → after c (before ++ event.Query moment query ∷ []) ≡ after c before
after_query c before moment query =
    ap (λ (rs : List Request). (let news = news_after c [] rs in let run = machine c.desk (map bare news) in record { callers = with_receipts c.callers news run.replies; desk = run.desk })) (requests-skip before moment query)

-- one event goes on where the others stopped
pub answer_on : (c : Contents) (before : List Event) (e : Event) → answer (after c before) [] e ≡ answer c before e
answer_on c before (event.Request r) = request_is (after c before) [] r ∙ sym (request_is c before r)
answer_on c before (event.Query moment query) = refl

pub after_on : (c : Contents) (before : List Event) (e : Event) → after (after c before) (e ∷ []) ≡ after c (before ++ e ∷ [])
after_on c before (event.Request r) = after_is (after c before) [] r ∙ sym (after_is c before r)
after_on c before (event.Query moment query) = sym (after_query c before moment query)

-- one request alone
pub reply_first : (c : Contents) (r : Request) → reply_to c r ≡ answer c [] (event.Request r)
reply_first c r = sym (request_is c [] r)

pub after_first : (c : Contents) (r : Request) → after_one c r ≡ after c (event.Request r ∷ [])
after_first c r = sym (after_is c [] r)

-- A receipt stays as it was.

receipt_before : (receipts : List Receipt) (x k : Receipt) (i : ℕ) → slice_get receipts i ≡ Some k → slice_get (receipts ++ x ∷ []) i ≡ Some k
receipt_before [] x k i e = cc e
receipt_before (y ∷ receipts) x k zero e = e
receipt_before (y ∷ receipts) x k (suc i) e = receipt_before receipts x k i e

receipt_on : (callers : FinMap (slice_cmp nat_cmp) (List Receipt)) (caller q : List ℕ) (x k : Receipt) (i : ℕ) (b : Bool) → bytes_eq q caller ≡ b → slice_get (list_at callers q) i ≡ Some k
    → slice_get (unwrap_or (cond b (Some (list_at callers caller ++ x ∷ [])) (get callers q)) []) i ≡ Some k
receipt_on callers caller q x k i true same e = receipt_before (list_at callers caller) x k i (ap (λ n. slice_get (list_at callers n) i) (sym ((bytes_eq-Decides q caller).0 same)) ∙ e)
receipt_on callers caller q x k i false same e = e

pub keep_keeps : (c : Contents) (desk : Desk) (caller : List ℕ) (x : Receipt) → KeepsReceipts c (record { callers = with_receipt c.callers caller x; desk = desk })
keep_keeps c desk caller x q n k e =
    ap (λ l. slice_get l (n - 1)) (got c.callers caller q x) ∙ receipt_on c.callers caller q x k (n - 1) (bytes_eq q caller) refl e

pub same_keeps : (old new : Contents) → new ≡ old → KeepsReceipts old new
same_keeps old new same q n k e = ap (λ c. receipt_at c q n) same ∙ e

settle_keeps : (c : Contents) (r : Request) (b : Bool) → KeepsReceipts c (if b then settle c r else c)
settle_keeps c r true = keep_keeps c (apply c.desk r.moment r.command).desk r.caller (receipt_of r (apply c.desk r.moment r.command).reply)
settle_keeps c r false = same_keeps c c refl

pub one_keeps : (c : Contents) (r : Request) → KeepsReceipts c (after_one c r)
one_keeps c r = settle_keeps c r (r.number == count_of c r.caller + 1)

pub moved_keeps : (c new : Contents) (r : Request) → new ≡ after_one c r → KeepsReceipts c new
moved_keeps c new r h = subst (KeepsReceipts c) (sym h) (one_keeps c r)

-- an answer keeps each receipt
pub answer_keeps : (c new : Contents) (e : Event) (a : Answer) → IsAnswer c e a new → KeepsReceipts c new
answer_keeps c new (event.Request r) (Replied reply) h = subst (KeepsReceipts c) (after_first c r ∙ sym h.1) (one_keeps c r)
answer_keeps c new (event.Query moment query) (Replied reply) h = same_keeps c new h.1
answer_keeps c new e (Unavailable fault) h = same_keeps c new h
