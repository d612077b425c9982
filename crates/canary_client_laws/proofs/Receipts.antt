-- A caller's receipts after events are those before, and one for each of its new requests.
use Rattle.std.proofs.Common.{◌≡◌, ℕ, suc, ◌+◌, List, [], ◌∷◌, ◌++◌, length, Bool, true, false, Some, refl, sym, ap, ◌∙◌, arith, append_assoc, append-nil, length-append}
use Rattle.std.specs.Prelude.{map, filter, Option, unwrap_or, cond}
use Rattle.std.specs.Ordering.{nat_cmp}
use Rattle.std.specs.Cmp.Lexicographic.{slice_cmp, nat_list_cmp_total}
use Rattle.std.specs.Str.{bytes_eq}
use Rattle.std.specs.FinMap.{get, get-insert, get-empty}
use Rattle.std.proofs.lemmas.Map.Text.{is_eq-slice_cmp}
use Rattle.std.proofs.lemmas.Slice.Eq.{bytes_eq-Decides}
use Rattle.std.proofs.lemmas.List.{length-map}
use Rattle.canary_plan.specs.declared.command.Command.{Command}
use Rattle.canary_release.specs.declared.reply.Reply.{Reply}
use Rattle.canary_release.specs.Desks.{Desk, apply, machine}
use Rattle.canary_once.specs.declared.book.Receipt.{Receipt}
use Rattle.canary_once.specs.declared.event.Request.{Request}
use Rattle.canary_once.specs.declared.event.Event.{Event}
use Rattle.canary_once.specs.Contents.{CallerMap, Contents, no_contents, receipts_in, receipts_of, count_of, with_receipt}
use Rattle.canary_once.specs.Answers.{is_of, news_of, bare, settled_requests, receipt_of, with_receipts, after}
use Rattle.canary_client_laws.specs.Senders.{NobodyHasSettled, commands_of}

-- the requests of a caller, each with its reply
abbrev pub own : List ℕ → List Request → List Reply → List ((ℕ × Command) × Reply)
own caller [] xs = []
own caller (r ∷ rs) [] = []
own caller (r ∷ rs) (x ∷ xs) = cond (is_of caller r) ((bare r, x) ∷ own caller rs xs) (own caller rs xs)

abbrev pub receipt_for : (ℕ × Command) × Reply → Receipt
receipt_for a = record { command = a.0.1; reply = a.1 }

-- what a map has, with more receipts after it
abbrev pub more : Option (List Receipt) → List Receipt → Option (List Receipt)
more there [] = there
more there (k ∷ ks) = more (Some (unwrap_or there [] ++ k ∷ [])) ks

got : (callers : CallerMap) (caller q : List ℕ) (k : Receipt) → get (with_receipt callers caller k) q ≡ cond (bytes_eq q caller) (Some (receipts_in callers caller ++ k ∷ [])) (get callers q)
got callers caller q k =
    get-insert nat_list_cmp_total callers caller (receipts_in callers caller ++ k ∷ []) q
    ∙ ap (λ b. cond b (Some (receipts_in callers caller ++ k ∷ [])) (get callers q)) (is_eq-slice_cmp q caller)

one_got : (callers : CallerMap) (r : Request) (x : Reply) (q : List ℕ) (ys : List ((ℕ × Command) × Reply)) (b : Bool) → bytes_eq q r.caller ≡ b
    → more (get (with_receipt callers r.caller (receipt_of r x)) q) (map receipt_for ys) ≡ more (get callers q) (map receipt_for (cond b ((bare r, x) ∷ ys) ys))
one_got callers r x q ys true e =
    ap (λ (there : Option (List Receipt)). more there (map receipt_for ys))
    (got callers r.caller q (receipt_of r x)
    ∙ ap (λ b. cond b (Some (receipts_in callers r.caller ++ receipt_of r x ∷ [])) (get callers q)) e
    ∙ ap (λ (n : List ℕ). Some (receipts_in callers n ++ receipt_of r x ∷ [])) (sym ((bytes_eq-Decides q r.caller).0 e)))
one_got callers r x q ys false e =
    ap (λ (there : Option (List Receipt)). more there (map receipt_for ys))
    (got callers r.caller q (receipt_of r x)
    ∙ ap (λ b. cond b (Some (receipts_in callers r.caller ++ receipt_of r x ∷ [])) (get callers q)) e)

pub got_all : (callers : CallerMap) (rs : List Request) (xs : List Reply) (q : List ℕ) → get (with_receipts callers rs xs) q ≡ more (get callers q) (map receipt_for (own q rs xs))
got_all callers [] xs q = refl
got_all callers (r ∷ rs) [] q = refl
got_all callers (r ∷ rs) (x ∷ xs) q =
    got_all (with_receipt callers r.caller (receipt_of r x)) rs xs q
    ∙ one_got callers r x q (own q rs xs) (bytes_eq q r.caller) refl

more_is : (there : Option (List Receipt)) (ks : List Receipt) → unwrap_or (more there ks) [] ≡ unwrap_or there [] ++ ks
more_is there [] = sym (append-nil (unwrap_or there []))
more_is there (k ∷ ks) = more_is (Some (unwrap_or there [] ++ k ∷ [])) ks ∙ append_assoc (unwrap_or there []) (k ∷ []) ks

-- the replies to new requests
abbrev pub replies_after : Contents → List Event → List Reply
replies_after c es = (machine c.desk (settled_requests c es)).replies

pub receipts_after : (c : Contents) (es : List Event) (q : List ℕ) → receipts_of (after c es) q ≡ receipts_of c q ++ map receipt_for (own q (news_of c es) (replies_after c es))
receipts_after c es q =
    ap (λ (there : Option (List Receipt)). unwrap_or there []) (got_all c.callers (news_of c es) (replies_after c es) q)
    ∙ more_is (get c.callers q) (map receipt_for (own q (news_of c es) (replies_after c es)))

-- each new request has a reply
pub replies_long : (desk : Desk) (rs : List Request) → length (machine desk (map bare rs)).replies ≡ length rs
replies_long desk [] = refl
replies_long desk (r ∷ rs) = ap suc (replies_long (apply desk r.moment r.command).desk rs)

one_bare : (r : Request) (x : Reply) (ys : List ((ℕ × Command) × Reply)) (rs : List Request) (b : Bool) → map (λ (a : (ℕ × Command) × Reply). a.0) ys ≡ map bare rs
    → map (λ (a : (ℕ × Command) × Reply). a.0) (cond b ((bare r, x) ∷ ys) ys) ≡ map bare (cond b (r ∷ rs) rs)
one_bare r x ys rs true ih = ap (λ ys. bare r ∷ ys) ih
one_bare r x ys rs false ih = ih

pub own_bare : (q : List ℕ) (rs : List Request) (xs : List Reply) → length xs ≡ length rs → map (λ (a : (ℕ × Command) × Reply). a.0) (own q rs xs) ≡ map bare (filter (is_of q) rs)
own_bare q [] xs n = refl
own_bare q (r ∷ rs) [] n = absurd (omega (arith, n))
own_bare q (r ∷ rs) (x ∷ xs) n = one_bare r x (own q rs xs) (filter (is_of q) rs) (is_of q r) (own_bare q rs xs (omega (arith, n)))

command_in : (ys : List ((ℕ × Command) × Reply)) → map (λ (k : Receipt). k.command) (map receipt_for ys) ≡ map (λ (y : ℕ × Command). y.1) (map (λ (a : (ℕ × Command) × Reply). a.0) ys)
command_in [] = refl
command_in (a ∷ ys) = ap (λ cs. a.0.1 ∷ cs) (command_in ys)

bare_command : (rs : List Request) → map (λ (y : ℕ × Command). y.1) (map bare rs) ≡ map (λ (r : Request). r.command) rs
bare_command [] = refl
bare_command (r ∷ rs) = ap (λ cs. r.command ∷ cs) (bare_command rs)

pub own_commands : (c : Contents) (es : List Event) (q : List ℕ) → map (λ (k : Receipt). k.command) (map receipt_for (own q (news_of c es) (replies_after c es))) ≡ commands_of q (news_of c es)
own_commands c es q =
    command_in (own q (news_of c es) (replies_after c es))
    ∙ ap (map (λ (y : ℕ × Command). y.1)) (own_bare q (news_of c es) (replies_after c es) (replies_long c.desk (news_of c es)))
    ∙ bare_command (filter (is_of q) (news_of c es))

-- a caller's number of settled requests
pub count_after : (c : Contents) (es : List Event) (q : List ℕ) → count_of (after c es) q ≡ count_of c q + length (filter (is_of q) (news_of c es))
count_after c es q =
    let mine : List Receipt = map receipt_for (own q (news_of c es) (replies_after c es)) in
    let all : count_of (after c es) q ≡ count_of c q + length mine = ap length (receipts_after c es q) ∙ length-append (receipts_of c q) mine in
    let one : length (map (λ (k : Receipt). k.command) mine) ≡ length mine = length-map mine (λ (k : Receipt). k.command) in
    let two : length (commands_of q (news_of c es)) ≡ length (filter (is_of q) (news_of c es)) = length-map (filter (is_of q) (news_of c es)) (λ (r : Request). r.command) in
    let same : length (map (λ (k : Receipt). k.command) mine) ≡ length (commands_of q (news_of c es)) = ap length (own_commands c es q) in
    omega (arith, all, one, two, same)

pub nobody_yet : NobodyHasSettled no_contents
nobody_yet q = ap (λ (there : Option (List Receipt)). length (unwrap_or there [])) (get-empty (slice_cmp nat_cmp) q)
