-- The settled requests: each number of a caller once, and one run of the machine.
use Rattle.std.proofs.Common.{◌≡◌, ℕ, ◌+◌, List, [], ◌∷◌, ◌++◌, length, Bool, true, false, refl, sym, ap, ◌∙◌, subst, arith, append_assoc, append-nil}
use Rattle.std.specs.Prelude.{nat_lt, if◌then◌else◌, map, filter, cond}
use Rattle.std.specs.Str.{bytes_eq}
use Rattle.std.proofs.lemmas.Slice.Eq.{bytes_eq-Decides}
use Rattle.std.proofs.lemmas.Bool.Decides.{Decides-eqb}
use Rattle.std.proofs.lemmas.List.{map-append, length-map}
use Rattle.std.proofs.lemmas.List.Elements.{filter-append}
use Rattle.canary_plan.specs.declared.command.Command.{Command}
use Rattle.canary_release.specs.declared.reply.Reply.{Reply}
use Rattle.canary_release.specs.Desks.{apply, machine}
use Rattle.canary_once.specs.declared.event.Request.{Request}
use Rattle.canary_once.specs.declared.event.Event.{Event}
use Rattle.canary_once.specs.declared.event.Event.TheVariants as event
use Rattle.canary_once.specs.Contents.{Contents, count_of, receipt_at}
use Rattle.canary_once.specs.Answers.{requests_of, is_of, is_new, next_number, news_after, news_of, bare, settled_requests, after, repeat_reply, ahead_reply}
use Rattle.canary_once.specs.Laws.{replies_to_new, NewAreOfTheMachine, GoUpFrom, numbers_of, EachOnce}
use Rattle.canary_once.proofs.Events.{requests-push, requests-skip, news-push, map-push, machine-push}

-- the machine's replies with one more request, new or not
one_new : (c : Contents) (before : List Event) (r : Request) (other : Reply) (rest : List Reply) (b : Bool)
    → (let news = news_of c before in let said = (apply (machine c.desk (settled_requests c before)).desk r.moment r.command).reply in
    (machine c.desk (map bare (if b then news ++ r ∷ [] else news))).replies ++ rest ≡ (machine c.desk (settled_requests c before)).replies ++ (if b then (if b then said else other) ∷ rest else rest))
one_new c before r other rest true =
    let news = news_of c before in
    let run = machine c.desk (map bare news) in
    let said = (apply run.desk r.moment r.command).reply in
    ap (λ (xs : List (ℕ × Command)). (machine c.desk xs).replies ++ rest) (map-push news r)
    ∙ ap (λ (rs : List Reply). rs ++ rest) (machine-push c.desk (map bare news) (bare r)).1
    ∙ append_assoc run.replies (said ∷ []) rest
one_new c before r other rest false = refl

news-more : (c : Contents) (before : List Event) (r : Request) → news_of c (before ++ event.Request r ∷ []) ≡ (if is_new c (news_of c before) r then news_of c before ++ r ∷ [] else news_of c before)
news-more c before r = ap (news_after c []) (requests-push before r) ∙ news-push c [] (requests_of before) r

new_after : (c : Contents) (before es : List Event) → (machine c.desk (settled_requests c before)).replies ++ replies_to_new c before es ≡ (machine c.desk (settled_requests c (before ++ es))).replies
new_after c before [] = append-nil (machine c.desk (settled_requests c before)).replies ∙ ap (λ (b : List Event). (machine c.desk (settled_requests c b)).replies) (sym (append-nil before))
new_after c before (event.Request r ∷ es) =
    let more = before ++ event.Request r ∷ [] in
    let next = next_number c (news_of c before) r.caller in
    let other : Reply = (if nat_lt r.number next then repeat_reply (receipt_at (after c before) r.caller r.number) r.command else ahead_reply next) in
    sym (one_new c before r other (replies_to_new c more es) (is_new c (news_of c before) r))
    ∙ ap (λ (news : List Request). (machine c.desk (map bare news)).replies ++ replies_to_new c more es) (sym (news-more c before r))
    ∙ new_after c more es
    ∙ ap (λ (b : List Event). (machine c.desk (settled_requests c b)).replies) (append_assoc before (event.Request r ∷ []) es)
new_after c before (event.Query moment query ∷ es) =
    let more = before ++ event.Query moment query ∷ [] in
    ap (λ (rs : List Request). (machine c.desk (map bare (news_after c [] rs))).replies ++ replies_to_new c more es) (sym (requests-skip before moment query))
    ∙ new_after c more es
    ∙ ap (λ (b : List Event). (machine c.desk (settled_requests c b)).replies) (append_assoc before (event.Query moment query ∷ []) es)

pub new_are_of_the_machine : NewAreOfTheMachine
new_are_of_the_machine c es = new_after c [] es

-- numbers that go up

go_up-push : (first : ℕ) (ns : List ℕ) (n : ℕ) → GoUpFrom first ns → n ≡ first + length ns → GoUpFrom first (ns ++ n ∷ [])
go_up-push first [] n up e = (omega arith, tt)
go_up-push first (m ∷ ns) n up e = (up.0, go_up-push (first + 1) ns n up.1 (omega arith))

last_of : (caller : List ℕ) (ns : List ℕ) (r : Request) (own : Bool) → ns ++ map (λ (x : Request). x.number) (cond own (r ∷ []) []) ≡ (if own then ns ++ r.number ∷ [] else ns)
last_of caller ns r true = refl
last_of caller ns r false = append-nil ns

numbers-more : (caller : List ℕ) (news : List Request) (r : Request) (own : Bool) → bytes_eq caller r.caller ≡ own → numbers_of caller (news ++ r ∷ []) ≡ (if own then numbers_of caller news ++ r.number ∷ [] else numbers_of caller news)
numbers-more caller news r own e =
    ap (map (λ (x : Request). x.number)) (filter-append (is_of caller) news (r ∷ []))
    ∙ map-append (λ (x : Request). x.number) (filter (is_of caller) news) (filter (is_of caller) (r ∷ []))
    ∙ ap (λ b. numbers_of caller news ++ map (λ (x : Request). x.number) (cond b (r ∷ []) [])) e
    ∙ last_of caller (numbers_of caller news) r own

one_up : (c : Contents) (caller : List ℕ) (news : List Request) (r : Request) (b own : Bool) → is_new c news r ≡ b → bytes_eq caller r.caller ≡ own
    → GoUpFrom (count_of c caller + 1) (numbers_of caller news) → GoUpFrom (count_of c caller + 1) (numbers_of caller (if b then news ++ r ∷ [] else news))
one_up c caller news r false own e o up = up
one_up c caller news r true false e o up = subst (GoUpFrom (count_of c caller + 1)) (sym (numbers-more caller news r false o)) up
one_up c caller news r true true e o up =
    let same : caller ≡ r.caller = (bytes_eq-Decides caller r.caller).0 o in
    let number : r.number ≡ next_number c news caller = (Decides-eqb r.number (next_number c news r.caller)).0 e ∙ ap (next_number c news) (sym same) in
    let long : length (numbers_of caller news) ≡ length (filter (is_of caller) news) = length-map (filter (is_of caller) news) (λ (x : Request). x.number) in
    subst (GoUpFrom (count_of c caller + 1)) (sym (numbers-more caller news r true o)) (go_up-push (count_of c caller + 1) (numbers_of caller news) r.number up (omega arith))

go_up : (c : Contents) (caller : List ℕ) (news rs : List Request) → GoUpFrom (count_of c caller + 1) (numbers_of caller news) → GoUpFrom (count_of c caller + 1) (numbers_of caller (news_after c news rs))
go_up c caller news [] up = up
go_up c caller news (r ∷ rs) up = go_up c caller (if is_new c news r then news ++ r ∷ [] else news) rs (one_up c caller news r (is_new c news r) (bytes_eq caller r.caller) refl refl up)

pub each_once : EachOnce
each_once c es caller = go_up c caller [] (requests_of es) tt
