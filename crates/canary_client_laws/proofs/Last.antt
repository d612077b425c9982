-- A script whose last request is answered as settled is settled whole.
use Rattle.std.proofs.Common.{◌≡◌, inl, inr, ℕ, ◌+◌, ◌≤◌, ◌<◌, List, [], ◌∷◌, ◌++◌, length, Bool, true, false, refl, ap, ◌∙◌, arith, length-append}
use Rattle.std.specs.Prelude.{nat_lt, if◌then◌else◌, filter}
use Rattle.std.proofs.lemmas.Slice.Eq.{bytes_eq-Decides}
use Rattle.std.proofs.lemmas.Bool.{ltb-true}
use Rattle.std.proofs.lemmas.Bool.Decides.{Decides-eqb}
use Rattle.std.proofs.lemmas.List.Elements.{filter-append}
use Rattle.canary_release.specs.declared.reply.Reply.{Reply}
use Rattle.canary_release.specs.declared.reply.ReplyStatus.TheVariants.{Accepted, Refused, Conflict}
use Rattle.canary_release.specs.Desks.{apply, machine}
use Rattle.canary_once.specs.declared.event.Request.{Request}
use Rattle.canary_once.specs.declared.event.Event.{Event}
use Rattle.canary_once.specs.declared.event.Event.TheVariants as event
use Rattle.canary_once.specs.Contents.{Contents, count_of, receipt_at, IsSettledStatus}
use Rattle.canary_once.specs.Answers.{requests_of, is_of, is_new, next_number, news_after, news_of, settled_requests, after, ahead_reply, repeat_reply}
use Rattle.canary_client_laws.specs.Senders.{LastSettlesAll}
use Rattle.canary_client_laws.proofs.Drawn.{requests_append, news_append, filter_one, settles_first}

-- A caller's new requests do not become fewer.

no_fewer : (caller : List ℕ) (news : List Request) (r : Request) (new : Bool) → length (filter (is_of caller) news) ≤ length (filter (is_of caller) (if new then news ++ r ∷ [] else news))
no_fewer caller news r true =
    let more = ap length (filter-append (is_of caller) news (r ∷ [])) ∙ length-append (filter (is_of caller) news) (filter (is_of caller) (r ∷ [])) in
    omega (arith, more)
no_fewer caller news r false = omega arith

grows : (c : Contents) (caller : List ℕ) (news rs : List Request) → length (filter (is_of caller) news) ≤ length (filter (is_of caller) (news_after c news rs))
grows c caller news [] = omega arith
grows c caller news (r ∷ rs) =
    let one = no_fewer caller news r (is_new c news r) in
    let ih = grows c caller (if is_new c news r then news ++ r ∷ [] else news) rs in
    omega (arith, one, ih)

-- a number that is answered as settled is no higher than the caller's count
reached : (c : Contents) (news : List Request) (r : Request) (new old : Bool) (said kept : Reply) → is_new c news r ≡ new → nat_lt r.number (next_number c news r.caller) ≡ old
    → IsSettledStatus (if new then said else (if old then kept else ahead_reply (next_number c news r.caller))).status
    → r.number ≤ count_of c r.caller + length (filter (is_of r.caller) (if new then news ++ r ∷ [] else news))
reached c news r true old said kept e o s =
    let number : r.number ≡ next_number c news r.caller = (Decides-eqb r.number (next_number c news r.caller)).0 e in
    let more = ap length (filter_one r.caller news r true ((bytes_eq-Decides r.caller r.caller).1 refl)) ∙ length-append (filter (is_of r.caller) news) (r ∷ []) in
    omega (arith, number, more)
reached c news r false true said kept e o s =
    let less : r.number < next_number c news r.caller = ltb-true r.number (next_number c news r.caller) o in
    omega (arith, less)
reached c news r false false said kept e o s =
    elim s [ inl accepted ↦ let no_way : Conflict ≡ Accepted = accepted in cc no_way | inr refused ↦ let no_way : Conflict ≡ Refused = refused in cc no_way ]

pub last_settles_all : LastSettlesAll
last_settles_all scripts c before rest r all is s =
    let es : List Event = before ++ event.Request r ∷ rest in
    let news : List Request = (if is_new c (news_of c before) r then news_of c before ++ r ∷ [] else news_of c before) in
    let here : r.number ≤ count_of c r.caller + length (filter (is_of r.caller) news) =
    reached c (news_of c before) r (is_new c (news_of c before) r) (nat_lt r.number (next_number c (news_of c before) r.caller))
    (apply (machine c.desk (settled_requests c before)).desk r.moment r.command).reply (repeat_reply (receipt_at (after c before) r.caller r.number) r.command) refl refl s in
    let on = grows c r.caller news (requests_of rest) in
    let whole : news_of c es ≡ news_after c news (requests_of rest) =
    ap (news_after c []) (requests_append before (event.Request r ∷ rest)) ∙ news_append c [] (requests_of before) (r ∷ requests_of rest) in
    let long = ap (λ (rs : List Request). length (filter (is_of r.caller) rs)) whole in
    let settled = settles_first scripts c es r.caller all in
    let count = settled.count in
    let within = settled.within in
    omega (arith, here, on, long, count, within, is)
