-- What is settled of requests that are drawn from scripts are prefixes of these.
use Rattle.std.proofs.Common.{◌≡◌, ℕ, suc, ◌≤◌, List, [], ◌∷◌, ◌++◌, length, Bool, true, false, Some, refl, sym, ap, ◌∙◌, subst, arith, append-nil, length-append}
use Rattle.std.specs.Prelude.{if◌then◌else◌, map, filter, take, cond, slice_get}
use Rattle.std.specs.List.{AllByRecursion}
use Rattle.std.specs.Str.{bytes_eq}
use Rattle.std.proofs.lemmas.Slice.Eq.{bytes_eq-Decides}
use Rattle.std.proofs.lemmas.Bool.Decides.{Decides-eqb}
use Rattle.std.proofs.lemmas.List.{length-map, map-append}
use Rattle.std.proofs.lemmas.List.Elements.{filter-append}
use Rattle.canary_plan.specs.declared.command.Command.{Command}
use Rattle.canary_once.specs.declared.event.Request.{Request}
use Rattle.canary_once.specs.declared.event.Event.{Event}
use Rattle.canary_once.specs.declared.event.Event.TheVariants as event
use Rattle.canary_once.specs.Contents.{Contents}
use Rattle.canary_once.specs.Answers.{requests_of, is_of, is_new, next_number, news_after, news_of}
use Rattle.canary_client_laws.specs.Senders.{Scripts, IsDrawn, AreDrawn, commands_of, SettlesFirst, SettleFirstParts}
use Rattle.canary_client_laws.proofs.Lists.{take_next, first_is_short}
use Rattle.canary_client_laws.proofs.Receipts.{count_after}

-- Lists of events.

pub requests_append : (first rest : List Event) → requests_of (first ++ rest) ≡ requests_of first ++ requests_of rest
requests_append [] rest = refl
requests_append (event.Request r ∷ first) rest = ap (λ (rs : List Request). r ∷ rs) (requests_append first rest)
requests_append (event.Query moment query ∷ first) rest = requests_append first rest

pub drawn_parts : (scripts : Scripts) (c : Contents) (first rest : List Event) → AreDrawn scripts c (first ++ rest) → AreDrawn scripts c first × AreDrawn scripts c rest
drawn_parts scripts c [] rest all = (tt, all)
drawn_parts scripts c (event.Request r ∷ first) rest all = let parts = drawn_parts scripts c first rest all.1 in ((all.0, parts.0), parts.1)
drawn_parts scripts c (event.Query moment query ∷ first) rest all = drawn_parts scripts c first rest all

pub drawn_append : (scripts : Scripts) (c : Contents) (first rest : List Event) → AreDrawn scripts c first → AreDrawn scripts c rest → AreDrawn scripts c (first ++ rest)
drawn_append scripts c [] rest f all = all
drawn_append scripts c (event.Request r ∷ first) rest f all = (f.0, drawn_append scripts c first rest f.1 all)
drawn_append scripts c (event.Query moment query ∷ first) rest f all = drawn_append scripts c first rest f all

pub news_append : (c : Contents) (news rs ss : List Request) → news_after c news (rs ++ ss) ≡ news_after c (news_after c news rs) ss
news_append c news [] ss = refl
news_append c news (r ∷ rs) ss = news_append c (if is_new c news r then news ++ r ∷ [] else news) rs ss

-- One new request more.

kept_one : (fs : List Request) (r : Request) (mine : Bool) → fs ++ cond mine (r ∷ []) [] ≡ (if mine then fs ++ r ∷ [] else fs)
kept_one fs r true = refl
kept_one fs r false = append-nil fs

pub filter_one : (caller : List ℕ) (news : List Request) (r : Request) (mine : Bool) → bytes_eq caller r.caller ≡ mine
    → filter (is_of caller) (news ++ r ∷ []) ≡ (if mine then filter (is_of caller) news ++ r ∷ [] else filter (is_of caller) news)
filter_one caller news r mine e =
    filter-append (is_of caller) news (r ∷ [])
    ∙ ap (λ b. filter (is_of caller) news ++ cond b (r ∷ []) []) e
    ∙ kept_one (filter (is_of caller) news) r mine

-- the requests have the first commands of a script
abbrev IsFirst : List Command → List Request → Type 0
IsFirst script fs = map (λ (r : Request). r.command) fs ≡ take (length fs) script

first_more : (script : List Command) (fs : List Request) (r : Request) → slice_get script (length fs) ≡ Some r.command → IsFirst script fs → IsFirst script (fs ++ r ∷ [])
first_more script fs r there first =
    let long : suc (length fs) ≡ length (fs ++ r ∷ []) = simp length-append (omega arith) in
    map-append (λ (x : Request). x.command) fs (r ∷ [])
    ∙ ap (λ (cs : List Command). cs ++ r.command ∷ []) first
    ∙ take_next script (length fs) r.command there
    ∙ ap (λ n. take n script) long

one_first : (scripts : Scripts) (c : Contents) (news : List Request) (r : Request) (caller : List ℕ) (new mine : Bool) → is_new c news r ≡ new → bytes_eq caller r.caller ≡ mine → IsDrawn scripts c r
    → IsFirst (scripts caller) (filter (is_of caller) news) → IsFirst (scripts caller) (filter (is_of caller) (if new then news ++ r ∷ [] else news))
one_first scripts c news r caller false mine e o drawn first = first
one_first scripts c news r caller true false e o drawn first = subst (IsFirst (scripts caller)) (sym (filter_one caller news r false o)) first
one_first scripts c news r caller true true e o drawn first =
    let same : caller ≡ r.caller = (bytes_eq-Decides caller r.caller).0 o in
    let next : r.number ≡ next_number c news r.caller = (Decides-eqb r.number (next_number c news r.caller)).0 e in
    let number = drawn.number in
    let long : length (filter (is_of caller) news) ≡ length (filter (is_of r.caller) news) = ap (λ (n : List ℕ). length (filter (is_of n) news)) same in
    let place : length (filter (is_of caller) news) ≡ drawn.place = omega (arith, next, number, long) in
    let there : slice_get (scripts caller) (length (filter (is_of caller) news)) ≡ Some r.command =
    ap (slice_get (scripts caller)) place ∙ ap (λ (n : List ℕ). slice_get (scripts n) drawn.place) same ∙ drawn.command in
    subst (IsFirst (scripts caller)) (sym (filter_one caller news r true o)) (first_more (scripts caller) (filter (is_of caller) news) r there first)

news_first : (scripts : Scripts) (c : Contents) (news rs : List Request) (caller : List ℕ) → AllByRecursion (IsDrawn scripts c) rs
    → IsFirst (scripts caller) (filter (is_of caller) news) → IsFirst (scripts caller) (filter (is_of caller) (news_after c news rs))
news_first scripts c news [] caller all first = first
news_first scripts c news (r ∷ rs) caller all first =
    news_first scripts c (if is_new c news r then news ++ r ∷ [] else news) rs caller all.1
    (one_first scripts c news r caller (is_new c news r) (bytes_eq caller r.caller) refl refl all.0 first)

-- a caller settles its new requests, and these have the first commands of its script
pub settles_first : (scripts : Scripts) (c : Contents) (es : List Event) (caller : List ℕ) → AreDrawn scripts c es → SettlesFirst (scripts caller) c es caller (length (filter (is_of caller) (news_of c es)))
settles_first scripts c es caller all =
    let fs : List Request = filter (is_of caller) (news_of c es) in
    let first : commands_of caller (news_of c es) ≡ take (length fs) (scripts caller) = news_first scripts c [] (requests_of es) caller all refl in
    let long : length (commands_of caller (news_of c es)) ≡ length fs = length-map fs (λ (r : Request). r.command) in
    let short : length (take (length fs) (scripts caller)) ≤ length (scripts caller) = first_is_short (length fs) (scripts caller) in
    let same : length (commands_of caller (news_of c es)) ≡ length (take (length fs) (scripts caller)) = ap length first in
    record { count = count_after c es caller; within = omega (arith, long, short, same); commands = first }

pub settle_first_parts : SettleFirstParts
settle_first_parts scripts c es all caller = (length (filter (is_of caller) (news_of c es)), settles_first scripts c es caller all)
