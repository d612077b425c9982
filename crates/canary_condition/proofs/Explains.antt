-- What is noted of a text is why it is no condition, and where.
use Rattle.std.proofs.Common.{◌≡◌, ℕ, zero, suc, ◌-◌, ◌<◌, ◌≤◌, Bool, true, false, List, [], ◌∷◌, ◌++◌, length, get_or, Option, Some, None, refl, sym, ap, ◌∙◌, subst, append_assoc, arith, inl, inr, ◌⊎◌}
use Rattle.std.specs.Prelude.{option_map, nat_lt, if◌then◌else◌, slice_index, MatchOption}
use Rattle.std.specs.List.{list_any}
use Rattle.std.proofs.lemmas.Bool.{false≢true}
use Rattle.std.proofs.lemmas.Bool.Decides.{nat_tests}
use Rattle.std.proofs.lemmas.List.{append-nil, length-append}
use Rattle.std.proofs.lemmas.List.Sums.{fold-append}
use Rattle.canary_condition.specs.declared.condition.Comparison.TheVariants.{Equal}
use Rattle.canary_condition.specs.declared.explanation.TokenProgress.{TokenProgress}
use Rattle.canary_condition.specs.declared.explanation.TokenProgress.TheVariants.{At, Stopped}
use Rattle.canary_condition.specs.declared.explanation.Expected.{Expected}
use Rattle.canary_condition.specs.declared.explanation.Explained.{Explained}
use Rattle.canary_condition.specs.declared.explanation.TokenNotes.{TokenNotes}
use Rattle.canary_condition.specs.declared.explanation.Why.TheVariants.{NoToken, NumberRange, TooDeep, Syntax}
use Rattle.canary_condition.specs.declared.token_place.TokenPlace.{TokenPlace}
use Rattle.canary_condition.specs.declared.token_place.TokenPlace.TheVariants.{Term}
use Rattle.canary_condition.specs.declared.token.Token.{Token}
use Rattle.canary_condition.specs.declared.token.Token.TheVariants.{Compares, OutOfRange}
use Rattle.canary_condition.specs.Trees.{Tree}
use Rattle.canary_condition.specs.Tokens.{is_blank, front_token, tokens_after, tokens_of}
use Rattle.canary_condition.specs.Spelling.{Spells, with_token, open_brackets, depth}
use Rattle.canary_condition.specs.Spelling.Level.{AtOr}
use Rattle.canary_condition.specs.Reading.{IsInRange, IsWithinLimits, is_out_of_range}
use Rattle.canary_condition.specs.Fronts.{IsFront, IsLongestFront, IsExpectedAfter, may_end, begins_after, begins, last_of}
use Rattle.canary_condition.specs.Following.{next, expected, course_after, first_of, start, noted, end_at, course_end, finished, explain_after}
use Rattle.canary_condition.specs.Explaining.{IsExplained, IsACondition}
use Rattle.canary_condition.proofs.Depth.{found, finds, depth-push}
use Rattle.canary_condition.proofs.Running.{run, run_on, run_append, front_leads, run_front, run_whole, ended_there, expected_there, not_both}

-- ---- from a text to its tokens and their bytes

-- the notes of all tokens, each with its byte
abbrev noted_all : TokenNotes → List Token → List ℕ → TokenNotes
noted_all s [] bs = s
noted_all s (t ∷ ts) [] = s
noted_all s (t ∷ ts) (b ∷ bs) = noted_all (noted s b t) ts bs

abbrev explained_by : TokenNotes → Option (List Token) → List ℕ → Option Explained
explained_by s None bs = Some (record { at = last_of 0 bs; why = NoToken })
explained_by s (Some ts) bs = finished (noted_all s ts bs) (last_of 0 bs)

last_same : (text : List ℕ) (n at x y : ℕ) → last_of x (begins_after at n text) ≡ last_of y (begins_after at n text)
last_same [] n at x y = refl
last_same (b ∷ text) (suc n) at x y = last_same text n (suc at) x y
last_same (b ∷ text) zero at x y =
    elim (is_blank b) as (λ k. last_of x (elim k [ true ↦ begins_after (suc at) 0 text | false ↦ elim (front_token (b ∷ text)) [ None ↦ at ∷ [] | Some front ↦ at ∷ begins_after (suc at) (front.1 - 1) text ] ]) ≡ last_of y (elim k [ true ↦ begins_after (suc at) 0 text | false ↦ elim (front_token (b ∷ text)) [ None ↦ at ∷ [] | Some front ↦ at ∷ begins_after (suc at) (front.1 - 1) text ] ])) [
      | true ↦ last_same text 0 (suc at) x y
      | false ↦ elim (front_token (b ∷ text)) as (λ f. last_of x (elim f [ None ↦ at ∷ [] | Some front ↦ at ∷ begins_after (suc at) (front.1 - 1) text ]) ≡ last_of y (elim f [ None ↦ at ∷ [] | Some front ↦ at ∷ begins_after (suc at) (front.1 - 1) text ])) [
        | None ↦ refl
        | Some front ↦ refl
      ]
    ]

cons_explained : (s : TokenNotes) (t : Token) (at : ℕ) (bs : List ℕ) (ts : Option (List Token)) → last_of at bs ≡ last_of 0 bs → explained_by (noted s at t) ts bs ≡ explained_by s (option_map (λ (r : List Token). t ∷ r) ts) (at ∷ bs)
cons_explained s t at bs None e = ap (λ (k : ℕ). Some (record { at = k; why = NoToken })) (sym e)
cons_explained s t at bs (Some ts) e = ap (finished (noted_all (noted s at t) ts bs)) (sym e)

text_explained : (text : List ℕ) (n at : ℕ) (s : TokenNotes) → explain_after s at n text ≡ explained_by s (tokens_after n text) (begins_after at n text)
text_explained [] n at s = refl
text_explained (b ∷ text) (suc n) at s = text_explained text n (suc at) s
text_explained (b ∷ text) zero at s =
    let by_token : Option (Token × ℕ) → Option Explained = λ (f : Option (Token × ℕ)). elim f [ None ↦ Some (record { at = at; why = NoToken }) | Some front ↦ explain_after (noted s at front.0) (suc at) (front.1 - 1) text ] in
    let tokens_by : Option (Token × ℕ) → Option (List Token) = λ (f : Option (Token × ℕ)). elim f [ None ↦ None | Some front ↦ option_map (λ (ts : List Token). front.0 ∷ ts) (tokens_after (front.1 - 1) text) ] in
    let begins_by : Option (Token × ℕ) → List ℕ = λ (f : Option (Token × ℕ)). elim f [ None ↦ at ∷ [] | Some front ↦ at ∷ begins_after (suc at) (front.1 - 1) text ] in
    elim (is_blank b) as (λ k. elim k [ true ↦ explain_after s (suc at) 0 text | false ↦ by_token (front_token (b ∷ text)) ] ≡ explained_by s (elim k [ true ↦ tokens_after 0 text | false ↦ tokens_by (front_token (b ∷ text)) ]) (elim k [ true ↦ begins_after (suc at) 0 text | false ↦ begins_by (front_token (b ∷ text)) ])) [
      | true ↦ text_explained text 0 (suc at) s
      | false ↦ elim (front_token (b ∷ text)) as (λ f. by_token f ≡ explained_by s (tokens_by f) (begins_by f)) [
        | None ↦ refl
        | Some front ↦
            text_explained text (front.1 - 1) (suc at) (noted s at front.0)
            ∙ cons_explained s front.0 at (begins_after (suc at) (front.1 - 1) text) (tokens_after (front.1 - 1) text) (last_same text (front.1 - 1) (suc at) at 0)
      ]
    ]

-- a text has a byte more than tokens
abbrev CountedBy : Option (List Token) → List ℕ → Type 0
CountedBy None bs = Unit {0}
CountedBy (Some ts) bs = length bs ≡ suc (length ts)

cons_counted : (t : Token) (at : ℕ) (ts : Option (List Token)) (bs : List ℕ) → CountedBy ts bs → CountedBy (option_map (λ (r : List Token). t ∷ r) ts) (at ∷ bs)
cons_counted t at None bs h = tt
cons_counted t at (Some ts) bs h = omega (arith, h)

counted : (text : List ℕ) (n at : ℕ) → CountedBy (tokens_after n text) (begins_after at n text)
counted [] n at = refl
counted (b ∷ text) (suc n) at = counted text n (suc at)
counted (b ∷ text) zero at =
    let tokens_by : Option (Token × ℕ) → Option (List Token) = λ (f : Option (Token × ℕ)). elim f [ None ↦ None | Some front ↦ option_map (λ (ts : List Token). front.0 ∷ ts) (tokens_after (front.1 - 1) text) ] in
    let begins_by : Option (Token × ℕ) → List ℕ = λ (f : Option (Token × ℕ)). elim f [ None ↦ at ∷ [] | Some front ↦ at ∷ begins_after (suc at) (front.1 - 1) text ] in
    elim (is_blank b) as (λ k. CountedBy (elim k [ true ↦ tokens_after 0 text | false ↦ tokens_by (front_token (b ∷ text)) ]) (elim k [ true ↦ begins_after (suc at) 0 text | false ↦ begins_by (front_token (b ∷ text)) ])) [
      | true ↦ counted text 0 (suc at)
      | false ↦ elim (front_token (b ∷ text)) as (λ f. CountedBy (tokens_by f) (begins_by f)) [
        | None ↦ tt
        | Some front ↦ cons_counted front.0 at (tokens_after (front.1 - 1) text) (begins_after (suc at) (front.1 - 1) text) (counted text (front.1 - 1) (suc at))
      ]
    ]

last_is : (bs : List ℕ) (x n : ℕ) → length bs ≡ suc n → last_of x bs ≡ slice_index bs n
last_is [] x n e = absurd (omega (arith, e))
last_is (b ∷ []) x zero e = refl
last_is (b ∷ []) x (suc n) e = absurd (omega (arith, e))
last_is (b ∷ c ∷ bs) x zero e = absurd (omega (arith, e))
last_is (b ∷ c ∷ bs) x (suc n) e = last_is (c ∷ bs) b n (omega (arith, e))

-- ---- the first token of which something holds

-- the byte of the first token of which it holds, of those after the tokens `done`
abbrev first_all : (List Token → Token → Bool) → Option ℕ → List Token → List Token → List ℕ → Option ℕ
first_all P o done [] bs = o
first_all P o done (t ∷ ts) [] = o
first_all P o done (t ∷ ts) (b ∷ bs) = first_all P (first_of o (P done t) b) (done ++ t ∷ []) ts bs

first_kept : (P : List Token → Token → Bool) (at : ℕ) (done ts : List Token) (bs : List ℕ) → first_all P (Some at) done ts bs ≡ Some at
first_kept P at done [] bs = refl
first_kept P at done (t ∷ ts) [] = refl
first_kept P at done (t ∷ ts) (b ∷ bs) = first_kept P at (done ++ t ∷ []) ts bs

-- it holds of none of these tokens
abbrev Never : (List Token → Token → Bool) → List Token → List Token → Type 0
Never P done [] = Unit {0}
Never P done (t ∷ ts) = (P done t ≡ false) × Never P (done ++ t ∷ []) ts

record FirstAt (P : List Token → Token → Bool) (done ts : List Token) (bs : List ℕ) (at : ℕ) : Type 0 where
  front : List Token
  t : Token
  rest : List Token
  are : ts ≡ front ++ t ∷ rest
  at_is : at ≡ slice_index bs (length front)
  before : Never P done front
  holds : P (done ++ front) t ≡ true

abbrev FirstBy : (List Token → Token → Bool) → List Token → List Token → List ℕ → Option ℕ → Type 0
FirstBy P done ts bs None = Never P done ts
FirstBy P done ts bs (Some at) = FirstAt P done ts bs at

one_before : (P : List Token → Token → Bool) (done ts : List Token) (bs : List ℕ) (t : Token) (b : ℕ) (o : Option ℕ) → P done t ≡ false → FirstBy P (done ++ t ∷ []) ts bs o → FirstBy P done (t ∷ ts) (b ∷ bs) o
one_before P done ts bs t b None e h = (e, h)
one_before P done ts bs t b (Some at) e h =
    record {
      front = t ∷ h.front;
      t = h.t;
      rest = h.rest;
      are = ap (λ (r : List Token). t ∷ r) h.are;
      at_is = h.at_is;
      before = (e, h.before);
      holds = ap (λ (r : List Token). P r h.t) (sym (append_assoc done (t ∷ []) h.front)) ∙ h.holds;
    }

first_found : (P : List Token → Token → Bool) (ts done : List Token) (bs : List ℕ) → length bs ≡ suc (length ts) → FirstBy P done ts bs (first_all P None done ts bs)
first_found P [] done bs e = tt
first_found P (t ∷ ts) done [] e = absurd (omega (arith, e))
first_found P (t ∷ ts) done (b ∷ bs) e =
    elim (P done t) as (λ h. P done t ≡ h → FirstBy P done (t ∷ ts) (b ∷ bs) (first_all P (if h then Some b else None) (done ++ t ∷ []) ts bs)) [
      | true ↦ λ h.
          subst (FirstBy P done (t ∷ ts) (b ∷ bs)) (sym (first_kept P b (done ++ t ∷ []) ts bs))
          (record { front = []; t = t; rest = ts; are = refl; at_is = refl; before = tt; holds = ap (λ (r : List Token). P r t) (append-nil done) ∙ h })
      | false ↦ λ h. one_before P done ts bs t b (first_all P None (done ++ t ∷ []) ts bs) h (first_found P ts (done ++ t ∷ []) bs (omega (arith, e)))
    ] refl

-- a number out of range
abbrev is_number_out : List Token → Token → Bool
is_number_out done t = is_out_of_range t

-- more than 32 brackets
abbrev is_deep : List Token → Token → Bool
is_deep done t = nat_lt 32 (open_brackets (done ++ t ∷ []))

opened_more : (done : List Token) (n : ℕ) (t : Token) → n ≡ open_brackets done → with_token n t ≡ open_brackets (done ++ t ∷ [])
opened_more done n t e = ap (λ (k : ℕ). with_token k t) e ∙ sym (fold-append with_token 0 done (t ∷ []))

numbers_noted : (ts : List Token) (bs : List ℕ) (s : TokenNotes) (done : List Token) → (noted_all s ts bs).number ≡ first_all is_number_out s.number done ts bs
numbers_noted [] bs s done = refl
numbers_noted (t ∷ ts) [] s done = refl
numbers_noted (t ∷ ts) (b ∷ bs) s done = numbers_noted ts bs (noted s b t) (done ++ t ∷ [])

brackets_noted : (ts : List Token) (bs : List ℕ) (s : TokenNotes) (done : List Token) → s.opened ≡ open_brackets done → (noted_all s ts bs).bracket ≡ first_all is_deep s.bracket done ts bs
brackets_noted [] bs s done e = refl
brackets_noted (t ∷ ts) [] s done e = refl
brackets_noted (t ∷ ts) (b ∷ bs) s done e =
    let more : with_token s.opened t ≡ open_brackets (done ++ t ∷ []) = opened_more done s.opened t e in
    brackets_noted ts bs (noted s b t) (done ++ t ∷ []) more ∙ ap (λ (k : ℕ). first_all is_deep (first_of s.bracket (nat_lt 32 k) b) (done ++ t ∷ []) ts bs) more

-- none out of range
never_any : (done ts : List Token) → Never is_number_out done ts → list_any is_out_of_range ts ≡ false
never_any done [] h = refl
never_any done (t ∷ ts) h = simp (h.0, never_any (done ++ t ∷ []) ts h.1) refl

in_range : (done ts : List Token) → Never is_number_out done ts → IsInRange ts
in_range done ts h k = false≢true (sym (never_any done ts h) ∙ finds ts k.0 k.1 k.2)

-- none too deep
not_deep : (n : ℕ) → nat_lt 32 n ≡ false → n ≤ 32
not_deep n e = grind (arith, nat_tests)

deep : (n : ℕ) → nat_lt 32 n ≡ true → 32 < n
deep n e = grind (arith, nat_tests)

shallow : (ts done : List Token) → depth done ≤ 32 → Never is_deep done ts → depth (done ++ ts) ≤ 32
shallow [] done h n = subst (λ (r : List Token). depth r ≤ 32) (sym (append-nil done)) h
shallow (t ∷ ts) done h n =
    let one : depth (done ++ t ∷ []) ≤ 32 = omega (arith, depth-push done t, not_deep (open_brackets (done ++ t ∷ [])) n.0) in
    subst (λ (r : List Token). depth r ≤ 32) (append_assoc done (t ∷ []) ts) (shallow ts (done ++ t ∷ []) one n.1)

-- ---- how far the tokens go

-- at this byte stands a token that may not stand there
record StopsAt (from : TokenPlace) (n : ℕ) (ts : List Token) (bs : List ℕ) (at : ℕ) (e : Expected) : Type 0 where
  front : List Token
  t : Token
  rest : List Token
  place : TokenPlace
  opened : ℕ
  are : ts ≡ front ++ t ∷ rest
  runs : run from n front ≡ Some (place, opened)
  stuck : next place opened t ≡ None
  expected_is : e ≡ expected place opened
  at_is : at ≡ slice_index bs (length front)

abbrev CourseBy : TokenPlace → ℕ → List Token → List ℕ → TokenProgress → ℕ → Type 0
CourseBy from n ts bs (At place) opened = run from n ts ≡ Some (place, opened)
CourseBy from n ts bs (Stopped at e) opened = StopsAt from n ts bs at e

stopped_kept : (ts : List Token) (bs : List ℕ) (s : TokenNotes) (at : ℕ) (e : Expected) → s.course ≡ Stopped at e → (noted_all s ts bs).course ≡ Stopped at e
stopped_kept [] bs s at e h = h
stopped_kept (t ∷ ts) [] s at e h = h
stopped_kept (t ∷ ts) (b ∷ bs) s at e h = stopped_kept ts bs (noted s b t) at e (ap (λ (c : TokenProgress). course_after c s.opened b t) h)

one_run : (from after : TokenPlace) (n : ℕ) (t : Token) (ts : List Token) → next from n t ≡ Some after → run from n (t ∷ ts) ≡ run after (with_token n t) ts
one_run from after n t ts e = ap (λ (r : Option TokenPlace). elim r [ None ↦ None | Some after ↦ run after (with_token n t) ts ]) e

one_on : (from after : TokenPlace) (n : ℕ) (t : Token) (ts : List Token) (b : ℕ) (bs : List ℕ) (c : TokenProgress) (opened : ℕ) → next from n t ≡ Some after → CourseBy after (with_token n t) ts bs c opened → CourseBy from n (t ∷ ts) (b ∷ bs) c opened
one_on from after n t ts b bs (At place) opened e h = one_run from after n t ts e ∙ h
one_on from after n t ts b bs (Stopped at x) opened e h =
    record {
      front = t ∷ h.front;
      t = h.t;
      rest = h.rest;
      place = h.place;
      opened = h.opened;
      are = ap (λ (r : List Token). t ∷ r) h.are;
      runs = one_run from after n t h.front e ∙ h.runs;
      stuck = h.stuck;
      expected_is = h.expected_is;
      at_is = h.at_is;
    }

courses : (ts : List Token) (bs : List ℕ) (s : TokenNotes) (from : TokenPlace) → length bs ≡ suc (length ts) → s.course ≡ At from → CourseBy from s.opened ts bs (noted_all s ts bs).course (noted_all s ts bs).opened
courses [] bs s from e h = subst (λ (c : TokenProgress). CourseBy from s.opened [] bs c s.opened) (sym h) refl
courses (t ∷ ts) [] s from e h = absurd (omega (arith, e))
courses (t ∷ ts) (b ∷ bs) s from e h =
    let after_is : (noted s b t).course ≡ course_after (At from) s.opened b t = ap (λ (c : TokenProgress). course_after c s.opened b t) h in
    let all : TokenNotes = noted_all (noted s b t) ts bs in
    elim (next from s.opened t) as (λ r. next from s.opened t ≡ r → CourseBy from s.opened (t ∷ ts) (b ∷ bs) all.course all.opened) [
      | None ↦ λ stuck.
          let stops : (noted s b t).course ≡ Stopped b (expected from s.opened) = after_is ∙ ap (λ (r : Option TokenPlace). elim r [ None ↦ Stopped b (expected from s.opened) | Some after ↦ At after ]) stuck in
          subst (λ (c : TokenProgress). CourseBy from s.opened (t ∷ ts) (b ∷ bs) c all.opened) (sym (stopped_kept ts bs (noted s b t) b (expected from s.opened) stops))
          (record { front = []; t = t; rest = ts; place = from; opened = s.opened; are = refl; runs = refl; stuck = stuck; expected_is = refl; at_is = refl })
      | Some after ↦ λ goes.
          let on : (noted s b t).course ≡ At after = after_is ∙ ap (λ (r : Option TokenPlace). elim r [ None ↦ Stopped b (expected from s.opened) | Some after ↦ At after ]) goes in
          one_on from after s.opened t ts b bs all.course all.opened goes (courses ts bs (noted s b t) after (omega (arith, e)) on)
    ] refl

-- ---- the longest front

same_head : (a b : Token) (s t : List Token) → a ∷ s ≡ b ∷ t → a ≡ b
same_head a b s t e = ap (λ (r : List Token). get_or r 0 (Compares Equal)) e

same_tail : (a b : Token) (s t : List Token) → a ∷ s ≡ b ∷ t → s ≡ t
same_tail a b s t e = ap (λ (r : List Token). elim r [ [] ↦ s | x ∷ xs ↦ xs ]) e

-- a front is no longer, or goes over the next token
longer : (front other rest more : List Token) (t : Token) → front ++ t ∷ more ≡ other ++ rest → (length other ≤ length front) ⊎ ((behind : List Token) × (other ≡ front ++ t ∷ behind))
longer front [] rest more t e = inl (omega arith)
longer [] (u ∷ other) rest more t e = inr (other, ap (λ (x : Token). x ∷ other) (sym (same_head t u more (other ++ rest) e)))
longer (f ∷ front) (u ∷ other) rest more t e =
    let heads : f ≡ u = same_head f u (front ++ t ∷ more) (other ++ rest) e in
    elim (longer front other rest more t (same_tail f u (front ++ t ∷ more) (other ++ rest) e)) [
      | inl h ↦ inl (omega (arith, h))
      | inr h ↦ inr (h.0, ap (λ (x : Token). x ∷ other) (sym heads) ∙ ap (λ (r : List Token). f ∷ r) h.1)
    ]

run_stuck : (front behind : List Token) (t : Token) (place : TokenPlace) (opened : ℕ) → run Term 0 front ≡ Some (place, opened) → next place opened t ≡ None → run Term 0 (front ++ t ∷ behind) ≡ None
run_stuck front behind t place opened runs stuck =
    run_append front (t ∷ behind) Term 0 ∙ ap (λ (r : Option (TokenPlace × ℕ)). run_on r (t ∷ behind)) runs
    ∙ ap (λ (r : Option TokenPlace). elim r [ None ↦ None | Some after ↦ run after (with_token opened t) behind ]) stuck

stuck_no_front : (front behind : List Token) (t : Token) (place : TokenPlace) (opened : ℕ) → run Term 0 front ≡ Some (place, opened) → next place opened t ≡ None → IsFront (front ++ t ∷ behind) → ⊥
stuck_no_front front behind t place opened runs stuck h =
    let l = front_leads (front ++ t ∷ behind) h in
    not_both (run Term 0 (front ++ t ∷ behind)) (l.place, l.opened) (run_stuck front behind t place opened runs stuck) l.runs

-- up to a token that may not stand
longest_stopped : (front more : List Token) (t : Token) (place : TokenPlace) (opened : ℕ) → run Term 0 front ≡ Some (place, opened) → next place opened t ≡ None → IsLongestFront front (front ++ t ∷ more)
longest_stopped front more t place opened runs stuck = (
  run_front front place opened runs,
  λ other rest e h.
      elim (longer front other rest more t e) [
        | inl k ↦ k
        | inr k ↦ absurd (stuck_no_front front k.0 t place opened runs stuck (subst IsFront k.1 h))
      ],
)

-- all of them
longest_whole : (ts : List Token) → IsFront ts → IsLongestFront ts (ts ++ [])
longest_whole ts h = (h, λ other rest e k. omega (arith, ap (λ (r : List Token). length r) e, length-append ts [], length-append other rest))

-- ---- the whole

-- what the answer says of the text
abbrev pub Explains : List ℕ → Option Explained → Type 0
Explains text r = MatchOption r (IsACondition text) (λ e. IsExplained text e)

is_out : (t : Token) → is_out_of_range t ≡ true → t ≡ OutOfRange
is_out OutOfRange e = refl
is_out t e = absurd (false≢true e)

any_out : (front rest : List Token) → list_any is_out_of_range (front ++ OutOfRange ∷ rest) ≡ true
any_out [] rest = refl
any_out (OutOfRange ∷ front) rest = refl
any_out (t ∷ front) rest = any_out front rest

deeper : (more ts : List Token) → depth ts ≤ depth (ts ++ more)
deeper [] ts = subst (λ (r : List Token). depth ts ≤ depth r) (sym (append-nil ts)) (omega arith)
deeper (t ∷ more) ts =
    let rest : depth (ts ++ t ∷ []) ≤ depth (ts ++ t ∷ more) = subst (λ (r : List Token). depth (ts ++ t ∷ []) ≤ depth r) (append_assoc ts (t ∷ []) more) (deeper more (ts ++ t ∷ [])) in
    omega (arith, depth-push ts t, rest)

number_out : (text : List ℕ) (ts : List Token) (at : ℕ) → length text ≤ 1024 → tokens_of text ≡ Some ts → FirstAt is_number_out [] ts (begins text) at → IsExplained text (record { at = at; why = NumberRange })
number_out text ts at short e f =
    let out : f.t ≡ OutOfRange = is_out f.t f.holds in
    let all : ts ≡ f.front ++ OutOfRange ∷ f.rest = f.are ∙ ap (λ (t : Token). f.front ++ t ∷ f.rest) out in
    ((short, ts, e, found ts (ap (list_any is_out_of_range) all ∙ any_out f.front f.rest)), (f.front, OutOfRange ∷ f.rest, e ∙ ap Some all, f.at_is, (in_range [] f.front f.before, f.rest, refl)))

bracket_out : (text : List ℕ) (ts : List Token) (at : ℕ) → length text ≤ 1024 → tokens_of text ≡ Some ts → IsInRange ts → FirstAt is_deep [] ts (begins text) at → IsExplained text (record { at = at; why = TooDeep })
bracket_out text ts at short e range f =
    let over : 32 < depth (f.front ++ f.t ∷ []) = omega (arith, depth-push f.front f.t, deep (open_brackets (f.front ++ f.t ∷ [])) f.holds) in
    let all : ts ≡ (f.front ++ f.t ∷ []) ++ f.rest = f.are ∙ sym (append_assoc f.front (f.t ∷ []) f.rest) in
    let grows : depth (f.front ++ f.t ∷ []) ≤ depth ts = subst (λ (r : List Token). depth (f.front ++ f.t ∷ []) ≤ depth r) (sym all) (deeper f.rest (f.front ++ f.t ∷ [])) in
    ((short, ts, e, (range, omega (arith, over, grows))), (f.front, f.t ∷ f.rest, e ∙ ap Some f.are, f.at_is, (shallow f.front [] (omega arith) f.before, f.t, f.rest, refl, over)))

stopped_out : (text : List ℕ) (ts : List Token) (at : ℕ) (x : Expected) → length text ≤ 1024 → tokens_of text ≡ Some ts → IsWithinLimits ts → StopsAt Term 0 ts (begins text) at x → IsExplained text (record { at = at; why = Syntax x })
stopped_out text ts at x short e within f =
    let no_tree : (tree : Tree) → ¬ Spells tree AtOr ts = λ tree h. stuck_no_front f.front f.rest f.t f.place f.opened f.runs f.stuck (subst IsFront f.are ([], (tree, subst (Spells tree AtOr) (sym (append-nil ts)) h))) in (
      inr (short, ts, e, (within, no_tree)),
      (
        f.front,
        f.t ∷ f.rest,
        e ∙ ap Some f.are,
        f.at_is,
        (longest_stopped f.front f.rest f.t f.place f.opened f.runs f.stuck, subst (IsExpectedAfter f.front) (sym f.expected_is) (expected_there f.front f.place f.opened f.runs)),
      ),
    )

end_out : (text : List ℕ) (ts : List Token) (place : TokenPlace) (opened : ℕ) → length text ≤ 1024 → tokens_of text ≡ Some ts → length (begins text) ≡ suc (length ts) → IsWithinLimits ts → run Term 0 ts ≡ Some (place, opened) → Explains text (end_at (expected place opened) (last_of 0 (begins text)))
end_out text ts place opened short e count within runs =
    elim (may_end (expected place opened)) as (λ b. may_end (expected place opened) ≡ b → Explains text (if b then None else Some (record { at = last_of 0 (begins text); why = Syntax (expected place opened) }))) [
      | true ↦ λ may. let w = run_whole ts place opened runs may in (w.0, (short, ts, e, (within, w.1)))
      | false ↦ λ may.
          let no_tree : (tree : Tree) → ¬ Spells tree AtOr ts = λ tree h. false≢true (sym may ∙ ended_there ts place opened runs (tree, h)) in
          (inr (short, ts, e, (within, no_tree)), (ts, [], e ∙ ap Some (sym (append-nil ts)), last_is (begins text) 0 (length ts) count, (longest_whole ts (run_front ts place opened runs), expected_there ts place opened runs)))
    ] refl

course_out : (text : List ℕ) (ts : List Token) (course : TokenProgress) (opened : ℕ) → length text ≤ 1024 → tokens_of text ≡ Some ts → length (begins text) ≡ suc (length ts) → IsWithinLimits ts → CourseBy Term 0 ts (begins text) course opened → Explains text (course_end course opened (last_of 0 (begins text)))
course_out text ts (At place) opened short e count within h = end_out text ts place opened short e count within h
course_out text ts (Stopped at x) opened short e count within h = stopped_out text ts at x short e within h

tokens_out : (text : List ℕ) (ts : List Token) → length text ≤ 1024 → tokens_of text ≡ Some ts → length (begins text) ≡ suc (length ts) → Explains text (finished (noted_all start ts (begins text)) (last_of 0 (begins text)))
tokens_out text ts short e count =
    let s : TokenNotes = noted_all start ts (begins text) in
    let end : ℕ = last_of 0 (begins text) in
    let numbers : FirstBy is_number_out [] ts (begins text) s.number = subst (FirstBy is_number_out [] ts (begins text)) (sym (numbers_noted ts (begins text) start [])) (first_found is_number_out ts [] (begins text) count) in
    let brackets : FirstBy is_deep [] ts (begins text) s.bracket = subst (FirstBy is_deep [] ts (begins text)) (sym (brackets_noted ts (begins text) start [] refl)) (first_found is_deep ts [] (begins text) count) in
    elim s.number as (λ o. FirstBy is_number_out [] ts (begins text) o → Explains text (elim o [ Some at ↦ Some (record { at = at; why = NumberRange }) | None ↦ elim s.bracket [ Some at ↦ Some (record { at = at; why = TooDeep }) | None ↦ course_end s.course s.opened end ] ])) [
      | Some at ↦ λ f. number_out text ts at short e f
      | None ↦ λ f.
          let range : IsInRange ts = in_range [] ts f in
          elim s.bracket as (λ o. FirstBy is_deep [] ts (begins text) o → Explains text (elim o [ Some at ↦ Some (record { at = at; why = TooDeep }) | None ↦ course_end s.course s.opened end ])) [
            | Some at ↦ λ g. bracket_out text ts at short e range g
            | None ↦ λ g. course_out text ts s.course s.opened short e count (range, shallow ts [] (omega arith) g) (courses ts (begins text) start Term count refl)
          ] brackets
    ] numbers

-- what is answered of a text that is not too long
pub explains : (text : List ℕ) (r : Option Explained) → length text ≤ 1024 → r ≡ explain_after start 0 0 text → Explains text r
explains text r short r_is =
    let by_tokens : Explains text (explained_by start (tokens_of text) (begins text)) =
    elim (tokens_of text) as (λ o. tokens_of text ≡ o → CountedBy o (begins text) → Explains text (explained_by start o (begins text))) [
      | None ↦ λ e _. (inl (short, e), (e, refl))
      | Some ts ↦ λ e count. tokens_out text ts short e count
    ] refl (counted text 0 0)
    in
    subst (Explains text) (sym (r_is ∙ text_explained text 0 0 start)) by_tokens
