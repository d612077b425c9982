-- The words of a line are read back.
use Rattle.std.proofs.Common.{◌≡◌, ℕ, ◌<◌, ◌≤◌, ◌^◌, List, [], ◌∷◌, ◌++◌, length, get_or, suc, Bor, Result, Ok, Err, Bool, true, false, refl, sym, ap, ◌∙◌, subst, arith, rules}
use Rattle.std.specs.Prelude.{◌≢◌, Option, Some, None, option_map, nat_lt, nat_le, ◌==◌, ◌&&◌, if◌then◌else◌, codes, decimal}
use Rattle.std.specs.Option.{MatchOption}
use Rattle.std.specs.Result.{result_ok}
use Rattle.std.specs.Char.{is_ascii_digit}
use Rattle.std.specs.List.{list_all}
use Rattle.std.specs.Str.{bytes_eq}
use Rattle.std.specs.Str.Parse.{digits_value, ParsesUnsigned}
use Rattle.std.proofs.lemmas.Str.Parse.{IsNumeralModel, numerals_by_value, digit_at}
use Rattle.std.proofs.lemmas.Fmt.{decimal_is_IsNumeral, digits_value-decimal, parse-decimal}
use Rattle.std.proofs.lemmas.Str.Pattern.{IsSplitOnceResult, split_parts}
use Rattle.std.proofs.lemmas.Slice.Eq.{bytes_eq-Decides}
use Rattle.std.proofs.lemmas.Option.{none-some, same_Some}
use Rattle.std.proofs.lemmas.Bool.{false≢true}
use Rattle.std.proofs.lemmas.Bool.Decides.{nat_tests}
use Rattle.canary_condition.specs.PhaseTexts.{phase_text, phase_read}
use Rattle.canary_condition.specs.declared.outcome.Phase.{Phase}
use Rattle.canary_condition.specs.declared.outcome.Phase.TheVariants.{Pending, Running, Successful, Inconclusive, Error, Failed}
use Rattle.canary_base.specs.Names.{is_label}
use Rattle.canary_plan.specs.declared.line.LineEvent.{LineEvent}
use Rattle.canary_plan.specs.declared.line.LineEvent.TheVariants.{Created, Started, Retried, BackgroundOpened, WeightEntered, PauseEntered, TimedPauseEntered, AnalysisEntered, Completed, Ended, StepHeld, BackgroundHeld, Promoted, PromotedFull, Aborted, AbortedBy, Finished}
use Rattle.canary_plan.specs.Lines.{words, IsLineEvent, IsVersion, WordsReadBack}
use Rattle.canary_plan.specs.LineReading.{with_front, cut, version_of, number_if_printed, number_of, before_s, within_a_year, seconds_if, seconds_of, numbered_at, numbered, event_alone, entered_as, entered_at, entered, closed_at, closed, with_number, after_number_at, after_number, held, promoted, event_without_version, event_with, event_at, event_of}

own : IsNumeralModel (λ ds. list_all is_ascii_digit ds ≡ true) (digits_value 10)
own = numerals_by_value _ (search rules)

both : (a b : Bool) → (a && b) ≡ true → (a ≡ true) × (b ≡ true)
both true b e = (refl, e)
both false b e = absurd (false≢true e)

-- each part is read as it is written

same_text : (text : List ℕ) → bytes_eq text text ≡ true
same_text text = search (rules, bytes_eq-Decides)

pub number_again : (n : ℕ) → n < 2 ^ 32 → number_of (decimal n) ≡ Some n
number_again n h =
    let small : nat_lt n (2 ^ 32) ≡ true = grind (arith, nat_tests) in
    ap (number_if_printed (decimal n)) (digits_value-decimal own n (omega arith))
    ∙ ap (λ (b : Bool). if b && bytes_eq (decimal n) (decimal n) then Some n else None) small
    ∙ ap (λ (b : Bool). if b then Some n else None) (same_text (decimal n))

pub version_again : (text : List ℕ) → IsVersion text → version_of text ≡ Some text
version_again text h = ap (λ (b : Bool). if b then Some text else None) h

pub phase_again : (phase : Phase) → phase_read (phase_text phase) ≡ Some phase
phase_again Pending = refl
phase_again Running = refl
phase_again Successful = refl
phase_again Inconclusive = refl
phase_again Error = refl
phase_again Failed = refl

seconds_again : (n : ℕ) → n ≤ 31536000 → within_a_year (Some n) ≡ Some n
seconds_again n h = let small : nat_le n 31536000 ≡ true = grind (arith, nat_tests) in ap (λ (b : Bool). if b then Some n else None) small

-- the text before an `s`, and back

pub s_again : (front : List ℕ) → before_s (front ++ 115 ∷ []) ≡ Some front
s_again [] = refl
s_again (b ∷ []) = refl
s_again (b ∷ c ∷ front) = ap (option_map (λ (xs : List ℕ). b ∷ xs)) (s_again (c ∷ front))

last_s : (b : ℕ) (front : List ℕ) (t : Bool) → (b == 115) ≡ t → (if t then Some [] else None) ≡ Some front → b ∷ [] ≡ front ++ 115 ∷ []
last_s b front true e h = grind (arith, nat_tests, same_Some [] front h)
last_s b front false e h = absurd (none-some front h)

s_more : (b c : ℕ) (text front : List ℕ) → ((xs : List ℕ) → before_s (c ∷ text) ≡ Some xs → c ∷ text ≡ xs ++ 115 ∷ []) → (o : Option (List ℕ)) → before_s (c ∷ text) ≡ o → option_map (λ (xs : List ℕ). b ∷ xs) o ≡ Some front → b ∷ c ∷ text ≡ front ++ 115 ∷ []
s_more b c text front more None e h = absurd (none-some front h)
s_more b c text front more (Some xs) e h = subst (λ (f : List ℕ). b ∷ c ∷ text ≡ f ++ 115 ∷ []) (same_Some (b ∷ xs) front h) (ap (λ (l : List ℕ). b ∷ l) (more xs e))

pub s_found : (text front : List ℕ) → before_s text ≡ Some front → text ≡ front ++ 115 ∷ []
s_found [] front h = absurd (none-some front h)
s_found (b ∷ []) front h = last_s b front (b == 115) refl h
s_found (b ∷ c ∷ text) front h = s_more b c text front (s_found (c ∷ text)) (before_s (c ∷ text)) refl h

-- the parts round the first space, and back

pub cut_again : (xs ys : List ℕ) → ((i : ℕ) → i < length xs → get_or xs i 0 ≢ 32) → cut (xs ++ (32 ∷ ys)) ≡ Some (xs, ys)
cut_again [] ys h = refl
cut_again (b ∷ xs) ys h =
    let other : (b == 32) ≡ false = grind (arith, nat_tests, h 0 (omega arith)) in
    ap (λ (t : Bool). if t then Some ([], xs ++ (32 ∷ ys)) else with_front b (cut (xs ++ (32 ∷ ys)))) other
    ∙ ap (with_front b) (cut_again xs ys (λ i k. h (suc i) (omega arith)))

pub no_cut : (text : List ℕ) → ((i : ℕ) → i < length text → get_or text i 0 ≢ 32) → cut text ≡ None
no_cut [] h = refl
no_cut (b ∷ text) h =
    let other : (b == 32) ≡ false = grind (arith, nat_tests, h 0 (omega arith)) in
    ap (λ (t : Bool). if t then Some ([], text) else with_front b (cut text)) other
    ∙ ap (with_front b) (no_cut text (λ i k. h (suc i) (omega arith)))

cut_more : (b : ℕ) (text : List ℕ) (parts : List ℕ × List ℕ) → ((p : List ℕ × List ℕ) → cut text ≡ Some p → text ≡ p.0 ++ (32 ∷ p.1)) → (t : Bool) (o : Option (List ℕ × List ℕ)) → (b == 32) ≡ t → cut text ≡ o → (if t then Some ([], text) else with_front b o) ≡ Some parts → b ∷ text ≡ parts.0 ++ (32 ∷ parts.1)
cut_more b text parts more true o space e h =
    let is : b ≡ 32 = grind (arith, nat_tests) in
    subst (λ (p : List ℕ × List ℕ). b ∷ text ≡ p.0 ++ (32 ∷ p.1)) (same_Some ([], text) parts h) (ap (λ (n : ℕ). n ∷ text) is)
cut_more b text parts more false None space e h = absurd (none-some parts h)
cut_more b text parts more false (Some p) space e h = subst (λ (q : List ℕ × List ℕ). b ∷ text ≡ q.0 ++ (32 ∷ q.1)) (same_Some (b ∷ p.0, p.1) parts h) (ap (λ (l : List ℕ). b ∷ l) (more p e))

pub cut_found : (text : List ℕ) (parts : List ℕ × List ℕ) → cut text ≡ Some parts → text ≡ parts.0 ++ (32 ∷ parts.1)
cut_found [] parts h = absurd (none-some parts h)
cut_found (b ∷ text) parts h = cut_more b text parts (cut_found text) (b == 32) (cut text) refl refl h

cut_number : (n : ℕ) (rest : List ℕ) → n < 2 ^ 32 → cut (decimal n ++ (32 ∷ rest)) ≡ Some (decimal n, rest)
cut_number n rest h =
    let numeral = (decimal_is_IsNumeral n (omega arith)).0 in
    cut_again (decimal n) rest (λ i k e. omega (arith, digit_at (decimal n) i numeral.1 k, e))

-- the event of words is the one that they are the words of

step_again : (step : ℕ) (rest : List ℕ) → step < 2 ^ 32 → after_number entered (decimal step ++ (32 ∷ rest)) ≡ entered step rest
step_again step rest h = ap (after_number_at entered) (cut_number step rest h) ∙ ap (λ (o : Option ℕ). with_number entered o rest) (number_again step h)

run_again : (run : ℕ) (rest : List ℕ) → run < 2 ^ 32 → after_number closed (decimal run ++ (32 ∷ rest)) ≡ closed run rest
run_again run rest h = ap (after_number_at closed) (cut_number run rest h) ∙ ap (λ (o : Option ℕ). with_number closed o rest) (number_again run h)

pause_again : (seconds : ℕ) → seconds ≤ 31536000 → seconds_of (decimal seconds ++ codes "s") ≡ Some seconds
pause_again seconds h = ap seconds_if (s_again (decimal seconds)) ∙ ap within_a_year (number_again seconds (omega arith)) ∙ seconds_again seconds h

completed_again : (run : ℕ) (phase : Phase) → closed run (phase_text phase) ≡ Some (Completed run phase)
completed_again run Pending = refl
completed_again run Running = refl
completed_again run Successful = refl
completed_again run Inconclusive = refl
completed_again run Error = refl
completed_again run Failed = refl

ended_again : (run : ℕ) (phase : Phase) → closed run (phase_text phase ++ codes " ended") ≡ Some (Ended run phase)
ended_again run Pending = refl
ended_again run Running = refl
ended_again run Successful = refl
ended_again run Inconclusive = refl
ended_again run Error = refl
ended_again run Failed = refl

pub event_again : (e : LineEvent) → IsLineEvent e → event_of (words e) ≡ Some e
event_again (Created version) h = ap (option_map (λ v. Created v)) (version_again version h)
event_again (Started version) h = ap (option_map (λ v. Started v)) (version_again version h)
event_again (Retried version) h = ap (option_map (λ v. Retried v)) (version_again version h)
event_again (BackgroundOpened run) h = ap (option_map (λ n. BackgroundOpened n)) (number_again run h)
event_again (WeightEntered step weight) h = step_again step (codes "setWeight " ++ decimal weight) h.0 ∙ ap (option_map (λ n. WeightEntered step n)) (number_again weight h.1)
event_again (PauseEntered step) h = step_again step (codes "pause") h
event_again (TimedPauseEntered step seconds) h = step_again step (codes "pause " ++ (decimal seconds ++ codes "s")) h.0 ∙ ap (option_map (λ n. TimedPauseEntered step n)) (pause_again seconds h.1)
event_again (AnalysisEntered step run) h = step_again step (codes "analysis run " ++ decimal run) h.0 ∙ ap (option_map (λ n. AnalysisEntered step n)) (number_again run h.1)
event_again (Completed run phase) h = run_again run (phase_text phase) h ∙ completed_again run phase
event_again (Ended run phase) h = run_again run (phase_text phase ++ codes " ended") h ∙ ended_again run phase
event_again (StepHeld step) h = ap (option_map (λ n. StepHeld n)) (number_again step h)
event_again (AbortedBy run) h = ap (option_map (λ n. AbortedBy n)) (number_again run h)
event_again (Finished version) h = ap (option_map (λ v. Finished v)) (version_again version h)
event_again other h = refl

pub reads_back : WordsReadBack
reads_back e f he hf same = same_Some e f (sym (event_again e he) ∙ ap event_of same ∙ event_again f hf)

-- and its words are the text that it was read from

by_test : {A : Type 0} (t : Bool) (x y : Option A) (e : A) (G : Type 0) → (t ≡ true → x ≡ Some e → G) → (y ≡ Some e → G) → (if t then x else y) ≡ Some e → G
by_test true x y e G f g h = f refl h
by_test false x y e G f g h = g h

-- what is read if a text is that one, or else
if_found : {A : Type 0} (a b : List ℕ) (x y : Option A) (e : A) (G : Type 0) → (a ≡ b → x ≡ Some e → G) → (y ≡ Some e → G) → (if bytes_eq a b then x else y) ≡ Some e → G
if_found a b x y e G f g h = by_test (bytes_eq a b) x y e G (λ t. f ((bytes_eq-Decides a b).0 t)) g h

map_found : {A : Type 0} (make : A → LineEvent) (o : Option A) (e : LineEvent) (G : LineEvent → Type 0) → ((a : A) → o ≡ Some a → G (make a)) → option_map make o ≡ Some e → G e
map_found make None e G f h = absurd (none-some e h)
map_found make (Some a) e G f h = subst G (same_Some (make a) e h) (f a refl)

pub number_found : (text : List ℕ) (n : ℕ) → number_of text ≡ Some n → (n < 2 ^ 32) × (decimal n ≡ text)
number_found text n h =
    let v : ℕ = digits_value 10 text in
    by_test (nat_lt v (2 ^ 32) && bytes_eq (decimal v) text) (Some v) None n ((n < 2 ^ 32) × (decimal n ≡ text))
    (λ t found.
    let parts = both (nat_lt v (2 ^ 32)) (bytes_eq (decimal v) text) t in
    let low : v < 2 ^ 32 = grind (arith, nat_tests, parts.0) in
    subst (λ (m : ℕ). (m < 2 ^ 32) × (decimal m ≡ text)) (same_Some v n found) (low, (bytes_eq-Decides (decimal v) text).0 parts.1))
    (λ none. absurd (none-some n none)) h

version_found : (text version : List ℕ) → version_of text ≡ Some version → text ≡ version
version_found text version h = by_test (is_label text) (Some text) None version (text ≡ version) (λ t found. same_Some text version found) (λ none. absurd (none-some version none)) h

numbered_cut : (word text : List ℕ) (n : ℕ) (o : Option (List ℕ × List ℕ)) → cut text ≡ o → numbered_at word o ≡ Some n → text ≡ word ++ (32 ∷ decimal n)
numbered_cut word text n None e h = absurd (none-some n h)
numbered_cut word text n (Some parts) e h =
    if_found parts.0 word (number_of parts.1) None n (text ≡ word ++ (32 ∷ decimal n))
    (λ same found. cut_found text parts e ∙ ap (λ (w : List ℕ). w ++ (32 ∷ parts.1)) same ∙ ap (λ (l : List ℕ). word ++ (32 ∷ l)) (sym (number_found parts.1 n found).1))
    (λ none. absurd (none-some n none)) h

numbered_found : (word text : List ℕ) (n : ℕ) → numbered word text ≡ Some n → text ≡ word ++ (32 ∷ decimal n)
numbered_found word text n h = numbered_cut word text n (cut text) refl h

year_found : (n seconds : ℕ) → within_a_year (Some n) ≡ Some seconds → n ≡ seconds
year_found n seconds h = by_test (nat_le n 31536000) (Some n) None seconds (n ≡ seconds) (λ t found. same_Some n seconds found) (λ none. absurd (none-some seconds none)) h

seconds_number : (digits : List ℕ) (seconds : ℕ) (o : Option ℕ) → number_of digits ≡ o → within_a_year o ≡ Some seconds → decimal seconds ≡ digits
seconds_number digits seconds None e h = absurd (none-some seconds h)
seconds_number digits seconds (Some n) e h = ap decimal (sym (year_found n seconds h)) ∙ (number_found digits n e).1

seconds_cut : (text : List ℕ) (seconds : ℕ) (o : Option (List ℕ)) → before_s text ≡ o → seconds_if o ≡ Some seconds → text ≡ decimal seconds ++ codes "s"
seconds_cut text seconds None e h = absurd (none-some seconds h)
seconds_cut text seconds (Some digits) e h = s_found text digits e ∙ ap (λ (l : List ℕ). l ++ codes "s") (sym (seconds_number digits seconds (number_of digits) refl h))

seconds_found : (text : List ℕ) (seconds : ℕ) → seconds_of text ≡ Some seconds → text ≡ decimal seconds ++ codes "s"
seconds_found text seconds h = seconds_cut text seconds (before_s text) refl h

phase_if : (text : List ℕ) (phase : Phase) (p : Phase) (more : Option Phase) → (more ≡ Some phase → phase_text phase ≡ text) → (if bytes_eq text (phase_text p) then Some p else more) ≡ Some phase → phase_text phase ≡ text
phase_if text phase p more g h = if_found text (phase_text p) (Some p) more phase (phase_text phase ≡ text) (λ same found. ap phase_text (sym (same_Some p phase found)) ∙ sym same) g h

phase_found : (text : List ℕ) (phase : Phase) → phase_read text ≡ Some phase → phase_text phase ≡ text
phase_found text phase h =
    phase_if text phase Pending _
    (phase_if text phase Running _
    (phase_if text phase Successful _
    (phase_if text phase Inconclusive _
    (phase_if text phase Error _
    (phase_if text phase Failed None (λ none. absurd (none-some phase none))))))) h

-- the words of a step, of a run and of a hold

abbrev after_step : ℕ → List ℕ → List ℕ
after_step step text = codes "step " ++ (decimal step ++ (32 ∷ text))

abbrev after_run : ℕ → List ℕ → List ℕ
after_run run text = codes "run " ++ (decimal run ++ (32 ∷ text))

entered_as_found : (step : ℕ) (kind rest : List ℕ) (e : LineEvent) → entered_as step kind rest ≡ Some e → words e ≡ after_step step (kind ++ (32 ∷ rest))
entered_as_found step kind rest e h =
    if_found kind (codes "setWeight") (option_map (λ n. WeightEntered step n) (number_of rest)) _ e (words e ≡ after_step step (kind ++ (32 ∷ rest)))
    (λ same found. map_found (λ n. WeightEntered step n) (number_of rest) e (λ f. words f ≡ after_step step (kind ++ (32 ∷ rest)))
    (λ n is. ap (λ (l : List ℕ). after_step step (codes "setWeight " ++ l)) (number_found rest n is).1 ∙ ap (λ (k : List ℕ). after_step step (k ++ (32 ∷ rest))) (sym same)) found)
    (if_found kind (codes "pause") (option_map (λ n. TimedPauseEntered step n) (seconds_of rest)) _ e (words e ≡ after_step step (kind ++ (32 ∷ rest)))
    (λ same found. map_found (λ n. TimedPauseEntered step n) (seconds_of rest) e (λ f. words f ≡ after_step step (kind ++ (32 ∷ rest)))
    (λ n is. ap (λ (l : List ℕ). after_step step (codes "pause " ++ l)) (sym (seconds_found rest n is)) ∙ ap (λ (k : List ℕ). after_step step (k ++ (32 ∷ rest))) (sym same)) found)
    (if_found kind (codes "analysis") (option_map (λ n. AnalysisEntered step n) (numbered (codes "run") rest)) None e (words e ≡ after_step step (kind ++ (32 ∷ rest)))
    (λ same found. map_found (λ n. AnalysisEntered step n) (numbered (codes "run") rest) e (λ f. words f ≡ after_step step (kind ++ (32 ∷ rest)))
    (λ n is. ap (λ (l : List ℕ). after_step step (codes "analysis " ++ l)) (sym (numbered_found (codes "run") rest n is)) ∙ ap (λ (k : List ℕ). after_step step (k ++ (32 ∷ rest))) (sym same)) found)
    (λ none. absurd (none-some e none)))) h

entered_cut : (step : ℕ) (text : List ℕ) (e : LineEvent) (o : Option (List ℕ × List ℕ)) → cut text ≡ o → entered_at step text o ≡ Some e → words e ≡ after_step step text
entered_cut step text e None c h =
    if_found text (codes "pause") (Some (PauseEntered step)) None e (words e ≡ after_step step text)
    (λ same found. ap words (sym (same_Some (PauseEntered step) e found)) ∙ ap (after_step step) (sym same))
    (λ none. absurd (none-some e none)) h
entered_cut step text e (Some parts) c h = entered_as_found step parts.0 parts.1 e h ∙ ap (after_step step) (sym (cut_found text parts c))

entered_found : (step : ℕ) (text : List ℕ) (e : LineEvent) → entered step text ≡ Some e → words e ≡ after_step step text
entered_found step text e h = entered_cut step text e (cut text) refl h

closed_cut : (run : ℕ) (text : List ℕ) (e : LineEvent) (o : Option (List ℕ × List ℕ)) → cut text ≡ o → closed_at run text o ≡ Some e → words e ≡ after_run run text
closed_cut run text e None c h = map_found (λ p. Completed run p) (phase_read text) e (λ f. words f ≡ after_run run text) (λ p is. ap (after_run run) (phase_found text p is)) h
closed_cut run text e (Some parts) c h =
    if_found parts.1 (codes "ended") (option_map (λ p. Ended run p) (phase_read parts.0)) None e (words e ≡ after_run run text)
    (λ same found. map_found (λ p. Ended run p) (phase_read parts.0) e (λ f. words f ≡ after_run run text)
    (λ p is. ap (λ (l : List ℕ). after_run run (l ++ codes " ended")) (phase_found parts.0 p is) ∙ ap (λ (l : List ℕ). after_run run (parts.0 ++ (32 ∷ l))) (sym same) ∙ ap (after_run run) (sym (cut_found text parts c))) found)
    (λ none. absurd (none-some e none)) h

closed_found : (run : ℕ) (text : List ℕ) (e : LineEvent) → closed run text ≡ Some e → words e ≡ after_run run text
closed_found run text e h = closed_cut run text e (cut text) refl h

abbrev IsFoundAfter : (ℕ → List ℕ → Option LineEvent) → List ℕ → Type 0
IsFoundAfter event first = (n : ℕ) (text : List ℕ) (e : LineEvent) → event n text ≡ Some e → words e ≡ first ++ (decimal n ++ (32 ∷ text))

with_number_found : (event : ℕ → List ℕ → Option LineEvent) (first : List ℕ) → IsFoundAfter event first → (digits text : List ℕ) (e : LineEvent) (o : Option ℕ) → number_of digits ≡ o → with_number event o text ≡ Some e → words e ≡ first ++ (digits ++ (32 ∷ text))
with_number_found event first finds digits text e None is h = absurd (none-some e h)
with_number_found event first finds digits text e (Some n) is h = finds n text e h ∙ ap (λ (l : List ℕ). first ++ (l ++ (32 ∷ text))) (number_found digits n is).1

after_number_cut : (event : ℕ → List ℕ → Option LineEvent) (first : List ℕ) → IsFoundAfter event first → (text : List ℕ) (e : LineEvent) (o : Option (List ℕ × List ℕ)) → cut text ≡ o → after_number_at event o ≡ Some e → words e ≡ first ++ text
after_number_cut event first finds text e None c h = absurd (none-some e h)
after_number_cut event first finds text e (Some parts) c h = with_number_found event first finds parts.0 parts.1 e (number_of parts.0) refl h ∙ ap (λ (l : List ℕ). first ++ l) (sym (cut_found text parts c))

after_number_found : (event : ℕ → List ℕ → Option LineEvent) (first : List ℕ) → IsFoundAfter event first → (text : List ℕ) (e : LineEvent) → after_number event text ≡ Some e → words e ≡ first ++ text
after_number_found event first finds text e h = after_number_cut event first finds text e (cut text) refl h

held_found : (text : List ℕ) (e : LineEvent) → held text ≡ Some e → words e ≡ codes "hold " ++ text
held_found text e h =
    if_found text (codes "background") (Some BackgroundHeld) _ e (words e ≡ codes "hold " ++ text)
    (λ same found. ap words (sym (same_Some BackgroundHeld e found)) ∙ ap (λ (l : List ℕ). codes "hold " ++ l) (sym same))
    (λ found. map_found (λ n. StepHeld n) (numbered (codes "step") text) e (λ f. words f ≡ codes "hold " ++ text)
    (λ n is. ap (λ (l : List ℕ). codes "hold " ++ l) (sym (numbered_found (codes "step") text n is))) found) h

promoted_found : (text : List ℕ) (e : LineEvent) → promoted text ≡ Some e → words e ≡ codes "promote " ++ text
promoted_found text e h =
    if_found text (codes "full") (Some PromotedFull) None e (words e ≡ codes "promote " ++ text)
    (λ same found. ap words (sym (same_Some PromotedFull e found)) ∙ ap (λ (l : List ℕ). codes "promote " ++ l) (sym same))
    (λ none. absurd (none-some e none)) h

-- a first word, and what stands after it

version_after : (make : List ℕ → LineEvent) (first word rest : List ℕ) (e : LineEvent) → ((v : List ℕ) → words (make v) ≡ first ++ (32 ∷ v)) → word ≡ first → option_map make (version_of rest) ≡ Some e → words e ≡ word ++ (32 ∷ rest)
version_after make first word rest e are same h =
    map_found make (version_of rest) e (λ f. words f ≡ word ++ (32 ∷ rest))
    (λ v is. are v ∙ ap (λ (l : List ℕ). first ++ (32 ∷ l)) (sym (version_found rest v is)) ∙ ap (λ (l : List ℕ). l ++ (32 ∷ rest)) (sym same)) h

number_after : (make : ℕ → LineEvent) (first word rest : List ℕ) (e : LineEvent) → ((n : ℕ) → words (make n) ≡ first ++ (32 ∷ (codes "run " ++ decimal n))) → word ≡ first → option_map make (numbered (codes "run") rest) ≡ Some e → words e ≡ word ++ (32 ∷ rest)
number_after make first word rest e are same h =
    map_found make (numbered (codes "run") rest) e (λ f. words f ≡ word ++ (32 ∷ rest))
    (λ n is. are n ∙ ap (λ (l : List ℕ). first ++ (32 ∷ l)) (sym (numbered_found (codes "run") rest n is)) ∙ ap (λ (l : List ℕ). l ++ (32 ∷ rest)) (sym same)) h

first_word : (first word rest : List ℕ) (e : LineEvent) → word ≡ first → words e ≡ first ++ (32 ∷ rest) → words e ≡ word ++ (32 ∷ rest)
first_word first word rest e same h = h ∙ ap (λ (l : List ℕ). l ++ (32 ∷ rest)) (sym same)

with_found : (word rest : List ℕ) (e : LineEvent) → event_with word rest ≡ Some e → words e ≡ word ++ (32 ∷ rest)
with_found word rest e h =
    if_found word (codes "created") (option_map (λ v. Created v) (version_of rest)) _ e (words e ≡ word ++ (32 ∷ rest)) (version_after (λ v. Created v) (codes "created") word rest e (λ v. refl))
    (if_found word (codes "start") (option_map (λ v. Started v) (version_of rest)) _ e (words e ≡ word ++ (32 ∷ rest)) (version_after (λ v. Started v) (codes "start") word rest e (λ v. refl))
    (if_found word (codes "retry") (option_map (λ v. Retried v) (version_of rest)) _ e (words e ≡ word ++ (32 ∷ rest)) (version_after (λ v. Retried v) (codes "retry") word rest e (λ v. refl))
    (if_found word (codes "done") (option_map (λ v. Finished v) (version_of rest)) _ e (words e ≡ word ++ (32 ∷ rest)) (version_after (λ v. Finished v) (codes "done") word rest e (λ v. refl))
    (if_found word (codes "background") (option_map (λ n. BackgroundOpened n) (numbered (codes "run") rest)) _ e (words e ≡ word ++ (32 ∷ rest)) (number_after (λ n. BackgroundOpened n) (codes "background") word rest e (λ n. refl))
    (if_found word (codes "abort") (option_map (λ n. AbortedBy n) (numbered (codes "run") rest)) _ e (words e ≡ word ++ (32 ∷ rest)) (number_after (λ n. AbortedBy n) (codes "abort") word rest e (λ n. refl))
    (if_found word (codes "step") (after_number entered rest) _ e (words e ≡ word ++ (32 ∷ rest)) (λ same found. first_word (codes "step") word rest e same (after_number_found entered (codes "step ") entered_found rest e found))
    (if_found word (codes "run") (after_number closed rest) _ e (words e ≡ word ++ (32 ∷ rest)) (λ same found. first_word (codes "run") word rest e same (after_number_found closed (codes "run ") closed_found rest e found))
    (if_found word (codes "hold") (held rest) _ e (words e ≡ word ++ (32 ∷ rest)) (λ same found. first_word (codes "hold") word rest e same (held_found rest e found))
    (if_found word (codes "promote") (promoted rest) None e (words e ≡ word ++ (32 ∷ rest)) (λ same found. first_word (codes "promote") word rest e same (promoted_found rest e found))
    (λ none. absurd (none-some e none))))))))))) h

alone_found : (text : List ℕ) (e : LineEvent) → event_alone text ≡ Some e → words e ≡ text
alone_found text e h =
    if_found text (codes "promote") (Some Promoted) _ e (words e ≡ text) (λ same found. ap words (sym (same_Some Promoted e found)) ∙ sym same)
    (if_found text (codes "abort") (Some Aborted) None e (words e ≡ text) (λ same found. ap words (sym (same_Some Aborted e found)) ∙ sym same)
    (λ none. absurd (none-some e none))) h

event_cut : (text : List ℕ) (e : LineEvent) (o : Option (List ℕ × List ℕ)) → cut text ≡ o → event_at text o ≡ Some e → words e ≡ text
event_cut text e None c h = alone_found text e h
event_cut text e (Some parts) c h = with_found parts.0 parts.1 e h ∙ sym (cut_found text parts c)

pub event_found : (text : List ℕ) (e : LineEvent) → event_of text ≡ Some e → words e ≡ text
event_found text e h = event_cut text e (cut text) refl h

-- what the code's calls say of a text, in the words of these definitions

cut_by : (text : List ℕ) (r : Option (Bor (List ℕ) × Bor (List ℕ))) → MatchOption r ((i : ℕ) → i < length text → get_or text i 0 ≢ 32) (λ x. (text ≡ x.0.now ++ (32 ∷ x.1.now)) × ((i : ℕ) → i < length x.0.now → get_or x.0.now i 0 ≢ 32)) → MatchOption r (cut text ≡ None) (λ x. cut text ≡ Some (x.0.now, x.1.now))
cut_by text None h = no_cut text h
cut_by text (Some x) h = ap cut h.0 ∙ cut_again x.0.now x.1.now h.1

pub is_cut : (text : List ℕ) (r : Option (Bor (List ℕ) × Bor (List ℕ))) → IsSplitOnceResult 32 text r → MatchOption r (cut text ≡ None) (λ x. cut text ≡ Some (x.0.now, x.1.now))
is_cut text r h = cut_by text r (split_parts 32 text r h (omega arith))

no_s : (text : List ℕ) (o : Option (List ℕ)) → ((front : List ℕ) → text ≢ front ++ (115 ∷ [])) → before_s text ≡ o → before_s text ≡ None
no_s text None h e = e
no_s text (Some front) h e = absurd (h front (s_found text front e))

pub is_before_s : (text : List ℕ) (r : Option (Bor (List ℕ))) → MatchOption r ((front : List ℕ) → text ≢ front ++ (115 ∷ [])) (λ x. text ≡ x.now ++ (115 ∷ [])) → MatchOption r (before_s text ≡ None) (λ x. before_s text ≡ Some x.now)
is_before_s text None h = no_s text (before_s text) h refl
is_before_s text (Some x) h = ap before_s h ∙ s_again x.now

parsed : {E : Type 0} (text : List ℕ) (n : ℕ) (r : Result ℕ E) → ParsesUnsigned 32 10 text r → number_of text ≡ Some n → r ≡ Ok n
parsed text n r p e = let found = number_found text n e in parse-decimal 32 n text r found.0 (omega (arith, found.0)) (sym found.1) p

unparsed : {E : Type 0} (text : List ℕ) (r : Result ℕ E) (o : Option ℕ) → ParsesUnsigned 32 10 text r → result_ok r ≡ None → number_of text ≡ o → None ≡ o
unparsed text r None p was e = refl
unparsed text r (Some n) p was e = absurd (none-some n (sym was ∙ ap result_ok (parsed text n r p e)))

pub is_no_number : {E : Type 0} (text : List ℕ) (r : Result ℕ E) → ParsesUnsigned 32 10 text r → result_ok r ≡ None → None ≡ number_of text
is_no_number text r p was = unparsed text r (number_of text) p was refl

pub is_number : (text : List ℕ) (n : ℕ) → n < 2 ^ 32 → decimal n ≡ text → Some n ≡ number_of text
is_number text n h same = sym (number_again n h) ∙ ap number_of same

unprinted : {E : Type 0} (text : List ℕ) (n : ℕ) (r : Result ℕ E) (o : Option ℕ) → ParsesUnsigned 32 10 text r → result_ok r ≡ Some n → decimal n ≢ text → number_of text ≡ o → None ≡ o
unprinted text n r None p was other e = refl
unprinted text n r (Some m) p was other e =
    let same : n ≡ m = same_Some n m (sym was ∙ ap result_ok (parsed text m r p e)) in
    absurd (other (ap decimal same ∙ (number_found text m e).1))

pub is_not_printed : {E : Type 0} (text : List ℕ) (n : ℕ) (r : Result ℕ E) → ParsesUnsigned 32 10 text r → result_ok r ≡ Some n → decimal n ≢ text → None ≡ number_of text
is_not_printed text n r p was other = unprinted text n r (number_of text) p was other refl

pub fits : {E : Type 0} (text : List ℕ) (n : ℕ) (r : Result ℕ E) → ParsesUnsigned 32 10 text r → result_ok r ≡ Some n → n < 2 ^ 32
fits text n (Ok m) p e = omega (arith, p.0.1, p.1, same_Some m n e)
fits text n (Err f) p e = absurd (none-some n e)

unless : {A : Type 0} (a b : List ℕ) (x y : Option A) → a ≢ b → (if bytes_eq a b then x else y) ≡ y
unless a b x y h = elim (bytes_eq a b) as (λ t. bytes_eq a b ≡ t → (if t then x else y) ≡ y) [ true ↦ λ e. absurd (h ((bytes_eq-Decides a b).0 e)) | false ↦ λ e. refl ] refl

pub no_event : (word rest : List ℕ) → word ≢ codes "background" → word ≢ codes "abort" → word ≢ codes "step" → word ≢ codes "run" → word ≢ codes "hold" → word ≢ codes "promote" → None ≡ event_without_version word rest
no_event word rest background abort step run hold promote =
    sym (unless word (codes "background") (option_map (λ n. BackgroundOpened n) (numbered (codes "run") rest)) _ background
    ∙ unless word (codes "abort") (option_map (λ n. AbortedBy n) (numbered (codes "run") rest)) _ abort
    ∙ unless word (codes "step") (after_number entered rest) _ step
    ∙ unless word (codes "run") (after_number closed rest) _ run
    ∙ unless word (codes "hold") (held rest) _ hold
    ∙ unless word (codes "promote") (promoted rest) None promote)
