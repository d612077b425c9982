-- Each reply of a desk is read back as the JSON that it is, and so means what it says.
use Rattle.std.proofs.Common.{◌≡◌, ℕ, ◌<◌, ◌≤◌, ◌^◌, List, [], ◌∷◌, ◌++◌, map, Bool, true, false, Some, None, codes, decimal, refl, sym, ap, ap₂, ◌∙◌, arith, true≢false, append_assoc, IsTrue}
use Rattle.std.specs.Prelude.{◌&&◌, ◌||◌, ⊤, nat_le, Option, if◌then◌else◌}
use Rattle.std.specs.List.{list_all, join_with_byte}
use Rattle.std.proofs.lemmas.Bool.Decides.{nat_tests}
use Rattle.json.specs.Print.{escape_byte, escape}
use Rattle.json.proofs.Printed.Strings.{escape_byte_plain}
use Rattle.json.proofs.OnLiterals.{json_on_literals}
use Rattle.serde_json.specs.Data.{Data, string, array, object, Items, no_items, item, Members, no_members, member, depth, items_depth}
use Rattle.serde_json.specs.Read.{read, max_depth}
use Rattle.serde_json.specs.Written.{compact_text, items_text, has_float, items_have_float}
use Rattle.canary_base.specs.Names.{is_name, is_name_byte}
use Rattle.canary_condition.specs.declared.outcome.Phase.{Phase}
use Rattle.canary_condition.specs.declared.outcome.Phase.TheVariants.{Pending, Running, Successful, Inconclusive, Error, Failed}
use Rattle.canary_condition.specs.PhaseTexts.{phase_text}
use Rattle.canary_canonical.specs.Texts.{whole_data}
use Rattle.canary_canonical.proofs.Regular.{NumbersFit, ItemsFit, IsInOrder, ItemsInOrder, written_is_read}
use Rattle.canary_plan.specs.declared.refusal.Refusal.{Refusal}
use Rattle.canary_plan.specs.declared.refusal.Refusal.TheVariants.{UnknownService, ServiceExists, BadCondition, IntervalNeeded, DuplicateMetric, BadDryRun, UnknownTemplate, EndlessMetric, BadStrategy, InProgress, AlreadyStable, NotInProgress, NotPaused, NotAborted, RunsSpent, UnknownRun, RunClosed, UnknownMetric, RepeatedMetric, MetricClosed, AlreadyRecorded, OutOfTurn, Spent, Future, TooEarly, RevisionsSpent}
use Rattle.canary_plan.specs.Refusals.{code_of}
use Rattle.canary_release.specs.declared.reply.Reported.{Reported}
use Rattle.canary_release.specs.declared.state.Status.{Status}
use Rattle.canary_release.specs.declared.state.Status.TheVariants.{Healthy, Degraded, Paused, Progressing}
use Rattle.canary_release.specs.declared.state.ServiceState.{ServiceState}
use Rattle.canary_release.specs.Services.{status, weight}
use Rattle.canary_release.specs.Replies.{status_text, code_alone, code_at, code_at_with, refusal_text, template_text, service_text, report_text, quoted_phase, bracketed}
use Rattle.canary_client_journal.specs.declared.meaning.Meaning.{Meaning}
use Rattle.canary_client_journal.specs.declared.meaning.Meaning.TheVariants.{Settled, Reused, Ahead}
use Rattle.canary_client_journal.specs.Meanings.{meaning_by, meaning_in, meaning_of}
use Rattle.canary_canonical.specs.Readings.{word_in}
use Rattle.canary_client_laws.specs.Understood.{IsWord, HasWords, IsShown, RefusalsSettle, TemplatesSettle, ServicesSettle, ReportsSettle, ReusedIsReused, AheadIsAhead}

-- A text that is the compact text of some JSON means what that JSON does.
means : (status : ℕ) (text : List ℕ) (d : Data) (meaning : Meaning) → text ≡ compact_text d → NumbersFit d → has_float d ≡ false → IsInOrder d → depth d ≤ max_depth
    → meaning_in status (Some d) ≡ meaning → meaning_of status text ≡ meaning
means status text d meaning e n f o s m =
    ap (meaning_of status) e ∙ ap (meaning_in status) (written_is_read d n f o s) ∙ m

-- Names stand in a text as they are.

both : (a b : Bool) → (a && b) ≡ true → (a ≡ true) × (b ≡ true)
both true b e = (refl, e)
both false b e = absurd (true≢false (sym e))

byte_plain : (x : ℕ) → is_name_byte x ≡ true → escape_byte x ≡ x ∷ []
byte_plain x h =
    escape_byte_plain x (λ e. true≢false (sym h ∙ ap is_name_byte e)) (λ e. true≢false (sym h ∙ ap is_name_byte e)) (grind (arith, nat_tests, h))

bytes_plain : (s : List ℕ) → list_all is_name_byte s ≡ true → escape s ≡ s
bytes_plain [] h = refl
bytes_plain (x ∷ s) h = let parts = both (is_name_byte x) (list_all is_name_byte s) h in ap₂ (λ a b. a ++ b) (byte_plain x parts.0) (bytes_plain s parts.1)

name_plain : (s : List ℕ) → IsTrue (is_name s) → escape s ≡ s
name_plain s h = bytes_plain s (both _ _ (both _ _ (both _ _ h).0).0).1

-- Refusals and conflicts.

abbrev code_data : List ℕ → Data
code_data code = object (member (codes "code") (string code) no_members)

abbrev at_data : ℕ → List ℕ → Data
at_data at code =
    object (member (codes "at") (whole_data at) (member (codes "code") (string code) no_members))

abbrev at_data_with : ℕ → List ℕ → List ℕ → ℕ → Data
at_data_with at code key n =
    object (member (codes "at") (whole_data at)
    (member (codes "code") (string code) (member key (whole_data n) no_members)))

abbrev ahead_data : ℕ → Data
ahead_data n =
    object (member (codes "code") (string (codes "ahead")) (member (codes "expected") (whole_data n) no_members))

alone : (code : List ℕ) → escape code ≡ code → code_alone code ≡ compact_text (code_data code)
unfolding json_on_literals
alone code e = ap (λ t. codes "{\"code\":" ++ ((34 ∷ (t ++ 34 ∷ [])) ++ codes "}")) (sym e)

placed : (at : ℕ) (code : List ℕ) → escape code ≡ code → code_at at code ≡ compact_text (at_data at code)
unfolding json_on_literals
placed at code e =
    ap (λ t. codes "{\"at\":" ++ (decimal at ++ (codes ",\"code\":" ++ ((34 ∷ (t ++ 34 ∷ [])) ++ codes "}")))) (sym e)

due_text : (at n : ℕ) → code_at_with at (codes "too-early") (codes "due") n ≡ compact_text (at_data_with at (codes "too-early") (codes "due") n)
unfolding json_on_literals
due_text at n = refl

expected_text : (at n : ℕ) → code_at_with at (codes "out-of-turn") (codes "expected") n ≡ compact_text (at_data_with at (codes "out-of-turn") (codes "expected") n)
unfolding json_on_literals
expected_text at n = refl

ahead_text : (n : ℕ) → codes "{\"code\":\"ahead\",\"expected\":" ++ (decimal n ++ codes "}") ≡ compact_text (ahead_data n)
unfolding json_on_literals
ahead_text n = refl

-- a code that has the form of a name
by_code : (status : ℕ) (code : List ℕ) (meaning : Meaning) → IsTrue (is_name code) → meaning_in status (Some (code_data code)) ≡ meaning → meaning_of status (code_alone code) ≡ meaning
by_code status code meaning h m =
    means status (code_alone code) (code_data code) meaning (alone code (name_plain code h)) (tt, tt) refl (refl, (tt, tt)) (omega arith) m

by_place : (at : ℕ) (code : List ℕ) → IsWord at → IsTrue (is_name code) → meaning_in 422 (Some (at_data at code)) ≡ Settled → meaning_of 422 (code_at at code) ≡ Settled
by_place at code w h m =
    means 422 (code_at at code) (at_data at code) Settled (placed at code (name_plain code h)) (w, (tt, tt)) refl (refl, (tt, (tt, tt))) (omega arith) m

pub refusals_settle : RefusalsSettle
refusals_settle UnknownService w = by_code 422 (codes "unknown-service") Settled refl refl
refusals_settle ServiceExists w = by_code 422 (codes "service-exists") Settled refl refl
refusals_settle BadCondition w = by_code 422 (codes "bad-condition") Settled refl refl
refusals_settle IntervalNeeded w = by_code 422 (codes "interval-needed") Settled refl refl
refusals_settle DuplicateMetric w = by_code 422 (codes "duplicate-metric") Settled refl refl
refusals_settle BadDryRun w = by_code 422 (codes "bad-dry-run") Settled refl refl
refusals_settle UnknownTemplate w = by_code 422 (codes "unknown-template") Settled refl refl
refusals_settle EndlessMetric w = by_code 422 (codes "endless-metric") Settled refl refl
refusals_settle BadStrategy w = by_code 422 (codes "bad-strategy") Settled refl refl
refusals_settle InProgress w = by_code 422 (codes "in-progress") Settled refl refl
refusals_settle AlreadyStable w = by_code 422 (codes "already-stable") Settled refl refl
refusals_settle NotInProgress w = by_code 422 (codes "not-in-progress") Settled refl refl
refusals_settle NotPaused w = by_code 422 (codes "not-paused") Settled refl refl
refusals_settle NotAborted w = by_code 422 (codes "not-aborted") Settled refl refl
refusals_settle RunsSpent w = by_code 422 (codes "runs-spent") Settled refl refl
refusals_settle UnknownRun w = by_code 422 (codes "unknown-run") Settled refl refl
refusals_settle RunClosed w = by_code 422 (codes "run-closed") Settled refl refl
refusals_settle RevisionsSpent w = by_code 422 (codes "revisions-spent") Settled refl refl
refusals_settle (UnknownMetric at) w = by_place at (codes "unknown-metric") w refl refl
refusals_settle (RepeatedMetric at) w = by_place at (codes "repeated-metric") w refl refl
refusals_settle (MetricClosed at) w = by_place at (codes "metric-closed") w refl refl
refusals_settle (AlreadyRecorded at) w = by_place at (codes "recorded") w refl refl
refusals_settle (Spent at) w = by_place at (codes "spent") w refl refl
refusals_settle (Future at) w = by_place at (codes "future") w refl refl
refusals_settle (OutOfTurn at n) w =
    means 422 (code_at_with at (codes "out-of-turn") (codes "expected") n) (at_data_with at (codes "out-of-turn") (codes "expected") n) Settled (expected_text at n)
    (w.0, (tt, (w.1, tt))) refl (refl, (tt, (tt, (tt, tt)))) (omega arith) (refl)
refusals_settle (TooEarly at n) w =
    means 422 (code_at_with at (codes "too-early") (codes "due") n) (at_data_with at (codes "too-early") (codes "due") n) Settled (due_text at n)
    (w.0, (tt, (w.1, tt))) refl (refl, (tt, (tt, (tt, tt)))) (omega arith) refl

pub reused_is_reused : ReusedIsReused
reused_is_reused = by_code 409 (codes "reused") Reused refl refl

word_back : (n : ℕ) → n ≤ 4294967295 → word_in (whole_data n) ≡ Some n
word_back n h = ap (λ b. if b then Some n else None) (within n h)
  where
    within : (n : ℕ) → n ≤ 4294967295 → nat_le n 4294967295 ≡ true
    within n h = grind (arith, nat_tests, h)

pub ahead_is_ahead : AheadIsAhead
ahead_is_ahead n h =
    means 409 (codes "{\"code\":\"ahead\",\"expected\":" ++ (decimal n ++ codes "}")) (ahead_data n) (Ahead n) (ahead_text n)
    (tt, (omega (arith, h), tt)) refl (refl, (tt, (tt, tt))) (omega arith) (ap (λ o. meaning_by 409 (Some (codes "ahead")) o) (word_back n h))

-- What was done.

abbrev template_data : List ℕ → ℕ → Data
template_data name revision =
    object (member (codes "code") (string (codes "ok"))
    (member (codes "revision") (whole_data revision) (member (codes "template") (string name) no_members)))

abbrev service_data : List ℕ → List ℕ → ℕ → ℕ → Data
service_data name word step share =
    object (member (codes "code") (string (codes "ok")) (member (codes "service") (string name)
    (member (codes "status") (string word) (member (codes "step") (whole_data step)
    (member (codes "weight") (whole_data share) no_members)))))

template_shape : (f r b n : List ℕ) → f ++ (r ++ (b ++ (n ++ 34 ∷ 125 ∷ []))) ≡ f ++ (r ++ (b ++ ((n ++ 34 ∷ []) ++ 125 ∷ [])))
template_shape f r b n = simp append_assoc refl

template_form : (name : List ℕ) (revision : ℕ) → escape name ≡ name → template_text name revision ≡ compact_text (template_data name revision)
unfolding json_on_literals
template_form name revision e =
    template_shape (codes "{\"code\":\"ok\",\"revision\":") (decimal revision) (codes ",\"template\":\"") name
    ∙ ap (λ n. codes "{\"code\":\"ok\",\"revision\":" ++ (decimal revision ++ (codes ",\"template\":\"" ++ ((n ++ 34 ∷ []) ++ 125 ∷ [])))) (sym e)

pub templates_settle : TemplatesSettle
templates_settle name revision h w =
    means 200 (template_text name revision) (template_data name revision) Settled (template_form name revision (name_plain name h))
    (tt, (w, (tt, tt))) refl (refl, (tt, (tt, (tt, tt)))) (omega arith) refl

word_plain : (st : Status) → escape (status_text st) ≡ status_text st
unfolding json_on_literals
word_plain Healthy = refl
word_plain Degraded = refl
word_plain Paused = refl
word_plain Progressing = refl

service_shape : (f n b w c s d x e : List ℕ) → f ++ (n ++ ((34 ∷ b) ++ (w ++ ((34 ∷ c) ++ (s ++ (d ++ (x ++ e))))))) ≡ f ++ ((n ++ 34 ∷ []) ++ (b ++ ((w ++ 34 ∷ []) ++ (c ++ (s ++ (d ++ (x ++ e)))))))
service_shape f n b w c s d x e = simp append_assoc refl

service_form : (s : ServiceState) → escape s.name ≡ s.name → service_text s ≡ compact_text (service_data s.name (status_text (status s)) s.step (weight s))
unfolding json_on_literals
service_form s e =
    service_shape (codes "{\"code\":\"ok\",\"service\":\"") s.name (codes ",\"status\":\"") (status_text (status s)) (codes ",\"step\":") (decimal s.step) (codes ",\"weight\":") (decimal (weight s)) (codes "}")
    ∙ ap₂ (λ n w. codes "{\"code\":\"ok\",\"service\":\"" ++ ((n ++ 34 ∷ []) ++ (codes ",\"status\":\"" ++ ((w ++ 34 ∷ []) ++ (codes ",\"step\":" ++ (decimal s.step ++ (codes ",\"weight\":" ++ (decimal (weight s) ++ codes "}")))))))) (sym e) (sym (word_plain (status s)))

pub services_settle : ServicesSettle
services_settle s h =
    means 200 (service_text s) (service_data s.name (status_text (status s)) s.step (weight s)) Settled (service_form s (name_plain s.name h.0))
    (tt, (tt, (tt, (h.1.0, (h.1.1, tt))))) refl (refl, (tt, (tt, (tt, (tt, (tt, tt)))))) (omega arith) refl

-- Phases, one after another.

phase_plain : (p : Phase) → escape (phase_text p) ≡ phase_text p
unfolding json_on_literals
phase_plain Pending = refl
phase_plain Running = refl
phase_plain Successful = refl
phase_plain Inconclusive = refl
phase_plain Error = refl
phase_plain Failed = refl

abbrev phase_items : List Phase → Items
phase_items [] = no_items
phase_items (p ∷ ps) = item (string (phase_text p)) (phase_items ps)

abbrev report_data : List Phase → List ℕ → List ℕ → List ℕ → ℕ → ℕ → ℕ → Data
report_data phases name word verdict run step share =
    object (member (codes "code") (string (codes "ok")) (member (codes "phases") (array (phase_items phases))
    (member (codes "run") (whole_data run) (member (codes "service") (string name) (member (codes "status") (string word)
    (member (codes "step") (whole_data step) (member (codes "verdict") (string verdict) (member (codes "weight") (whole_data share) no_members))))))))

-- phases in JSON: the first one, and those after it
first_shape : (word rest : List ℕ) → (34 ∷ (word ++ 34 ∷ [])) ++ 44 ∷ rest ≡ 34 ∷ ((word ++ 34 ∷ []) ++ 44 ∷ rest)
first_shape word rest = refl

phases_from : (p : Phase) (ps : List Phase) → compact_text (string (phase_text p)) ++ items_text true (phase_items ps) ≡ join_with_byte 44 (map quoted_phase (p ∷ ps)) ++ 93 ∷ []
phases_from p [] = ap (λ w. (34 ∷ (w ++ 34 ∷ [])) ++ 93 ∷ []) (phase_plain p)
phases_from p (q ∷ ps) =
    ap₂ (λ w rest. (34 ∷ (w ++ 34 ∷ [])) ++ 44 ∷ rest) (phase_plain p) (phases_from q ps)
    ∙ sym (append_assoc (quoted_phase p) (44 ∷ join_with_byte 44 (map quoted_phase (q ∷ ps))) (93 ∷ []))

phases_text : (ps : List Phase) → compact_text (array (phase_items ps)) ≡ bracketed (map quoted_phase ps)
phases_text [] = refl
phases_text (p ∷ ps) = ap (λ t. 91 ∷ t) (phases_from p ps)

phases_fit : (ps : List Phase) → ItemsFit (phase_items ps)
phases_fit [] = tt
phases_fit (p ∷ ps) = (tt, phases_fit ps)

phases_in_order : (ps : List Phase) → ItemsInOrder (phase_items ps)
phases_in_order [] = tt
phases_in_order (p ∷ ps) = (tt, phases_in_order ps)

phases_floatless : (ps : List Phase) → items_have_float (phase_items ps) ≡ false
phases_floatless [] = refl
phases_floatless (p ∷ ps) = phases_floatless ps

phases_shallow : (ps : List Phase) → items_depth (phase_items ps) ≤ 1
phases_shallow [] = omega arith
phases_shallow (p ∷ ps) = let rest = phases_shallow ps in omega (arith, rest)

-- Reports.

report_shape : (f ps r run a name b word c step d verdict e share g : List ℕ)
    → f ++ (ps ++ (r ++ (run ++ (44 ∷ ((a ++ (name ++ (b ++ (word ++ (c ++ step))))) ++ (d ++ (verdict ++ (e ++ (share ++ g)))))))))
    ≡ f ++ (ps ++ (r ++ (run ++ (44 ∷ (a ++ (name ++ (b ++ (word ++ (c ++ (step ++ (d ++ (verdict ++ (e ++ (share ++ g))))))))))))))
report_shape f ps r run a name b word c step d verdict e share g = simp append_assoc refl

report_form : (r : Reported) (s : ServiceState) → escape s.name ≡ s.name
    → report_text r s ≡ compact_text (report_data r.phases s.name (status_text (status s)) (phase_text r.verdict) r.run s.step (weight s))
unfolding json_on_literals
report_form r s e =
    report_shape (codes "{\"code\":\"ok\",\"phases\":") (bracketed (map quoted_phase r.phases)) (codes ",\"run\":") (decimal r.run) (codes "\"service\":") (34 ∷ (s.name ++ 34 ∷ []))
    (codes ",\"status\":") (34 ∷ (status_text (status s) ++ 34 ∷ [])) (codes ",\"step\":") (decimal s.step) (codes ",\"verdict\":") (quoted_phase r.verdict) (codes ",\"weight\":") (decimal (weight s)) (codes "}")
    ∙ told (sym (phases_text r.phases)) (sym e) (sym (word_plain (status s))) (sym (phase_plain r.verdict))
  where
    told : {ps ps' name name' word word' verdict verdict' : List ℕ} → ps ≡ ps' → name ≡ name' → word ≡ word' → verdict ≡ verdict'
        → codes "{\"code\":\"ok\",\"phases\":" ++ (ps ++ (codes ",\"run\":" ++ (decimal r.run ++ (44 ∷ (codes "\"service\":" ++ ((34 ∷ (name ++ 34 ∷ [])) ++ (codes ",\"status\":" ++ ((34 ∷ (word ++ 34 ∷ [])) ++ (codes ",\"step\":" ++ (decimal s.step ++ (codes ",\"verdict\":" ++ ((34 ∷ (verdict ++ 34 ∷ [])) ++ (codes ",\"weight\":" ++ (decimal (weight s) ++ codes "}"))))))))))))))
        ≡ codes "{\"code\":\"ok\",\"phases\":" ++ (ps' ++ (codes ",\"run\":" ++ (decimal r.run ++ (44 ∷ (codes "\"service\":" ++ ((34 ∷ (name' ++ 34 ∷ [])) ++ (codes ",\"status\":" ++ ((34 ∷ (word' ++ 34 ∷ [])) ++ (codes ",\"step\":" ++ (decimal s.step ++ (codes ",\"verdict\":" ++ ((34 ∷ (verdict' ++ 34 ∷ [])) ++ (codes ",\"weight\":" ++ (decimal (weight s) ++ codes "}"))))))))))))))
    told a b c d = λ i. codes "{\"code\":\"ok\",\"phases\":" ++ (a i ++ (codes ",\"run\":" ++ (decimal r.run ++ (44 ∷ (codes "\"service\":" ++ ((34 ∷ (b i ++ 34 ∷ [])) ++ (codes ",\"status\":" ++ ((34 ∷ (c i ++ 34 ∷ [])) ++ (codes ",\"step\":" ++ (decimal s.step ++ (codes ",\"verdict\":" ++ ((34 ∷ (d i ++ 34 ∷ [])) ++ (codes ",\"weight\":" ++ (decimal (weight s) ++ codes "}"))))))))))))))

pub reports_settle : ReportsSettle
reports_settle r s run h =
    let shallow = phases_shallow r.phases in
    means 200 (report_text r s) (report_data r.phases s.name (status_text (status s)) (phase_text r.verdict) r.run s.step (weight s)) Settled (report_form r s (name_plain s.name h.0))
    (tt, (phases_fit r.phases, (run, (tt, (tt, (h.1.0, (tt, (h.1.1, tt)))))))) (floatless r.phases)
    (refl, (tt, (phases_in_order r.phases, (tt, (tt, (tt, (tt, (tt, (tt, tt))))))))) (omega (arith, shallow)) refl
  where
    floatless : (ps : List Phase) → has_float (report_data ps s.name (status_text (status s)) (phase_text r.verdict) r.run s.step (weight s)) ≡ false
    floatless ps = ap (λ b. b || false) (phases_floatless ps)
