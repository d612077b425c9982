-- A command that is accepted leaves parts unbroken, and a new service's parts are unbroken.
use Rattle.std.proofs.Common.{◌≡◌, ℕ, ◌+◌, ◌-◌, ◌≤◌, ◌<◌, List, [], length, refl, ap, sym, ◌∙◌, arith, subst}
use Rattle.std.specs.Prelude.{Bool, true, false, not, ◌&&◌, ◌||◌, if◌then◌else◌, is_some, is_none, Option, Some, None, Result, Ok, Err}
use Rattle.std.specs.List.{list_any}
use Rattle.std.specs.Str.{bytes_eq}
use Rattle.canary_plan.specs.declared.step.Step.{Step}
use Rattle.canary_plan.specs.declared.step.Step.TheVariants.{SetWeight, Pause, Analysis}
use Rattle.canary_plan.specs.declared.report.Entry.{Entry}
use Rattle.canary_plan.specs.declared.command.Command.{Command}
use Rattle.canary_plan.specs.declared.command.Command.TheVariants.{Template as AddTemplate, Service as AddService, Start, Promote, PromoteFull, Abort, Retry, Tick, Report}
use Rattle.canary_plan.specs.declared.line.LineEvent.{LineEvent}
use Rattle.canary_plan.specs.declared.line.LineEvent.TheVariants.{Started, Retried, Promoted, PromotedFull, Aborted as AbortLine}
use Rattle.canary_plan.specs.declared.refusal.Refusal.{Refusal}
use Rattle.canary_plan.specs.declared.refusal.Refusal.TheVariants.{InProgress as GoesOn, AlreadyStable, NotInProgress, NotPaused, NotAborted, RunsSpent}
use Rattle.canary_plan.specs.declared.service.Background.{Background}
use Rattle.canary_plan.specs.declared.bound.BoundParts.{BoundParts}
use Rattle.canary_plan.specs.Plans.{Templates, bound_of, analysis_at, are_fit}
use Rattle.canary_plan.specs.PlanRefusals.{bound_refusal}
use Rattle.canary_release.specs.declared.state.ReleaseState.{ReleaseState}
use Rattle.canary_release.specs.declared.state.ReleaseState.TheVariants.{InProgress, Aborted, Done}
use Rattle.canary_release.specs.declared.state.Status.TheVariants.{Paused, Progressing}
use Rattle.canary_release.specs.declared.state.ServiceState.{ServiceState}
use Rattle.canary_release.specs.declared.runs.OpenRun.{OpenRun}
use Rattle.canary_release.specs.declared.runs.Runs.{Runs}
use Rattle.canary_release.specs.declared.service.ServiceParts.{ServiceParts}
use Rattle.canary_release.specs.Watching.{no_runs}
use Rattle.canary_release.specs.Services.{is_in_progress, is_aborted, is_done, is_held, is_pause, status_as, status, step_of}
use Rattle.canary_release.specs.Evolutions.{Evolution, with_service_state, tell, runs_now, open_run_now}
use Rattle.canary_release.specs.Rules.Entering.{without_holds}
use Rattle.canary_release.specs.Rules.Passing.{judged_at, pass}
use Rattle.canary_release.specs.Rules.Reports.{report_refusal}
use Rattle.canary_release.specs.Rules.Commands.{is_spent, is_progressing, start_refusal_at, retry_refusal_at, start_refusal, retry_refusal, promote_refusal, progress_refusal, begun, begin, started_at, start, retry, promoted_to, promote, promote_full, abort_by_command, ModelResult, succeeds_with, unless, reports_if, act}
use Rattle.canary_release.specs.Desks.{passed_on, new_service_state, new_service}
use Rattle.canary_release.specs.Stored.{stored_evolution, stored_after}
use Rattle.canary_release.specs.Parts.{is_step_run, is_judged, is_bound_otherwise, is_bound, is_broken}
use Rattle.canary_release.specs.PartsLaws.{PassingKeepsParts, ActingKeepsParts, NewPartsAreUnbroken}
use Rattle.canary_release.proofs.PartsRuns.{told_runs, steady_kept}
use Rattle.canary_release.proofs.PartsKept.{of_background, has_background, IsWellBound, Unjudged, Fit, fit_of, unbroken_of, not_below}
use Rattle.canary_release.proofs.PartsFresh.{Basis, basis, Accepted, accepted}
use Rattle.canary_release.proofs.PartsReady.{Ready, placed_end}
use Rattle.canary_release.proofs.PartsEntering.{Loose, aborts, enters, enters_end}
use Rattle.canary_release.proofs.PartsPassing.{goes_below, bound_going, not_bound, no_step_run, not_begun, passes}
use Rattle.canary_release.proofs.PartsBinding.{bound_where_not_refused, never_refused, new_unbound}
use Rattle.canary_release.proofs.Keeping.{enter_keeps, passed_keeps}
use Rattle.canary_release.proofs.OrderingBasics.{both_none, not_false}
use Rattle.canary_release.proofs.PartsReports.{of_strategy, reported}

-- a new attempt

most : (there started open' held : Bool) → of_background there started open' held ≤ 2
most false started open' held = omega arith
most true true true held = omega arith
most true true false true = omega arith
most true true false false = omega arith
most true false open' held = omega arith

begun_room : (n i x count : ℕ) → n ≤ 64 → x ≤ 2 → 66 ≤ 1000000 - count → (n - i) + x ≤ 1000000 - count
begun_room n i x count short few room = omega arith

none_passes : (p : OpenRun → Bool) (rs : List OpenRun) → rs ≡ [] → list_any p rs ≡ false
none_passes p rs e = rw e refl

begun_ready : (s : ServiceState) (b : BoundParts) (w : Runs) (version : List ℕ) (i : ℕ) → Accepted (basis (record s { bound = b })) → IsWellBound (record s { bound = b }) → Fit s w → is_in_progress s.state ≡ false → is_spent w ≡ false → Ready (record (without_holds s) { bound = b; version = version; state = InProgress; background = false }) w (length s.strategy.steps - i)
begun_ready s b w version i acc bound f idle left =
    let none : w.open_runs ≡ [] = f.idle idle in
    record {
      going = refl;
      unheld = refl;
      background_unheld = refl;
      few = f.few;
      room = begun_room (length s.strategy.steps) i (of_background (is_some s.strategy.background) false (has_background w.open_runs) false) w.count acc.short (most (is_some s.strategy.background) false (has_background w.open_runs) false) (not_below (1000000 - w.count) 66 left);
      runs = record { numbered = f.numbered; distinct = f.distinct; tallied = f.tallied; same = none_passes (λ (r : OpenRun). is_bound_otherwise (analysis_at b r.step) r.analysis) w.open_runs none; unjudged = none_passes is_judged w.open_runs none };
      one_background = f.one_background;
      no_step = none_passes is_step_run w.open_runs none;
      background_run = subst (λ rs. (has_background rs && true) ≡ false) (sym none) refl;
      known = refl;
      bound = bound;
    }

-- the basis of an attempt that begins
abbrev pub begun_basis : Templates → ServiceState → Basis
begun_basis known s = record { strategy = s.strategy; bound = bound_of known s.strategy }

begins_loose : (known : Templates) (s : Basis) (t : ℕ) (c : Evolution) (version : List ℕ) (event : LineEvent) (i : ℕ) → Accepted (begun_basis known c.service) → bound_refusal known c.service.strategy ≡ None → Loose s t c → is_in_progress c.service.state ≡ false → is_spent (runs_now c) ≡ false → i ≤ length c.service.strategy.steps → Loose (begun_basis known c.service) t (begin known c t version event i)
begins_loose known s t c version event i acc fine l idle left le =
    let b : Evolution = begun known c version in
    let d : Evolution = tell b t event in
    let bound : IsWellBound b.service = (bound_where_not_refused known c.service fine, never_refused known c.service.strategy fine) in
    let ready = begun_ready c.service (bound_of known c.service.strategy) (runs_now c) version i acc bound l.fit idle left in
    enters d i t acc l.steady le (subst (λ (w : Runs). Ready b.service w (length c.service.strategy.steps - i)) (sym (told_runs b t event l.steady)) ready)

-- a promotion

if_paused : (b : Bool) → is_progressing (if b then Paused else Progressing) ≡ false → b ≡ true
if_paused true h = refl
if_paused false h = cc h

paused : (x : ReleaseState) (held : Bool) (o : Option Step) → is_in_progress x ≡ true → is_progressing (status_as x held o) ≡ false → (held || is_pause o) ≡ true
paused InProgress held o g h = if_paused (held || is_pause o) h
paused Aborted held o g h = cc g
paused Done held o g h = cc g

pause_none : (s : ServiceState) (o : Option Step) → step_of s ≡ o → is_bound s ≡ true → is_pause o ≡ true → is_none (analysis_at s.bound (Some s.step)) ≡ true
pause_none s (Some (SetWeight percent)) is bound h = cc h
pause_none s (Some (Pause seconds)) is bound h = not_bound s (Pause seconds) is (λ names x. cc x) bound
pause_none s (Some (Analysis names)) is bound h = cc h
pause_none s None is bound h = cc h

either_way : (h p n : Bool) → (p ≡ true → n ≡ true) → (h || p) ≡ true → (n || h) ≡ true
either_way true p true w e = refl
either_way true p false w e = refl
either_way false p n w e = rw (w e) refl

unheld_less : (there started open' held : Bool) → of_background there started open' false ≤ of_background there started open' held
unheld_less false started open' held = omega arith
unheld_less true false open' held = omega arith
unheld_less true true true held = omega arith
unheld_less true true false held = omega arith

smaller : (a x y room : ℕ) → x ≤ y → a + y ≤ room → a + x ≤ room
smaller a x y room le h = omega arith

-- of the holds and the background: started, open, held; and whether the step is held
promoted_room : (n i room : ℕ) (o : Option Background) (started open' held step : Bool) → i < n → (open' && (not started || held)) ≡ false → (started && is_none o) ≡ false → (held && not started) ≡ false → (n - (i + 1)) + of_background (is_some o) started open' held ≤ room → (n - (if step then i + 1 else (if held then i else i + 1))) + of_background (is_some o) started open' false ≤ room
promoted_room n i room o started open' held true below a b d h = smaller (n - (i + 1)) (of_background (is_some o) started open' false) (of_background (is_some o) started open' held) room (unheld_less (is_some o) started open' held) h
promoted_room n i room o started open' false false below a b d h = h
promoted_room n i room o false open' true false below a b d h = cc d
promoted_room n i room None true open' true false below a b d h = cc b
promoted_room n i room (Some k) true true true false below a b d h = cc a
promoted_room n i room (Some k) true false true false below a b d h = omega arith

promoted_within : (n i : ℕ) (held step : Bool) → i < n → (if step then i + 1 else (if held then i else i + 1)) ≤ n
promoted_within n i held true below = omega arith
promoted_within n i true false below = omega arith
promoted_within n i false false below = omega arith

promoted_ready : (s : ServiceState) (w : Runs) → Fit s w → Unjudged w → is_in_progress s.state ≡ true → is_progressing (status s) ≡ false → Ready (without_holds s) w (length s.strategy.steps - promoted_to s)
promoted_ready s w f u g h =
    let below : s.step < length s.strategy.steps = goes_below s w f g in
    let stops : (is_held s || is_pause (step_of s)) ≡ true = paused s.state (is_held s) (step_of s) g h in
    let away : (is_none (analysis_at s.bound (Some s.step)) || is_held s) ≡ true = either_way (is_held s) (is_pause (step_of s)) (is_none (analysis_at s.bound (Some s.step))) (pause_none s (step_of s) refl (bound_going s f g).0) stops in
    record {
      going = g;
      unheld = refl;
      background_unheld = refl;
      few = f.few;
      room = promoted_room (length s.strategy.steps) s.step (1000000 - w.count) s.strategy.background s.background (has_background w.open_runs) s.background_hold s.step_hold below f.background_run f.known f.hold (f.room g);
      runs = record { numbered = f.numbered; distinct = f.distinct; tallied = f.tallied; same = f.same; unjudged = u };
      one_background = f.one_background;
      no_step = no_step_run s w.open_runs away f.home;
      background_run = not_begun (has_background w.open_runs) s.background s.background_hold f.background_run;
      known = f.known;
      bound = bound_going s f g;
    }

promotes : (s : Basis) (t : ℕ) (c : Evolution) → Accepted s → Loose s t c → is_in_progress c.service.state ≡ true → is_progressing (status c.service) ≡ false → Loose s t (promote c t)
promotes s t c acc l g h =
    let own : Accepted (basis c.service) = subst Accepted (sym l.same) acc in
    let b : Evolution = with_service_state c (without_holds c.service) in
    let ready = promoted_ready c.service (runs_now c) l.fit l.unjudged g h in
    let within : promoted_to c.service ≤ length c.service.strategy.steps = promoted_within (length c.service.strategy.steps) c.service.step c.service.background_hold c.service.step_hold (goes_below c.service (runs_now c) l.fit g) in
    of_strategy (basis c.service) s t (promote c t) l.same
    (enters (tell b t Promoted) (promoted_to c.service) t own l.steady within (subst (λ (w : Runs). Ready b.service w (length c.service.strategy.steps - promoted_to c.service)) (sym (told_runs b t Promoted l.steady)) ready))

told_few : (c : Evolution) (t : ℕ) (event : LineEvent) (s : Basis) (u : ℕ) → Loose s u c → (runs_now (tell c t event)).count ≤ 1000000
told_few c t event s u l = subst (λ (w : Runs). w.count ≤ 1000000) (sym (told_runs c t event l.steady)) l.fit.few

promotes_full : (s : Basis) (t : ℕ) (c : Evolution) → Loose s t c → is_in_progress c.service.state ≡ true → Loose s t (promote_full c t)
promotes_full s t c l g = of_strategy (basis c.service) s t (promote_full c t) l.same (enters_end (tell c t PromotedFull) t l.steady (told_few c t PromotedFull s t l) l.fit.known (bound_going c.service l.fit g))

aborts_by_command : (s : Basis) (t : ℕ) (c : Evolution) → Loose s t c → is_in_progress c.service.state ≡ true → Loose s t (abort_by_command c t)
aborts_by_command s t c l g = of_strategy (basis c.service) s t (abort_by_command c t) l.same (aborts (tell c t AbortLine) t l.steady (goes_below c.service (runs_now c) l.fit g) (told_few c t AbortLine s t l) l.fit.known (bound_going c.service l.fit g) l.entered)

-- the table

passed_row : (b : Bool) (x : Refusal) (rest : Option Refusal) → ◌≡◌ {A = Option Refusal} (if b then Some x else rest) None → (b ≡ false) × (rest ≡ None)
passed_row true x rest h = cc h
passed_row false x rest h = (refl, h)

aborted_idle : (x : ReleaseState) → is_aborted x ≡ true → is_in_progress x ≡ false
aborted_idle InProgress h = cc h
aborted_idle Aborted h = refl
aborted_idle Done h = refl

-- where a command leads, if it is not refused, and to a fit bound
abbrev pub LooseIf : Basis → ℕ → Result ModelResult Refusal → Type 0
LooseIf s t (Ok a) = are_fit a.evolution.service.bound ≡ true → (k : Basis) × Accepted k × (k.strategy ≡ s.strategy) × Loose k t a.evolution
LooseIf s t (Err refusal) = Unit {0}

unless_loose : (s : Basis) (t : ℕ) (o : Option Refusal) (a : ModelResult) → Accepted s → (o ≡ None → Loose s t a.evolution) → LooseIf s t (unless o a)
unless_loose s t None a acc h = λ fit. (s, acc, refl, h refl)
unless_loose s t (Some refusal) a acc h = tt

unless_begun : (s : Basis) (t : ℕ) (o : Option Refusal) (a : ModelResult) → (o ≡ None → LooseIf s t (Ok a)) → LooseIf s t (unless o a)
unless_begun s t None a h = h refl
unless_begun s t (Some refusal) a h = tt

start_within : (s : ServiceState) (version : List ℕ) → started_at s version ≤ length s.strategy.steps
start_within s version = elim (is_aborted s.state && bytes_eq version s.stable) as (λ b. (if b then length s.strategy.steps else 0) ≤ length s.strategy.steps) [ true ↦ omega arith | false ↦ omega arith ]

-- an attempt is bound as it begins, and stays so
begun_bound : (known : Templates) (c : Evolution) (t : ℕ) (version : List ℕ) (event : LineEvent) (i : ℕ) → (begin known c t version event i).service.bound ≡ bound_of known c.service.strategy
begun_bound known c t version event i = (enter_keeps (tell (begun known c version) t event) i t).3

begun_accepted : (known : Templates) (s : Basis) (c : Evolution) → Accepted s → basis c.service ≡ s → are_fit (bound_of known c.service.strategy) ≡ true → Accepted (begun_basis known c.service)
begun_accepted known s c acc same fit = record { short = subst (λ (k : Basis). length k.strategy.steps ≤ 64) (sym same) acc.short; fit = fit }

leads_begun : (known : Templates) (s : Basis) (t : ℕ) (c : Evolution) (version : List ℕ) (event : LineEvent) (i : ℕ) → Accepted s → Loose s t c → bound_refusal known c.service.strategy ≡ None → is_in_progress c.service.state ≡ false → is_spent (runs_now c) ≡ false → i ≤ length c.service.strategy.steps → LooseIf s t (Ok (succeeds_with (begin known c t version event i)))
leads_begun known s t c version event i acc l fine idle left le = λ fit.
    let own : Accepted (begun_basis known c.service) = begun_accepted known s c acc l.same (subst (λ (b : BoundParts). are_fit b ≡ true) (begun_bound known c t version event i) fit) in
    (begun_basis known c.service, own, ap (λ (k : Basis). k.strategy) l.same, begins_loose known s t c version event i own fine l idle left le)

starts : (known : Templates) (s : Basis) (t : ℕ) (c : Evolution) (version : List ℕ) → Accepted s → Loose s t c → start_refusal known c version ≡ None → LooseIf s t (Ok (succeeds_with (start known c t version)))
starts known s t c version acc l h =
    let same : Bool = is_done c.service.state && bytes_eq version c.service.stable in
    let spent : Option Refusal = if is_spent (runs_now c) then Some RunsSpent else None in
    let bound = both_none (bound_refusal known c.service.strategy) (start_refusal_at c version) h in
    let first = passed_row (is_in_progress c.service.state) GoesOn (if same then Some AlreadyStable else spent) bound.1 in
    let second = passed_row same AlreadyStable spent first.1 in
    let third = passed_row (is_spent (runs_now c)) RunsSpent None second.1 in
    leads_begun known s t c version (Started version) (started_at c.service version) acc l bound.0 first.0 third.0 (start_within c.service version)

retries : (known : Templates) (s : Basis) (t : ℕ) (c : Evolution) → Accepted s → Loose s t c → retry_refusal known c ≡ None → LooseIf s t (Ok (succeeds_with (retry known c t)))
retries known s t c acc l h =
    let bound = both_none (bound_refusal known c.service.strategy) (retry_refusal_at c) h in
    let first = passed_row (not (is_aborted c.service.state)) NotAborted (if is_spent (runs_now c) then Some RunsSpent else None) bound.1 in
    let second = passed_row (is_spent (runs_now c)) RunsSpent None first.1 in
    leads_begun known s t c c.service.version (Retried c.service.version) 0 acc l bound.0 (aborted_idle c.service.state (not_false (is_aborted c.service.state) first.0)) second.0 (omega arith)

in_progress : (s : ServiceState) → progress_refusal s ≡ None → is_in_progress s.state ≡ true
in_progress s h = not_false (is_in_progress s.state) (passed_row (not (is_in_progress s.state)) NotInProgress None h).0

promotes_if : (s : Basis) (t : ℕ) (c : Evolution) → Accepted s → Loose s t c → promote_refusal c.service ≡ None → Loose s t (promote c t)
promotes_if s t c acc l h =
    let first = passed_row (not (is_in_progress c.service.state)) NotInProgress (if is_progressing (status c.service) then Some NotPaused else None) h in
    let second = passed_row (is_progressing (status c.service)) NotPaused None first.1 in
    promotes s t c acc l (not_false (is_in_progress c.service.state) first.0) second.0

reports_loose : (s : Basis) (t : ℕ) (c : Evolution) (o : Option OpenRun) (es : List Entry) → Accepted s → Loose s t c → Loose s t (reports_if c o es t).evolution
reports_loose s t c None es acc l = l
reports_loose s t c (Some r) es acc l = reported s t c r es acc l

acts : (known : Templates) (command : Command) (s : Basis) (t : ℕ) (c : Evolution) → Accepted s → Loose s t c → LooseIf s t (act known command c t)
acts known (Start name version) s t c acc l = unless_begun s t (start_refusal known c version) (succeeds_with (start known c t version)) (starts known s t c version acc l)
acts known (Promote name) s t c acc l = unless_loose s t (promote_refusal c.service) (succeeds_with (promote c t)) acc (promotes_if s t c acc l)
acts known (PromoteFull name) s t c acc l = unless_loose s t (progress_refusal c.service) (succeeds_with (promote_full c t)) acc (λ h. promotes_full s t c l (in_progress c.service h))
acts known (Abort name) s t c acc l = unless_loose s t (progress_refusal c.service) (succeeds_with (abort_by_command c t)) acc (λ h. aborts_by_command s t c l (in_progress c.service h))
acts known (Retry name) s t c acc l = unless_begun s t (retry_refusal known c) (succeeds_with (retry known c t)) (retries known s t c acc l)
acts known (Tick name) s t c acc l = λ fit. (s, acc, refl, l)
acts known (Report report) s t c acc l =
    let o : Option OpenRun = open_run_now c report.run in
    unless_loose s t (report_refusal c t report.run report.entries o) (reports_if c o report.entries t) acc (λ h. reports_loose s t c o report.entries acc l)
acts known (AddService spec) s t c acc l = tt
acts known (AddTemplate spec) s t c acc l = tt

-- the laws

kept_loose : (s : ServiceParts) (t : ℕ) → is_broken s ≡ false → Loose (basis s.service) (judged_at s.service t) (stored_evolution s)
kept_loose s t h =
    let f = fit_of s h in
    let before : s.service.entered ≤ s.service.last = f.2 in
    record { steady = steady_kept s.runs; same = refl; entered = omega arith; fit = f.0; unjudged = f.1 }

pub passing_keeps : PassingKeepsParts
passing_keeps s t acc fit h = (passes (basis s.service) (stored_evolution s) t (accepted (basis s.service) acc fit) (kept_loose s t h)).unbroken

late : (s : Basis) (t : ℕ) (c : Evolution) → Loose s t c → Loose s (judged_at c.service t) c
late s t c l = record { steady = l.steady; same = l.same; entered = (let e : c.service.entered ≤ t = l.entered in omega arith); fit = l.fit; unjudged = l.unjudged }

ok_same : (a b : ModelResult) → ◌≡◌ {A = Result ModelResult Refusal} (Ok a) (Ok b) → a ≡ b
ok_same a b h = cc h

after : (s : Basis) (t : ℕ) (o : Result ModelResult Refusal) (a : ModelResult) → LooseIf s t o → passed_on o t ≡ Ok a → are_fit a.evolution.service.bound ≡ true → (is_broken (stored_after a.evolution) ≡ false) × (a.evolution.service.strategy ≡ s.strategy)
after s t (Ok x) a l h fit =
    let is : record x { evolution = pass x.evolution t } ≡ a = ok_same (record x { evolution = pass x.evolution t }) a h in
    let own : are_fit x.evolution.service.bound ≡ true = ap are_fit (sym (passed_keeps x.evolution t).1) ∙ ap (λ (y : ModelResult). are_fit y.evolution.service.bound) is ∙ fit in
    let k = l own in
    let w = passes k.0 x.evolution t k.1 (late k.0 t x.evolution k.3) in
    subst (λ (y : ModelResult). (is_broken (stored_after y.evolution) ≡ false) × (y.evolution.service.strategy ≡ s.strategy)) is (w.unbroken, ap (λ (b : Basis). b.strategy) w.loose.same ∙ k.2)
after s t (Err refusal) a l h fit = cc h

pub acting_keeps : ActingKeepsParts
acting_keeps known command s now a acc bound h e fit =
    let b : Basis = basis s.service in
    let t : ℕ = judged_at s.service now in
    let c : Evolution = pass (stored_evolution s) now in
    let ok = accepted b acc bound in
    let w = passes b (stored_evolution s) now ok (kept_loose s now h) in
    after b t (act known command c t) a (acts known command b t c ok w.loose) e fit

pub new_are_unbroken : NewPartsAreUnbroken
new_are_unbroken spec now =
    let s : ServiceState = new_service_state spec now in
    let f : Fit s no_runs = record {
      placed = placed_end (length spec.steps) (length spec.steps) true refl refl;
      few = omega arith;
      room = λ g. cc g;
      numbered = refl;
      distinct = refl;
      tallied = refl;
      idle = λ g. refl;
      one_background = omega arith;
      one_step = omega arith;
      home = refl;
      background_run = refl;
      held = refl;
      known = refl;
      hold = refl;
      bound = new_unbound spec now;
      same = refl;
    } in
    unbroken_of (stored_after (new_service spec now)) f refl (omega arith) refl
