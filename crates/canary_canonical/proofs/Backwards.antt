-- What a command that keeps its limits is in JSON is decoded as the command, and so its text is.
use Rattle.std.proofs.Common.{◌≡◌, ℕ, ℤ, pos, negsuc, List, [], ◌∷◌, map, Bool, true, false, Option, Some, None, IsTrue, refl, sym, ap, ◌∙◌}
use Rattle.std.specs.Prelude.{codes, nat_le, if◌then◌else◌, option_map, option_and_then, unwrap_or}
use Rattle.std.specs.Option.{option_flatten, option_or}
use Rattle.std.specs.List.{list_all}
use Rattle.std.proofs.lemmas.Slice.Eq.{bytes_eq-Decides}
use Rattle.serde_json.specs.Data.{Data, string}
use Rattle.serde_json.specs.Find.{as_str}
use Rattle.serde_json.specs.Read.{read}
use Rattle.serde_json.specs.View.{items_of}
use Rattle.serde_json.specs.Written.{has_float, compact_text}
use Rattle.canary_base.specs.Names.{is_name, is_label}
use Rattle.canary_plan.specs.Limits.{is_dry_run_name}
use Rattle.canary_condition.specs.declared.outcome.Value.{Value}
use Rattle.canary_condition.specs.declared.outcome.Value.TheVariants.{Whole, List as ListResult}
use Rattle.canary_condition.specs.declared.outcome.Outcome.{Outcome}
use Rattle.canary_condition.specs.declared.outcome.Outcome.TheVariants.{Result as Brought, Failure}
use Rattle.canary_plan.specs.declared.step.Step.{Step}
use Rattle.canary_plan.specs.declared.step.Step.TheVariants.{SetWeight, Pause, Analysis}
use Rattle.canary_plan.specs.declared.service.Background.{Background}
use Rattle.canary_plan.specs.declared.service.ServiceSpec.{ServiceSpec}
use Rattle.canary_plan.specs.declared.template_spec.MetricSpec.{MetricSpec}
use Rattle.canary_plan.specs.declared.template_spec.TemplateSpec.{TemplateSpec}
use Rattle.canary_plan.specs.declared.report.Entry.{Entry}
use Rattle.canary_plan.specs.declared.report.Report.{Report}
use Rattle.canary_plan.specs.declared.command.Command.{Command}
use Rattle.canary_plan.specs.declared.command.Command.TheVariants as command
use Rattle.canary_plan.specs.Commands.{subject_of}
use Rattle.canary_canonical.specs.Texts.{whole_data, signed_data, data_or_null, list_data, metric_data, metric_object, template_data, step_data, background_data, service_data, result_data, entry_with, entry_data, report_data, start_data, service_alone, command_data, command_text}
use Rattle.canary_canonical.specs.Forms.{◌⊛◌, at, at_if, is_object_of, name_in, label_in, number_up_to, signed_in, null_or, each, list_of}
use Rattle.canary_canonical.specs.Readings.{seconds_in, moment_in, word_in, weight_in, starting_step_in, dry_run_name_in, metric_with, metric_in, template_with, template_in, step_in, background_with, background_in, service_with, service_in, values_with, result_in, outcome_in, entry_of, entry_in, report_with, report_in, start_with, start_in, named_in, plain_of_kind, command_of_kind, command_in, if_text_of, canonical_in}
use Rattle.canary_canonical.specs.Laws.{is_duration, is_weight, is_starting_step, is_signed_word, all_of, keeps_metric, keeps_template, keeps_step, keeps_background, keeps_service, keeps_outcome, keeps_entry, keeps_report, keeps_limits, KeepsLimits, ReadsBack, OneText}
use Rattle.canary_canonical.proofs.Kept.{made_where_kept}
use Rattle.canary_canonical.proofs.Regular.{written_is_read}
use Rattle.canary_canonical.proofs.PlainData.{plain_command}
use Rattle.canary_canonical.proofs.Limits.{both, is_word, metric_numbers, ordinal_is_word, run_is_word, command_fits}

-- ---- parts

passed : {A : Type 0} (a : A) {test : Bool} → IsTrue test → (if test then Some a else None) ≡ Some a
passed a h = ap (λ b. if b then Some a else None) h

name_back : (s : List ℕ) → IsTrue (is_name s) → name_in (string s) ≡ Some s
name_back s h = passed s h

label_back : (s : List ℕ) → IsTrue (is_label s) → label_in (string s) ≡ Some s
label_back s h = passed s h

number_back : (most n : ℕ) → IsTrue (nat_le n most) → number_up_to most (whole_data n) ≡ Some n
number_back most n h = passed n h

seconds_back : (n : ℕ) → IsTrue (is_duration n) → seconds_in (whole_data n) ≡ Some n
seconds_back = number_back 31536000

moment_back : (n : ℕ) → IsTrue (nat_le n 253370764799) → moment_in (whole_data n) ≡ Some n
moment_back = number_back 253370764799

word_back : (n : ℕ) → IsTrue (is_word n) → word_in (whole_data n) ≡ Some n
word_back = number_back 4294967295

weight_back : (n : ℕ) → IsTrue (is_weight n) → weight_in (whole_data n) ≡ Some n
weight_back = number_back 1000000

starting_step_back : (n : ℕ) → IsTrue (is_starting_step n) → starting_step_in (whole_data n) ≡ Some n
starting_step_back = number_back 64

dry_run_name_back : (s : List ℕ) → IsTrue (is_dry_run_name s) → dry_run_name_in (string s) ≡ Some s
dry_run_name_back s h = passed s h

signed_back : (z : ℤ) → IsTrue (is_signed_word z) → signed_in (signed_data z) ≡ Some z
signed_back (pos n) h = passed (pos n) h
signed_back (negsuc n) h = refl

or_null_back : {A : Type 0} (form : A → Data) (part : Data → Option A) (test : A → Bool) → ((a : A) → IsTrue (test a) → null_or part (form a) ≡ Some (Some a)) → (o : Option A) → IsTrue (all_of test o) → null_or part (data_or_null form o) ≡ Some o
or_null_back form part test h None k = refl
or_null_back form part test h (Some a) k = h a k

seconds_or_null : (o : Option ℕ) → IsTrue (all_of is_duration o) → null_or seconds_in (data_or_null whole_data o) ≡ Some o
seconds_or_null = or_null_back whole_data seconds_in is_duration (λ n h. ap (option_map Some) (seconds_back n h))

word_or_null : (o : Option ℕ) → IsTrue (all_of is_word o) → null_or word_in (data_or_null whole_data o) ≡ Some o
word_or_null = or_null_back whole_data word_in is_word (λ n h. ap (option_map Some) (word_back n h))

text_or_null : (o : Option (List ℕ)) → null_or as_str (data_or_null string o) ≡ Some o
text_or_null None = refl
text_or_null (Some s) = refl

each_back : {A : Type 0} (form : A → Data) (part : Data → Option A) (test : A → Bool) → ((a : A) → IsTrue (test a) → part (form a) ≡ Some a) → (xs : List A) → IsTrue (list_all test xs) → each part (items_of (map form xs)) ≡ Some xs
each_back form part test h [] k = refl
each_back form part test h (x ∷ xs) k =
    let first = h x (both k).0 in
    let rest = each_back form part test h xs (both k).1 in
    λ i. option_and_then (λ a. option_map (λ more. a ∷ more) (rest i)) (first i)

names_back : (xs : List (List ℕ)) → IsTrue (list_all is_name xs) → list_of name_in (list_data string xs) ≡ Some xs
names_back = each_back string name_in is_name name_back

dry_run_back : (xs : List (List ℕ)) → IsTrue (list_all is_dry_run_name xs) → list_of dry_run_name_in (list_data string xs) ≡ Some xs
dry_run_back = each_back string dry_run_name_in is_dry_run_name dry_run_name_back

-- ---- templates

passes_back : (o : Option ℕ) (m : MetricSpec) → IsTrue (all_of is_word o) → at_if (codes "passAfter") word_in (metric_object o m) ≡ Some o
unfolding metric_object
passes_back None m h = refl
passes_back (Some n) m h = ap (option_map Some) (word_back n h)

success_back : (o : Option ℕ) (m : MetricSpec) → at (codes "successCondition") (null_or as_str) (metric_object o m) ≡ Some m.success
unfolding metric_object
success_back None m = text_or_null m.success
success_back (Some n) m = text_or_null m.success

metric_back : (m : MetricSpec) → IsTrue (keeps_metric m) → metric_in (metric_data m) ≡ Some m
unfolding metric_object metric_in keeps_metric
metric_back m h =
    let numbers = metric_numbers m in
    let times = both (both h).1 in
    let name : at (codes "name") label_in (metric_data m) ≡ Some m.name = label_back m.name (both h).0 in
    let success : at (codes "successCondition") (null_or as_str) (metric_data m) ≡ Some m.success = success_back m.pass_after m in
    let failure : at (codes "failureCondition") (null_or as_str) (metric_data m) ≡ Some m.failure = text_or_null m.failure in
    let interval : at (codes "interval") (null_or seconds_in) (metric_data m) ≡ Some m.interval = seconds_or_null m.interval times.0 in
    let delay : at (codes "initialDelay") seconds_in (metric_data m) ≡ Some m.initial_delay = seconds_back m.initial_delay times.1 in
    let count : at (codes "count") (null_or word_in) (metric_data m) ≡ Some m.count = word_or_null m.count numbers.count in
    let passes : at_if (codes "passAfter") word_in (metric_data m) ≡ Some m.pass_after = passes_back m.pass_after m numbers.passes in
    let failed : at (codes "failureLimit") word_in (metric_data m) ≡ Some m.failure_limit = word_back m.failure_limit numbers.failed in
    let inconclusive : at (codes "inconclusiveLimit") word_in (metric_data m) ≡ Some m.inconclusive_limit = word_back m.inconclusive_limit numbers.inconclusive in
    let errors : at (codes "consecutiveErrorLimit") word_in (metric_data m) ≡ Some m.consecutive_error_limit = word_back m.consecutive_error_limit numbers.errors in
    (λ i. option_flatten (Some metric_with ⊛ name i ⊛ success i ⊛ failure i ⊛ interval i ⊛ delay i ⊛ count i ⊛ passes i ⊛ failed i ⊛ inconclusive i ⊛ errors i)) ∙ sym (made_where_kept _ _ m.within)

template_back : (t : TemplateSpec) → IsTrue (keeps_template t) → template_in (template_data t) ≡ Some t
unfolding template_data template_in keeps_template
template_back t h =
    let lists = both (both h).1 in
    let name : at (codes "name") name_in (template_data t) ≡ Some t.name = name_back t.name (both h).0 in
    let metrics : at (codes "metrics") (list_of metric_in) (template_data t) ≡ Some t.metrics = each_back metric_data metric_in keeps_metric metric_back t.metrics lists.0 in
    let dry_run : at (codes "dryRun") (list_of dry_run_name_in) (template_data t) ≡ Some t.dry_run = dry_run_back t.dry_run lists.1 in
    (λ i. option_flatten (Some template_with ⊛ name i ⊛ metrics i ⊛ dry_run i)) ∙ sym (made_where_kept _ _ t.within)

-- ---- services

step_back : (s : Step) → IsTrue (keeps_step s) → step_in (step_data s) ≡ Some s
unfolding step_data step_in keeps_step
step_back (SetWeight percent) h = ap (option_map SetWeight) (weight_back percent h)
step_back (Pause seconds) h = ap (option_map Pause) (seconds_or_null seconds h)
step_back (Analysis names) h = ap (option_map Analysis) (names_back names h)

background_back : (b : Background) → IsTrue (keeps_background b) → background_in (background_data b) ≡ Some b
unfolding background_data background_in keeps_background
background_back b h =
    let templates : at (codes "templates") (list_of name_in) (background_data b) ≡ Some b.templates = names_back b.templates (both h).0 in
    let starting_step : at (codes "startingStep") starting_step_in (background_data b) ≡ Some b.starting_step = starting_step_back b.starting_step (both h).1 in
    λ i. Some background_with ⊛ templates i ⊛ starting_step i

background_not_null : (b : Background) → IsTrue (keeps_background b) → null_or background_in (background_data b) ≡ Some (Some b)
unfolding background_data
background_not_null b h = ap (option_map Some) (background_back b h)

service_back : (s : ServiceSpec) → IsTrue (keeps_service s) → service_in (service_data s) ≡ Some s
unfolding service_data service_in keeps_service
service_back s h =
    let rest = both (both h).1 in
    let parts = both rest.1 in
    let name : at (codes "name") name_in (service_data s) ≡ Some s.name = name_back s.name (both h).0 in
    let version : at (codes "version") label_in (service_data s) ≡ Some s.version = label_back s.version rest.0 in
    let steps : at (codes "steps") (list_of step_in) (service_data s) ≡ Some s.steps = each_back step_data step_in keeps_step step_back s.steps parts.0 in
    let background : at (codes "analysis") (null_or background_in) (service_data s) ≡ Some s.background = or_null_back background_data background_in keeps_background background_not_null s.background parts.1 in
    λ i. Some service_with ⊛ name i ⊛ version i ⊛ steps i ⊛ background i

-- ---- reports

result_back : (v : Value) → IsTrue (keeps_outcome (Brought v)) → result_in (result_data v) ≡ Some v
unfolding keeps_outcome
result_back (Whole z) h = ap (option_map Whole) (signed_back z h)
result_back (ListResult values) h =
    let list : list_of signed_in (list_data signed_data values) ≡ Some values = each_back signed_data signed_in is_signed_word signed_back values (both h).1 in
    (λ i. option_or (option_map ListResult (option_and_then values_with (list i))) None) ∙ ap (λ o. option_or (option_map ListResult o) None) (passed values (both h).0)

outcome_back : (metric : List ℕ) (ordinal taken : ℕ) (o : Outcome) → IsTrue (keeps_outcome o) → outcome_in (entry_with metric ordinal taken o) ≡ Some o
unfolding keeps_outcome
outcome_back metric ordinal taken (Brought value) h = ap (option_map Brought) (result_back value h)
outcome_back metric ordinal taken (Failure text) h = ap (option_map Failure) (passed text h)

four_in_entry : (metric : List ℕ) (ordinal taken : ℕ) (o : Outcome) → is_object_of 4 (entry_with metric ordinal taken o) ≡ true
four_in_entry metric ordinal taken (Brought value) = refl
four_in_entry metric ordinal taken (Failure text) = refl

metric_of_entry : (metric : List ℕ) (ordinal taken : ℕ) (o : Outcome) → IsTrue (is_label metric) → at (codes "metric") label_in (entry_with metric ordinal taken o) ≡ Some metric
metric_of_entry metric ordinal taken (Brought value) h = label_back metric h
metric_of_entry metric ordinal taken (Failure text) h = label_back metric h

ordinal_of_entry : (metric : List ℕ) (ordinal taken : ℕ) (o : Outcome) → IsTrue (is_word ordinal) → at (codes "ordinal") word_in (entry_with metric ordinal taken o) ≡ Some ordinal
ordinal_of_entry metric ordinal taken (Brought value) h = word_back ordinal h
ordinal_of_entry metric ordinal taken (Failure text) h = word_back ordinal h

taken_of_entry : (metric : List ℕ) (ordinal taken : ℕ) (o : Outcome) → IsTrue (nat_le taken 253370764799) → at (codes "taken") moment_in (entry_with metric ordinal taken o) ≡ Some taken
taken_of_entry metric ordinal taken (Brought value) h = moment_back taken h
taken_of_entry metric ordinal taken (Failure text) h = moment_back taken h

entry_back : (e : Entry) → IsTrue (keeps_entry e) → entry_in (entry_data e) ≡ Some e
unfolding entry_data entry_in keeps_entry
entry_back e h =
    let rest = both (both h).1 in
    let four = four_in_entry e.metric e.ordinal e.taken e.outcome in
    let metric = metric_of_entry e.metric e.ordinal e.taken e.outcome (both h).0 in
    let ordinal = ordinal_of_entry e.metric e.ordinal e.taken e.outcome (ordinal_is_word e) in
    let taken = taken_of_entry e.metric e.ordinal e.taken e.outcome rest.0 in
    let outcome = outcome_back e.metric e.ordinal e.taken e.outcome rest.1 in
    (λ i. if four i then option_flatten (Some entry_of ⊛ metric i ⊛ ordinal i ⊛ taken i ⊛ outcome i) else None) ∙ sym (made_where_kept _ _ e.within)

report_back : (r : Report) → IsTrue (keeps_report r) → report_in (report_data r) ≡ Some r
unfolding report_data report_in keeps_report
report_back r h =
    let service : at (codes "service") name_in (report_data r) ≡ Some r.service = name_back r.service (both h).0 in
    let run : at (codes "run") word_in (report_data r) ≡ Some r.run = word_back r.run (run_is_word r) in
    let entries : at (codes "entries") (list_of entry_in) (report_data r) ≡ Some r.entries = each_back entry_data entry_in keeps_entry entry_back r.entries (both h).1 in
    (λ i. option_flatten (Some report_with ⊛ service i ⊛ run i ⊛ entries i)) ∙ sym (made_where_kept _ _ r.within)

-- ---- commands

start_back : (service version : List ℕ) → IsTrue (is_name service) → IsTrue (is_label version) → start_in (start_data service version) ≡ Some (command.Start service version)
unfolding start_data start_in
start_back service version h k =
    let name = name_back service h in
    let label = label_back version k in
    λ i. Some start_with ⊛ name i ⊛ label i

named_back : (service : List ℕ) → IsTrue (is_name service) → named_in (service_alone service) ≡ Some service
named_back service h = name_back service h

by_name : (make : List ℕ → Command) (service : List ℕ) → IsTrue (is_name service) → option_map make (named_in (service_alone service)) ≡ Some (make service)
by_name make service h = ap (option_map make) (named_back service h)

command_back : (c : Command) → KeepsLimits c → command_in (command_data c) ≡ Some c
unfolding command_data command_of_kind plain_of_kind keeps_limits
command_back (command.Template spec) h = ap (option_map command.Template) (template_back spec h)
command_back (command.Service spec) h = ap (option_map command.Service) (service_back spec h)
command_back (command.Start service version) h = start_back service version (both h).0 (both h).1
command_back (command.Report report) h = ap (option_map command.Report) (report_back report h)
command_back other h = by_name _ (subject_of other) h

-- ---- texts

-- a text that is read as what a command is in JSON is read as the command
-- and if it is the command's text, it is canonical
pub canonical_read : (text : List ℕ) (c : Command) → KeepsLimits c → read text ≡ Some (command_data c) → text ≡ command_text c → canonical_in text ≡ Some c
unfolding canonical_in
canonical_read text c h e same =
    ap (λ o. option_and_then (if_text_of text) (option_and_then command_in o)) e ∙ ap (option_and_then (if_text_of text)) (command_back c h) ∙ passed c ((bytes_eq-Decides (command_text c) text).1 (sym same))

-- what is written for such data is the command's text
pub written_text : (text : List ℕ) (d : Data) (c : Command) → d ≡ command_data c → (has_float d ≡ false → text ≡ compact_text d) → text ≡ command_text c
unfolding command_text
written_text text d c e h = h (ap has_float e ∙ (plain_command c).floatless) ∙ ap compact_text e

text_read : (c : Command) → KeepsLimits c → read (command_text c) ≡ Some (command_data c)
unfolding command_text
text_read c h = let plain = plain_command c in written_is_read (command_data c) (command_fits c h) plain.floatless plain.in_order plain.shallow

pub reads_back : ReadsBack
reads_back c h = canonical_read (command_text c) c h (text_read c h) refl

pub one_text : OneText
one_text a b h k = ((λ e. ap (λ o. unwrap_or o a) (sym (reads_back a h) ∙ ap canonical_in e ∙ reads_back b k)), (λ e. ap command_text e))
