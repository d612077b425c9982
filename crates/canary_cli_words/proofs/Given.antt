-- What each command has to be given, if clap finds no fault in the words of its level.
use Rattle.std.proofs.Common.{inl, inr, ◌≡◌, ℕ, ◌||◌, Bool, true, false, not, List, [], Option, Some, None, codes, refl, subst, sym}
use Rattle.std.specs.Prelude.{IfSome, slice_get, unwrap_or}
use Rattle.std.specs.Str.{bytes_eq}
use Rattle.std.proofs.lemmas.Slice.Eq.{bytes_eq-Decides}
use Rattle.clap.specs.ValueTests.{accepts}
use Rattle.clap.specs.Words.{IsUnsignedIn, Row, Shape, Text, built, one_of}
use Rattle.clap.specs.Walk.{Rule, arg_by_id, nothing_held, rows_after}
use Rattle.clap.specs.Takes.{is_given}
use Rattle.clap.specs.Kinds.{check_kinds}
use Rattle.clap.specs.Faults.{check_fault, level_fault}
use Rattle.clap.specs.declared.builder.value_parser.ValueParser.TheVariants.{Bool as bool_parser, Unsigned}
use Rattle.clap.proofs.ValueTestLemmas.{accepts-Accepts}
use Rattle.canary_cli_words.specs.CommandLine.{desk_command, number_option, pipe_command, HasAgent, HasArgo, HasAsked, HasBackup, HasCheck, HasDesk, HasDo, HasDue, HasExport, HasImport, HasListener, HasMigrate, HasPage, HasPipe, HasStatus, HasTexts, HasWatch, IsTrueOrFalse}
use Rattle.canary_cli_words.proofs.Walks.{AreOptions, AreRead, given_text, optional_text, read-level}

-- the desk and its commands, as they are built
abbrev pub desk : Shape
desk = (built desk_command).top

abbrev built_at : ℕ → Shape
built_at i = unwrap_or (slice_get (built desk_command).subs i) pipe_command.top

abbrev pub pipe : Shape
pipe = built_at 0

abbrev pub serve : Shape
serve = built_at 1

abbrev pub import : Shape
import = built_at 2

abbrev pub history : Shape
history = built_at 3

abbrev pub export : Shape
export = built_at 4

abbrev pub status : Shape
status = built_at 5

abbrev pub page : Shape
page = built_at 6

abbrev pub backup : Shape
backup = built_at 7

abbrev pub migrate : Shape
migrate = built_at 8

abbrev pub succeed : Shape
succeed = built_at 9

abbrev pub check : Shape
check = built_at 10

abbrev pub argo : Shape
argo = built_at 11

abbrev pub asking : Shape
asking = built_at 12

abbrev pub get : Shape
get = built_at 13

abbrev pub watch : Shape
watch = built_at 14

abbrev pub send : Shape
send = built_at 15

abbrev pub due : Shape
due = built_at 16

abbrev pub agent : Shape
agent = built_at 17

-- ---- what each command has to be given

pipe_options : AreOptions pipe.rules pipe.rules
pipe_options = (record { own = refl; default = tt; takes = inl (refl, refl) }, (record { own = refl; default = tt; takes = inl (refl, refl) }, (record { own = refl; default = tt; takes = inl (refl, refl) }, (record { own = refl; default = tt; takes = inl (refl, refl) }, (record { own = refl; default = tt; takes = inr (inr refl) }, tt)))))

serve_options : AreOptions serve.rules serve.rules
serve_options = (record { own = refl; default = tt; takes = inl (refl, refl) }, (record { own = refl; default = tt; takes = inl (refl, refl) }, (record { own = refl; default = tt; takes = inl (refl, refl) }, (record { own = refl; default = tt; takes = inl (refl, refl) }, (record { own = refl; default = tt; takes = inl (refl, refl) }, (record { own = refl; default = tt; takes = inl (refl, refl) }, (record { own = refl; default = tt; takes = inl (refl, refl) }, (record { own = refl; default = tt; takes = inl (refl, refl) }, (record { own = refl; default = tt; takes = inl (refl, refl) }, (record { own = refl; default = tt; takes = inr (inr refl) }, tt))))))))))

import_options : AreOptions import.rules import.rules
import_options = (record { own = refl; default = tt; takes = inl (refl, refl) }, (record { own = refl; default = tt; takes = inl (refl, refl) }, (record { own = refl; default = tt; takes = inl (refl, refl) }, (record { own = refl; default = tt; takes = inr (inr refl) }, tt))))

history_options : AreOptions history.rules history.rules
history_options = (record { own = refl; default = tt; takes = inl (refl, refl) }, (record { own = refl; default = tt; takes = inl (refl, refl) }, (record { own = refl; default = tt; takes = inr (inr refl) }, tt)))

export_options : AreOptions export.rules export.rules
export_options = (record { own = refl; default = tt; takes = inl (refl, refl) }, (record { own = refl; default = tt; takes = inl (refl, refl) }, (record { own = refl; default = tt; takes = inl (refl, refl) }, (record { own = refl; default = tt; takes = inr (inr refl) }, tt))))

status_options : AreOptions status.rules status.rules
status_options = (record { own = refl; default = tt; takes = inl (refl, refl) }, (record { own = refl; default = tt; takes = inl (refl, refl) }, (record { own = refl; default = refl; takes = inr (inl (refl, tt)) }, (record { own = refl; default = refl; takes = inr (inl (refl, tt)) }, (record { own = refl; default = tt; takes = inr (inr refl) }, tt)))))

page_options : AreOptions page.rules page.rules
page_options = (record { own = refl; default = tt; takes = inl (refl, refl) }, (record { own = refl; default = tt; takes = inl (refl, refl) }, (record { own = refl; default = tt; takes = inl (refl, refl) }, (record { own = refl; default = tt; takes = inl (refl, refl) }, (record { own = refl; default = tt; takes = inr (inr refl) }, tt)))))

backup_options : AreOptions backup.rules backup.rules
backup_options = (record { own = refl; default = tt; takes = inl (refl, refl) }, (record { own = refl; default = tt; takes = inl (refl, refl) }, (record { own = refl; default = tt; takes = inl (refl, refl) }, (record { own = refl; default = tt; takes = inl (refl, refl) }, (record { own = refl; default = tt; takes = inr (inr refl) }, tt)))))

migrate_options : AreOptions migrate.rules migrate.rules
migrate_options = (record { own = refl; default = tt; takes = inl (refl, refl) }, (record { own = refl; default = refl; takes = inr (inl (refl, tt)) }, (record { own = refl; default = tt; takes = inr (inr refl) }, tt)))

succeed_options : AreOptions succeed.rules succeed.rules
succeed_options = (record { own = refl; default = tt; takes = inl (refl, refl) }, (record { own = refl; default = tt; takes = inl (refl, refl) }, (record { own = refl; default = tt; takes = inr (inr refl) }, tt)))

check_options : AreOptions check.rules check.rules
check_options = (record { own = refl; default = tt; takes = inl (refl, refl) }, (record { own = refl; default = refl; takes = inr (inl (refl, tt)) }, (record { own = refl; default = tt; takes = inl (refl, refl) }, (record { own = refl; default = tt; takes = inr (inr refl) }, tt))))

argo_options : AreOptions argo.rules argo.rules
argo_options = (record { own = refl; default = tt; takes = inl (refl, refl) }, (record { own = refl; default = refl; takes = inr (inl (refl, tt)) }, (record { own = refl; default = tt; takes = inl (refl, refl) }, (record { own = refl; default = tt; takes = inr (inr refl) }, tt))))

asking_options : AreOptions asking.rules asking.rules
asking_options = (record { own = refl; default = tt; takes = inl (refl, refl) }, (record { own = refl; default = tt; takes = inl (refl, refl) }, (record { own = refl; default = tt; takes = inl (refl, refl) }, (record { own = refl; default = tt; takes = inl (refl, refl) }, (record { own = refl; default = tt; takes = inl (refl, refl) }, (record { own = refl; default = tt; takes = inl (refl, refl) }, (record { own = refl; default = refl; takes = inr (inl (refl, tt)) }, (record { own = refl; default = refl; takes = inr (inl (refl, tt)) }, (record { own = refl; default = tt; takes = inl (refl, refl) }, (record { own = refl; default = tt; takes = inl (refl, refl) }, (record { own = refl; default = tt; takes = inl (refl, refl) }, (record { own = refl; default = tt; takes = inl (refl, refl) }, (record { own = refl; default = tt; takes = inl (refl, refl) }, (record { own = refl; default = tt; takes = inl (refl, refl) }, (record { own = refl; default = tt; takes = inl (refl, refl) }, (record { own = refl; default = tt; takes = inr (inr refl) }, tt))))))))))))))))

get_options : AreOptions get.rules get.rules
get_options = (record { own = refl; default = tt; takes = inl (refl, refl) }, (record { own = refl; default = tt; takes = inl (refl, refl) }, (record { own = refl; default = tt; takes = inl (refl, refl) }, (record { own = refl; default = tt; takes = inl (refl, refl) }, (record { own = refl; default = tt; takes = inl (refl, refl) }, (record { own = refl; default = tt; takes = inr (inr refl) }, tt))))))

watch_options : AreOptions watch.rules watch.rules
watch_options = (record { own = refl; default = tt; takes = inl (refl, refl) }, (record { own = refl; default = tt; takes = inl (refl, refl) }, (record { own = refl; default = tt; takes = inl (refl, refl) }, (record { own = refl; default = tt; takes = inl (refl, refl) }, (record { own = refl; default = refl; takes = inr (inl (refl, tt)) }, (record { own = refl; default = refl; takes = inr (inl (refl, tt)) }, (record { own = refl; default = tt; takes = inl (refl, refl) }, (record { own = refl; default = tt; takes = inr (inr refl) }, tt))))))))

send_options : AreOptions send.rules send.rules
send_options = (record { own = refl; default = tt; takes = inl (refl, refl) }, (record { own = refl; default = tt; takes = inl (refl, refl) }, (record { own = refl; default = tt; takes = inl (refl, refl) }, (record { own = refl; default = tt; takes = inl (refl, refl) }, (record { own = refl; default = tt; takes = inr (inr refl) }, tt)))))

due_options : AreOptions due.rules due.rules
due_options = (record { own = refl; default = tt; takes = inl (refl, refl) }, (record { own = refl; default = tt; takes = inl (refl, refl) }, (record { own = refl; default = tt; takes = inl (refl, refl) }, (record { own = refl; default = refl; takes = inr (inl (refl, tt)) }, (record { own = refl; default = tt; takes = inl (refl, refl) }, (record { own = refl; default = tt; takes = inl (refl, refl) }, (record { own = refl; default = tt; takes = inr (inr refl) }, tt)))))))

agent_options : AreOptions agent.rules agent.rules
agent_options = (record { own = refl; default = tt; takes = inl (refl, refl) }, (record { own = refl; default = tt; takes = inl (refl, refl) }, (record { own = refl; default = tt; takes = inl (refl, refl) }, (record { own = refl; default = refl; takes = inr (inl (refl, tt)) }, (record { own = refl; default = refl; takes = inr (inl (refl, tt)) }, (record { own = refl; default = tt; takes = inl (refl, refl) }, (record { own = refl; default = tt; takes = inl (refl, refl) }, (record { own = refl; default = tt; takes = inl (refl, refl) }, (record { own = refl; default = tt; takes = inl (refl, refl) }, (record { own = refl; default = tt; takes = inl (refl, refl) }, (record { own = refl; default = tt; takes = inr (inr refl) }, tt)))))))))))

-- what is required is given
both_given : (at step : Bool) → check_kinds false false (not at || (not step || false)) ≡ [] → (at ≡ true) × (step ≡ true)
both_given true true none = (refl, refl)
both_given true false none = cc
both_given false step none = cc

one_given : (given : Bool) → check_kinds false false (not given || false) ≡ [] → given ≡ true
one_given true none = refl
one_given false none = cc

all_given : (a b c : Bool) → check_kinds false false (not a || (not b || (not c || false))) ≡ [] → (a ≡ true) × (b ≡ true) × (c ≡ true)
all_given true true true none = (refl, refl, refl)
all_given true true false none = cc
all_given true false c none = cc
all_given false b c none = cc

-- a text that passed the parser of a number is one
number_passed : (most : ℕ) (o : Option Text) → IfSome o (λ t. (text : Text) × (t ≡ text) × (accepts false (Unsigned 1 most) text ≡ true)) → IfSome o (IsUnsignedIn 1 most)
number_passed most None passed = tt
number_passed most (Some t) passed =
    subst (IsUnsignedIn 1 most) (sym passed.1) (accepts-Accepts false (Unsigned 1 most) passed.0 passed.2)

-- the rows of `pipe`
pub pipe_rows : (words : List Text) → level_fault pipe [] nothing_held words false [] ≡ [] → HasPipe (rows_after pipe.rules [] words)
pipe_rows words none =
    let level = read-level pipe [] words false [] pipe_options none in
    let rows : List Row = rows_after pipe.rules [] words in
    let given = both_given (is_given (codes "at") rows) (is_given (codes "step") rows) level.1 in
    let at = given_text pipe.rules (codes "at") _ rows refl level.0 given.0 in
    let step = given_text pipe.rules (codes "step") _ rows refl level.0 given.1 in (
      (
        (at.0, at.1, accepts-Accepts false (Unsigned 0 253370764799) at.0 at.3),
        (step.0, step.1, accepts-Accepts false (Unsigned 0 253370764799) step.0 step.3),
      ),
      number_passed 68719476736 (one_of (codes "cache") rows) (optional_text pipe.rules (codes "cache") _ rows refl level.0),
    )

-- the rows of `serve`
pub serve_rows : (words : List Text) → level_fault serve [] nothing_held words false [] ≡ [] → HasListener (rows_after serve.rules [] words)
serve_rows words none =
    let level = read-level serve [] words false [] serve_options none in
    let rows : List Row = rows_after serve.rules [] words in
    let listen = given_text serve.rules (codes "listen") _ rows refl level.0 (one_given (is_given (codes "listen") rows) level.1) in (
      (listen.0, listen.2),
      number_passed 68719476736 (one_of (codes "cache") rows) (optional_text serve.rules (codes "cache") _ rows refl level.0),
      number_passed 1000000 (one_of (codes "connections") rows) (optional_text serve.rules (codes "connections") _ rows refl level.0),
      (
        number_passed 86400 (one_of (codes "read-timeout") rows) (optional_text serve.rules (codes "read-timeout") _ rows refl level.0),
        number_passed 86400 (one_of (codes "idle-timeout") rows) (optional_text serve.rules (codes "idle-timeout") _ rows refl level.0),
        number_passed 65536 (one_of (codes "max-clients") rows) (optional_text serve.rules (codes "max-clients") _ rows refl level.0),
        number_passed 1073741824 (one_of (codes "max-unsent") rows) (optional_text serve.rules (codes "max-unsent") _ rows refl level.0),
        number_passed 68719476736 (one_of (codes "max-unsent-total") rows) (optional_text serve.rules (codes "max-unsent-total") _ rows refl level.0),
      ),
    )

-- the rows of a command that is given the file of the records and one word more
two_texts : (s : Shape) (name : Text) (first second : Rule) (words : List Text) → AreOptions s.rules s.rules → arg_by_id s.rules (codes "db") ≡ Some first → arg_by_id s.rules name ≡ Some second
    → (check_fault s (rows_after s.rules [] words) false ≡ [] → (is_given (codes "db") (rows_after s.rules [] words) ≡ true) × (is_given name (rows_after s.rules [] words) ≡ true))
    → level_fault s [] nothing_held words false [] ≡ [] → HasTexts name (rows_after s.rules [] words)
two_texts s name first second words options is_first is_second required none =
    let level = read-level s [] words false [] options none in
    let rows : List Row = rows_after s.rules [] words in
    let given = required level.1 in
    let db = given_text s.rules (codes "db") first rows is_first level.0 given.0 in
    let other = given_text s.rules name second rows is_second level.0 given.1 in
    ((db.0, db.2), (other.0, other.2))

pub import_rows : (words : List Text) → level_fault import [] nothing_held words false [] ≡ [] → HasImport (rows_after import.rules [] words)
import_rows words none =
    let level = read-level import [] words false [] import_options none in
    let rows : List Row = rows_after import.rules [] words in (
      two_texts import (codes "csv") _ _ words import_options refl refl (both_given (is_given (codes "db") rows) (is_given (codes "csv") rows)) none,
      number_passed 68719476736 (one_of (codes "cache") rows) (optional_text import.rules (codes "cache") _ rows refl level.0),
    )

pub history_rows : (words : List Text) → level_fault history [] nothing_held words false [] ≡ [] → HasTexts (codes "service") (rows_after history.rules [] words)
history_rows words none =
    two_texts history (codes "service") _ _ words history_options refl refl (both_given (is_given (codes "db") (rows_after history.rules [] words)) (is_given (codes "service") (rows_after history.rules [] words))) none

-- the rows of `backup`
pub backup_rows : (words : List Text) → level_fault backup [] nothing_held words false [] ≡ [] → HasBackup (rows_after backup.rules [] words)
backup_rows words none =
    let level = read-level backup [] words false [] backup_options none in
    let rows : List Row = rows_after backup.rules [] words in (
      two_texts backup (codes "copy") _ _ words backup_options refl refl (both_given (is_given (codes "db") rows) (is_given (codes "copy") rows)) none,
      number_passed 31536000 (one_of (codes "every") rows) (optional_text backup.rules (codes "every") _ rows refl level.0),
      number_passed 10000 (one_of (codes "keep") rows) (optional_text backup.rules (codes "keep") _ rows refl level.0),
    )

pub succeed_rows : (words : List Text) → level_fault succeed [] nothing_held words false [] ≡ [] → HasTexts (codes "new") (rows_after succeed.rules [] words)
succeed_rows words none =
    two_texts succeed (codes "new") _ _ words succeed_options refl refl (both_given (is_given (codes "db") (rows_after succeed.rules [] words)) (is_given (codes "new") (rows_after succeed.rules [] words))) none

-- the rows of `export`
pub export_rows : (words : List Text) → level_fault export [] nothing_held words false [] ≡ [] → HasExport (rows_after export.rules [] words)
export_rows words none =
    let level = read-level export [] words false [] export_options none in
    let rows : List Row = rows_after export.rules [] words in
    let given = all_given (is_given (codes "db") rows) (is_given (codes "caller") rows) (is_given (codes "service") rows) level.1 in
    let db = given_text export.rules (codes "db") _ rows refl level.0 given.0 in
    let caller = given_text export.rules (codes "caller") _ rows refl level.0 given.1 in
    let service = given_text export.rules (codes "service") _ rows refl level.0 given.2 in
    ((db.0, db.2), (caller.0, caller.2), (service.0, service.2))

-- a text that passed the parser of a flag is `true` or `false`
flag_passed : (o : Option Text) → IfSome o (λ t. (text : Text) × (t ≡ text) × (accepts false bool_parser text ≡ true)) → IfSome o IsTrueOrFalse
flag_passed None passed = tt
flag_passed (Some t) passed =
    subst IsTrueOrFalse (sym passed.1) (go (bytes_eq passed.0 (codes "true")) (bytes_eq passed.0 (codes "false")) (bytes_eq-Decides passed.0 (codes "true")).0 (bytes_eq-Decides passed.0 (codes "false")).0 passed.2)
  where
    go : (on off : Bool) → (on ≡ true → passed.0 ≡ codes "true") → (off ≡ true → passed.0 ≡ codes "false") → (on || off) ≡ true → IsTrueOrFalse passed.0
    go true off when_true when_false test = inl (when_true refl)
    go false true when_true when_false test = inr (when_false refl)
    go false false when_true when_false test = cc

-- the rows of `status`
pub status_rows : (words : List Text) → level_fault status [] nothing_held words false [] ≡ [] → HasStatus (rows_after status.rules [] words)
status_rows words none =
    let level = read-level status [] words false [] status_options none in
    let rows : List Row = rows_after status.rules [] words in
    let db = given_text status.rules (codes "db") _ rows refl level.0 (one_given (is_given (codes "db") rows) level.1) in (
      (db.0, db.2),
      number_passed 86400 (one_of (codes "watch") rows) (optional_text status.rules (codes "watch") _ rows refl level.0),
      flag_passed (one_of (codes "json") rows) (optional_text status.rules (codes "json") _ rows refl level.0),
      flag_passed (one_of (codes "prometheus") rows) (optional_text status.rules (codes "prometheus") _ rows refl level.0),
    )

-- the rows of `page`
pub page_rows : (words : List Text) → level_fault page [] nothing_held words false [] ≡ [] → HasPage (rows_after page.rules [] words)
page_rows words none =
    let level = read-level page [] words false [] page_options none in
    let rows : List Row = rows_after page.rules [] words in (
      two_texts page (codes "out") _ _ words page_options refl refl (both_given (is_given (codes "db") rows) (is_given (codes "out") rows)) none,
      number_passed 86400 (one_of (codes "watch") rows) (optional_text page.rules (codes "watch") _ rows refl level.0),
    )

-- the rows of `migrate`
pub migrate_rows : (words : List Text) → level_fault migrate [] nothing_held words false [] ≡ [] → HasMigrate (rows_after migrate.rules [] words)
migrate_rows words none =
    let level = read-level migrate [] words false [] migrate_options none in
    let rows : List Row = rows_after migrate.rules [] words in
    let db = given_text migrate.rules (codes "db") _ rows refl level.0 (one_given (is_given (codes "db") rows) level.1) in
    ((db.0, db.2), flag_passed (one_of (codes "dry-run") rows) (optional_text migrate.rules (codes "dry-run") _ rows refl level.0))

-- the rows of `check`
pub check_rows : (words : List Text) → level_fault check [] nothing_held words false [] ≡ [] → HasCheck (rows_after check.rules [] words)
check_rows words none =
    let level = read-level check [] words false [] check_options none in
    let rows : List Row = rows_after check.rules [] words in
    flag_passed (one_of (codes "strict") rows) (optional_text check.rules (codes "strict") _ rows refl level.0)

-- the rows of `argo`
pub argo_rows : (words : List Text) → level_fault argo [] nothing_held words false [] ≡ [] → HasArgo (rows_after argo.rules [] words)
argo_rows words none =
    let level = read-level argo [] words false [] argo_options none in
    let rows : List Row = rows_after argo.rules [] words in
    let file = given_text argo.rules (codes "file") _ rows refl level.0 (one_given (is_given (codes "file") rows) level.1) in
    ((file.0, file.2), flag_passed (one_of (codes "json") rows) (optional_text argo.rules (codes "json") _ rows refl level.0))

-- ---- what the commands that ask a desk have to be given

abbrev tries_rule : Rule
tries_rule = unwrap_or (arg_by_id send.rules (codes "tries")) (number_option (codes "tries") 1000)

abbrev timeout_rule : Rule
timeout_rule = unwrap_or (arg_by_id send.rules (codes "timeout")) (number_option (codes "timeout") 86400)

-- the rows of how patiently a desk is asked
desk_rows : (c : List Rule) (rows : List Row) → arg_by_id c (codes "tries") ≡ Some tries_rule → arg_by_id c (codes "timeout") ≡ Some timeout_rule → AreRead c rows → HasDesk rows
desk_rows c rows has_tries has_timeout read = (
  number_passed 1000 (one_of (codes "tries") rows) (optional_text c (codes "tries") tries_rule rows has_tries read),
  number_passed 86400 (one_of (codes "timeout") rows) (optional_text c (codes "timeout") timeout_rule rows has_timeout read),
)

-- the rows of a command that asks a desk, and is given what it asks under this name
asked_rows : (s : Shape) (name : Text) (asked : Rule) (words : List Text) → AreOptions s.rules s.rules → arg_by_id s.rules (codes "tries") ≡ Some tries_rule
    → arg_by_id s.rules (codes "timeout") ≡ Some timeout_rule → arg_by_id s.rules name ≡ Some asked
    → (check_fault s (rows_after s.rules [] words) false ≡ [] → is_given name (rows_after s.rules [] words) ≡ true)
    → level_fault s [] nothing_held words false [] ≡ [] → HasAsked name (rows_after s.rules [] words)
asked_rows s name asked words options has_tries has_timeout is_asked required none =
    let level = read-level s [] words false [] options none in
    let rows : List Row = rows_after s.rules [] words in
    let text = given_text s.rules name asked rows is_asked level.0 (required level.1) in
    (desk_rows s.rules rows has_tries has_timeout level.0, (text.0, text.2))

-- the rows of `do`
pub do_rows : (words : List Text) → level_fault asking [] nothing_held words false [] ≡ [] → HasDo (rows_after asking.rules [] words)
do_rows words none =
    let level = read-level asking [] words false [] asking_options none in
    let rows : List Row = rows_after asking.rules [] words in (
      asked_rows asking (codes "command") _ words asking_options refl refl refl (one_given (is_given (codes "command") rows)) none,
      flag_passed (one_of (codes "instead") rows) (optional_text asking.rules (codes "instead") _ rows refl level.0),
      flag_passed (one_of (codes "argo") rows) (optional_text asking.rules (codes "argo") _ rows refl level.0),
    )

-- the rows of `get`
pub get_rows : (words : List Text) → level_fault get [] nothing_held words false [] ≡ [] → HasAsked (codes "service") (rows_after get.rules [] words)
get_rows words none =
    asked_rows get (codes "service") _ words get_options refl refl refl (one_given (is_given (codes "service") (rows_after get.rules [] words))) none

-- the rows of `watch`
pub watch_rows : (words : List Text) → level_fault watch [] nothing_held words false [] ≡ [] → HasWatch (rows_after watch.rules [] words)
watch_rows words none =
    let level = read-level watch [] words false [] watch_options none in
    let rows : List Row = rows_after watch.rules [] words in (
      asked_rows watch (codes "service") _ words watch_options refl refl refl (one_given (is_given (codes "service") rows)) none,
      flag_passed (one_of (codes "json") rows) (optional_text watch.rules (codes "json") _ rows refl level.0),
      flag_passed (one_of (codes "forever") rows) (optional_text watch.rules (codes "forever") _ rows refl level.0),
    )

-- the rows of `send`
pub send_rows : (words : List Text) → level_fault send [] nothing_held words false [] ≡ [] → HasAsked (codes "csv") (rows_after send.rules [] words)
send_rows words none =
    asked_rows send (codes "csv") _ words send_options refl refl refl (one_given (is_given (codes "csv") (rows_after send.rules [] words))) none

-- the rows of `due`
pub due_rows : (words : List Text) → level_fault due [] nothing_held words false [] ≡ [] → HasDue (rows_after due.rules [] words)
due_rows words none =
    let level = read-level due [] words false [] due_options none in
    let rows : List Row = rows_after due.rules [] words in (
      asked_rows due (codes "service") _ words due_options refl refl refl (one_given (is_given (codes "service") rows)) none,
      flag_passed (one_of (codes "wait") rows) (optional_text due.rules (codes "wait") _ rows refl level.0),
      number_passed 31536000 (one_of (codes "late") rows) (optional_text due.rules (codes "late") _ rows refl level.0),
    )

-- the rows of `agent`
pub agent_rows : (words : List Text) → level_fault agent [] nothing_held words false [] ≡ [] → HasAgent (rows_after agent.rules [] words)
agent_rows words none =
    let level = read-level agent [] words false [] agent_options none in
    let rows : List Row = rows_after agent.rules [] words in
    let file = given_text agent.rules (codes "file") _ rows refl level.0 (one_given (is_given (codes "file") rows) level.1) in (
      number_passed 86400 (one_of (codes "timeout") rows) (optional_text agent.rules (codes "timeout") _ rows refl level.0),
      (file.0, file.2),
      flag_passed (one_of (codes "once") rows) (optional_text agent.rules (codes "once") _ rows refl level.0),
      flag_passed (one_of (codes "dry-run") rows) (optional_text agent.rules (codes "dry-run") _ rows refl level.0),
      number_passed 31536000 (one_of (codes "abort-late") rows) (optional_text agent.rules (codes "abort-late") _ rows refl level.0),
    )
