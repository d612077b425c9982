-- Contents as the first schema could have them, and what their rows were there.
use Rattle.std.specs.Prelude.{◌≡◌, ℕ, Bool, true, IsTrue, List, [], ◌∷◌, map, is_none, Option, Some}
use Rattle.std.specs.List.{list_all}
use Rattle.std.specs.FinMap.{get}
use Rattle.sqlite.specs.Effect.{Database}
use Rattle.canary_plan.specs.declared.template.Template.{Template}
use Rattle.canary_plan.specs.declared.template_spec.MetricSpec.{MetricSpec}
use Rattle.canary_plan.specs.declared.template_spec.TemplateSpec.{TemplateSpec}
use Rattle.canary_plan.specs.declared.command.Command.{Command}
use Rattle.canary_plan.specs.declared.command.Command.TheVariants as command
use Rattle.canary_canonical.specs.Readings.{canonical_in}
use Rattle.canary_release.specs.Desks.{ModelService}
use Rattle.canary_release.specs.Parts.{is_bound}
use Rattle.canary_once.specs.Contents.{Contents}
use Rattle.canary_once.specs.Sound.{AreContents}
use Rattle.canary_tables_rows.specs.declared.rows.RevisionRow.{RevisionRow}
use Rattle.canary_tables_rows.specs.declared.rows.TallyRow.{TallyRow}
use Rattle.canary_tables_rows.specs.Limits.{AreWithin}
use Rattle.canary_tables_rows.specs.Tables.{Tables}
use Rattle.canary_tables_contents.specs.Tables.{AreRows, IsReadable}
use Rattle.canary_tables_contents.specs.Reading.{contents_of}
use Rattle.canary_tables_contents.specs.Soundness.{AreSoundTables}
use Rattle.canary_tables_read.specs.declared.first.TemplateRow.{TemplateRow}
use Rattle.canary_tables_read.specs.declared.first.FirstTally.{FirstTally}
use Rattle.canary_migrate.specs.Migrated.{FirstTables, HoldsFirst, migrated}

-- no metric of the template has `passAfter`
abbrev pub is_plain : TemplateSpec → Bool
is_plain spec = list_all (λ (m : MetricSpec). is_none m.pass_after) spec.metrics

-- so, of a row with the text of a template
abbrev pub is_plain_command : Option Command → Bool
is_plain_command (Some (command.Template spec)) = is_plain spec
is_plain_command command = true

abbrev pub is_plain_row : TemplateRow → Bool
is_plain_row row = is_plain_command (canonical_in row.spec)

-- each template has one revision, and no metric has `passAfter`; each service's present attempt is
-- bound. There is no other revision, so that the attempt and all runs are bound to this one
pub record AreFirstContents (c : Contents) : Type 0 where
  pub templates : (name : List ℕ) (ts : List Template) → get c.desk.templates name ≡ Some ts
      → (t : Template) × (ts ≡ t ∷ []) × IsTrue (is_plain t.spec)
  pub services : (name : List ℕ) (s : ModelService) → get c.desk.services name ≡ Some s
      → IsTrue (is_bound s.service)

-- Their rows: a template in place of its revision, a tally without its passes, and no bindings.

abbrev pub template_row : RevisionRow → TemplateRow
template_row row = record { name = row.name; spec = row.spec }

abbrev pub first_tally : TallyRow → FirstTally
first_tally row = record {
  service = row.service;
  run = row.run;
  metric = row.metric;
  counted = row.counts.counted;
  failed = row.counts.failed;
  inconclusive = row.counts.inconclusive;
  errors = row.counts.errors;
  consecutive = row.counts.consecutive;
  last = row.counts.last;
}

-- what the first schema has of a desk's rows
abbrev pub first_rows : Tables → FirstTables
first_rows t = record {
  callers = t.callers;
  kept = t.kept;
  templates = map template_row t.revisions;
  services = t.services;
  runs = t.runs;
  tallies = map first_tally t.tallies;
  measurements = t.measurements;
  history = t.history;
}

-- the database has the rows that the first schema has of these, which are those of sound contents
-- of its time, and each of which a program can hold
pub record HasFirstRowsOf (db : Database) (t : Tables) : Type 0 where
  pub held : HoldsFirst db (first_rows t)
  pub within : AreWithin t
  pub sound : AreSoundTables t
  pub first : AreFirstContents (contents_of t)

-- the law: what the first schema has of the rows of such contents migrates to their rows
abbrev pub FirstRowsMigrate : Type 0
FirstRowsMigrate =
    (t : Tables) (c : Contents) → AreRows t c → IsReadable c → AreContents c
    → AreFirstContents c → AreRows (migrated (first_rows t)) c

-- the law: so the rows of sound contents become rows of sound contents
abbrev pub SoundRowsMigrate : Type 0
SoundRowsMigrate =
    (t : Tables) → AreSoundTables t → AreFirstContents (contents_of t)
    → AreSoundTables (migrated (first_rows t))
