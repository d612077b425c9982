-- Rows as they stand in a tree: the rowid, and then a value for each column. A column that is the
-- rowid holds Null.
use Rattle.std.specs.Prelude.{ℕ, pos, List, [], ◌∷◌, map, drop, Option, Some, None, Bool, true, false, ◌==◌, slice_get}
use Rattle.std.specs.List.{filter_map}
use Rattle.sqlite_value.specs.declared.value.Value.{Value}
use Rattle.sqlite_value.specs.declared.value.Value.TheVariants.{Null, Int, Text as Words}
use Rattle.sqlite_value.specs.Order.{Row}
use Rattle.sqlite.specs.Tree.{Trees}
use Rattle.sqlite.specs.Table.{Table}
use Rattle.sqlite.specs.Schema.{Schema}
use Rattle.sqlite.specs.Effect.{Database}
use Rattle.canary_tables_rows.specs.declared.rows.CallerRow.{CallerRow}
use Rattle.canary_tables_rows.specs.declared.rows.KeptRow.{KeptRow}
use Rattle.canary_tables_rows.specs.declared.rows.RevisionRow.{RevisionRow}
use Rattle.canary_tables_rows.specs.declared.rows.BindingRow.{BindingRow}
use Rattle.canary_tables_rows.specs.declared.rows.ServiceRow.{ServiceRow}
use Rattle.canary_tables_rows.specs.declared.rows.RunRow.{RunRow}
use Rattle.canary_tables_rows.specs.declared.rows.TallyRow.{TallyRow}
use Rattle.canary_tables_rows.specs.declared.rows.MeasurementRow.{MeasurementRow}
use Rattle.canary_tables_rows.specs.declared.rows.HistoryRow.{HistoryRow}
use Rattle.canary_tables_rows.specs.Tables.{Tables}
use Rattle.canary_tables_schema.specs.Layout.{Layout, made, moved, service_at, run_at, measurement_at, history_at, revision_at, binding_at, tally_at}

abbrev pub integer : ℕ → Value
integer n = Int (pos n)

abbrev pub whole_or_null : Option ℕ → Value
whole_or_null None = Null
whole_or_null (Some n) = integer n

-- The cells of a row, after its rowid.

abbrev pub caller_cells : CallerRow → Row
caller_cells r = Words r.name ∷ integer r.settled ∷ []

abbrev pub kept_cells : KeptRow → Row
kept_cells r =
    Words r.caller ∷ integer r.number ∷ Words r.command ∷ integer r.status ∷ Words r.body ∷ []

abbrev pub revision_cells : RevisionRow → Row
revision_cells r = Words r.name ∷ integer r.revision ∷ Words r.spec ∷ []

abbrev pub binding_cells : BindingRow → Row
binding_cells r =
    Words r.service ∷ integer r.run ∷ Words r.template ∷ integer r.revision ∷ []

abbrev pub service_cells : ServiceRow → Row
service_cells r =
    let s = r.standing in
    Words r.name ∷ Words r.spec ∷ Words s.stable ∷ Words s.version ∷ integer s.state
    ∷ integer s.step
    ∷ integer s.entered ∷ integer s.hold ∷ integer s.background ∷ integer s.runs ∷ integer s.last
    ∷ []

abbrev pub run_cells : RunRow → Row
run_cells r =
    Words r.service ∷ integer r.number ∷ whole_or_null r.step ∷ integer r.started
    ∷ whole_or_null r.ending.closed ∷ integer r.ending.outside ∷ integer r.ending.verdict ∷ []

abbrev pub tally_cells : TallyRow → Row
tally_cells r =
    let c = r.counts in
    Words r.service ∷ integer r.run ∷ integer r.metric ∷ integer c.counted ∷ integer c.failed
    ∷ integer c.inconclusive ∷ integer c.errors ∷ integer c.consecutive ∷ integer c.passes
    ∷ whole_or_null c.last ∷ []

-- the first column is the place, which is the rowid
abbrev pub measurement_cells : MeasurementRow → Row
measurement_cells r =
    Null ∷ Words r.service ∷ integer r.run ∷ integer r.metric ∷ integer r.ordinal ∷ integer r.taken
    ∷ integer r.phase ∷ Words r.outcome ∷ []

-- the first column is the place, which is the rowid
abbrev pub history_cells : HistoryRow → Row
history_cells r = Null ∷ Words r.service ∷ integer r.moment ∷ Words r.line ∷ []

-- The row with these cells, if one has them.

abbrev pub number_or_null : Value → Option (Option ℕ)
number_or_null Null = Some None
number_or_null (Int (pos n)) = Some (Some n)
number_or_null v = None

abbrev pub caller_in : Row → Option CallerRow
caller_in (Words name ∷ Int (pos settled) ∷ []) = Some (record { name = name; settled = settled })
caller_in cells = None

abbrev pub kept_in : Row → Option KeptRow
kept_in (Words caller ∷ Int (pos number) ∷ Words command ∷ Int (pos status) ∷ Words body ∷ []) =
    Some (record
    { caller = caller; number = number; command = command; status = status; body = body })
kept_in cells = None

abbrev pub revision_in : Row → Option RevisionRow
revision_in (Words name ∷ Int (pos revision) ∷ Words spec ∷ []) =
    Some (record { name = name; revision = revision; spec = spec })
revision_in cells = None

abbrev pub binding_in : Row → Option BindingRow
binding_in (Words service ∷ Int (pos run) ∷ Words template ∷ Int (pos revision) ∷ []) =
    Some (record { service = service; run = run; template = template; revision = revision })
binding_in cells = None

abbrev pub service_in : Row → Option ServiceRow
service_in
    (Words name ∷ Words spec ∷ Words stable ∷ Words version ∷ Int (pos state) ∷ Int (pos step)
    ∷ Int (pos entered) ∷ Int (pos hold) ∷ Int (pos background) ∷ Int (pos runs) ∷ Int (pos last)
    ∷ []) =
    Some (record {
      name = name;
      spec = spec;
      standing = record {
        stable = stable;
        version = version;
        state = state;
        step = step;
        entered = entered;
        hold = hold;
        background = background;
        runs = runs;
        last = last;
      };
    })
service_in cells = None

abbrev pub run_with : List ℕ → ℕ → Option (Option ℕ) → ℕ → Option (Option ℕ) → ℕ → ℕ → Option RunRow
run_with service number (Some step) started (Some closed) outside verdict =
    Some (record {
      service = service;
      number = number;
      step = step;
      started = started;
      ending = record { closed = closed; outside = outside; verdict = verdict };
    })
run_with service number step started closed outside verdict = None

abbrev pub run_in : Row → Option RunRow
run_in (Words service ∷ Int (pos number) ∷ step ∷ Int (pos started) ∷ closed ∷ Int (pos outside)
    ∷ Int (pos verdict) ∷ []) =
    run_with service number (number_or_null step) started (number_or_null closed) outside verdict
run_in cells = None

abbrev pub tally_with : List ℕ → ℕ → ℕ → ℕ → ℕ → ℕ → ℕ → ℕ → ℕ → Option (Option ℕ)
    → Option TallyRow
tally_with service run metric counted failed inconclusive errors consecutive passes (Some last) =
    Some (record {
      service = service;
      run = run;
      metric = metric;
      counts = record {
        counted = counted;
        failed = failed;
        inconclusive = inconclusive;
        errors = errors;
        consecutive = consecutive;
        passes = passes;
        last = last;
      };
    })
tally_with service run metric counted failed inconclusive errors consecutive passes None = None

abbrev pub tally_in : Row → Option TallyRow
tally_in (Words service ∷ Int (pos run) ∷ Int (pos metric) ∷ Int (pos counted) ∷ Int (pos failed)
    ∷ Int (pos inconclusive) ∷ Int (pos errors) ∷ Int (pos consecutive) ∷ Int (pos passes)
    ∷ last ∷ []) =
    tally_with service run metric counted failed inconclusive errors consecutive passes
    (number_or_null last)
tally_in cells = None

abbrev pub measurement_in : Row → Option MeasurementRow
measurement_in
    (Null ∷ Words service ∷ Int (pos run) ∷ Int (pos metric) ∷ Int (pos ordinal) ∷ Int (pos taken)
    ∷ Int (pos phase) ∷ Words outcome ∷ []) =
    Some (record {
      service = service;
      run = run;
      metric = metric;
      ordinal = ordinal;
      taken = taken;
      phase = phase;
      outcome = outcome;
    })
measurement_in cells = None

abbrev pub history_in : Row → Option HistoryRow
history_in (Null ∷ Words service ∷ Int (pos moment) ∷ Words line ∷ []) =
    Some (record { service = service; moment = moment; line = line })
history_in cells = None

-- the cells of a tree's rows, without the rowids
abbrev pub cells_of : List Row → List Row
cells_of = map (drop 1)

-- the one row of meta: its id, which is the rowid, and the schema's number
abbrev pub meta_rows : List Row
meta_rows = (integer 1 ∷ Null ∷ integer 2 ∷ []) ∷ []

-- the rows that trees hold, in this layout; a row whose cells are of no such row is passed over
abbrev pub rows_in : Layout → Trees → Tables
rows_in at trees = record {
  callers = filter_map caller_in (cells_of (trees 1));
  kept = filter_map kept_in (cells_of (trees 3));
  revisions = filter_map revision_in (cells_of (trees (revision_at at)));
  services = filter_map service_in (cells_of (trees (service_at at)));
  bindings = filter_map binding_in (cells_of (trees (binding_at at)));
  runs = filter_map run_in (cells_of (trees (run_at at)));
  tallies = filter_map tally_in (cells_of (trees (tally_at at)));
  measurements = filter_map measurement_in (cells_of (trees (measurement_at at)));
  history = filter_map history_in (cells_of (trees (history_at at)));
}

abbrev pub tree_or_none : Option Table → ℕ
tree_or_none None = 0
tree_or_none (Some t) = t.tree

-- the tree of the eleventh table, which is a desk's tally
abbrev pub tally_tree : Schema → ℕ
tally_tree schema = tree_or_none (slice_get schema.tables 10)

abbrev pub layout_by : Bool → Layout
layout_by true = moved
layout_by false = made

-- the layout of a desk of this schema, as far as its rows are read
abbrev pub layout_of : Schema → Layout
layout_of schema = layout_by (tally_tree schema == 21)

-- the rows that a desk's database holds
abbrev pub tables_in : Database → Tables
tables_in db = rows_in (layout_of db.schema) db.trees
