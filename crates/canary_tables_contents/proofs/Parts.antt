-- Sound tables, part by part.
use Rattle.canary_tables_rows.specs.Tables.{Tables}
use Rattle.canary_tables_contents.specs.Tables.{AreRows, IsReadable}
use Rattle.canary_tables_contents.specs.Reading.{contents_of, HoldsContents}
use Rattle.canary_once.specs.Sound.{AreContents}
use Rattle.canary_tables_contents.specs.Soundness.{AreSoundTables}
use Rattle.canary_tables_contents.specs.Judged.{HoldCallers, HoldTemplates}
use Rattle.canary_tables_contents.specs.Services.{HoldServices, HoldParts, PartsMakeThemSound}

together : (t : Tables) → HoldParts t → AreSoundTables t
together t h =
    let rows : AreRows t (contents_of t) = record {
      callers = h.callers.callers;
      kept = h.callers.kept;
      revisions = h.templates.revisions;
      services = h.services.services;
      bindings = h.services.bindings;
      runs = h.services.runs;
      tallies = h.services.tallies;
      measurements = h.services.measurements;
      history = h.services.history;
    } in
    let readable : IsReadable (contents_of t) = record { receipts = h.callers.readable; templates = h.templates.readable; made = h.services.made; pasts = h.services.pasts } in
    let lawful : AreContents (contents_of t) = record { numbers = h.callers.numbers; statuses = h.callers.statuses; desk = record { templates = h.templates.are; services = h.services.in_order } } in
    (record { rows = rows; readable = readable; lawful = lawful }, h.services.sound)

apart : (t : Tables) → AreSoundTables t → HoldParts t
apart t h =
    let holds : HoldsContents t = h.0 in
    let callers : HoldCallers t = record { callers = holds.rows.callers; kept = holds.rows.kept; readable = holds.readable.receipts; numbers = holds.lawful.numbers; statuses = holds.lawful.statuses } in
    let templates : HoldTemplates t = record { revisions = holds.rows.revisions; readable = holds.readable.templates; are = holds.lawful.desk.templates } in
    let services : HoldServices t = record {
      services = holds.rows.services;
      bindings = holds.rows.bindings;
      runs = holds.rows.runs;
      tallies = holds.rows.tallies;
      measurements = holds.rows.measurements;
      history = holds.rows.history;
      made = holds.readable.made;
      pasts = holds.readable.pasts;
      in_order = holds.lawful.desk.services;
      sound = h.1;
    } in
    record { callers = callers; templates = templates; services = services }

pub parts_make_them_sound : PartsMakeThemSound
parts_make_them_sound t = (together t, apart t)
