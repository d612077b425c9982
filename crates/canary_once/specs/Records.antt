-- What a book reports of a service's runs, its history and its measurements.
use Rattle.std.specs.Prelude.{ℕ, ◌==◌, Bool, List, map, find, take, drop, Option, Some, None, option_map}
use Rattle.std.specs.FinMap.{get}
use Rattle.canary_plan.specs.declared.line.Line.{Line}
use Rattle.canary_release.specs.declared.effect.Recorded.{Recorded}
use Rattle.canary_release.specs.Pasts.{Run, Past, no_past, counts_of}
use Rattle.canary_release.specs.Desks.{ModelService}
use Rattle.canary_once.specs.declared.record.RunRecord.{RunRecord}
use Rattle.canary_once.specs.Contents.{Contents}

-- a run, with its analysis, and each metric of it with the counts of its whole list
abbrev pub record_of : Run → RunRecord
record_of r =
    record {
      number = r.number;
      step = r.step;
      analysis = r.analysis;
      started = r.started;
      closed = r.closed;
      tallies = map counts_of r.lists;
    }

abbrev pub is_numbered : ℕ → Run → Bool
is_numbered number r = r.number == number

-- the run of that number, if there is one
abbrev pub record_numbered : Past → ℕ → Option RunRecord
record_numbered p number = option_map record_of (find (is_numbered number) p.runs)

-- the past of a service; none if there is no such service
abbrev pub past_in : Option ModelService → Past
past_in None = no_past
past_in (Some m) = m.past

abbrev pub past_of : Contents → List ℕ → Past
past_of c name = past_in (get c.desk.services name)

abbrev pub run_of : Contents → List ℕ → ℕ → Option RunRecord
run_of c name number = record_numbered (past_of c name) number

abbrev pub history_of : Contents → List ℕ → List Line
history_of c name = (past_of c name).history

-- the measurements from a place on, at most so many, in the order in which they were recorded; the
-- first has place 0
abbrev pub measurements_of : Contents → List ℕ → ℕ → ℕ → List Recorded
measurements_of c name from most = take most (drop from (past_of c name).measurements)
