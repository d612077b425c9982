-- What the code reports of a service that was passed: what a book reported of it, as the effects on
-- the way leave it.
use Rattle.std.specs.Prelude.{◌≡◌, ℕ, ◌==◌, Bool, true, false, if◌then◌else◌, List, [], ◌∷◌, ◌++◌, length, replicate, Option, Some, None, option_map, Result, IfOk, IfErr}
use Rattle.canary_metric.specs.Counts.{counts}
use Rattle.canary_plan.specs.declared.line.Line.{Line}
use Rattle.canary_release.specs.declared.effect.Opening.{Opening}
use Rattle.canary_release.specs.declared.effect.Closing.{Closing}
use Rattle.canary_release.specs.declared.effect.Effect.{Effect}
use Rattle.canary_release.specs.declared.effect.Effect.TheVariants.{LineAdded, RunOpened, MeasurementRecorded, RunClosed}
use Rattle.canary_release.specs.declared.reply.Reply.{Reply}
use Rattle.canary_release.specs.declared.service.Passed.{Passed}
use Rattle.canary_release.specs.Pasts.{Past}
use Rattle.canary_once.specs.declared.book.BookFault.{BookFault}
use Rattle.canary_once.specs.declared.event.Query.{Query}
use Rattle.canary_once.specs.declared.event.Query.TheVariants.{Service, History, Run}
use Rattle.canary_once.specs.declared.record.RunRecord.{RunRecord}
use Rattle.canary_once.specs.Contents.{Contents}
use Rattle.canary_once.specs.BookCalls.{BookState, IsFault, StaysInMemory}
use Rattle.canary_once.specs.Records.{record_numbered}
use Rattle.canary_once.specs.Views.{found, service_view, history_view, run_reply}

-- what an item adds to the text of a list, by whether items stand before it
abbrev pub item_words : Bool → List ℕ → List ℕ
item_words false item = item
item_words true item = 44 ∷ item

-- the lines of a history after one thing more: those that are added stand at its end
abbrev pub lines_then : List Line → Effect → List Line
lines_then lines (LineAdded line) = lines ++ line ∷ []
lines_then lines (RunOpened x) = lines
lines_then lines (MeasurementRecorded x) = lines
lines_then lines (RunClosed x tallies) = lines

abbrev pub lines_after : List Line → List Effect → List Line
lines_after lines [] = lines
lines_after lines (x ∷ xs) = lines_after (lines_then lines x) xs

-- a run that is opened has measured nothing
abbrev pub opened_record : Opening → RunRecord
opened_record x =
    record {
      number = x.run;
      step = x.step;
      analysis = x.analysis;
      started = x.started;
      closed = None;
      tallies = replicate (length x.analysis.metrics) (counts []);
    }

abbrev pub closed_record : Closing → RunRecord → RunRecord
closed_record x r = if r.number == x.run then record r { closed = Some x } else r

-- the run of a number, if there is one, when one more is opened
abbrev pub opened_of : ℕ → Opening → Option RunRecord → Option RunRecord
opened_of number x (Some r) = Some r
opened_of number x None = if x.run == number then Some (opened_record x) else None

-- the run of a number, if there is one, after one thing more that is no measurement
abbrev pub record_then : ℕ → Option RunRecord → Effect → Option RunRecord
record_then number r (LineAdded line) = r
record_then number r (RunOpened x) = opened_of number x r
record_then number r (MeasurementRecorded x) = r
record_then number r (RunClosed x tallies) = option_map (closed_record x) r

abbrev pub record_after : ℕ → Option RunRecord → List Effect → Option RunRecord
record_after number r [] = r
record_after number r (x ∷ xs) = record_after number (record_then number r x) xs

-- the reply to a query on a service that was passed, of which this was past before
abbrev pub shown : Passed → Query → Past → Reply
shown p (Service name) past = found (service_view p.service.service p.service.runs)
shown p (History name) past =
    found (history_view p.service.service.name (lines_after past.history p.effects))
shown p (Run name number) past =
    run_reply p.service.service (record_after number (record_numbered past number) p.effects)

-- a reply was made from these contents, with what more the book was asked, or that failed
pub record Shows (reply : Contents → Reply) (old new : BookState)
    (given : Result Reply BookFault) : Type 0 where
  pub honest : new.is_honest → old.is_honest
  pub in_memory : StaysInMemory old new
  pub same : new.is_honest → new.contents ≡ old.contents
  pub ok : new.is_honest → IfOk given (λ r. r ≡ reply old.contents)
  pub sure : new.is_sure ≡ old.is_sure
  pub fault : IfErr given (IsFault old.is_sure)
