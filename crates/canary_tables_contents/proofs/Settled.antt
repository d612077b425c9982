-- After the statements of a settled request the tables hold the contents with that request, and its statements find what they ask for.
use Rattle.std.proofs.Common.{◌≡◌, ℕ, zero, suc, List, Some, None, refl, sym, ap, ◌∙◌, subst}
use Rattle.std.specs.Prelude.{Option, filter}
use Rattle.std.specs.FinMap.{get}
use Rattle.canary_release.specs.Desks.{ModelService, Desk}
use Rattle.canary_release.specs.Laws.{RefusalsLeaveTheDesk}
use Rattle.canary_release.specs.Stored.{desk_with, KeepsWhatIsSeen}
use Rattle.canary_release.specs.Effects.{CommandsChange}
use Rattle.canary_release.specs.Order.{StayInOrder}
use Rattle.canary_once.specs.declared.book.Settlement.{Settlement}
use Rattle.canary_once.specs.Contents.{Contents, CallerMap, with_receipt, with_settlement, IsSettling}
use Rattle.canary_once.specs.Sound.{AreContents}
use Rattle.canary_tables_rows.specs.Tables.{Tables, is_caller, is_kept, is_revision, is_service, is_binding}
use Rattle.canary_tables_rows.specs.Changes.{with_kept}
use Rattle.canary_tables_contents.specs.Values.{kept_row}
use Rattle.canary_tables_contents.specs.Tables.{binding_rows, AreRows, IsReadable}
use Rattle.canary_tables_contents.specs.Reading.{contents_of, HoldsContents}
use Rattle.canary_tables_contents.specs.Settling.{caller_settled, request_settled, RequestAsks}
use Rattle.canary_tables_contents.specs.Laws.{ReadsBack, RequestsFind, RequestsSettle}
use Rattle.canary_once.specs.Records.{past_in}
use Rattle.canary_tables_contents.proofs.PastRows.{bound_rows, EffectsHappen, EffectsStayReadable}
use Rattle.canary_tables_contents.proofs.SettledPasts.{pasts_kept}
use Rattle.canary_tables_contents.proofs.Callers.{AreCallerRows, HaveSameDesk, CallerSettles, caller_settles, caller_asks}
use Rattle.canary_tables_contents.proofs.Desks.{AreDeskRows, DeskSettles, desk_settles}
use Rattle.canary_tables_contents.proofs.SettledReadable.{stays_readable}
use Rattle.canary_tables_contents.proofs.SettledLawful.{stays_lawful}

caller_rows : (t : Tables) (c : Contents) → AreRows t c → AreCallerRows t c.callers
caller_rows t c are = record { callers = are.callers; kept = are.kept }

-- the rows of the binding of a run
of_run : (q : List ℕ) (place : ℕ) (template : List ℕ) (o : Option ModelService) → binding_rows q (suc place) template o ≡ bound_rows q (suc place) template (past_in o).runs
of_run q place template None = refl
of_run q place template (Some m) = refl

bindings_of : (q : List ℕ) (number : ℕ) (template : List ℕ) (t : Tables) (desk : Desk) → AreDeskRows t desk → filter (is_binding q number template) t.bindings ≡ binding_rows q number template (get desk.services q)
bindings_of q zero template t desk are = are.attempts q template
bindings_of q (suc place) template t desk are = (are.pasts q).bindings place template ∙ sym (of_run q place template (get desk.services q))

desk_rows : (t : Tables) (c : Contents) → AreRows t c → AreDeskRows t c.desk
desk_rows t c are = record {
  revisions = are.revisions;
  services = are.services;
  attempts = λ q. are.bindings q 0;
  pasts = λ q. record { runs = are.runs q; bindings = λ place template. are.bindings q (suc place) template ∙ of_run q place template (get c.desk.services q); tallies = are.tallies q; measurements = are.measurements q; history = are.history q };
}

-- tables with the same rows of the desk
desk_rows_kept : (t new : Tables) (desk : Desk) → HaveSameDesk t new → AreDeskRows t desk → AreDeskRows new desk
desk_rows_kept t new desk same are = record {
  revisions = λ q number. ap (filter (is_revision q number)) same.revisions ∙ are.revisions q number;
  services = λ q. ap (filter (is_service q)) same.services ∙ are.services q;
  attempts = λ q template. ap (filter (is_binding q 0 template)) same.pasts.bindings ∙ are.attempts q template;
  pasts = λ q. pasts_kept t new q _ same.pasts (are.pasts q);
}

both_rows : (between new : Tables) (callers : CallerMap) (desk : Desk) → AreCallerRows between callers → AreDeskRows new desk → new.callers ≡ between.callers → new.kept ≡ between.kept → AreRows new (record { callers = callers; desk = desk })
both_rows between new callers desk of_callers of_desk same_callers same_kept = record {
  callers = λ q. ap (filter (is_caller q)) same_callers ∙ of_callers.callers q;
  kept = λ q number. ap (filter (is_kept q number)) same_kept ∙ of_callers.kept q number;
  revisions = of_desk.revisions;
  services = of_desk.services;
  bindings = λ q number template. bindings_of q number template new desk of_desk;
  runs = λ q. (of_desk.pasts q).runs;
  tallies = λ q. (of_desk.pasts q).tallies;
  measurements = λ q. (of_desk.pasts q).measurements;
  history = λ q. (of_desk.pasts q).history;
}

-- the tables between: the receipt is there, and the desk as it was
abbrev between : Settlement → Tables → Tables
between s t = with_kept (kept_row s.caller s.number s.receipt) (caller_settled s.caller s.number t)

caller_done : (t : Tables) (c : Contents) (s : Settlement) → AreRows t c → AreContents c → IsSettling c s → CallerSettles t (between s t) (with_receipt c.callers s.caller s.receipt)
caller_done t c s are lawful settling = caller_settles t c.callers s.caller s.number s.receipt (caller_rows t c are) lawful.numbers settling.number

desk_done : EffectsHappen → CommandsChange → KeepsWhatIsSeen → (t : Tables) (c : Contents) (s : Settlement) → AreRows t c → AreContents c → IsSettling c s → DeskSettles s.receipt.command s.change (between s t) (desk_with c.desk s.receipt.command s.change)
desk_done applied commands keeps t c s are lawful settling =
    desk_settles applied commands keeps (between s t) c.desk settling.step.0 s.receipt.command s.change
    (desk_rows_kept t (between s t) c.desk (caller_done t c s are lawful settling).rest (desk_rows t c are)) lawful.desk settling.step.1.change settling.step.1.desk_after

-- the tables have the rows of the contents with the request
pub settled_rows : EffectsHappen → CommandsChange → KeepsWhatIsSeen → (t : Tables) (c : Contents) (s : Settlement) → AreRows t c → AreContents c → IsSettling c s → AreRows (request_settled s t) (with_settlement c s)
settled_rows applied commands keeps t c s are lawful settling =
    let desk : DeskSettles s.receipt.command s.change (between s t) (desk_with c.desk s.receipt.command s.change) = desk_done applied commands keeps t c s are lawful settling in
    both_rows (between s t) (request_settled s t) (with_receipt c.callers s.caller s.receipt) (desk_with c.desk s.receipt.command s.change) (caller_done t c s are lawful settling).rows desk.rows desk.callers desk.kept

-- what its statements ask for is there
pub finds : EffectsHappen → CommandsChange → KeepsWhatIsSeen → (t : Tables) (c : Contents) (s : Settlement) → AreRows t c → AreContents c → IsSettling c s → RequestAsks s t
finds applied commands keeps t c s are lawful settling = record {
  caller = caller_asks t c.callers s.caller s.number (caller_rows t c are) settling.number;
  desk = (desk_done applied commands keeps t c s are lawful settling).asks;
}

holds_by : (new : Tables) (next : Contents) → contents_of new ≡ next → AreRows new next → IsReadable next → AreContents next → HoldsContents new
holds_by new next back rows readable lawful = record {
  rows = subst (AreRows new) (sym back) rows;
  readable = subst IsReadable (sym back) readable;
  lawful = subst AreContents (sym back) lawful;
}

-- Both laws.

pub requests_find : EffectsHappen → CommandsChange → KeepsWhatIsSeen → RequestsFind
requests_find applied commands keeps s t holds settling = finds applied commands keeps t (contents_of t) s holds.rows holds.lawful settling

pub requests_settle : EffectsHappen → EffectsStayReadable → ReadsBack → CommandsChange → KeepsWhatIsSeen → StayInOrder → RefusalsLeaveTheDesk → RequestsSettle
requests_settle applied stay_readable reads_back commands keeps in_order leaves s t few holds settling readable =
    let c : Contents = contents_of t in
    let next : Contents = with_settlement c s in
    let rows : AreRows (request_settled s t) next = settled_rows applied commands keeps t c s holds.rows holds.lawful settling in
    let read : IsReadable next = stays_readable stay_readable commands keeps c s holds.readable holds.lawful settling readable in
    let lawful : AreContents next = stays_lawful in_order leaves c s few settling holds.lawful in
    let back : contents_of (request_settled s t) ≡ next = reads_back (request_settled s t) next rows read lawful in
    record { contents = back; holds = holds_by (request_settled s t) next back rows read lawful }
