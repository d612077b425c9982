-- Tables without rows hold no contents.
use Rattle.std.proofs.Common.{◌≡◌, ℕ, zero, suc, ◌-◌, List, [], length, Some, None, refl, sym, ap, ◌∙◌, subst}
use Rattle.std.specs.Prelude.{Option, map, slice_get, unwrap_or}
use Rattle.std.specs.List.{AllByRecursion}
use Rattle.std.specs.Ordering.{nat_cmp}
use Rattle.std.specs.Cmp.Lexicographic.{slice_cmp}
use Rattle.std.specs.FinMap.{FinMap, get, get-empty, empty}
use Rattle.canary_plan.specs.declared.template.Template.{Template}
use Rattle.canary_plan.specs.declared.command.Command.TheVariants as command
use Rattle.canary_release.specs.Pasts.{Past, no_past}
use Rattle.canary_release.specs.Desks.{ModelService, revisions_of}
use Rattle.canary_once.specs.declared.book.Receipt.{Receipt}
use Rattle.canary_once.specs.Contents.{no_contents, receipts_of, receipt_at}
use Rattle.canary_once.specs.Records.{past_in, past_of}
use Rattle.canary_once.specs.Sound.{AreContents}
use Rattle.canary_tables_rows.specs.Tables.{no_tables}
use Rattle.canary_tables_contents.specs.Values.{caller_row, service_row, measurement_row, history_row}
use Rattle.canary_tables_contents.specs.Tables.{row_if, kept_rows, revision_rows, binding_rows, run_rows, tally_rows, AreRows, IsReadable, IsReadableCommand, IsReadablePast}
use Rattle.canary_tables_contents.specs.Reading.{contents_of}
use Rattle.canary_tables_contents.specs.Laws.{EmptyHoldsNothing}
use Rattle.canary_tables_contents.proofs.RevisionsBack.{IsReadableTemplate}
use Rattle.canary_tables_contents.proofs.ReadBack.{reads_back}

no_kept : (caller : List ℕ) (number : ℕ) → [] ≡ kept_rows caller number []
no_kept caller zero = refl
no_kept caller (suc place) = refl

no_runs : (name : List ℕ) (number : ℕ) → [] ≡ run_rows name number []
no_runs name zero = refl
no_runs name (suc place) = refl

no_tallies : (name : List ℕ) (number metric : ℕ) → [] ≡ tally_rows name number metric []
no_tallies name zero metric = refl
no_tallies name (suc place) metric = refl

no_revisions : (name : List ℕ) (number : ℕ) → [] ≡ revision_rows name number []
no_revisions name zero = refl
no_revisions name (suc place) = refl

none : {A : Type 0} (k : List ℕ) → let m : FinMap (slice_cmp nat_cmp) A = empty in None ≡ get m k
none k = sym (get-empty (slice_cmp nat_cmp) k)

no_past_of : (name : List ℕ) → no_past ≡ past_of no_contents name
no_past_of name = ap past_in (none name)

no_receipts : (caller : List ℕ) → [] ≡ receipts_of no_contents caller
no_receipts caller = ap (λ o. unwrap_or o []) (none caller)

no_rows : AreRows no_tables no_contents
no_rows = record {
  callers = λ name. ap (row_if (λ receipts. caller_row name (length receipts))) (none name);
  kept = λ caller number. no_kept caller number ∙ ap (kept_rows caller number) (no_receipts caller);
  revisions = λ name number. no_revisions name number ∙ ap (λ o. revision_rows name number (unwrap_or o [])) (none name);
  services = λ name. ap (row_if (service_row name)) (none name);
  bindings = λ name number template. ap (binding_rows name number template) (none name);
  runs = λ name number. no_runs name number ∙ ap (λ (p : Past). run_rows name number p.runs) (no_past_of name);
  tallies = λ name number metric. no_tallies name number metric ∙ ap (λ (p : Past). tally_rows name number metric p.runs) (no_past_of name);
  measurements = λ name. ap (λ (p : Past). map (measurement_row name) p.measurements) (no_past_of name);
  history = λ name. ap (λ (p : Past). map (history_row name) p.history) (no_past_of name);
}

no_receipt : (caller : List ℕ) (number : ℕ) (r : Receipt) → receipt_at no_contents caller number ≡ Some r → IsReadableCommand r.command
no_receipt caller number r e = let no : slice_get [] (number - 1) ≡ Some r = ap (λ receipts. slice_get receipts (number - 1)) (no_receipts caller) ∙ e in absurd (cc)

no_template : (name : List ℕ) → AllByRecursion IsReadableTemplate (revisions_of no_contents.desk.templates name)
no_template name = subst (λ (o : Option (List Template)). AllByRecursion IsReadableTemplate (unwrap_or o [])) (none name) tt

no_service : (name : List ℕ) (m : ModelService) → get no_contents.desk.services name ≡ Some m → IsReadableCommand (command.Service m.made)
no_service name m e = let no : None ≡ Some m = none name ∙ e in absurd (cc)

readable_past : IsReadablePast no_past
readable_past = record { runs = tt; measurements = tt; history = tt }

nothing_readable : IsReadable no_contents
nothing_readable = record { receipts = no_receipt; templates = no_template; made = no_service; pasts = λ name. subst IsReadablePast (no_past_of name) readable_past }

pub empty_holds_nothing : AreContents no_contents → EmptyHoldsNothing
empty_holds_nothing lawful =
    let none : contents_of no_tables ≡ no_contents = reads_back no_tables no_contents no_rows nothing_readable lawful in
    record {
      none = none;
      holds = record {
        rows = subst (AreRows no_tables) (sym none) no_rows;
        readable = subst IsReadable (sym none) nothing_readable;
        lawful = subst AreContents (sym none) lawful;
      };
    }
