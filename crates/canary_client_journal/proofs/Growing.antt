-- A file with one line more.
use Rattle.std.proofs.Common.{◌≡◌, ℕ, List, [], ◌∷◌, ◌++◌, Bool, true, Option, Some, None, refl, sym, ap, ◌∙◌}
use Rattle.std.specs.Prelude.{option_and_then, is_none, if◌then◌else◌}
use Rattle.canary_client_journal.specs.declared.entry.JournalEntry.{JournalEntry}
use Rattle.canary_client_journal.specs.declared.entry.EntryRefusal.{EntryRefusal}
use Rattle.canary_client_journal.specs.Journals.{JournalValue, refusal_of, with_entry}
use Rattle.canary_client_journal.specs.Lines.{entry_in}
use Rattle.canary_client_journal.specs.Readings.{if_next, with_line, goes_on, begun_by, journal_of}
use Rattle.canary_client_journal.specs.Laws.{Grows}

line_added : (j : JournalValue) (line : List ℕ) (e : JournalEntry) → entry_in line ≡ Some e → refusal_of j e ≡ None → with_line j line ≡ Some (with_entry j e)
line_added j line e is next =
    ap (λ o. option_and_then (if_next j) o) is
    ∙ ap (λ (r : Option EntryRefusal). if is_none r then Some (with_entry j e) else None) next

then_on : (from : Option JournalValue) (texts : List (List ℕ)) (line : List ℕ)
    → ((k : JournalValue) → goes_on k (texts ++ line ∷ []) ≡ option_and_then (λ l. with_line l line) (goes_on k texts))
    → option_and_then (λ k. goes_on k (texts ++ line ∷ [])) from ≡ option_and_then (λ l. with_line l line) (option_and_then (λ k. goes_on k texts) from)
then_on None texts line h = refl
then_on (Some k) texts line h = h k

alone : (o : Option JournalValue) → option_and_then (λ k. Some k) o ≡ o
alone None = refl
alone (Some k) = refl

goes_on_more : (j : JournalValue) (texts : List (List ℕ)) (line : List ℕ) → goes_on j (texts ++ line ∷ []) ≡ option_and_then (λ l. with_line l line) (goes_on j texts)
goes_on_more j [] line = alone (with_line j line)
goes_on_more j (text ∷ texts) line = then_on (with_line j text) texts line (λ k. goes_on_more k texts line)

journal_more : (text : List ℕ) (texts : List (List ℕ)) (line : List ℕ) → journal_of ((text ∷ texts) ++ line ∷ []) ≡ option_and_then (λ l. with_line l line) (journal_of (text ∷ texts))
journal_more text texts line = then_on (option_and_then begun_by (entry_in text)) texts line (λ k. goes_on_more k texts line)

pub grows : Grows
grows [] line j e read is next = let none : ⊥ = cc read in absurd none
grows (text ∷ texts) line j e read is next =
    journal_more text texts line ∙ ap (λ o. option_and_then (λ l. with_line l line) o) read ∙ line_added j line e is next
