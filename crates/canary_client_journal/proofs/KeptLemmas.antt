-- A journal that is kept has a line, so that one more is no first text.
use Rattle.std.proofs.Common.{◌≡◌, ◌⊎◌, inl, inr, ⊎_elim, ℕ, ◌+◌, ◌≤◌, List, [], ◌∷◌, length, Some, sym, ◌∙◌, arith}
use Rattle.std.specs.Prelude.{◌^◌}
use Rattle.canary_client_records.specs.Texts.{records}
use Rattle.canary_client_records.specs.Stores.{held, HasNoRoom}
use Rattle.canary_client_journal.specs.declared.entry.EntryRefusal.{EntryRefusal}
use Rattle.canary_client_journal.specs.Journals.{JournalValue}
use Rattle.canary_client_journal.specs.Readings.{journal_of}
use Rattle.canary_client_journal.specs.declared.kept.KeepFault.{KeepFault}
use Rattle.canary_client_journal.specs.declared.kept.KeepFault.TheVariants as keep
use Rattle.canary_client_journal.specs.Keeping.{IsFault}

some_line : (texts : List (List ℕ)) (j : JournalValue) → journal_of texts ≡ Some j → 0 ≡ length (records texts) → ⊥
some_line [] j read none = let false : ⊥ = cc read in false
some_line (text ∷ texts) j read none = omega (arith, none)

-- so its gate is not the first one
pub not_first : (texts : List (List ℕ)) (j : JournalValue) (gate : ℕ) → journal_of texts ≡ Some j → gate ≡ length (records texts) → gate ≡ 0 → ⊥
not_first texts j gate read place first = some_line texts j read (sym first ∙ place)

pub no_first_fault : (failed : Type 0) (gate size : ℕ) (refused : EntryRefusal → Type 0) → (gate ≡ 0 → ⊥) → (fault : KeepFault) → IsFault failed (HasNoRoom gate size) ⊥ (λ r. ⊥) fault → IsFault failed (2 ^ 60 ≤ gate + size) ⊥ refused fault
no_first_fault failed gate size refused later keep.Memory f = tt
no_first_fault failed gate size refused later keep.Failed f = f
no_first_fault failed gate size refused later keep.Full f = ⊎_elim (λ long. long) (λ first. absurd (later first.0)) f
no_first_fault failed gate size refused later keep.Broken f = f
no_first_fault failed gate size refused later (keep.Refused r) f = absurd f
