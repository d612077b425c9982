-- What is judged of callers, from what is read of them.
use Rattle.std.proofs.Common.{◌≡◌, ◌≢◌, ◌⊎◌, inl, inr, ◌+◌, ◌<◌, ◌≤◌, ℕ, zero, suc, List, [], ◌∷◌, length, take, get_or, Some, refl, sym, ap, ◌∙◌, subst, arith}
use Rattle.std.specs.Prelude.{filter, min}
use Rattle.std.specs.List.{AllByRecursion, sum_by}
use Rattle.std.proofs.lemmas.List.Sums.{sum_by_more}
use Rattle.sqlite.specs.State.{State}
use Rattle.canary_tables_rows.specs.declared.rows.CallerRow.{CallerRow}
use Rattle.canary_tables_rows.specs.Tables.{Tables, is_caller}
use Rattle.canary_tables_rows.specs.Limits.{AreWithin}
use Rattle.canary_tables_schema.specs.Stores.{IsUsable, Stores}
use Rattle.canary_tables_contents.specs.Judged.{AreCallersJudged, IsCallerJudged}
use Rattle.canary_tables_read.specs.Finds.{IsSame}
use Rattle.canary_tables_adopt.specs.Alone.{only}
use Rattle.canary_tables_adopt.specs.Receipts.{AreReceived}
use Rattle.canary_tables_adopt.proofs.Standing.{same_then, stores_then}

pub only_one : {R : Type 0} (rows : List R) (row : R) → only rows ≡ Some row → rows ≡ row ∷ []
only_one [] row is = cc
only_one (x ∷ []) row is = let same : x ≡ row = cc in ap (λ (y : _). y ∷ []) same
only_one (x ∷ y ∷ rest) row is = cc

-- The numbers from 1 on.

-- the first numbers are judged, and nothing was changed
pub record NumbersSoFar (caller : List ℕ) (last : ℕ) (old now : State) : Type 0 where
  pub same : IsSame old now
  pub judged : IsUsable now → (t : Tables) → Stores old t → AreReceived caller 0 last t

pub no_number : (caller : List ℕ) (old : State) → NumbersSoFar caller 0 old old
no_number caller old = record { same = λ usable. (usable, refl); judged = λ usable t has number low high. absurd (let none : ⊥ = omega (arith, low, high) in none) }

before_or_after : (number before : ℕ) → (number ≤ before) ⊎ (before < number)
before_or_after zero before = inl (omega arith)
before_or_after (suc number) zero = inr (omega arith)
before_or_after (suc number) (suc before) = elim (before_or_after number before) [
  | inl less ↦ inl (omega (arith, less))
  | inr more ↦ inr (omega (arith, more))
]

pub numbers_more : (caller : List ℕ) (before last : ℕ) (old between new : State) → NumbersSoFar caller before old between → IsSame between new → (IsUsable new → (t : Tables) → Stores between t → AreReceived caller before last t) → NumbersSoFar caller last old new
numbers_more caller before last old between new first same is =
    record {
      same = same_then old between new first.same same;
      judged = λ usable t has number low high. elim (before_or_after number before) [
        | inl less ↦ first.judged (same usable).0 t has number low less
        | inr more ↦ is usable t (stores_then old between t first.same (same usable).0 has) number more high
      ];
    }

pub numbers_refused : (caller : List ℕ) (before last settled : ℕ) (old between new : State) → last ≤ settled → IsSame old between → IsSame between new → IsUsable new → ((t : Tables) → Stores between t → ¬ (AreWithin t × AreReceived caller before last t))
    → (t : Tables) → Stores old t → ¬ (AreWithin t × AreReceived caller 0 settled t)
numbers_refused caller before last settled old between new most first same usable refused t has all =
    refused t (stores_then old between t first (same usable).0 has) (all.0, λ number low high. all.1 number (omega (arith, low)) (omega (arith, high, most)))

-- A caller.

pub same_row : (a b : CallerRow) → a.name ≡ b.name → a.settled ≡ b.settled → a ≡ b
same_row a b names numbers = λ i. record { name = names i; settled = numbers i }

pub caller_judged : (t : Tables) (rows : List CallerRow) (caller alone : CallerRow) → rows ≡ filter (is_caller caller.name) t.callers → only rows ≡ Some alone → alone ≡ caller → (1 ≤ caller.settled) × (caller.settled ≤ 1000000000)
    → AreReceived caller.name 0 caller.settled t → IsCallerJudged t caller
caller_judged t rows caller alone are one same within kept =
    record { one = sym are ∙ only_one rows alone one ∙ ap (λ (row : CallerRow). row ∷ []) same; some = within.0; within = within.1; kept = λ number low high. kept number (omega (arith, low)) high }

pub receipts_there : (t : Tables) (caller : CallerRow) → IsCallerJudged t caller → AreReceived caller.name 0 caller.settled t
receipts_there t caller judged number low high = judged.kept number (omega (arith, low)) high

pub only_caller : (t : Tables) (rows : List CallerRow) (caller : CallerRow) → rows ≡ filter (is_caller caller.name) t.callers → IsCallerJudged t caller → only rows ≡ Some caller
only_caller t rows caller are judged = ap only (are ∙ judged.one)

-- All callers.

pub settled_more : (callers : List CallerRow) (i : ℕ) (caller : CallerRow) (so_far more : ℕ) → i < length callers → caller ≡ get_or callers i caller → so_far ≡ sum_by (λ (row : CallerRow). row.settled) (take i callers) → more ≡ so_far + caller.settled
    → more ≡ sum_by (λ (row : CallerRow). row.settled) (take (i + 1) callers)
settled_more callers i caller so_far more below at sum is =
    let next = sum_by_more (λ (row : CallerRow). row.settled) callers i caller below in
    is ∙ ap (λ n. n + caller.settled) sum ∙ ap (λ (row : CallerRow). sum_by (λ (r : CallerRow). r.settled) (take i callers) + row.settled) at ∙ sym next

pub all_kept : (t : Tables) (callers : List CallerRow) (settled kept : ℕ) → callers ≡ t.callers → AllByRecursion (IsCallerJudged t) callers → settled ≡ sum_by (λ (row : CallerRow). row.settled) callers → kept ≡ min (length t.kept) 9223372036854775807
    → ((rows : ℕ) → kept ≡ min rows 9223372036854775807 → settled ≡ rows) → AreCallersJudged t
all_kept t callers settled kept are each sum count all =
    record {
      each = subst (AllByRecursion (IsCallerJudged t)) are each;
      all = subst (λ (rows : List CallerRow). sum_by (λ (row : CallerRow). row.settled) rows ≡ length t.kept) are (sym sum ∙ all (length t.kept) count);
    }

pub not_all_kept : (t : Tables) (callers : List CallerRow) (settled kept : ℕ) → callers ≡ t.callers → settled ≡ sum_by (λ (row : CallerRow). row.settled) callers → kept ≡ min (length t.kept) 9223372036854775807
    → ((rows : ℕ) → kept ≡ min rows 9223372036854775807 → settled ≢ rows) → ¬ AreCallersJudged t
not_all_kept t callers settled kept are sum count none judged =
    none (length t.kept) count (subst (λ (rows : List CallerRow). settled ≡ sum_by (λ (row : CallerRow). row.settled) rows) are sum ∙ judged.all)
