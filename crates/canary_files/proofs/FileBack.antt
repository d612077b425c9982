-- A file that was written is read back, record by record.
use Rattle.std.proofs.Common.{◌≡◌, ◌++◌, ℕ, suc, List, [], ◌∷◌, refl, sym, subst}
use Rattle.std.specs.Prelude.{Some}
use Rattle.csv.specs.Machine.{next_record}
use Rattle.csv.specs.Reading.{default_config, strip_bom, Reached}
use Rattle.csv.specs.declared.parser.State.TheVariants as st
use Rattle.csv.proofs.OnLiterals.{csv_on_literals}
use Rattle.csv.proofs.RoundTrip.{read-write}
use Rattle.canary_release.specs.declared.effect.Recorded.{Recorded}
use Rattle.canary_files.specs.Taking.{HasRecords}
use Rattle.canary_files.specs.Rows.{header}
use Rattle.canary_files.specs.Written.{row_fields, rows_text, record_text, file_of}
use Rattle.canary_files.specs.ReadingBack.{rows_fields}

-- rows, one after another
rows_back : (caller service : List ℕ) (name : Recorded → List ℕ) (n : ℕ) (xs : List Recorded)
    → Reached default_config st.StartRecord (rows_text caller service name n xs) (rows_fields caller service name n xs) st.StartRecord []
unfolding Reached
rows_back caller service name n [] = (refl, refl)
rows_back caller service name n (x ∷ xs) =
    let fields = row_fields caller (suc n) service x (name x) in
    let rest = rows_text caller service name (suc n) xs in
    ((fields, st.StartRecord, rest), read-write fields rest, refl, rows_back caller service name (suc n) xs)

-- a header begins with no byte order mark
unmarked : (rest : List ℕ) → strip_bom (record_text header ++ rest) ≡ record_text header ++ rest
unfolding strip_bom header csv_on_literals
unmarked rest = refl

pub file_back : (caller service : List ℕ) (name : Recorded → List ℕ) (xs : List Recorded) → HasRecords (Some (file_of caller service name xs)) (header ∷ rows_fields caller service name 0 xs)
unfolding Reached header next_record
file_back caller service name xs =
    let rest = rows_text caller service name 0 xs in
    let read : next_record default_config st.StartRecord [] [] (strip_bom (file_of caller service name xs)) ≡ Some (header, st.StartRecord, rest) =
    subst (λ text. next_record default_config st.StartRecord [] [] text ≡ Some (header, st.StartRecord, rest)) (sym (unmarked rest)) (read-write header rest) in
    (st.StartRecord, [], ((header, st.StartRecord, rest), read, refl, rows_back caller service name 0 xs), refl)
