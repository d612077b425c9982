-- A reply that has the pair of no row is no desk's.
use Rattle.std.proofs.Common.{◌≡◌, ◌∙◌, ℕ, List, ◌∷◌, Bool, false, refl, sym}
use Rattle.std.specs.Prelude.{◌==◌, ◌&&◌}
use Rattle.canary_client_journal.specs.Meanings.{Row, is_among, meaning_among}

-- The rows after one whose pair it has not decide.
pub skipped : (row : Row) → (rows : List Row) → (status : ℕ) → (code : List ℕ) → (held among : Bool)
    → held ≡ (status == row.0 && among) → among ≡ is_among row.1.0 code → held ≡ false
    → meaning_among rows status code ≡ meaning_among (row ∷ rows) status code
skipped row rows status code held among is has fails =
    let pair : (status == row.0 && is_among row.1.0 code) ≡ false = rw (sym has) (sym is ∙ fails) in rw pair refl
