-- What a transaction comes to once it is committed, or undone.
use Rattle.std.proofs.Common.{◌≡◌, IsTrue, Ok, Err, Result, OnOk, OnErr, sym, ap, subst, ◌∙◌, arith}
use Rattle.sqlite.specs.Effect.{Database}
use Rattle.sqlite.specs.State.{State, HasCleanDisk, Survives, IsRolledBack}
use Rattle.canary_tables_schema.specs.Stores.{IsUsable}
use Rattle.canary_tables_read.specs.Reader.{IsKept, seen_inside}
use Rattle.canary_migrate.specs.Migrates.{IsRewritten, HasJudgedFirstRows}
use Rattle.canary_migrate.proofs.Moved.{usable_seen}

-- what the transaction held was committed
pub committed : (old begun last new : State) → begun.now ≡ old.now → IsUsable last → IsTrue last.in_transaction → new.now ≡ last.now → (IsUsable (seen_inside last) → IsRewritten begun.now last.now) → IsRewritten old.now new.now
committed old begun last new first usable live same done =
    subst (λ (db : Database). IsRewritten db new.now) first (subst (IsRewritten begun.now) (sym same) (done (usable_seen last usable live)))

-- it was undone
pub usable_undone : (last new : State) (P : _) → Survives last new P → (IsTrue new.is_open → IsTrue last.is_open) → IsUsable new → IsUsable last
usable_undone last new P survives was usable = record { clean = omega (arith, survives.clean, usable.clean); is_open = was usable.is_open }

pub undone : (old begun last new : State) → (IsTrue old.is_open → old.now ≡ old.committed) → begun.committed ≡ old.committed → (IsUsable begun → IsUsable old) → IsKept begun last → IsUsable last → IsRolledBack last new → IsUsable new → IsUsable old × (new.now ≡ old.now)
undone old begun last new settled first was kept usable back now =
    let k = kept usable in
    let o = was k.0 in
    (o, (back.undone now.is_open).0 ∙ k.1 ∙ first ∙ sym (settled o.is_open))
