-- Statements one after another.
use Rattle.std.proofs.Common.{◌⊎◌, inl, inr, IsTrue, refl, ◌∙◌, arith}
use Rattle.sqlite.specs.State.{State, HasCleanDisk, Survives, KeepsCommit}
use Rattle.sqlite.specs.Tree.{Trees}
use Rattle.sqlite_disk.specs.Disk.{MoreFaults}
use Rattle.canary_tables_rows.specs.Tables.{Tables}
use Rattle.canary_tables_schema.specs.Stores.{IsReady}

-- what the statements so far did
pub record SoFar (change : Tables → Tables) (old new : State) : Type 0 where
  pub wrote : HasCleanDisk new → (t : Tables) → IsReady old t → IsReady new (change t)
  pub live : HasCleanDisk new → IsTrue old.in_transaction → IsTrue new.in_transaction
  pub kept : HasCleanDisk new → IsTrue old.in_transaction → KeepsCommit old new
  pub survives : Survives old new (λ _. ⊥)

pub nothing_yet : (s : State) → SoFar (λ t. t) s s
nothing_yet s = record {
  wrote = λ clean t ready. ready;
  live = λ clean live. live;
  kept = λ clean live. record { was_open = λ o. o; committed = λ o. refl };
  survives = record { clean = omega arith; shield = λ x. x; counts = omega arith; limit = refl; closes = λ clean o. inl o; crash = λ clean db h. inl h };
}

pub survives_both : (a b c : State) → Survives a b (λ _. ⊥) → Survives b c (λ _. ⊥) → Survives a c (λ _. ⊥)
survives_both a b c h k = record {
  clean = omega (arith, h.clean, k.clean);
  shield = λ x. k.shield (h.shield x);
  counts = omega (arith, h.counts, k.counts);
  limit = k.limit ∙ h.limit;
  closes = λ clean o. closed clean (h.closes (omega (arith, k.clean, clean)) o);
  crash = λ clean db left. left_by clean db (k.crash clean db left);
}
  where
    closed : HasCleanDisk c → IsTrue b.is_open ⊎ MoreFaults a.faults b.faults → IsTrue c.is_open ⊎ MoreFaults a.faults c.faults
    closed clean (inl o) = later (k.closes clean o)
      where
        later : IsTrue c.is_open ⊎ MoreFaults b.faults c.faults → IsTrue c.is_open ⊎ MoreFaults a.faults c.faults
        later (inl o) = inl o
        later (inr more) = inr (omega (arith, more, h.counts))
    closed clean (inr more) = inr (omega (arith, more, k.counts))

    left_by : HasCleanDisk c → (db : Trees) → b.may_leave db ⊎ ⊥ → a.may_leave db ⊎ ⊥
    left_by clean db (inl l) = h.crash (omega (arith, k.clean, clean)) db l
    left_by clean db (inr l) = absurd l

-- one more statement
pub then : (f g : Tables → Tables) (old mid new : State) → SoFar f old mid → (HasCleanDisk new → (t : Tables) → IsReady mid t → IsReady new (g t)) → (HasCleanDisk new → IsTrue mid.in_transaction → IsTrue new.in_transaction)
    → (HasCleanDisk new → IsTrue mid.in_transaction → KeepsCommit mid new) → Survives mid new (λ _. ⊥) → SoFar (λ t. g (f t)) old new
then f g old mid new h wrote live kept survives =
    let before : HasCleanDisk new → HasCleanDisk mid = λ clean. omega (arith, survives.clean, clean) in
    record {
      wrote = λ clean t ready. wrote clean (f t) (h.wrote (before clean) t ready);
      live = λ clean l. live clean (h.live (before clean) l);
      kept = λ clean l.
          let one = h.kept (before clean) l in
          let two = kept clean (h.live (before clean) l) in
          record { was_open = λ o. one.was_open (two.was_open o); committed = λ o. two.committed o ∙ one.committed (two.was_open o) };
      survives = survives_both old mid new h.survives survives;
    }
