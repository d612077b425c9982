-- Statements one after another: what they ask of the tables, and what they make of them.
use Rattle.std.proofs.Common.{◌≡◌, ◌⊎◌, inl, inr, ◌+◌, IsTrue, Result, Ok, refl, subst, ◌∙◌, arith}
use Rattle.std.specs.Prelude.{OnOk}
use Rattle.sqlite.specs.State.{State, HasCleanDisk}
use Rattle.sqlite.specs.Tree.{Trees}
use Rattle.sqlite_disk.specs.Disk.{MoreFaults}
use Rattle.canary_tables_rows.specs.Tables.{Tables}
use Rattle.canary_tables_schema.specs.Stores.{IsReady, StaysCommitted, SurvivesCut}

-- what holds if a call succeeds holds if it did
pub on_ok : {A E : Type 0} (r : Result A E) (a : A) (P : Type 0) → r ≡ Ok a → OnOk r P → P
on_ok r a P is h = subst (λ x. OnOk x P) is h

-- a clean disk at the end was clean in the midst
pub clean_before : (mid new : State) → SurvivesCut mid new → HasCleanDisk new → HasCleanDisk mid
clean_before mid new survives clean = omega (arith, survives.clean, clean)

survives_both : (a b c : State) → SurvivesCut a b → SurvivesCut b c → SurvivesCut a c
survives_both a b c h k = record {
  clean = omega (arith, h.clean, k.clean);
  shield = λ x. k.shield (h.shield x);
  counts = omega (arith, h.counts, k.counts);
  limit = k.limit ∙ h.limit;
  closes = λ clean o. closes_so clean (h.closes (omega (arith, k.clean, clean)) o);
  crash = λ clean db left. left_by clean db (k.crash clean db left);
}
  where
    closes_so : HasCleanDisk c → IsTrue b.is_open ⊎ MoreFaults a.faults b.faults → IsTrue c.is_open ⊎ MoreFaults a.faults c.faults
    closes_so clean (inl o) = later (k.closes clean o)
      where
        later : IsTrue c.is_open ⊎ MoreFaults b.faults c.faults → IsTrue c.is_open ⊎ MoreFaults a.faults c.faults
        later (inl o) = inl o
        later (inr more) = inr (omega (arith, more, h.counts))
    closes_so clean (inr more) = inr (omega (arith, more, k.counts))

    left_by : HasCleanDisk c → (db : Trees) → b.may_leave db ⊎ ⊥ → a.may_leave db ⊎ ⊥
    left_by clean db (inl l) = h.crash (omega (arith, k.clean, clean)) db l
    left_by clean db (inr l) = absurd l

-- What the statements so far did.
pub record Done (asks : Tables → Type 0) (change : Tables → Tables) (old new : State) : Type 0 where
  pub wrote : HasCleanDisk new → (t : Tables) → IsReady old t → asks t → IsReady new (change t)
  pub live : HasCleanDisk new → IsTrue old.in_transaction → IsTrue new.in_transaction
  pub kept : StaysCommitted old new
  pub survives : SurvivesCut old new

pub nothing_done : (asks : Tables → Type 0) (s : State) → Done asks (λ t. t) s s
nothing_done asks s = record {
  wrote = λ clean t ready asked. ready;
  live = λ clean live. live;
  kept = λ clean live. record { was_open = λ o. o; committed = λ o. refl };
  survives = record { clean = omega arith; shield = λ x. x; counts = omega arith; limit = refl; closes = λ clean o. inl o; crash = λ clean db h. inl h };
}

-- one statement more: all of them ask what those before ask, and what it asks after them
pub done_as : (whole : Tables → Type 0) (all : Tables → Tables) (asks ask : Tables → Type 0) (before change : Tables → Tables) (old mid new : State) → ((t : Tables) → whole t → asks t) → ((t : Tables) → whole t → ask (before t))
    → ((t : Tables) → change (before t) ≡ all t) → Done asks before old mid → (HasCleanDisk new → (t : Tables) → IsReady mid t → ask t → IsReady new (change t))
    → (HasCleanDisk new → IsTrue mid.in_transaction → IsTrue new.in_transaction) → StaysCommitted mid new → SurvivesCut mid new → Done whole all old new
done_as whole all asks ask before change old mid new first last is h wrote live kept survives =
    let earlier : HasCleanDisk new → HasCleanDisk mid = clean_before mid new survives in
    record {
      wrote = λ clean t ready asked. subst (IsReady new) (is t) (wrote clean (before t) (h.wrote (earlier clean) t ready (first t asked)) (last t asked));
      live = λ clean l. live clean (h.live (earlier clean) l);
      kept = λ clean l.
          let one = h.kept (earlier clean) l in
          let two = kept clean (h.live (earlier clean) l) in
          record { was_open = λ o. one.was_open (two.was_open o); committed = λ o. two.committed o ∙ one.committed (two.was_open o) };
      survives = survives_both old mid new h.survives survives;
    }
