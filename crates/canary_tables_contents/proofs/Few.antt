-- The counts of a list within the limit are few, by one more measurement at a time.
use Rattle.std.proofs.Common.{ℕ, ◌+◌, ◌≤◌, List, [], ◌∷◌, ◌++◌, sym, subst, arith}
use Rattle.std.proofs.lemmas.List.{append-nil, append_assoc}
use Rattle.canary_condition.specs.declared.outcome.Phase.{Phase}
use Rattle.canary_condition.specs.declared.outcome.Phase.TheVariants.{Pending, Running, Successful, Inconclusive, Error, Failed}
use Rattle.canary_metric.specs.declared.measurement.Measurement.{Measurement}
use Rattle.canary_metric.specs.Counts.{Counts, CountsOneMore, counts, size, with_one_more}
use Rattle.canary_tables_rows.specs.Changes.{AreFew}

-- each kind is counted, and each suffix is of its kind
record AreParts (c : Counts) : Type 0 where
  kinds : c.failed + c.inconclusive + c.passes ≤ c.counted
  trailing : c.consecutive ≤ c.errors

one_part : (c : Counts) (p : Phase) (taken : ℕ) → AreParts c → AreParts (with_one_more c p taken)
one_part c Error taken h = record { kinds = omega (arith, h.kinds); trailing = omega (arith, h.trailing) }
one_part c Failed taken h = record { kinds = omega (arith, h.kinds); trailing = omega arith }
one_part c Inconclusive taken h = record { kinds = omega (arith, h.kinds); trailing = omega arith }
one_part c Successful taken h = record { kinds = omega (arith, h.kinds); trailing = omega arith }
one_part c Pending taken h = record { kinds = omega (arith, h.kinds); trailing = omega arith }
one_part c Running taken h = record { kinds = omega (arith, h.kinds); trailing = omega arith }

-- from the front, after what is counted already
all_parts : CountsOneMore → (before ms : List Measurement) → AreParts (counts before) → AreParts (counts (before ++ ms))
all_parts one before [] h = subst (λ (list : List Measurement). AreParts (counts list)) (sym (append-nil before)) h
all_parts one before (m ∷ ms) h =
    let next : AreParts (counts (before ++ m ∷ [])) = subst AreParts (sym (one before m)) (one_part (counts before) m.phase m.taken h) in
    subst (λ (list : List Measurement). AreParts (counts list)) (append_assoc before (m ∷ []) ms) (all_parts one (before ++ m ∷ []) ms next)

pub counts_few : CountsOneMore → (ms : List Measurement) → size (counts ms) ≤ 1000000 → AreFew (counts ms)
counts_few one ms within =
    let parts : AreParts (counts ms) = all_parts one [] ms (record { kinds = omega arith; trailing = omega arith }) in
    record {
      counted = omega (arith, within);
      failed = omega (arith, within, parts.kinds);
      inconclusive = omega (arith, within, parts.kinds);
      errors = omega (arith, within);
      consecutive = omega (arith, within, parts.trailing);
      passes = omega (arith, within, parts.kinds);
    }
