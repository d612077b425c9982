-- What an entry that may stand next keeps of a journal.
use Rattle.std.proofs.Common.{◌≡◌, ℕ, ◌+◌, ◌≤◌, Bool, true, false, Option, Some, None, refl, arith}
use Rattle.std.specs.Prelude.{List, length, ◌==◌, not, nat_lt, if◌then◌else◌, is_some, option_map}
use Rattle.std.proofs.lemmas.Bool.Decides.{nat_tests}
use Rattle.canary_client_journal.specs.declared.entry.Wish.{Wish}
use Rattle.canary_client_journal.specs.declared.entry.Asked.{Asked}
use Rattle.canary_client_journal.specs.declared.entry.EntryRefusal.{EntryRefusal}
use Rattle.canary_client_journal.specs.declared.entry.EntryRefusal.TheVariants as refusal
use Rattle.canary_client_journal.specs.Journals.{JournalValue, number_of, is_used, asked_refusal, replaced, pending_count}

passes : (a b c d : Bool) (w x y z : EntryRefusal) → (if a then Some w else (if b then Some x else (if c then Some y else (if d then Some z else None)))) ≡ None → (b ≡ false) × (c ≡ false)
passes true b c d w x y z e = let none : ⊥ = cc e in absurd none
passes false true c d w x y z e = let none : ⊥ = cc e in absurd none
passes false false true d w x y z e = let none : ⊥ = cc e in absurd none
passes false false false true w x y z e = let none : ⊥ = cc e in absurd none
passes false false false false w x y z e = (refl, refl)

within : (number next : ℕ) → not (number == next) ≡ false → nat_lt 1000000000 number ≡ false → next ≤ 1000000000
within number next same least = grind (arith, nat_tests)

-- a wish that may stand next has a number that there is
pub asked_within : (j : JournalValue) (number : ℕ) (wish : Wish) → asked_refusal j number wish ≡ None → number_of j ≤ 1000000000
asked_within j number wish next =
    let tests = passes (is_some j.pending) (not (number == number_of j)) (nat_lt 1000000000 number) (is_used j.kept wish.key) refusal.Pending refusal.Number refusal.Spent refusal.KeyUsed next in
    within number (number_of j) tests.0 tests.1

pub count_replaced : (body : List ℕ) (pending : Option Asked) → pending_count (option_map (replaced body) pending) ≡ pending_count pending
count_replaced body None = refl
count_replaced body (Some a) = refl
