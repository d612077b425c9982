-- Rows of one table that name rows of another, and how many of them there are.
use Rattle.std.proofs.Common.{◌≡◌, ℕ, ◌≤◌, List, [], length, Bool, arith}
use Rattle.std.specs.Prelude.{filter}
use Rattle.std.specs.Str.{bytes_eq}
use Rattle.std.specs.List.{AllByRecursion, sum_by}
use Rattle.canary_tables_contents.proofs.Strays.{HasKey, HaveAtLeast, no_strays}
use Rattle.canary_tables_contents.proofs.Named.{own_key, equal_keys, IsIn, each_in, distinct, unnamed}
use Rattle.canary_tables_contents.proofs.JudgedKeys.{Tells, has_key, all_keyed}

-- a row names another
abbrev pub names : {R S : Type 0} → (R → List ℕ) → (S → List ℕ) → R → S → Bool
names name key row x = bytes_eq (name row) (key x)

names_tell : Tells bytes_eq
names_tell = record { same = equal_keys; own = own_key }

-- each name stands once
abbrev pub StandOnce : {R : Type 0} → (R → List ℕ) → List R → Type 0
StandOnce name rows = AllByRecursion (λ k. length (filter (λ r. bytes_eq (name k) (name r)) rows) ≤ 1) rows

-- how many rows name this one
abbrev pub naming : {R S : Type 0} → (R → List ℕ) → (S → List ℕ) → List S → R → ℕ
naming name key xs row = length (filter (names name key row) xs)

at_least_these : {R S : Type 0} (name : R → List ℕ) (key : S → List ℕ) (rows : List R) (xs : List S) → HaveAtLeast (names name key) (naming name key xs) xs rows
at_least_these name key rows xs = each_in (λ row. naming name key xs row ≤ length (filter (names name key row) xs)) rows (λ row at. omega arith)

-- if those that name rows are all, none has another name
pub no_other_name : {R S : Type 0} (name : R → List ℕ) (key : S → List ℕ) (rows : List R) (xs : List S) → StandOnce name rows → sum_by (naming name key xs) rows ≡ length xs
    → (q : List ℕ) → filter (λ r. bytes_eq q (name r)) rows ≡ [] → filter (λ x. bytes_eq q (key x)) xs ≡ []
no_other_name name key rows xs once all q none =
    no_strays (names name key) (naming name key xs) rows xs (distinct name key rows once) (at_least_these name key rows xs) (omega arith) (λ x. bytes_eq q (key x)) (unnamed name key rows q none)

pub has_named : {R S : Type 0} (name : R → List ℕ) (key : S → List ℕ) (rows : List R) (x : S) → (filter (λ r. bytes_eq (key x) (name r)) rows ≡ [] → ⊥) → HasKey (names name key) rows x
has_named name key rows x some = has_key bytes_eq names_tell name key rows x some

-- and if each has the name of a row, they are all
pub all_named : {R S : Type 0} (name : R → List ℕ) (key : S → List ℕ) (rows : List R) (xs : List S) → StandOnce name rows → ((x : S) → IsIn x xs → filter (λ r. bytes_eq (key x) (name r)) rows ≡ [] → ⊥)
    → sum_by (naming name key xs) rows ≡ length xs
all_named name key rows xs once named = all_keyed bytes_eq names_tell name key rows xs once named
