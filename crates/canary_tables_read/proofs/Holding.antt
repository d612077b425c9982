-- What a program holds of rows, all of them or none.
use Rattle.std.proofs.Common.{◌≡◌, ◌<◌, ◌^◌, ℕ, zero, suc, pos, List, [], ◌∷◌, length, map, filter, get_or, Bool, true, false, if◌then◌else◌, Option, Some, None, IsTrue, nat_lt, refl, ap, ap₂, arith}
use Rattle.std.specs.List.{AllByRecursion}
use Rattle.std.proofs.lemmas.Bool.Decides.{nat_tests}
use Rattle.sqlite.specs.declared.types.Value.TheVariants.{Int, Text as Words}
use Rattle.canary_base.specs.Names.{is_name}
use Rattle.canary_tables_rows.specs.declared.rows.CallerRow.{CallerRow}
use Rattle.canary_tables_rows.specs.declared.rows.RevisionRow.{RevisionRow}
use Rattle.canary_tables_rows.specs.Limits.{IsCallerWithin, IsRevisionWithin}
use Rattle.canary_tables_read.specs.declared.lists.RevisionKey.{RevisionKey}
use Rattle.canary_tables_read.specs.Keys.{key_of}
use Rattle.canary_tables_read.specs.Readable.{name_in, number_in, caller_with, key_with}

-- if one is none, they are not all there
pub one_missing : {A B : Type 0} (f : A → Option B) (rows : List A) (i : ℕ) (d : A) (all : List B) → i < length rows → f (get_or rows i d) ≡ None → map f rows ≡ map Some all → ⊥
one_missing f [] i d all lt none same = omega arith
one_missing f (row ∷ rows) i d [] lt none same = cc
one_missing f (row ∷ rows) zero d (x ∷ all) lt none same = let here : f row ≡ Some x = cc in cc
one_missing f (row ∷ rows) (suc i) d (x ∷ all) lt none same = let later : map f rows ≡ map Some all = cc in one_missing f rows i d all (omega arith) none later

-- rows of a table, by what is held of each
module _ {X Y : Type 0} (held : X → Option Y) (out : X → Y) where
  pub told_same : ((x : X) (y : Y) → held x ≡ Some y → y ≡ out x) → (xs : List X) (all : List Y) → map Some all ≡ map held xs → all ≡ map out xs
  told_same sound [] [] e = refl
  told_same sound [] (y ∷ all) e = absurd (cc)
  told_same sound (x ∷ xs) [] e = absurd (cc)
  told_same sound (x ∷ xs) (y ∷ all) e =
      let here : held x ≡ Some y = cc in
      let later : map Some all ≡ map held xs = cc in
      ap₂ (λ first others. first ∷ others) (sound x y here) (told_same sound xs all later)

  pub told_all : (Within : X → Type 0) → ((x : X) → Within x → held x ≡ Some (out x)) → (xs : List X) → AllByRecursion Within xs → map held xs ≡ map Some (map out xs)
  told_all Within full [] h = refl
  told_all Within full (x ∷ xs) h = ap₂ (λ first others. first ∷ others) (full x h.0) (told_all Within full xs h.1)

pub map_itself : {X : Type 0} (xs : List X) → map (λ x. x) xs ≡ xs
map_itself [] = refl
map_itself (x ∷ xs) = ap (λ others. x ∷ others) (map_itself xs)

pub all_pass : {X : Type 0} (xs : List X) → filter (λ _. true) xs ≡ xs
all_pass [] = refl
all_pass (x ∷ xs) = ap (λ others. x ∷ others) (all_pass xs)

if_some : {A : Type 0} (b : Bool) (x y : A) → (if b then Some x else None) ≡ Some y → y ≡ x
if_some true x y e = cc
if_some false x y e = absurd (cc)

if_true : {A : Type 0} (b : Bool) (x : A) → IsTrue b → (if b then Some x else None) ≡ Some x
if_true true x h = refl
if_true false x h = absurd (cc)

pub name_sound : (x y : List ℕ) → name_in (Words x) ≡ Some y → y ≡ x
name_sound x y e = if_some (is_name x) x y e

pub name_full : (x : List ℕ) → IsTrue (is_name x) → name_in (Words x) ≡ Some x
name_full x h = if_true (is_name x) x h

number_full : (n : ℕ) → n < 2 ^ 32 → number_in (Int (pos n)) ≡ Some n
number_full n h = if_true (nat_lt n (2 ^ 32)) n (fits n (2 ^ 32) h)
  where
    fits : (m k : ℕ) → m < k → IsTrue (nat_lt m k)
    fits m k lt = let it : nat_lt m k ≡ true = grind (arith, nat_tests) in it

caller_if : (a b : Bool) (name : List ℕ) (settled : ℕ) (y : CallerRow) → caller_with (if a then Some name else None) (if b then Some settled else None) ≡ Some y → y ≡ (record { name = name; settled = settled })
caller_if true true name settled y e = cc
caller_if true false name settled y e = absurd (cc)
caller_if false b name settled y e = absurd (cc)

pub caller_sound : (x y : CallerRow) → caller_with (name_in (Words x.name)) (number_in (Int (pos x.settled))) ≡ Some y → y ≡ x
caller_sound x y e = caller_if (is_name x.name) (nat_lt x.settled (2 ^ 32)) x.name x.settled y e

pub caller_full : (x : CallerRow) → IsCallerWithin x → caller_with (name_in (Words x.name)) (number_in (Int (pos x.settled))) ≡ Some x
caller_full x h = ap₂ caller_with (name_full x.name h.name) (number_full x.settled h.settled)

key_if : (a b : Bool) (name : List ℕ) (revision : ℕ) (y : RevisionKey) → key_with (if a then Some name else None) (if b then Some revision else None) ≡ Some y → y ≡ (record { name = name; revision = revision })
key_if true true name revision y e = cc
key_if true false name revision y e = absurd (cc)
key_if false b name revision y e = absurd (cc)

pub key_sound : (x : RevisionRow) (y : RevisionKey) → key_with (name_in (Words x.name)) (number_in (Int (pos x.revision))) ≡ Some y → y ≡ key_of x
key_sound x y e = key_if (is_name x.name) (nat_lt x.revision (2 ^ 32)) x.name x.revision y e

pub key_full : (x : RevisionRow) → IsRevisionWithin x → key_with (name_in (Words x.name)) (number_in (Int (pos x.revision))) ≡ Some (key_of x)
key_full x h = ap₂ key_with (name_full x.name h.name) (number_full x.revision h.revision)
