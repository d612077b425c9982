-- A list that is judged item after item.
use Rattle.std.proofs.Common.{◌≡◌, ◌+◌, ◌<◌, ◌≤◌, ℕ, zero, suc, List, [], ◌∷◌, ◌++◌, length, take, get_or, refl, sym, ap, ◌∙◌, subst, arith}
use Rattle.std.specs.List.{AllByRecursion}
use Rattle.std.proofs.lemmas.List.{take_more, take_all}
use Rattle.sqlite.specs.State.{State}
use Rattle.canary_tables_rows.specs.Tables.{Tables}
use Rattle.canary_tables_rows.specs.Limits.{AreWithin}
use Rattle.canary_tables_schema.specs.Stores.{IsUsable, Stores}
use Rattle.canary_tables_read.specs.Finds.{IsSame}
use Rattle.canary_tables_adopt.proofs.Standing.{same_then, stores_then}

pub all_more : {X : Type 0} (P : X → Type 0) (xs ys : List X) → AllByRecursion P xs → AllByRecursion P ys → AllByRecursion P (xs ++ ys)
all_more P [] ys front back = back
all_more P (x ∷ xs) ys front back = (front.0, all_more P xs ys front.1 back)

pub all_at : {X : Type 0} (P : X → Type 0) (xs : List X) (i : ℕ) (d : X) → i < length xs → AllByRecursion P xs → P (get_or xs i d)
all_at P [] i d below all = absurd (let no_place : ⊥ = omega arith in no_place)
all_at P (x ∷ xs) zero d below all = all.0
all_at P (x ∷ xs) (suc i) d below all = all_at P xs i d (omega arith) all.1

pub one_of_all : {X : Type 0} (P : X → Type 0) (xs : List X) (i : ℕ) (x : X) → i < length xs → x ≡ get_or xs i x → AllByRecursion P xs → P x
one_of_all P xs i x below at all = subst P (sym at) (all_at P xs i x below all)

-- the first of them are judged, and nothing was changed
pub record EachSoFar {X : Type 0} (P : Tables → X → Type 0) (xs : List X) (i : ℕ) (old now : State) : Type 0 where
  pub same : IsSame old now
  pub judged : IsUsable now → (t : Tables) → Stores old t → AllByRecursion (P t) (take i xs)

pub none_so_far : {X : Type 0} (P : Tables → X → Type 0) (xs : List X) (old : State) → EachSoFar P xs 0 old old
none_so_far P xs old = record { same = λ usable. (usable, refl); judged = λ usable t has. tt }

pub one_more : {X : Type 0} (P : Tables → X → Type 0) (xs : List X) (i : ℕ) (x : X) (old between new : State) → i < length xs → x ≡ get_or xs i x → EachSoFar P xs i old between → IsSame between new
    → (IsUsable new → (t : Tables) → Stores between t → P t x) → EachSoFar P xs (i + 1) old new
one_more P xs i x old between new below at before same is =
    record {
      same = same_then old between new before.same same;
      judged = λ usable t has.
          let mid = (same usable).0 in
          subst (AllByRecursion (P t)) (sym (take_more xs i x below ∙ ap (λ (y : _). take i xs ++ y ∷ []) (sym at)))
          (all_more (P t) (take i xs) (x ∷ []) (before.judged mid t has) (is usable t (stores_then old between t before.same mid has), tt));
    }

pub all_judged : {X : Type 0} (P : Tables → X → Type 0) (xs : List X) (i : ℕ) (old now : State) → EachSoFar P xs i old now → length xs ≤ i → IsUsable now → (t : Tables) → Stores old t → AllByRecursion (P t) xs
all_judged P xs i old now so_far all usable t has = subst (AllByRecursion (P t)) (take_all i xs all) (so_far.judged usable t has)

-- if one is refused, not all are as they are to be
pub one_refused : {X : Type 0} (P : Tables → X → Type 0) (xs : List X) (i : ℕ) (x : X) (old between new : State) → i < length xs → x ≡ get_or xs i x → IsSame old between → IsSame between new → IsUsable new
    → ((t : Tables) → Stores between t → ¬ (AreWithin t × P t x)) → (t : Tables) → Stores old t → ¬ (AreWithin t × AllByRecursion (P t) xs)
one_refused P xs i x old between new below at before same usable refused t has all =
    refused t (stores_then old between t before (same usable).0 has) (all.0, one_of_all (P t) xs i x below at all.1)
