-- Rows that are given whole are inserted, one after another.
use Rattle.std.proofs.Common.{◌≡◌, ℕ, ◌+◌, ◌<◌, ◌≤◌, List, [], ◌∷◌, ◌++◌, append-nil, length, take, get_or, IsTrue, refl, sym, ap, subst, ◌∙◌, arith}
use Rattle.std.proofs.lemmas.List.{take_more, take_all}
use Rattle.sqlite.specs.Effect.{IsDatabase}
use Rattle.sqlite.specs.State.{State, HasCleanDisk, Survives, KeepsCommit}
use Rattle.canary_tables_rows.specs.Tables.{Tables}
use Rattle.canary_tables_schema.specs.Stores.{IsReady}
use Rattle.canary_tables_write.proofs.Loops.{SoFar, nothing_yet, then}

append_both : {A : Type 0} (xs ys zs : List A) → (xs ++ ys) ++ zs ≡ xs ++ (ys ++ zs)
append_both [] ys zs = refl
append_both (x ∷ xs) ys zs = ap (λ all. x ∷ all) (append_both xs ys zs)

-- a database is one still
abbrev pub SoundSoFar : State → State → Type 0
SoundSoFar old new = HasCleanDisk new → (t : Tables) → IsReady old t → IsDatabase old.now → IsDatabase new.now

pub sound_more : (change : Tables → Tables) (old mid new : State) → SoFar change old mid → SoundSoFar old mid → (HasCleanDisk new → (t : Tables) → IsReady mid t → IsDatabase mid.now → IsDatabase new.now) → Survives mid new (λ _. ⊥) → SoundSoFar old new
sound_more change old mid new h sound more survives = λ clean t ready was.
    let before : HasCleanDisk mid = omega (arith, survives.clean, clean) in
    more clean (change t) (h.wrote before t ready) (sound before t ready was)

-- a table, by its rows and what it is with others
module _ {R : Type 0} (have : Tables → List R) (put : List R → Tables → Tables) (itself : (t : Tables) → put (have t) t ≡ t) (rows : List R) where
  abbrev pub behind : List R → Tables → Tables
  behind more t = put (have t ++ more) t

  pub none_yet : (s : State) → SoFar (behind []) s s
  none_yet s = subst (λ change. SoFar change s s) (λ i t. sym (ap (λ all. put all t) (append-nil (have t)) ∙ itself t) i) (nothing_yet s)

  pub row_more : (have_of : (all : List R) (t : Tables) → have (put all t) ≡ all) (twice : (a b : List R) (t : Tables) → put b (put a t) ≡ put b t) (i : ℕ) (row : R) (old mid new : State) → i < length rows → row ≡ get_or rows i row → SoFar (behind (take i rows)) old mid
      → (HasCleanDisk new → (t : Tables) → IsReady mid t → IsReady new (put (have t ++ row ∷ []) t))
      → (HasCleanDisk new → IsTrue mid.in_transaction → IsTrue new.in_transaction) → (HasCleanDisk new → IsTrue mid.in_transaction → KeepsCommit mid new) → Survives mid new (λ _. ⊥) → SoFar (behind (take (i + 1) rows)) old new
  row_more have_of twice i row old mid new low is h wrote live kept survives =
      let more : take i rows ++ row ∷ [] ≡ take (i + 1) rows = sym (take_more rows i row low ∙ ap (λ y. take i rows ++ y ∷ []) (sym is)) in
      let same : (t : Tables) → put (have (behind (take i rows) t) ++ row ∷ []) (behind (take i rows) t) ≡ behind (take (i + 1) rows) t = λ t.
      twice _ _ t ∙ ap (λ all. put all t) (ap (λ all. all ++ row ∷ []) (have_of _ t) ∙ append_both (have t) (take i rows) (row ∷ []) ∙ ap (λ all. have t ++ all) more) in
      subst (λ change. SoFar change old new) (λ j t. same t j) (then (behind (take i rows)) (λ t. put (have t ++ row ∷ []) t) old mid new h wrote live kept survives)

  pub all_done : (i : ℕ) (old new : State) → length rows ≤ i → SoFar (behind (take i rows)) old new → HasCleanDisk new → (t : Tables) → IsReady old t → IsReady new (behind rows t)
  all_done i old new all h clean t ready = subst (λ done. IsReady new (behind done t)) (take_all i rows all) (h.wrote clean t ready)
