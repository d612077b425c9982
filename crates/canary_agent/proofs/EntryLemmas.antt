-- Entries of a report, one after another.
use Rattle.std.proofs.Common.{◌≡◌, ◌∙◌, inl, inr, ℕ, zero, suc, ◌+◌, ◌<◌, ◌≤◌, List, [], ◌∷◌, ◌++◌, length, take, drop, slice_index_or, subst, sym, arith}
use Rattle.std.proofs.Math.Seq.{take-suc}
use Rattle.std.proofs.lemmas.List.{take-append-drop}
use Rattle.canary_plan.specs.declared.report.Entry.{Entry}
use Rattle.canary_agent.specs.declared.plan.Served.{Served}
use Rattle.canary_agent.specs.declared.taken.Taken.{Taken}
use Rattle.canary_agent.specs.Reports.{IsEntryOf, IsWithEntry, AreEntriesOf}

module _ (served : Served) where
  -- of no measurement there is none
  pub none_of : (taken : List Taken) → AreEntriesOf served (take 0 taken) []
  none_of taken = tt

  -- further measurements
  more : (ts us : List Taken) (es : List Entry) → AreEntriesOf served ts es → AreEntriesOf served (ts ++ us) es
  more ts us [] are = tt
  more [] us (e ∷ es) are = absurd are
  more (t ∷ ts) us (e ∷ es) (inl (is, are)) = inl (is, more ts us es are)
  more (t ∷ ts) us (e ∷ es) (inr are) = inr (more ts us (e ∷ es) are)

  -- the entry of one more
  added : (ts : List Taken) (t : Taken) (es : List Entry) (e : Entry) → AreEntriesOf served ts es → IsEntryOf served t e
      → AreEntriesOf served (ts ++ t ∷ []) (es ++ e ∷ [])
  added [] t [] e are is = inl (is, tt)
  added (u ∷ us) t [] e are is = inr (added us t [] e tt is)
  added [] t (x ∷ xs) e are is = absurd are
  added (u ∷ us) t (x ∷ xs) e (inl (one, are)) is = inl (one, added us t xs e are is)
  added (u ∷ us) t (x ∷ xs) e (inr are) is = inr (added us t (x ∷ xs) e are is)

  -- one more
  with_one : (ts : List Taken) (t : Taken) (es new : List Entry) → AreEntriesOf served ts es → IsWithEntry served t es new
      → AreEntriesOf served (ts ++ t ∷ []) new
  with_one ts t es new are (inl same) = more ts (t ∷ []) new (subst (AreEntriesOf served ts) (sym same) are)
  with_one ts t es new are (inr (e, is, same)) =
      subst (AreEntriesOf served (ts ++ t ∷ [])) (sym same) (added ts t es e are is)

  -- the next one
  pub with_next : (taken : List Taken) (place : ℕ) (t : Taken) (es new : List Entry) → place < length taken → slice_index_or taken place t ≡ t
      → AreEntriesOf served (take place taken) es → IsWithEntry served t es new → AreEntriesOf served (take (place + 1) taken) new
  with_next taken place t es new below is are next =
      let there : take (suc place) taken ≡ take place taken ++ t ∷ [] = take-suc taken place t below ∙ (λ i. take place taken ++ is i ∷ []) in
      let one_more : suc place ≡ place + 1 = omega arith in
      subst (λ n. AreEntriesOf served (take n taken) new) one_more
      (subst (λ ts. AreEntriesOf served ts new) (sym there) (with_one (take place taken) t es new are next))

  -- those of the first ones are among those of all
  pub among_all : (taken : List Taken) (place : ℕ) (es : List Entry) → AreEntriesOf served (take place taken) es → AreEntriesOf served taken es
  among_all taken place es are =
      subst (λ ts. AreEntriesOf served ts es) (take-append-drop place taken) (more (take place taken) (drop place taken) es are)

-- the entries of measurements, one after another
pub ruleset in_turn = (none_of, with_next, among_all)
