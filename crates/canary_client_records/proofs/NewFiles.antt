-- Which files a crash may leave of a new one: those without a text.
use Rattle.std.proofs.Common.{◌≡◌, inl, inr, ℕ, ◌+◌, ◌<◌, ◌≤◌, List, [], ◌∷◌, ◌++◌, length, take, drop, true, Some, refl, sym, ◌∙◌, ap, subst, arith, length-append, length-drop, length-take, take-append-drop}
use Rattle.std.specs.Prelude.{nat_le}
use Rattle.std.proofs.lemmas.List.{drop_all}
use Rattle.canary_client_records.specs.Devices.{Torn}
use Rattle.canary_client_records.specs.Texts.{texts_of, begins, records}
use Rattle.canary_client_records.specs.Laws.{IsLeftOfNew, OnlyNew, TakesNew}
use Rattle.canary_client_records.proofs.TextLemmas.{reads_back, many_read, most_within, gate_parts}
use Rattle.canary_client_records.proofs.Crash.{few_bytes}

torn_first : (byte : ℕ) → Torn 0 (45 ∷ []) [] (byte ∷ [])
torn_first byte = record {
  before = refl;
  after = refl;
  no_shorter = omega arith;
  no_longer = omega arith;
  one = λ single inside. absurd (omega (arith, inside));
}

-- what stands after the closed gate may be of the first text
torn_after : (after : List ℕ) → length after ≤ 109 → (text : List ℕ) × (length text ≤ 107) × Torn 1 (text ++ 10 ∷ 45 ∷ []) (45 ∷ []) (45 ∷ after)
torn_after after few =
    let text = take 107 after in
    let size = length-take 107 after in
    let written = length-append text (10 ∷ 45 ∷ []) in (
      text,
      omega (arith, size),
      record {
        before = refl;
        after = drop_all (1 + length (text ++ 10 ∷ 45 ∷ [])) (45 ∷ after) (omega (arith, few, size, written))
            ∙ sym (drop_all (1 + length (text ++ 10 ∷ 45 ∷ [])) (45 ∷ []) (omega (arith, written)));
        no_shorter = omega arith;
        no_longer = omega (arith, few, size, written);
        one = λ single inside. absurd (omega (arith, single, written));
      },
    )

after_gate : (file : List ℕ) → 1 < length file → texts_of file ≡ Some [] → (after : List ℕ) × (file ≡ 45 ∷ after) × (length after ≤ 109)
after_gate file many none =
    let read = many_read file [] many none in
    let parts = gate_parts file [] read.1 in
    let few : nat_le (length (45 ∷ parts.after)) 110 ≡ true = ap begins (sym parts.is) ∙ read.0 in
    let most = most_within (length (45 ∷ parts.after)) few in
    (parts.after, parts.is, omega (arith, most))

pub only_new : OnlyNew
only_new [] none = inl refl
only_new (byte ∷ []) none = inr (inl (torn_first byte))
only_new (gate ∷ byte ∷ file) none =
    let a = after_gate (gate ∷ byte ∷ file) (omega arith) none in
    let t = torn_after a.0 a.2 in
    inr (inr (t.0, t.1, subst (λ (f : List ℕ). Torn 1 (t.0 ++ 10 ∷ 45 ∷ []) (45 ∷ []) f) (sym a.1) t.2))

pub takes_new : TakesNew
takes_new file (inl nothing) = ap texts_of nothing
takes_new file (inr (inl torn)) = few_bytes file (omega (arith, torn.no_longer))
takes_new file (inr (inr (text, short, torn))) =
    let whole : file ≡ 45 ∷ drop 1 file = sym (take-append-drop 1 file) ∙ ap (λ (l : List ℕ). l ++ drop 1 file) torn.before in
    let tail = length-drop 1 file in
    let written = length-append text (10 ∷ 45 ∷ []) in
    ap texts_of whole ∙ reads_back [] (drop 1 file) tt (λ none. omega (arith, short, tail, written, torn.no_longer))
