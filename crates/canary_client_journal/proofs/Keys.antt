-- A key stands for one wish at most.
use Rattle.std.proofs.Common.{◌≡◌, ℕ, suc, ◌+◌, ◌≤◌, List, [], ◌∷◌, ◌++◌, Bool, true, false, Option, Some, None, refl, sym, ap, ◌∙◌, subst, arith}
use Rattle.std.specs.Prelude.{◌==◌, ◌||◌, ◌&&◌, cond, not, nat_lt, nat_le, if◌then◌else◌, option_and_then, option_map, unwrap_or, is_some, is_none, count_by, fold}
use Rattle.std.proofs.lemmas.Grind.{fold-append}
use Rattle.std.specs.List.{list_any}
use Rattle.std.specs.Str.{bytes_eq}
use Rattle.std.proofs.lemmas.Slice.Eq.{bytes_eq-Decides}
use Rattle.canary_client_journal.specs.declared.entry.Wish.{Wish}
use Rattle.canary_client_journal.specs.declared.entry.Asked.{Asked}
use Rattle.canary_client_journal.specs.declared.entry.SettledReply.{SettledReply}
use Rattle.canary_client_journal.specs.declared.entry.SettledNumber.{SettledNumber}
use Rattle.canary_client_journal.specs.declared.entry.JournalEntry.{JournalEntry}
use Rattle.canary_client_journal.specs.declared.entry.JournalEntry.TheVariants as entry
use Rattle.canary_client_journal.specs.declared.entry.EntryRefusal.{EntryRefusal}
use Rattle.canary_client_journal.specs.declared.entry.EntryRefusal.TheVariants as refusal
use Rattle.canary_client_journal.specs.Journals.{JournalValue, begun, number_of, has_key, is_kept_under, is_used, asked_refusal, instead_refusal, settled_refusal, refusal_of, with_entry, replaced, kept_with}
use Rattle.canary_client_journal.specs.Lines.{entry_in}
use Rattle.canary_client_journal.specs.Readings.{if_next, with_line, goes_on, begun_by, journal_of}
use Rattle.canary_client_journal.specs.Laws.{pending_uses, uses_of, KeysStandOnce}

-- Counts.

abbrev one_if : Bool → ℕ
one_if b = cond b 1 0

counted_push : {A : Type 0} (p : A → Bool) (xs : List A) (x : A) → count_by p (xs ++ x ∷ []) ≡ count_by p xs + one_if (p x)
counted_push p xs x = fold-append (λ n y. n + one_if (p y)) 0 xs (x ∷ [])

none_by : {A : Type 0} (p : A → Bool) (x : A) (xs : List A) (n : ℕ) → (list_any p xs ≡ false → fold (λ k y. k + one_if (p y)) n xs ≡ n) → (b : Bool) → p x ≡ b → (p x || list_any p xs) ≡ false
    → fold (λ k y. k + one_if (p y)) (n + one_if (p x)) xs ≡ n
none_by p x xs n more true e h = let no : true ≡ false = ap (λ t. t || list_any p xs) (sym e) ∙ h in let none : ⊥ = cc no in absurd none
none_by p x xs n more false e h =
    let same : n + one_if false ≡ n = omega arith in
    ap (λ t. fold (λ k y. k + one_if (p y)) (n + one_if t) xs) e
    ∙ ap (λ m. fold (λ k y. k + one_if (p y)) m xs) same
    ∙ more (ap (λ t. t || list_any p xs) (sym e) ∙ h)

none_from : {A : Type 0} (p : A → Bool) (xs : List A) (n : ℕ) → list_any p xs ≡ false → fold (λ k y. k + one_if (p y)) n xs ≡ n
none_from p [] n h = refl
none_from p (x ∷ xs) n h = none_by p x xs n (λ k. none_from p xs n k) (p x) refl h

none_counted : {A : Type 0} (p : A → Bool) (xs : List A) → list_any p xs ≡ false → count_by p xs ≡ 0
none_counted p xs h = none_from p xs 0 h

pending_one : (key : List ℕ) (a : Asked) → pending_uses key (Some a) ≡ one_if (has_key key a.wish)
pending_one key a = omega arith

-- What an entry keeps.

abbrev KeepsKeys : JournalValue → Type 0
KeepsKeys j = (key : List ℕ) → uses_of j key ≤ 1

not_refused : (a b c d : Bool) (w x y z : EntryRefusal) → (if a then Some w else (if b then Some x else (if c then Some y else (if d then Some z else None)))) ≡ None → (a ≡ false) × (d ≡ false)
not_refused true b c d w x y z e = let none : ⊥ = cc e in absurd none
not_refused false true c d w x y z e = let none : ⊥ = cc e in absurd none
not_refused false false true d w x y z e = let none : ⊥ = cc e in absurd none
not_refused false false false true w x y z e = let none : ⊥ = cc e in absurd none
not_refused false false false false w x y z e = (refl, refl)

-- a wish with this key is the only one if no kept one has it
asked_once : (kept : List SettledNumber) (key : List ℕ) (wish : Wish) (own : Option (List ℕ)) → wish.key ≡ own → is_used kept own ≡ false
    → count_by (is_kept_under key) kept ≤ 1 → count_by (is_kept_under key) kept + one_if (unwrap_or (option_map (λ k. bytes_eq k key) own) false) ≤ 1
asked_once kept key wish None is new before = omega (arith, before)
asked_once kept key wish (Some own) is new before = by (bytes_eq own key) refl
  where
    by : (b : Bool) → bytes_eq own key ≡ b → count_by (is_kept_under key) kept + one_if b ≤ 1
    by true e =
        let same : own ≡ key = (bytes_eq-Decides own key).0 e in
        let none = none_counted (is_kept_under key) kept (ap (λ k. list_any (is_kept_under k) kept) (sym same) ∙ new) in
        omega (arith, none)
    by false e = omega (arith, before)

by_asked : (j : JournalValue) (wish : Wish) → KeepsKeys j → is_used j.kept wish.key ≡ false → (key : List ℕ) → count_by (is_kept_under key) j.kept + pending_uses key (Some (record { wish = wish; instead = None })) ≤ 1
by_asked j wish h new key =
    let before = h key in
    let once = asked_once j.kept key wish wish.key refl new (omega (arith, before)) in
    let one = pending_one key (record { wish = wish; instead = None }) in
    omega (arith, once, one)

by_instead : (kept : List SettledNumber) (body : List ℕ) (pending : Option Asked) (key : List ℕ) → count_by (is_kept_under key) kept + pending_uses key pending ≤ 1 → count_by (is_kept_under key) kept + pending_uses key (option_map (replaced body) pending) ≤ 1
by_instead kept body None key h = h
by_instead kept body (Some a) key h = h

by_settled : (kept : List SettledNumber) (reply : SettledReply) (pending : Option Asked) (key : List ℕ) → count_by (is_kept_under key) kept + pending_uses key pending ≤ 1 → count_by (is_kept_under key) (kept_with kept pending reply) + 0 ≤ 1
by_settled kept reply None key h = h
by_settled kept reply (Some a) key h =
    let more = counted_push (is_kept_under key) kept (record { asked = a; reply = reply }) in
    let one = pending_one key a in
    omega (arith, h, more, one)

by_entry : (j : JournalValue) (e : JournalEntry) → refusal_of j e ≡ None → KeepsKeys j → KeepsKeys (with_entry j e)
by_entry j (entry.Begun caller settled) next h = let none : ⊥ = cc next in absurd none
by_entry j (entry.Asked number wish) next h =
    by_asked j wish h (not_refused (is_some j.pending) (not (number == number_of j)) (nat_lt 1000000000 number) (is_used j.kept wish.key) refusal.Pending refusal.Number refusal.Spent refusal.KeyUsed next).1
by_entry j (entry.Instead number body) next h = λ key. by_instead j.kept body j.pending key (h key)
by_entry j (entry.Settled number reply) next h = λ key. by_settled j.kept reply j.pending key (h key)

-- Line after line.

if_not_refused : (j k : JournalValue) (e : JournalEntry) (r : Option EntryRefusal) → refusal_of j e ≡ r → (if is_none r then Some (with_entry j e) else None) ≡ Some k → KeepsKeys j → KeepsKeys k
if_not_refused j k e None next is h = let same : with_entry j e ≡ k = cc is in subst KeepsKeys same (by_entry j e next h)
if_not_refused j k e (Some r) next is h = let none : ⊥ = cc is in absurd none

by_read : (j k : JournalValue) (o : Option JournalEntry) → option_and_then (if_next j) o ≡ Some k → KeepsKeys j → KeepsKeys k
by_read j k None is h = let none : ⊥ = cc is in absurd none
by_read j k (Some e) is h = if_not_refused j k e (refusal_of j e) refl is h

by_rest : (texts : List (List ℕ)) (k : JournalValue) (o : Option JournalValue) → ((m : JournalValue) → goes_on m texts ≡ Some k → KeepsKeys m → KeepsKeys k) → ((m : JournalValue) → o ≡ Some m → KeepsKeys m)
    → option_and_then (λ m. goes_on m texts) o ≡ Some k → KeepsKeys k
by_rest texts k None go keep is = let none : ⊥ = cc is in absurd none
by_rest texts k (Some m) go keep is = go m is (keep m refl)

by_lines : (texts : List (List ℕ)) (j k : JournalValue) → goes_on j texts ≡ Some k → KeepsKeys j → KeepsKeys k
by_lines [] j k is h = let same : j ≡ k = cc is in subst KeepsKeys same h
by_lines (text ∷ texts) j k is h = by_rest texts k (with_line j text) (λ m e g. by_lines texts m k e g) (λ m e. by_read j m (entry_in text) e h) is

by_begun : (o : Option JournalEntry) (m : JournalValue) → option_and_then begun_by o ≡ Some m → KeepsKeys m
by_begun None m is = let none : ⊥ = cc is in absurd none
by_begun (Some (entry.Begun caller settled)) m is = within (nat_le settled 1000000000) is
  where
    within : (b : Bool) → (if b then Some (begun caller settled) else None) ≡ Some m → KeepsKeys m
    within true is = let same : begun caller settled ≡ m = cc is in subst KeepsKeys same (λ key. omega arith)
    within false is = let none : ⊥ = cc is in absurd none
by_begun (Some (entry.Asked number wish)) m is = let none : ⊥ = cc is in absurd none
by_begun (Some (entry.Instead number body)) m is = let none : ⊥ = cc is in absurd none
by_begun (Some (entry.Settled number reply)) m is = let none : ⊥ = cc is in absurd none

pub keys_stand_once : KeysStandOnce
keys_stand_once [] j is = let none : ⊥ = cc is in absurd none
keys_stand_once (text ∷ texts) j is = by_rest texts j (option_and_then begun_by (entry_in text)) (λ m e g. by_lines texts m j e g) (λ m e. by_begun (entry_in text) m e) is
