-- Where what was asked is settled, and which messages go out for it.
use Rattle.std.proofs.Common.{◌≡◌, inl, inr, ℕ, List, [], ◌∷◌, ◌++◌, length, Bool, true, false, Option, Some, None, refl, sym, ap, ◌∙◌, subst}
use Rattle.std.specs.Prelude.{◌&&◌, not, get_or, is_none, option_map, unwrap_or, position, slice_get, if◌then◌else◌}
use Rattle.std.specs.Str.{bytes_eq}
use Rattle.std.proofs.lemmas.Slice.Eq.{bytes_eq-Decides}
use Rattle.std.proofs.lemmas.List.Quantifiers.{position-Some}
use Rattle.std.proofs.lemmas.Option.{get_or_from_slice_get}
use Rattle.canary_client_journal.specs.declared.entry.Asked.{Asked}
use Rattle.canary_client_journal.specs.declared.entry.SettledNumber.{SettledNumber}
use Rattle.canary_client_journal.specs.declared.entry.WishPlace.TheVariants as place
use Rattle.canary_client_journal.specs.declared.entry.SettledReply.{SettledReply}
use Rattle.canary_client_journal.specs.declared.entry.Wish.{Wish}
use Rattle.canary_client_journal.specs.Journals.{JournalValue, asks, asks_instead, has_key, is_kept_under, kept_with, place_of, place_under, place_without, place_pending}
use Rattle.canary_client_journal.specs.declared.network.Heard.{Heard}
use Rattle.canary_client_journal.specs.Sending.{IsAskedBy}
use Rattle.canary_client_journal.specs.declared.network.RetryReason.{RetryReason}
use Rattle.canary_client_journal.specs.Networks.{GoesOn}
use Rattle.canary_client_journal.proofs.NetworkLemmas.{asked_more, late_more, then_on, wider}
use Rattle.canary_client.specs.declared.ask.SettledAt.{SettledAt}
use Rattle.canary_client.specs.declared.wish.Asking.{Asking}
use Rattle.canary_client.specs.Beginning.{IsSettledSo}
use Rattle.canary_client.specs.Promises.{intent_of, AsksFor, IsFor, IsSettledAt, IsQuery, IsWishFor, IsSentAnew, IsSentFor}

-- the item that comes after a list
item_after : {X : Type 0} (xs : List X) (x : X) → slice_get (xs ++ x ∷ []) (length xs) ≡ Some x
item_after [] x = refl
item_after (y ∷ xs) x = item_after xs x

-- What stands at a place.

same_bytes : (b : Bool) (xs ys : List ℕ) → bytes_eq xs ys ≡ b → b ≡ true → xs ≡ ys
same_bytes b xs ys e h = (bytes_eq-Decides xs ys).0 (e ∙ h)

key_of : (wish : Wish) (own : Option (List ℕ)) (key : List ℕ) → wish.key ≡ own → unwrap_or (option_map (λ k. bytes_eq k key) own) false ≡ true → wish.key ≡ Some key
key_of wish None key is has = let none : ⊥ = cc has in absurd none
key_of wish (Some own) key is has = is ∙ ap Some ((bytes_eq-Decides own key).0 has)

no_key : (own : Option (List ℕ)) → is_none own ≡ true → own ≡ None
no_key None none = refl
no_key (Some k) none = let never : ⊥ = cc none in absurd never

-- a wish without a key that is pending
pending_without : (a : Asked) (intent : List ℕ) (none same : Bool) → is_none a.wish.key ≡ none → bytes_eq a.wish.intent intent ≡ same → (if none && same then place.Pending else place.Behind) ≡ place.Pending
    → (a.wish.intent ≡ intent) × (a.wish.key ≡ None)
pending_without a intent true true n s e = ((bytes_eq-Decides a.wish.intent intent).0 s, no_key a.wish.key n)
pending_without a intent true false n s e = let never : ⊥ = cc e in absurd never
pending_without a intent false same n s e = let never : ⊥ = cc e in absurd never

-- one with a key
pending_under : (a : Asked) (intent key : List ℕ) (has same : Bool) → has_key key a.wish ≡ has → bytes_eq a.wish.intent intent ≡ same → (if not has then place.Behind else (if same then place.Pending else place.KeyUsed)) ≡ place.Pending
    → (a.wish.intent ≡ intent) × (a.wish.key ≡ Some key)
pending_under a intent key true true h s e =
    ((bytes_eq-Decides a.wish.intent intent).0 s, key_of a.wish a.wish.key key refl h)
pending_under a intent key true false h s e = let never : ⊥ = cc e in absurd never
pending_under a intent key false same h s e = let never : ⊥ = cc e in absurd never

not_settled : (kept : List SettledNumber) (i : ℕ) (intent : List ℕ) (b : Bool) → (if b then place.Settled i else place.KeyUsed) ≡ place.Pending → ⊥
not_settled kept i intent true e = cc e
not_settled kept i intent false e = cc e

pending_at : (j : JournalValue) (intent key : List ℕ) (pending : Option Asked) (a : Asked) → pending ≡ Some a → (at : Option ℕ) → place_under (record j { pending = pending }) intent key at ≡ place.Pending → (a.wish.intent ≡ intent) × (a.wish.key ≡ Some key)
pending_at j intent key None a is at e = let never : ⊥ = cc is in absurd never
pending_at j intent key (Some b) a is None e =
    let same : b ≡ a = cc is in
    subst (λ x. (x.wish.intent ≡ intent) × (x.wish.key ≡ Some key)) same (pending_under b intent key (has_key key b.wish) (bytes_eq b.wish.intent intent) refl refl e)
pending_at j intent key (Some b) a is (Some i) e =
    absurd (not_settled j.kept i intent (unwrap_or (option_map (λ (k : SettledNumber). bytes_eq k.asked.wish.intent intent) (slice_get j.kept i)) false) e)

-- what is pending is what was asked, if the journal has it as pending
pub is_pending : (what : Asking) (j : JournalValue) (key : Option (List ℕ)) (a : Asked) → j.pending ≡ Some a → place_of j (intent_of what) key ≡ place.Pending → IsFor what key true a
is_pending what j None a is e =
    let from : place_without (Some a) (intent_of what) ≡ place.Pending = ap (λ p. place_without p (intent_of what)) (sym is) ∙ e in
    pending_without a (intent_of what) (is_none a.wish.key) (bytes_eq a.wish.intent (intent_of what)) refl refl from
is_pending what j (Some key) a is e =
    pending_at j (intent_of what) key j.pending a is (position (is_kept_under key) j.kept) e

-- under a key the journal has what was asked, if it has it as settled
found_at : (kept : List SettledNumber) (intent : List ℕ) (n i : ℕ) (found : Option SettledNumber) → slice_get kept i ≡ found
    → (if unwrap_or (option_map (λ (k : SettledNumber). bytes_eq k.asked.wish.intent intent) found) false then place.Settled i else place.KeyUsed) ≡ place.Settled n
    → (k : SettledNumber) × (slice_get kept n ≡ Some k) × (k.asked.wish.intent ≡ intent) × (i ≡ n)
found_at kept intent n i None there e = let never : ⊥ = cc e in absurd never
found_at kept intent n i (Some k) there e = by (bytes_eq k.asked.wish.intent intent) refl e
  where
    by : (b : Bool) → bytes_eq k.asked.wish.intent intent ≡ b → (if b then place.Settled i else place.KeyUsed) ≡ place.Settled n
        → (k : SettledNumber) × (slice_get kept n ≡ Some k) × (k.asked.wish.intent ≡ intent) × (i ≡ n)
    by true same e =
        let at : i ≡ n = cc e in
        (k, ap (slice_get kept) (sym at) ∙ there, (bytes_eq-Decides k.asked.wish.intent intent).0 same, at)
    by false same e = let never : ⊥ = cc e in absurd never

settled_under : (what : Asking) (j : JournalValue) (key : List ℕ) (n : ℕ) (at : Option ℕ) → position (is_kept_under key) j.kept ≡ at → place_under j (intent_of what) key at ≡ place.Settled n
    → (k : SettledNumber) × (slice_get j.kept n ≡ Some k) × IsFor what (Some key) true k.asked
settled_under what j key n None is e = by j.pending e
  where
    by : (pending : Option Asked) → place_pending pending (intent_of what) key ≡ place.Settled n → (k : SettledNumber) × (slice_get j.kept n ≡ Some k) × IsFor what (Some key) true k.asked
    by None e = let never : ⊥ = cc e in absurd never
    by (Some a) e = among (has_key key a.wish) (bytes_eq a.wish.intent (intent_of what)) e
      where
        among : (has same : Bool) → (if not has then place.Behind else (if same then place.Pending else place.KeyUsed)) ≡ place.Settled n → (k : SettledNumber) × (slice_get j.kept n ≡ Some k) × IsFor what (Some key) true k.asked
        among true true e = let never : ⊥ = cc e in absurd never
        among true false e = let never : ⊥ = cc e in absurd never
        among false same e = let never : ⊥ = cc e in absurd never
settled_under what j key n (Some i) is e =
    let found = found_at j.kept (intent_of what) n i (slice_get j.kept i) refl e in
    let k = found.0 in
    let has = (position-Some (is_kept_under key) j.kept i k is).1 in
    let here : get_or j.kept i k ≡ k = get_or_from_slice_get j.kept i k k (ap (slice_get j.kept) found.3 ∙ found.1) in
    let under : has_key key k.asked.wish ≡ true = ap (is_kept_under key) (sym here) ∙ has in
    (k, found.1, (found.2, key_of k.asked.wish k.asked.wish.key key refl under))

-- the journal has what was asked as settled, under its key, if it says so
pub is_settled : (what : Asking) (j : JournalValue) (key : Option (List ℕ)) (n : ℕ) → place_of j (intent_of what) key ≡ place.Settled n → (k : SettledNumber) × (slice_get j.kept n ≡ Some k) × IsFor what key true k.asked
is_settled what j None n e = by j.pending e
  where
    by : (pending : Option Asked) → place_without pending (intent_of what) ≡ place.Settled n → (k : SettledNumber) × (slice_get j.kept n ≡ Some k) × IsFor what None true k.asked
    by None e = let never : ⊥ = cc e in absurd never
    by (Some a) e = among (is_none a.wish.key && bytes_eq a.wish.intent (intent_of what)) e
      where
        among : (b : Bool) → (if b then place.Pending else place.Behind) ≡ place.Settled n → (k : SettledNumber) × (slice_get j.kept n ≡ Some k) × IsFor what None true k.asked
        among true e = let never : ⊥ = cc e in absurd never
        among false e = let never : ⊥ = cc e in absurd never
is_settled what j (Some key) n e =
    settled_under what j key n (position (is_kept_under key) j.kept) refl e

-- What a reply settles.

kept_after : (kept : List SettledNumber) (pending : Option Asked) (a : Asked) (reply : SettledReply) → pending ≡ Some a → slice_get (kept_with kept pending reply) (length kept) ≡ Some (record { asked = a; reply = reply })
kept_after kept None a reply is = let none : ⊥ = cc is in absurd none
kept_after kept (Some b) a reply is =
    let same : b ≡ a = cc is in
    item_after kept (record { asked = b; reply = reply }) ∙ ap (λ x. Some (record { asked = x; reply = reply })) same

-- what is pending was asked, and a reply of the desk settles it
pub settles_at : (told : List ℕ → Heard → Type 0) (what : Asking) (key : Option (List ℕ)) (old j new : JournalValue) (is_wish : Bool) (n : ℕ) → n ≡ length j.kept
    → ((a : Asked) → j.pending ≡ Some a → IsFor what key is_wish a) → IsSettledSo told j new → IsSettledAt told what key old new (record { place = n; is_wish = is_wish })
settles_at told what key old j new is_wish n at for so =
    let reply = so.0 in
    let by = so.1 in
    subst (λ p. IsSettledAt told what key old new (record { place = p; is_wish = is_wish })) (sym at)
    (subst (λ k. IsSettledAt told what key old k (record { place = length j.kept; is_wish = is_wish })) (sym so.2) (record {
      kept = record { asked = by.asked; reply = reply };
      there = kept_after j.kept j.pending by.asked reply by.pending;
      asked = for by.asked by.pending;
      reply = inr (record { told = by.told; meaning = by.meaning });
    }))

-- what the journal had stays there
pub had_before : (told : List ℕ → Heard → Type 0) (what : Asking) (key : Option (List ℕ)) (j : JournalValue) (n : ℕ) → ((k : SettledNumber) × (slice_get j.kept n ≡ Some k) × IsFor what key true k.asked)
    → IsSettledAt told what key j j (record { place = n; is_wish = true })
had_before told what key j n has =
    record { kept = has.0; there = has.1; asked = has.2; reply = inl has.1 }

-- What is pending once it was asked.

pub asked_now : (what : Asking) (key : Option (List ℕ)) (j : JournalValue) (wish : Wish) → wish.intent ≡ intent_of what → wish.key ≡ key → (a : Asked) → (asks j wish).pending ≡ Some a → IsFor what key true a
asked_now what key j wish means has a is =
    let same : wish ≡ a.wish = ap (λ o. unwrap_or (option_map (λ (x : Asked). x.wish) o) wish) is in
    (ap (λ (w : Wish). w.intent) (sym same) ∙ means, ap (λ (w : Wish). w.key) (sym same) ∙ has)

instead_of : (what : Asking) (key : Option (List ℕ)) (body : List ℕ) (pending : Option Asked) → AsksFor what body → (a : Asked) → option_map (λ (x : Asked). record x { instead = Some body }) pending ≡ Some a → IsFor what key false a
instead_of what key body None asks a is = let none : ⊥ = cc is in absurd none
instead_of what key body (Some b) asks a is =
    let same : Some body ≡ a.instead = ap (λ o. unwrap_or (option_map (λ (x : Asked). x.instead) o) None) is in
    (body, sym same, asks)

pub asked_instead : (what : Asking) (key : Option (List ℕ)) (j : JournalValue) (body : List ℕ) → AsksFor what body → (a : Asked) → (asks_instead j body).pending ≡ Some a → IsFor what key false a
asked_instead what key j body asks a is = instead_of what key body j.pending asks a is

-- What is sent.

-- What was sent, and settled, with fewer replies is so with more.
module _ (T U : List ℕ → Heard → Type 0) (more : (m : List ℕ) (response : Heard) → T m response → U m response) (what : Asking) (key : Option (List ℕ)) (j : JournalValue) where
  settled_more : (new : JournalValue) → IsSettledSo T j new → IsSettledSo U j new
  settled_more new so = (
    so.0,
    record {
      asked = so.1.asked;
      pending = so.1.pending;
      told = more _ _ so.1.told;
      meaning = so.1.meaning;
      late = λ e. late_more T U more j so.1.asked (so.1.late e);
    },
    so.2,
  )

  anew_more : (now : JournalValue) (m : List ℕ) → IsSentAnew T what key now m → IsSentAnew U what key now m
  anew_more now m (inl query) = inl query
  anew_more now m (inr by) = inr (by.0, by.1, asked_more T U more (asks now by.0) m by.2)

  sent_more : (m : List ℕ) → IsSentFor T what key j m → IsSentFor U what key j m
  sent_more m (inl before) = inl (asked_more T U more j m before)
  sent_more m (inr (inl (none, anew))) = inr (inl (none, anew_more j m anew))
  sent_more m (inr (inr (inl after))) =
      inr (inr (inl (after.0, settled_more after.0 after.1, anew_more after.0 m after.2)))
  sent_more m (inr (inr (inr instead))) =
      inr (inr (inr (instead.0, instead.1, asked_more T U more (asks_instead j instead.0) m instead.2)))

-- What is new, while nothing is pending.

none_without : (pending : Option Asked) (intent : List ℕ) → place_without pending intent ≡ place.New → pending ≡ None
none_without None intent e = refl
none_without (Some a) intent e = by (is_none a.wish.key && bytes_eq a.wish.intent intent) e
  where
    by : (b : Bool) → (if b then place.Pending else place.Behind) ≡ place.New → Some a ≡ None
    by true e = let never : ⊥ = cc e in absurd never
    by false e = let never : ⊥ = cc e in absurd never

none_pending : (pending : Option Asked) (intent key : List ℕ) → place_pending pending intent key ≡ place.New → pending ≡ None
none_pending None intent key e = refl
none_pending (Some a) intent key e = by (has_key key a.wish) (bytes_eq a.wish.intent intent) e
  where
    by : (has same : Bool) → (if not has then place.Behind else (if same then place.Pending else place.KeyUsed)) ≡ place.New → Some a ≡ None
    by true true e = let never : ⊥ = cc e in absurd never
    by true false e = let never : ⊥ = cc e in absurd never
    by false same e = let never : ⊥ = cc e in absurd never

none_under : (j : JournalValue) (intent key : List ℕ) (at : Option ℕ) → place_under j intent key at ≡ place.New → j.pending ≡ None
none_under j intent key None e = none_pending j.pending intent key e
none_under j intent key (Some i) e = by (unwrap_or (option_map (λ (k : SettledNumber). bytes_eq k.asked.wish.intent intent) (slice_get j.kept i)) false) e
  where
    by : (b : Bool) → (if b then place.Settled i else place.KeyUsed) ≡ place.New → j.pending ≡ None
    by true e = let never : ⊥ = cc e in absurd never
    by false e = let never : ⊥ = cc e in absurd never

-- a wish that is new is asked while nothing is pending
pub nothing_pending : (j : JournalValue) (intent : List ℕ) (key : Option (List ℕ)) → place_of j intent key ≡ place.New → j.pending ≡ None
nothing_pending j intent None e = none_without j.pending intent e
nothing_pending j intent (Some key) e =
    none_under j intent key (position (is_kept_under key) j.kept) e

-- Call after call.

module _ {N : Type 0} (was_sent : N → List ℕ → Type 0) (was_told : N → List ℕ → Heard → Type 0) (was_unanswered : N → List ℕ → RetryReason → Type 0) where
  -- one message, once more
  pub once_more : (old mid new : N) (text sent : List ℕ) → sent ≡ text → GoesOn was_sent was_told was_unanswered old mid (λ m. m ≡ text) → GoesOn was_sent was_told was_unanswered mid new (λ m. m ≡ sent)
      → GoesOn was_sent was_told was_unanswered old new (λ m. m ≡ text)
  once_more old mid new text sent same first second =
      then_on was_sent was_told was_unanswered old mid new _ _ _ first second (λ m e. e) (λ m e. e ∙ same)

  -- and a pause
  pub paused : (old mid new : N) (P : List ℕ → Type 0) → GoesOn was_sent was_told was_unanswered old mid P → GoesOn was_sent was_told was_unanswered mid new (λ _. ⊥) → GoesOn was_sent was_told was_unanswered old new P
  paused old mid new P first second =
      then_on was_sent was_told was_unanswered old mid new _ _ _ first second (λ m p. p) (λ m no. absurd no)

  -- what was pending goes out
  pub of_before : (what : Asking) (key : Option (List ℕ)) (j : JournalValue) (old new : N) → GoesOn was_sent was_told was_unanswered old new (IsAskedBy (was_told new) j) → GoesOn was_sent was_told was_unanswered old new (IsSentFor (was_told new) what key j)
  of_before what key j old new goes =
      wider was_sent was_told was_unanswered old new _ _ goes (λ m by. inl by)

  -- queries go out, and then a wish
  pub of_wish : (what : Asking) (key : Option (List ℕ)) (j : JournalValue) (wish : Wish) (old mid new : N) → IsWishFor what key wish → GoesOn was_sent was_told was_unanswered old mid IsQuery
      → GoesOn was_sent was_told was_unanswered mid new (IsAskedBy (was_told new) (asks j wish)) → GoesOn was_sent was_told was_unanswered old new (IsSentAnew (was_told new) what key j)
  of_wish what key j wish old mid new is first second =
      then_on was_sent was_told was_unanswered old mid new _ _ _ first second (λ m query. inl query) (λ m by. inr (wish, is, by))

  -- what is asked goes out while nothing is pending
  pub of_new : (what : Asking) (key : Option (List ℕ)) (j : JournalValue) (old new : N) → j.pending ≡ None → GoesOn was_sent was_told was_unanswered old new (IsSentAnew (was_told new) what key j)
      → GoesOn was_sent was_told was_unanswered old new (IsSentFor (was_told new) what key j)
  of_new what key j old new none goes =
      wider was_sent was_told was_unanswered old new _ _ goes (λ m s. inr (inl (none, s)))

  -- what is asked goes out after another command is settled
  pub of_after : (what : Asking) (key : Option (List ℕ)) (j now : JournalValue) (old new : N) → IsSettledSo (was_told old) j now → GoesOn was_sent was_told was_unanswered old new (IsSentAnew (was_told new) what key now)
      → GoesOn was_sent was_told was_unanswered old new (IsSentFor (was_told new) what key j)
  of_after what key j now old new so goes =
      wider was_sent was_told was_unanswered old new _ _ goes (λ m s. inr (inr (inl (now, settled_more (was_told old) (was_told new) goes.told_still what key j now so, s))))

  -- what is asked goes out in the place of what is pending
  pub of_instead : (what : Asking) (key : Option (List ℕ)) (j : JournalValue) (body : List ℕ) (old new : N) → AsksFor what body → GoesOn was_sent was_told was_unanswered old new (IsAskedBy (was_told new) (asks_instead j body))
      → GoesOn was_sent was_told was_unanswered old new (IsSentFor (was_told new) what key j)
  of_instead what key j body old new asks goes =
      wider was_sent was_told was_unanswered old new _ _ goes (λ m by. inr (inr (inr (body, asks, by))))

  -- one after the other
  pub of_both : (what : Asking) (key : Option (List ℕ)) (j : JournalValue) (old mid new : N) → GoesOn was_sent was_told was_unanswered old mid (IsSentFor (was_told mid) what key j) → GoesOn was_sent was_told was_unanswered mid new (IsSentFor (was_told new) what key j)
      → GoesOn was_sent was_told was_unanswered old new (IsSentFor (was_told new) what key j)
  of_both what key j old mid new first second =
      then_on was_sent was_told was_unanswered old mid new _ _ _ first second (sent_more (was_told mid) (was_told new) second.told_still what key j) (λ m s. s)

-- what was asked in the place of the wish that is pending
pub pending_instead : (what : Asking) (key : Option (List ℕ)) (pending : Option Asked) → ((a : Asked) × (pending ≡ Some a) × IsFor what None false a) → (b : Asked) → pending ≡ Some b → IsFor what key false b
pending_instead what key pending asked b is =
    let same : asked.0 ≡ b = ap (λ o. unwrap_or o asked.0) (sym asked.1 ∙ is) in
    subst (λ x. IsFor what key false x) same asked.2

-- the place that a call answers
pub at_place : (told : List ℕ → Heard → Type 0) (what : Asking) (key : Option (List ℕ)) (j new : JournalValue) (is_wish : Bool) (at : SettledAt)
    → ((a : Asked) → j.pending ≡ Some a → IsFor what key is_wish a) → (at ≡ record { place = length j.kept; is_wish = is_wish }) × IsSettledSo told j new → IsSettledAt told what key j new at
at_place told what key j new is_wish at for so =
    subst (λ p. IsSettledAt told what key j new p) (sym so.0) (settles_at told what key j j new is_wish (length j.kept) refl for so.1)
