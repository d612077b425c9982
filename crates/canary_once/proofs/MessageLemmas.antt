-- Exchanges, one after another, and what they are as a whole.
use Rattle.std.proofs.Common.{◌≡◌, ℕ, zero, suc, ◌+◌, ◌-◌, ◌<◌, ◌≤◌, ◌⊎◌, inl, inr, Bool, List, [], ◌∷◌, ◌++◌, length, refl, sym, ap, ◌∙◌, subst, arith, add-zero}
use Rattle.std.specs.Prelude.{slice_index}
use Rattle.std.specs.List.{AllByRecursion}
use Rattle.std.proofs.lemmas.List.{length-append, length-map, map-append, get_or_append_left, get_or-append_right}
use Rattle.canary_release.specs.declared.reply.Reply.{Reply}
use Rattle.canary_once.specs.declared.event.Event.{Event}
use Rattle.canary_once.specs.declared.event.Answer.{Answer}
use Rattle.canary_once.specs.declared.event.Answer.TheVariants.{Replied, Unavailable}
use Rattle.canary_once.specs.Contents.{Contents}
use Rattle.canary_once.specs.Answers.{answered_events, replies_in, answer, answers_of, after}
use Rattle.canary_once.specs.Laws.{RunsOn}
use Rattle.canary_once.specs.Messages.{Disposition, rejected, no_memory, answered, IsSureDisposition, Exchange, moments_of, event_in, answer_in, events_of, answers_in, DeskState, AreFirst, AnsweredInOrder, IsHandled, AreHandled, HandledOne, HandledAll}

-- ---- lists

pub all-append : {X : Type 0} (P : X → Type 0) (xs ys : List X) → AllByRecursion P xs → AllByRecursion P ys → AllByRecursion P (xs ++ ys)
all-append P [] ys a b = b
all-append P (x ∷ xs) ys a b = (a.0, all-append P xs ys a.1 b)

-- ---- moments

-- says from some moment on, and then from that on
pub later_is : (says : ℕ → ℕ) (m n k : ℕ) → n + m ≡ k → ◌≡◌ {A = ℕ → ℕ} (λ i. says (i + n + m)) (λ i. says (i + k))
later_is says m n k e = λ i j. says ((let h : j + n + m ≡ j + k = omega arith in h) i)

pub first_is : (says : ℕ → ℕ) → ◌≡◌ {A = ℕ → ℕ} says (λ i. says (i + 0))
first_is says = λ i j. says (sym (add-zero j) i)

-- one place is in one of two lists
first_at : (says : ℕ → ℕ) (xs ys : List ℕ) → AreFirst says xs → AreFirst (λ k. says (k + length xs)) ys → (k : ℕ) → k < length (xs ++ ys) → (k < length xs) ⊎ (length xs ≤ k) → slice_index (xs ++ ys) k ≡ says k
first_at says xs ys a b k inside (inl h) = get_or_append_left xs ys 0 k h ∙ a k h
first_at says xs ys a b k inside (inr h) =
    let within : k - length xs < length ys = omega (arith, length-append xs ys) in
    let back : k - length xs + length xs ≡ k = omega arith in
    get_or-append_right xs ys (length xs) k 0 refl h ∙ b (k - length xs) within ∙ ap says back

below_or_not : (k n : ℕ) → (k < n) ⊎ (n ≤ k)
below_or_not k zero = inr (omega arith)
below_or_not zero (suc n) = inl (omega arith)
below_or_not (suc k) (suc n) = elim (below_or_not k n) [ inl h ↦ inl (omega arith) | inr h ↦ inr (omega arith) ]

pub first-append : (says : ℕ → ℕ) (xs ys : List ℕ) → AreFirst says xs → AreFirst (λ k. says (k + length xs)) ys → AreFirst says (xs ++ ys)
first-append says xs ys a b k inside = first_at says xs ys a b k inside (below_or_not k (length xs))

-- one moment that is says
first_one : (says : ℕ → ℕ) (m : ℕ) → m ≡ says 0 → (k : ℕ) → k < 1 → slice_index (m ∷ []) k ≡ says k
first_one says m e zero inside = e
first_one says m e (suc k) inside = absurd (omega arith)

shift_as : (says : ℕ → ℕ) (m n : ℕ) → m ≡ n → ◌≡◌ {A = ℕ → ℕ} (λ i. says (i + m)) (λ i. says (i + n))
shift_as says m n e = λ i j. says (j + e i)

moments_len : {M R : Type 0} (xs : List (Exchange M R)) → length (moments_of xs) ≡ length xs
moments_len {M} {R} xs = length-map xs (λ (x : Exchange M R). x.moment)

len_is : {X : Type 0} (xs ys : List X) → length ys + length xs ≡ length (xs ++ ys)
len_is xs ys = omega (arith, length-append xs ys)

-- ---- what is handled

handled-append : {M R : Type 0} (c d e : Contents) (xs ys : List (Exchange M R)) → AreHandled c xs d → AreHandled d ys e → AreHandled c (xs ++ ys) e
handled-append c d e [] ys p q = let P : Contents → Type 0 = λ t. AreHandled t ys e in subst P p q
handled-append c d e (x ∷ xs) ys p q = (p.0, p.1, handled-append p.0 d e xs ys p.2 q)

sure_as : {M R : Type 0} (s t : Bool) (xs : List (Exchange M R)) → s ≡ t → AllByRecursion (λ x. IsSureDisposition s x.disposition) xs → AllByRecursion (λ x. IsSureDisposition t x.disposition) xs
sure_as s t xs e h = let P : Bool → Type 0 = λ b. AllByRecursion (λ x. IsSureDisposition b x.disposition) xs in subst P e h

-- nothing was answered
pub went_none : {M R : Type 0} {Is : Exchange M R → Type 0} (p : DeskState) → HandledAll Is p p []
went_none p = record {
  each = tt;
  moments = λ says h. (λ k inside. absurd (omega arith), subst p.clock (first_is says) h);
  honest = λ h. h;
  in_memory = λ m. m;
  sure = (refl, tt);
  sound = λ h sound. sound;
  handled = λ h. refl;
  receipts = λ h caller number receipt e. e;
}

-- one message was answered
pub went_one : {M R : Type 0} {Is : Exchange M R → Type 0} (p q : DeskState) (x : Exchange M R) → HandledOne Is p q x → HandledAll Is p q (x ∷ [])
went_one p q x e = record {
  each = (e.is, tt);
  moments = λ says h. (let m = e.moment says h in (λ k inside. first_one says x.moment m.0 k inside, m.1));
  honest = e.books.honest;
  in_memory = e.books.in_memory;
  sure = (e.books.sure.0, (e.books.sure.1, tt));
  sound = e.books.sound;
  handled = λ h. (q.book.contents, e.books.handled h, refl);
  receipts = e.books.receipts;
}

pub went_then : {M R : Type 0} {Is : Exchange M R → Type 0} (p q r : DeskState) (xs ys : List (Exchange M R)) → HandledAll Is p q xs → HandledAll Is q r ys → HandledAll Is p r (xs ++ ys)
went_then {M} {R} {Is} p q r xs ys a b = record {
  each = all-append Is xs ys a.each b.each;
  moments = λ says h.
      let m = a.moments says h in
      let n = b.moments (λ k. says (k + length xs)) m.1 in
      let lx : length (moments_of xs) ≡ length xs = moments_len xs in (
        subst (AreFirst says) (sym (map-append (λ (x : Exchange M R). x.moment) xs ys))
            (first-append says (moments_of xs) (moments_of ys) m.0 (subst (λ (f : ℕ → ℕ). AreFirst f (moments_of ys)) (shift_as says (length xs) (length (moments_of xs)) (sym lx)) n.0)),
        subst r.clock (later_is says (length xs) (length ys) (length (xs ++ ys)) (len_is xs ys)) n.1,
      );
  honest = λ h. a.honest (b.honest h);
  in_memory = λ m. b.in_memory (a.in_memory m);
  sure = (b.sure.0 ∙ a.sure.0, all-append (λ x. IsSureDisposition p.book.is_sure x.disposition) xs ys a.sure.1 (sure_as q.book.is_sure p.book.is_sure ys a.sure.0 b.sure.1));
  sound = λ h sound. b.sound h (a.sound (b.honest h) sound);
  handled = λ h. handled-append p.book.contents q.book.contents r.book.contents xs ys (a.handled (b.honest h)) (b.handled h);
  receipts = λ h caller number receipt e. b.receipts h caller number receipt (a.receipts (b.honest h) caller number receipt e);
}

-- ---- the whole list

-- what one message is answered and leaves is that of its event, if it is one
one_is : {R : Type 0} (d mid : Contents) (o : Disposition R) → IsHandled d o mid → (replies_in (answer_in o) ≡ answers_of d (answered_events (event_in o) (answer_in o))) × (mid ≡ after d (answered_events (event_in o) (answer_in o)))
one_is d mid (rejected r) h = (refl, h)
one_is d mid no_memory h = (refl, h)
one_is d mid (answered e (Replied reply)) h = (ap (λ (x : Reply). x ∷ []) h.0, h.1)
one_is d mid (answered e (Unavailable fault)) h = (refl, h)

replies_first : {R : Type 0} (o : Disposition R) (gs : List Answer) → replies_in (answer_in o ++ gs) ≡ replies_in (answer_in o) ++ replies_in gs
replies_first (rejected r) gs = refl
replies_first no_memory gs = refl
replies_first (answered e (Replied reply)) gs = refl
replies_first (answered e (Unavailable fault)) gs = refl

heard_first : {R : Type 0} (o : Disposition R) (es : List Event) (gs : List Answer) → answered_events (event_in o ++ es) (answer_in o ++ gs) ≡ answered_events (event_in o) (answer_in o) ++ answered_events es gs
heard_first (rejected r) es gs = refl
heard_first no_memory es gs = refl
heard_first (answered e (Replied reply)) es gs = refl
heard_first (answered e (Unavailable fault)) es gs = refl

handled_are : {M R : Type 0} → RunsOn → (d new : Contents) (xs : List (Exchange M R)) → AreHandled d xs new
    → (replies_in (answers_in xs) ≡ answers_of d (answered_events (events_of xs) (answers_in xs))) × (new ≡ after d (answered_events (events_of xs) (answers_in xs)))
handled_are goes d new [] h = (refl, h)
handled_are goes d new (x ∷ xs) h =
    let o = x.disposition in
    let first = answered_events (event_in o) (answer_in o) in
    let rest = answered_events (events_of xs) (answers_in xs) in
    let one = one_is d h.0 o h.1 in
    let others = handled_are goes h.0 new xs h.2 in
    let both = goes d first rest in
    let whole = sym (heard_first o (events_of xs) (answers_in xs)) in (
      replies_first o (answers_in xs) ∙ (λ i. one.0 i ++ others.0 i) ∙ ap (λ (k : Contents). answers_of d first ++ answers_of k rest) one.1 ∙ sym both.0 ∙ ap (answers_of d) whole,
      others.1 ∙ ap (λ (k : Contents). after k rest) one.1 ∙ sym both.1 ∙ ap (after d) whole,
    )

-- what was answered step by step is what the small machine answers as a whole
pub holds_of : {M R : Type 0} {Is : Exchange M R → Type 0} → RunsOn → (p q : DeskState) (xs : List (Exchange M R)) → HandledAll Is p q xs → AnsweredInOrder Is p q xs
holds_of goes p q xs went = record {
  each = went.each;
  moments = went.moments;
  honest = went.honest;
  in_memory = went.in_memory;
  sure = went.sure;
  sound = went.sound;
  answers = λ h. (handled_are goes p.book.contents q.book.contents xs (went.handled h)).0;
  contents = λ h. (handled_are goes p.book.contents q.book.contents xs (went.handled h)).1;
  receipts = went.receipts;
}

-- ---- from the whole list to step by step

abbrev head_or : Reply → List Reply → Reply
head_or r [] = r
head_or r (s ∷ rs) = s

abbrev tail_of : List Reply → List Reply
tail_of [] = []
tail_of (s ∷ rs) = rs

one_back : {R : Type 0} → RunsOn → (c new : Contents) (o : Disposition R) (es : List Event) (gs : List Answer)
    → replies_in (answer_in o ++ gs) ≡ answers_of c (answered_events (event_in o ++ es) (answer_in o ++ gs))
    → new ≡ after c (answered_events (event_in o ++ es) (answer_in o ++ gs))
    → (mid : Contents) × IsHandled c o mid × (replies_in gs ≡ answers_of mid (answered_events es gs)) × (new ≡ after mid (answered_events es gs))
one_back goes c new (rejected r) es gs e f = (c, refl, e, f)
one_back goes c new no_memory es gs e f = (c, refl, e, f)
one_back goes c new (answered it (Unavailable fault)) es gs e f = (c, refl, e, f)
one_back goes c new (answered it (Replied reply)) es gs e f =
    let first = it ∷ [] in
    let both = goes c first (answered_events es gs) in
    let whole : (reply ∷ replies_in gs) ≡ (answer c [] it ∷ answers_of (after c first) (answered_events es gs)) = e ∙ both.0 in
    (after c first, (ap (head_or reply) whole, refl), ap tail_of whole, f ∙ both.1)

handled_of : {M R : Type 0} → RunsOn → (c new : Contents) (xs : List (Exchange M R)) → replies_in (answers_in xs) ≡ answers_of c (answered_events (events_of xs) (answers_in xs)) → new ≡ after c (answered_events (events_of xs) (answers_in xs))
    → AreHandled c xs new
handled_of goes c new [] e f = f
handled_of goes c new (x ∷ xs) e f =
    let back = one_back goes c new x.disposition (events_of xs) (answers_in xs) e f in
    (back.0, back.1, handled_of goes back.0 new xs back.2 back.3)

-- what the small machine answers as a whole was answered step by step
pub handled_in : {M R : Type 0} {Is : Exchange M R → Type 0} → RunsOn → (p q : DeskState) (xs : List (Exchange M R)) → AnsweredInOrder Is p q xs → q.book.is_honest → AreHandled p.book.contents xs q.book.contents
handled_in goes p q xs holds honest = handled_of goes p.book.contents q.book.contents xs (holds.answers honest) (holds.contents honest)
