-- What a crash leaves in each of the two steps of an added text, and in a repair.
use Rattle.std.proofs.Common.{◌≡◌, inl, inr, ℕ, zero, suc, ◌+◌, ◌-◌, ◌<◌, ◌≤◌, List, [], ◌∷◌, ◌++◌, length, take, drop, true, Some, refl, sym, ◌∙◌, ap, subst, arith, append_assoc, length-append, length-drop, length-take, take-append-drop}
use Rattle.std.specs.Prelude.{nat_le, unwrap_or}
use Rattle.std.specs.List.{AllByRecursion}
use Rattle.std.proofs.lemmas.List.{take_at, drop_at, take_all, drop_all, append-nil}
use Rattle.canary_client_records.specs.Devices.{Holds, Torn, Cut, Only}
use Rattle.canary_client_records.specs.Texts.{texts_of, begins, records, IsLine}
use Rattle.canary_client_records.specs.Stores.{held, IsAtRest, IsSettled, IsBeforeOrAfter, LeftBy}
use Rattle.canary_client_records.proofs.Rests.{settled_texts}
use Rattle.canary_client_records.proofs.TextLemmas.{reads_back, many_read, most_within, gate_parts, Parts, length-records-push}

lines_more : (texts : List (List ℕ)) (text : List ℕ) → AllByRecursion IsLine texts → IsLine text → AllByRecursion IsLine (texts ++ text ∷ [])
lines_more [] text h line = (line, tt)
lines_more (t ∷ texts) text h line = (h.0, lines_more texts text h.1 line)

records-push : (texts : List (List ℕ)) (text rest : List ℕ) → records (texts ++ text ∷ []) ++ rest ≡ records texts ++ 43 ∷ (text ++ 10 ∷ rest)
records-push [] text rest = ap (λ (l : List ℕ). 43 ∷ l) (append_assoc text (10 ∷ []) rest)
records-push (t ∷ texts) text rest =
    ap (λ (l : List ℕ). 43 ∷ l) (
    append_assoc t (10 ∷ records (texts ++ text ∷ [])) rest
    ∙ ap (λ (l : List ℕ). t ++ 10 ∷ l) (records-push texts text rest)
    ∙ sym (append_assoc t (10 ∷ records texts) (43 ∷ (text ++ 10 ∷ rest)))
    )

-- the texts that a file is read to
held_as : (file : List ℕ) (texts : List (List ℕ)) → texts_of file ≡ Some texts → held file ≡ texts
held_as file texts e = ap (λ o. unwrap_or o []) e

-- a text added at the end leaves no file without a text
some_texts : (texts : List (List ℕ)) (text : List ℕ) (n : ℕ) → texts ++ text ∷ [] ≡ [] → n ≤ 109
some_texts [] text n e = absurd (omega (arith, ap length e))
some_texts (t ∷ texts) text n e = absurd (omega (arith, ap length e))

module _ (texts : List (List ℕ)) (lines : AllByRecursion IsLine texts) (n : ℕ) (place : n ≡ length (records texts)) (text : List ℕ) (fits : texts ≡ [] → length text ≤ 107) where
  abbrev rest : List ℕ
  rest = records texts ++ 45 ∷ []

  -- what is written after the closed gate
  abbrev pub behind : List ℕ
  behind = text ++ 10 ∷ 45 ∷ []

  abbrev pub staged : List ℕ
  staged = records texts ++ 45 ∷ behind

  length-rest : length rest ≡ n + 1
  length-rest = omega (arith, place, length-append (records texts) (45 ∷ []))

  length-behind : length behind ≡ length text + 2
  length-behind = omega (arith, length-append text (10 ∷ 45 ∷ []))

  length-staged : length staged ≡ n + 1 + length behind
  length-staged = omega (arith, place, length-append (records texts) (45 ∷ behind))

  -- the closed gate stands in each outcome of the first write, and no more after it than is written
  pub torn_behind : (c : List ℕ) → Torn (n + 1) behind rest c → texts_of c ≡ Some texts
  torn_behind c torn =
      let front : take (n + 1) c ≡ rest = torn.before ∙ take_all (n + 1) rest (omega (arith, length-rest)) in
      let whole : c ≡ records texts ++ 45 ∷ drop (n + 1) c =
      sym (take-append-drop (n + 1) c) ∙ ap (λ (l : List ℕ). l ++ drop (n + 1) c) front ∙ append_assoc (records texts) (45 ∷ []) (drop (n + 1) c) in
      let size : length c ≤ n + 1 + length behind = omega (arith, torn.no_longer, length-rest) in
      let tail = length-drop (n + 1) c in
      ap texts_of whole ∙ reads_back texts (drop (n + 1) c) lines (λ none. let f = fits none in omega (arith, f, size, tail, length-behind))

  pub staged_texts : texts_of staged ≡ Some texts
  staged_texts = reads_back texts behind lines (λ none. let f = fits none in omega (arith, f, length-behind))

  pub written_behind : (c : List ℕ) → Holds rest (n + 1) behind c → c ≡ staged
  written_behind c holds =
      holds
      ∙ ap (λ (l : List ℕ). l ++ behind ++ drop (n + 1 + length behind) rest) (take_all (n + 1) rest (omega (arith, length-rest)))
      ∙ ap (λ (l : List ℕ). rest ++ behind ++ l) (drop_all (n + 1 + length behind) rest (omega (arith, length-rest)))
      ∙ append-nil (rest ++ behind)
      ∙ append_assoc (records texts) (45 ∷ []) behind

  staged_split : staged ≡ rest ++ behind
  staged_split = sym (append_assoc (records texts) (45 ∷ []) behind)

  front : take n staged ≡ records texts
  front = take_at (records texts) (45 ∷ behind) n (sym place)

  back : drop (n + 1) staged ≡ behind
  back = ap (λ (l : List ℕ). drop (n + 1) l) staged_split ∙ drop_at rest behind (n + 1) length-rest

  pub written_gate : (c : List ℕ) → Holds staged n (43 ∷ []) c → c ≡ records (texts ++ text ∷ []) ++ 45 ∷ []
  written_gate c holds =
      holds
      ∙ ap (λ (l : List ℕ). l ++ (43 ∷ []) ++ drop (n + 1) staged) front
      ∙ ap (λ (l : List ℕ). records texts ++ (43 ∷ []) ++ l) back
      ∙ append_assoc (records texts) (43 ∷ []) behind
      ∙ sym (records-push texts text (45 ∷ []))

  whole_after : (line : IsLine text) (c : List ℕ) → c ≡ records (texts ++ text ∷ []) ++ 45 ∷ [] → texts_of c ≡ Some (texts ++ text ∷ [])
  whole_after line c is = ap texts_of is ∙ reads_back (texts ++ text ∷ []) [] (lines_more texts text lines line) (some_texts texts text 0)

  -- the second write leaves the closed gate, or the open one, and the text stands whole after it
  pub torn_gate : (line : IsLine text) (c : List ℕ) → Torn n (43 ∷ []) staged c → IsBeforeOrAfter texts text c
  torn_gate line c torn = elim (torn.one refl (omega (arith, length-staged))) [
    | inl same ↦ inl (ap texts_of same ∙ staged_texts)
    | inr opened ↦ inr (whole_after line c (written_gate c opened))
  ]

  pub held_after : (line : IsLine text) (c : List ℕ) → c ≡ records (texts ++ text ∷ []) ++ 45 ∷ [] → held c ≡ texts ++ text ∷ []
  held_after line c is = held_as c (texts ++ text ∷ []) (whole_after line c is)

  pub rest_after : (line : IsLine text) (c : List ℕ) → c ≡ records (texts ++ text ∷ []) ++ 45 ∷ [] → IsAtRest c
  rest_after line c is = record {
    is = is ∙ ap (λ (ts : List (List ℕ)). records ts ++ 45 ∷ []) (sym (held_after line c is));
    lines = subst (AllByRecursion IsLine) (sym (held_after line c is)) (lines_more texts text lines line);
  }

  pub place_after : (line : IsLine text) (c : List ℕ) → c ≡ records (texts ++ text ∷ []) ++ 45 ∷ [] → n + (length text + 2) ≡ length (records (held c))
  place_after line c is = omega (arith, place, length-records-push texts text, ap (λ (ts : List (List ℕ)). length (records ts)) (held_after line c is))

-- A repair.

-- a file of one byte at most has no text
pub few_bytes : (file : List ℕ) → length file ≤ 1 → texts_of file ≡ Some []
few_bytes [] few = refl
few_bytes (a ∷ []) few = refl
few_bytes (a ∷ b ∷ file) few = absurd (omega (arith, few))

pub few_torn : (file c : List ℕ) → length file ≤ 1 → Torn 0 (45 ∷ []) file c → texts_of c ≡ texts_of file
few_torn file c few torn = few_bytes c (omega (arith, torn.no_longer, few)) ∙ sym (few_bytes file few)

pub few_written : (file c : List ℕ) → length file ≤ 1 → Holds file 0 (45 ∷ []) c → c ≡ 45 ∷ []
few_written file c few holds = holds ∙ ap (λ (l : List ℕ). 45 ∷ l) (drop_all 1 file few)

pub few_rest : (c : List ℕ) → c ≡ 45 ∷ [] → IsAtRest c × (0 ≡ length (records (held c))) × (held c ≡ [])
few_rest c is =
    let none : held c ≡ [] = ap held is in (
      record {
        is = is ∙ ap (λ (ts : List (List ℕ)). records ts ++ 45 ∷ []) (sym none);
        lines = subst (AllByRecursion IsLine) (sym none) tt;
      },
      ap (λ (ts : List (List ℕ)). length (records ts)) (sym none),
      none,
    )

take_past : (xs ys : List ℕ) (m k : ℕ) → m ≡ length xs + k → take m (xs ++ ys) ≡ xs ++ take k ys
take_past [] ys m k is = let same : m ≡ k = omega arith in ap (λ (j : ℕ). take j ys) same
take_past (x ∷ xs) ys zero k is = absurd (omega arith)
take_past (x ∷ xs) ys (suc m) k is = ap (λ (l : List ℕ). x ∷ l) (take_past xs ys m k (omega arith))

module _ (file : List ℕ) (texts : List (List ℕ)) (n : ℕ) (many : 1 < length file) (is_read : texts_of file ≡ Some texts) (place : n ≡ length (records texts)) where
  pub parts : Parts file texts
  parts = gate_parts file texts (many_read file texts many is_read).1

  -- without a text it is short
  short : (k : ℕ) → k ≤ length parts.after → texts ≡ [] → k ≤ 109
  short k le none =
      let whole : file ≡ 45 ∷ parts.after = parts.is ∙ ap (λ (ts : List (List ℕ)). records ts ++ 45 ∷ parts.after) none in
      let few : nat_le (length (45 ∷ parts.after)) 110 ≡ true = ap begins (sym whole) ∙ (many_read file texts many is_read).0 in
      let most = most_within (length (45 ∷ parts.after)) few in
      omega (arith, le, most)

  pub kept_within : n + 1 ≤ length file
  kept_within = omega (arith, place, ap length parts.is, length-append (records texts) (45 ∷ parts.after))

  length-cut : length (records texts ++ 45 ∷ []) ≡ n + 1
  length-cut = omega (arith, place, length-append (records texts) (45 ∷ []))

  pub cut_done : take (n + 1) file ≡ records texts ++ 45 ∷ []
  cut_done =
      ap (λ (l : List ℕ). take (n + 1) l) (parts.is ∙ sym (append_assoc (records texts) (45 ∷ []) parts.after))
      ∙ take_at (records texts ++ 45 ∷ []) parts.after (n + 1) length-cut

  -- any cut keeps the texts
  pub cut_keeps : (c : List ℕ) → Cut (n + 1) file c → texts_of c ≡ Some texts
  cut_keeps c cut =
      let k = length c - (n + 1) in
      let long : length c ≡ n + 1 + k = omega (arith, cut.no_shorter) in
      let whole : c ≡ take (length c) ((records texts ++ 45 ∷ []) ++ parts.after) =
      sym cut.front ∙ ap (λ (l : List ℕ). take (length c) l) (parts.is ∙ sym (append_assoc (records texts) (45 ∷ []) parts.after)) in
      let split : c ≡ (records texts ++ 45 ∷ []) ++ take k parts.after =
      whole ∙ take_past (records texts ++ 45 ∷ []) parts.after (length c) k (omega (arith, long, length-cut)) in
      let size = length-take k parts.after in
      ap texts_of (split ∙ append_assoc (records texts) (45 ∷ []) (take k parts.after))
      ∙ reads_back texts (take k parts.after) parts.lines (short (length (take k parts.after)) (omega (arith, size)))

  held_cut : (c : List ℕ) → c ≡ records texts ++ 45 ∷ [] → held c ≡ texts
  held_cut c is = held_as c texts (ap texts_of is ∙ reads_back texts [] parts.lines (λ none. omega arith))

  pub cut_rest : (c : List ℕ) → c ≡ records texts ++ 45 ∷ [] → IsAtRest c × (n ≡ length (records (held c))) × (held c ≡ texts)
  cut_rest c is = (
    record {
      is = is ∙ ap (λ (ts : List (List ℕ)). records ts ++ 45 ∷ []) (sym (held_cut c is));
      lines = subst (AllByRecursion IsLine) (sym (held_cut c is)) parts.lines;
    },
    place ∙ ap (λ (ts : List (List ℕ)). length (records ts)) (sym (held_cut c is)),
    held_cut c is,
  )

-- A text that is added to a settled file.

-- a first text is short
abbrev pub Fits : List ℕ → List ℕ → Type 0
Fits file text = held file ≡ [] → length text ≤ 107

module _ (file : List ℕ) (n : ℕ) (text : List ℕ) (fits : Fits file text) (settled : IsAtRest file) (place : n ≡ length (records (held file))) where
  -- the first write leaves the texts as they were
  pub staged_crash' : (may_leave : List ℕ → Type 0) (bytes : List ℕ) → bytes ≡ text ++ 10 ∷ 45 ∷ [] → Only file may_leave → (c : List ℕ) → LeftBy (Torn (n + 1) bytes) may_leave c → IsBeforeOrAfter (held file) text c
  staged_crash' may_leave bytes are only c (inl left) = inl (ap texts_of (only c left) ∙ settled_texts file settled)
  staged_crash' may_leave bytes are only c (inr (d, left, torn)) =
      inl (torn_behind (held file) settled.lines n place text fits c
      (subst (λ b. Torn (n + 1) b (records (held file) ++ 45 ∷ []) c) are (subst (λ f. Torn (n + 1) bytes f c) (only d left ∙ settled.is) torn)))

  pub staged_is' : (bytes new : List ℕ) → bytes ≡ text ++ 10 ∷ 45 ∷ [] → Holds file (n + 1) bytes new → new ≡ records (held file) ++ 45 ∷ (text ++ 10 ∷ 45 ∷ [])
  staged_is' bytes new are holds =
      written_behind (held file) settled.lines n place text fits new
      (subst (λ b. Holds (records (held file) ++ 45 ∷ []) (n + 1) b new) are (subst (λ f. Holds f (n + 1) bytes new) settled.is holds))

  module _ (line : IsLine text) (mid : List ℕ) (staged_as : mid ≡ records (held file) ++ 45 ∷ (text ++ 10 ∷ 45 ∷ [])) where
    pub gate_crash' : (may_leave : List ℕ → Type 0) → Only mid may_leave → (c : List ℕ) → LeftBy (Torn n (43 ∷ [])) may_leave c → IsBeforeOrAfter (held file) text c
    gate_crash' may_leave only c (inl left) =
        inl (ap texts_of (only c left ∙ staged_as) ∙ staged_texts (held file) settled.lines n place text fits)
    gate_crash' may_leave only c (inr (d, left, torn)) =
        torn_gate (held file) settled.lines n place text fits line c (subst (λ f. Torn n (43 ∷ []) f c) (only d left ∙ staged_as) torn)

    pub opened_as : (new : List ℕ) → Holds mid n (43 ∷ []) new → new ≡ records (held file ++ text ∷ []) ++ 45 ∷ []
    opened_as new holds = written_gate (held file) settled.lines n place text fits new (subst (λ f. Holds f n (43 ∷ []) new) staged_as holds)

pub staged_crash : (file : List ℕ) (may_leave : List ℕ → Type 0) (n : ℕ) (text bytes : List ℕ) → Fits file text → bytes ≡ text ++ 10 ∷ 45 ∷ [] → IsAtRest file → n ≡ length (records (held file)) → Only file may_leave
    → (c : List ℕ) → LeftBy (Torn (n + 1) bytes) may_leave c → IsBeforeOrAfter (held file) text c
staged_crash file may_leave n text bytes fits are settled place only c left = staged_crash' file n text fits settled place may_leave bytes are only c left

pub staged_is : (file : List ℕ) (n : ℕ) (text bytes : List ℕ) → Fits file text → bytes ≡ text ++ 10 ∷ 45 ∷ [] → (settled : IsAtRest file) → n ≡ length (records (held file)) → (new : List ℕ) → Holds file (n + 1) bytes new
    → new ≡ records (held file) ++ 45 ∷ (text ++ 10 ∷ 45 ∷ [])
staged_is file n text bytes fits are settled place new holds = staged_is' file n text fits settled place bytes new are holds

pub gate_crash : (file mid : List ℕ) (may_leave : List ℕ → Type 0) (n : ℕ) (text : List ℕ) → Fits file text → (settled : IsAtRest file) → n ≡ length (records (held file)) → IsLine text
    → mid ≡ records (held file) ++ 45 ∷ (text ++ 10 ∷ 45 ∷ []) → Only mid may_leave → (c : List ℕ) → LeftBy (Torn n (43 ∷ [])) may_leave c → IsBeforeOrAfter (held file) text c
gate_crash file mid may_leave n text fits settled place line staged_as only c left = gate_crash' file n text fits settled place line mid staged_as may_leave only c left

pub settled_after : {D : Type 0} (seen : D → List ℕ) (may_leave : D → List ℕ → Type 0) (device : D) (file mid : List ℕ) (n : ℕ) (text : List ℕ) → Fits file text → (settled : IsAtRest file) → n ≡ length (records (held file)) → IsLine text
    → mid ≡ records (held file) ++ 45 ∷ (text ++ 10 ∷ 45 ∷ []) → Holds mid n (43 ∷ []) (seen device) → Only (seen device) (may_leave device)
    → IsSettled seen may_leave device (n + (length text + 2)) × (held (seen device) ≡ held file ++ text ∷ [])
settled_after seen may_leave device file mid n text fits settled place line staged_as holds only =
    let is = opened_as file n text fits settled place line mid staged_as (seen device) holds in (
      record {
        rest = rest_after (held file) settled.lines n place text fits line (seen device) is;
        place = place_after (held file) settled.lines n place text fits line (seen device) is;
        durable = only;
      },
      held_after (held file) settled.lines n place text fits line (seen device) is,
    )

-- A file whose end is repaired.

pub repaired_few : (file : List ℕ) (may_leave : List ℕ → Type 0) → length file ≤ 1 → Only file may_leave → (c : List ℕ) → LeftBy (Torn 0 (45 ∷ [])) may_leave c → texts_of c ≡ texts_of file
repaired_few file may_leave few only c (inl left) = ap texts_of (only c left)
repaired_few file may_leave few only c (inr (d, left, torn)) = few_torn file c few (subst (λ f. Torn 0 (45 ∷ []) f c) (only d left) torn)

pub repaired_many : (file : List ℕ) (may_leave : List ℕ → Type 0) (texts : List (List ℕ)) (n : ℕ) → 1 < length file → texts_of file ≡ Some texts → n ≡ length (records texts) → Only file may_leave
    → (c : List ℕ) → LeftBy (Cut (n + 1)) may_leave c → texts_of c ≡ texts_of file
repaired_many file may_leave texts n many is_read place only c (inl left) = ap texts_of (only c left)
repaired_many file may_leave texts n many is_read place only c (inr (d, left, cut)) =
    cut_keeps file texts n many is_read place c (subst (λ f. Cut (n + 1) f c) (only d left) cut) ∙ sym is_read

pub settled_few : {D : Type 0} (seen : D → List ℕ) (may_leave : D → List ℕ → Type 0) (device : D) (file : List ℕ) (texts : List (List ℕ)) (n : ℕ) → length file ≤ 1 → texts_of file ≡ Some texts → n ≡ length (records texts)
    → Holds file 0 (45 ∷ []) (seen device) → Only (seen device) (may_leave device) → IsSettled seen may_leave device n × (held (seen device) ≡ texts)
settled_few seen may_leave device file texts n few is_read place holds only =
    let rests = few_rest (seen device) (few_written file (seen device) few holds) in
    let some = sym (few_bytes file few) ∙ is_read in
    let none : [] ≡ texts = cc some in (
      record {
        rest = rests.0;
        place = place ∙ ap (λ (ts : List (List ℕ)). length (records ts)) (sym none) ∙ rests.1;
        durable = only;
      },
      rests.2 ∙ none,
    )

pub settled_many : {D : Type 0} (seen : D → List ℕ) (may_leave : D → List ℕ → Type 0) (device : D) (file : List ℕ) (texts : List (List ℕ)) (n : ℕ) → 1 < length file → texts_of file ≡ Some texts → n ≡ length (records texts)
    → seen device ≡ take (n + 1) file → Only (seen device) (may_leave device) → IsSettled seen may_leave device n × (held (seen device) ≡ texts)
settled_many seen may_leave device file texts n many is_read place cut only =
    let rests = cut_rest file texts n many is_read place (seen device) (cut ∙ cut_done file texts n many is_read place) in (
      record { rest = rests.0; place = rests.1; durable = only },
      rests.2,
    )
