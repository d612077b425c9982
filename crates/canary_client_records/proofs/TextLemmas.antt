-- The texts of a file: how they are read line by line; that texts with open gates are read back, and
-- refused if they are cut short; and what a file that is read has.
use Rattle.std.proofs.Common.{◌≡◌, ◌≢◌, ℕ, zero, suc, ◌+◌, ◌<◌, ◌≤◌, List, [], ◌∷◌, ◌++◌, length, take, drop, Bool, true, false, Option, Some, None, refl, sym, ap, ◌∙◌, subst, arith, append-nil, append_assoc, length-append, length-drop}
use Rattle.std.specs.Prelude.{◌==◌, ◌||◌, nat_le, cond, not, if◌then◌else◌, option_map, unwrap_or}
use Rattle.std.specs.List.{AllByRecursion, position_or_len}
use Rattle.std.specs.Str.{is_utf8}
use Rattle.std.proofs.lemmas.Bool.Decides.{nat_tests}
use Rattle.canary_client_records.specs.Texts.{if_utf8, if_closed, from_gate, from_text, begins, texts_of, is_lf, up_to_lf, line_before, first_line, first_record, is_closed, records, IsLine}
use Rattle.canary_client_records.specs.Laws.{ReadsBack, RefusesCut, RefusesGate}

-- Line by line.

-- what a line leads to: nothing without its end
abbrev ends : List ℕ → List ℕ → Option (List (List ℕ))
ends line [] = None
ends line (end ∷ after) = if_utf8 line (from_gate after)

-- how many bytes stand before the first LF
abbrev many_before : Bool → List ℕ → ℕ
many_before lf bytes = cond (not lf) (1 + position_or_len is_lf bytes) 0

text_ends_by : (text : List ℕ) (b : ℕ) (bytes : List ℕ) → from_text (text ++ b ∷ []) bytes ≡ ends ((text ++ b ∷ []) ++ up_to_lf bytes) (drop (length (up_to_lf bytes)) bytes) → (lf : Bool)
    → (if lf then if_utf8 text (from_gate bytes) else from_text (text ++ b ∷ []) bytes)
    ≡ ends (text ++ take (many_before lf bytes) (b ∷ bytes)) (drop (length (take (many_before lf bytes) (b ∷ bytes))) (b ∷ bytes))
text_ends_by text b bytes more true = ap (λ line. if_utf8 line (from_gate bytes)) (sym (append-nil text))
text_ends_by text b bytes more false =
    let next : suc (position_or_len is_lf bytes) ≡ 1 + position_or_len is_lf bytes = omega arith in
    more
    ∙ ap (λ line. ends line (drop (length (up_to_lf bytes)) bytes)) (append_assoc text (b ∷ []) (up_to_lf bytes))
    ∙ ap (λ n. ends (text ++ take n (b ∷ bytes)) (drop (length (take n (b ∷ bytes))) (b ∷ bytes))) next

text_ends : (text bytes : List ℕ) → from_text text bytes ≡ ends (text ++ up_to_lf bytes) (drop (length (up_to_lf bytes)) bytes)
text_ends text [] = refl
text_ends text (b ∷ bytes) = text_ends_by text b bytes (text_ends (text ++ b ∷ []) bytes) (b == 10)

-- the texts after a line that was read
abbrev pub line_then : Option (List ℕ × List ℕ) → Option (List (List ℕ))
line_then None = None
line_then (Some line) = option_map (λ texts. line.0 ∷ texts) (from_gate line.1)

ends_as : (line rest : List ℕ) → ends line rest ≡ line_then (line_before line rest)
ends_as line [] = refl
ends_as line (end ∷ after) = by (is_utf8 line)
  where
    by : (utf8 : Bool) → (if utf8 then option_map (λ texts. line ∷ texts) (from_gate after) else None)
        ≡ line_then (option_map (λ text. (text, after)) (if utf8 then Some line else None))
    by true = refl
    by false = refl

pub text_is : (bytes : List ℕ) → from_text [] bytes ≡ line_then (first_line bytes)
text_is bytes = text_ends [] bytes ∙ ends_as (up_to_lf bytes) (drop (length (up_to_lf bytes)) bytes)

-- a line and what stands after its LF are all the bytes
before_by : (utf8 : Bool) (line rest text after : List ℕ) → option_map {U = List ℕ × List ℕ} (λ t. (t, rest)) (if utf8 then Some line else None) ≡ Some (text, after) → length text + 1 + length after ≡ length line + suc (length rest)
before_by true line rest text after e =
    let texts : line ≡ text = ap (λ (o : Option (List ℕ × List ℕ)). (unwrap_or o (line, rest)).0) e in
    let afters : rest ≡ after = ap (λ (o : Option (List ℕ × List ℕ)). (unwrap_or o (line, rest)).1) e in
    omega (arith, ap length texts, ap length afters)
before_by false line rest text after e = let none : ⊥ = cc e in absurd none

before_length : (line rest text after : List ℕ) → line_before line rest ≡ Some (text, after) → length text + 1 + length after ≡ length line + length rest
before_length line [] text after e = let none : ⊥ = cc e in absurd none
before_length line (end ∷ rest) text after e = before_by (is_utf8 line) line rest text after e

front_by : (b : ℕ) (bytes : List ℕ) → length (up_to_lf bytes) ≤ length bytes → (lf : Bool) → length (take (many_before lf bytes) (b ∷ bytes)) ≤ length (b ∷ bytes)
front_by b bytes h true = omega arith
front_by b bytes h false =
    let next : suc (position_or_len is_lf bytes) ≡ 1 + position_or_len is_lf bytes = omega arith in
    subst (λ n. length (take n (b ∷ bytes)) ≤ length (b ∷ bytes)) next (omega (arith, h))

length_front : (bytes : List ℕ) → length (up_to_lf bytes) ≤ length bytes
length_front [] = omega arith
length_front (b ∷ bytes) = front_by b bytes (length_front bytes) (b == 10)

pub first_length : (bytes text after : List ℕ) → first_line bytes ≡ Some (text, after) → length text + 1 + length after ≡ length bytes
first_length bytes text after e =
    let all = before_length (up_to_lf bytes) (drop (length (up_to_lf bytes)) bytes) text after e in
    let parts = length-drop (length (up_to_lf bytes)) bytes in
    let front = length_front bytes in
    omega (arith, all, parts, front)

-- Texts with open gates.

abbrev pub with_front : List (List ℕ) → Option (List (List ℕ)) → Option (List (List ℕ))
with_front front more = option_map (λ texts. front ++ texts) more

pub front_start : (more : Option (List (List ℕ))) → with_front [] more ≡ more
front_start None = refl
front_start (Some texts) = refl

not_lf : (b : ℕ) → b ≢ 10 → (b == 10) ≡ false
not_lf b other = grind (arith, nat_tests)

not_open : (gate : ℕ) → gate ≢ 43 → (gate == 43) ≡ false
not_open gate other = grind (arith, nat_tests)

not_closed : (gate : ℕ) → gate ≢ 45 → (gate == 45) ≡ false
not_closed gate other = grind (arith, nat_tests)

pub within_most : (n : ℕ) → n ≤ 110 → nat_le n 110 ≡ true
within_most n le = grind (arith, nat_tests)

pub most_within : (n : ℕ) → nat_le n 110 ≡ true → n ≤ 110
most_within n e = grind (arith, nat_tests)

within : (done text rest : List ℕ) → AllByRecursion (λ byte. byte ≢ 10) text → from_text done (text ++ 10 ∷ rest) ≡ if_utf8 (done ++ text) (from_gate rest)
within done [] rest h = ap (λ line. if_utf8 line (from_gate rest)) (sym (append-nil done))
within done (b ∷ text) rest h =
    ap (λ t. if t then if_utf8 done (from_gate (text ++ 10 ∷ rest)) else from_text (done ++ b ∷ []) (text ++ 10 ∷ rest)) (not_lf b h.0)
    ∙ within (done ++ b ∷ []) text rest h.1
    ∙ ap (λ line. if_utf8 line (from_gate rest)) (append_assoc done (b ∷ []) text)

utf8_then : (text : List ℕ) (more : Option (List (List ℕ))) → is_utf8 text ≡ true → if_utf8 text more ≡ option_map (λ texts. text ∷ texts) more
utf8_then text more e = ap (λ t. if t then option_map (λ texts. text ∷ texts) more else None) e

record_read : (text rest : List ℕ) → IsLine text → from_gate (43 ∷ (text ++ 10 ∷ rest)) ≡ option_map (λ texts. text ∷ texts) (from_gate rest)
record_read text rest h = within [] text rest h.one ∙ utf8_then text (from_gate rest) h.utf8

-- a gate that is not open ends the texts
gates_read : (texts : List (List ℕ)) (gate : ℕ) (after : List ℕ) → AllByRecursion IsLine texts → gate ≢ 43 → from_gate (records texts ++ gate ∷ after) ≡ with_front texts (if_closed gate)
gates_read [] gate after h shut = ap (λ t. if t then from_text [] after else if_closed gate) (not_open gate shut) ∙ sym (front_start (if_closed gate))
gates_read (text ∷ texts) gate after h shut =
    ap (λ rest. from_gate (43 ∷ rest)) (append_assoc text (10 ∷ records texts) (gate ∷ after))
    ∙ record_read text (records texts ++ gate ∷ after) h.0
    ∙ ap (option_map (λ more. text ∷ more)) (gates_read texts gate after h.1 shut)
    ∙ both (if_closed gate)
  where
    both : (more : Option (List (List ℕ))) → option_map (λ ts. text ∷ ts) (option_map (λ ts. texts ++ ts) more) ≡ option_map (λ ts. (text ∷ texts) ++ ts) more
    both None = refl
    both (Some ts) = refl

closed_read : (texts : List (List ℕ)) (after : List ℕ) → AllByRecursion IsLine texts → from_gate (records texts ++ 45 ∷ after) ≡ Some texts
closed_read texts after h = gates_read texts 45 after h (omega arith) ∙ ap Some (append-nil texts)

-- a file of more than one byte is read from its first gate, if it begins so
many_bytes' : (bytes : List ℕ) → 1 < length bytes → texts_of bytes ≡ (if begins bytes then from_gate bytes else None)
many_bytes' [] many = absurd (omega (arith, many))
many_bytes' (a ∷ []) many = absurd (omega (arith, many))
many_bytes' (a ∷ b ∷ bytes) many = refl

pub many_bytes : (bytes : List ℕ) → 1 < length bytes → begins bytes ≡ true → texts_of bytes ≡ from_gate bytes
many_bytes bytes many so = many_bytes' bytes many ∙ ap (λ t. if t then from_gate bytes else None) so

if_none : (t : Bool) (more : Option (List (List ℕ))) → more ≡ None → (if t then more else None) ≡ None
if_none true more none = none
if_none false more none = refl

begun_by : (bytes : List ℕ) (texts : List (List ℕ)) (t : Bool) → (if t then from_gate bytes else None) ≡ Some texts → (t ≡ true) × (from_gate bytes ≡ Some texts)
begun_by bytes texts true e = (refl, e)
begun_by bytes texts false e = let none : ⊥ = cc e in absurd none

-- so it begins if it has texts, and these are read from there
pub many_read : (bytes : List ℕ) (texts : List (List ℕ)) → 1 < length bytes → texts_of bytes ≡ Some texts → (begins bytes ≡ true) × (from_gate bytes ≡ Some texts)
many_read bytes texts many e = begun_by bytes texts (begins bytes) (sym (many_bytes' bytes many) ∙ e)

pub reads_back : ReadsBack
reads_back [] [] h short = refl
reads_back [] (b ∷ after) h short =
    let few : nat_le (length (45 ∷ b ∷ after)) 110 ≡ true = within_most (length (45 ∷ b ∷ after)) (let s = short refl in omega (arith, s)) in
    many_bytes (45 ∷ b ∷ after) (omega arith) few ∙ closed_read [] (b ∷ after) h
reads_back (text ∷ texts) after h short =
    let long = length-append (records (text ∷ texts)) (45 ∷ after) in
    let parts = length-append text (10 ∷ records texts) in
    many_bytes (records (text ∷ texts) ++ 45 ∷ after) (omega (arith, long, parts)) refl ∙ closed_read (text ∷ texts) after h

-- a byte that is no gate in the place of one
pub refuses_gate : RefusesGate
refuses_gate texts gate after h other neither many =
    many_bytes' (records texts ++ gate ∷ after) many
    ∙ if_none (begins (records texts ++ gate ∷ after)) (from_gate (records texts ++ gate ∷ after))
    (gates_read texts gate after h other ∙ ap (with_front texts) (ap (λ t. if t then Some [] else None) (not_closed gate neither)))

-- Texts that are cut short.

none_more : (text : List ℕ) → if_utf8 text None ≡ None
none_more text = by (is_utf8 text)
  where
    by : (utf8 : Bool) → (if utf8 then option_map (λ texts. text ∷ texts) None else None) ≡ None
    by true = refl
    by false = refl

cut_within : (done text rest : List ℕ) (kept : ℕ) → AllByRecursion (λ byte. byte ≢ 10) text
    → ((n : ℕ) → n ≤ length rest → from_gate (take n rest) ≡ None) → kept ≤ suc (length text + length rest)
    → from_text done (take kept (text ++ 10 ∷ rest)) ≡ None
cut_within done [] rest zero h cut short = refl
cut_within done (b ∷ text) rest zero h cut short = refl
cut_within done [] rest (suc kept) h cut short =
    ap (if_utf8 done) (cut kept (omega (arith, short))) ∙ none_more done
cut_within done (b ∷ text) rest (suc kept) h cut short =
    ap (λ t. if t then if_utf8 done (from_gate (take kept (text ++ 10 ∷ rest))) else from_text (done ++ b ∷ []) (take kept (text ++ 10 ∷ rest))) (not_lf b h.0)
    ∙ cut_within (done ++ b ∷ []) text rest kept h.1 cut (omega (arith, short))

cut_gates : (texts : List (List ℕ)) (kept : ℕ) → AllByRecursion IsLine texts → kept ≤ length (records texts) → from_gate (take kept (records texts)) ≡ None
cut_gates [] zero h short = refl
cut_gates [] (suc kept) h short = absurd (omega (arith, short))
cut_gates (text ∷ texts) zero h short = refl
cut_gates (text ∷ texts) (suc kept) h short =
    let parts = length-append text (10 ∷ records texts) in
    cut_within [] text (records texts) kept h.0.one (λ n le. cut_gates texts n h.1 le) (omega (arith, short, parts))

length_take : (n : ℕ) (bytes : List ℕ) → n ≤ length bytes → length (take n bytes) ≡ n
length_take zero bytes le = refl
length_take (suc n) [] le = absurd (omega (arith, le))
length_take (suc n) (b ∷ bytes) le = ap suc (length_take n bytes (omega (arith, le)))

pub refuses_cut : RefusesCut
refuses_cut texts kept h many short =
    many_bytes' (take kept (records texts)) (omega (arith, many, length_take kept (records texts) short))
    ∙ if_none (begins (take kept (records texts))) (from_gate (take kept (records texts))) (cut_gates texts kept h short)

-- What a file that is read has.

-- its texts with open gates, a closed gate, and whatever stands after that
pub record Parts (bytes : List ℕ) (texts : List (List ℕ)) : Type 0 where
  pub after : List ℕ
  pub is : bytes ≡ records texts ++ 45 ∷ after
  pub lines : AllByRecursion IsLine texts

-- the same within a text of which this was read
record TextParts (done bytes : List ℕ) (texts : List (List ℕ)) : Type 0 where
  pub line : List ℕ
  pub rest : List ℕ
  pub more : List (List ℕ)
  pub texts_are : texts ≡ line ∷ more
  pub bytes_are : done ++ bytes ≡ line ++ 10 ∷ rest
  pub is_line : IsLine line
  pub parts : Parts rest more

is_lf_true : (b : ℕ) → (b == 10) ≡ true → b ≡ 10
is_lf_true b e = grind (arith, nat_tests)

is_lf_false : (b : ℕ) → (b == 10) ≡ false → b ≢ 10
is_lf_false b e = grind (arith, nat_tests)

is_open_true : (b : ℕ) → (b == 43) ≡ true → b ≡ 43
is_open_true b e = grind (arith, nat_tests)

is_closed_true : (b : ℕ) → (b == 45) ≡ true → b ≡ 45
is_closed_true b e = grind (arith, nat_tests)

open_not_closed : (b : ℕ) → (b == 43) ≡ true → (b == 45) ≡ false
open_not_closed b e = grind (arith, nat_tests)

no_lf_more : (done : List ℕ) (b : ℕ) → AllByRecursion (λ byte. byte ≢ 10) done → b ≢ 10 → AllByRecursion (λ byte. byte ≢ 10) (done ++ b ∷ [])
no_lf_more [] b h other = (other, tt)
no_lf_more (d ∷ done) b h other = (h.0, no_lf_more done b h.1 other)

some_line : (done rest : List ℕ) (more : Option (List (List ℕ))) (texts : List (List ℕ)) (utf8 : Bool) → is_utf8 done ≡ utf8
    → (if utf8 then option_map (λ ts. done ∷ ts) more else None) ≡ Some texts
    → (m : List (List ℕ)) × (more ≡ Some m) × (texts ≡ done ∷ m) × (is_utf8 done ≡ true)
some_line done rest None texts true u e = let none : ⊥ = cc e in absurd none
some_line done rest (Some m) texts true u e = let same : done ∷ m ≡ texts = cc e in (m, refl, sym same, u)
some_line done rest more texts false u e = let none : ⊥ = cc e in absurd none

subst_lines : {xs ys : List (List ℕ)} → xs ≡ ys → AllByRecursion IsLine ys → AllByRecursion IsLine xs
subst_lines e h = subst (AllByRecursion IsLine) (sym e) h

shut_by : (gate : ℕ) (rest : List ℕ) (texts : List (List ℕ)) (t : Bool) → (gate == 45) ≡ t → (if t then Some [] else None) ≡ Some texts → Parts (gate ∷ rest) texts
shut_by gate rest texts true is e =
    let same : [] ≡ texts = cc e in
    record {
      after = rest;
      is = ap (λ g. g ∷ rest) (is_closed_true gate is) ∙ ap (λ ts. records ts ++ 45 ∷ rest) same;
      lines = subst_lines (sym same) tt;
    }
shut_by gate rest texts false is e = let none : ⊥ = cc e in absurd none

by_gate : (gate : ℕ) (rest : List ℕ) (texts : List (List ℕ)) → ((ts : List (List ℕ)) → from_text [] rest ≡ Some ts → TextParts [] rest ts) → (t : Bool) → (gate == 43) ≡ t
    → (if t then from_text [] rest else if_closed gate) ≡ Some texts → Parts (gate ∷ rest) texts
by_gate gate rest texts within true is e =
    let p = within texts e in
    let open_gate = is_open_true gate is in
    record {
      after = p.parts.after;
      is = (λ i. open_gate i ∷ (p.bytes_are ∙ ap (λ r. p.line ++ 10 ∷ r) p.parts.is) i)
          ∙ ap (λ r. 43 ∷ r) (sym (append_assoc p.line (10 ∷ records p.more) (45 ∷ p.parts.after)))
          ∙ ap (λ ts. records ts ++ 45 ∷ p.parts.after) (sym p.texts_are);
      lines = subst_lines p.texts_are (p.is_line, p.parts.lines);
    }
by_gate gate rest texts within false is e = shut_by gate rest texts (gate == 45) refl e

by_byte : (done : List ℕ) (b : ℕ) (bytes : List ℕ) (texts : List (List ℕ)) → AllByRecursion (λ byte. byte ≢ 10) done → ((ts : List (List ℕ)) → from_gate bytes ≡ Some ts → Parts bytes ts)
    → (b ≢ 10 → from_text (done ++ b ∷ []) bytes ≡ Some texts → TextParts (done ++ b ∷ []) bytes texts) → (t : Bool) → (b == 10) ≡ t
    → (if t then if_utf8 done (from_gate bytes) else from_text (done ++ b ∷ []) bytes) ≡ Some texts → TextParts done (b ∷ bytes) texts
by_byte done b bytes texts h then_gate then_text true is e =
    let s = some_line done bytes (from_gate bytes) texts (is_utf8 done) refl e in
    record {
      line = done;
      rest = bytes;
      more = s.0;
      texts_are = s.2;
      bytes_are = ap (λ x. done ++ x ∷ bytes) (is_lf_true b is);
      is_line = record { utf8 = s.3; one = h };
      parts = then_gate s.0 s.1;
    }
by_byte done b bytes texts h then_gate then_text false is e =
    let p = then_text (is_lf_false b is) e in
    record {
      line = p.line;
      rest = p.rest;
      more = p.more;
      texts_are = p.texts_are;
      bytes_are = sym (append_assoc done (b ∷ []) bytes) ∙ p.bytes_are;
      is_line = p.is_line;
      parts = p.parts;
    }

mutual
  pub gate_parts : (bytes : List ℕ) (texts : List (List ℕ)) → from_gate bytes ≡ Some texts → Parts bytes texts
  gate_parts [] texts e = let none : ⊥ = cc e in absurd none
  gate_parts (gate ∷ rest) texts e = by_gate gate rest texts (λ ts h. text_parts [] rest ts tt h) (gate == 43) refl e

  text_parts : (done bytes : List ℕ) (texts : List (List ℕ)) → AllByRecursion (λ byte. byte ≢ 10) done → from_text done bytes ≡ Some texts → TextParts done bytes texts
  text_parts done [] texts h e = let none : ⊥ = cc e in absurd none
  text_parts done (b ∷ bytes) texts h e =
      by_byte done b bytes texts h (λ ts k. gate_parts bytes ts k) (λ other k. text_parts (done ++ b ∷ []) bytes texts (no_lf_more done b h other) k) (b == 10) refl e

-- A loop over the lines of a file.

front_more : (front : List (List ℕ)) (text : List ℕ) (more : Option (List (List ℕ))) → with_front front (option_map (λ texts. text ∷ texts) more) ≡ with_front (front ++ text ∷ []) more
front_more front text None = refl
front_more front text (Some texts) = ap Some (sym (append_assoc front (text ∷ []) texts))

next_by : (front : List (List ℕ)) (gate : ℕ) (bytes line after : List ℕ) (t : Bool) → Some (line, after) ≡ (if t then first_line bytes else None)
    → with_front front (if t then from_text [] bytes else if_closed gate) ≡ with_front (front ++ line ∷ []) (from_gate after)
next_by front gate bytes line after true e = ap (with_front front) (text_is bytes ∙ ap line_then (sym e)) ∙ front_more front line (from_gate after)
next_by front gate bytes line after false e = let none : ⊥ = cc e in absurd none

-- one record more was read
pub front_next : (front : List (List ℕ)) (bytes line after : List ℕ) → Some (line, after) ≡ first_record bytes → with_front front (from_gate bytes) ≡ with_front (front ++ line ∷ []) (from_gate after)
front_next front [] line after e = let none : ⊥ = cc e in absurd none
front_next front (gate ∷ bytes) line after e = next_by front gate bytes line after (gate == 43) e

shut_front : (front : List (List ℕ)) (t : Bool) → with_front front (if t then Some [] else None) ≡ (if t then Some front else None)
shut_front front true = ap Some (append-nil front)
shut_front front false = refl

end_by : (front : List (List ℕ)) (gate : ℕ) (bytes : List ℕ) (t : Bool) → (gate == 43) ≡ t → None ≡ (if t then first_line bytes else None)
    → with_front front (if t then from_text [] bytes else if_closed gate) ≡ (if gate == 45 then Some front else None)
end_by front gate bytes true is e = ap (with_front front) (text_is bytes ∙ ap line_then (sym e)) ∙ ap (λ t. if t then Some front else None) (sym (open_not_closed gate is))
end_by front gate bytes false is e = shut_front front (gate == 45)

front_end : (front : List (List ℕ)) (bytes : List ℕ) → None ≡ first_record bytes → with_front front (from_gate bytes) ≡ (if is_closed bytes then Some front else None)
front_end front [] e = refl
front_end front (gate ∷ bytes) e = end_by front gate bytes (gate == 43) refl e

-- no record more, and a closed gate
pub front_closed : (front : List (List ℕ)) (bytes : List ℕ) → None ≡ first_record bytes → is_closed bytes ≡ true → with_front front (from_gate bytes) ≡ Some front
front_closed front bytes e shut = front_end front bytes e ∙ ap (λ t. if t then Some front else None) shut

-- no record more, and no closed gate
pub front_cut : (front : List (List ℕ)) (bytes : List ℕ) → None ≡ first_record bytes → is_closed bytes ≡ false → with_front front (from_gate bytes) ≡ None
front_cut front bytes e other = front_end front bytes e ∙ ap (λ t. if t then Some front else None) other

record_by : (bytes text after : List ℕ) (t : Bool) → Some (text, after) ≡ (if t then first_line bytes else None) → length text + 2 + length after ≡ suc (length bytes)
record_by bytes text after true e = let parts = first_length bytes text after (sym e) in omega (arith, parts)
record_by bytes text after false e = let none : ⊥ = cc e in absurd none

pub record_length : (bytes text after : List ℕ) → Some (text, after) ≡ first_record bytes → length text + 2 + length after ≡ length bytes
record_length [] text after e = let none : ⊥ = cc e in absurd none
record_length (gate ∷ bytes) text after e = record_by bytes text after (gate == 43) e

-- how many bytes they take
pub length-records-push : (texts : List (List ℕ)) (text : List ℕ) → length (records (texts ++ text ∷ [])) ≡ length (records texts) + length text + 2
length-records-push [] text = omega (arith, length-append text (10 ∷ []))
length-records-push (t ∷ texts) text =
    omega (arith, length-records-push texts text, length-append t (10 ∷ records texts), length-append t (10 ∷ records (texts ++ text ∷ [])))

pub ruleset read_by_records = (front_start, front_next, front_closed, front_cut, record_length, length-records-push)
