-- The line of an entry has no LF.
use Rattle.std.proofs.Common.{◌≡◌, ◌≢◌, ℕ, zero, suc, ◌+◌, ◌<◌, ◌≤◌, ◌^◌, List, [], ◌∷◌, ◌++◌, length, get_or, Bool, true, false, Option, Some, None, IsTrue, refl, subst, arith}
use Rattle.std.specs.Prelude.{codes, cond, nat_lt, nat_le, ◌==◌, ◌||◌, ◌&&◌, ◌/◌, ◌%◌, decimal, flat_map}
use Rattle.std.specs.List.{AllByRecursion}
use Rattle.std.proofs.lemmas.Bool.{and_parts}
use Rattle.std.proofs.lemmas.Bool.Decides.{nat_tests}
use Rattle.std.proofs.lemmas.Fmt.{decimal_is_IsNumeral}
use Rattle.std.specs.Str.Parse.{AllDigits}
use Rattle.std.specs.Char.{digit_char, digit_value}
use Rattle.json.specs.Print.{escape_letter, escape_byte, escape, quoted}
use Rattle.serde_json.specs.Data.{Data, Members, no_members, member, string, boolean}
use Rattle.serde_json.specs.Written.{compact_text, comma_if, members_text}
use Rattle.canary_base.specs.Names.{is_name}
use Rattle.canary_canonical.specs.Texts.{whole_data, data_or_null, only}
use Rattle.canary_client_journal.specs.declared.entry.JournalEntry.{JournalEntry}
use Rattle.canary_client_journal.specs.declared.entry.JournalEntry.TheVariants as entry
use Rattle.canary_client_journal.specs.Lines.{begun_data, asked_data, instead_data, settled_data, entry_data, line_of, is_word, keeps_limits}

abbrev NoLf : List ℕ → Type 0
NoLf bytes = AllByRecursion (λ byte. byte ≢ 10) bytes

no_lf-append : (xs ys : List ℕ) → NoLf xs → NoLf ys → NoLf (xs ++ ys)
no_lf-append [] ys h k = k
no_lf-append (x ∷ xs) ys h k = (h.0, no_lf-append xs ys h.1 k)

-- Texts.

glyph_high : (d : ℕ) → digit_char d ≢ 10
glyph_high d = grind (arith, nat_tests)

-- a byte that stands for itself is no LF, since that has a letter
plain_byte : (x : ℕ) → nat_lt 0 (escape_letter x) ≡ false → x ≢ 10
plain_byte x e is = let same : nat_lt 0 (escape_letter 10) ≡ false = subst (λ b. nat_lt 0 (escape_letter b) ≡ false) is e in let none : ⊥ = cc same in none

letter_high : (x : ℕ) → escape_letter x ≢ 10
letter_high x = by (x == 34) (x == 92) (x == 8) (x == 12) (x == 10) (x == 13) (x == 9) refl refl
  where
    by : (a b c d e f g : Bool) → (x == 34) ≡ a → (x == 92) ≡ b
        → cond (a || b) x (cond c 98 (cond d 102 (cond e 110 (cond f 114 (cond g 116 0))))) ≢ 10
    by true b c d e f g is is-2 = grind (arith, nat_tests)
    by false true c d e f g is is-2 = grind (arith, nat_tests)
    by false false true d e f g is is-2 = omega arith
    by false false false true e f g is is-2 = omega arith
    by false false false false true f g is is-2 = omega arith
    by false false false false false true g is is-2 = omega arith
    by false false false false false false true is is-2 = omega arith
    by false false false false false false false is is-2 = omega arith

no_lf-escape_byte : (x : ℕ) → NoLf (escape_byte x)
unfolding escape_byte
no_lf-escape_byte x = by (nat_lt 0 (escape_letter x)) (nat_lt x 32) refl
  where
    by : (a b : Bool) → nat_lt 0 (escape_letter x) ≡ a
        → NoLf (cond a (92 ∷ escape_letter x ∷ []) (cond b (92 ∷ 117 ∷ 48 ∷ 48 ∷ digit_char (x / 16) ∷ digit_char (x % 16) ∷ []) (x ∷ [])))
    by true b is = (omega arith, (letter_high x, tt))
    by false true is = (omega arith, (omega arith, (omega arith, (omega arith, (glyph_high (x / 16), (glyph_high (x % 16), tt))))))
    by false false is = (plain_byte x is, tt)

no_lf-escape : (s : List ℕ) → NoLf (escape s)
no_lf-escape [] = tt
no_lf-escape (x ∷ s) = no_lf-append (escape_byte x) (escape s) (no_lf-escape_byte x) (no_lf-escape s)

no_lf-quoted : (s : List ℕ) → NoLf (quoted s)
no_lf-quoted s = (omega arith, no_lf-append (escape s) (34 ∷ []) (no_lf-escape s) (omega arith, tt))

-- Numbers.

no_lf-digits : (bytes : List ℕ) → AllDigits 10 bytes → NoLf bytes
no_lf-digits [] h = tt
no_lf-digits (b ∷ bytes) h =
    (λ is. let small : digit_value 10 < 10 = subst (λ c. digit_value c < 10) is h.0 in absurd (omega (arith, small)), no_lf-digits bytes h.1)

no_lf-decimal : (n : ℕ) → n < 2 ^ 64 → NoLf (decimal n)
no_lf-decimal n fits = no_lf-digits (decimal n) (decimal_is_IsNumeral n fits).0.1

word_fits : (n : ℕ) → IsTrue (is_word n) → n < 2 ^ 64
word_fits n h = grind (arith, nat_tests)

status_fits : (n : ℕ) → IsTrue (nat_le n 65535) → n < 2 ^ 64
status_fits n h = grind (arith, nat_tests)

no_lf-key : (key : Option (List ℕ)) → NoLf (compact_text (data_or_null string key))
no_lf-key None = (omega arith, (omega arith, (omega arith, (omega arith, tt))))
no_lf-key (Some k) = no_lf-quoted k

no_lf-late : (late : Bool) → NoLf (compact_text (boolean late))
no_lf-late true = (omega arith, (omega arith, (omega arith, (omega arith, tt))))
no_lf-late false = (omega arith, (omega arith, (omega arith, (omega arith, (omega arith, tt)))))

-- Objects.

no_lf-comma : (later : Bool) → NoLf (comma_if later)
no_lf-comma true = (omega arith, tt)
no_lf-comma false = tt

no_lf-member : (later : Bool) (key : List ℕ) (d : Data) (ms : Members) → NoLf (compact_text d) → NoLf (members_text true ms) → NoLf (members_text later (member key d ms))
no_lf-member later key d ms h k =
    no_lf-append (comma_if later) (quoted key ++ 58 ∷ (compact_text d ++ members_text true ms)) (no_lf-comma later)
    (no_lf-append (quoted key) (58 ∷ (compact_text d ++ members_text true ms)) (no_lf-quoted key)
    (omega arith, no_lf-append (compact_text d) (members_text true ms) h k))

no_lf-end : NoLf (members_text true no_members)
no_lf-end = (omega arith, tt)

no_lf-only : (key : List ℕ) (d : Data) → NoLf (compact_text d) → NoLf (compact_text (only key d))
no_lf-only key d h = (omega arith, no_lf-member false key d no_members h no_lf-end)

pub one_line : (e : JournalEntry) → IsTrue (keeps_limits e) → AllByRecursion (λ byte. byte ≢ 10) (line_of e)
unfolding entry_data
one_line (entry.Begun caller settled) h =
    let parts = and_parts (is_name caller) (is_word settled) h in
    let rest : Members = member (codes "settled") (whole_data settled) no_members in
    no_lf-only (codes "begun") (begun_data caller settled) (
      omega arith,
      no_lf-member false (codes "caller") (string caller) rest (no_lf-quoted caller)
          (no_lf-member true (codes "settled") (whole_data settled) no_members (no_lf-decimal settled (word_fits settled parts.1)) no_lf-end),
    )
one_line (entry.Asked number wish) h =
    let numbers : Members = member (codes "number") (whole_data number) no_members in
    let keys : Members = member (codes "key") (data_or_null string wish.key) numbers in
    let intents : Members = member (codes "intent") (string wish.intent) keys in
    no_lf-only (codes "asked") (asked_data number wish) (
      omega arith,
      no_lf-member false (codes "body") (string wish.body) intents (no_lf-quoted wish.body)
          (no_lf-member true (codes "intent") (string wish.intent) keys (no_lf-quoted wish.intent)
          (no_lf-member true (codes "key") (data_or_null string wish.key) numbers (no_lf-key wish.key)
          (no_lf-member true (codes "number") (whole_data number) no_members (no_lf-decimal number (word_fits number h)) no_lf-end))),
    )
one_line (entry.Instead number body) h =
    let numbers : Members = member (codes "number") (whole_data number) no_members in
    no_lf-only (codes "instead") (instead_data number body) (
      omega arith,
      no_lf-member false (codes "body") (string body) numbers (no_lf-quoted body)
          (no_lf-member true (codes "number") (whole_data number) no_members (no_lf-decimal number (word_fits number h)) no_lf-end),
    )
one_line (entry.Settled number reply) h =
    let parts = and_parts (is_word number) (nat_le reply.status 65535) h in
    let statuses : Members = member (codes "status") (whole_data reply.status) no_members in
    let numbers : Members = member (codes "number") (whole_data number) statuses in
    let lates : Members = member (codes "late") (boolean reply.is_late) numbers in
    no_lf-only (codes "settled") (settled_data number reply) (
      omega arith,
      no_lf-member false (codes "body") (string reply.body) lates (no_lf-quoted reply.body)
          (no_lf-member true (codes "late") (boolean reply.is_late) numbers (no_lf-late reply.is_late)
          (no_lf-member true (codes "number") (whole_data number) statuses (no_lf-decimal number (word_fits number parts.0))
          (no_lf-member true (codes "status") (whole_data reply.status) no_members (no_lf-decimal reply.status (status_fits reply.status parts.1)) no_lf-end))),
    )
