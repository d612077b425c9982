-- A row that was written is read back, field by field.
use Rattle.std.proofs.Common.{◌≡◌, ℕ, ◌^◌, ◌<◌, ◌≤◌, ℤ, pos, neg_ℤ, Bool, true, false, cond, ◌&&◌, List, [], ◌∷◌, length, drop, get_or, refl, sym, ap, ◌∙◌, arith, rules, zero, suc, IsTrue, Some, None, Err, not, option_map, nat_le, nat_lt}
use Rattle.std.specs.Prelude.{◌==◌, if◌then◌else◌, option_and_then}
use Rattle.std.specs.Option.{option_flatten}
use Rattle.std.specs.Char.{is_ascii_digit}
use Rattle.std.specs.List.{list_all}
use Rattle.std.specs.Fmt.{decimal}
use Rattle.std.specs.Str.{is_utf8, bytes_eq}
use Rattle.std.specs.Str.Parse.{digits_value, signed_digits_value, without_leading_sign}
use Rattle.std.proofs.lemmas.Str.Parse.{IsNumeralModel, numerals_by_value}
use Rattle.std.proofs.lemmas.Str.{is_utf8-from_IsUtf8, IsUtf8-from_ascii}
use Rattle.std.proofs.lemmas.Fmt.{digits_decimal, digits_value-decimal, decimal_nonempty}
use Rattle.std.proofs.lemmas.Bool.{false≢true}
use Rattle.std.proofs.lemmas.Bool.Decides.{nat_tests}
use Rattle.std.proofs.lemmas.List.Folds.{list_all_at}
use Rattle.std.proofs.lemmas.Slice.Eq.{bytes_eq-Decides}
use Rattle.csv.specs.Records.{field_at}
use Rattle.canary_base.specs.Names.{is_name, is_label}
use Rattle.canary_condition.specs.Results.{words_of}
use Rattle.canary_condition.specs.OutcomeTexts.{is_result, spelled_list, spelled, value_in}
use Rattle.canary_condition.specs.declared.outcome.Value.{Value}
use Rattle.canary_condition.specs.declared.outcome.Value.TheVariants.{Whole, List as ListResult}
use Rattle.canary_condition.specs.declared.outcome.Outcome.{Outcome}
use Rattle.canary_condition.specs.declared.outcome.Outcome.TheVariants.{Result as Brought, Failure}
use Rattle.canary_plan.specs.Limits.{is_ordinal, are_report_limits}
use Rattle.canary_release.specs.declared.effect.Recorded.{Recorded}
use Rattle.canary_canonical.specs.Forms.{◌⊛◌, some_if, up_to}
use Rattle.canary_canonical.specs.Readings.{entry_of, report_with}
use Rattle.canary_files.specs.Rows.{whole_of, whole_in, word_in, moment_in, if_number, number_in, outcome_in, entry_in, only, report_of, row_with}
use Rattle.canary_files.specs.declared.row.RowRefusal.TheVariants.{BadName}
use Rattle.canary_files.specs.Written.{row_fields, result_field, failure_field}
use Rattle.canary_files.specs.ReadingBack.{IsKept, IsReportable, entry_for, report_for, AreReadBack}
use Rattle.canary_files.proofs.Kept.{made_where_kept}

-- ---- numbers

own : IsNumeralModel (λ ds. list_all is_ascii_digit ds ≡ true) (digits_value 10)
own = numerals_by_value _ (search rules)

digit_range : (c : ℕ) → is_ascii_digit c ≡ true → (48 ≤ c) × (c ≤ 57)
digit_range c h = grind (arith, nat_tests)

-- each of some digits is one
each_digit : (ds : List ℕ) (i : ℕ) → IsTrue (list_all is_ascii_digit ds) → i < length ds → (48 ≤ get_or ds i 0) × (get_or ds i 0 ≤ 57)
each_digit ds i all h =
    elim (is_ascii_digit (get_or ds i 0)) as (λ b. is_ascii_digit (get_or ds i 0) ≡ b → (48 ≤ get_or ds i 0) × (get_or ds i 0 ≤ 57)) [
      | true ↦ λ e. digit_range (get_or ds i 0) e
      | false ↦ λ e. absurd (false≢true (sym (list_all_at is_ascii_digit ds i 0 h e) ∙ all))
    ] refl

first_digit : (n : ℕ) → n < 2 ^ 64 → (48 ≤ get_or (decimal n) 0 0) × (get_or (decimal n) 0 0 ≤ 57)
first_digit n h = each_digit (decimal n) 0 (digits_decimal own n h) (decimal_nonempty n h)

both : (a b : Bool) → (a && b) ≡ true → (a ≡ true) × (b ≡ true)
both true b e = (refl, e)
both false b e = absurd (false≢true e)

digits_ascii : (ds : List ℕ) → list_all is_ascii_digit ds ≡ true → (i : ℕ) → get_or ds i 0 < 128
digits_ascii [] all i = omega arith
digits_ascii (d ∷ ds) all zero = let range = digit_range d (both (is_ascii_digit d) (list_all is_ascii_digit ds) all).0 in omega (arith, range.1)
digits_ascii (d ∷ ds) all (suc i) = digits_ascii ds (both (is_ascii_digit d) (list_all is_ascii_digit ds) all).1 i

decimal_text : (n : ℕ) → n < 2 ^ 64 → is_utf8 (decimal n) ≡ true
decimal_text n h = is_utf8-from_IsUtf8 (decimal n) (IsUtf8-from_ascii (decimal n) (digits_ascii (decimal n) (digits_decimal own n h)))

-- a text that begins with a digit has no sign
plain_value : (text : List ℕ) → 48 ≤ get_or text 0 0 → signed_digits_value 10 text ≡ pos (digits_value 10 text)
plain_value text h =
    let minus : (get_or text 0 0 == 45) ≡ false = grind (arith, nat_tests) in
    let plus : (get_or text 0 0 == 43) ≡ false = grind (arith, nat_tests) in
    ap (λ (b : Bool). cond b (neg_ℤ (pos (digits_value 10 (without_leading_sign text)))) (pos (digits_value 10 (without_leading_sign text)))) minus
    ∙ ap (λ (b : Bool). pos (digits_value 10 (cond b (drop 1 text) (drop (cond (get_or text 0 0 == 43) 1 0) text)))) minus
    ∙ ap (λ (b : Bool). pos (digits_value 10 (drop (cond b 1 0) text))) plus

spelled_number : (n : ℕ) → n < 2 ^ 63 → spelled (decimal n) ≡ Whole (pos n)
spelled_number n h =
    let text : List ℕ = decimal n in
    let fits : n < 2 ^ 64 = omega (arith, h) in
    let range = first_digit n fits in
    let no_list : (get_or text 0 0 == 91) ≡ false = grind (arith, nat_tests) in
    ap (λ (b : Bool). if b then ListResult (spelled_list text) else Whole (signed_digits_value 10 text)) no_list
    ∙ ap (λ (z : ℤ). Whole z) (plain_value text range.0 ∙ ap (λ (k : ℕ). pos k) (digits_value-decimal own n fits))

number_test : (n : ℕ) → n < 2 ^ 63 → (is_result (Whole (pos n)) && bytes_eq (words_of (Whole (pos n))) (decimal n)) ≡ true
number_test n h =
    let small : nat_lt n (2 ^ 63) ≡ true = grind (arith, nat_tests) in
    ap (λ (b : Bool). b && bytes_eq (decimal n) (decimal n)) small ∙ (bytes_eq-Decides (decimal n) (decimal n)).1 refl

number_found : (n : ℕ) → n < 2 ^ 63 → value_in (decimal n) ≡ Some (Whole (pos n))
unfolding value_in
number_found n h =
    ap (λ (value : Value). if is_result value && bytes_eq (words_of value) (decimal n) then Some value else None) (spelled_number n h)
    ∙ ap (λ (b : Bool). if b then Some (Whole (pos n)) else None) (number_test n h)

whole_back : (n : ℕ) → n < 2 ^ 63 → whole_in (decimal n) ≡ Some n
whole_back n h =
    ap (λ (b : Bool). option_and_then whole_of (if b then value_in (decimal n) else None)) (decimal_text n (omega (arith, h)))
    ∙ ap (option_and_then whole_of) (number_found n h)

within : (n most : ℕ) → n ≤ most → up_to most n ≡ Some n
within n most h =
    let small : nat_le n most ≡ true = grind (arith, nat_tests) in ap (λ (b : Bool). if b then Some n else None) small

word_back : (n : ℕ) → n ≤ 4294967295 → word_in (decimal n) ≡ Some n
word_back n h = ap (option_and_then (up_to 4294967295)) (whole_back n (omega (arith, h))) ∙ within n 4294967295 h

moment_back : (n : ℕ) → n ≤ 253370764799 → moment_in (decimal n) ≡ Some n
moment_back n h = ap (option_and_then (up_to 253370764799)) (whole_back n (omega (arith, h))) ∙ within n 253370764799 h

ordinal_fits : (n : ℕ) → is_ordinal n ≡ true → n ≤ 4294967295
ordinal_fits n h = let most : n ≤ 1000000000 = grind (arith, nat_tests) in omega (arith, most)

ordinal_back : (n : ℕ) → is_ordinal n ≡ true → word_in (decimal n) ≡ Some n
ordinal_back n h = word_back n (ordinal_fits n h)

number_back : (n : ℕ) → is_ordinal n ≡ true → number_in (decimal n) ≡ Some n
number_back n h = ap (option_and_then if_number) (ordinal_back n h) ∙ ap (λ (b : Bool). if b then Some n else None) h

-- ---- outcomes

failure_test : (text : List ℕ) → is_utf8 text ≡ true → 1 ≤ length text → length text ≤ 200 → (is_utf8 text && (nat_le 1 (length text) && nat_le (length text) 200)) ≡ true
failure_test text utf8 some most =
    let low : nat_le 1 (length text) ≡ true = grind (arith, nat_tests) in
    let high : nat_le (length text) 200 ≡ true = grind (arith, nat_tests) in
    (λ i. utf8 i && (low i && high i))

outcome_back : (o : Outcome) → IsKept o → outcome_in (result_field o) (failure_field o) ≡ Some o
outcome_back (Brought value) is =
    ap (λ (b : Bool). option_map (λ (v : Value). Brought v) (if b then value_in (words_of value) else None)) is.0
    ∙ ap (option_map (λ (v : Value). Brought v)) is.1
outcome_back (Failure text) is =
    let some : (length text == 0) ≡ false = (let low : 1 ≤ length text = is.1 in grind (arith, nat_tests)) in
    ap (λ (b : Bool). if b then outcome_in [] [] else (if is_utf8 text && (nat_le 1 (length text) && nat_le (length text) 200) then Some (Failure text) else None)) some
    ∙ ap (λ (b : Bool). if b then Some (Failure text) else None) (failure_test text is.0 is.1 is.2)

-- ---- rows

text_kept : (test : List ℕ → Bool) (text : List ℕ) → test text ≡ true → some_if test text ≡ Some text
text_kept test text h = ap (λ (b : Bool). if b then Some text else None) h

entry_back : (caller service metric : List ℕ) (number : ℕ) (x : Recorded) (is : IsReportable x) → IsTrue (is_label metric)
    → entry_in (row_fields caller number service x metric) ≡ Some (entry_for metric x is)
unfolding field_at
entry_back caller service metric number x is label =
    let made : Some (entry_for metric x is) ≡ entry_of metric x.ordinal x.taken x.outcome = made_where_kept (is_ordinal x.ordinal) (λ kept. record { metric = metric; ordinal = x.ordinal; taken = x.taken; outcome = x.outcome; within = kept }) is.ordinal in
    (λ i. option_flatten (Some entry_of ⊛ text_kept is_label metric label i ⊛ ordinal_back x.ordinal is.ordinal i ⊛ moment_back x.taken is.taken i ⊛ outcome_back x.outcome is.outcome i))
    ∙ sym made

run_fits : (n : ℕ) → are_report_limits n 1 ≡ true → is_ordinal n ≡ true
run_fits n h = elim (is_ordinal n) as (λ b. (b && true) ≡ true → b ≡ true) [ true ↦ λ e. refl | false ↦ λ e. e ] h

report_back : (caller service metric : List ℕ) (number : ℕ) (x : Recorded) (is : IsReportable x) → IsTrue (is_name service) → IsTrue (is_label metric)
    → report_of (row_fields caller number service x metric) ≡ Some (report_for service metric x is)
unfolding report_of field_at
report_back caller service metric number x is name label =
    let made : Some (report_for service metric x is) ≡ report_with service x.run (entry_for metric x is ∷ []) = made_where_kept (are_report_limits x.run 1) (λ kept. record { service = service; run = x.run; entries = entry_for metric x is ∷ []; within = kept }) is.run in
    (λ i. option_flatten (Some report_with ⊛ text_kept is_name service name i ⊛ ordinal_back x.run (run_fits x.run is.run) i ⊛ option_map only (entry_back caller service metric number x is label i)))
    ∙ sym made

pub read_back : AreReadBack
unfolding field_at
read_back caller service metric number x is caller_named named label counted =
    let fields : List (List ℕ) = row_fields caller number service x metric in
    ap (λ (b : Bool). if not b then Err BadName else row_with caller (number_in (decimal number)) (report_of fields)) caller_named
    ∙ (λ i. row_with caller (number_back number counted i) (report_back caller service metric number x is named label i))
