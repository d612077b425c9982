-- How the numbers, texts and flags that were given are got: what the getters of the matches answer.
use Rattle.std.proofs.Common.{inl, inr, ◌≡◌, ◌≤◌, ℕ, Result, Ok, Err, ◌∙◌, ap, sym, Bool, true, false, List, [], Option, Some, None, codes, refl}
use Rattle.std.specs.Prelude.{IfSome, find, map, option_and_then, option_map, slice_get, unwrap_or}
use Rattle.std.specs.Option.{SomeIff, option_map_or}
use Rattle.std.specs.Str.{bytes_eq}
use Rattle.std.specs.Str.Parse.{ParsesUnsigned, digits_value, without_leading_plus}
use Rattle.std.specs.Borrow.{Bor}
use Rattle.clap.specs.Words.{IsUnsignedIn, ReadsOne, Row, Text, first_value, matched_of, one_of, one_text, raw_values, rows_of}
use Rattle.clap.specs.declared.parser.matches.Found.{Found}
use Rattle.clap.proofs.WalkLemmas.{first_value-rows, one_text-rows, raw_values-rows}
use Rattle.canary_cli_words.specs.CommandLine.{flag_given, number_given, text_given, texts_given, texts_or_none, HasMoment, HasText, IsTrueOrFalse, MayHaveFlag, MayHaveNumber}

-- the number that is read of a text that passed the parser of a number
number_read : (E : Type 0) (G : List ℕ → Result ℕ E → Type 0) (least most : ℕ) (text : Text) (r : Option ℕ) → ReadsOne G text r
    → ((t : List ℕ) (x : Result ℕ E) → G t x → ParsesUnsigned 64 10 t x) → IsUnsignedIn least most text
    → (n : ℕ) × (r ≡ Some n) × (n ≡ digits_value 10 (without_leading_plus text)) × (n ≤ most)
number_read E G least most text (Some n) read only passed =
    let parsed = only text (Ok n) read in
    (n, refl, parsed.1, rw parsed.1 passed.3)
number_read E G least most text None read only passed = absurd (only text (Err read.0) read.1 (passed.0, passed.1))

-- the number that is read of an option that was given
pub moment_read : (E : Type 0) (G : List ℕ → Result ℕ E → Type 0) (f : Found) (name : Text) (r : Option ℕ) → HasMoment name (rows_of f)
    → ((t : List ℕ) → one_text f name ≡ Some t → ReadsOne G t r) → ((t : List ℕ) (x : Result ℕ E) → G t x → ParsesUnsigned 64 10 t x)
    → (n : ℕ) × (r ≡ Some n) × (number_given name (rows_of f) ≡ Some n) × (n ≤ 253370764799)
moment_read E G f name r given reads only =
    let number = number_read E G 0 253370764799 given.0 r (reads given.0 (one_text-rows f name ∙ given.1)) only given.2 in
    let spelled_number : number_given name (rows_of f) ≡ Some (digits_value 10 (without_leading_plus given.0)) = ap (option_map (λ t. digits_value 10 (without_leading_plus t))) given.1 in
    (number.0, number.1, spelled_number ∙ ap (λ n. Some n) (sym number.2), number.3)

-- and of one that may be left out
pub optional_read : (E : Type 0) (G : List ℕ → Result ℕ E → Type 0) (f : Found) (name : Text) (r : Option ℕ) → (most : ℕ) × MayHaveNumber name most (rows_of f)
    → (one_text f name ≡ None → r ≡ None) → ((t : List ℕ) → one_text f name ≡ Some t → ReadsOne G t r)
    → ((t : List ℕ) (x : Result ℕ E) → G t x → ParsesUnsigned 64 10 t x)
    → r ≡ number_given name (rows_of f)
optional_read E G f name r may none reads only = go (one_of name (rows_of f)) refl may.1
  where
    go : (o : Option Text) → one_of name (rows_of f) ≡ o → IfSome o (IsUnsignedIn 1 may.0) → r ≡ option_map (λ text. digits_value 10 (without_leading_plus text)) (one_of name (rows_of f))
    go None is fits = none (one_text-rows f name ∙ is) ∙ sym (ap (option_map (λ text. digits_value 10 (without_leading_plus text))) is)
    go (Some text) is fits =
        let number = number_read E G 1 may.0 text r (reads text (one_text-rows f name ∙ is)) only fits in
        number.1 ∙ (ap (λ n. Some n) number.2 ∙ sym (ap (option_map (λ text. digits_value 10 (without_leading_plus text))) is))

-- what has a first text has texts
none_given : (name : Text) (rows : List Row) (text : Text) → texts_given name rows ≡ None → text_given name rows ≡ Some text → ⊥
none_given name rows text none given = go (find (λ r. bytes_eq r.id name) rows) none given
  where
    go : (o : Option Row) → option_map (λ r. r.values) o ≡ None → option_and_then (λ r. slice_get r.values 0) o ≡ Some text → ⊥
    go None none given = cc
    go (Some r) none given = cc

-- the text that was given, as it is got
pub text_met : (f : Found) (name : Text) (r : Option (Bor Text)) → HasText name (rows_of f) → option_map (λ s. s.now) r ≡ first_value f name
    → (s : Bor Text) × (r ≡ Some s) × (text_given name (rows_of f) ≡ Some s.now)
text_met f name None has got = let none : None ≡ Some has.0 = got ∙ (first_value-rows f name ∙ has.1) in cc
text_met f name (Some s) has got = (s, refl, sym (first_value-rows f name) ∙ sym got)

-- the texts that were given, as they are got
pub texts_met : (f : Found) (name : Text) (r : Option (Bor (List (Bor Text)))) → HasText name (rows_of f) → option_map (λ s. map (λ v. v.now) s.now) r ≡ option_map raw_values (matched_of f name)
    → (s : Bor (List (Bor Text))) × (r ≡ Some s) × (texts_given name (rows_of f) ≡ Some (map (λ v. v.now) s.now))
texts_met f name None has got = absurd (none_given name (rows_of f) has.0 (sym (got ∙ raw_values-rows f name)) has.1)
texts_met f name (Some s) has got = (s, refl, sym (got ∙ raw_values-rows f name))

-- those that may be left out, as they are got
pub texts_or_left_out : (f : Found) (name : Text) (r : Option (Bor (List (Bor Text)))) → option_map (λ s. map (λ v. v.now) s.now) r ≡ option_map raw_values (matched_of f name)
    → unwrap_or (option_map (λ s. map (λ v. v.now) s.now) r) [] ≡ texts_or_none name (rows_of f)
texts_or_left_out f name r got = ap (λ o. unwrap_or o []) (got ∙ raw_values-rows f name)

-- and that of an option that may be left out
pub text_or_none : (f : Found) (name : Text) (r : Option (Bor Text)) → option_map (λ s. s.now) r ≡ first_value f name → option_map (λ s. s.now) r ≡ text_given name (rows_of f)
text_or_none f name r got = got ∙ first_value-rows f name

-- whether a flag was given, as it is got
pub flag_read : (f : Found) (name : Text) (r : Bool) → MayHaveFlag name (rows_of f) → (one_text f name ≡ None → r ≡ false) → (one_text f name ≡ Some (codes "true") → r ≡ true)
    → (one_text f name ≡ Some (codes "false") → r ≡ false) → r ≡ flag_given name (rows_of f)
flag_read f name r may none when_true when_false = go (one_of name (rows_of f)) refl may
  where
    given : (o : Option Text) → one_of name (rows_of f) ≡ o → option_map_or (bytes_eq (codes "true")) o false ≡ flag_given name (rows_of f)
    given o is = ap (λ o. option_map_or (bytes_eq (codes "true")) o false) (sym is)

    go : (o : Option Text) → one_of name (rows_of f) ≡ o → IfSome o IsTrueOrFalse → r ≡ flag_given name (rows_of f)
    go None is fits = none (one_text-rows f name ∙ is) ∙ given None is
    go (Some text) is (inl fits) =
        let so : one_of name (rows_of f) ≡ Some (codes "true") = is ∙ ap (λ t. Some t) fits in
        when_true (one_text-rows f name ∙ so) ∙ given (Some (codes "true")) so
    go (Some text) is (inr fits) =
        let so : one_of name (rows_of f) ≡ Some (codes "false") = is ∙ ap (λ t. Some t) fits in
        when_false (one_text-rows f name ∙ so) ∙ given (Some (codes "false")) so

-- a moment is made of such a number
pub moment_made : (n : ℕ) (r : Option ℕ) → SomeIff r (n ≤ 253370764799) n → n ≤ 253370764799 → r ≡ Some n
moment_made n None made small = absurd (made small)
moment_made n (Some m) made small = ap (λ k. Some k) made.1
