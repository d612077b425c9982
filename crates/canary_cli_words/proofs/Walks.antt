-- What clap's walk over words holds if it meets no fault: each row has a first value that passed the parser of its option.
-- This is for options that take one value each, for flags that are true if they are used, and for flags that ask for help; what stands for an option that is not used passes its parser, too. And if a walk that meets no fault stops at a subcommand, that is not `help`.
use Rattle.std.proofs.Common.{◌≡◌, ◌∙◌, ◌⊎◌, ◌++◌, ◌&&◌, ℕ, zero, suc, Bool, true, false, not, codes, cond, List, [], ◌∷◌, length, drop, fold, Option, Some, None, is_some, refl, sym, ap, subst, inl, inr}
use Rattle.std.specs.Prelude.{find, slice_get, encode_utf8, unwrap_or, option_map, option_and_then, IfSome, if◌then◌else◌}
use Rattle.std.specs.Option.{option_map_or}
use Rattle.std.specs.Str.{bytes_eq, chars}
use Rattle.std.proofs.lemmas.Slice.Eq.{bytes_eq-Decides}
use Rattle.clap.specs.Lexer.{long_of, short_of}
use Rattle.clap.specs.Facts.{explicit_source, parser_of_value, unwrap_or_range}
use Rattle.clap.specs.Values.{read_as, refused_kind}
use Rattle.clap.specs.Walk.{Held, Names, Outcome, Row, Rule, Step, Text, Waiting, Walk, action_of, after_flag, after_step, arg_by_id, arg_by_index, arg_by_long, arg_by_short, at_row, attached_value, bundle, bundle_met, bundle_step, default_rows, done, first_of, flag_met, has_row, idle, is_pending, long_met, long_or_other, more_values, most_values, next, nothing_held, one_of, option, option_met, option_word, plain, plain_word, positional, reacted, reading_by, refused, row_text, rows_after, settled, settled_rows, short_met, short_or_plain, stop_after, subcommand, subcommand_met, subcommand_or_other, takes_several, takes_values, to_positional, trailing, used, used_as, used_by_id, value, values_or_missing, waits, with_values, walk, walk_from, walked, walked_from, with_default, without, word_met}
use Rattle.clap.specs.Simple.{Shape}
use Rattle.clap.specs.Takes.{is_given, value_passes}
use Rattle.clap.specs.Kinds.{Kinds, or_else, range_kinds, request_kinds, value_kinds}
use Rattle.clap.specs.Faults.{action_fault, bundle_fault, bundle_step_fault, check_fault, defaults_fault, flag_word_fault, flags_fault, level_fault, long_fault, option_fault, other_fault, positional_fault, react_fault, set_fault, settle_fault, short_fault, step_fault, stray_fault, turn_fault, use_fault, values_fault, walk_fault, word_fault}
use Rattle.clap.specs.declared.builder.action.ArgAction.{ArgAction}
use Rattle.clap.specs.declared.builder.action.ArgAction.TheVariants.{Set, SetTrue, Help}
use Rattle.clap.specs.declared.error.kind.ErrorKind.TheVariants.{TooManyValues, DisplayHelp, InvalidSubcommand}
use Rattle.clap.specs.declared.parser.matches.ValueSource.{ValueSource}
use Rattle.clap.specs.declared.parser.matches.ValueSource.TheVariants.{CommandLine, DefaultValue}

-- ---- options and rows

-- one value in each use
abbrev pub IsSingle : Rule → Type 0
IsSingle a = (action_of a ≡ Set) × ((unwrap_or_range a.range).start_inclusive ≡ 1)

-- there is a first value
abbrev pub HasFirst : List Text → Type 0
HasFirst [] = ⊥
HasFirst (v ∷ vs) = Unit {0}

-- a flag, for which a value stands if it is used
abbrev pub IsFlag : Rule → Type 0
IsFlag a = (action_of a ≡ SetTrue) × HasFirst a.missing

-- the first of the values, if there are any, passes the parser
abbrev pub FirstPasses : Rule → List Text → Type 0
FirstPasses a [] = Unit {0}
FirstPasses a (v ∷ vs) = value_passes a v ≡ true

-- the rule is found by its own id, a default passes its parser, and it takes one value, is a flag or asks for help
pub record IsOption (c : List Rule) (a : Rule) : Type 0 where
  pub own : arg_by_id c a.id ≡ Some a
  pub default : FirstPasses a a.defaults
  pub takes : IsSingle a ⊎ (IsFlag a ⊎ (action_of a ≡ Help))

abbrev pub AreOptions : List Rule → List Rule → Type 0
AreOptions c [] = Unit {0}
AreOptions c (a ∷ rest) = IsOption c a × AreOptions c rest

-- the row has a first value, which passed the parser of its option
pub record IsRead (c : List Rule) (r : Row) : Type 0 where
  pub rule : Rule
  pub first : Text
  pub rest : List Text
  pub by_id : arg_by_id c r.id ≡ Some rule
  pub values : r.values ≡ first ∷ rest
  pub passed : value_passes rule first ≡ true
  pub reading : r.reading ≡ reading_by rule

abbrev pub AreRead : List Rule → List Row → Type 0
AreRead c [] = Unit {0}
AreRead c (r ∷ rows) = IsRead c r × AreRead c rows

-- ---- searches

found_one : {X : Type 0} (x a : X) → Some x ≡ Some a → x ≡ a
found_one x a e = ap (λ o. unwrap_or o x) e

find_option : (c xs : List Rule) (p : Rule → Bool) (a : Rule) → AreOptions c xs → find p xs ≡ Some a → IsOption c a
find_option c [] p a all e = cc
find_option c (x ∷ xs) p a all e = go (p x) e (find_option c xs p a all.1)
  where
    go : (b : Bool) → cond b (Some x) (find p xs) ≡ Some a → (find p xs ≡ Some a → IsOption c a) → IsOption c a
    go true same more = subst (IsOption c) (found_one x a same) all.0
    go false same more = more same

find_row : (c : List Rule) (p : Row → Bool) (rows : List Row) (r : Row) → AreRead c rows → find p rows ≡ Some r → IsRead c r × (p r ≡ true)
find_row c p [] r all e = cc
find_row c p (x ∷ xs) r all e = go (p x) refl e (find_row c p xs r all.1)
  where
    go : (b : Bool) → p x ≡ b → cond b (Some x) (find p xs) ≡ Some r → (find p xs ≡ Some r → IsRead c r × (p r ≡ true)) → IsRead c r × (p r ≡ true)
    go true hit same more = subst (λ y. IsRead c y × (p y ≡ true)) (found_one x r same) (all.0, hit)
    go false hit same more = more same

-- ---- steps that meet no fault

left_none : (x y : Kinds) → or_else x y ≡ [] → x ≡ []
left_none [] y e = refl
left_none (k ∷ ks) y e = e

pub right_none : (x y : Kinds) → or_else x y ≡ [] → y ≡ []
right_none [] y e = e
right_none (k ∷ ks) y e = cc

-- ---- one use of an option

read-append : (c : List Rule) (xs ys : List Row) → AreRead c xs → AreRead c ys → AreRead c (xs ++ ys)
read-append c [] ys left right = right
read-append c (x ∷ xs) ys left right = (left.0, read-append c xs ys left.1 right)

read-at_row : (c : List Rule) (id : Text) (change : Row → List Row) (missing rows : List Row) → ((r : Row) → IsRead c r → AreRead c (change r)) → AreRead c missing → AreRead c rows
    → AreRead c (at_row id change missing rows)
read-at_row c id change missing [] changes adds read = adds
read-at_row c id change missing (r ∷ rows) changes adds read = go (bytes_eq r.id id) (read-at_row c id change missing rows changes adds read.1)
  where
    go : (b : Bool) → AreRead c (at_row id change missing rows) → AreRead c (if b then change r ++ rows else r ∷ at_row id change missing rows)
    go true more = read-append c (change r) rows (changes r read.0) read.1
    go false more = (read.0, more)

read-more : (c : List Rule) (source : ValueSource) (values : List Text) (r : Row) → IsRead c r → AreRead c (more_values source values r)
read-more c source values r is = (
  record {
    rule = is.rule;
    first = is.first;
    rest = is.rest ++ values;
    by_id = is.by_id;
    values = ap (λ vs. vs ++ values) is.values;
    passed = is.passed;
    reading = is.reading;
  },
  tt,
)

value_passed : (a : Rule) (v : Text) → value_kinds a.ignore_case (parser_of_value a.parser) v ≡ [] → value_passes a v ≡ true
value_passed a v none = go (value_passes a v) none
  where
    go : (b : Bool) → (if b then [] else refused_kind (parser_of_value a.parser) ∷ []) ≡ [] → b ≡ true
    go true none = refl
    go false none = cc

-- the row of an option with these values, of which the first passes
read-valued : (c : List Rule) (source : ValueSource) (a : Rule) (v : Text) (vs : List Text) (rows : List Row) → IsOption c a → value_passes a v ≡ true → AreRead c rows
    → AreRead c (with_values a.id (reading_by a) source (v ∷ vs) rows)
read-valued c source a v vs rows is passed read =
    read-at_row c a.id (more_values source (v ∷ vs)) _ rows (read-more c source (v ∷ vs)) (
      record {
        rule = a;
        first = v;
        rest = vs;
        by_id = is.own;
        values = refl;
        passed = passed;
        reading = refl;
      },
      tt,
    )
    read

read-set : (c : List Rule) (again : Bool) (a : Rule) (values : List Text) (rows : List Row) → IsOption c a → HasFirst values → set_fault again a values rows ≡ [] → AreRead c rows
    → AreRead c (with_values a.id (reading_by a) CommandLine values (without a.id rows))
read-set c again a [] rows is has none read = absurd has
read-set c again a (v ∷ vs) rows is has none read =
    let each : values_fault a (v ∷ vs) ≡ [] = right_none _ _ none in
    read-valued c CommandLine a v vs (without a.id rows) is (value_passed a v (left_none _ _ each)) (read-at_row c a.id (λ _. []) [] rows (λ r h. tt) tt read)

-- what a use comes to by its action
read-acted : (c : List Rule) (again : Bool) (act : ArgAction) (a : Rule) (values : List Text) (rows : List Row) → action_of a ≡ act
    → action_fault (action_of a) again a values rows ≡ [] → (action_fault act again a values rows ≡ [] → AreRead c (used_as act a.id (reading_by a) values rows))
    → AreRead c (used_as (action_of a) a.id (reading_by a) values rows)
read-acted c again act a values rows is none so =
    subst (λ (x : ArgAction). AreRead c (used_as x a.id (reading_by a) values rows)) (sym is)
    (so (subst (λ (x : ArgAction). action_fault x again a values rows ≡ []) is none))

-- a use of one value that meets no fault has a first value
one_value : (a : Rule) (values : List Text) → range_kinds 1 (most_values a) (length values) ≡ [] → HasFirst (values_or_missing a values)
one_value a [] none = cc
one_value a (v ∷ vs) none = tt

-- and so has a use for which a value stands
value_or_missing : (a : Rule) (values : List Text) → HasFirst a.missing → HasFirst (values_or_missing a values)
value_or_missing a [] has = has
value_or_missing a (v ∷ vs) has = tt

read-used : (c : List Rule) (again : Bool) (a : Rule) (values : List Text) (rows : List Row) → IsOption c a → use_fault again a values rows ≡ [] → AreRead c rows
    → AreRead c (used a values rows)
read-used c again a values rows is none read =
    let in_range : range_kinds (unwrap_or_range a.range).start_inclusive (most_values a) (length values) ≡ [] = left_none _ _ none in
    let acted : action_fault (action_of a) again a (values_or_missing a values) rows ≡ [] = right_none (range_kinds (unwrap_or_range a.range).start_inclusive (most_values a) (length values)) _ none in
    elim is.takes [
      | inl single ↦
          let one : range_kinds 1 (most_values a) (length values) ≡ [] = subst (λ n. range_kinds n (most_values a) (length values) ≡ []) single.1 in_range in
          read-acted c again Set a (values_or_missing a values) rows single.0 acted (λ set. read-set c again a (values_or_missing a values) rows is (one_value a values one) set read)
      | inr (inl flag) ↦
          read-acted c again SetTrue a (values_or_missing a values) rows flag.0 acted
          (λ set. read-set c again a (values_or_missing a values) rows is (value_or_missing a values flag.1) set read)
      | inr (inr help) ↦
          let bad : request_kinds Help ≡ [] = subst (λ (x : ArgAction). action_fault x again a (values_or_missing a values) rows ≡ []) help acted in
          cc
    ]

read-settled : (c : List Rule) (again : Bool) (h : Held) → AreOptions c c → settle_fault c again h ≡ [] → AreRead c h.rows → AreRead c (settled c h).rows
read-settled c again h all none read = go h.pending none
  where
    by_rule : (p : Text × List Text) (o : Option Rule) → arg_by_id c p.0 ≡ o → option_map_or (λ a. use_fault again a p.1 h.rows) o [] ≡ [] → AreRead c (used_by_id o p.1 h.rows)
    by_rule p None is none = read
    by_rule p (Some a) is none = read-used c again a p.1 h.rows (find_option c c _ a all is) none read

    go : (o : Option (Text × List Text)) → option_map_or (λ p. option_map_or (λ a. use_fault again a p.1 h.rows) (arg_by_id c p.0) []) o [] ≡ []
        → AreRead c (settled_rows c o h.rows)
    go None none = read
    go (Some p) none = by_rule p (arg_by_id c p.0) refl none

read-reacted : (c : List Rule) (again : Bool) (a : Rule) (values : List Text) (h : Held) → AreOptions c c → IsOption c a → react_fault c again a values h ≡ [] → AreRead c h.rows
    → AreRead c (reacted c a values h).rows
read-reacted c again a values h all is none read = read-used c again a values (settled c h).rows is (right_none _ _ none) (read-settled c again h all (left_none _ _ none) read)

-- ---- one word

read-option_met : (c : List Rule) (again : Bool) (a : Rule) (v : Option Text) (h : Held) → AreOptions c c → IsOption c a → option_fault c again a v h ≡ [] → AreRead c h.rows
    → AreRead c (option_met c a v h).0.rows
read-option_met c again a None h all is none read = read-settled c again h all none read
read-option_met c again a (Some v) h all is none read = read-reacted c again a (v ∷ []) h all is none read

read-flag_met : (c : List Rule) (again : Bool) (a : Rule) (v : Option Text) (h : Held) → AreOptions c c → IsOption c a
    → (if is_some v then TooManyValues ∷ [] else react_fault c again a [] h) ≡ [] → AreRead c h.rows
    → AreRead c (flag_met c a v h).0.rows
read-flag_met c again a None h all is none read = read-reacted c again a [] h all is none read
read-flag_met c again a (Some v) h all is none read = cc

read-long_met : (c : List Rule) (again : Bool) (o : Option Rule) (v : Option Text) (h : Held) → AreOptions c c → ((a : Rule) → o ≡ Some a → IsOption c a)
    → long_fault c again o v h ≡ [] → AreRead c h.rows → AreRead c (long_met c o v h).0.rows
read-long_met c again None v h all is none read = cc
read-long_met c again (Some a) v h all is none read = go (takes_values a) none
  where
    go : (b : Bool)
        → (if b then option_fault c again a v h
        else (if is_some v then TooManyValues ∷ [] else react_fault c again a [] h)) ≡ []
        → AreRead c (if b then option_met c a v h else flag_met c a v h).0.rows
    go true none = read-option_met c again a v h all (is a refl) none read
    go false none = read-flag_met c again a v h all (is a refl) none read

-- what the characters of a bundle after the first do
abbrev Goes : List Rule → Bool → ℕ → Type 0
Goes c again k = (flags : Text) (skip : ℕ) (so_far : Outcome) (h : Held) → flags_fault c again k flags skip h ≡ [] → AreRead c h.rows
    → AreRead c (bundle_met c k flags skip so_far h).0.rows

read-short_met : (c : List Rule) (again : Bool) (k : ℕ) (o : Option Rule) (rest : Text) (h : Held) → AreOptions c c → ((a : Rule) → o ≡ Some a → IsOption c a) → Goes c again k
    → short_fault c again o rest h (flags_fault c again k rest 0) ≡ [] → AreRead c h.rows
    → AreRead c (short_met c o rest h (bundle_met c k rest 0 done)).0.rows
read-short_met c again k None rest h all is more none read = cc
read-short_met c again k (Some a) rest h all is more none read = go (takes_values a) none
  where
    go : (b : Bool)
        → (if b then option_fault c again a (attached_value rest) h
        else or_else (react_fault c again a [] h) (flags_fault c again k rest 0 (reacted c a [] h))) ≡ []
        → AreRead c (if b then option_met c a (attached_value rest) h else bundle_met c k rest 0 done (reacted c a [] h)).0.rows
    go true none = read-option_met c again a (attached_value rest) h all (is a refl) none read
    go false none = more rest 0 done (reacted c a [] h) (right_none _ _ none) (read-reacted c again a [] h all (is a refl) (left_none _ _ none) read)

read-bundle_step : (c : List Rule) (again : Bool) (k : ℕ) (o : Option ℕ) (flags : Text) (skip : ℕ) (so_far : Outcome) (h : Held) → AreOptions c c → Goes c again k
    → bundle_step_fault c again o flags skip h (flags_fault c again k) ≡ [] → AreRead c h.rows
    → AreRead c (bundle_step c o flags skip so_far h (bundle_met c k)).0.rows
read-bundle_step c again k None flags skip so_far h all more none read = read
read-bundle_step c again k (Some x) flags zero so_far h all more none read =
    read-short_met c again k (arg_by_short c x) (drop (length (encode_utf8 x)) flags) h all (λ a is. find_option c c _ a all is) more none read
read-bundle_step c again k (Some x) flags (suc skip) so_far h all more none read = more (drop (length (encode_utf8 x)) flags) skip so_far h none read

read-bundle_met : (c : List Rule) (again : Bool) (k : ℕ) → AreOptions c c → Goes c again k
unfolding flags_fault bundle_met
read-bundle_met c again zero all flags skip so_far h none read = read
read-bundle_met c again (suc k) all flags skip so_far h none read =
    read-bundle_step c again k (slice_get (chars flags) 0) flags skip so_far h all (read-bundle_met c again k all) none read

plain_word-rows : (c : List Rule) (waiting : Waiting) (word : Text) (h : Held) → (plain_word c waiting word h).0.rows ≡ h.rows
plain_word-rows c idle word h = refl
plain_word-rows c (option id) word h = go (arg_by_id c id)
  where
    go : (o : Option Rule) → (option_word o id word h).0.rows ≡ h.rows
    go None = refl
    go (Some a) = refl
plain_word-rows c positional word h = refl

after_flag-rows : (c : List Rule) (waiting : Waiting) (word : Text) (h : Held) (o : Outcome) → (after_flag c waiting word h o).0.rows ≡ h.rows
after_flag-rows c waiting word h done = refl
after_flag-rows c waiting word h (waits id) = refl
after_flag-rows c waiting word h plain = plain_word-rows c waiting word h
after_flag-rows c waiting word h refused = plain_word-rows c waiting word h

read-short : (c : List Rule) (again : Bool) (waiting : Waiting) (word : Text) (o : Option Text) (h : Held) → AreOptions c c
    → option_map_or (λ flags. bundle_fault c again flags h) o [] ≡ [] → AreRead c h.rows
    → AreRead c (short_or_plain c waiting word o h).0.rows
read-short c again waiting word None h all none read = subst (AreRead c) (sym (plain_word-rows c waiting word h)) read
read-short c again waiting word (Some flags) h all none read =
    let met = read-bundle_met c again (length flags) all flags h.skip plain (record h { skip = 0 }) none read in
    subst (AreRead c) (sym (after_flag-rows c waiting word (bundle c flags h).0 (bundle c flags h).1)) met

read-flag_word : (c : List Rule) (again : Bool) (waiting : Waiting) (word : Text) (o : Option (Text × Option Text)) (h : Held) → AreOptions c c
    → flag_word_fault c again o word h ≡ [] → AreRead c h.rows
    → AreRead c (long_or_other c waiting word o h).0.rows
read-flag_word c again waiting word None h all none read = read-short c again waiting word (short_of word) h all none read
read-flag_word c again waiting word (Some p) h all none read =
    let met = read-long_met c again (arg_by_long c p.0) p.1 h all (λ a is. find_option c c _ a all is) none read in
    subst (AreRead c) (sym (after_flag-rows c waiting word (long_met c (arg_by_long c p.0) p.1 h).0 (long_met c (arg_by_long c p.0) p.1 h).1)) met

read-other : (s : Shape) (o : Option Text) (waiting : Waiting) (position : ℕ) (word : Text) (h : Held) → AreOptions s.rules s.rules
    → other_fault s o word h ≡ [] → AreRead s.rules h.rows
    → AreRead s.rules (subcommand_or_other s.rules o waiting position word h).0.rows
read-other s (Some name) waiting position word h all none read = read
read-other s None waiting position word h all none read = go (bytes_eq word (45 ∷ 45 ∷ [])) none
  where
    go : (b : Bool) → (if b then [] else flag_word_fault s.rules s.args_override_self (long_of word) word h) ≡ []
        → AreRead s.rules (if b then (h, trailing position) else long_or_other s.rules waiting word (long_of word) h).0.rows
    go true none = read
    go false none = read-flag_word s.rules s.args_override_self waiting word (long_of word) h all none read

read-word : (s : Shape) (names : Names) (is_trailing : Bool) (waiting : Waiting) (position : ℕ) (word : Text) (h : Held) → AreOptions s.rules s.rules
    → word_fault s names is_trailing waiting word h ≡ [] → AreRead s.rules h.rows
    → AreRead s.rules (word_met s.rules names is_trailing waiting position word h).0.rows
read-word s names true waiting position word h all none read = read
read-word s names false waiting position word h all none read = read-other s (subcommand_met names waiting word) waiting position word h all none read

-- ---- the walk

read-to_positional : (s : Shape) (o : Option Rule) (word : Text) (w : Walk) (h : Held) → AreOptions s.rules s.rules
    → option_map_or (λ a. positional_fault s.rules s.args_override_self a h) o (stray_fault s) ≡ [] → AreRead s.rules h.rows
    → AreRead s.rules (to_positional s.rules o word w h).held.rows
read-to_positional s None word w h all none read = read
read-to_positional s (Some a) word w h all none read = go (is_pending a h.pending && takes_several a) none
  where
    go : (b : Bool) → (if b then [] else settle_fault s.rules s.args_override_self h) ≡ [] → AreRead s.rules (if b then h else settled s.rules h).rows
    go true none = read
    go false none = read-settled s.rules s.args_override_self h all none read

read-step : (s : Shape) (word : Text) (w : Walk) (h : Held) (step : Step) → AreOptions s.rules s.rules → step_fault s w.position h step ≡ [] → AreRead s.rules h.rows
    → AreRead s.rules (after_step s.rules word w h step).held.rows
read-step s word w h (next waiting) all none read = read
read-step s word w h (trailing position) all none read = read
read-step s word w h (subcommand name) all none read = read
read-step s word w h value all none read = read-to_positional s (arg_by_index s.rules w.position) word w h all none read

read-turn : (s : Shape) (names : Names) (w : Walk) (word : Text) → AreOptions s.rules s.rules → turn_fault s names w word ≡ [] → AreRead s.rules w.held.rows
    → AreRead s.rules (walked s.rules names w word).held.rows
unfolding walked
read-turn s names w word all none read = go w.stopped none
  where
    go : (o : Option (Text × List Text))
        → (if is_some o then [] else or_else (word_fault s names w.is_trailing w.waiting word w.held)
        (step_fault s w.position (word_met s.rules names w.is_trailing w.waiting w.position word w.held).0
        (word_met s.rules names w.is_trailing w.waiting w.position word w.held).1)) ≡ []
        → AreRead s.rules (walked_from s.rules names o w word).held.rows
    go (Some p) none = read
    go None none =
        read-step s word w (word_met s.rules names w.is_trailing w.waiting w.position word w.held).0 (word_met s.rules names w.is_trailing w.waiting w.position word w.held).1 all
        (right_none _ _ none)
        (read-word s names w.is_trailing w.waiting w.position word w.held all (left_none _ _ none) read)

read-walk : (s : Shape) (names : Names) (w : Walk) (words : List Text) → AreOptions s.rules s.rules → walk_fault s names w words ≡ [] → AreRead s.rules w.held.rows
    → AreRead s.rules (fold (walked s.rules names) w words).held.rows
unfolding walk_fault
read-walk s names w [] all none read = read
read-walk s names w (word ∷ words) all none read =
    read-walk s names (walked s.rules names w word) words all (right_none _ _ none) (read-turn s names w word all (left_none _ _ none) read)

-- ---- no walk that meets no fault stops at `help`

abbrev pub IsNoHelp : Option (Text × List Text) → Type 0
IsNoHelp None = Unit {0}
IsNoHelp (Some p) = bytes_eq p.0 (codes "help") ≡ false

abbrev EntersNone : Step → Type 0
EntersNone (subcommand name) = ⊥
EntersNone step = Unit {0}

no_help-name : (s : Shape) (name word : Text) (h : Held) → s.disable_help_subcommand ≡ false → other_fault s (Some name) word h ≡ [] → bytes_eq name (codes "help") ≡ false
no_help-name s name word h on none =
    go (bytes_eq name (codes "help")) (subst (λ b. (if bytes_eq name (codes "help") && not b then DisplayHelp ∷ InvalidSubcommand ∷ [] else []) ≡ []) on none)
  where
    go : (b : Bool) → (if b && true then DisplayHelp ∷ InvalidSubcommand ∷ [] else []) ≡ [] → b ≡ false
    go true none = cc
    go false none = refl

enters_none-plain_word : (c : List Rule) (waiting : Waiting) (word : Text) (h : Held) → EntersNone (plain_word c waiting word h).1
enters_none-plain_word c idle word h = tt
enters_none-plain_word c (option id) word h = tt
enters_none-plain_word c positional word h = tt

enters_none-after_flag : (c : List Rule) (waiting : Waiting) (word : Text) (h : Held) (o : Outcome) → EntersNone (after_flag c waiting word h o).1
enters_none-after_flag c waiting word h done = tt
enters_none-after_flag c waiting word h (waits id) = tt
enters_none-after_flag c waiting word h plain = enters_none-plain_word c waiting word h
enters_none-after_flag c waiting word h refused = enters_none-plain_word c waiting word h

enters_none-short : (c : List Rule) (waiting : Waiting) (word : Text) (o : Option Text) (h : Held) → EntersNone (short_or_plain c waiting word o h).1
enters_none-short c waiting word None h = enters_none-plain_word c waiting word h
enters_none-short c waiting word (Some flags) h = enters_none-after_flag c waiting word (bundle c flags h).0 (bundle c flags h).1

enters_none-flag_word : (c : List Rule) (waiting : Waiting) (word : Text) (o : Option (Text × Option Text)) (h : Held) → EntersNone (long_or_other c waiting word o h).1
enters_none-flag_word c waiting word None h = enters_none-short c waiting word (short_of word) h
enters_none-flag_word c waiting word (Some p) h =
    enters_none-after_flag c waiting word (long_met c (arg_by_long c p.0) p.1 h).0 (long_met c (arg_by_long c p.0) p.1 h).1

enters_none-other : (c : List Rule) (waiting : Waiting) (position : ℕ) (word : Text) (h : Held) → EntersNone (subcommand_or_other c None waiting position word h).1
enters_none-other c waiting position word h = go (bytes_eq word (45 ∷ 45 ∷ []))
  where
    go : (b : Bool) → EntersNone (if b then (h, trailing position) else long_or_other c waiting word (long_of word) h).1
    go true = tt
    go false = enters_none-flag_word c waiting word (long_of word) h

no_help-step : (c : List Rule) (word : Text) (w : Walk) (h : Held) (step : Step) → EntersNone step → IsNoHelp w.stopped → IsNoHelp (after_step c word w h step).stopped
no_help-step c word w h (next waiting) enters before = before
no_help-step c word w h (trailing position) enters before = before
no_help-step c word w h (subcommand name) enters before = absurd enters
no_help-step c word w h value enters before = go (arg_by_index c w.position)
  where
    go : (o : Option Rule) → IsNoHelp (to_positional c o word w h).stopped
    go None = before
    go (Some a) = tt

no_help-word : (s : Shape) (names : Names) (is_trailing : Bool) (word : Text) (w : Walk) → s.disable_help_subcommand ≡ false → word_fault s names is_trailing w.waiting word w.held ≡ []
    → IsNoHelp w.stopped
    → IsNoHelp (after_step s.rules word w (word_met s.rules names is_trailing w.waiting w.position word w.held).0 (word_met s.rules names is_trailing w.waiting w.position word w.held).1).stopped
no_help-word s names true word w on none before = no_help-step s.rules word w w.held value tt before
no_help-word s names false word w on none before = go (subcommand_met names w.waiting word) none
  where
    go : (o : Option Text) → other_fault s o word w.held ≡ []
        → IsNoHelp (after_step s.rules word w (subcommand_or_other s.rules o w.waiting w.position word w.held).0 (subcommand_or_other s.rules o w.waiting w.position word w.held).1).stopped
    go None none =
        no_help-step s.rules word w (subcommand_or_other s.rules None w.waiting w.position word w.held).0 (subcommand_or_other s.rules None w.waiting w.position word w.held).1
        (enters_none-other s.rules w.waiting w.position word w.held)
        before
    go (Some name) none = no_help-name s name word w.held on none

no_help-turn : (s : Shape) (names : Names) (w : Walk) (word : Text) → s.disable_help_subcommand ≡ false → turn_fault s names w word ≡ [] → IsNoHelp w.stopped
    → IsNoHelp (walked s.rules names w word).stopped
unfolding walked
no_help-turn s names w word on none before = go w.stopped none before
  where
    go : (o : Option (Text × List Text))
        → (if is_some o then [] else or_else (word_fault s names w.is_trailing w.waiting word w.held)
        (step_fault s w.position (word_met s.rules names w.is_trailing w.waiting w.position word w.held).0
        (word_met s.rules names w.is_trailing w.waiting w.position word w.held).1)) ≡ []
        → IsNoHelp o → IsNoHelp (walked_from s.rules names o w word).stopped
    go (Some p) none so = so
    go None none so = no_help-word s names w.is_trailing word w on (left_none _ _ none) before

no_help-walk : (s : Shape) (names : Names) (w : Walk) (words : List Text) → s.disable_help_subcommand ≡ false → walk_fault s names w words ≡ [] → IsNoHelp w.stopped
    → IsNoHelp (fold (walked s.rules names) w words).stopped
unfolding walk_fault
no_help-walk s names w [] on none before = before
no_help-walk s names w (word ∷ words) on none before =
    no_help-walk s names (walked s.rules names w word) words on (right_none _ _ none) (no_help-turn s names w word on (left_none _ _ none) before)

read-defaults : (c xs : List Rule) (rows : List Row) → AreOptions c xs → AreRead c rows → AreRead c (fold with_default rows xs)
read-defaults c [] rows all read = read
read-defaults c (a ∷ xs) rows all read = read-defaults c xs (with_default rows a) all.1 (go (has_row a.id rows))
  where
    by_default : (values : List Text) → FirstPasses a values → AreRead c (default_rows a.id (reading_by a) values rows)
    by_default [] passes = read
    by_default (v ∷ vs) passes = read-valued c DefaultValue a v vs rows all.0 passes read

    go : (b : Bool) → AreRead c (if b then rows else default_rows a.id (reading_by a) a.defaults rows)
    go true = read
    go false = by_default a.defaults all.0.default

-- the steps of a level, of which none meets a fault
record NoneFails (walk_faults below_faults settle_faults check_faults : Kinds) : Type 0 where
  walk : walk_faults ≡ []
  below : below_faults ≡ []
  settle : settle_faults ≡ []
  check : check_faults ≡ []

none_fails : (x below y z check : Kinds) → or_else x (or_else below (or_else y (or_else z check))) ≡ [] → NoneFails x below y check
none_fails x below y z check none =
    let after_walk = right_none x (or_else below (or_else y (or_else z check))) none in
    let after_below = right_none below (or_else y (or_else z check)) after_walk in
    let after_settle = right_none y (or_else z check) after_below in
    record {
      walk = left_none x (or_else below (or_else y (or_else z check))) none;
      below = left_none below (or_else y (or_else z check)) after_walk;
      settle = left_none y (or_else z check) after_below;
      check = right_none z check after_settle;
    }

level_parts : (s : Shape) (names : Names) (words : List Text) (has_subcommand : Bool) (below : Kinds) → level_fault s names nothing_held words has_subcommand below ≡ []
    → NoneFails (walk_fault s names (walk_from nothing_held) words) below (settle_fault s.rules s.args_override_self (walk s.rules names nothing_held words).held)
    (check_fault s (rows_after s.rules names words) has_subcommand)
level_parts s names words has_subcommand below none =
    none_fails (walk_fault s names (walk_from nothing_held) words) below (settle_fault s.rules s.args_override_self (walk s.rules names nothing_held words).held)
    (defaults_fault (settled s.rules (walk s.rules names nothing_held words).held).rows s.rules) (check_fault s (rows_after s.rules names words) has_subcommand) none

-- the rows of a level that meets no fault are read, and its last checks pass
pub read-level : (s : Shape) (names : Names) (words : List Text) (has_subcommand : Bool) (below : Kinds) → AreOptions s.rules s.rules
    → level_fault s names nothing_held words has_subcommand below ≡ []
    → AreRead s.rules (rows_after s.rules names words) × (check_fault s (rows_after s.rules names words) has_subcommand ≡ [])
read-level s names words has_subcommand below all none =
    let end : Held = (walk s.rules names nothing_held words).held in
    let parts = level_parts s names words has_subcommand below none in
    let walked_rows : AreRead s.rules end.rows = read-walk s names (walk_from nothing_held) words all parts.walk tt in
    let settled_rows = read-settled s.rules s.args_override_self end all parts.settle walked_rows in
    (read-defaults s.rules s.rules (settled s.rules end).rows all settled_rows, parts.check)

-- a level that meets no fault has none below it, and its last checks pass
pub below_none : (s : Shape) (names : Names) (words : List Text) (has_subcommand : Bool) (below : Kinds) → level_fault s names nothing_held words has_subcommand below ≡ []
    → (below ≡ []) × (check_fault s (rows_after s.rules names words) has_subcommand ≡ [])
below_none s names words has_subcommand below none =
    let parts = level_parts s names words has_subcommand below none in
    (parts.below, parts.check)

-- a level that has the subcommand `help`, and meets no fault, does not stop at it
pub stop-no_help : (s : Shape) (names : Names) (words : List Text) (has_subcommand : Bool) (below : Kinds) → s.disable_help_subcommand ≡ false
    → level_fault s names nothing_held words has_subcommand below ≡ []
    → IsNoHelp (stop_after s.rules names words)
stop-no_help s names words has_subcommand below on none =
    no_help-walk s names (walk_from nothing_held) words on (level_parts s names words has_subcommand below none).walk tt

-- the text of a row, which passed the parser of its option
text_of : (c : List Rule) (id : Text) (a : Rule) (rows : List Row) (r : Row) → arg_by_id c id ≡ Some a → find (λ r. bytes_eq r.id id) rows ≡ Some r
    → IsRead c r × (bytes_eq r.id id ≡ true)
    → (text : Text) × (one_of id rows ≡ Some (read_as (reading_by a) text)) × (first_of id rows ≡ Some text) × (value_passes a text ≡ true)
text_of c id a rows r is_a found is =
    let same : r.id ≡ id = (bytes_eq-Decides r.id id).0 is.1 in
    let rule_is : is.0.rule ≡ a = found_one is.0.rule a (sym is.0.by_id ∙ (ap (arg_by_id c) same ∙ is_a)) in
    let how : r.reading ≡ reading_by a = is.0.reading ∙ ap reading_by rule_is in
    let first : slice_get r.values 0 ≡ Some is.0.first = ap (λ vs. slice_get vs 0) is.0.values in
    let text : row_text r ≡ Some (read_as (reading_by a) is.0.first) =
    ap (option_map (read_as r.reading)) first ∙ ap (λ h. Some (read_as h is.0.first)) how in (
      is.0.first,
      ap (option_and_then row_text) found ∙ text,
      ap (option_and_then (λ r. slice_get r.values 0)) found ∙ first,
      subst (λ (x : Rule). value_passes x is.0.first ≡ true) rule_is is.0.passed,
    )

-- an argument that was given has a text that passed its parser
pub given_text : (c : List Rule) (id : Text) (a : Rule) (rows : List Row) → arg_by_id c id ≡ Some a → AreRead c rows → is_given id rows ≡ true
    → (text : Text) × (one_of id rows ≡ Some (read_as (reading_by a) text)) × (first_of id rows ≡ Some text) × (value_passes a text ≡ true)
given_text c id a rows is_a read given = go (find (λ r. bytes_eq r.id id) rows) refl given
  where
    go : (o : Option Row) → find (λ r. bytes_eq r.id id) rows ≡ o → option_map_or (λ r. explicit_source r.source) o false ≡ true
        → (text : Text) × (one_of id rows ≡ Some (read_as (reading_by a) text)) × (first_of id rows ≡ Some text) × (value_passes a text ≡ true)
    go None found given = cc
    go (Some r) found given = text_of c id a rows r is_a found (find_row c (λ r. bytes_eq r.id id) rows r read found)

-- and so has one that may be left out, if it was given
pub optional_text : (c : List Rule) (id : Text) (a : Rule) (rows : List Row) → arg_by_id c id ≡ Some a → AreRead c rows
    → IfSome (one_of id rows) (λ t. (text : Text) × (t ≡ read_as (reading_by a) text) × (value_passes a text ≡ true))
optional_text c id a rows is_a read = go (find (λ r. bytes_eq r.id id) rows) refl
  where
    go : (o : Option Row) → find (λ r. bytes_eq r.id id) rows ≡ o
        → IfSome (one_of id rows) (λ t. (text : Text) × (t ≡ read_as (reading_by a) text) × (value_passes a text ≡ true))
    go None found = subst (λ (o : Option Text). IfSome o (λ t. (text : Text) × (t ≡ read_as (reading_by a) text) × (value_passes a text ≡ true))) (sym (ap (option_and_then row_text) found)) tt
    go (Some r) found =
        let text = text_of c id a rows r is_a found (find_row c (λ r. bytes_eq r.id id) rows r read found) in
        subst (λ (o : Option Text). IfSome o (λ t. (text : Text) × (t ≡ read_as (reading_by a) text) × (value_passes a text ≡ true))) (sym text.1) (text.0, refl, text.3)
