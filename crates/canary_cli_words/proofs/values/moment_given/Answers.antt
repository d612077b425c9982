use Rattle.std.proofs.Common.{◌≡◌, ◌∙◌, ◌≤◌, ℕ, Option, Some, ap, refl, subst, sym}
use Rattle.std.specs.Prelude.{IsSome, unwrap_or}
use Rattle.std.specs.Str.Parse.{ExplainsUnsignedError, HasUnsignedDigitsIfOk, ParsesUnsigned}
use Rattle.clap.specs.Words.{found_of}
use Rattle.canary_cli_words.proofs.Getting.{moment_made, moment_read}
use Rattle.canary_cli_words.proofs.values.moment_given.Goals as goal

pub unwrap-seconds-requires : goal.unwrap-seconds-requires
unwrap-seconds-requires c =
    let read = moment_read _ (λ bs r. ParsesUnsigned 64 10 bs r × ExplainsUnsignedError 10 bs r × HasUnsignedDigitsIfOk bs r) (found_of c.args.matches.now) c.args.name.now c.get_one.result c.requires c.get_one.ensures.value (λ t x g. g.0) in
    subst IsSome (sym read.1) refl

same_number : (n m : ℕ) (r : Option ℕ) → r ≡ Some n → r ≡ Some m → n ≡ m
same_number n m r a b = ap (λ o. unwrap_or o n) (sym a ∙ b)

pub unwrap-requires : goal.unwrap-requires
unwrap-requires c =
    let read = moment_read _ (λ bs r. ParsesUnsigned 64 10 bs r × ExplainsUnsignedError 10 bs r × HasUnsignedDigitsIfOk bs r) (found_of c.args.matches.now) c.args.name.now c.get_one.result c.requires c.get_one.ensures.value (λ t x g. g.0) in
    let same = same_number _ _ c.get_one.result read.1 c.unwrap-seconds.ensures in
    let small : c.unwrap-seconds.result ≤ 253370764799 = subst (λ n. n ≤ 253370764799) same read.3 in
    subst IsSome (sym (moment_made c.unwrap-seconds.result c.new.result c.new.ensures small)) refl

pub returns : goal.returns
returns c =
    let read = moment_read _ (λ bs r. ParsesUnsigned 64 10 bs r × ExplainsUnsignedError 10 bs r × HasUnsignedDigitsIfOk bs r) (found_of c.args.matches.now) c.args.name.now c.get_one.result c.requires c.get_one.ensures.value (λ t x g. g.0) in
    let same = same_number _ _ c.get_one.result read.1 c.unwrap-seconds.ensures in
    let small : c.unwrap-seconds.result ≤ 253370764799 = subst (λ n. n ≤ 253370764799) same read.3 in
    let made = same_number _ _ c.new.result (moment_made c.unwrap-seconds.result c.new.result c.new.ensures small) c.unwrap.ensures in
    read.2 ∙ ap (λ n. Some n) (same ∙ made)
