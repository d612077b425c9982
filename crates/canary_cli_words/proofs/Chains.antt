-- A command whose arguments are none of them global, and results.
use Rattle.std.proofs.Common.{◌≡◌, ◌∙◌, ◌+◌, ◌<◌, ◌&&◌, ℕ, Bool, true, false, not, List, [], ◌∷◌, drop, get_or, length, Result, Ok, Err, IfOk, ap, refl, subst, sym}
use Rattle.std.proofs.lemmas.List.{at_drop_more}
use Rattle.clap.specs.Words.{App, with_rule, with_subcommand}
use Rattle.canary_cli_words.specs.declared.commands.ArgumentSpec.{ArgumentSpec}
use Rattle.canary_cli_words.specs.declared.commands.CommandSpec.{CommandSpec}
use Rattle.canary_cli_words.specs.CommandLine.{command_for, rule_for, with_commands, with_parts}

-- a plain command has no global argument
pub none_global : (groups external global rest : Bool) → (groups && (not external && (not global && rest))) ≡ true → global ≡ false
none_global groups external false rest plain = refl
none_global true true true rest plain = cc
none_global true false true rest plain = cc
none_global false external true rest plain = cc

pub ok_then : {X E : Type 0} (r : Result X E) (P Q : X → Type 0) → ((x : X) → P x → Q x) → IfOk r P → IfOk r Q
ok_then (Ok x) P Q then is = then x is
ok_then (Err e) P Q then is = is

-- what holds of the value of a result that has one
pub when_ok : {X E : Type 0} (r : Result X E) (x : X) (P : X → Type 0) → r ≡ Ok x → IfOk r P → P x
when_ok r x P is holds = subst (λ q. IfOk q P) is holds

-- parts leave a command as plain as it is
pub parts_plain : (a : App) (ps : List ArgumentSpec) → (with_parts a ps).top.is_plain ≡ a.top.is_plain
parts_plain a [] = refl
parts_plain a (p ∷ ps) = parts_plain (with_rule a (rule_for p)) ps

-- one more command, and those that are left
pub one_command : (now next : App) (specs : List CommandSpec) (i : ℕ) (other : CommandSpec) → i < length specs → next ≡ with_subcommand now (command_for (get_or specs i other)).top
    → with_commands next (drop (i + 1) specs) ≡ with_commands now (drop i specs)
one_command now next specs i other lt made =
    ap (λ a. with_commands a (drop (i + 1) specs)) made ∙ sym (at_drop_more (with_commands now) specs i other lt)

-- one more part, and those that are left
pub one_part : (now next : App) (parts : List ArgumentSpec) (i : ℕ) (other : ArgumentSpec) → i < length parts → next ≡ with_rule now (rule_for (get_or parts i other))
    → with_parts next (drop (i + 1) parts) ≡ with_parts now (drop i parts)
one_part now next parts i other lt made =
    ap (λ a. with_parts a (drop (i + 1) parts)) made ∙ sym (at_drop_more (with_parts now) parts i other lt)
