-- A text that is turned away has no condition.
use Rattle.std.proofs.Common.{◌≡◌, ℕ, ◌≤◌, ◌<◌, List, length, refl, subst, sym, ◌∙◌, arith, inl, inr}
use Rattle.std.specs.Prelude.{Option, Some, None}
use Rattle.canary_condition.specs.declared.condition.ConditionFault.{ConditionFault}
use Rattle.canary_condition.specs.declared.condition.ConditionFault.TheVariants.{Syntax, TooDeep, NumberRange, Memory, TooLong}
use Rattle.canary_condition.specs.declared.token.Token.{Token}
use Rattle.canary_condition.specs.Spelling.{depth}
use Rattle.canary_condition.specs.Trees.{Tree}
use Rattle.canary_condition.specs.Reading.{IsConditionOf, IsFaultOfTokens, HasTokens, IsConditionText, IsFaultOf}
use Rattle.canary_plan.specs.Conditions.{condition_of, ReadsWhatIsSpelled}

same_tokens : (ts us : List Token) → ◌≡◌ {A = Option (List Token)} (Some ts) (Some us) → ts ≡ us
same_tokens ts us e = cc e

not_made_of_tokens : (ts : List Token) → ◌≡◌ {A = Option (List Token)} None (Some ts) → ⊥
not_made_of_tokens ts e = cc e

-- tokens with a fault spell nothing within the limits
no_tree_of_tokens : (ts : List Token) (tree : Tree) (fault : ConditionFault) → IsFaultOfTokens ts fault → (fault ≡ Memory → ⊥) → IsConditionOf ts tree → ⊥
no_tree_of_tokens ts tree NumberRange h m c = c.0.0 h
no_tree_of_tokens ts tree TooDeep h m c = let a : depth ts ≤ 32 = c.0.1 in let b : 32 < depth ts = h.1 in omega (arith, a, b)
no_tree_of_tokens ts tree Syntax h m c = h.1 tree c.1
no_tree_of_tokens ts tree Memory h m c = m refl
no_tree_of_tokens ts tree TooLong h m c = h

no_tree_of_text : (text : List ℕ) (tree : Tree) (fault : ConditionFault) → HasTokens text (λ ts. IsFaultOfTokens ts fault) → (fault ≡ Memory → ⊥) → IsConditionText text tree → ⊥
no_tree_of_text text tree fault h m c =
    no_tree_of_tokens c.1 tree fault (subst (λ ts. IsFaultOfTokens ts fault) (same_tokens h.1 c.1 (sym h.2 ∙ c.2)) h.3) m c.3

no_tree : (text : List ℕ) (tree : Tree) (fault : ConditionFault) → IsFaultOf text fault → (fault ≡ Memory → ⊥) → IsConditionText text tree → ⊥
no_tree text tree TooLong h m c = let a : length text ≤ 1024 = c.0 in omega (arith, a, h)
no_tree text tree Syntax (inl h) m c = not_made_of_tokens c.1 (sym h.1 ∙ c.2)
no_tree text tree Syntax (inr h) m c = no_tree_of_text text tree Syntax h m c
no_tree text tree NumberRange h m c = no_tree_of_text text tree NumberRange h m c
no_tree text tree TooDeep h m c = no_tree_of_text text tree TooDeep h m c
no_tree text tree Memory h m c = m refl

found : (text : List ℕ) (fault : ConditionFault) (o : Option Tree) → condition_of text ≡ o → ReadsWhatIsSpelled → IsFaultOf text fault → (fault ≡ Memory → ⊥) → condition_of text ≡ None
found text fault None e law h m = e
found text fault (Some tree) e law h m = absurd (no_tree text tree fault h m ((law text tree).1 e))

pub unreadable : (text : List ℕ) (fault : ConditionFault) → ReadsWhatIsSpelled → IsFaultOf text fault → (fault ≡ Memory → ⊥) → condition_of text ≡ None
unreadable text fault law h m = found text fault (condition_of text) refl law h m
