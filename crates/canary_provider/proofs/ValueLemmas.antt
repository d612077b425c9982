-- The values of a list, one after another.
use Rattle.std.proofs.Common.{◌≡◌, ℕ, List, [], ◌∷◌, ◌++◌, Option, Some, refl, sym, append_assoc, subst}
use Rattle.std.proofs.lemmas.List.{append-nil}
use Rattle.json.specs.Json.{Json, Items, no_items, item}
use Rattle.canary_measure.specs.declared.measured.Given.{Given}
use Rattle.canary_measure.specs.declared.measured.Measured.TheVariants.{One, Several}
use Rattle.canary_provider.specs.declared.failure.ReplyFault.{ReplyFault}
use Rattle.canary_provider.specs.declared.values.Kind.{Kind}
use Rattle.canary_provider.specs.Answers.{IsRead, IsReadIn, IsScalar, IsValue, AreValues, Refutes}
use Rattle.canary_provider.specs.Plans.{IsHeader, AreHeaders}

-- whatever completes what is left completes the whole
pub one_more : (kind : Kind) (j : Json) (js all : Items) (before : List Given) (given : Given) → IsValue kind j given
    → ((rest : List Given) → AreValues kind (item j js) rest → AreValues kind all (before ++ rest))
    → (rest : List Given) → AreValues kind js rest → AreValues kind all ((before ++ given ∷ []) ++ rest)
one_more kind j js all before given is so_far rest are =
    subst (AreValues kind all) (sym (append_assoc before (given ∷ []) rest)) (so_far (given ∷ rest) (is, are))

-- of a list that has values the rest has values
pub first_has : (kind : Kind) (j : Json) (js : Items) (all : List Given) → AreValues kind (item j js) all
    → (given : Given) × IsValue kind j given × (rest : List Given) × AreValues kind js rest
first_has kind j js [] are = absurd are
first_has kind j js (given ∷ rest) are = (given, are.0, rest, are.1)

-- the same of fields
pub one_header : (j : Json) (js all : Items) (before : List (List ℕ)) (line : List ℕ) → IsHeader j line
    → ((rest : List (List ℕ)) → AreHeaders (item j js) rest → AreHeaders all (before ++ rest))
    → (rest : List (List ℕ)) → AreHeaders js rest → AreHeaders all ((before ++ line ∷ []) ++ rest)
one_header j js all before line is so_far rest are =
    subst (AreHeaders all) (sym (append_assoc before (line ∷ []) rest)) (so_far (line ∷ rest) (is, are))

-- if an item has no value, the list has none
pub refuted : (kind : Kind) (j : Json) (js all : Items) (fault : ReplyFault)
    → ((values : List Given) → AreValues kind all values → (rest : List Given) × AreValues kind (item j js) rest)
    → Refutes (IsValue kind j) fault → Refutes (AreValues kind all) fault
refuted kind j js all fault left none fine values are =
    let rest = left values are in
    let first = first_has kind j js rest.0 rest.1 in none fine first.0 first.1

-- nothing is left
pub all_are : (kind : Kind) (js all : Items) (values : List Given) → js ≡ no_items
    → ((rest : List Given) → AreValues kind js rest → AreValues kind all (values ++ rest)) → AreValues kind all values
all_are kind js all values none so_far =
    subst (AreValues kind all) (append-nil values) (so_far [] (subst (λ left. AreValues kind left []) (sym none) refl))

pub all_headers : (js all : Items) (lines : List (List ℕ)) → js ≡ no_items
    → ((rest : List (List ℕ)) → AreHeaders js rest → AreHeaders all (lines ++ rest)) → AreHeaders all lines
all_headers js all lines none so_far =
    subst (AreHeaders all) (append-nil lines) (so_far [] (subst (λ left. AreHeaders left []) (sym none) refl))

-- a text that says nothing is no scalar
pub no_scalar : (text : List ℕ) (found : Option (List ℕ)) (fault : ReplyFault) → Some text ≡ found
    → Refutes (IsRead text) fault → Refutes (IsScalar found) fault
no_scalar text found fault is none fine (One given) says = none fine given (subst (λ t. IsReadIn t given) (sym is) says)
no_scalar text found fault is none fine (Several values) says = absurd says
