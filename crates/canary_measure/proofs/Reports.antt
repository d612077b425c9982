-- Results that are reported, and that there is none.
use Rattle.std.proofs.Common.{◌≡◌, ℕ, ◌<◌, ◌≤◌, List, [], ◌∷◌, length, take, map, Result, Ok, Err, sym, ap, ◌∙◌, subst, inl, inr, arith}
use Rattle.std.proofs.lemmas.List.{take-map, length-map}
use Rattle.canary_condition.specs.declared.outcome.Value.{Value}
use Rattle.canary_condition.specs.declared.outcome.Value.TheVariants.{Whole, List as ListResult}
use Rattle.canary_condition.specs.Results.{IsResult}
use Rattle.canary_decimal.specs.declared.shown.Beside.{Beside}
use Rattle.canary_decimal.specs.declared.shown.Units.{Units}
use Rattle.canary_decimal.specs.Endings.{IsLabelOf}
use Rattle.canary_argo.specs.declared.form.Form.{Form}
use Rattle.canary_argo.specs.declared.form.Shape.{Shape}
use Rattle.canary_argo.specs.declared.form.Shape.TheVariants.{Several as SeveralShape, Length as LengthShape}
use Rattle.canary_argo.specs.Labels.{units_of}
use Rattle.canary_argo.specs.Meaning.{Given as GivenTo, Measured as MeasuredFor}
use Rattle.canary_argo.specs.Meaning.Measured.{Several as SeveralValues}
use Rattle.canary_argo.specs.Reporting.{IsReported, IsReportedAs}
use Rattle.canary_measure.specs.declared.measured.Given.{Given}
use Rattle.canary_measure.specs.declared.why.NotReported.{NotReported}
use Rattle.canary_measure.specs.Labelled.{IsLabelIn, OneForm}
use Rattle.canary_measure.specs.Measures.{seen, IsListOf, IsListAfter, IsAnswer}
use Rattle.canary_measure.specs.Results.{IsUnder, IsAsItStands}
use Rattle.canary_measure.proofs.Forms.{label_of}
use Rattle.canary_measure.proofs.Lists.{all_len}

-- an answer to one question is one to another, if both take the same results
carried : (r : Result Value NotReported) (P Q : Value → Type 0) → ((v : Value) → P v → Q v) → ((v : Value) → Q v → P v) → IsAnswer r P → IsAnswer r Q
carried (Ok v) P Q to back h = to v h
carried (Err e) P Q to back h = λ v is q. h v is (back v q)

-- ---- a list

list_to : (b : Beside) (n most : ℕ) (gs : List GivenTo) (v : Value) → IsListOf b n (take most gs) v → IsReportedAs b n (SeveralShape most) (SeveralValues gs) v
list_to b n most gs (Whole z) h = h
list_to b n most gs (ListResult zs) h = h

list_back : (b : Beside) (n most : ℕ) (gs : List GivenTo) (v : Value) → IsReportedAs b n (SeveralShape most) (SeveralValues gs) v → IsListOf b n (take most gs) v
list_back b n most gs (Whole z) h = h
list_back b n most gs (ListResult zs) h = h

pub several_values : (form : Form) (vs front : List Given) (most : ℕ) (r : Result Value NotReported) → form.shape ≡ SeveralShape most → front ≡ take most vs → IsAnswer r (IsListOf form.beside form.places (map seen front)) → IsAnswer r (IsReported form (SeveralValues (map seen vs)))
several_values form vs front most r e at h =
    let gs : List GivenTo = map seen vs in
    let same : map seen front ≡ take most gs = ap (map seen) at ∙ sym (take-map seen most vs) in
    let own = subst (λ (xs : List GivenTo). IsAnswer r (IsListOf form.beside form.places xs)) same h in
    subst (λ (s : Shape). IsAnswer r (IsReportedAs form.beside form.places s (SeveralValues gs))) (sym e)
    (carried r (IsListOf form.beside form.places (take most gs)) (IsReportedAs form.beside form.places (SeveralShape most) (SeveralValues gs)) (list_to form.beside form.places most gs) (list_back form.beside form.places most gs) own)

length_to : (b : Beside) (n most : ℕ) (gs : List GivenTo) (v : Value) → IsListAfter b n (length gs) (take most gs) v → IsReportedAs b n (LengthShape most) (SeveralValues gs) v
length_to b n most gs (Whole z) h = h
length_to b n most gs (ListResult []) h = h
length_to b n most gs (ListResult (z ∷ zs)) h = h

length_back : (b : Beside) (n most : ℕ) (gs : List GivenTo) (v : Value) → IsReportedAs b n (LengthShape most) (SeveralValues gs) v → IsListAfter b n (length gs) (take most gs) v
length_back b n most gs (Whole z) h = h
length_back b n most gs (ListResult []) h = h
length_back b n most gs (ListResult (z ∷ zs)) h = h

pub length_values : (b : Beside) (n : ℕ) (vs front : List Given) (most len : ℕ) (r : Result Value NotReported) → front ≡ take most vs → len ≡ length vs → IsAnswer r (IsListAfter b n len (map seen front)) → IsAnswer r (IsReportedAs b n (LengthShape most) (SeveralValues (map seen vs)))
length_values b n vs front most len r at is h =
    let gs : List GivenTo = map seen vs in
    let same : map seen front ≡ take most gs = ap (map seen) at ∙ sym (take-map seen most vs) in
    let count : len ≡ length gs = is ∙ sym (length-map vs seen) in
    let own = subst (λ (xs : List GivenTo). IsAnswer r (IsListAfter b n len xs)) same h in
    let ours = subst (λ (k : ℕ). IsAnswer r (IsListAfter b n k (take most gs))) count own in
    carried r (IsListAfter b n (length gs) (take most gs)) (IsReportedAs b n (LengthShape most) (SeveralValues gs)) (length_to b n most gs) (length_back b n most gs) ours

-- ---- more values than a result has

pub too_many : (b : Beside) (n : ℕ) (vs : List Given) → 16 < length vs → (v : Value) → IsResult v → IsListOf b n (map seen vs) v → ⊥
too_many b n vs more (Whole z) is h = h
too_many b n vs more (ListResult zs) (some, few, fit) h =
    let same : length vs ≡ length zs = sym (length-map vs seen) ∙ all_len b n (map seen vs) zs h in
    absurd (omega arith)

pub too_many_after : (b : Beside) (n len : ℕ) (vs : List Given) → 16 ≤ length vs → (v : Value) → IsResult v → IsListAfter b n len (map seen vs) v → ⊥
too_many_after b n len vs more (Whole z) is h = h
too_many_after b n len vs more (ListResult []) is h = h
too_many_after b n len vs more (ListResult (z ∷ zs)) (some, few, fit) (count, h) =
    let same : length vs ≡ length zs = sym (length-map vs seen) ∙ all_len b n (map seen vs) zs h in
    absurd (omega arith)

-- ---- by the label

pub in_form : OneForm → (label name : List ℕ) (form : Form) (m : MeasuredFor) (r : Result Value NotReported) → IsLabelIn label name form → IsAnswer r (IsReported form m) → IsAnswer r (IsUnder label m)
in_form one label name form m (Ok v) l h = inl (name, form, l, h)
in_form one label name form m (Err e) l h = λ v is u. only v is u
  where
    only : (v : Value) → IsResult v → IsUnder label m v → ⊥
    only v is (inl (other, its, k, reported)) = h v is (subst (λ (f : Form). IsReported f m v) (one label other name its form k l).1 reported)
    only v is (inr (none, whole)) = none name (units_of form) (label_of label name form l)

pub some_ending : (label name : List ℕ) (u : Units) (m : MeasuredFor) → IsLabelOf label name u → (v : Value) → IsResult v → IsAsItStands label m v → ⊥
some_ending label name u m l v is (none, whole) = none name u l
